use Rattle.std.proofs.Common.{◌≡◌, ◌<◌, ◌+◌, ℕ, length, take, get_or, sym, subst, rules}
use Rattle.relay_replay.specs.Prints.{AllHold, GuestHolds}
use Rattle.relay_replay.proofs.Totals.{more}
use Rattle.relay_replay.proofs.report.sessions_hold.Goals as goal

pub loop-i-preserved : goal.loop-i-preserved
loop-i-preserved c =
    let there : c.loop-i.i < length c.args.sessions.now = search rules in
    let read : c.index-sessions-i.result ≡ get_or c.args.sessions.now c.loop-i.i c.index-sessions-i.result = search rules in
    let sum : c.in_ok-total.total ≡ c.loop-i.total + c.held.result = search rules in
    record {
      hold = subst (λ (n : ℕ). AllHold GuestHolds (take (c.loop-i.i + 1) c.args.sessions.now) n) (sym sum)
          (more GuestHolds c.args.sessions.now c.loop-i.i c.index-sessions-i.result c.loop-i.total c.held.result there read c.loop-i.invariant.hold
          c.held.ensures);
    }
