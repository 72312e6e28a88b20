use Rattle.std.proofs.Common.{◌≡◌, ◌<◌, ◌+◌, ℕ, length, take, get_or, sym, subst, rules}
use Rattle.relay_replay.specs.Prints.{AllHold, RecHolds}
use Rattle.relay_replay.proofs.Totals.{more}
use Rattle.relay_replay.proofs.report.recorders_hold.Goals as goal

pub loop-i-preserved : goal.loop-i-preserved
loop-i-preserved c =
    let there : c.loop-i.i < length c.args.recorders.now = search rules in
    let read : c.index-recorders-i.result ≡ get_or c.args.recorders.now c.loop-i.i c.index-recorders-i.result = search rules in
    let sum : c.in_ok-total.total ≡ c.loop-i.total + c.held.result = search rules in
    record {
      hold = subst (λ (n : ℕ). AllHold RecHolds (take (c.loop-i.i + 1) c.args.recorders.now) n) (sym sum)
          (more RecHolds c.args.recorders.now c.loop-i.i c.index-recorders-i.result c.loop-i.total c.held.result there read c.loop-i.invariant.hold
          c.held.ensures);
    }
