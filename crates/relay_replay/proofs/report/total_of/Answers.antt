use Rattle.std.proofs.Common.{◌≤◌, ◌+◌, ◌*◌, List, arith, length, subst}
use Rattle.relay_config.specs.Sum.{total_of}
use Rattle.stream_registry.specs.Books.{SoleState}
use Rattle.stream_registry.specs.Names.{slots_sum}
use Rattle.relay_replay.specs.Cast.{RecState}
use Rattle.relay_replay.specs.declared.guest.Guest.{Guest}
use Rattle.relay_replay.specs.Prints.{AllHold, GuestHolds, RecHolds}
use Rattle.relay_replay.proofs.Totals.{if_within, total_within}
use Rattle.relay_replay.proofs.report.total_of.Goals as goal

pub returns-clause-within : goal.returns-clause-within
returns-clause-within c = λ l k. (
    let cast = c.args.cast.now in
    let names = slots_sum cast.port.rules.opens in
    let sessions = c.in_ok-sessions.sessions in
    let recorders = c.in_ok-recorders.recorders in
    let streamed = c.in_ok-streamed.streamed in
    let opened = c.in_ok-opened.opened in
    let most = total_within l c.args.streams cast sessions recorders streamed opened c.requires.streams k
    (subst (λ (xs : List Guest). AllHold GuestHolds xs sessions) c.sessions.ensures c.in_ok-sessions.ensures)
    (subst (λ (xs : List RecState). AllHold RecHolds xs recorders) c.recorders.ensures c.in_ok-recorders.ensures)
    (subst (λ (p : SoleState). streamed ≤ c.args.streams * (p.rules.limits.bytes + 196608)) c.port.ensures c.in_ok-streamed.ensures.most)
    (subst (λ (p : SoleState). opened ≤ slots_sum p.rules.opens * (p.rules.limits.bytes + 196672)) c.port-2.ensures c.in_ok-opened.ensures.most) in
    if_within c.more-3.result (c.in_ok-more.field-0 + c.in_ok-more-2.field-0)
    (total_of l c.args.streams names (length cast.sessions) (length cast.recorders)) c.more-3.ensures
    (omega (arith, most, c.in_ok-more.ensures, c.in_ok-more-2.ensures)))
