use Rattle.std.proofs.Common.{rules, ◌≡◌, inl, inr, refl, Some}
use Rattle.relay_session.specs.SeatState.{SeatState, known, place_of}
use Rattle.relay_session.proofs.SeatStanding.{go_on_same, go_on_trans, enter_knows}
use Rattle.relay_session.proofs.SeatGrowing.{none_same, none_then}
use Rattle.relay_session.proofs.seat.Seat.enter.Goals as goal

pub returns-clause-roots : goal.returns-clause-roots
returns-clause-roots g c =
    let P = g.P.StreamPort in
    go_on_trans (P.root c.args.port.now) (P.root c.rise.new.port) (P.root c.attach.new.self) c.rise.ensures.roots (go_on_same (P.root c.rise.new.port) (P.root c.attach.new.self) c.attach.ensures.root)

pub returns-clause-knows : goal.returns-clause-knows
returns-clause-knows g c =
    let P = g.P.StreamPort in
    let new : SeatState g.row.P-Pass.Denot = record { spot = Some (c.args.place, c.attach.result); active = c.self.inside.active; visits = c.self.inside.visits } in
    go_on_trans (known P.root P.seen c.args.port.now c.args.self.now) (known P.root P.seen c.rise.new.port c.rise.new.self) (known P.root P.seen c.attach.new.self new) c.rise.ensures.knows
    (enter_knows P.seen (P.root c.rise.new.port) (P.root c.attach.new.self) c.rise.new.self.spot c.args.place c.attach.result c.rise.ensures.spot c.attach.ensures.seen.0 c.attach.ensures.root)

pub returns-clause-adds : goal.returns-clause-adds
returns-clause-adds g c =
    let P = g.P.StreamPort in
    let M = g.met.P.StreamPort in
    none_then P.adds M.adds_none M.adds_both (P.root c.args.port.now) (P.root c.rise.new.port) (P.root c.attach.new.self) c.rise.ensures.adds
    (none_same P.adds M.adds_none M.adds_both (P.root c.rise.new.port) (P.root c.attach.new.self) c.attach.ensures.root)

pub returns-clause-comes : goal.returns-clause-comes
returns-clause-comes g c =
    let P = g.P.StreamPort in
    inr (record { between = P.kin c.rise.new.port; gives = c.rise.ensures.gives; split = c.attach.ensures.split.0; pass_is = c.attach.ensures.split.1 })

pub returns-then-eq-clause-adds : goal.returns-then-eq-clause-adds
returns-then-eq-clause-adds g c =
    let P = g.P.StreamPort in
    let M = g.met.P.StreamPort in
    none_same P.adds M.adds_none M.adds_both (P.root c.args.port.now) (P.root c.args.port.now) (λ q. refl)

pub returns-then-eq-clause-comes : goal.returns-then-eq-clause-comes
returns-then-eq-clause-comes g c =
    let at : place_of c.args.self.now.spot ≡ Some c.args.place = search rules in
    inl (at, (refl, refl))
