use Rattle.std.proofs.Common.{rules, ◌≡◌, Some, Err, refl, subst}
use Rattle.stream_registry.specs.declared.port.PortFail.{PortFail}
use Rattle.stream_registry.specs.Splits.{CallSplits}
use Rattle.relay_session.specs.Alone.{branches_at}
use Rattle.relay_session.specs.SeatState.{SeatState, known}
use Rattle.relay_session.proofs.SeatStanding.{ask_noted, ask_knows, stands_more, stands_same, fit_at, one_goes_on}
use Rattle.relay_session.proofs.SeatGrowing.{grows_called}
use Rattle.relay_session.proofs.SeatSplitting.{ask_splits}
use Rattle.relay_session.proofs.seat.Seat.ask.Goals as goal

pub returns-in-Ok-clause-noted : goal.returns-in-Ok-clause-noted
returns-in-Ok-clause-noted g c =
    let P = g.P.StreamPort in
    let spot : c.args.self.now.spot ≡ Some (c.in-Some.field-0-0, c.in-Some.pass) = search rules in
    let e = c.in-Ok.ensures in
    ask_noted P.seen (P.root c.args.port.now) (P.root c.call.new.self) c.args.self.now.spot c.in-Some.field-0-0 c.args.place c.in-Some.pass c.call.new.pass ((P.rules c.args.port.now).limits c.args.place) (P.limits c.in-Some.pass) (P.limits c.call.new.pass)
    (P.mine c.in-Some.pass) (P.mine c.call.new.pass) (c.args.entry, c.in-Ok.reply) spot c.requires.spot
    (g.met.P.StreamPort.ruled c.args.port.now c.args.place c.in-Some.pass (fit_at (P.fits c.args.port.now) c.args.self.now.spot c.in-Some.field-0-0 c.args.place c.in-Some.pass spot c.requires.spot c.requires.fit))
    e.pass.1 e.reply e.laws

pub returns-in-Ok-clause-knows : goal.returns-in-Ok-clause-knows
returns-in-Ok-clause-knows g c =
    let P = g.P.StreamPort in
    let spot : c.args.self.now.spot ≡ Some (c.in-Some.field-0-0, c.in-Some.pass) = search rules in
    let e = c.in-Ok.ensures in
    ask_knows P.seen (P.root c.args.port.now) (P.root c.call.new.self) c.args.self.now.spot c.in-Some.field-0-0 c.args.place c.in-Some.pass c.call.new.pass spot c.requires.spot e.pass.2 e.others

pub returns-in-Ok-clause-stands : goal.returns-in-Ok-clause-stands
returns-in-Ok-clause-stands g c =
    let P = g.P.StreamPort in
    let spot : c.args.self.now.spot ≡ Some (c.in-Some.field-0-0, c.in-Some.pass) = search rules in
    let e = c.in-Ok.ensures in
    let new : SeatState g.row.P-Pass.Denot = (record { spot = Some (c.in-Some.field-0-0, c.call.new.pass); active = c.active_by-self-inside.result; visits = c.add-in-Ok.new.self }) in
    λ st. stands_more (P.rules c.args.port.now) (P.rules c.call.new.self) (known P.root P.seen c.args.port.now c.args.self.now) (known P.root P.seen c.call.new.self new) c.args.self.now new c.in-Some.field-0-0 c.args.place c.in-Some.pass c.call.new.pass (P.root c.args.port.now c.args.place) c.args.entry c.in-Ok.reply
    e.fixed spot c.requires.spot (ask_knows P.seen (P.root c.args.port.now) (P.root c.call.new.self) c.args.self.now.spot c.in-Some.field-0-0 c.args.place c.in-Some.pass c.call.new.pass spot c.requires.spot e.pass.2 e.others)
    (ask_noted P.seen (P.root c.args.port.now) (P.root c.call.new.self) c.args.self.now.spot c.in-Some.field-0-0 c.args.place c.in-Some.pass c.call.new.pass ((P.rules c.args.port.now).limits c.args.place) (P.limits c.in-Some.pass) (P.limits c.call.new.pass)
    (P.mine c.in-Some.pass) (P.mine c.call.new.pass) (c.args.entry, c.in-Ok.reply) spot c.requires.spot
    (g.met.P.StreamPort.ruled c.args.port.now c.args.place c.in-Some.pass (fit_at (P.fits c.args.port.now) c.args.self.now.spot c.in-Some.field-0-0 c.args.place c.in-Some.pass spot c.requires.spot c.requires.fit))
    e.pass.1 e.reply e.laws)
    refl (search rules) (search rules) st

pub returns-in-Ok-clause-roots : goal.returns-in-Ok-clause-roots
returns-in-Ok-clause-roots g c =
    let P = g.P.StreamPort in
    one_goes_on (P.root c.args.port.now) (P.root c.call.new.self) c.args.place c.in-Ok.ensures.here c.in-Ok.ensures.others

pub returns-in-Err-Busy-clause-knows : goal.returns-in-Err-Busy-clause-knows
returns-in-Err-Busy-clause-knows g c =
    let P = g.P.StreamPort in
    let spot : c.args.self.now.spot ≡ Some (c.in-Some.field-0-0, c.in-Some.pass) = search rules in
    let e = c.in-Err-Busy.ensures in
    ask_knows P.seen (P.root c.args.port.now) (P.root c.call.new.self) c.args.self.now.spot c.in-Some.field-0-0 c.args.place c.in-Some.pass c.call.new.pass spot c.requires.spot e.pass.2 e.others

pub returns-in-Err-Busy-clause-stands : goal.returns-in-Err-Busy-clause-stands
returns-in-Err-Busy-clause-stands g c =
    let P = g.P.StreamPort in
    let spot : c.args.self.now.spot ≡ Some (c.in-Some.field-0-0, c.in-Some.pass) = search rules in
    let e = c.in-Err-Busy.ensures in
    let new : SeatState g.row.P-Pass.Denot = (record { spot = Some (c.in-Some.field-0-0, c.call.new.pass); active = c.self.inside.active; visits = c.self.inside.visits }) in
    λ st. stands_same (P.rules c.args.port.now) (P.rules c.call.new.self) (known P.root P.seen c.args.port.now c.args.self.now) (known P.root P.seen c.call.new.self new) c.args.self.now new c.in-Some.field-0-0 c.in-Some.pass c.call.new.pass
    e.fixed spot (ask_knows P.seen (P.root c.args.port.now) (P.root c.call.new.self) c.args.self.now.spot c.in-Some.field-0-0 c.args.place c.in-Some.pass c.call.new.pass spot c.requires.spot e.pass.2 e.others) refl (search rules) (search rules) st

pub returns-in-Err-Worn-clause-knows : goal.returns-in-Err-Worn-clause-knows
returns-in-Err-Worn-clause-knows g c =
    let P = g.P.StreamPort in
    let spot : c.args.self.now.spot ≡ Some (c.in-Some.field-0-0, c.in-Some.pass) = search rules in
    let e = c.in-Err-Worn.ensures in
    ask_knows P.seen (P.root c.args.port.now) (P.root c.call.new.self) c.args.self.now.spot c.in-Some.field-0-0 c.args.place c.in-Some.pass c.call.new.pass spot c.requires.spot e.pass.2 e.others

pub returns-in-Err-Worn-clause-stands : goal.returns-in-Err-Worn-clause-stands
returns-in-Err-Worn-clause-stands g c =
    let P = g.P.StreamPort in
    let spot : c.args.self.now.spot ≡ Some (c.in-Some.field-0-0, c.in-Some.pass) = search rules in
    let e = c.in-Err-Worn.ensures in
    let new : SeatState g.row.P-Pass.Denot = (record { spot = Some (c.in-Some.field-0-0, c.call.new.pass); active = c.self.inside.active; visits = c.self.inside.visits }) in
    λ st. stands_same (P.rules c.args.port.now) (P.rules c.call.new.self) (known P.root P.seen c.args.port.now c.args.self.now) (known P.root P.seen c.call.new.self new) c.args.self.now new c.in-Some.field-0-0 c.in-Some.pass c.call.new.pass
    e.fixed spot (ask_knows P.seen (P.root c.args.port.now) (P.root c.call.new.self) c.args.self.now.spot c.in-Some.field-0-0 c.args.place c.in-Some.pass c.call.new.pass spot c.requires.spot e.pass.2 e.others) refl (search rules) (search rules) st

pub returns-clause-knows : goal.returns-clause-knows
returns-clause-knows g c =
    let P = g.P.StreamPort in
    let spot : c.args.self.now.spot ≡ Some (c.in-Some.field-0-0, c.in-Some.pass) = search rules in
    let e = c.in-Err-OutOfMemory.ensures in
    ask_knows P.seen (P.root c.args.port.now) (P.root c.call.new.self) c.args.self.now.spot c.in-Some.field-0-0 c.args.place c.in-Some.pass c.call.new.pass spot c.requires.spot e.pass.2 e.others

pub returns-clause-stands : goal.returns-clause-stands
returns-clause-stands g c =
    let P = g.P.StreamPort in
    let spot : c.args.self.now.spot ≡ Some (c.in-Some.field-0-0, c.in-Some.pass) = search rules in
    let e = c.in-Err-OutOfMemory.ensures in
    let new : SeatState g.row.P-Pass.Denot = (record { spot = Some (c.in-Some.field-0-0, c.call.new.pass); active = c.self.inside.active; visits = c.self.inside.visits }) in
    λ st. stands_same (P.rules c.args.port.now) (P.rules c.call.new.self) (known P.root P.seen c.args.port.now c.args.self.now) (known P.root P.seen c.call.new.self new) c.args.self.now new c.in-Some.field-0-0 c.in-Some.pass c.call.new.pass
    e.fixed spot (ask_knows P.seen (P.root c.args.port.now) (P.root c.call.new.self) c.args.self.now.spot c.in-Some.field-0-0 c.args.place c.in-Some.pass c.call.new.pass spot c.requires.spot e.pass.2 e.others) refl (search rules) (search rules) st

pub returns-in-Ok-clause-adds : goal.returns-in-Ok-clause-adds
returns-in-Ok-clause-adds g c =
    let P = g.P.StreamPort in
    let M = g.met.P.StreamPort in
    grows_called P.adds M.adds_none M.adds_both (P.root c.args.port.now) (P.root c.call.new.self) c.args.place _ c.in-Ok.ensures.adds c.in-Ok.ensures.others

pub returns-in-Ok-clause-splits : goal.returns-in-Ok-clause-splits
returns-in-Ok-clause-splits g c =
    let P = g.P.StreamPort in
    let spot : c.args.self.now.spot ≡ Some (c.in-Some.field-0-0, c.in-Some.pass) = search rules in
    ask_splits P.branches (P.kin c.args.port.now) (P.kin c.call.new.self) c.args.self.now.spot c.in-Some.field-0-0 c.args.place c.in-Some.pass _ (P.branches c.call.new.pass) spot c.in-Ok.ensures.split

pub returns-in-Err-Busy-clause-adds : goal.returns-in-Err-Busy-clause-adds
returns-in-Err-Busy-clause-adds g c =
    let P = g.P.StreamPort in
    let M = g.met.P.StreamPort in
    grows_called P.adds M.adds_none M.adds_both (P.root c.args.port.now) (P.root c.call.new.self) c.args.place _ c.in-Err-Busy.ensures.adds c.in-Err-Busy.ensures.others

pub returns-in-Err-Busy-clause-splits : goal.returns-in-Err-Busy-clause-splits
returns-in-Err-Busy-clause-splits g c =
    let P = g.P.StreamPort in
    let spot : c.args.self.now.spot ≡ Some (c.in-Some.field-0-0, c.in-Some.pass) = search rules in
    let k = subst (λ (x : PortFail). CallSplits (P.kin c.args.port.now) (branches_at P.branches c.args.self.now.spot) (Err x) (P.kin c.call.new.self) (P.branches c.call.new.pass) c.args.place) c.in-Err-Busy.field-0-is
    (ask_splits P.branches (P.kin c.args.port.now) (P.kin c.call.new.self) c.args.self.now.spot c.in-Some.field-0-0 c.args.place c.in-Some.pass (Err c.in-Err-Busy.field-0) (P.branches c.call.new.pass) spot c.in-Err-Busy.ensures.split) in
    record { here = k.here; others = k.others }

pub returns-in-Err-Worn-clause-adds : goal.returns-in-Err-Worn-clause-adds
returns-in-Err-Worn-clause-adds g c =
    let P = g.P.StreamPort in
    let M = g.met.P.StreamPort in
    grows_called P.adds M.adds_none M.adds_both (P.root c.args.port.now) (P.root c.call.new.self) c.args.place _ c.in-Err-Worn.ensures.adds c.in-Err-Worn.ensures.others

pub returns-in-Err-Worn-clause-splits : goal.returns-in-Err-Worn-clause-splits
returns-in-Err-Worn-clause-splits g c =
    let P = g.P.StreamPort in
    let spot : c.args.self.now.spot ≡ Some (c.in-Some.field-0-0, c.in-Some.pass) = search rules in
    let k = subst (λ (x : PortFail). CallSplits (P.kin c.args.port.now) (branches_at P.branches c.args.self.now.spot) (Err x) (P.kin c.call.new.self) (P.branches c.call.new.pass) c.args.place) c.in-Err-Worn.field-0-is
    (ask_splits P.branches (P.kin c.args.port.now) (P.kin c.call.new.self) c.args.self.now.spot c.in-Some.field-0-0 c.args.place c.in-Some.pass (Err c.in-Err-Worn.field-0) (P.branches c.call.new.pass) spot c.in-Err-Worn.ensures.split) in
    record { here = k.here; others = k.others }

pub returns-clause-adds : goal.returns-clause-adds
returns-clause-adds g c =
    let P = g.P.StreamPort in
    let M = g.met.P.StreamPort in
    grows_called P.adds M.adds_none M.adds_both (P.root c.args.port.now) (P.root c.call.new.self) c.args.place _ c.in-Err-OutOfMemory.ensures.adds c.in-Err-OutOfMemory.ensures.others

pub returns-clause-splits : goal.returns-clause-splits
returns-clause-splits g c =
    let P = g.P.StreamPort in
    let spot : c.args.self.now.spot ≡ Some (c.in-Some.field-0-0, c.in-Some.pass) = search rules in
    let k = subst (λ (x : PortFail). CallSplits (P.kin c.args.port.now) (branches_at P.branches c.args.self.now.spot) (Err x) (P.kin c.call.new.self) (P.branches c.call.new.pass) c.args.place) c.in-Err-OutOfMemory.field-0-is
    (ask_splits P.branches (P.kin c.args.port.now) (P.kin c.call.new.self) c.args.self.now.spot c.in-Some.field-0-0 c.args.place c.in-Some.pass (Err c.in-Err-OutOfMemory.field-0) (P.branches c.call.new.pass) spot c.in-Err-OutOfMemory.ensures.split) in
    record { here = k.here; others = k.others }
