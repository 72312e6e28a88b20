use Rattle.std.proofs.Common.{rules, ◌≡◌, ℕ, Option, Some, None, refl, sym, subst}
use Rattle.relay_session.specs.SeatState.{SeatState, known}
use Rattle.relay_session.specs.declared.seat_answers.Active.TheVariants.{Nothing}
use Rattle.relay_session.proofs.SeatStanding.{go_on_same, one_goes_on, nowhere_knows, rise_knows, rise_stands}
use Rattle.relay_session.specs.Alone.{GivesBack}
use Rattle.relay_session.proofs.SeatGrowing.{none_here, none_same}
use Rattle.relay_session.proofs.seat.Seat.rise.Goals as goal

pub returns-in-None-clause-knows : goal.returns-in-None-clause-knows
returns-in-None-clause-knows g c =
    let P = g.P.StreamPort in
    let spot : c.args.self.now.spot ≡ None = search rules in
    nowhere_knows P.seen (P.root c.args.port.now) (P.root c.args.port.now) c.args.self.now.spot c.take.new.self spot c.take.ensures.after (λ q. refl)

pub returns-in-None-clause-stands : goal.returns-in-None-clause-stands
returns-in-None-clause-stands g c =
    let P = g.P.StreamPort in
    let spot : c.args.self.now.spot ≡ None = search rules in
    let knows = nowhere_knows P.seen (P.root c.args.port.now) (P.root c.args.port.now) c.args.self.now.spot c.take.new.self spot c.take.ensures.after (λ q. refl) in
    let new : SeatState g.row.P-Pass.Denot = record { spot = c.take.new.self; active = Nothing; visits = c.self.inside.visits } in
    λ st. rise_stands (P.rules c.args.port.now) (P.rules c.args.port.now) (known P.root P.seen c.args.port.now c.args.self.now) (known P.root P.seen c.args.port.now new) c.args.self.now new refl knows c.take.ensures.after refl (search rules) st

pub returns-in-None-clause-roots : goal.returns-in-None-clause-roots
returns-in-None-clause-roots g c = let P = g.P.StreamPort in go_on_same (P.root c.args.port.now) (P.root c.args.port.now) (λ q. refl)

pub returns-in-Some-clause-knows : goal.returns-in-Some-clause-knows
returns-in-Some-clause-knows g c =
    let P = g.P.StreamPort in
    let spot : c.args.self.now.spot ≡ Some (c.in-Some.place, c.in-Some.pass) = search rules in
    rise_knows P.seen (P.root c.args.port.now) (P.root c.detach.new.self) c.args.self.now.spot c.take.new.self c.in-Some.place c.in-Some.pass spot c.take.ensures.after c.detach.ensures.both.1 c.detach.ensures.others

pub returns-in-Some-clause-stands : goal.returns-in-Some-clause-stands
returns-in-Some-clause-stands g c =
    let P = g.P.StreamPort in
    let spot : c.args.self.now.spot ≡ Some (c.in-Some.place, c.in-Some.pass) = search rules in
    let knows = rise_knows P.seen (P.root c.args.port.now) (P.root c.detach.new.self) c.args.self.now.spot c.take.new.self c.in-Some.place c.in-Some.pass spot c.take.ensures.after c.detach.ensures.both.1 c.detach.ensures.others in
    let new : SeatState g.row.P-Pass.Denot = record { spot = c.take.new.self; active = Nothing; visits = c.self.inside.visits } in
    λ st. rise_stands (P.rules c.args.port.now) (P.rules c.detach.new.self) (known P.root P.seen c.args.port.now c.args.self.now) (known P.root P.seen c.detach.new.self new) c.args.self.now new c.detach.ensures.fixed.0 knows c.take.ensures.after refl (search rules) st

pub returns-in-Some-clause-roots : goal.returns-in-Some-clause-roots
returns-in-Some-clause-roots g c =
    let P = g.P.StreamPort in
    one_goes_on (P.root c.args.port.now) (P.root c.detach.new.self) c.in-Some.place c.detach.ensures.both.0 c.detach.ensures.others

pub returns-in-None-clause-adds : goal.returns-in-None-clause-adds
returns-in-None-clause-adds g c =
    let P = g.P.StreamPort in
    let M = g.met.P.StreamPort in
    none_same P.adds M.adds_none M.adds_both (P.root c.args.port.now) (P.root c.args.port.now) (λ q. refl)

pub returns-in-Some-clause-adds : goal.returns-in-Some-clause-adds
returns-in-Some-clause-adds g c =
    let P = g.P.StreamPort in
    let M = g.met.P.StreamPort in
    none_here P.adds M.adds_none M.adds_both (P.root c.args.port.now) (P.root c.detach.new.self) c.in-Some.place c.detach.ensures.adds c.detach.ensures.others

pub returns-in-None-clause-gives : goal.returns-in-None-clause-gives
returns-in-None-clause-gives g c =
    let P = g.P.StreamPort in
    let spot : c.args.self.now.spot ≡ None = search rules in
    subst (λ (o : Option (ℕ × _)). GivesBack P.branches (P.kin c.args.port.now) o (P.kin c.args.port.now)) (sym spot) refl

pub returns-in-Some-clause-gives : goal.returns-in-Some-clause-gives
returns-in-Some-clause-gives g c =
    let P = g.P.StreamPort in
    let spot : c.args.self.now.spot ≡ Some (c.in-Some.place, c.in-Some.pass) = search rules in
    subst (λ (o : Option (ℕ × _)). GivesBack P.branches (P.kin c.args.port.now) o (P.kin c.detach.new.self)) (sym spot) c.detach.ensures.taken
