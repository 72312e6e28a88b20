use Rattle.std.proofs.Common.{rules, Option, sym, subst, refl}
use Rattle.turn_gate.specs.Histories.{Begins}
use Rattle.media_recorder.specs.Alone.{GivesBack}
use Rattle.media_recorder.specs.Ports.{FitsIf, seen_of}
use Rattle.media_recorder.proofs.Standing.{begins_same}
use Rattle.media_recorder.proofs.Parting.{parts}
use Rattle.media_recorder.proofs.seat.Seat.part.Goals as goal

pub returns-in-Some-clause-parts : goal.returns-in-Some-clause-parts
returns-in-Some-clause-parts g c =
    let P = g.P.StreamPort in
    let i = c.self.inside in
    let fits : FitsIf (P.fits c.args.port.now i.place) i.pass = search rules in
    let seen : Begins (seen_of P.seen (P.root c.args.port.now i.place) i.pass) (P.root c.detach.new.self i.place) =
    subst (λ (o : Option _). Begins (seen_of P.seen (P.root c.args.port.now i.place) o) (P.root c.detach.new.self i.place)) (sym c.in-Some.is) c.detach.ensures.both.1 in
    rw (← c.self.view_is) (parts P.rules P.root P.seen P.mine P.limits (P.fits c.args.port.now i.place) c.args.port.now c.detach.new.self i.who i.place i.pass i.calls
    (λ p f. g.met.P.StreamPort.ruled c.args.port.now i.place p f) fits c.self.invariant seen)

pub returns-clause-parts : goal.returns-clause-parts
returns-clause-parts g c =
    let P = g.P.StreamPort in
    let i = c.self.inside in
    let fits : FitsIf (P.fits c.args.port.now i.place) i.pass = search rules in
    let seen : Begins (seen_of P.seen (P.root c.args.port.now i.place) i.pass) (P.root c.args.port.now i.place) =
    subst (λ (o : Option _). Begins (seen_of P.seen (P.root c.args.port.now i.place) o) (P.root c.args.port.now i.place)) (sym c.in-None.is) (begins_same _ _ refl) in
    rw (← c.self.view_is) (parts P.rules P.root P.seen P.mine P.limits (P.fits c.args.port.now i.place) c.args.port.now c.args.port.now i.who i.place i.pass i.calls
    (λ p f. g.met.P.StreamPort.ruled c.args.port.now i.place p f) fits c.self.invariant seen)

pub returns-in-Some-clause-gives : goal.returns-in-Some-clause-gives
returns-in-Some-clause-gives g c =
    let P = g.P.StreamPort in
    let d = c.detach in
    rw (← c.self.view_is) (subst (λ (o : Option _). GivesBack P.rules P.adds P.root P.seen P.kin P.branches c.args.port.now d.new.self c.self.inside.place o) (sym c.in-Some.is) (d.ensures.adds, d.ensures.taken))

pub returns-clause-gives : goal.returns-clause-gives
returns-clause-gives g c =
    let P = g.P.StreamPort in
    rw (← c.self.view_is) (subst (λ (o : Option _). GivesBack P.rules P.adds P.root P.seen P.kin P.branches c.args.port.now c.args.port.now c.self.inside.place o) (sym c.in-None.is) refl)
