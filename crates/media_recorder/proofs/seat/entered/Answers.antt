use Rattle.std.proofs.Common.{Option, refl, subst, sym}
use Rattle.media_recorder.specs.Alone.{Enters}
use Rattle.media_recorder.proofs.seat.entered.Goals as goal

pub returns-in-Some-clause-splits : goal.returns-in-Some-clause-splits
returns-in-Some-clause-splits g c =
    let P = g.P.StreamPort in
    subst (λ (o : Option _). Enters P.branches (P.kin c.args.port.now) c.args.place o (P.branches c.in-Some.pass) (P.kin c.args.port.now)) (sym c.in-Some.is) (refl, refl)

pub returns-in-None-clause-splits : goal.returns-in-None-clause-splits
returns-in-None-clause-splits g c =
    let P = g.P.StreamPort in
    subst (λ (o : Option _). Enters P.branches (P.kin c.args.port.now) c.args.place o (P.branches c.attach.result) (P.kin c.attach.new.self)) (sym c.in-None.is) (c.attach.ensures.split.1, c.attach.ensures.split.0)
