use Rattle.std.proofs.Common.{subst}
use Rattle.origin_pull.specs.EdgeState.{EdgeState, StandsFor}
use Rattle.origin_pull.proofs.Standing.{living_stands, living_then}
use Rattle.origin_pull.proofs.edge.Edge.turn.Goals as goal

pub returns-in-Some-clause-stands : goal.returns-in-Some-clause-stands
returns-in-Some-clause-stands g c =
    let i = c.self.inside in
    subst (λ (s : EdgeState g.row.P-Pass.Denot). StandsFor s) c.self.view_is (living_stands i.ended i.body.core i.body.client c.self.invariant)

pub returns-in-None-clause-stands : goal.returns-in-None-clause-stands
returns-in-None-clause-stands g c =
    let k = c.turn_on-answer in
    living_stands c.end_in-self-inside.result k.new.body.core k.new.body.client
    (living_then k.result c.end_in-self-inside.result k.new.body.core k.new.body.client c.end_in-self-inside.ensures k.ensures.sound)
