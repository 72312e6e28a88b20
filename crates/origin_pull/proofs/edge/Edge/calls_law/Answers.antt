use Rattle.std.proofs.Common.{subst}
use Rattle.origin_pull.specs.EdgeState.{EdgeState, StandsFor}
use Rattle.origin_pull.proofs.Standing.{living_stands}
use Rattle.origin_pull.proofs.edge.Edge.calls_law.Goals as goal

pub returns : goal.returns
returns g c =
    let i = c.self.inside in
    subst (λ (s : EdgeState g.row.P-Pass.Denot). StandsFor s) c.self.view_is (living_stands i.ended i.body.core i.body.client c.self.invariant)
