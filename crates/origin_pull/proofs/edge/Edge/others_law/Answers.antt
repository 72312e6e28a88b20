use Rattle.std.proofs.Common.{ap}
use Rattle.stream_registry.specs.Names.{PortRules, places}
use Rattle.origin_pull.proofs.Staying.{others_at}
use Rattle.origin_pull.proofs.edge.Edge.others_law.Goals as goal

pub returns : goal.returns
returns g c =
    let P = g.P.StreamPort in
    λ x y s same more a. others_at (P.fits x) (P.fits y) (places (P.rules x)) (places (P.rules y)) s.parts s.seat (ap (λ (r : PortRules). places r) same) more a
