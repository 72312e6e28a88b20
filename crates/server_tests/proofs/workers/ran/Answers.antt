use Rattle.std.proofs.Common.{subst, sym}
use Rattle.relay_session.specs.Places.{IsGrantThere}
use Rattle.stream_registry.specs.Names.{places}
use Rattle.server_tests.proofs.workers.ran.Goals as goal

pub finished-requires : goal.finished-requires
finished-requires g c =
    let rules = g.P.StreamPort.rules in
    subst (λ p. IsGrantThere (places (rules p)) c.granted.result) (sym c.in_ok-worker.ensures)
    (c.granted.ensures (places (rules c.args.port)) c.in-Ok.ensures.there)
