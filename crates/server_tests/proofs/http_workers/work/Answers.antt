use Rattle.std.proofs.Common.{◌≡◌, ◌∙◌, ℕ, ap, subst, sym}
use Rattle.command_dialog.specs.declared.types.Grant.{Grant}
use Rattle.relay_session.specs.Places.{IsGrantThere}
use Rattle.stream_registry.specs.Names.{places}
use Rattle.stream_registry.specs.SharedState.{shared_rules}
use Rattle.server_tests.proofs.http_workers.work.Goals as goal

there : (m n : ℕ) (x : Grant) → m ≡ n → IsGrantThere n x → IsGrantThere m x
there m n x e at = subst (λ (k : ℕ). IsGrantThere k x) (sym e) at

pub round-first-requires-clause-offered : goal.round-first-requires-clause-offered
round-first-requires-clause-offered g c κs = λ ask. there _ _ _ (ap (λ p. places (shared_rules p)) c.in_ok-worker.ensures.port) c.requires.granted

pub round-second-requires-clause-offered : goal.round-second-requires-clause-offered
round-second-requires-clause-offered g c κs =
    λ ask. there _ _ _ (ap places c.round-first.ensures.keeps.port.fixed ∙ ap (λ p. places (shared_rules p)) c.in_ok-worker.ensures.port) c.requires.granted

pub run-requires-clause-offered : goal.run-requires-clause-offered
run-requires-clause-offered g c κs within =
    let first = ap places c.round-first.ensures.keeps.port.fixed ∙ ap (λ p. places (shared_rules p)) c.in_ok-worker.ensures.port in
    λ ask. there _ _ _ (ap places c.round-second.ensures.keeps.port.fixed ∙ first) c.requires.granted
