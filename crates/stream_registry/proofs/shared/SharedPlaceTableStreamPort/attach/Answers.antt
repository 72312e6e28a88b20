use Rattle.std.proofs.Common.{◌≡◌, ℕ, List, ap, subst}
use Rattle.stream_registry.specs.Pasts.{Attempt}
use Rattle.stream_registry.specs.Roots.{Root}
use Rattle.stream_registry.specs.SharedState.{Streams}
use Rattle.stream_registry.specs.declared.place_table.Site.{Site}
use Rattle.stream_registry.specs.Gates.{made_at}
use Rattle.stream_registry.proofs.Owning.{made_kept}
use Rattle.stream_registry.proofs.shared.SharedPlaceTableStreamPort.attach.Goals as goal

pub returns-clause-owns : goal.returns-clause-owns
returns-clause-owns c =
    subst (λ (x : List (Root Site Attempt)). (q : ℕ) → made_at c.attach.new.self q ≡ made_at x q) (ap (λ (x : Streams). x.roots) c.self.view_is)
    (made_kept _ c.attach.new.self c.attach.ensures.same c.attach.ensures.mine)
