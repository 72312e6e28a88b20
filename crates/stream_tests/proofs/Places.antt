-- Gates that differ from place to place
use Rattle.std.proofs.Common.{◌≡◌, ℕ, List, slice_get, Some, refl, inl, inr}
use Rattle.std.proofs.lemmas.Bool.{cases_eq}
use Rattle.turn_gate.specs.Known.{GateId}
use Rattle.stream_registry.specs.declared.place_table.Site.{Site}
use Rattle.stream_registry.specs.Sites.{AreApart}

pub one_place : (ids : List (GateId Site)) → AreApart ids → (p q : ℕ) (g : GateId Site) → slice_get ids p ≡ Some g → slice_get ids q ≡ Some g → p ≡ q
one_place ids apart p q g here there = elim (cases_eq p q) [
  | inl same ↦ same
  | inr other ↦ absurd (apart p q g g here there other refl)
]
