-- Gates at places
use Rattle.std.specs.Prelude.{◌≡◌, ◌≢◌, ℕ, List, [], slice_get, Some}
use Rattle.stream_model.specs.declared.calls.Shape.{Shape}
use Rattle.turn_gate.specs.Known.{GateId}
use Rattle.stream_registry.specs.declared.place_table.Site.{Site}
use Rattle.stream_registry.specs.Pasts.{Attempt}
use Rattle.stream_registry.specs.Roots.{Root}
use Rattle.stream_registry.specs.Names.{shape_at}

abbrev pub site : ℕ → Shape → Site
site place limits = record { place = place; limits = limits }

-- behind the gate at each place stands what that place has of these
abbrev pub AreSites : List Shape → List (GateId Site) → Type 0
AreSites shapes ids = (q : ℕ) (g : GateId Site) → slice_get ids q ≡ Some g → g.about ≡ site q (shape_at shapes q)

-- no two places have the same gate
abbrev pub AreApart : List (GateId Site) → Type 0
AreApart ids = (p q : ℕ) (g h : GateId Site) → slice_get ids p ≡ Some g → slice_get ids q ≡ Some h → p ≢ q → g ≢ h

-- nothing was seen yet at any of these places, which have such gates
abbrev pub AreNewRoots : List Shape → List (Root Site Attempt) → Type 0
AreNewRoots shapes roots = (q : ℕ) (k : Root Site Attempt) → slice_get roots q ≡ Some k → (k.seen ≡ []) × (k.gate.about ≡ site q (shape_at shapes q))
