-- The calls of one caller in a stream's history
use Rattle.std.specs.Prelude.{◌≡◌, ℕ, ◌+◌, ◌≤◌, List, [], ◌∷◌, map, slice_get, All, Some}
use Rattle.stream_model.specs.declared.calls.Shape.{Shape}
use Rattle.turn_gate.specs.Histories.{Begins}
use Rattle.stream_registry.specs.Told.{Step, Keeps}

-- each number is at least n, and above those before it
abbrev pub RiseFrom : ℕ → List ℕ → Type 0
RiseFrom n [] = Unit {0}
RiseFrom n (m ∷ ms) = (n ≤ m) × RiseFrom (m + 1) ms

-- THE CALLS that a caller made, the oldest first, where its pass has seen this of the history and made calls
-- at these numbers: they are all that stand at these numbers, and they are its own
pub record Stand (limits : Shape) (who : ℕ) (seen : List Step) (mine : List ℕ) (calls : List Step) : Type 0 where
  -- what it had seen when the last of them was answered
  pub known : List Step
  pub first : Begins known seen
  -- each was answered by the rules, and what each player was sent keeps the viewer's law
  pub keeps : Keeps limits known
  pub rise : RiseFrom 0 mine
  pub calls_are : map (slice_get known) mine ≡ map Some calls
  pub own : All (λ c. c.0.who ≡ who) calls
