-- What contracts see of a stream or a pool with its journal, of a port of one thread, and of a pass to it
use Rattle.std.specs.Prelude.{◌≡◌, ℕ, ◌<◌, List, [], slice_get, length, Option, Some, None}
use Rattle.std.proofs.Common.{◌++◌, ◌∙◌, sym, ap, append-nil, append_assoc}
use Rattle.stream_model.specs.declared.calls.StreamLimits.{StreamLimits}
use Rattle.stream_model.specs.declared.calls.Shape.{Shape}
use Rattle.turn_gate.specs.Histories.{Begins}
use Rattle.stream_registry.specs.declared.names.Name.{Name}
use Rattle.stream_registry.specs.declared.names.OpenName.{OpenName}
use Rattle.stream_registry.specs.Names.{PortRules, shapes_of, shape_at}
use Rattle.stream_registry.specs.Told.{Step, Histories}

pub record BookState : Type 0 where
  pub limits : Shape
  -- the calls so far with their replies, the oldest first
  pub journal : List Step

-- a place that has had no call
abbrev pub new_book : Shape → BookState
new_book shape = record { limits = shape; journal = [] }

pub record SoleRules : Type 0 where
  pub names : List Name
  pub opens : List OpenName
  pub limits : StreamLimits

pub record SoleState : Type 0 where
  pub rules : SoleRules
  pub books : List BookState

pub record SeenState : Type 0 where
  pub limits : Shape
  pub seen : List Step
  -- the numbers of its own calls
  pub mine : List ℕ

abbrev pub journal_of : Option BookState → List Step
journal_of None = []
journal_of (Some b) = b.journal

abbrev pub journal_at : List BookState → Histories
journal_at books place = journal_of (slice_get books place)

-- what each place has
abbrev pub shapes_in : SoleRules → List Shape
shapes_in r = shapes_of r.limits r.names r.opens

-- the place is there, and the pass has seen a beginning of its journal
pub record FitsSole (s : SoleState) (place : ℕ) (p : SeenState) : Type 0 where
  pub there : place < length s.books
  pub limits : p.limits ≡ shape_at (shapes_in s.rules) place
  pub seen : Begins p.seen (journal_at s.books place)

-- what never changes of a port of one thread: each stream and each slot has the same limits, and stands behind no gate
abbrev pub sole_rules : SoleRules → PortRules
sole_rules r = record { names = r.names; opens = r.opens; limits = λ place. shape_at (shapes_in r) place; gates = [] }

-- what calls add is put behind what was there
pub adds_nothing : (h : List Step) → h ≡ h ++ []
adds_nothing h = sym (append-nil h)

pub adds_together : (h i j xs ys : List Step) → i ≡ h ++ xs → j ≡ i ++ ys → j ≡ h ++ (xs ++ ys)
adds_together h i j xs ys a b = b ∙ (ap (λ (l : List Step). l ++ ys) a ∙ append_assoc h xs ys)
