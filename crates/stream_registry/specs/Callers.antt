-- Whose calls those of a place are
use Rattle.std.specs.Prelude.{◌≡◌, ℕ, ◌<◌, List, [], ◌∷◌, ◌++◌, slice_get, Some}
use Rattle.turn_gate.specs.Histories.{times}
use Rattle.stream_registry.specs.Told.{Step}

-- a caller at one place: the name under which it calls, and the numbers of the calls that it made there
pub record Caller : Type 0 where
  pub name : ℕ
  pub made : List ℕ

-- the numbers of all these, one caller behind the other
abbrev pub all_made : List Caller → List ℕ
all_made [] = []
all_made (c ∷ cs) = c.made ++ all_made cs

-- the calls of each in this history bear its name
abbrev pub EachBears : List Step → List Caller → Type 0
EachBears h callers = (i : ℕ) (c : Caller) → slice_get callers i ≡ Some c → (n : ℕ) (s : Step) → 0 < times n c.made → slice_get h n ≡ Some s → s.0.who ≡ c.name

-- EACH CALL OF THE HISTORY IS ONE THAT A CALLER MADE, under the name of that caller
abbrev pub AreTheirs : List Step → List Caller → Type 0
AreTheirs h callers = (n : ℕ) (s : Step) → slice_get h n ≡ Some s → (i : ℕ) × (c : Caller) × (slice_get callers i ≡ Some c) × (0 < times n c.made) × (s.0.who ≡ c.name)

-- no two callers have the same name
abbrev pub AreNamedApart : List Caller → Type 0
AreNamedApart callers = (i j : ℕ) (c d : Caller) → slice_get callers i ≡ Some c → slice_get callers j ≡ Some d → c.name ≡ d.name → c ≡ d

-- THE CALLS THAT BEAR THE NAME OF A CALLER ARE ALL ITS OWN
abbrev pub AllBornAreIts : List Step → List Caller → Type 0
AllBornAreIts h callers = (i : ℕ) (c : Caller) → slice_get callers i ≡ Some c → (n : ℕ) (s : Step) → slice_get h n ≡ Some s → s.0.who ≡ c.name → 0 < times n c.made
