-- What a gate's history tells a caller: the calls refused for memory are left out, and the numbers are
-- counted without them
use Rattle.std.specs.Prelude.{ℕ, List, [], ◌∷◌, ◌++◌, reverse, length, take, slice_get, Option, Some, None}
use Rattle.std.specs.declared.result.Result.TheVariants.{Ok, Err}
use Rattle.stream_registry.specs.declared.place_table.Site.{Site}
use Rattle.stream_registry.specs.Pasts.{Attempt, past_of}
use Rattle.stream_registry.specs.Roots.{Root, seen_at, mine_at}
use Rattle.stream_registry.specs.Told.{Step, Histories}

-- the calls that were answered, the oldest first
abbrev pub told : List Attempt → List Step
told h = reverse (past_of h)

-- the number of a call among those that were answered, if it was
abbrev pub number_if : Option Attempt → ℕ → List ℕ
number_if (Some (e, Ok r)) n = n ∷ []
number_if (Some (e, Err x)) n = []
number_if None n = []

abbrev pub number : List Attempt → ℕ → List ℕ
number h n = number_if (slice_get h n) (length (told (take n h)))

-- the numbers of the calls at these places of a gate's history
abbrev pub numbers : List Attempt → List ℕ → List ℕ
numbers h [] = []
numbers h (n ∷ ns) = number h n ++ numbers h ns

-- what the roots tell of each place
abbrev pub told_at : List (Root Site Attempt) → Histories
told_at roots place = told (seen_at roots place)

-- what histories tell that have the calls refused for memory as well
abbrev pub tells : (ℕ → List Attempt) → Histories
tells attempts place = told (attempts place)

-- the numbers of the calls that the root at each place owns: those of all passes that it took in
abbrev pub made_at : List (Root Site Attempt) → ℕ → List ℕ
made_at roots place = numbers (seen_at roots place) (mine_at roots place)
