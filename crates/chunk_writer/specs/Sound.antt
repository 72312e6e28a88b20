-- Only proofs and private functions use it.
-- What a writer keeps true of its fields
use Rattle.std.specs.Prelude.{◌≡◌, Bool, true, ℕ, ◌+◌, ◌<◌, ◌≤◌, nat_eq, if◌then◌else◌, List, [], ◌∷◌, length, Option, Some, None}
use Rattle.chunk_writer.specs.declared.begun.Begun.{Begun}
use Rattle.chunk_writer.specs.Rule.{last_on}
use Rattle.chunk_writer.specs.Written.{IsBegun}

-- how many stand before the first on a chunk stream
abbrev pub place : ℕ → List Begun → ℕ
place id [] = 0
place id (b ∷ lasts) = if nat_eq b.id id then 0 else place id lasts + 1

-- that place, or that there is none
abbrev pub IsPlaced : Option ℕ → ℕ → List Begun → Type 0
IsPlaced None id lasts = length lasts ≤ place id lasts
IsPlaced (Some i) id lasts = (i ≡ place id lasts) × (i < length lasts)

-- no two are on one chunk stream
abbrev pub AreApart : List Begun → Type 0
AreApart [] = Unit {0}
AreApart (b ∷ lasts) = (last_on b.id lasts ≡ None) × AreApart lasts

-- these are the last of those on each chunk stream, each once
pub record AreLasts (lasts said : List Begun) : Type 0 where
  pub apart : AreApart lasts
  pub recalls : (id : ℕ) → last_on id lasts ≡ last_on id said

pub record IsSound (size : ℕ) (lasts said : List Begun) : Type 0 where
  pub some : 1 ≤ size
  pub lasts_are : AreLasts lasts said

-- what a message in hand keeps true of its fields
pub record IsSending (begun : Begun) (size sent : ℕ) (fresh : Bool) : Type 0 where
  pub begun_is : IsBegun begun
  pub some : 1 ≤ size
  pub within : sent ≤ begun.terms.length
  pub none : fresh ≡ true → sent ≡ 0
