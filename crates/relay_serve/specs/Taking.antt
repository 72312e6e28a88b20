-- What was read of a source
use Rattle.std.specs.Prelude.{◌≡◌, ◌⊎◌, ℕ, List, length, Option}
use Rattle.std.specs.Io.KnownBytes.{prepend_known, IsAtEnd}

-- as much of a text as a configuration can have, and one byte more: it was read to its end, or so many bytes were
pub record TakesText (before now : Option (List ℕ)) (bytes : List ℕ) : Type 0 where
  pub first : before ≡ prepend_known bytes now
  pub all : IsAtEnd now ⊎ (length bytes ≡ 1048577)
