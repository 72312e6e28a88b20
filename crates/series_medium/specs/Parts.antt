-- A SERIES THAT IS A FIRST PART OF ANOTHER
use Rattle.std.specs.Prelude.{◌≡◌, ℕ, List, ◌∷◌, ◌++◌, map, Some}
use Rattle.turn_gate.specs.Histories.{Begins}
use Rattle.file_series.specs.Series.{Ended, Series, all_files}

-- these bytes are the first of the file that stands behind these files
pub record AreFirstOf (bytes : List ℕ) (ended : List Ended) (t : Series) : Type 0 where
  pub whole : List ℕ
  pub later : List (List ℕ)
  pub begins : Begins bytes whole
  pub files : all_files t ≡ map (λ e. e.bytes) ended ++ whole ∷ later

-- its ended files are the other's first, whole, and its open file is a first part of the next
pub record IsPartOf (s t : Series) : Type 0 where
  pub ended : Begins s.ended t.ended
  pub last : (bytes : List ℕ) → s.last ≡ Some bytes → AreFirstOf bytes s.ended t
