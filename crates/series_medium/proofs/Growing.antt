-- Files that grow with each item
use Rattle.std.specs.Prelude.{◌≡◌, ℕ, List, [], ◌∷◌, ◌++◌, Option, Some, None}
use Rattle.av_unit.specs.declared.item.Item.{Item}
use Rattle.file_series.specs.Series.{Series, last_bytes}
use Rattle.series_medium.specs.Text.{grown}

-- a file with more bytes: the first open it
abbrev pub with_more : Option (List ℕ) → List ℕ → Option (List ℕ)
with_more file [] = file
with_more file (byte ∷ bytes) = Some (last_bytes file ++ byte ∷ bytes)

abbrev pub with_data : Series → List ℕ → Series
with_data s bytes = record { ended = s.ended; last = with_more s.last bytes }

-- nothing is written of no items, and what an item adds stands behind what was written
pub record Grows (file : List Item → Option (List ℕ)) : Type 0 where
  pub none : file [] ≡ None
  pub more : (items : List Item) (item : Item)
      → file (items ++ item ∷ []) ≡ with_more (file items) (grown (file items) (file (items ++ item ∷ [])))
