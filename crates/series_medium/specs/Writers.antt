-- What a writer of one file makes of items, and what a medium of many files keeps
use Rattle.std.specs.Prelude.{◌≡◌, ℕ, ◌+◌, ◌*◌, ◌≤◌, List, [], ◌∷◌, ◌++◌, length, fold, Option, Some, None}
use Rattle.av_unit.specs.declared.item.Item.{Item}
use Rattle.stream_model.specs.Held.{body_of}
use Rattle.series_medium.specs.Text.{added, data_text, grown, on_air}

-- what a medium has written: the items, and how many bytes it keeps
pub record MediumState : Type 0 where
  pub items : List Item
  pub kept : ℕ

-- what a writer keeps, if there is one
abbrev pub kept_if : {W : Type 0} → (W → ℕ) → Option W → ℕ
kept_if kept None = 0
kept_if kept (Some w) = kept w

-- the items of the broadcast that goes on
abbrev pub on_air_of : List Item → List Item
on_air_of items = fold on_air [] items

module _ (file : List Item → Option (List ℕ)) where
  -- what the file grows by with one item more was appended
  pub record FileGrows (items : List Item) (item : Item) (items' : List Item) (out out' : List ℕ) (kept : ℕ) : Type 0 where
    pub items_are : items' ≡ items ++ item ∷ []
    pub out_is : out' ≡ out ++ grown (file items) (file items')
    pub room : length (grown (file items) (file items')) + kept ≤ 4 * body_of item + 262137

  -- the frame of that was appended
  pub record FrameGrows (items : List Item) (item : Item) (items' : List Item) (out out' : List ℕ) (kept : ℕ) : Type 0 where
    pub items_are : items' ≡ items ++ item ∷ []
    pub more : List ℕ
    pub more_is : more ≡ data_text (grown (file items) (file items'))
    pub out_is : out' ≡ out ++ more
    pub room : length more + kept ≤ 4 * body_of item + 262142

  -- what the text grows by with one item more was appended
  pub record TextGrows (items : List Item) (item : Item) (items' : List Item) (out out' : List ℕ) (kept : ℕ) : Type 0 where
    pub items_are : items' ≡ on_air items item
    pub more : List ℕ
    pub more_is : more ≡ added file items item
    pub out_is : out' ≡ out ++ more
    pub room : length more + kept ≤ 4 * body_of item + 262144
