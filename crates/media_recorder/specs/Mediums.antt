-- What a medium makes of items
use Rattle.std.specs.Prelude.{◌≡◌, ℕ, ◌+◌, ◌*◌, ◌≤◌, List, [], ◌∷◌, ◌++◌, length, All}
use Rattle.av_unit.specs.declared.item.Item.{Item}
use Rattle.stream_model.specs.Held.{body_of}

-- no item has a body of more bytes
abbrev pub AreWithin : ℕ → List Item → Type 0
AreWithin m items = All (λ x. body_of x ≤ m) items

-- how many bytes a recorder holds at most, where no item that it took has a body of more than m
abbrev pub most_held : ℕ → ℕ
most_held m = 4 * m + 262144

-- the longest body that a unit has
abbrev pub longest_body : ℕ
longest_body = 4194304

-- the text of no items was appended, and so much is kept
pub record Begun (text : List Item → List ℕ) (out out' : List ℕ) (items : List Item) (kept : ℕ) : Type 0 where
  pub none : items ≡ []
  pub out_is : out' ≡ out ++ text []
  pub room : length (text []) + kept ≤ 262144

-- what the text grows by with one item more was appended, and so much is kept
pub record Adds (text : List Item → List ℕ) (items : List Item) (item : Item) (items' : List Item) (out out' : List ℕ) (kept : ℕ) : Type 0 where
  pub more : List ℕ
  pub items_are : items' ≡ items ++ item ∷ []
  pub text_is : text items' ≡ text items ++ more
  pub out_is : out' ≡ out ++ more
  pub room : (m : ℕ) → AreWithin m items' → length more + kept ≤ most_held m
  pub most : length more + kept ≤ most_held longest_body
