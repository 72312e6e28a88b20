-- What it means that a cursor stands for what a player was sent.
use Rattle.std.specs.Prelude.{◌≡◌, ℕ, ◌<◌, ◌≤◌, Bool, false, if◌then◌else◌, List, [], ◌∷◌, ◌++◌, length}
use Rattle.std.specs.List.{slice_get, All}
use Rattle.av_unit.specs.declared.item.Item.{Item}
use Rattle.av_unit.specs.declared.unit.Kind.TheVariants.{Meta, VConfig, AConfig, Key}
use Rattle.stream_model.specs.Chain.{whole}
use Rattle.stream_model.specs.Take.{at_kind, last_sent}
use Rattle.player_cursor.specs.CursorState.{CursorState}

-- of these items the player was sent these numbers, and the cursor stands after them
pub record StandsFor (items : List Item) (numbers : List ℕ) (c : CursorState) : Type 0 where
  pub within : c.next ≤ length items
  pub below : All (λ m. m < c.next) numbers
  pub meta : c.meta ≡ last_sent Meta items numbers
  pub video : c.video ≡ last_sent VConfig items numbers
  pub audio : c.audio ≡ last_sent AConfig items numbers
  -- the flag is that of the definition, unless a Key comes next
  pub flag : at_kind Key (slice_get items c.next) ≡ false → c.whole ≡ whole items numbers c.next

-- the numbers after the item at n, which was sent or not
abbrev pub numbers_after : Bool → ℕ → List ℕ → List ℕ
numbers_after sent n numbers = if sent then numbers ++ n ∷ [] else numbers
