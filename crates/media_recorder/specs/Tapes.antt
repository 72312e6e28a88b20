-- Items on their way to a sink
use Rattle.std.specs.Prelude.{◌≡◌, ℕ, ◌+◌, ◌≤◌, List, ◌++◌, length}
use Rattle.av_unit.specs.declared.item.Item.{Item}
use Rattle.media_recorder.specs.Mediums.{AreWithin, most_held, longest_body}

pub record TapeState : Type 0 where
  -- the items that were written
  pub items : List Item
  -- the bytes that the sink took
  pub sent : List ℕ
  -- those that it is yet to take
  pub pending : List ℕ
  -- how many more bytes the medium keeps
  pub kept : ℕ
  -- the most bytes of a unit that it writes
  pub longest : ℕ

-- what was sent and what is pending are the text of the items, none of which is longer than that
pub record IsTape (text : List Item → List ℕ) (items : List Item) (sent pending : List ℕ) (kept longest : ℕ) : Type 0 where
  pub text_is : sent ++ pending ≡ text items
  pub room : (m : ℕ) → AreWithin m items → length pending + kept ≤ most_held m
  pub most : length pending + kept ≤ most_held longest_body
  pub within : AreWithin longest items
