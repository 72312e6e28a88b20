-- When there are too many segments: 2^63 have left the list
use Rattle.std.specs.Prelude.{ℕ, ◌^◌, Bool, ◌||◌, nat_le, List, length, drop}
use Rattle.av_unit.specs.declared.item.Item.{Item}
use Rattle.live_segments.specs.Live.{ended_rows, live}
use Rattle.live_segments.specs.Listing.{marks}

abbrev pub is_too_many : ℕ → ℕ → List Item → Bool
is_too_many target keep past =
    nat_le (2 ^ 63) (length (drop keep (ended_rows (live target past).segments)))
    || nat_le (2 ^ 63) (marks (drop keep (ended_rows (live target past).segments)))
