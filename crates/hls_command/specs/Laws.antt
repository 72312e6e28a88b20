-- What the files are
use Rattle.std.specs.Prelude.{◌≡◌, ℕ, List, [], ◌∷◌, ◌++◌, length, map, Some}
use Rattle.av_unit.specs.declared.item.Item.{Item}
use Rattle.file_series.specs.Series.{Series, all_files, none_yet}
use Rattle.live_segments.specs.Live.{Segment, ended_rows, live}
use Rattle.hls_command.specs.Words.{Asked}
use Rattle.hls_command.specs.Written.{finished, written}

-- the bytes of segments, the oldest first
abbrev pub texts : List Segment → List (List ℕ)
texts [] = []
texts (s ∷ earlier) = texts earlier ++ s.bytes ∷ []

-- THE FILES ARE THE SEGMENTS, in order, one for each; and so many files have ended as the segments that a listing may name
pub record AreSegments (a : Asked) (past : List Item) : Type 0 where
  pub files : all_files (written a past none_yet) ≡ texts (live a.target past).segments
  pub ended : length (written a past none_yet).ended ≡ length (ended_rows (live a.target past).segments)
  pub all_ended : map (λ e. e.bytes) (finished a past none_yet).ended ≡ texts (live a.target past).segments
