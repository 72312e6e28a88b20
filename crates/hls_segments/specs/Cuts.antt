-- THE SEGMENTS of a stream, which are cut at the units that its transport stream has. Lists of items and of
-- segments have the newest first. Times are milliseconds modulo 2^32.
use Rattle.std.specs.Prelude.{ℕ, ◌+◌, ◌-◌, ◌%◌, ◌^◌, Bool, true, false, ◌&&◌, ◌||◌, not, nat_lt, nat_le, if◌then◌else◌, List, [], ◌∷◌, ◌++◌, length}
use Rattle.av_unit.specs.Media.{Media}
use Rattle.av_unit.specs.declared.unit.Kind.{Kind}
use Rattle.av_unit.specs.declared.unit.Kind.TheVariants.{Meta, VConfig, AConfig, Key, Inter, Spare, Audio, Data}
use Rattle.av_unit.specs.declared.item.Item.{Item}
use Rattle.av_unit.specs.declared.item.Item.TheVariants.{Begin, Unit as AUnit, End}
use Rattle.ts_writer.specs.declared.left.Wrote.{Wrote}
use Rattle.ts_writer.specs.declared.left.Wrote.TheVariants.{Unit as AWritten, Nothing as NothingWritten, LeftOut}
use Rattle.ts_writer.specs.declared.part.Streams.{Streams}
use Rattle.ts_writer.specs.declared.part.Part.{Part}
use Rattle.ts_writer.specs.Parts.{tables_due}
use Rattle.ts_writer.specs.Text.{in_force, item_text, listed, parts, wrote_of}
use Rattle.hls_segments.specs.declared.cut.Cut.{Cut}
use Rattle.hls_segments.specs.declared.cut.Cut.TheVariants.{First, Next, Same, Nothing}

-- a segment
pub record Segment : Type 0 where
  -- the items before its first unit, and that unit
  pub before : List Item
  pub opener : Media
  -- the time of its last unit
  pub last : ℕ
  pub bytes : List ℕ

-- how much later a time is, modulo 2^32
abbrev pub since : ℕ → ℕ → ℕ
since earlier later = (later + (2 ^ 32 - earlier)) % 2 ^ 32

-- at least so long, and no step back
abbrev pub is_long : ℕ → ℕ → Bool
is_long least long = nat_le least long && nat_lt long (2 ^ 31)

-- whether both tables stand before sound and list no pictures
abbrev pub stands_alone : Streams → List Part → Bool
stands_alone s before = not s.video && tables_due s false false before

abbrev pub may_begin_by : Kind → Streams → List Part → Bool
may_begin_by Key s before = true
may_begin_by Audio s before = stands_alone s before
may_begin_by Meta s before = false
may_begin_by VConfig s before = false
may_begin_by AConfig s before = false
may_begin_by Inter s before = false
may_begin_by Spare s before = false
may_begin_by Data s before = false

-- WHERE A SEGMENT MAY BEGIN: at a key picture, and at sound before which stand tables that list no pictures
abbrev pub may_begin : List Item → Media → Bool
may_begin past u = may_begin_by u.kind (listed (in_force past)) (parts past)

-- whether a unit that is written begins the next segment: it may, and the segment before it is long enough then
abbrev pub is_next : ℕ → List Item → Media → Segment → Bool
is_next least past u s = may_begin past u && is_long least (since s.opener.time u.time)

-- a segment of one unit, with the tables before it
abbrev pub opened : List Item → Media → Segment
opened past u = record { before = past; opener = u; last = u.time; bytes = item_text past (AUnit u) }

-- and with one unit more
abbrev pub longer : List Item → Media → Segment → Segment
longer past u s = record { before = s.before; opener = s.opener; last = u.time; bytes = s.bytes ++ item_text past (AUnit u) }

-- the first unit that is written begins the first segment, and a later one the next or goes into the last
abbrev pub with_written : ℕ → List Item → Media → List Segment → List Segment
with_written least past u [] = opened past u ∷ []
with_written least past u (s ∷ earlier) = if is_next least past u s then opened past u ∷ s ∷ earlier else longer past u s ∷ earlier

abbrev pub with_unit : ℕ → List Item → Media → Wrote → List Segment → List Segment
with_unit least past u AWritten segments = with_written least past u segments
with_unit least past u NothingWritten segments = segments
with_unit least past u (LeftOut left) segments = segments

abbrev pub with_item : ℕ → List Item → Item → List Segment → List Segment
with_item least past Begin segments = segments
with_item least past (AUnit u) segments = with_unit least past u (wrote_of past (AUnit u)) segments
with_item least past End segments = segments

-- THE SEGMENTS of items, each but the last of which spans at least so many milliseconds
abbrev pub segments : ℕ → List Item → List Segment
segments least [] = []
segments least (item ∷ past) = with_item least past item (segments least past)

-- what a unit that is written does to them
abbrev pub cut_by : ℕ → List Item → Media → List Segment → Cut
cut_by least past u [] = First
cut_by least past u (s ∷ earlier) = if is_next least past u s then Next else Same

abbrev pub cut_unit : ℕ → List Item → Media → Wrote → List Segment → Cut
cut_unit least past u AWritten segments = cut_by least past u segments
cut_unit least past u NothingWritten segments = Nothing
cut_unit least past u (LeftOut left) segments = Nothing

abbrev pub cut_with : ℕ → List Item → Item → List Segment → Cut
cut_with least past Begin segments = Nothing
cut_with least past (AUnit u) segments = cut_unit least past u (wrote_of past (AUnit u)) segments
cut_with least past End segments = Nothing

-- WHAT AN ITEM DOES to the segments of those before it
abbrev pub cut_of : ℕ → List Item → Item → Cut
cut_of least past item = cut_with least past item (segments least past)

-- the most segments that there are
abbrev pub most_segments : ℕ
most_segments = 100000

abbrev pub is_further : Cut → Bool
is_further Next = true
is_further First = false
is_further Same = false
is_further Nothing = false

-- an item would begin a segment more
abbrev pub is_too_many : ℕ → List Item → Item → Bool
is_too_many least past item = is_further (cut_of least past item) && not (nat_lt (length (segments least past)) most_segments)

-- ---- spans

-- that of the last segment: to its last unit, or 0 where that would be a step back
abbrev pub last_span : ℕ → ℕ → ℕ
last_span first last = if nat_lt (since first last) (2 ^ 31) then since first last else 0

-- those of segments before one that begins then
abbrev pub spans_before : ℕ → List Segment → List ℕ
spans_before next [] = []
spans_before next (s ∷ earlier) = since s.opener.time next ∷ spans_before s.opener.time earlier

-- THE SPANS of segments, in milliseconds: each but the last reaches to the next segment's first unit
abbrev pub spans : List Segment → List ℕ
spans [] = []
spans (s ∷ earlier) = last_span s.opener.time s.last ∷ spans_before s.opener.time earlier

-- ---- what is left out

abbrev pub is_left_out : Wrote → Bool
is_left_out (LeftOut left) = true
is_left_out AWritten = false
is_left_out NothingWritten = false

-- WHETHER AN ITEM of these is left out of their transport stream
abbrev pub some_left_out : List Item → Bool
some_left_out [] = false
some_left_out (item ∷ past) = is_left_out (wrote_of past item) || some_left_out past
