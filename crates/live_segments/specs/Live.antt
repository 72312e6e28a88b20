-- THE LIVE SEGMENTS of a stream, which follow its broadcasts. Lists of items, segments and rows have the newest first.
use Rattle.std.specs.Prelude.{ℕ, Bool, true, false, ◌||◌, if◌then◌else◌, List, [], ◌∷◌, ◌++◌, Option, Some, None}
use Rattle.av_unit.specs.Media.{Media}
use Rattle.av_unit.specs.declared.item.Item.{Item}
use Rattle.av_unit.specs.declared.item.Item.TheVariants.{Begin, Unit as AUnit, End}
use Rattle.ts_writer.specs.declared.left.Wrote.{Wrote}
use Rattle.ts_writer.specs.declared.left.Wrote.TheVariants.{Unit as AWritten, Nothing as NothingWritten, LeftOut}
use Rattle.ts_writer.specs.Text.{item_text, wrote_of}
use Rattle.hls_segments.specs.Cuts.{last_span, may_begin, since}
use Rattle.live_segments.specs.declared.cut.Cut.{Cut}
use Rattle.live_segments.specs.declared.cut.Cut.TheVariants.{First, Next, Marked, Same, Nothing}
use Rattle.live_segments.specs.declared.cutter.Way.{Way}
use Rattle.live_segments.specs.declared.cutter.Way.TheVariants.{Break, Hold, Split, Join}
use Rattle.live_segments.specs.declared.cutter.Row.{Row}
use Rattle.live_segments.specs.Ways.{goes_back, is_sound, long_by, way_of}

-- a segment: the items before its first unit, that unit, whether it is marked, the time of the last unit in it at which a segment
-- may begin, the time of its last unit, and its bytes
pub record Segment : Type 0 where
  pub before : List Item
  pub opener : Media
  pub marked : Bool
  pub turn : ℕ
  pub last : ℕ
  pub bytes : List ℕ

-- the segments, the newest of which is open; whether nothing is written until a unit may begin one; and the times of the last
-- video frame and the last audio frame since the last break
pub record Live : Type 0 where
  pub segments : List Segment
  pub owed : Bool
  pub picture : Option ℕ
  pub sound : Option ℕ

-- before the first item the first segment is owed
abbrev pub none_yet : Live
none_yet = record { segments = []; owed = true; picture = None; sound = None }

abbrev pub opened : List Item → Media → Bool → Segment
opened past u marked = record { before = past; opener = u; marked = marked; turn = u.time; last = u.time; bytes = item_text past (AUnit u) }

abbrev pub turn_by : Bool → ℕ → ℕ → ℕ
turn_by may time before = if may then time else before

abbrev pub longer : List Item → Media → Segment → Segment
longer past u s = record { before = s.before; opener = s.opener; marked = s.marked; turn = turn_by (may_begin past u) u.time s.turn; last = u.time; bytes = s.bytes ++ item_text past (AUnit u) }

abbrev pub some : List Segment → Bool
some [] = false
some (s ∷ earlier) = true

abbrev pub turns : List Segment → Option (ℕ × ℕ)
turns [] = None
turns (s ∷ earlier) = Some (s.opener.time, s.turn)

abbrev pub joined : List Item → Media → List Segment → List Segment
joined past u [] = opened past u false ∷ []
joined past u (s ∷ earlier) = longer past u s ∷ earlier

-- the last time of a unit's track
abbrev pub track_time : Bool → Option ℕ → Option ℕ → Option ℕ
track_time sound p s = if sound then s else p

abbrev pub picture_by : Bool → ℕ → Option ℕ → Option ℕ
picture_by sound time p = if sound then p else Some time

abbrev pub sound_by : Bool → ℕ → Option ℕ → Option ℕ
sound_by sound time s = if sound then Some time else s

abbrev pub with_way : Way → List Item → Media → Live → Live
with_way Break past u l = record {
  segments = opened past u (some l.segments) ∷ l.segments;
  owed = false;
  picture = picture_by (is_sound u.kind) u.time None;
  sound = sound_by (is_sound u.kind) u.time None;
}
with_way Hold past u l = record { segments = l.segments; owed = true; picture = l.picture; sound = l.sound }
with_way Split past u l = record {
  segments = opened past u false ∷ l.segments;
  owed = false;
  picture = picture_by (is_sound u.kind) u.time l.picture;
  sound = sound_by (is_sound u.kind) u.time l.sound;
}
with_way Join past u l = record {
  segments = joined past u l.segments;
  owed = false;
  picture = picture_by (is_sound u.kind) u.time l.picture;
  sound = sound_by (is_sound u.kind) u.time l.sound;
}

-- whether a unit comes after a break, or is one
abbrev pub is_broken : Media → Live → Bool
is_broken u l = l.owed || goes_back (track_time (is_sound u.kind) l.picture l.sound) u.time

-- WHAT A UNIT THAT IS WRITTEN DOES
abbrev pub way : ℕ → List Item → Media → Live → Way
way target past u l = way_of (is_broken u l) (may_begin past u) (long_by target u.time (turns l.segments))

abbrev pub with_unit : ℕ → List Item → Media → Wrote → Live → Live
with_unit target past u AWritten l = with_way (way target past u l) past u l
with_unit target past u NothingWritten l = l
with_unit target past u (LeftOut left) l = l

-- a broadcast that begins is a break; that one ends isn't
abbrev pub with_item : ℕ → List Item → Item → Live → Live
with_item target past Begin l = record { segments = l.segments; owed = true; picture = l.picture; sound = l.sound }
with_item target past (AUnit u) l = with_unit target past u (wrote_of past (AUnit u)) l
with_item target past End l = l

-- the items since the last broadcast began, with its marker: a broadcast's text begins anew
abbrev pub run : List Item → List Item
run [] = []
run (Begin ∷ past) = Begin ∷ []
run (AUnit u ∷ past) = AUnit u ∷ run past
run (End ∷ past) = End ∷ run past

-- THE LIVE SEGMENTS of items
abbrev pub live : ℕ → List Item → Live
live target [] = none_yet
live target (item ∷ past) = with_item target (run past) item (live target past)

-- what is answered
abbrev pub cut_by : Way → Bool → Cut
cut_by Break before = if before then Marked else First
cut_by Hold before = Nothing
cut_by Split before = Next
cut_by Join before = if before then Same else First

abbrev pub cut_unit : ℕ → List Item → Media → Wrote → Live → Cut
cut_unit target past u AWritten l = cut_by (way target past u l) (some l.segments)
cut_unit target past u NothingWritten l = Nothing
cut_unit target past u (LeftOut left) l = Nothing

abbrev pub cut_with : ℕ → List Item → Item → Live → Cut
cut_with target past Begin l = Nothing
cut_with target past (AUnit u) l = cut_unit target past u (wrote_of past (AUnit u)) l
cut_with target past End l = Nothing

-- WHAT AN ITEM DOES to the segments of those before it
abbrev pub cut_of : ℕ → List Item → Item → Cut
cut_of target past item = cut_with target (run past) item (live target past)

-- THE BYTES that an item adds: its text, if it is kept
abbrev pub kept_text : Cut → List ℕ → List ℕ
kept_text Nothing text = []
kept_text First text = text
kept_text Next text = text
kept_text Marked text = text
kept_text Same text = text

-- a unit of which nothing is kept: it can't be written, or is held
abbrev pub is_lost : Wrote → Cut → Bool
is_lost AWritten Nothing = true
is_lost AWritten First = false
is_lost AWritten Next = false
is_lost AWritten Marked = false
is_lost AWritten Same = false
is_lost NothingWritten cut = false
is_lost (LeftOut left) cut = true

-- WHETHER A UNIT IS LEFT OUT
abbrev pub some_lost : ℕ → List Item → Bool
some_lost target [] = false
some_lost target (item ∷ past) = is_lost (wrote_of (run past) item) (cut_of target past item) || some_lost target past

abbrev pub item_bytes : ℕ → List Item → Item → List ℕ
item_bytes target past item = kept_text (cut_of target past item) (item_text (run past) item)

abbrev pub stream : ℕ → List Item → List ℕ
stream target [] = []
stream target (item ∷ past) = stream target past ++ item_bytes target past item

-- ---- the segments that have ended

-- the span of one before another: to the next one's first unit, but before a mark to its own last unit
abbrev pub span_before : Bool → ℕ → Segment → ℕ
span_before marked time s = if marked then last_span s.opener.time s.last else since s.opener.time time

abbrev pub row_before : Bool → ℕ → Segment → Row
row_before marked time s = record { span = span_before marked time s; marked = s.marked }

abbrev pub rows_before : Bool → ℕ → List Segment → List Row
rows_before marked time [] = []
rows_before marked time (s ∷ earlier) = row_before marked time s ∷ rows_before s.marked s.opener.time earlier

-- THE ENDED ONES: all but the newest
abbrev pub ended_rows : List Segment → List Row
ended_rows [] = []
ended_rows (s ∷ earlier) = rows_before s.marked s.opener.time earlier

-- and the open one, once nothing follows
abbrev pub open_row : List Segment → List Row
open_row [] = []
open_row (s ∷ earlier) = record { span = last_span s.opener.time s.last; marked = s.marked } ∷ []
