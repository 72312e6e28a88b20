-- Only proofs and private functions use it.
-- What a segmenter keeps: of the open segment its ends, and of the ended ones the last rows and what is known of all
use Rattle.std.specs.Prelude.{◌≡◌, ◌≤◌, ℕ, ◌+◌, Bool, true, false, ◌||◌, ◌^◌, nat_lt, nat_le, if◌then◌else◌, max, List, [], ◌∷◌, ◌++◌, length, drop, is_some, option_map, option_to_list, Option, Some, None}
use Rattle.av_unit.specs.declared.item.Item.{Item}
use Rattle.av_unit.specs.declared.item.Item.TheVariants.{Begin, Unit as AUnit, End}
use Rattle.av_unit.specs.Media.{Media}
use Rattle.ts_writer.specs.declared.left.Wrote.{Wrote}
use Rattle.ts_writer.specs.declared.left.Wrote.TheVariants.{Unit as AWritten, Nothing as NothingWritten, LeftOut}
use Rattle.ts_writer.specs.Known.{TsKnown, fresh as new_writer}
use Rattle.ts_writer.specs.Text.{in_force}
use Rattle.hls_segments.specs.Cuts.{last_span, since}
use Rattle.hls_segments.specs.Opens.{opens}
use Rattle.hls_segments.specs.Playlist.{rounded}
use Rattle.live_segments.specs.declared.cut.Cut.{Cut}
use Rattle.live_segments.specs.declared.cut.Cut.TheVariants.{Nothing}
use Rattle.live_segments.specs.declared.cut.CutFail.{CutFail}
use Rattle.live_segments.specs.declared.cutter.Way.{Way}
use Rattle.live_segments.specs.declared.cutter.Way.TheVariants.{Break, Hold, Split, Join}
use Rattle.live_segments.specs.declared.cutter.Row.{Row}
use Rattle.live_segments.specs.declared.cutter.Ends.{Ends}
use Rattle.live_segments.specs.declared.cutter.Cutter.{Cutter}
use Rattle.live_segments.specs.Ways.{goes_back, is_sound, long_by, way_of}
use Rattle.live_segments.specs.Live.{Live, Segment, cut_by, ended_rows, live, picture_by, run, some_lost, sound_by, track_time, turn_by}
use Rattle.live_segments.specs.Listing.{longest, marks, shown, text_of}

-- ---- the open segment

abbrev pub ends_at : Bool → ℕ → Ends
ends_at marked time = record { first = time; turn = time; last = time; marked = marked }

abbrev pub turns_of : Option Ends → Option (ℕ × ℕ)
turns_of None = None
turns_of (Some e) = Some (e.first, e.turn)

abbrev pub way_at : ℕ → Bool → Bool → ℕ → Cutter → Way
way_at target may sound time c = way_of (c.owed || goes_back (track_time sound c.picture c.sound) time) may (long_by target time (turns_of c.at))

abbrev pub joined_at : Bool → ℕ → Option Ends → Option Ends
joined_at may time None = Some (ends_at false time)
joined_at may time (Some e) = Some (record { first = e.first; turn = turn_by may time e.turn; last = time; marked = e.marked })

-- with one unit more
abbrev pub moved : Way → Bool → Bool → ℕ → Cutter → Cutter
moved Break may sound time c = record { at = Some (ends_at (is_some c.at) time); owed = false; picture = picture_by sound time None; sound = sound_by sound time None }
moved Hold may sound time c = record { at = c.at; owed = true; picture = c.picture; sound = c.sound }
moved Split may sound time c = record { at = Some (ends_at false time); owed = false; picture = picture_by sound time c.picture; sound = sound_by sound time c.sound }
moved Join may sound time c = record { at = joined_at may time c.at; owed = false; picture = picture_by sound time c.picture; sound = sound_by sound time c.sound }

abbrev pub broke : Cutter → Cutter
broke c = record { at = c.at; owed = true; picture = c.picture; sound = c.sound }

abbrev pub row_own : Ends → Row
row_own e = record { span = last_span e.first e.last; marked = e.marked }

abbrev pub row_to : ℕ → Ends → Row
row_to time e = record { span = since e.first time; marked = e.marked }

-- the row of the segment that ends with it
abbrev pub row_by : Way → ℕ → Option Ends → Option Row
row_by Break time o = option_map row_own o
row_by Hold time o = None
row_by Split time o = option_map (row_to time) o
row_by Join time o = None

-- ---- the ended ones

pub record Kept : Type 0 where
  -- the last ones, the oldest first
  pub last : List Row
  -- how many ended before these, and how many of them were marked
  pub first : ℕ
  pub gone : ℕ
  pub most : ℕ

abbrev pub kept_of : ℕ → ℕ → List Row → Kept
kept_of target keep rows = record { last = shown keep rows; first = length (drop keep rows); gone = marks (drop keep rows); most = longest target rows }

abbrev pub at_of : List Segment → Option Ends
at_of [] = None
at_of (s ∷ earlier) = Some (record { first = s.opener.time; turn = s.turn; last = s.last; marked = s.marked })

abbrev pub cutter_of : Live → Cutter
cutter_of l = record { at = at_of l.segments; owed = l.owed; picture = l.picture; sound = l.sound }

abbrev pub mark_of : Bool → ℕ
mark_of marked = if marked then 1 else 0

abbrev pub first_mark : List Row → ℕ
first_mark [] = 0
first_mark (r ∷ more) = mark_of r.marked

-- with a row more
abbrev pub trimmed : Bool → List Row → ℕ → ℕ → ℕ → Kept
trimmed true last first gone most = record { last = drop 1 last; first = first + 1; gone = gone + first_mark last; most = most }
trimmed false last first gone most = record { last = last; first = first; gone = gone; most = most }

abbrev pub pushed : ℕ → Row → Kept → Kept
pushed keep r k = trimmed (nat_lt keep (length (k.last ++ r ∷ []))) (k.last ++ r ∷ []) k.first k.gone (max k.most (rounded r.span))

abbrev pub kept_with : ℕ → Option Row → Kept → Kept
kept_with keep None k = k
kept_with keep (Some r) k = pushed keep r k

abbrev pub most_segments : ℕ
most_segments = 2 ^ 63

abbrev pub is_full : Kept → Bool
is_full k = nat_le most_segments k.first || nat_le most_segments k.gone

-- ---- what an item does, by what its writer answered and appended

abbrev pub unit_cut : ℕ → Bool → Media → Wrote → List ℕ → Cutter → Cut
unit_cut target pictures u AWritten text c = cut_by (way_at target (opens u.kind pictures text) (is_sound u.kind) u.time c) (is_some c.at)
unit_cut target pictures u NothingWritten text c = Nothing
unit_cut target pictures u (LeftOut left) text c = Nothing

abbrev pub unit_moved : ℕ → Bool → Media → Wrote → List ℕ → Cutter → Cutter
unit_moved target pictures u AWritten text c = moved (way_at target (opens u.kind pictures text) (is_sound u.kind) u.time c) (opens u.kind pictures text) (is_sound u.kind) u.time c
unit_moved target pictures u NothingWritten text c = c
unit_moved target pictures u (LeftOut left) text c = c

abbrev pub unit_row : ℕ → Bool → Media → Wrote → List ℕ → Cutter → Option Row
unit_row target pictures u AWritten text c = row_by (way_at target (opens u.kind pictures text) (is_sound u.kind) u.time c) u.time c.at
unit_row target pictures u NothingWritten text c = None
unit_row target pictures u (LeftOut left) text c = None

abbrev pub item_cut : ℕ → Bool → Item → Wrote → List ℕ → Cutter → Cut
item_cut target pictures Begin wrote text c = Nothing
item_cut target pictures (AUnit u) wrote text c = unit_cut target pictures u wrote text c
item_cut target pictures End wrote text c = Nothing

abbrev pub item_moved : ℕ → Bool → Item → Wrote → List ℕ → Cutter → Cutter
item_moved target pictures Begin wrote text c = broke c
item_moved target pictures (AUnit u) wrote text c = unit_moved target pictures u wrote text c
item_moved target pictures End wrote text c = c

abbrev pub item_row : ℕ → Bool → Item → Wrote → List ℕ → Cutter → Option Row
item_row target pictures Begin wrote text c = None
item_row target pictures (AUnit u) wrote text c = unit_row target pictures u wrote text c
item_row target pictures End wrote text c = None

-- ---- the text

abbrev pub open_if : Bool → Cutter → Option Row
open_if true c = option_map row_own c.at
open_if false c = None

abbrev pub most_with : ℕ → Option Row → ℕ
most_with most None = most
most_with most (Some r) = max most (rounded r.span)

abbrev pub kept_listing : List ℕ → Bool → Kept → Cutter → List ℕ
kept_listing name ended k c = text_of name (most_with k.most (open_if ended c)) k.first k.gone (k.last ++ option_to_list (open_if ended c)) ended

-- the writer that is given an item
abbrev pub renewed : Item → TsKnown → TsKnown
renewed Begin w = new_writer
renewed (AUnit u) w = w
renewed End w = w

-- ---- what a segmenter keeps true

pub record IsPast (writer : TsKnown) (pictures : Bool) (past : List Item) : Type 0 where
  pub same : writer.past ≡ run past
  pub whole : writer.broken ≡ false
  pub listed : pictures ≡ is_some (in_force (run past)).video

pub record IsSound (target keep : ℕ) (writer : TsKnown) (pictures lost : Bool) (cutter : Cutter) (kept : Kept) (failed : Option CutFail) (past : List Item) : Type 0 where
  pub cutter_is : cutter ≡ cutter_of (live target past)
  pub lost_is : lost ≡ some_lost target past
  pub kept_is : kept ≡ kept_of target keep (ended_rows (live target past).segments)
  pub goes_on : failed ≡ None → IsPast writer pictures past

-- numbers from it on are numbers of 64 bits
abbrev pub IsWithin : ℕ → Type 0
IsWithin first = first ≤ 2 ^ 63
