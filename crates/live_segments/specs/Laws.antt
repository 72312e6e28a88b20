-- What holds of the live segments of all items. The newest stand first.
use Rattle.std.specs.Prelude.{◌≡◌, ◌⊎◌, ◌≤◌, ℕ, ◌+◌, Bool, true, false, ◌||◌, List, [], ◌∷◌, ◌++◌, length, drop}
use Rattle.av_unit.specs.declared.unit.Kind.TheVariants.{Key, Audio}
use Rattle.av_unit.specs.declared.item.Item.{Item}
use Rattle.av_unit.specs.declared.item.Item.TheVariants.{Begin, Unit as AUnit, End}
use Rattle.ts_writer.specs.Text.{in_force, item_text, listed, ts_text, wrote_of}
use Rattle.ts_writer.specs.declared.left.Wrote.{Wrote}
use Rattle.ts_writer.specs.declared.left.Wrote.TheVariants.{Unit as AWritten, Nothing as NothingWritten, LeftOut}
use Rattle.live_segments.specs.declared.cut.Cut.{Cut}
use Rattle.live_segments.specs.declared.cut.Cut.TheVariants.{First, Next, Marked, Same, Nothing}
use Rattle.hls_segments.specs.Playlist.{rounded}
use Rattle.hls_segments.specs.Laws.{BeginsWithTables, Each}
use Rattle.live_segments.specs.declared.cutter.Row.{Row}
use Rattle.live_segments.specs.Live.{Segment, cut_of, ended_rows, live, run, stream}
use Rattle.live_segments.specs.Listing.{longest, marks, shown}

abbrev pub together : List Segment → List ℕ
together [] = []
together (s ∷ earlier) = together earlier ++ s.bytes

-- the bytes are those of its first unit, with what stands before it, and of more
abbrev pub BeginsWithOpener : Segment → Type 0
BeginsWithOpener s = (more : List ℕ) × (s.bytes ≡ item_text s.before (AUnit s.opener) ++ more)

-- a keyframe, or an audio frame if no video is listed
abbrev pub OpensWell : Segment → Type 0
OpensWell s = (s.opener.kind ≡ Key) ⊎ ((s.opener.kind ≡ Audio) × ((listed (in_force s.before)).video ≡ false))

-- THE LIVE SEGMENTS OF ITEMS: one after the other they are the bytes that were kept, and each begins with both tables and a
-- keyframe (or an audio frame if no video is listed), the first too
pub record AreLive (target : ℕ) (items : List Item) : Type 0 where
  pub whole : together (live target items).segments ≡ stream target items
  pub tables : Each (λ s. BeginsWithTables s.bytes) (live target items).segments
  pub openers : Each BeginsWithOpener (live target items).segments
  pub begun : Each OpensWell (live target items).segments

-- the target duration is no less than each span of a row, rounded (RFC 8216, 4.3.3.1)
abbrev pub CoversAll : ℕ → List Row → Type 0
CoversAll target rows = Each (λ r. rounded r.span ≤ longest target rows) rows

-- what a playlist tells of the ended ones doesn't go back from some rows to others
pub record NeverBack (target keep : ℕ) (before after : List Row) : Type 0 where
  pub sequence : length (drop keep before) ≤ length (drop keep after)
  pub marks_gone : marks (drop keep before) ≤ marks (drop keep after)
  pub target_duration : longest target before ≤ longest target after

-- THE NUMBERS NEVER GO BACK, however many items come
abbrev pub NumbersGoOn : ℕ → ℕ → List Item → List Item → Type 0
NumbersGoOn target keep past more =
    NeverBack target keep (ended_rows (live target past).segments) (ended_rows (live target (more ++ past)).segments)

-- AT MOST THE NUMBER THAT IS KEPT IS LISTED of those that have ended, and with those that have left they are all
pub record IsBounded (keep : ℕ) (rows : List Row) : Type 0 where
  pub few : length (shown keep rows) ≤ keep
  pub all : length (drop keep rows) + length (shown keep rows) ≡ length rows

-- a unit that is written, but isn't kept
abbrev pub is_held : Wrote → Cut → Bool
is_held AWritten Nothing = true
is_held AWritten First = false
is_held AWritten Next = false
is_held AWritten Marked = false
is_held AWritten Same = false
is_held NothingWritten cut = false
is_held (LeftOut left) cut = false

abbrev pub some_held : ℕ → List Item → Bool
some_held target [] = false
some_held target (item ∷ past) = is_held (wrote_of (run past) item) (cut_of target past item) || some_held target past

-- the text of broadcasts one after the other, each of which begins anew
abbrev pub texts : List Item → List ℕ
texts [] = []
texts (item ∷ past) = texts past ++ item_text (run past) item

abbrev pub some_begin : List Item → Bool
some_begin [] = false
some_begin (Begin ∷ past) = true
some_begin (AUnit u ∷ past) = some_begin past
some_begin (End ∷ past) = some_begin past

-- it has behind a Begin the transport stream of that broadcast alone
abbrev pub IsText : List Item → List Item → Type 0
IsText past more = some_begin more ≡ false → texts (more ++ Begin ∷ past) ≡ texts past ++ ts_text (more ++ Begin ∷ [])

-- IF NONE IS HELD, the bytes are the text of the broadcasts
abbrev pub IsWholeUnlessHeld : ℕ → List Item → Type 0
IsWholeUnlessHeld target items = some_held target items ≡ false → stream target items ≡ texts items
