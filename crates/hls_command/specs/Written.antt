-- What the items of a film write into a series of files. Lists of items have the newest first.
use Rattle.std.specs.Prelude.{◌≡◌, ◌⊎◌, ℕ, Bool, true, false, List, [], ◌∷◌, Option, Some, option_map}
use Rattle.av_unit.specs.declared.item.Item.{Item}
use Rattle.file_series.specs.Series.{NextFails, PutsPart, Series, after_next, took}
use Rattle.live_segments.specs.declared.cut.Cut.{Cut}
use Rattle.live_segments.specs.declared.cut.Cut.TheVariants.{First, Next, Marked, Same, Nothing}
use Rattle.live_segments.specs.Listing.{playlist}
use Rattle.live_segments.specs.Live.{cut_of, item_bytes, live}
use Rattle.hls_command.specs.Words.{Asked}

-- the listing of the segments that have ended, or at the end of all
abbrev pub listing : Asked → List Item → Bool → List ℕ
listing a past ended = playlist a.name a.target a.keep (live a.target past).segments ended

-- what an item does, with these bytes: the next segment ends the file before it, with that listing
abbrev pub with_cut : Cut → List ℕ → List ℕ → Series → Series
with_cut First bytes list s = took bytes s
with_cut Next bytes list s = took bytes (after_next (Some list) s)
with_cut Marked bytes list s = took bytes (after_next (Some list) s)
with_cut Same bytes list s = took bytes s
with_cut Nothing bytes list s = s

-- WHAT ITEMS WRITE
abbrev pub written : Asked → List Item → Series → Series
written a [] s = s
written a (item ∷ past) s = with_cut (cut_of a.target past item) (item_bytes a.target past item) (listing a (item ∷ past) false) (written a past s)

-- and at their end: the last file ends with the last listing
abbrev pub finished : Asked → List Item → Series → Series
finished a past s = after_next (Some (listing a past true)) (written a past s)

-- ---- a part

-- a part of what an item does
abbrev pub CutPart : Cut → List ℕ → List ℕ → Option Series → Option Series → Type 0
CutPart First bytes list before now = PutsPart bytes before now
CutPart Next bytes list before now = NextFails before now ⊎ PutsPart bytes (option_map (after_next (Some list)) before) now
CutPart Marked bytes list before now = NextFails before now ⊎ PutsPart bytes (option_map (after_next (Some list)) before) now
CutPart Same bytes list before now = PutsPart bytes before now
CutPart Nothing bytes list before now = now ≡ before

-- all items but the last, and a part of what that does
pub record WritesItem (a : Asked) (past : List Item) (before now : Option Series) : Type 0 where
  pub older : List Item
  pub item : Item
  pub past_is : past ≡ item ∷ older
  pub part : CutPart (cut_of a.target older item) (item_bytes a.target older item) (listing a past false) (option_map (written a older) before) now

-- A PART OF WHAT ITEMS WRITE: the last item in part; or all items, and the last file may have ended without a listing
abbrev pub WritesPart : Asked → List Item → Option Series → Option Series → Type 0
WritesPart a past before now = WritesItem a past before now ⊎ NextFails (option_map (written a past) before) now
