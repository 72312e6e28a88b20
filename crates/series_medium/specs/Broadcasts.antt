-- THE BROADCASTS of items, and their files
use Rattle.std.specs.Prelude.{ℕ, List, [], ◌∷◌, ◌++◌, map, fold, flat_map, Option, Some, None, option_to_list}
use Rattle.av_unit.specs.declared.item.Item.{Item}
use Rattle.av_unit.specs.declared.item.Item.TheVariants.{Begin, Unit as AUnit, End}
use Rattle.flv_tags.specs.Text.{flv_text, item_bytes}
use Rattle.media_recorder.specs.Transport.{recorded_text}
use Rattle.file_series.specs.Series.{Ended, Series}

-- the broadcasts that are over, and the items of the one that goes on
pub record Broadcasts : Type 0 where
  pub over : List (List Item)
  pub now : List Item

abbrev pub none_on_air : Broadcasts
none_on_air = record { over = []; now = [] }

-- with the one that goes on over, if it has an item
abbrev pub with_over : List (List Item) → List Item → List (List Item)
with_over over [] = over
with_over over (item ∷ items) = over ++ (item ∷ items) ∷ []

-- A broadcast goes from its Begin up to its End, or up to the next Begin if its End isn't there. Items before the first Begin are
-- the rest of one whose Begin isn't there
abbrev pub with_item : Broadcasts → Item → Broadcasts
with_item b Begin = record { over = with_over b.over b.now; now = Begin ∷ [] }
with_item b (AUnit unit) = record { over = b.over; now = b.now ++ AUnit unit ∷ [] }
with_item b End = record { over = with_over b.over (b.now ++ End ∷ []); now = [] }

abbrev pub broadcasts : List Item → Broadcasts
broadcasts items = fold with_item none_on_air items

-- a file of that text if something is written, else none
abbrev pub if_any : List ℕ → List ℕ → Option (List ℕ)
if_any [] text = None
if_any (byte ∷ written) text = Some text

-- the file of a broadcast: its FLV text, if it has a tag
abbrev pub flv_file : List Item → Option (List ℕ)
flv_file items = if_any (flat_map item_bytes items) (flv_text items)

-- its transport stream text, if that has a packet
abbrev pub ts_file : List Item → Option (List ℕ)
ts_file items = if_any (recorded_text items) (recorded_text items)

abbrev pub ended_files : Option (List ℕ) → List Ended
ended_files file = map (λ bytes. record { bytes = bytes; listing = None }) (option_to_list file)

-- THE FILES of broadcasts, in order: those of which nothing is written have none, and the last is open while its broadcast goes on
abbrev pub files_of : (List Item → Option (List ℕ)) → Broadcasts → Series
files_of file b = record { ended = flat_map (λ items. ended_files (file items)) b.over; last = file b.now }
