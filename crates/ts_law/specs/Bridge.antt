-- The units that a transport stream carries of items, and what is read of their text. Lists of items and of
-- parts have the newest first.
use Rattle.std.specs.Prelude.{◌≡◌, List, [], ◌∷◌, ◌++◌, Option, Some, None, Ok, Err, option_to_list}
use Rattle.av_unit.specs.declared.item.Item.{Item}
use Rattle.pes_packets.specs.Tables.{audio_pid, pat_pid, pmt_pid, video_pid}
use Rattle.ts_writer.specs.declared.part.Part.{Part}
use Rattle.ts_writer.specs.declared.part.Streams.{Streams}
use Rattle.ts_writer.specs.Parts.{counter, lists_of}
use Rattle.ts_writer.specs.Text.{Reading, in_force, parts, reading, ts_text}
use Rattle.ts_reader.specs.declared.unit.TsUnit.{TsUnit}
use Rattle.ts_reader.specs.Mux.{Mux, nothing_listed}
use Rattle.ts_reader.specs.Sections.{Listed}
use Rattle.ts_reader.specs.Reads.{Ends}
use Rattle.ts_law.specs.Pes.{unit_of}

-- what is carried of an item
abbrev pub carried : Reading → List TsUnit
carried (Ok None) = []
carried (Ok (Some f)) = unit_of f ∷ []
carried (Err left) = []

-- THE BRIDGED UNITS, the oldest first: each picture and each sound that isn't left out, with its times. No
-- packet, counter or table stands in this definition
abbrev pub bridge : List Item → List TsUnit
bridge [] = []
bridge (item ∷ past) = bridge past ++ carried (reading (in_force past) item)

-- the streams of the last map
abbrev pub listed_last : List Streams → Listed
listed_last [] = nothing_listed
listed_last (s ∷ earlier) = record { video = s.video; audio = s.audio }

-- what is kept behind parts: the counter that the next packet of each PID has, and the streams that were listed last
pub record Keeps (ps : List Part) (m : Mux) : Type 0 where
  pub pat : m.pat ≡ counter pat_pid ps
  pub pmt : m.pmt ≡ counter pmt_pid ps
  pub video : m.video ≡ counter video_pid ps
  pub audio : m.audio ≡ counter audio_pid ps
  pub listed : m.listed ≡ listed_last (lists_of ps)

-- THE TEXT IS READ: its packets give the bridged units but for the last, which the end gives
pub record IsReadBack (items : List Item) : Type 0 where
  pub units : List TsUnit
  pub last : Option TsUnit
  pub ends : Ends (ts_text items) units last
  pub keeps : Keeps (parts items) ends.m
  pub all : units ++ option_to_list last ≡ bridge items
