-- The transport stream of items. Lists of items have the newest first.
use Rattle.std.specs.Prelude.{ℕ, true, false, is_some, if◌then◌else◌, List, [], ◌∷◌, ◌++◌, Option, Some, None, Result, Ok, Err}
use Rattle.av_unit.specs.declared.unit.Kind.{Kind}
use Rattle.av_unit.specs.declared.unit.Kind.TheVariants.{Meta, VConfig, AConfig, Key, Inter, Spare, Audio, Data}
use Rattle.av_unit.specs.declared.item.Item.{Item}
use Rattle.av_unit.specs.declared.item.Item.TheVariants.{Begin, Unit as AUnit, End}
use Rattle.avc_annexb.specs.Record.{Config as AvcConfig}
use Rattle.aac_adts.specs.Config.{Config as AacConfig}
use Rattle.ts_writer.specs.declared.left.Left.{Left}
use Rattle.ts_writer.specs.declared.left.Wrote.{Wrote}
use Rattle.ts_writer.specs.declared.left.Wrote.TheVariants.{Unit as AWritten, Nothing, LeftOut}
use Rattle.ts_writer.specs.declared.in_force.InForce.{InForce}
use Rattle.ts_writer.specs.declared.framed.Framed.{Framed}
use Rattle.ts_writer.specs.declared.part.Streams.{Streams}
use Rattle.ts_writer.specs.declared.part.Part.{Part}
use Rattle.ts_writer.specs.declared.part.Part.TheVariants.{Start, Tables, Pes}
use Rattle.ts_writer.specs.Frames.{Frame, video_config, audio_config, video_frame, audio_frame, framed}
use Rattle.ts_writer.specs.Parts.{tables_due, flags_of, text_behind, with_parts}

-- what was read, if it wasn't refused
abbrev pub read_or_none : {X : Type 0} → Result X Left → Option X
read_or_none (Ok x) = Some x
read_or_none (Err e) = None

-- the video configuration in force after an item: that of the item, if it can be read; none after a Begin
abbrev pub video_by : Option AvcConfig → Kind → List ℕ → Option AvcConfig
video_by before VConfig body = read_or_none (video_config body)
video_by before Meta body = before
video_by before AConfig body = before
video_by before Key body = before
video_by before Inter body = before
video_by before Spare body = before
video_by before Audio body = before
video_by before Data body = before

abbrev pub video_after : Option AvcConfig → Item → Option AvcConfig
video_after before Begin = None
video_after before (AUnit u) = video_by before u.kind u.body
video_after before End = before

-- and the audio configuration
abbrev pub audio_by : Option AacConfig → Kind → List ℕ → Option AacConfig
audio_by before AConfig body = read_or_none (audio_config body)
audio_by before Meta body = before
audio_by before VConfig body = before
audio_by before Key body = before
audio_by before Inter body = before
audio_by before Spare body = before
audio_by before Audio body = before
audio_by before Data body = before

abbrev pub audio_after : Option AacConfig → Item → Option AacConfig
audio_after before Begin = None
audio_after before (AUnit u) = audio_by before u.kind u.body
audio_after before End = before

abbrev pub none_in_force : InForce
none_in_force = record { video = None; audio = None }

abbrev pub in_force_after : InForce → Item → InForce
in_force_after s item = record { video = video_after s.video item; audio = audio_after s.audio item }

-- THE CONFIGURATIONS IN FORCE after items: of each kind the last since the last Begin, if it can be read
abbrev pub in_force : List Item → InForce
in_force [] = none_in_force
in_force (item ∷ past) = in_force_after (in_force past) item

-- a stream is listed while its configuration is in force
abbrev pub listed : InForce → Streams
listed s = record { video = is_some s.video; audio = is_some s.audio }

-- what is read of an item: a frame, nothing, or why it is left out
abbrev pub Reading : Type 0
Reading = Result (Option Frame) Left

abbrev pub nothing_of : {X : Type 0} → Result X Left → Reading
nothing_of (Ok x) = Ok None
nothing_of (Err e) = Err e

abbrev pub frame_in : Result Frame Left → Reading
frame_in (Ok f) = Ok (Some f)
frame_in (Err e) = Err e

abbrev pub reading_of : InForce → Kind → ℕ → List ℕ → Reading
reading_of s Meta time body = Ok None
reading_of s VConfig time body = nothing_of (video_config body)
reading_of s AConfig time body = nothing_of (audio_config body)
reading_of s Key time body = frame_in (video_frame s.video true time body)
reading_of s Inter time body = frame_in (video_frame s.video false time body)
reading_of s Spare time body = frame_in (video_frame s.video false time body)
reading_of s Audio time body = frame_in (audio_frame s.audio time body)
reading_of s Data time body = Ok None

abbrev pub reading : InForce → Item → Reading
reading s Begin = Ok None
reading s (AUnit u) = reading_of s u.kind u.time u.body
reading s End = Ok None

-- the same with the frame's PES packet
abbrev pub made_of : Reading → Result (Option Framed) Left
made_of (Ok None) = Ok None
made_of (Ok (Some f)) = Ok (Some (framed f))
made_of (Err e) = Err e

-- WHAT IS ANSWERED
abbrev pub wrote_by : Reading → Wrote
wrote_by (Ok None) = Nothing
wrote_by (Ok (Some f)) = AWritten
wrote_by (Err e) = LeftOut e

abbrev pub wrote_of : List Item → Item → Wrote
wrote_of past item = wrote_by (reading (in_force past) item)

-- the part of a frame behind others
abbrev pub part_of : Streams → Framed → List Part → Part
part_of s f before = Pes (record { video = f.video; flags = flags_of s f.video f.random f.dts before; bytes = f.pes })

abbrev pub frame_parts : Streams → Framed → List Part → List Part
frame_parts s f before =
    if tables_due s f.video f.random before then Tables s ∷ part_of s f (Tables s ∷ before) ∷ [] else part_of s f before ∷ []

abbrev pub parts_by : Streams → Reading → List Part → List Part
parts_by s (Ok None) before = []
parts_by s (Ok (Some f)) before = frame_parts s (framed f) before
parts_by s (Err e) before = []

-- the parts that an item adds, the oldest first
abbrev pub added : InForce → Item → List Part → List Part
added s Begin before = Start ∷ []
added s (AUnit u) before = parts_by (listed s) (reading_of s u.kind u.time u.body) before
added s End before = []

-- THE PARTS of items
abbrev pub parts : List Item → List Part
parts [] = []
parts (item ∷ past) = with_parts (parts past) (added (in_force past) item (parts past))

-- the text that an item adds
unfoldable pub item_text : List Item → Item → List ℕ
item_text past item = text_behind (parts past) (added (in_force past) item (parts past))

-- THE TEXT of items
abbrev pub ts_text : List Item → List ℕ
ts_text [] = []
ts_text (item ∷ past) = ts_text past ++ item_text past item
