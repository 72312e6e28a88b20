-- What the units of a stream are in a transport stream: access units of AVC and frames of AAC with their
-- times, or why a unit is left out. The sections by E are those of Adobe's FLV 10.1, whose tags have the
-- bodies of units.
use Rattle.std.specs.Prelude.{◌≡◌, ◌<◌, ℕ, ◌+◌, ◌-◌, ◌*◌, ◌%◌, ◌^◌, Bool, true, false, ◌==◌, ◌&&◌, nat_lt, if◌then◌else◌, List, [], ◌∷◌, ◌++◌, length, drop, Option, Some, None, Result, Ok, Err}
use Rattle.relay_base.specs.Numbers.{be24_of}
use Rattle.av_unit.specs.Classes.{high, low, second_is}
use Rattle.avc_annexb.specs.declared.fail.AvcFail.{AvcFail}
use Rattle.avc_annexb.specs.declared.fail.AvcFail.TheVariants.{Short}
use Rattle.avc_annexb.specs.declared.fail.AvcFail.TheVariants as avc
use Rattle.avc_annexb.specs.Record.{Config as AvcConfig, record_of}
use Rattle.avc_annexb.specs.AnnexB.{annexb, kept_of}
use Rattle.aac_adts.specs.declared.fail.AacFail.{AacFail}
use Rattle.aac_adts.specs.declared.fail.AacFail.TheVariants.{TooLong}
use Rattle.aac_adts.specs.declared.fail.AacFail.TheVariants as aac
use Rattle.aac_adts.specs.Config.{Config as AacConfig, config_of}
use Rattle.aac_adts.specs.Frame.{frame}
use Rattle.pes_packets.specs.Header.{header}
use Rattle.pes_packets.specs.Packet.{IsTime}
use Rattle.ts_writer.specs.declared.left.Left.{Left}
use Rattle.ts_writer.specs.declared.left.Left.TheVariants.{Codec, NoConfig, Empty, Avc, Aac}
use Rattle.ts_writer.specs.declared.stop.Stop.{Stop}
use Rattle.ts_writer.specs.declared.stop.Stop.TheVariants.{Out, Memory}
use Rattle.ts_writer.specs.declared.framed.Framed.{Framed}

-- what is read of AVC or AAC, or why its unit is left out
abbrev pub of_avc : {X : Type 0} → Result X AvcFail → Result X Left
of_avc (Ok x) = Ok x
of_avc (Err e) = Err (Avc e)

abbrev pub of_aac : {X : Type 0} → Result X AacFail → Result X Left
of_aac (Ok x) = Ok x
of_aac (Err e) = Err (Aac e)

-- the configuration in a unit: an AVCDecoderConfigurationRecord from byte 5 on, where the CodecID is 7 (E.4.3), and an
-- AudioSpecificConfig from byte 2 on (E.4.2)
unfoldable pub video_config : List ℕ → Result AvcConfig Left
video_config body = if low body == 7 then of_avc (record_of (drop 5 body)) else Err Codec

unfoldable pub audio_config : List ℕ → Result AacConfig Left
audio_config body = of_aac (config_of (drop 2 body))

-- milliseconds in units of 1/90,000 second, in 33 bits (ISO/IEC 13818-1, 2.4.3.7)
abbrev pub clock : ℕ → ℕ
clock time = time * 90 % 2 ^ 33

-- the same so much later, or earlier where the first bit of the 24 says so (E.4.3.1). A time before 0 counts
-- back from 2^33
unfoldable pub shown : ℕ → ℕ → ℕ
shown time composition =
    if nat_lt composition (2 ^ 23) then (time + composition) * 90 % 2 ^ 33
    else (time * 90 + (2 ^ 33 - (2 ^ 24 - composition) * 90)) % 2 ^ 33

-- a unit that can be written: whether it is a picture, whether a decoder can begin at it, when it is shown
-- and when it is decoded, and its bytes
pub record Frame : Type 0 where
  pub video : Bool
  pub random : Bool
  pub pts : ℕ
  pub dts : ℕ
  pub payload : List ℕ

-- its PES packet (ISO/IEC 13818-1, 2.4.3.6): that of sound tells its length, which counts from behind it
abbrev pub pes_header : Bool → ℕ → ℕ → ℕ → List ℕ
pes_header true pts dts length = header 0xE0 pts dts 0
pes_header false pts dts length = header 0xC0 pts dts (8 + length)

abbrev pub pes_of : Frame → List ℕ
pes_of f = pes_header f.video f.pts f.dts (length f.payload) ++ f.payload

-- an access unit delimiter (ISO/IEC 14496-10, 7.3.2.4): pictures of any type, and the bit that ends it
abbrev pub delimiter : List ℕ
delimiter = 9 ∷ 0xF0 ∷ []

abbrev pub sets_if : Bool → AvcConfig → List ℕ
sets_if true c = annexb c.sps ++ annexb c.pps
sets_if false c = []

-- an access unit: the delimiter, in a key picture's the parameter sets, and the NAL units
abbrev pub access_unit : AvcConfig → Bool → List ℕ → List ℕ
access_unit c key text = annexb (delimiter ∷ []) ++ (sets_if key c ++ text)

abbrev pub picture : AvcConfig → Bool → ℕ → List ℕ → List ℕ → Frame
picture c key time body text = record {
  video = true;
  random = key;
  pts = shown time (be24_of (drop 2 body));
  dts = clock time;
  payload = access_unit c key text;
}

-- the NAL units of a picture but for delimiters, behind the first five bytes (E.4.3.1)
unfoldable pub units_text : AvcConfig → List ℕ → Result (List ℕ) Left
units_text c body = if nat_lt (length body) 5 then Err (Avc (Short (length body))) else of_avc (kept_of c.size (drop 5 body))

abbrev pub some_text : (List ℕ → Frame) → Result (List ℕ) Left → Result Frame Left
some_text whole (Err e) = Err e
some_text whole (Ok []) = Err Empty
some_text whole (Ok (x ∷ xs)) = Ok (whole (x ∷ xs))

abbrev pub by_config : Option AvcConfig → Bool → ℕ → List ℕ → Result Frame Left
by_config None key time body = Err NoConfig
by_config (Some c) key time body = some_text (picture c key time body) (units_text c body)

-- A PICTURE: a unit with CodecID 7 and AVCPacketType 1, by the configuration in force
unfoldable pub video_frame : Option AvcConfig → Bool → ℕ → List ℕ → Result Frame Left
video_frame config key time body = if (low body == 7) && second_is 1 body then by_config config key time body else Err Codec

abbrev pub sound : AacConfig → ℕ → List ℕ → Frame
sound a time raw = record { video = false; random = false; pts = clock time; dts = clock time; payload = frame a raw }

abbrev pub some_raw : AacConfig → ℕ → List ℕ → Result Frame Left
some_raw a time [] = Err Empty
some_raw a time (x ∷ xs) = if nat_lt 8184 (length (x ∷ xs)) then Err (Aac (TooLong (length (x ∷ xs)))) else Ok (sound a time (x ∷ xs))

abbrev pub by_asc : Option AacConfig → ℕ → List ℕ → Result Frame Left
by_asc None time body = Err NoConfig
by_asc (Some a) time body = some_raw a time (drop 2 body)

-- SOUND: a unit with SoundFormat 10 and AACPacketType 1 (E.4.2), by the configuration in force
unfoldable pub audio_frame : Option AacConfig → ℕ → List ℕ → Result Frame Left
audio_frame config time body = if (high body == 10) && second_is 1 body then by_asc config time body else Err Codec

-- the PES packet of a frame, and what its packets tell
abbrev pub framed : Frame → Framed
framed f = record { video = f.video; random = f.random; dts = f.dts; pes = pes_of f }

-- what is read, unless memory was refused
abbrev pub IsCause : {X : Type 0} → Stop → Result X Left → Type 0
IsCause (Out left) read = read ≡ Err left
IsCause Memory read = Unit {0}

abbrev pub Gives : {X : Type 0} → Result X Stop → Result X Left → Type 0
Gives (Ok x) read = read ≡ Ok x
Gives (Err e) read = IsCause e read

abbrev pub unless_memory : Stop → Type 0 → Type 0
unless_memory (Out left) P = P
unless_memory Memory P = Unit {0}

-- a fact, unless memory was refused
abbrev pub UnlessMemory : {X : Type 0} → Result X Stop → Type 0 → Type 0
UnlessMemory (Ok x) P = P
UnlessMemory (Err e) P = unless_memory e P

-- refusals of AVC and AAC as those of units
abbrev pub stop_avc : AvcFail → Stop
stop_avc avc.OutOfMemory = Memory
stop_avc e = Out (Avc e)

abbrev pub stop_aac : AacFail → Stop
stop_aac aac.OutOfMemory = Memory
stop_aac e = Out (Aac e)

-- a frame as it is made
abbrev pub framed_of : Result Frame Left → Result Framed Left
framed_of (Ok f) = Ok (framed f)
framed_of (Err e) = Err e

-- what may be written
pub record IsFramed (f : Framed) : Type 0 where
  pub time : IsTime f.dts
  pub some : 0 < length f.pes
