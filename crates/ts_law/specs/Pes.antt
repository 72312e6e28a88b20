-- The PES packet of a frame, and what is read of its packets
use Rattle.std.specs.Prelude.{◌≡◌, ℕ, ◌+◌, ◌<◌, ◌^◌, Bool, true, false, List, ◌++◌, length, Option, Some, Ok, is_some, option_to_list}
use Rattle.pes_packets.specs.declared.flags.PesFlags.{PesFlags}
use Rattle.pes_packets.specs.Packet.{IsCounter, IsTime, pes_text, runs_of}
use Rattle.ts_writer.specs.Frames.{Frame, pes_of}
use Rattle.ts_writer.specs.Parts.{pid_of}
use Rattle.ts_reader.specs.declared.unit.TsUnit.{TsUnit}
use Rattle.ts_reader.specs.Times.{Told, header_of}
use Rattle.ts_reader.specs.Mux.{Mux, Opened}
use Rattle.ts_reader.specs.Payloads.{is_carried}
use Rattle.ts_reader.specs.Steps.{closed, on_clock}
use Rattle.ts_law.specs.Leads.{Leads, counter_of, lists, moved}

-- what a header tells
abbrev pub told_of : ℕ → ℕ → ℕ → ℕ → Told
told_of pts dts length size = record { pts = pts; dts = dts; length = length; size = size }

-- a header of so many bytes, which is read whatever is behind it
pub record IsHeader (video : Bool) (h : List ℕ) (pts dts len size : ℕ) : Type 0 where
  pub size_is : length h ≡ size
  pub read : (more : List ℕ) → header_of video (h ++ more) ≡ Some (told_of pts dts len size)

-- PES_packet_length: that of video is left open, and that of audio counts eight bytes of header
abbrev pub length_told : Bool → ℕ → ℕ
length_told true len = 0
length_told false len = 8 + len

-- a picture or a sound as it is carried
abbrev pub unit_of : Frame → TsUnit
unit_of f = record { video = f.video; pts = f.pts; dts = f.dts; payload = f.payload }

-- its PES packet, behind so many bytes
abbrev pub opened : ℕ → Frame → Opened
opened n f = record { at = n; length = length_told f.video (length f.payload); unit = unit_of f }

-- times have 33 bits, sound has one time and a length that fits, and the payload may be carried
pub record IsFrame (f : Frame) : Type 0 where
  pub pts : IsTime f.pts
  pub dts : IsTime f.dts
  pub one : f.video ≡ false → f.pts ≡ f.dts
  pub short : f.video ≡ false → length_told f.video (length f.payload) < 2 ^ 16
  pub carried : is_carried f.video f.payload ≡ true

-- it may follow here: its stream is listed, it has a clock reference exactly on the clock's PID, and it ends
-- the PES packet before it, if there is one, whose unit is this
pub record MayFollow (m : Mux) (f : Frame) (flags : PesFlags) (u : Option TsUnit) : Type 0 where
  pub listed : lists f.video m ≡ true
  pub counter : IsCounter (counter_of f.video m)
  pub clock : on_clock f.video m ≡ is_some flags.pcr
  pub ends : closed m.pes ≡ Ok u

-- ITS PACKETS ARE READ: they leave its PES packet open, and its counter as many packets on
pub record ArePackets (n : ℕ) (m : Mux) (f : Frame) (flags : PesFlags) (u : Option TsUnit) : Type 0 where
  pub leads : Leads n m (pes_text (pid_of f.video) (counter_of f.video m) flags (pes_of f)) (option_to_list u)
      (moved f.video (length (runs_of flags (pes_of f))) m (Some (opened n f)))
  pub ends : closed (Some (opened n f)) ≡ Ok (Some (unit_of f))
