-- The packets of tables (2.4.4) that are read: those that are written, with any version of the map
use Rattle.std.specs.Prelude.{ℕ, ◌/◌, ◌%◌, Bool, true, false, if◌then◌else◌, List, slice_index, Option, Some, None}
use Rattle.std.specs.Str.{bytes_eq}
use Rattle.pes_packets.specs.Packet.{section_text}
use Rattle.pes_packets.specs.Tables.{pat, pat_pid, pmt, pmt_pid}
use Rattle.ts_reader.specs.Fields.{counter_in}

-- the packet is the association table's
abbrev pub is_pat : List ℕ → Bool
is_pat p = bytes_eq (section_text pat_pid (counter_in p) pat) p

-- version_number
abbrev pub version_in : List ℕ → ℕ
version_in p = slice_index p 10 / 2 % 32

-- it is that of a map of these streams
abbrev pub is_pmt : Bool → Bool → List ℕ → Bool
is_pmt video audio p = bytes_eq (section_text pmt_pid (counter_in p) (pmt video audio (version_in p))) p

-- the streams of a map: whether it has video and audio
pub record Listed : Type 0 where
  pub video : Bool
  pub audio : Bool

-- THE STREAMS that the packet's map lists
unfoldable pub listed_in : List ℕ → Option Listed
listed_in p =
    if is_pmt true true p then Some (record { video = true; audio = true })
    else (if is_pmt true false p then Some (record { video = true; audio = false })
    else (if is_pmt false true p then Some (record { video = false; audio = true })
    else (if is_pmt false false p then Some (record { video = false; audio = false }) else None)))
