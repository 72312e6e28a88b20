-- What is kept between packets
use Rattle.std.specs.Prelude.{ℕ, ◌+◌, ◌%◌, Bool, false, ◌==◌, if◌then◌else◌, Option, None}
use Rattle.pes_packets.specs.Tables.{audio_pid, pat_pid, pmt_pid, video_pid}
use Rattle.ts_reader.specs.declared.unit.TsUnit.{TsUnit}
use Rattle.ts_reader.specs.Sections.{Listed}

-- a PES packet that hasn't ended: how many bytes stand before its first packet, its PES_packet_length, and
-- its unit with the payload that is there
pub record Opened : Type 0 where
  pub at : ℕ
  pub length : ℕ
  pub unit : TsUnit

-- the counters of the next packets, whether an association table was read, the streams of the last map, and
-- the open PES packet
pub record Mux : Type 0 where
  pub pat : ℕ
  pub pmt : ℕ
  pub video : ℕ
  pub audio : ℕ
  pub found : Bool
  pub listed : Listed
  pub pes : Option Opened

abbrev pub nothing_listed : Listed
nothing_listed = record { video = false; audio = false }

-- before the first packet
abbrev pub start : Mux
start = record { pat = 0; pmt = 0; video = 0; audio = 0; found = false; listed = nothing_listed; pes = None }

-- the counter that the next packet of a PID has
abbrev pub kept : Mux → ℕ → ℕ
kept m pid =
    if pid == pat_pid then m.pat
    else (if pid == pmt_pid then m.pmt
    else (if pid == video_pid then m.video
    else (if pid == audio_pid then m.audio else 0)))

abbrev pub next : ℕ → ℕ
next counter = (counter + 1) % 16
