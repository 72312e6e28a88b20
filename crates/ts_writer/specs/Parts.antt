-- The parts of a transport stream's text, and what each part owes to those before it. Lists of parts have the
-- newest first.
use Rattle.std.specs.Prelude.{ℕ, ◌+◌, ◌-◌, ◌%◌, ◌^◌, Bool, true, false, ◌==◌, ◌&&◌, ◌||◌, not, nat_le, if◌then◌else◌, is_some, List, [], ◌∷◌, ◌++◌, length, Option, Some}
use Rattle.pes_packets.specs.declared.flags.PesFlags.{PesFlags}
use Rattle.pes_packets.specs.Packet.{section_text, pes_text, runs_of, silent}
use Rattle.pes_packets.specs.Tables.{pat, pmt, pat_pid, pmt_pid, video_pid, audio_pid, pcr_pid}
use Rattle.ts_writer.specs.declared.part.Streams.{Streams}
use Rattle.ts_writer.specs.declared.part.Part.{Part}
use Rattle.ts_writer.specs.declared.part.Part.TheVariants.{Start, Tables, Pes}

abbrev pub pid_of : Bool → ℕ
pid_of video = if video then video_pid else audio_pid

-- how many packets of a PID a part has
abbrev pub packets_in : ℕ → Part → ℕ
packets_in pid Start = 0
packets_in pid (Tables s) = (if pid == pat_pid then 1 else 0) + (if pid == pmt_pid then 1 else 0)
packets_in pid (Pes p) = if pid == pid_of p.video then length (runs_of p.flags p.bytes) else 0

abbrev pub packets_of : ℕ → List Part → ℕ
packets_of pid [] = 0
packets_of pid (part ∷ before) = packets_of pid before + packets_in pid part

-- THE COUNTER of a packet (ISO/IEC 13818-1, 2.4.3.3): how many of its PID stand before it in the whole text, modulo 16
unfoldable pub counter : ℕ → List Part → ℕ
counter pid before = packets_of pid before % 16

-- the lists of streams in the map tables
abbrev pub lists_of : List Part → List Streams
lists_of [] = []
lists_of (Start ∷ before) = lists_of before
lists_of (Tables s ∷ before) = s ∷ lists_of before
lists_of (Pes p ∷ before) = lists_of before

abbrev pub same : Bool → Bool → Bool
same true b = b
same false b = not b

abbrev pub are_same : Streams → Streams → Bool
are_same s t = same s.video t.video && same s.audio t.audio

-- whether a list of streams is the last that was written
abbrev pub is_last : Streams → List Streams → Bool
is_last s [] = false
is_last s (t ∷ earlier) = are_same s t

-- 1 where it isn't the first and differs from the last
abbrev pub differs : Streams → List Streams → ℕ
differs s [] = 0
differs s (t ∷ earlier) = if are_same s t then 0 else 1

-- how often the list of streams changed
abbrev pub changes : List Streams → ℕ
changes [] = 0
changes (s ∷ earlier) = changes earlier + differs s earlier

-- THE VERSION of the map table with these streams (2.4.4.9): how often the list has changed, with this table, modulo 32
unfoldable pub version : Streams → List Part → ℕ
version s before = changes (s ∷ lists_of before) % 32

-- the text of a part: both tables, each in its packet, or the packets of a PES packet
unfoldable pub part_text : List Part → Part → List ℕ
part_text before Start = []
part_text before (Tables s) =
    section_text pat_pid (counter pat_pid before) pat ++ section_text pmt_pid (counter pmt_pid before) (pmt s.video s.audio (version s before))
part_text before (Pes p) = pes_text (pid_of p.video) (counter (pid_of p.video) before) p.flags p.bytes

-- the text of further parts, the oldest first
unfoldable pub text_behind : List Part → List Part → List ℕ
text_behind before [] = []
text_behind before (part ∷ more) = part_text before part ++ text_behind (part ∷ before) more

-- and all parts with them
abbrev pub with_parts : List Part → List Part → List Part
with_parts before [] = before
with_parts before (part ∷ more) = with_parts (part ∷ before) more

-- how many units of sound were written since the last tables
abbrev pub sounds_since : List Part → ℕ
sounds_since [] = 0
sounds_since (Start ∷ before) = sounds_since before
sounds_since (Tables s ∷ before) = 0
sounds_since (Pes p ∷ before) = sounds_since before + (if p.video then 0 else 1)

-- WHEN TABLES STAND before a unit: where none were written or the list of streams differs from the last; before a key
-- picture; and without pictures before each 33rd unit of sound
unfoldable pub tables_due : Streams → Bool → Bool → List Part → Bool
tables_due s video random before =
    not (is_last s (lists_of before)) || (random || (not s.video && (not video && nat_le 32 (sounds_since before))))

-- whether a clock reference stands among these parts
abbrev pub has_reference : List Part → Bool
has_reference [] = false
has_reference (Start ∷ before) = has_reference before
has_reference (Tables s ∷ before) = has_reference before
has_reference (Pes p ∷ before) = is_some p.flags.pcr || has_reference before

-- whether the next clock reference is the first since a broadcast began, but not the first of all
abbrev pub jump_due : List Part → Bool
jump_due [] = false
jump_due (Start ∷ before) = has_reference before
jump_due (Tables s ∷ before) = jump_due before
jump_due (Pes p ∷ before) = not (is_some p.flags.pcr) && jump_due before

-- a clock reference: half a second before the unit is decoded
abbrev pub reference : ℕ → Option ℕ
reference dts = Some ((dts + (2 ^ 33 - 45000)) % 2 ^ 33)

abbrev pub flags_with : Bool → Streams → Bool → Bool → ℕ → PesFlags
flags_with jump s video random dts =
    if pid_of video == pcr_pid s.video then record { pcr = reference dts; random = random; jump = jump } else silent

-- what the first packet of a unit tells: the clock's PID has a reference in each, and others tell nothing
abbrev pub flags_of : Streams → Bool → Bool → ℕ → List Part → PesFlags
flags_of s video random dts before = flags_with (jump_due before) s video random dts
