-- The sections that name a program and its streams (ISO/IEC 13818-1, 2.4.4)
use Rattle.std.specs.Prelude.{ℕ, ◌+◌, ◌*◌, Bool, if◌then◌else◌, List, [], ◌∷◌, ◌++◌}
use Rattle.std.specs.Int.{bytes_high_first}
use Rattle.bit_fields.specs.Fields.{Field, field_bytes}
use Rattle.pes_packets.specs.Crc.{crc_of}

-- the PIDs of this multiplex: that of the association table is the standard's, and the others are its own choice
abbrev pub pat_pid : ℕ
pat_pid = 0

abbrev pub pmt_pid : ℕ
pmt_pid = 0x1000

abbrev pub video_pid : ℕ
video_pid = 0x100

abbrev pub audio_pid : ℕ
audio_pid = 0x101

-- a section with its check (CRC_32)
abbrev pub checked : List ℕ → List ℕ
checked section = section ++ bytes_high_first 4 (crc_of section)

-- what all sections begin with (2.4.4.3, 2.4.4.8): the table, the length of what follows it, an id, and a version
abbrev pub section_fields : ℕ → ℕ → ℕ → ℕ → List Field
section_fields table length id version =
    (8, table)  -- table_id
    ∷ (1, 1)  -- section_syntax_indicator
    ∷ (1, 0)  -- '0'
    ∷ (2, 3)  -- reserved
    ∷ (12, length)  -- section_length
    ∷ (16, id)  -- transport_stream_id or program_number
    ∷ (2, 3)  -- reserved
    ∷ (5, version)  -- version_number
    ∷ (1, 1)  -- current_next_indicator
    ∷ (8, 0)  -- section_number
    ∷ (8, 0)  -- last_section_number
    ∷ []

-- a PID behind three reserved bits
abbrev pub pid_fields : ℕ → List Field
pid_fields pid = (3, 7) ∷ (13, pid) ∷ []

-- no descriptors
abbrev pub no_descriptors : List Field
no_descriptors = (4, 15) ∷ (12, 0) ∷ []

-- THE ASSOCIATION TABLE (2.4.4.3): program 1, by the map on its PID
unfoldable pub pat : List ℕ
pat = checked (field_bytes (section_fields 0 13 1 0) ++ (field_bytes ((16, 1) ∷ []) ++ field_bytes (pid_fields pmt_pid)))

-- a stream of a program (2.4.4.8): its stream_type and its PID
abbrev pub stream_bytes : ℕ → ℕ → List ℕ
stream_bytes type pid = field_bytes ((8, type) ∷ []) ++ (field_bytes (pid_fields pid) ++ field_bytes no_descriptors)

-- AVC video is 1B, and audio in ADTS is 0F (table 2-34)
abbrev pub streams_bytes : Bool → Bool → List ℕ
streams_bytes video audio =
    (if video then stream_bytes 0x1B video_pid else []) ++ (if audio then stream_bytes 0x0F audio_pid else [])

abbrev pub count_of : Bool → Bool → ℕ
count_of video audio = (if video then 1 else 0) + (if audio then 1 else 0)

-- the clock's PID
abbrev pub pcr_pid : Bool → ℕ
pcr_pid video = if video then video_pid else audio_pid

-- THE MAP TABLE (2.4.4.8) of program 1 with these streams, video before audio
unfoldable pub pmt : Bool → Bool → ℕ → List ℕ
pmt video audio version =
    checked
    (field_bytes (section_fields 2 (13 + 5 * count_of video audio) 1 version)
    ++ (field_bytes (pid_fields (pcr_pid video)) ++ (field_bytes no_descriptors ++ streams_bytes video audio)))
