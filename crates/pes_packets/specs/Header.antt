-- The header of a PES packet (ISO/IEC 13818-1, 2.4.3.6)
use Rattle.std.specs.Prelude.{ℕ, ◌/◌, ◌%◌, ◌^◌, ◌==◌, if◌then◌else◌, List, [], ◌∷◌, ◌++◌}
use Rattle.bit_fields.specs.Fields.{Field, field_bytes}

-- packet_start_code_prefix, stream_id, PES_packet_length
abbrev pub start_fields : ℕ → ℕ → List Field
start_fields id length = (24, 1) ∷ (8, id) ∷ (16, length) ∷ []

-- the flags, and the length of what follows them
abbrev pub flag_fields : ℕ → ℕ → List Field
flag_fields times size =
    (2, 2)  -- '10'
    ∷ (2, 0)  -- PES_scrambling_control
    ∷ (1, 0)  -- PES_priority
    ∷ (1, 0)  -- data_alignment_indicator
    ∷ (1, 0)  -- copyright
    ∷ (1, 0)  -- original_or_copy
    ∷ (2, times)  -- PTS_DTS_flags
    ∷ (1, 0)  -- ESCR_flag
    ∷ (1, 0)  -- ES_rate_flag
    ∷ (1, 0)  -- DSM_trick_mode_flag
    ∷ (1, 0)  -- additional_copy_info_flag
    ∷ (1, 0)  -- PES_CRC_flag
    ∷ (1, 0)  -- PES_extension_flag
    ∷ (8, size)  -- PES_header_data_length
    ∷ []

-- a time of 33 bits in three parts, each behind it a marker bit
abbrev pub time_fields : ℕ → ℕ → List Field
time_fields prefix time =
    (4, prefix) ∷ (3, time / 2 ^ 30) ∷ (1, 1) ∷ (15, time / 2 ^ 15 % 2 ^ 15) ∷ (1, 1) ∷ (15, time % 2 ^ 15) ∷ (1, 1) ∷ []

unfoldable pub start_bytes : ℕ → ℕ → List ℕ
start_bytes id length = field_bytes (start_fields id length)

unfoldable pub flag_bytes : ℕ → ℕ → List ℕ
flag_bytes times size = field_bytes (flag_fields times size)

unfoldable pub time_bytes : ℕ → ℕ → List ℕ
time_bytes prefix time = field_bytes (time_fields prefix time)

-- THE HEADER: the presentation time alone, or both times where they differ
unfoldable pub header : ℕ → ℕ → ℕ → ℕ → List ℕ
header id pts dts length =
    start_bytes id length
    ++ (if pts == dts then flag_bytes 2 5 ++ time_bytes 2 pts else flag_bytes 3 10 ++ (time_bytes 3 pts ++ time_bytes 1 dts))
