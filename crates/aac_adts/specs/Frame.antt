-- A frame of ADTS (ISO/IEC 14496-3, 1.A.2.2): its fixed and its variable header, and one raw data block
use Rattle.std.specs.Prelude.{ℕ, ◌+◌, ◌-◌, ◌≤◌, List, [], ◌∷◌, ◌++◌, length}
use Rattle.bit_fields.specs.Fields.{Field, field_bytes}
use Rattle.aac_adts.specs.Config.{Config}

-- the header of a frame of so many bytes, header and all. The buffer fullness says that the rate varies
abbrev pub header : Config → ℕ → List Field
header a len =
    (12, 0xFFF)  -- syncword
    ∷ (1, 0)  -- ID: MPEG-4
    ∷ (2, 0)  -- layer
    ∷ (1, 1)  -- protection_absent
    ∷ (2, a.object - 1)  -- profile_ObjectType
    ∷ (4, a.index)  -- sampling_frequency_index
    ∷ (1, 0)  -- private_bit
    ∷ (3, a.channels)  -- channel_configuration
    ∷ (1, 0)  -- original_copy
    ∷ (1, 0)  -- home
    ∷ (1, 0)  -- copyright_identification_bit
    ∷ (1, 0)  -- copyright_identification_start
    ∷ (13, len)  -- aac_frame_length
    ∷ (11, 0x7FF)  -- adts_buffer_fullness
    ∷ (2, 0)  -- number_of_raw_data_blocks_in_frame, less one
    ∷ []

unfoldable pub head_bytes : Config → ℕ → List ℕ
head_bytes a len = field_bytes (header a len)

-- THE FRAME of raw bytes
abbrev pub frame : Config → List ℕ → List ℕ
frame a raw = head_bytes a (length raw + 7) ++ raw

-- how many raw bytes a frame may have
abbrev pub IsRaw : ℕ → Type 0
IsRaw n = (1 ≤ n) × (n ≤ 8184)
