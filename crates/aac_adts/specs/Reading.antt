-- What bytes read as one frame of ADTS, and where they are refused. A byte that isn't there counts as 0.
use Rattle.std.specs.Prelude.{ℕ, ◌+◌, ◌-◌, ◌*◌, ◌/◌, ◌%◌, Bool, ◌==◌, ◌||◌, not, nat_lt, if◌then◌else◌, List, [], ◌∷◌, length, slice_index, Option, Some, None, Result, Ok, Err}
use Rattle.aac_adts.specs.declared.fail.AacFail.{AacFail}
use Rattle.aac_adts.specs.declared.fail.AacFail.TheVariants.{BadAdts}
use Rattle.aac_adts.specs.Config.{Config}

-- the first place whose test holds
abbrev pub first_of : List (ℕ × Bool) → Option ℕ
first_of [] = None
first_of (row ∷ rows) = if row.1 then Some row.0 else first_of rows

-- channel_configuration: the last bit of the third byte and the first two of the fourth
abbrev pub channels_of : List ℕ → ℕ
channels_of b = slice_index b 2 % 2 * 4 + slice_index b 3 / 64

-- aac_frame_length: the last two bits of the fourth byte, the fifth, and the first three of the sixth
abbrev pub length_of : List ℕ → ℕ
length_of b = slice_index b 3 % 4 * 2048 + slice_index b 4 * 8 + slice_index b 5 / 32

-- THE PLACE of the first byte that isn't a header's: a length that isn't that of all bytes, header and at least one raw
-- byte, counts at 3, where it begins
unfoldable pub bad_byte : List ℕ → Option ℕ
bad_byte b = first_of
    ((0, not (slice_index b 0 == 255))
    ∷ (1, not (slice_index b 1 == 241))
    ∷ (2, nat_lt (length b) 3)
    ∷ (2, nat_lt 12 (slice_index b 2 / 4 % 16) || (slice_index b 2 / 2 % 2 == 1))
    ∷ (3, (channels_of b == 0) || not (slice_index b 3 / 4 % 16 == 0))
    ∷ (3, nat_lt (length b) 8 || not (length_of b == length b))
    ∷ (5, not (slice_index b 5 % 32 == 31))
    ∷ (6, not (slice_index b 6 == 252))
    ∷ [])

-- the configuration in a header
abbrev pub config_in : List ℕ → Config
config_in b = record { object = slice_index b 2 / 64 + 1; index = slice_index b 2 / 4 % 16; channels = channels_of b }

abbrev pub read_at : List ℕ → Option ℕ → Result (Config × ℕ) AacFail
read_at b (Some at) = Err (BadAdts at)
read_at b None = Ok (config_in b, length b - 7)

-- the configuration and the number of raw bytes, or the refusal
unfoldable pub adts_of : List ℕ → Result (Config × ℕ) AacFail
adts_of b = read_at b (bad_byte b)
