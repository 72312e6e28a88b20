-- The configuration of an AAC decoder (ISO/IEC 14496-3, 1.6.2.1)
use Rattle.std.specs.Prelude.{◌≡◌, ℕ, ◌<◌, ◌≤◌, ◌/◌, ◌%◌, ◌^◌, ◌==◌, ◌||◌, nat_lt, if◌then◌else◌, List, [], ◌∷◌, length, take, Result, Ok, Err}
use Rattle.relay_base.specs.Numbers.{be16_of}
use Rattle.bit_fields.specs.Fields.{field_bytes}
use Rattle.aac_adts.specs.declared.fail.AacFail.{AacFail}
use Rattle.aac_adts.specs.declared.fail.AacFail.TheVariants.{Short, Object, Index, Channels}

-- What contracts see of an Asc: audioObjectType, samplingFrequencyIndex, channelConfiguration
pub record Config : Type 0 where
  pub object : ℕ
  pub index : ℕ
  pub channels : ℕ

-- what is carried here: the four object types that an ADTS header can name, the frequencies that have an index of their
-- own (1.6.3.4), and channels that the configuration names (1.6.3.5)
pub record IsConfig (a : Config) : Type 0 where
  pub object_low : 1 ≤ a.object
  pub object_high : a.object ≤ 4
  pub index : a.index ≤ 12
  pub channels_low : 1 ≤ a.channels
  pub channels_high : a.channels ≤ 7

-- the first 13 bits of an AudioSpecificConfig, and three more that aren't read
pub record Begins (b : List ℕ) (a : Config) : Type 0 where
  pub more : ℕ
  pub three_bits : more < 8
  pub bits : take 2 b ≡ field_bytes ((5, a.object) ∷ (4, a.index) ∷ (4, a.channels) ∷ (3, more) ∷ [])

-- the first number that is out of its range
unfoldable pub checked : ℕ → ℕ → ℕ → Result Config AacFail
checked object index channels =
    if (object == 0) || nat_lt 4 object then Err (Object object)
    else (if nat_lt 12 index then Err (Index index)
    else (if (channels == 0) || nat_lt 7 channels then Err (Channels channels)
    else Ok (record { object = object; index = index; channels = channels })))

-- what is read of the bytes: 5 bits, 4 bits and 4 bits of the first two bytes
unfoldable pub config_of : List ℕ → Result Config AacFail
config_of b =
    if nat_lt (length b) 2 then Err Short
    else checked (be16_of b / 2 ^ 11) (be16_of b / 2 ^ 7 % 16) (be16_of b / 2 ^ 3 % 16)
