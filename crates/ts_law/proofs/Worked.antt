-- The worked example, and times that begin anew
use Rattle.std.proofs.Common.{◌≡◌, ℕ, ◌+◌, ◌-◌, ◌*◌, ◌%◌, ◌^◌, Bool, true, false, nat_lt, refl, arith}
use Rattle.std.specs.Prelude.{if◌then◌else◌}
use Rattle.relay_base.specs.Numbers.{be16_of}
use Rattle.aac_adts.specs.Config.{checked, config_of}
use Rattle.aac_adts.specs.Frame.{head_bytes}
use Rattle.ts_writer.specs.Examples.{sound_items}
use Rattle.ts_writer.specs.Frames.{audio_config, audio_frame, clock, shown}
use Rattle.ts_law.specs.Bridge.{bridge}
use Rattle.ts_law.specs.Examples.{sound_units}

pub sound_is : bridge sound_items ≡ sound_units
unfolding be16_of config_of checked head_bytes audio_config audio_frame
sound_is = refl

pub clock_wraps : (time : ℕ) → clock (time + 2 ^ 32) ≡ clock time
clock_wraps time = omega arith

shown_by : (later : Bool) (time composition : ℕ)
    → (if later then (time + 2 ^ 32 + composition) * 90 % 2 ^ 33 else ((time + 2 ^ 32) * 90 + (2 ^ 33 - (2 ^ 24 - composition) * 90)) % 2 ^ 33)
    ≡ (if later then (time + composition) * 90 % 2 ^ 33 else (time * 90 + (2 ^ 33 - (2 ^ 24 - composition) * 90)) % 2 ^ 33)
shown_by true time composition = omega arith
shown_by false time composition = omega arith

pub shown_wraps : (time composition : ℕ) → shown (time + 2 ^ 32) composition ≡ shown time composition
unfolding shown
shown_wraps time composition = shown_by (nat_lt composition (2 ^ 23)) time composition
