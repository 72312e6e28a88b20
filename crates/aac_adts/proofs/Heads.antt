-- The seven bytes of a header, and what is read of them
use Rattle.std.proofs.Common.{◌≡◌, ℕ, ◌+◌, ◌-◌, ◌*◌, ◌/◌, ◌%◌, ◌<◌, ◌≤◌, Bool, true, false, nat_lt, List, [], ◌∷◌, length, drop, slice_index, Some, None, Ok, Err, refl, sym, ap, ◌∙◌, arith, length-drop}
use Rattle.std.specs.Prelude.{◌==◌, ◌||◌, not, take}
use Rattle.std.specs.Int.{w64, to_be_bytes, bytes_high_first}
use Rattle.std.proofs.lemmas.Bool.Decides.{nat_tests}
use Rattle.aac_adts.specs.declared.fail.AacFail.TheVariants.{BadAdts}
use Rattle.aac_adts.specs.Config.{Config, IsConfig}
use Rattle.aac_adts.specs.Frame.{head_bytes, frame, IsRaw}
use Rattle.aac_adts.specs.Reading.{first_of, bad_byte, adts_of, config_in, channels_of, length_of}

-- the number of the header's 56 bits
abbrev number_of : ℕ → ℕ → ℕ → ℕ → ℕ
number_of object index channels len =
    4095 * 17592186044416 + (0 * 8796093022208 + (0 * 2199023255552 + (1 * 1099511627776 + ((object - 1) * 274877906944 + (index * 17179869184 + (0 * 8589934592 + (channels * 1073741824
    + (0 * 536870912 + (0 * 268435456 + (0 * 134217728 + (0 * 67108864 + (len * 8192 + (2047 * 4 + (0 * 1 + 0))))))))))))))

byte6 : (o i c l : ℕ) → o ≤ 4 → i ≤ 12 → c ≤ 7 → l < 8192 → number_of o i c l / 281474976710656 % 256 ≡ 255
byte6 o i c l ho hi hc hl = omega arith

byte5 : (o i c l : ℕ) → o ≤ 4 → i ≤ 12 → c ≤ 7 → l < 8192 → number_of o i c l / 1099511627776 % 256 ≡ 241
byte5 o i c l ho hi hc hl = omega arith

byte4 : (o i c l : ℕ) → o ≤ 4 → i ≤ 12 → c ≤ 7 → l < 8192 → number_of o i c l / 4294967296 % 256 ≡ (o - 1) * 64 + i * 4 + c / 4
byte4 o i c l ho hi hc hl = omega arith

byte3 : (o i c l : ℕ) → o ≤ 4 → i ≤ 12 → c ≤ 7 → l < 8192 → number_of o i c l / 16777216 % 256 ≡ c % 4 * 64 + l / 2048
byte3 o i c l ho hi hc hl = omega arith

byte2 : (o i c l : ℕ) → o ≤ 4 → i ≤ 12 → c ≤ 7 → l < 8192 → number_of o i c l / 65536 % 256 ≡ l / 8 % 256
byte2 o i c l ho hi hc hl = omega arith

byte1 : (o i c l : ℕ) → o ≤ 4 → i ≤ 12 → c ≤ 7 → l < 8192 → number_of o i c l / 256 % 256 ≡ l % 8 * 32 + 31
byte1 o i c l ho hi hc hl = omega arith

byte0 : (o i c l : ℕ) → o ≤ 4 → i ≤ 12 → c ≤ 7 → l < 8192 → number_of o i c l % 256 ≡ 252
byte0 o i c l ho hi hc hl = omega arith

pub cells : (a : Config) (l : ℕ) → IsConfig a → l < 8192
    → head_bytes a l ≡ 255 ∷ 241 ∷ ((a.object - 1) * 64 + a.index * 4 + a.channels / 4) ∷ (a.channels % 4 * 64 + l / 2048) ∷ (l / 8 % 256) ∷ (l % 8 * 32 + 31) ∷ 252 ∷ []
unfolding head_bytes
cells a l fits small =
    let b6 = byte6 a.object a.index a.channels l fits.object_high fits.index fits.channels_high small in
    let b5 = byte5 a.object a.index a.channels l fits.object_high fits.index fits.channels_high small in
    let b4 = byte4 a.object a.index a.channels l fits.object_high fits.index fits.channels_high small in
    let b3 = byte3 a.object a.index a.channels l fits.object_high fits.index fits.channels_high small in
    let b2 = byte2 a.object a.index a.channels l fits.object_high fits.index fits.channels_high small in
    let b1 = byte1 a.object a.index a.channels l fits.object_high fits.index fits.channels_high small in
    let b0 = byte0 a.object a.index a.channels l fits.object_high fits.index fits.channels_high small in
    rw (b6, b5, b4, b3, b2, b1, b0) refl

-- which tests passed
all_false : (t0 t1 t2 t3 t4 t5 t6 t7 : Bool) → first_of ((0, t0) ∷ (1, t1) ∷ (2, t2) ∷ (2, t3) ∷ (3, t4) ∷ (3, t5) ∷ (5, t6) ∷ (6, t7) ∷ []) ≡ None
    → (t0 ≡ false) × (t1 ≡ false) × (t2 ≡ false) × (t3 ≡ false) × (t4 ≡ false) × (t5 ≡ false) × (t6 ≡ false) × (t7 ≡ false)
all_false true t1 t2 t3 t4 t5 t6 t7 e = absurd (cc)
all_false false true t2 t3 t4 t5 t6 t7 e = absurd (cc)
all_false false false true t3 t4 t5 t6 t7 e = absurd (cc)
all_false false false false true t4 t5 t6 t7 e = absurd (cc)
all_false false false false false true t5 t6 t7 e = absurd (cc)
all_false false false false false false true t6 t7 e = absurd (cc)
all_false false false false false false false true t7 e = absurd (cc)
all_false false false false false false false false true e = absurd (cc)
all_false false false false false false false false false e = (refl, refl, refl, refl, refl, refl, refl, refl)

all_pass : (t0 t1 t2 t3 t4 t5 t6 t7 : Bool) → t0 ≡ false → t1 ≡ false → t2 ≡ false → t3 ≡ false → t4 ≡ false → t5 ≡ false → t6 ≡ false → t7 ≡ false
    → first_of ((0, t0) ∷ (1, t1) ∷ (2, t2) ∷ (2, t3) ∷ (3, t4) ∷ (3, t5) ∷ (5, t6) ∷ (6, t7) ∷ []) ≡ None
all_pass t0 t1 t2 t3 t4 t5 t6 t7 h0 h1 h2 h3 h4 h5 h6 h7 = rw (h0, h1, h2, h3, h4, h5, h6, h7) refl

-- what bytes are that no test refuses
pub record Passed (b : List ℕ) : Type 0 where
  pub long : 8 ≤ length b
  pub first : slice_index b 0 ≡ 255
  pub second : slice_index b 1 ≡ 241
  pub index : slice_index b 2 / 4 % 16 ≤ 12
  pub private_bit : slice_index b 2 / 2 % 2 ≡ 0
  pub channels : 1 ≤ channels_of b
  pub zeros : slice_index b 3 / 4 % 16 ≡ 0
  pub whole : length_of b ≡ length b
  pub fullness : slice_index b 5 % 32 ≡ 31
  pub blocks : slice_index b 6 ≡ 252

pub passed : (b : List ℕ) → bad_byte b ≡ None → Passed b
unfolding bad_byte
passed b e =
    let p = all_false
    (not (slice_index b 0 == 255))
    (not (slice_index b 1 == 241))
    (nat_lt (length b) 3)
    (nat_lt 12 (slice_index b 2 / 4 % 16) || (slice_index b 2 / 2 % 2 == 1))
    ((channels_of b == 0) || not (slice_index b 3 / 4 % 16 == 0))
    (nat_lt (length b) 8 || not (length_of b == length b))
    (not (slice_index b 5 % 32 == 31))
    (not (slice_index b 6 == 252)) e in
    let t0 = p.0 in
    let t1 = p.1 in
    let t3 = p.3 in
    let t4 = p.4 in
    let t5 = p.5 in
    let t6 = p.6 in
    let t7 = p.7 in
    record {
      long = grind (arith, nat_tests, t5);
      first = grind (arith, nat_tests, t0);
      second = grind (arith, nat_tests, t1);
      index = grind (arith, nat_tests, t3);
      private_bit = grind (arith, nat_tests, t3);
      channels = grind (arith, nat_tests, t4);
      zeros = grind (arith, nat_tests, t4);
      whole = grind (arith, nat_tests, t5);
      fullness = grind (arith, nat_tests, t6);
      blocks = grind (arith, nat_tests, t7);
    }

-- and bytes that pass are refused nowhere
pub passes : (b : List ℕ) → Passed b → bad_byte b ≡ None
unfolding bad_byte
passes b p =
    let t0 : not (slice_index b 0 == 255) ≡ false = grind (arith, nat_tests) in
    let t1 : not (slice_index b 1 == 241) ≡ false = grind (arith, nat_tests) in
    let t2 : nat_lt (length b) 3 ≡ false = grind (arith, nat_tests) in
    let t3 : nat_lt 12 (slice_index b 2 / 4 % 16) || (slice_index b 2 / 2 % 2 == 1) ≡ false = grind (arith, nat_tests) in
    let t4 : (channels_of b == 0) || not (slice_index b 3 / 4 % 16 == 0) ≡ false = grind (arith, nat_tests) in
    let t5 : nat_lt (length b) 8 || not (length_of b == length b) ≡ false = grind (arith, nat_tests) in
    let t6 : not (slice_index b 5 % 32 == 31) ≡ false = grind (arith, nat_tests) in
    let t7 : not (slice_index b 6 == 252) ≡ false = grind (arith, nat_tests) in
    all_pass
    (not (slice_index b 0 == 255))
    (not (slice_index b 1 == 241))
    (nat_lt (length b) 3)
    (nat_lt 12 (slice_index b 2 / 4 % 16) || (slice_index b 2 / 2 % 2 == 1))
    ((channels_of b == 0) || not (slice_index b 3 / 4 % 16 == 0))
    (nat_lt (length b) 8 || not (length_of b == length b))
    (not (slice_index b 5 % 32 == 31))
    (not (slice_index b 6 == 252))
    t0 t1 t2 t3 t4 t5 t6 t7

-- the configuration of bytes that pass
pub config_fits : (b : List ℕ) → ((i : ℕ) → slice_index b i < 256) → Passed b → IsConfig (config_in b)
config_fits b small p =
    let b2 = small 2 in
    let b3 = small 3 in
    let low = p.channels in
    record { object_low = omega arith; object_high = omega arith; index = p.index; channels_low = low; channels_high = omega arith }

seven : (b : List ℕ) → 7 ≤ length b → b ≡ slice_index b 0 ∷ slice_index b 1 ∷ slice_index b 2 ∷ slice_index b 3 ∷ slice_index b 4 ∷ slice_index b 5 ∷ slice_index b 6 ∷ drop 7 b
seven [] h = absurd (omega arith)
seven (_ ∷ []) h = absurd (omega arith)
seven (_ ∷ _ ∷ []) h = absurd (omega arith)
seven (_ ∷ _ ∷ _ ∷ []) h = absurd (omega arith)
seven (_ ∷ _ ∷ _ ∷ _ ∷ []) h = absurd (omega arith)
seven (_ ∷ _ ∷ _ ∷ _ ∷ _ ∷ []) h = absurd (omega arith)
seven (_ ∷ _ ∷ _ ∷ _ ∷ _ ∷ _ ∷ []) h = absurd (omega arith)
seven (x0 ∷ x1 ∷ x2 ∷ x3 ∷ x4 ∷ x5 ∷ x6 ∷ rest) h = refl

-- their length has 13 bits
pub most : (b : List ℕ) → ((i : ℕ) → slice_index b i < 256) → Passed b → length b < 8192
most b small p =
    let b4 = small 4 in
    let b5 = small 5 in
    omega (arith, p.whole)

-- bytes that pass are the frame that is read of them
pub whole_frame : (b : List ℕ) → ((i : ℕ) → slice_index b i < 256) → Passed b → b ≡ frame (config_in b) (drop 7 b)
whole_frame b small p =
    let b2 = small 2 in
    let b3 = small 3 in
    let b4 = small 4 in
    let b5 = small 5 in
    let l : ℕ = length (drop 7 b) + 7 in
    let fits = config_fits b small p in
    let n : l ≡ length b = omega (arith, length-drop 7 b, p.long) in
    let e2 : (slice_index b 2 / 64 + 1 - 1) * 64 + slice_index b 2 / 4 % 16 * 4 + channels_of b / 4 ≡ slice_index b 2 = omega (arith, p.private_bit) in
    let e3 : channels_of b % 4 * 64 + l / 2048 ≡ slice_index b 3 = omega (arith, p.zeros, p.whole) in
    let e4 : l / 8 % 256 ≡ slice_index b 4 = omega (arith, p.whole) in
    let e5 : l % 8 * 32 + 31 ≡ slice_index b 5 = omega (arith, p.whole, p.fullness) in
    let e0 = p.first in
    let e1 = p.second in
    let e6 = p.blocks in
    seven b (omega (arith, p.long))
    ∙ sym (rw (cells (config_in b) l fits (omega (arith, p.whole)), e2, e3, e4, e5, e0, e1, e6) refl)

-- a frame passes
frame_passes : (a : Config) (raw : List ℕ) → IsConfig a → IsRaw (length raw) → Passed (frame a raw)
frame_passes a raw fits some =
    rw (cells a (length raw + 7) fits (omega (arith, some.1)))
    (let o = fits.object_high in
    let o' = fits.object_low in
    let i = fits.index in
    let c = fits.channels_high in
    let c' = fits.channels_low in
    record {
      long = omega (arith, some.0);
      first = refl;
      second = refl;
      index = omega arith;
      private_bit = omega arith;
      channels = omega arith;
      zeros = omega (arith, some.1);
      whole = omega (arith, some.1);
      fullness = omega arith;
      blocks = refl;
    })

frame_config : (a : Config) (raw : List ℕ) → IsConfig a → IsRaw (length raw) → (config_in (frame a raw) ≡ a) × (length (frame a raw) - 7 ≡ length raw)
frame_config a raw fits some =
    rw (cells a (length raw + 7) fits (omega (arith, some.1)))
    (let o : ((a.object - 1) * 64 + a.index * 4 + a.channels / 4) / 64 + 1 ≡ a.object = omega (arith, fits.object_high, fits.object_low, fits.index, fits.channels_high) in
    let i : ((a.object - 1) * 64 + a.index * 4 + a.channels / 4) / 4 % 16 ≡ a.index = omega (arith, fits.object_high, fits.object_low, fits.index, fits.channels_high) in
    let c : ((a.object - 1) * 64 + a.index * 4 + a.channels / 4) % 2 * 4 + (a.channels % 4 * 64 + (length raw + 7) / 2048) / 64 ≡ a.channels = omega (arith, fits.object_high, fits.index, fits.channels_high, some.1) in
    (rw (o, i, c) refl, omega arith))

pub only : (a : Config) (raw : List ℕ) → IsConfig a → IsRaw (length raw) → adts_of (frame a raw) ≡ Ok (a, length raw)
unfolding adts_of
only a raw fits some =
    let none = passes (frame a raw) (frame_passes a raw fits some) in
    let p = frame_config a raw fits some in
    rw (none, p.0, p.1) refl

-- where no byte is refused
pub read : (b : List ℕ) → bad_byte b ≡ None → adts_of b ≡ Ok (config_in b, length b - 7)
unfolding adts_of
read b none = rw none refl

pub refused : (b : List ℕ) (at : ℕ) → bad_byte b ≡ Some at → adts_of b ≡ Err (BadAdts at)
unfolding adts_of
refused b at some = rw some refl

-- the last seven of eight bytes
pub head_is : (a : Config) (l n : ℕ) (bytes : List ℕ) → n ≡ 65521 * 1099511627776 + (a.object - 1) * 274877906944 + a.index * 17179869184 + a.channels * 1073741824 + l * 8192 + 8188
    → bytes ≡ to_be_bytes w64 n → take 7 (drop 1 bytes) ≡ head_bytes a l
unfolding head_bytes
head_is a l n bytes e b = rw b (ap (λ (x : ℕ). bytes_high_first 7 x) (e ∙ omega arith))
