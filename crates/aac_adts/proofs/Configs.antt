-- What is read of a configuration is its bits
use Rattle.std.proofs.Common.{◌≡◌, ℕ, ◌+◌, ◌*◌, ◌/◌, ◌%◌, ◌<◌, ◌≤◌, List, [], ◌∷◌, length, slice_index, Result, Ok, Err, IfOk, refl, sym, ◌∙◌, arith}
use Rattle.std.proofs.lemmas.Bool.Decides.{nat_tests}
use Rattle.relay_base.specs.Numbers.{be16_of}
use Rattle.bit_fields.specs.Fields.{field_bytes}
use Rattle.aac_adts.specs.declared.fail.AacFail.{AacFail}
use Rattle.aac_adts.specs.Config.{Config, IsConfig, Begins, checked, config_of}

-- two bytes
pub be16_two : (x y : ℕ) (rest : List ℕ) → be16_of (x ∷ y ∷ rest) ≡ x * 256 + y
unfolding be16_of
be16_two x y rest = refl

pub two_bits : (x y object index channels more : ℕ) → x < 256 → y < 256 → object ≡ (x * 256 + y) / 2048 → index ≡ (x * 256 + y) / 128 % 16 → channels ≡ (x * 256 + y) / 8 % 16 → more ≡ y % 8
    → x ∷ y ∷ [] ≡ field_bytes ((5, object) ∷ (4, index) ∷ (4, channels) ∷ (3, more) ∷ [])
two_bits x y object index channels more hx hy o i c m =
    let n : ℕ = object * 2048 + (index * 128 + (channels * 8 + more)) in
    let high : x ≡ (object * 2048 + (index * 128 + (channels * 8 + (more * 1 + 0)))) / 256 % 256 = omega arith in
    let low : y ≡ (object * 2048 + (index * 128 + (channels * 8 + (more * 1 + 0)))) % 256 = omega arith in
    cc

pub in_range : (object index channels : ℕ) (a : Config) → checked object index channels ≡ Ok a → IsConfig a × (a ≡ record { object = object; index = index; channels = channels })
unfolding checked
in_range object index channels a e = grind (arith, nat_tests)

pub again : (a : Config) → IsConfig a → checked a.object a.index a.channels ≡ Ok a
unfolding checked
again a fits = grind (arith, nat_tests)

-- two bytes are enough
pub enough : (b : List ℕ) (start : ℕ) → 2 ≤ length b → start ≡ be16_of b → config_of b ≡ checked (start / 2048) (start / 128 % 16) (start / 8 % 16)
unfolding config_of
enough b start long e = rw e (grind (arith, nat_tests))

-- where a configuration is read
read_found : (b : List ℕ) (a : Config) → ((i : ℕ) → slice_index b i < 256) → config_of b ≡ Ok a → IsConfig a × Begins b a
unfolding config_of
read_found [] a small e = absurd (cc)
read_found (x ∷ []) a small e = absurd (cc)
read_found (x ∷ y ∷ rest) a small e =
    let n : ℕ = be16_of (x ∷ y ∷ rest) in
    let w : n ≡ x * 256 + y = be16_two x y rest in
    let hx = small 0 in
    let hy = small 1 in
    let r = in_range (n / 2048) (n / 128 % 16) (n / 8 % 16) a (sym (enough (x ∷ y ∷ rest) n (omega arith) refl) ∙ e) in
    (r.0, record { more = y % 8; three_bits = omega arith; bits = rw r.1 (two_bits x y (n / 2048) (n / 128 % 16) (n / 8 % 16) (y % 8) hx hy (omega arith) (omega arith) (omega arith) refl) })

pub found : (b : List ℕ) → ((i : ℕ) → slice_index b i < 256) → (r : Result Config AacFail) → r ≡ config_of b → IfOk r (λ a. IsConfig a × Begins b a)
found b small (Ok a) e = read_found b a small (sym e)
found b small (Err f) e = tt

again_two : (x y : ℕ) (rest : List ℕ) (a : Config) (more : ℕ) → IsConfig a → more < 8 → x ∷ y ∷ [] ≡ field_bytes ((5, a.object) ∷ (4, a.index) ∷ (4, a.channels) ∷ (3, more) ∷ []) → config_of (x ∷ y ∷ rest) ≡ Ok a
again_two x y rest a more fits small e =
    let hx : x ≡ (a.object * 2048 + (a.index * 128 + (a.channels * 8 + (more * 1 + 0)))) / 256 % 256 = cc in
    let hy : y ≡ (a.object * 2048 + (a.index * 128 + (a.channels * 8 + (more * 1 + 0)))) % 256 = cc in
    let w : be16_of (x ∷ y ∷ rest) ≡ a.object * 2048 + (a.index * 128 + (a.channels * 8 + more)) = be16_two x y rest ∙ omega (arith, fits.object_high, fits.index, fits.channels_high) in
    let o : be16_of (x ∷ y ∷ rest) / 2048 ≡ a.object = omega (arith, fits.object_high, fits.index, fits.channels_high) in
    let i : be16_of (x ∷ y ∷ rest) / 128 % 16 ≡ a.index = omega (arith, fits.object_high, fits.index, fits.channels_high) in
    let c : be16_of (x ∷ y ∷ rest) / 8 % 16 ≡ a.channels = omega (arith, fits.object_high, fits.index, fits.channels_high) in
    enough (x ∷ y ∷ rest) (be16_of (x ∷ y ∷ rest)) (omega arith) refl ∙ rw (o, i, c) (again a fits)

pub only : (b : List ℕ) (a : Config) → IsConfig a → Begins b a → config_of b ≡ Ok a
only [] a fits begins = let e = begins.bits in absurd (cc)
only (x ∷ []) a fits begins = let e = begins.bits in absurd (cc)
only (x ∷ y ∷ rest) a fits begins = again_two x y rest a begins.more fits begins.three_bits begins.bits
