-- Numbers and lengths as bytes.
use Rattle.std.proofs.Common.{◌≡◌, ℕ, zero, suc, ◌+◌, ◌^◌, ◌<◌, ◌≤◌, List, [], ◌∷◌, ◌++◌, length, get_or, take, drop, refl, sym, ap, ◌∙◌, arith, inl, inr}
use Rattle.std.specs.Int.{Width, w16, w32, w64, byte_len, from_be_bytes, to_be_bytes}
use Rattle.std.proofs.lemmas.Bool.{cases_lt, le-ltb, lt-ltb}
use Rattle.std.proofs.lemmas.List.{take_at, take-append-drop, length-append, length-take, get_or-take, get_or_past}
use Rattle.std.proofs.lemmas.Nat.{be_bytes_2, be_bytes_4, be_bytes_8, from_be_bytes-to_be_bytes_2, from_be_bytes-to_be_bytes_4, from_be_bytes-to_be_bytes_8}
use Rattle.std.specs.Prelude.{Result, Ok, Err}
use Rattle.std.specs.Borrow.{Bor}
use Rattle.amf0_value.specs.declared.fail.Cause.{Cause}
use Rattle.amf0_value.specs.declared.fail.Stop.{Stop}
use Rattle.amf0_value.specs.declared.fail.Stop.TheVariants as stop
use Rattle.amf0_value.specs.Reading.{Gives, IsShort}
use Rattle.amf0_value.specs.Spelling.{be, front, string}
use Rattle.amf0_value.specs.Refusal.{with_length}

-- no number is more than a byte's
abbrev pub AreOctets : List ℕ → Type 0
AreOctets bytes = (at : ℕ) → get_or bytes at 0 < 256

-- nor is one of the first few
front_octets : (count at : ℕ) (bytes : List ℕ) → AreOctets bytes → get_or (take count bytes) at 0 < 256
front_octets zero at bytes octets = omega arith
front_octets (suc count) at [] octets = octets at
front_octets (suc count) zero (x ∷ bytes) octets = octets 0
front_octets (suc count) (suc at) (x ∷ bytes) octets = front_octets count at bytes (λ n. octets (suc n))

-- what holds of the numbers of a width
pub record IsWide (w : Width) (limit : ℕ) : Type 0 where
  pub len : (n : ℕ) → length (be w n) ≡ byte_len w
  pub back : (bytes : List ℕ) → byte_len w ≤ length bytes → AreOctets bytes → bytes ≡ be w (from_be_bytes w (take (byte_len w) bytes)) ++ drop (byte_len w) bytes
  pub again : (n : ℕ) (rest : List ℕ) → n < limit → front w (be w n ++ rest) ≡ n
  pub below : (bytes : List ℕ) → AreOctets bytes → from_be_bytes w (take (byte_len w) bytes) < limit

back_by : (w : Width) (bytes : List ℕ) → to_be_bytes w (from_be_bytes w (take (byte_len w) bytes)) ≡ take (byte_len w) bytes → bytes ≡ be w (from_be_bytes w (take (byte_len w) bytes)) ++ drop (byte_len w) bytes
unfolding be
back_by w bytes e = rw e (sym (take-append-drop (byte_len w) bytes))

again_by : (w : Width) (n : ℕ) (rest : List ℕ) → length (to_be_bytes w n) ≡ byte_len w → from_be_bytes w (to_be_bytes w n) ≡ n → front w (be w n ++ rest) ≡ n
unfolding be front
again_by w n rest len e = ap (from_be_bytes w) (take_at (to_be_bytes w n) rest (byte_len w) len) ∙ e

pub wide16 : IsWide w16 (2 ^ 16)
unfolding be
wide16 = record {
  len = λ n. refl;
  back = λ bytes long fits. back_by w16 bytes (be_bytes_2 (take 2 bytes) _ (omega (arith, length-take 2 bytes)) (λ at. front_octets 2 at bytes fits) refl);
  again = λ n rest lt. again_by w16 n rest refl (from_be_bytes-to_be_bytes_2 n lt);
  below = λ bytes fits. omega (arith, front_octets 2 0 bytes fits, front_octets 2 1 bytes fits);
}

pub wide32 : IsWide w32 (2 ^ 32)
unfolding be
wide32 = record {
  len = λ n. refl;
  back = λ bytes long fits. back_by w32 bytes (be_bytes_4 (take 4 bytes) _ (omega (arith, length-take 4 bytes)) (λ at. front_octets 4 at bytes fits) refl);
  again = λ n rest lt. again_by w32 n rest refl (from_be_bytes-to_be_bytes_4 n lt);
  below = λ bytes fits. omega (arith, front_octets 4 0 bytes fits, front_octets 4 1 bytes fits, front_octets 4 2 bytes fits, front_octets 4 3 bytes fits);
}

pub wide64 : IsWide w64 (2 ^ 64)
unfolding be
wide64 = record {
  len = λ n. refl;
  back = λ bytes long fits. back_by w64 bytes (be_bytes_8 (take 8 bytes) _ (omega (arith, length-take 8 bytes)) (λ at. front_octets 8 at bytes fits) refl);
  again = λ n rest lt. again_by w64 n rest refl (from_be_bytes-to_be_bytes_8 n lt);
  below = λ bytes fits. omega (arith, front_octets 8 0 bytes fits, front_octets 8 1 bytes fits, front_octets 8 2 bytes fits, front_octets 8 3 bytes fits, front_octets 8 4 bytes fits, front_octets 8 5 bytes fits, front_octets 8 6 bytes fits, front_octets 8 7 bytes fits);
}

pub number_read : (w : Width) (limit : ℕ) (wide : IsWide w limit) (bytes : List ℕ) (n : ℕ) (rest : List ℕ) → AreOctets bytes → byte_len w ≤ length bytes → n ≡ from_be_bytes w (take (byte_len w) bytes) → rest ≡ drop (byte_len w) bytes
    → (n < limit) × (bytes ≡ be w n ++ rest)
number_read w limit wide bytes n rest fits long e r = (rw e (wide.below bytes fits), rw (e, r) (wide.back bytes long fits))

-- a length and its bytes
pub with_length_is : (w : Width) (limit : ℕ) (wide : IsWide w limit) (len : ℕ) (rest : List ℕ) → len < limit → with_length w (be w len ++ rest) ≡ byte_len w + len
with_length_is w limit wide len rest lt =
    let long : byte_len w ≤ length (be w len ++ rest) = omega (arith, length-append (be w len) rest, wide.len len) in
    rw (le-ltb _ _ long, wide.again len rest lt) refl

pub slice_reads : (w : Width) (limit : ℕ) (wide : IsWide w limit) (bytes : List ℕ) (len : ℕ) (rest : List ℕ) (r : Result (Bor (List ℕ) × Bor (List ℕ)) Stop) → len < limit → bytes ≡ be w len ++ rest
    → Gives (λ x. (length x.0.now ≡ len) × (rest ≡ x.0.now ++ x.1.now)) (IsShort rest len) r
    → Gives (λ x. (length x.0.now < limit) × (bytes ≡ string w x.0.now x.1.now)) (IsShort bytes (with_length w bytes)) r
slice_reads w limit wide bytes len rest (Ok x) lt e h =
    (omega (arith, h.0), e ∙ ap (λ (n : ℕ). be w n ++ rest) (sym h.0) ∙ ap (λ (t : List ℕ). be w (length x.0.now) ++ t) h.1)
slice_reads w limit wide bytes len rest (Err stop.Memory) lt e h = tt
slice_reads w limit wide bytes len rest (Err (stop.Refused c left)) lt e h =
    let needs : with_length w bytes ≡ byte_len w + len = ap (with_length w) e ∙ with_length_is w limit wide len rest lt in
    let all : length bytes ≡ byte_len w + length rest = ap length e ∙ length-append (be w len) rest ∙ ap (λ (n : ℕ). n + length rest) (wide.len len) in
    (h.0, h.1, rw needs (omega (arith, all, h.2)))

pub short_length : (w : Width) (bytes : List ℕ) (c : Cause) (left : ℕ) → IsShort bytes (byte_len w) c left → IsShort bytes (with_length w bytes) c left
short_length w bytes c left h = (h.0, h.1, let lt : length bytes < byte_len w = h.2 in rw (lt-ltb _ _ lt) lt)

-- what is short behind a number is short with it
pub short_behind : (w : Width) (limit : ℕ) (wide : IsWide w limit) (bytes : List ℕ) (n needs : ℕ) (rest : List ℕ) (c : Cause) (left : ℕ) → bytes ≡ be w n ++ rest → IsShort rest needs c left → IsShort bytes (byte_len w + needs) c left
short_behind w limit wide bytes n needs rest c left e h =
    let all : length bytes ≡ byte_len w + length rest = ap length e ∙ length-append (be w n) rest ∙ ap (λ (k : ℕ). k + length rest) (wide.len n) in
    (h.0, h.1, omega (arith, all, h.2))
