-- A word that is a number is what `decimal` writes of it.
use Rattle.std.proofs.Common.{◌≡◌, ◌↔◌, ℕ, zero, suc, ◌+◌, ◌-◌, ◌*◌, ◌<◌, ◌≤◌, ◌^◌, ◌==◌, nat_lt, nat_le, ◌&&◌, if◌then◌else◌, Bool, true, false, get_or}
use Rattle.std.proofs.Common.{List, [], ◌∷◌, Option, None, Some, length, refl, ap, sym, ◌∙◌, arith}
use Rattle.std.proofs.lemmas.Bool.Decides.{nat_tests}
use Rattle.std.proofs.lemmas.Fmt.{decimal_is_IsNumeral, decimal_digit, first_decimal, decimal-digits_value}
use Rattle.std.proofs.lemmas.Str.{digit_value_digit}
use Rattle.std.proofs.lemmas.Str.Parse.{digit_from_value, numerals_by_value, tells_digits}
use Rattle.std.specs.Str.Parse.{AllDigits, digits_value, digits_value_after}
use Rattle.std.specs.Char.{digit_value}
use Rattle.std.specs.Fmt.{decimal}
use Rattle.relay_script.specs.Lines.{digits_from, decimal_of, below, number}

-- ---- the digits that are read

-- digits and their value, after those that were read
record Digits (value : ℕ) (ds : List ℕ) (n : ℕ) : Type 0 where
  all : AllDigits 10 ds
  worth : digits_value_after 10 value ds ≡ n

digit_cases : (b : Bool) (c value : ℕ) (cs : List ℕ) (n : ℕ) → (nat_le 48 c && nat_le c 57) ≡ b
    → (if b then digits_from (10 * value + (c - 48)) cs else None) ≡ Some n →
    (digits_from (10 * value + (c - 48)) cs ≡ Some n → Digits (10 * value + (c - 48)) cs n) → Digits value (c ∷ cs) n
digit_cases true c value cs n b e more =
    let d = more e in
    let low : 48 ≤ c = grind (arith, nat_tests) in
    let high : c ≤ 57 = grind (arith, nat_tests) in
    let is : digit_value c + 48 ≡ c = digit_value_digit c (low, high) in
    let same : value * 10 + digit_value c ≡ 10 * value + (c - 48) = omega (arith, is) in
    record { all = (omega (arith, is, high), d.all); worth = ap (λ (v : ℕ). digits_value_after 10 v cs) same ∙ d.worth }
digit_cases false c value cs n b e more = absurd (cc)

some_same : (a b : ℕ) → Some a ≡ Some b → a ≡ b
some_same a b e = cc

told : (ds : List ℕ) (value n : ℕ) → digits_from value ds ≡ Some n → Digits value ds n
told [] value n e = record { all = tt; worth = some_same value n e }
told (c ∷ cs) value n e = digit_cases (nat_le 48 c && nat_le c 57) c value cs n refl e (told cs (10 * value + (c - 48)) n)

spelled : (ds : List ℕ) (value : ℕ) → AllDigits 10 ds → digits_from value ds ≡ Some (digits_value_after 10 value ds)
spelled [] value d = refl
spelled (c ∷ cs) value d =
    let range = digit_from_value c d.0 in
    let low : nat_le 48 c ≡ true = grind (arith, nat_tests, range.0) in
    let high : nat_le c 57 ≡ true = grind (arith, nat_tests, range.1) in
    let is : digit_value c + 48 ≡ c = digit_value_digit c range in
    let same : 10 * value + (c - 48) ≡ value * 10 + digit_value c = omega (arith, is) in
    rw (low, high) (ap (λ (v : ℕ). digits_from v cs) same ∙ spelled cs (value * 10 + digit_value c) d.1)

-- ---- the number of a word

-- digits without a leading zero
record Plain (ds : List ℕ) (n : ℕ) : Type 0 where
  all : AllDigits 10 ds
  some : 0 < length ds
  lead : get_or ds 0 0 ≡ 48 → length ds ≡ 1
  worth : digits_value 10 ds ≡ n

plain_cases : (b : Bool) (c d : ℕ) (ds : List ℕ) (n : ℕ) → (c == 48) ≡ b → (if b then None else digits_from 0 (c ∷ d ∷ ds)) ≡ Some n → Plain (c ∷ d ∷ ds) n
plain_cases true c d ds n b e = absurd (cc)
plain_cases false c d ds n b e =
    let read = told (c ∷ d ∷ ds) 0 n e in
    let other : c ≡ 48 → ⊥ = λ z. grind (arith, nat_tests) in
    record { all = read.all; some = omega arith; lead = λ z. absurd (other z); worth = read.worth }

plain : (ds : List ℕ) (n : ℕ) → decimal_of ds ≡ Some n → Plain ds n
plain [] n e = absurd (cc)
plain (c ∷ []) n e = let read = told (c ∷ []) 0 n e in record { all = read.all; some = omega arith; lead = λ z. refl; worth = read.worth }
plain (c ∷ d ∷ ds) n e = plain_cases (c == 48) c d ds n refl e

is_decimal : (ds : List ℕ) (n : ℕ) → n < 2 ^ 64 → decimal_of ds ≡ Some n → ds ≡ decimal n
is_decimal ds n small e =
    let p = plain ds n e in
    let same = decimal-digits_value (numerals_by_value (AllDigits 10) tells_digits) ds p.all p.some p.lead (omega (arith, small, p.worth)) in
    sym same ∙ ap decimal p.worth

reads : (ds : List ℕ) (n : ℕ) → AllDigits 10 ds → digits_value 10 ds ≡ n → 0 < length ds → (n ≡ 0 → length ds ≡ 1) → (0 < n → 48 < get_or ds 0 0)
    → decimal_of ds ≡ Some n
reads [] n all worth some one lead = absurd (omega (arith, some))
reads (c ∷ []) n all worth some one lead = spelled (c ∷ []) 0 all ∙ ap Some worth
reads (c ∷ d ∷ ds) zero all worth some one lead = absurd (omega (arith, one refl))
reads (c ∷ d ∷ ds) (suc n) all worth some one lead =
    let high : 48 < c = lead (omega arith) in
    let other : (c == 48) ≡ false = grind (arith, nat_tests) in
    rw other (spelled (c ∷ d ∷ ds) 0 all ∙ ap Some worth)

reads_decimal : (n : ℕ) → n < 2 ^ 64 → decimal_of (decimal n) ≡ Some n
reads_decimal n small =
    let is = decimal_is_IsNumeral n small in
    let one : n ≡ 0 → length (decimal n) ≡ 1 = λ z. ap length (decimal_digit n (omega (arith, z))) in
    reads (decimal n) n is.0.1 is.1 is.0.0 one (λ some. first_decimal n some small)

-- ---- below a bound

below_cases : (b : Bool) (bound m n : ℕ) → nat_lt m bound ≡ b → (if b then Some m else None) ≡ Some n → (m ≡ n) × (m < bound)
below_cases true bound m n b e = (some_same m n e, grind (arith, nat_tests))
below_cases false bound m n b e = absurd (cc)

below_told : (bound : ℕ) (read : Option ℕ) (n : ℕ) → below bound read ≡ Some n → (read ≡ Some n) × (n < bound)
below_told bound None n e = absurd (cc)
below_told bound (Some m) n e = let is = below_cases (nat_lt m bound) bound m n refl e in (ap Some is.0, omega (arith, is.0, is.1))

below_is : (bound n : ℕ) → n < bound → below bound (Some n) ≡ Some n
below_is bound n h = let less : nat_lt n bound ≡ true = grind (arith, nat_tests) in rw less refl

number_told : (bound n : ℕ) (word : List ℕ) → bound ≤ 2 ^ 64 → number bound word ≡ Some n → (n < bound) × (word ≡ decimal n)
number_told bound n word small e =
    let is = below_told bound (decimal_of word) n e in
    (is.1, is_decimal word n (omega (arith, is.1, small)) is.0)

number_is : (bound n : ℕ) (word : List ℕ) → bound ≤ 2 ^ 64 → (n < bound) × (word ≡ decimal n) → number bound word ≡ Some n
number_is bound n word small h = ap (λ (w : List ℕ). below bound (decimal_of w)) h.1 ∙ ap (below bound) (reads_decimal n (omega (arith, h.0, small)))
    ∙ below_is bound n h.0

pub number_law : (bound n : ℕ) (word : List ℕ) → bound ≤ 2 ^ 64 → (number bound word ≡ Some n) ↔ ((n < bound) × (word ≡ decimal n))
number_law bound n word small = (number_told bound n word small, number_is bound n word small)
