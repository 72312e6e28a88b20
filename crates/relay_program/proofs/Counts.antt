-- A count that a word spells is below its bound.
use Rattle.std.proofs.Common.{◌≡◌, ℕ, suc, zero, ◌<◌, Bool, true, false, nat_lt, if◌then◌else◌, List, Option, None, Some, refl, subst, arith}
use Rattle.std.proofs.lemmas.Bool.Decides.{nat_tests}
use Rattle.relay_script.specs.Lines.{below, count_of, decimal_of, not_zero}

most_if : (b : Bool) (k bound n : ℕ) → nat_lt k bound ≡ b → not_zero (if b then Some k else None) ≡ Some n → n < bound
most_if true zero bound n t e = absurd (let h : None ≡ Some n = e in cc)
most_if true (suc k) bound n t e =
    let h : Some (suc k) ≡ Some n = e in
    let same : suc k ≡ n = cc in
    let less : suc k < bound = grind (arith, nat_tests, t) in
    subst (λ (m : ℕ). m < bound) same less
most_if false k bound n t e = absurd (let h : None ≡ Some n = e in cc)

most_of : (bound n : ℕ) (o : Option ℕ) → not_zero (below bound o) ≡ Some n → n < bound
most_of bound n None e = absurd (let h : None ≡ Some n = e in cc)
most_of bound n (Some k) e = most_if (nat_lt k bound) k bound n refl e

pub count_below : (bound n : ℕ) (word : List ℕ) → count_of bound word ≡ Some n → n < bound
count_below bound n word e = most_of bound n (decimal_of word) e
