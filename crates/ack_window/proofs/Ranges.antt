-- Filters over numbers in a row.
use Rattle.std.proofs.Common.{ℕ, zero, suc, ◌+◌, ◌<◌, ◌≤◌, ◌≡◌, Bool, true, false, List, [], ◌∷◌, ◌++◌, refl, ap, arith}
use Rattle.std.specs.List.{filter, range_with_len}

pub range_with_len-add : (a m n : ℕ) → range_with_len a (m + n) ≡ range_with_len a m ++ range_with_len (a + m) n
range_with_len-add a zero n = let e : zero + n ≡ n = omega arith in let f : a + zero ≡ a = omega arith in rw (e, f) refl
range_with_len-add a (suc m) n =
    let e : suc m + n ≡ suc (m + n) = omega arith in
    let f : a + suc m ≡ (a + 1) + m = omega arith in
    rw (e, f) (ap (λ (t : List ℕ). a ∷ t) (range_with_len-add (a + 1) m n))

-- tests that agree on the numbers keep the same of them
pub filter_same : (p q : ℕ → Bool) (a n : ℕ) → ((x : ℕ) → a ≤ x → x < a + n → p x ≡ q x) → filter p (range_with_len a n) ≡ filter q (range_with_len a n)
filter_same p q a zero same = refl
filter_same p q a (suc n) same =
    let e = same a (omega arith) (omega arith) in
    let rest = filter_same p q (a + 1) n (λ x h k. same x (omega arith) (omega arith)) in
    rw (e, rest) refl

-- a test that none passes
pub filter_none : (p : ℕ → Bool) (a n : ℕ) → ((x : ℕ) → a ≤ x → x < a + n → p x ≡ false) → filter p (range_with_len a n) ≡ []
filter_none p a zero fails = refl
filter_none p a (suc n) fails =
    let e = fails a (omega arith) (omega arith) in
    let rest = filter_none p (a + 1) n (λ x h k. fails x (omega arith) (omega arith)) in
    rw (e, rest) refl

-- a test that the last alone passes
pub filter_last : (p : ℕ → Bool) (a n last : ℕ) → a + n ≡ last → ((x : ℕ) → a ≤ x → x < last → p x ≡ false) → p last ≡ true → filter p (range_with_len a (suc n)) ≡ last ∷ []
filter_last p a zero last is fails passes = let e : a ≡ last = omega arith in rw (e, passes) refl
filter_last p a (suc n) last is fails passes =
    let e = fails a (omega arith) (omega arith) in
    rw e (filter_last p (a + 1) n last (omega arith) (λ x h k. fails x (omega arith) k) passes)
