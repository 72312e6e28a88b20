-- The first elements of a list that is two lists, and the rest of it.
use Rattle.std.proofs.Common.{ℕ, List, [], ◌∷◌, ◌++◌, length, take, drop, ◌-◌, ◌≡◌, refl, zero, suc, ap, arith}

pub drop_over : {A : Type 0} (n : ℕ) (xs ys : List A) → drop n (xs ++ ys) ≡ drop n xs ++ drop (n - length xs) ys
drop_over zero xs ys = let e : 0 - length xs ≡ 0 = omega arith in rw e refl
drop_over (suc n) [] ys = let e : suc n - 0 ≡ suc n = omega arith in rw e refl
drop_over (suc n) (x ∷ xs) ys = let e : suc n - length (x ∷ xs) ≡ n - length xs = omega arith in rw e (drop_over n xs ys)

pub take_over : {A : Type 0} (n : ℕ) (xs ys : List A) → take n (xs ++ ys) ≡ take n xs ++ take (n - length xs) ys
take_over zero xs ys = let e : 0 - length xs ≡ 0 = omega arith in rw e refl
take_over (suc n) [] ys = let e : suc n - 0 ≡ suc n = omega arith in rw e refl
take_over (suc n) (x ∷ xs) ys = let e : suc n - length (x ∷ xs) ≡ n - length xs = omega arith in rw e (ap (λ (t : List _). x ∷ t) (take_over n xs ys))
