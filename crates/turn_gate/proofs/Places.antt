-- Beginnings of lists, and how often a place stands in a list
use Rattle.std.proofs.Common.{◌≡◌, ◌≢◌, ℕ, zero, suc, ◌+◌, ◌<◌, ◌≤◌, List, [], ◌∷◌, ◌++◌, length, drop, get_or, set, refl, sym, ap, ◌∙◌, subst, arith, cond, eq-eqb, ne_eqb, lt-ltb, le-ltb, length-append, append_assoc, lt_of_not-le}
use mathlib.Core.Logic.{dite}
use mathlib.Core.Option.{some, some-injective, some-ne-none}
use native.Mathlib.Decide.{ℕ_discrete, dec_le}
use lib.ListN.{get_elem?}
use Rattle.turn_gate.specs.Histories.{Begins, longer, shorter, total, times, AreOwn}

module _ {E : Type 0} where
  pub begins_less : (xs ys : List E) → Begins xs ys → length xs ≤ length ys
  begins_less xs ys b = let e = ap length b.1 in let l = length-append xs b.0 in omega arith

  pub begins_more : (xs ys zs : List E) → Begins xs ys → Begins xs (ys ++ zs)
  begins_more xs ys zs b = (b.0 ++ zs, sym (append_assoc xs b.0 zs) ∙ ap (λ (l : List E). l ++ zs) b.1)

  -- of two beginnings of one list, the shorter begins the longer
  pub begins_both : (xs ys zs : List E) → Begins xs zs → Begins ys zs → length xs ≤ length ys → Begins xs ys
  begins_both [] ys zs b c l = (ys, refl)
  begins_both (x ∷ xs) [] zs b c l = absurd (omega arith)
  begins_both (x ∷ xs) (y ∷ ys) [] b c l = absurd (let e = ap length b.1 in omega arith)
  begins_both (x ∷ xs) (y ∷ ys) (z ∷ zs) b c l =
      let head : x ≡ y = ap (λ (l : List E). get_or l 0 z) (b.1 ∙ sym c.1) in
      let t = begins_both xs ys zs (b.0, ap (drop 1) b.1) (c.0, ap (drop 1) c.1) (omega arith) in
      (t.0, λ i. head i ∷ t.1 i)

  pub pick : (P : List E → List E → Type 0) (xs ys : List E) → (length ys ≤ length xs → P xs ys) → (length xs < length ys → P ys xs) → P (longer xs ys) (shorter xs ys)
  pick P xs ys h k = dite (dec_le (length ys) (length xs))
      (λ l. subst (λ b. P (cond b ys xs) (cond b xs ys)) (sym (le-ltb (length xs) (length ys) l)) (h l))
      (λ n. let l = lt_of_not-le n in subst (λ b. P (cond b ys xs) (cond b xs ys)) (sym (lt-ltb (length xs) (length ys) l)) (k l))

  pub longer_begins : (xs ys zs : List E) → Begins xs zs → Begins ys zs → Begins (longer xs ys) zs × Begins (shorter xs ys) zs
  longer_begins xs ys zs b c = pick (λ p q. Begins p zs × Begins q zs) xs ys (λ _. (b, c)) (λ _. (c, b))

  pub longer_length : (xs ys : List E) → (length xs ≤ length (longer xs ys)) × (length ys ≤ length (longer xs ys)) × (length (shorter xs ys) ≤ length (longer xs ys))
  longer_length xs ys = pick (λ p q. (length xs ≤ length p) × (length ys ≤ length p) × (length q ≤ length p)) xs ys (λ l. (omega arith, l, l)) (λ l. (omega arith, omega arith, omega arith))

pub times-append : (p : ℕ) (xs ys : List ℕ) → times p (xs ++ ys) ≡ times p xs + times p ys
times-append p [] ys = omega arith
times-append p (x ∷ xs) ys = omega (arith, times-append p xs ys)

pub times_other : (p q : ℕ) → p ≢ q → times p (q ∷ []) ≡ 0
times_other p q n = ap (λ b. cond b 1 0 + 0) (ne_eqb q p (λ e. n (sym e)))

pub times_self : (p q : ℕ) → p ≡ q → times p (q ∷ []) ≡ 1
times_self p q e = ap (λ b. cond b 1 0 + 0) (eq-eqb q p (sym e))

pub times_single : (p q : ℕ) → times p (q ∷ []) ≤ 1
times_single p q = dite (ℕ_discrete q p) (λ e. let t = ap (λ b. cond b 1 0 + 0) (eq-eqb q p e) in omega arith) (λ n. let t = ap (λ b. cond b 1 0 + 0) (ne_eqb q p n) in omega arith)

-- one more place behind all own ones
pub own_more : (places : List ℕ) (n m : ℕ) → AreOwn places n → n ≤ m → AreOwn (places ++ m ∷ []) (m + 1)
own_more places n m own l p =
    let t = times-append p places (m ∷ []) in let o = own p in let single = times_single p m in
    dite (ℕ_discrete p m)
    (λ (e : p ≡ m). dite (dec_le (times p places) 0) (λ z. (omega arith, λ _. omega arith)) (λ (more : ¬ (times p places ≤ 0)). absurd (let x = o.1 (lt_of_not-le more) in omega arith)))
    (λ apart. let z = times_other p m apart in (omega arith, λ (h : 0 < times p (places ++ m ∷ [])). let x = o.1 (omega arith) in omega arith))

module _ {A : Type 0} (g : A → ℕ) where
  pub total-append : (l m : List A) → total g (l ++ m) ≡ total g l + total g m
  total-append [] m = omega arith
  total-append (x ∷ xs) m = omega (arith, total-append xs m)

  pub total-set : (l : List A) (j : ℕ) (v w : A) → get_elem? l j ≡ some v → total g (set l j w) + g v ≡ total g l + g w
  total-set [] j v w e = absurd (some-ne-none v (sym e))
  total-set (x ∷ xs) zero v w e = omega (arith, ap g (some-injective x v e))
  total-set (x ∷ xs) (suc j) v w e = omega (arith, total-set xs j v w e)

  pub total_zero : (l : List A) → ((j : ℕ) (v : A) → get_elem? l j ≡ some v → g v ≡ 0) → total g l ≡ 0
  total_zero [] h = refl
  total_zero (x ∷ xs) h = omega (arith, h 0 x refl, total_zero xs (λ j v e. h (suc j) v e))

  pub term_le : (l : List A) (j : ℕ) (v : A) → get_elem? l j ≡ some v → g v ≤ total g l
  term_le [] j v e = absurd (some-ne-none v (sym e))
  term_le (x ∷ xs) zero v e = omega (arith, ap g (some-injective x v e))
  term_le (x ∷ xs) (suc j) v e = omega (arith, term_le xs j v e)
