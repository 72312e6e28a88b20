-- The least id that isn't open.
use Rattle.std.proofs.Common.{◌≡◌, ℕ, zero, suc, ◌+◌, ◌-◌, ◌<◌, ◌≤◌, List, Option, Some, None, Bool, true, false, cond, inl, inr, refl, subst, arith}
use Rattle.std.proofs.lemmas.Bool.{cases_lt}
use Rattle.command_dialog.specs.Meaning.{is_open, free_from, least_free}

pub free_here : (ids : List ℕ) (n id : ℕ) → 0 < n → is_open id ids ≡ false → free_from ids n id ≡ Some id
unfolding free_from
free_here ids zero id lt e = absurd (omega arith)
free_here ids (suc n) id lt e = rw e refl

pub free_later : (ids : List ℕ) (n id : ℕ) → 0 < n → is_open id ids ≡ true → free_from ids n id ≡ free_from ids (n - 1) (id + 1)
unfolding free_from
free_later ids zero id lt e = absurd (omega arith)
free_later ids (suc n) id lt e = let k : suc n - 1 ≡ n = omega arith in rw (e, k) refl

pub none_free : (ids : List ℕ) (n id : ℕ) → n ≡ 0 → free_from ids n id ≡ None
unfolding free_from
none_free ids zero id e = refl
none_free ids (suc n) id e = absurd (omega (arith, e))

-- ---- what is found is free, and the least

some_by : (b : Bool) (rest : Option ℕ) (ids : List ℕ) (n id x : ℕ) → is_open id ids ≡ b
    → (rest ≡ Some x → (id + 1 ≤ x) × (x < id + 1 + n) × (is_open x ids ≡ false)) → cond b rest (Some id) ≡ Some x
    → (id ≤ x) × (x < id + suc n) × (is_open x ids ≡ false)
some_by true rest ids n id x o ih e = let h = ih e in (omega (arith, h.0), omega (arith, h.1), h.2)
some_by false rest ids n id x o ih e =
    let same : id ≡ x = cc in
    (omega (arith, same), omega (arith, same), subst (λ (y : ℕ). is_open y ids ≡ false) same o)

some_free : (ids : List ℕ) (n id x : ℕ) → free_from ids n id ≡ Some x → (id ≤ x) × (x < id + n) × (is_open x ids ≡ false)
unfolding free_from
some_free ids zero id x e = absurd cc
some_free ids (suc n) id x e = some_by (is_open id ids) (free_from ids n (id + 1)) ids n id x refl (some_free ids n (id + 1) x) e

open_at : (ids : List ℕ) (id k : ℕ) → is_open id ids ≡ true → id ≤ k → (id + 1 ≤ k → is_open k ids ≡ true) → is_open k ids ≡ true
open_at ids id k o le more =
    elim (cases_lt id k) [
      | inl lt ↦ more (omega (arith, lt))
      | inr ge ↦ let same : id ≡ k = omega arith in subst (λ (y : ℕ). is_open y ids ≡ true) same o
    ]

least_by : (b : Bool) (rest : Option ℕ) (ids : List ℕ) (id x k : ℕ) → is_open id ids ≡ b
    → (rest ≡ Some x → id + 1 ≤ k → k < x → is_open k ids ≡ true) → cond b rest (Some id) ≡ Some x → id ≤ k → k < x → is_open k ids ≡ true
least_by true rest ids id x k o ih e le lt = open_at ids id k o le (λ more. ih e more lt)
least_by false rest ids id x k o ih e le lt = let same : id ≡ x = cc in absurd (omega (arith, same, le, lt))

least_some : (ids : List ℕ) (n id x k : ℕ) → free_from ids n id ≡ Some x → id ≤ k → k < x → is_open k ids ≡ true
unfolding free_from
least_some ids zero id x k e = absurd cc
least_some ids (suc n) id x k e = least_by (is_open id ids) (free_from ids n (id + 1)) ids id x k refl (least_some ids n (id + 1) x k) e

none_by : (b : Bool) (rest : Option ℕ) (ids : List ℕ) (n id k : ℕ) → is_open id ids ≡ b
    → (rest ≡ None → id + 1 ≤ k → k < id + 1 + n → is_open k ids ≡ true) → cond b rest (Some id) ≡ None → id ≤ k → k < id + suc n → is_open k ids ≡ true
none_by true rest ids n id k o ih e le lt = open_at ids id k o le (λ more. ih e more (omega (arith, lt)))
none_by false rest ids n id k o ih e le lt = absurd cc

none_open : (ids : List ℕ) (n id k : ℕ) → free_from ids n id ≡ None → id ≤ k → k < id + n → is_open k ids ≡ true
unfolding free_from
none_open ids zero id k e le lt = absurd (omega (arith, le, lt))
none_open ids (suc n) id k e le lt = none_by (is_open id ids) (free_from ids n (id + 1)) ids n id k refl (none_open ids n (id + 1) k) e le lt

pub is_free : (ids : List ℕ) (id : ℕ) → least_free ids ≡ Some id → (1 ≤ id) × (id ≤ 16) × (is_open id ids ≡ false)
is_free ids id e = let h = some_free ids 16 1 id e in (h.0, omega (arith, h.1), h.2)

pub is_least : (ids : List ℕ) (id k : ℕ) → least_free ids ≡ Some id → 1 ≤ k → k < id → is_open k ids ≡ true
is_least ids id k e = least_some ids 16 1 id k e

pub all_open : (ids : List ℕ) (k : ℕ) → least_free ids ≡ None → 1 ≤ k → k ≤ 16 → is_open k ids ≡ true
all_open ids k e le most = none_open ids 16 1 k e le (omega (arith, most))
