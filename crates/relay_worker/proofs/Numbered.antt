-- Lists of which each member has something by its place
use Rattle.std.proofs.Common.{◌≡◌, ◌≢◌, ◌<◌, ℕ, List, [], ◌∷◌, ◌++◌, length, length-append, refl, sym, subst, arith, inl, inr}
use Rattle.std.specs.Prelude.{get_or, ◌+◌, ◌≤◌, ◌⊎◌, slice_set}
use Rattle.std.proofs.lemmas.Bool.{cases_eq, cases_lt}
use Rattle.std.proofs.lemmas.List.{get_or-set_other, get_or-set_same, get_or_append_left, get_or_push, length-set}
use Rattle.relay_worker.specs.Running.{EachAt}

module _ {X : Type 0} (P : ℕ → X → Type 0) where
  pub each_none : EachAt P []
  each_none i d l = absurd (omega (arith, l))

  -- one less
  pub each_pop : (xs ys : List X) (x : X) → xs ≡ ys ++ x ∷ [] → EachAt P xs → EachAt P ys × P (length ys) x
  each_pop xs ys x e n =
      let whole : EachAt P (ys ++ x ∷ []) = subst (λ (l : List X). EachAt P l) e n in (
        λ i d l. subst (P i) (get_or_append_left ys (x ∷ []) d i l) (whole i d (omega (arith, l, length-append ys (x ∷ [])))),
        subst (P (length ys)) (get_or_push ys x x (length ys) refl) (whole (length ys) x (omega (arith, length-append ys (x ∷ [])))),
      )

  each_by : (xs : List X) (x : X) → EachAt P xs → P (length xs) x → (i : ℕ) (d : X) → i < length (xs ++ x ∷ []) → (i < length xs) ⊎ (length xs ≤ i)
      → P i (get_or (xs ++ x ∷ []) i d)
  each_by xs x n p i d l (inl m) = subst (P i) (sym (get_or_append_left xs (x ∷ []) d i m)) (n i d m)
  each_by xs x n p i d l (inr m) =
      let is : length xs ≡ i = omega (arith, l, m, length-append xs (x ∷ [])) in
      subst (P i) (sym (get_or_push xs x d i is)) (subst (λ (k : ℕ). P k x) is p)

  -- one more
  pub each_push : (xs : List X) (x : X) → EachAt P xs → P (length xs) x → EachAt P (xs ++ x ∷ [])
  each_push xs x n p = λ i d l. each_by xs x n p i d l (cases_lt i (length xs))

  set_by : (xs : List X) (n : ℕ) (y : X) → EachAt P xs → P n y → (i : ℕ) (d : X) → i < length (slice_set xs n y) → (i ≡ n) ⊎ (i ≢ n) → P i (get_or (slice_set xs n y) i d)
  set_by xs n y all p i d l (inl e) =
      let m : i < length xs = omega (arith, l, length-set xs n y) in
      let at : get_or (slice_set xs n y) n d ≡ y = get_or-set_same xs n y d (omega (arith, m, e)) in
      subst (λ (k : ℕ). P k (get_or (slice_set xs n y) k d)) (sym e) (subst (P n) (sym at) p)
  set_by xs n y all p i d l (inr e) =
      let m : i < length xs = omega (arith, l, length-set xs n y) in
      subst (P i) (sym (get_or-set_other xs n i y d e)) (all i d m)

  -- one that is another
  pub each_set : (xs : List X) (n : ℕ) (y : X) → EachAt P xs → P n y → EachAt P (slice_set xs n y)
  each_set xs n y all p = λ i d l. set_by xs n y all p i d l (cases_eq i n)

-- so many of the first are so
abbrev pub FirstAre : {X : Type 0} → (X → Type 0) → ℕ → List X → Type 0
FirstAre {X} P n xs = (i : ℕ) (d : X) → i < n → P (get_or xs i d)

module _ {X : Type 0} (P : X → Type 0) where
  first_by : (xs : List X) (n : ℕ) (y : X) → n < length xs → FirstAre P n xs → P y → (i : ℕ) (d : X) → i < n + 1 → (i < n) ⊎ (n ≤ i) → P (get_or (slice_set xs n y) i d)
  first_by xs n y le first p i d l (inl m) = subst P (sym (get_or-set_other xs n i y d (λ e. omega (arith, m, e)))) (first i d m)
  first_by xs n y le first p i d l (inr m) =
      let e : n ≡ i = omega (arith, l, m) in
      let at : get_or (slice_set xs n y) n d ≡ y = get_or-set_same xs n y d le in
      subst (λ (k : ℕ). P (get_or (slice_set xs n y) k d)) e (subst P (sym at) p)

  -- one more
  pub first_set : (xs : List X) (n : ℕ) (y : X) → n < length xs → FirstAre P n xs → P y → FirstAre P (n + 1) (slice_set xs n y)
  first_set xs n y le first p = λ i d l. first_by xs n y le first p i d l (cases_lt i n)
