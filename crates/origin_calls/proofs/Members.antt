-- What stands somewhere in a list
use Rattle.std.proofs.Common.{◌≡◌, ◌<◌, ◌⊎◌, inl, inr, ℕ, zero, suc, List, [], ◌∷◌, ◌++◌, length, Some, sym, ap, ◌∙◌}
use Rattle.std.specs.List.{slice_get}
use Rattle.stream_model.proofs.Places.{slice_get-append}
use Rattle.std.proofs.lemmas.Option.{slice_get_within}

abbrev pub In : {X : Type 0} → X → List X → Type 0
In {X} x [] = ⊥
In {X} x (y ∷ ys) = (y ≡ x) ⊎ In x ys

module _ {X : Type 0} where
  pub in_left : (x : X) (a b : List X) → In x a → In x (a ++ b)
  in_left x [] b h = absurd h
  in_left x (y ∷ a) b (inl e) = inl e
  in_left x (y ∷ a) b (inr h) = inr (in_left x a b h)

  pub in_right : (x : X) (a b : List X) → In x b → In x (a ++ b)
  in_right x [] b h = h
  in_right x (y ∷ a) b h = inr (in_right x a b h)

  pub in_either : (x : X) (a b : List X) → In x (a ++ b) → In x a ⊎ In x b
  in_either x [] b h = inr h
  in_either x (y ∷ a) b (inl e) = inl (inl e)
  in_either x (y ∷ a) b (inr h) = elim (in_either x a b h) [
    | inl f ↦ inl (inr f)
    | inr f ↦ inr f
  ]

  pub in_last : (x y : X) (a : List X) → In x (a ++ y ∷ []) → In x a ⊎ (y ≡ x)
  in_last x y a h = elim (in_either x a (y ∷ []) h) [
    | inl f ↦ inl f
    | inr f ↦ elim f [ inl e ↦ inr e | inr g ↦ absurd g ]
  ]

  -- at some place
  pub place_of : (x : X) (xs : List X) → In x xs → (i : ℕ) × (slice_get xs i ≡ Some x)
  place_of x [] h = absurd h
  place_of x (y ∷ ys) (inl e) = (zero, ap Some e)
  place_of x (y ∷ ys) (inr h) = let p = place_of x ys h in (suc p.0, p.1)

  some_is : (x y : X) → Some x ≡ Some y → x ≡ y
  some_is x y e = cc

  pub in_at : (x : X) (xs : List X) (i : ℕ) → slice_get xs i ≡ Some x → In x xs
  in_at x [] i e = absurd (cc)
  in_at x (y ∷ ys) zero e = inl (some_is y x e)
  in_at x (y ∷ ys) (suc i) e = inr (in_at x ys i e)

  pub same_at : (xs : List X) (i : ℕ) (x y : X) → slice_get xs i ≡ Some x → slice_get xs i ≡ Some y → x ≡ y
  same_at xs i x y e f = some_is x y (sym e ∙ f)

  -- a list that begins another
  pub first_at : (xs more : List X) (i : ℕ) (x : X) → slice_get xs i ≡ Some x → slice_get (xs ++ more) i ≡ Some x
  first_at xs more i x e = slice_get-append xs more i (slice_get_within xs i x e) ∙ e

  pub first_from : (xs more : List X) (i : ℕ) (x : X) → i < length xs → slice_get (xs ++ more) i ≡ Some x → slice_get xs i ≡ Some x
  first_from xs more i x l e = sym (slice_get-append xs more i l) ∙ e
