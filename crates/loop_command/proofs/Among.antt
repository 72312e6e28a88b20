-- Lists whose elements are among those of another, in its order
use Rattle.std.proofs.Common.{◌≡◌, inl, inr, ℕ, zero, suc, ◌<◌, ◌≤◌, List, [], ◌∷◌, ◌++◌, take, Option, Some, None, refl, sym, ap, ◌∙◌, subst, arith, append_assoc}
use Rattle.std.specs.List.{slice_get}
use Rattle.av_unit.specs.Media.{Media}
use Rattle.av_unit.specs.declared.item.Item.{Item}
use Rattle.av_unit.specs.declared.item.Item.TheVariants as item
use Rattle.loop_command.specs.Looped.{AreAmong, unit_in, units_in}

pub among_skip : {X : Type 0} (xs ys : List X) (y : X) → AreAmong xs ys → AreAmong xs (y ∷ ys)
among_skip [] ys y a = tt
among_skip (x ∷ xs) ys y a = inr a

pub among_self : {X : Type 0} (xs : List X) → AreAmong xs xs
among_self [] = tt
among_self (x ∷ xs) = inl (refl, among_self xs)

pub among_join : {X : Type 0} (xs ys us vs : List X) → AreAmong xs ys → AreAmong us vs → AreAmong (xs ++ us) (ys ++ vs)
among_join [] [] us vs a b = b
among_join [] (y ∷ ys) us vs a b = among_skip us (ys ++ vs) y (among_join [] ys us vs tt b)
among_join (x ∷ xs) [] us vs a b = absurd a
among_join (x ∷ xs) (y ∷ ys) us vs (inl a) b = inl (a.0, among_join xs ys us vs a.1 b)
among_join (x ∷ xs) (y ∷ ys) us vs (inr a) b = inr (among_join (x ∷ xs) ys us vs a b)

pub among_after : {X : Type 0} (xs ys more : List X) → AreAmong xs ys → AreAmong xs (ys ++ more)
among_after [] ys more a = tt
among_after (x ∷ xs) [] more a = absurd a
among_after (x ∷ xs) (y ∷ ys) more (inl a) = inl (a.0, among_after xs ys more a.1)
among_after (x ∷ xs) (y ∷ ys) more (inr a) = inr (among_after (x ∷ xs) ys more a)

pub among_before : {X : Type 0} (xs front ys : List X) → AreAmong xs ys → AreAmong xs (front ++ ys)
among_before xs [] ys a = a
among_before xs (f ∷ front) ys a = among_skip xs (front ++ ys) f (among_before xs front ys a)

pub among_then : {X : Type 0} (xs ys zs : List X) → AreAmong xs ys → AreAmong ys zs → AreAmong xs zs
among_then [] ys zs a b = tt
among_then (x ∷ xs) [] zs a b = absurd a
among_then (x ∷ xs) (y ∷ ys) [] a b = absurd b
among_then (x ∷ xs) (y ∷ ys) (z ∷ zs) (inl a) (inl b) = inl (a.0 ∙ b.0, among_then xs ys zs a.1 b.1)
among_then (x ∷ xs) (y ∷ ys) (z ∷ zs) (inr a) (inl b) = inr (among_then (x ∷ xs) ys zs a b.1)
among_then (x ∷ xs) (y ∷ ys) (z ∷ zs) (inl a) (inr b) = inr (among_then (x ∷ xs) (y ∷ ys) zs (inl a) b)
among_then (x ∷ xs) (y ∷ ys) (z ∷ zs) (inr a) (inr b) = inr (among_then (x ∷ xs) (y ∷ ys) zs (inr a) b)

-- ---- units

pub units_join : (a b : List Item) → units_in (a ++ b) ≡ units_in a ++ units_in b
units_join [] b = refl
units_join (i ∷ a) b = ap (λ (l : List Media). unit_in i ++ l) (units_join a b) ∙ sym (append_assoc (unit_in i) (units_in a) (units_in b))

pub units_among : (xs ys : List Item) → AreAmong xs ys → AreAmong (units_in xs) (units_in ys)
units_among [] ys a = tt
units_among (x ∷ xs) [] a = absurd a
units_among (x ∷ xs) (y ∷ ys) (inl a) =
    among_join (unit_in x) (unit_in y) (units_in xs) (units_in ys)
    (subst (λ (i : Item). AreAmong (unit_in x) (unit_in i)) a.0 (among_self (unit_in x))) (units_among xs ys a.1)
units_among (x ∷ xs) (y ∷ ys) (inr a) = among_before (units_in (x ∷ xs)) (unit_in y) (units_in ys) (units_among (x ∷ xs) ys a)

-- ---- the elements up to one

pub take_one : {X : Type 0} (n : ℕ) (xs : List X) (x : X) → slice_get xs n ≡ Some x → take (suc n) xs ≡ take n xs ++ x ∷ []
take_one n [] x e = absurd (let f : None ≡ Some x = e in cc)
take_one zero (y ∷ xs) x e = let f : y ≡ x = cc in ap (λ z. z ∷ []) f
take_one (suc n) (y ∷ xs) x e = ap (λ l. y ∷ l) (take_one n xs x e)

-- those up to a number are the first of those up to a higher one, and of all
pub take_among : {X : Type 0} (n m : ℕ) (us xs : List X) → n ≤ m → AreAmong us (take n xs) → AreAmong us (take m xs)
take_among zero m [] xs l a = tt
take_among zero m (x ∷ us) xs l a = absurd a
take_among (suc n) zero us xs l a = absurd (omega (arith, l))
take_among (suc n) (suc m) us [] l a = a
take_among (suc n) (suc m) [] (y ∷ xs) l a = tt
take_among (suc n) (suc m) (x ∷ us) (y ∷ xs) l (inl a) = inl (a.0, take_among n m us xs (omega (arith, l)) a.1)
take_among (suc n) (suc m) (x ∷ us) (y ∷ xs) l (inr a) = inr (take_among n m (x ∷ us) xs (omega (arith, l)) a)

pub among_whole : {X : Type 0} (n : ℕ) (us xs : List X) → AreAmong us (take n xs) → AreAmong us xs
among_whole n [] xs a = tt
among_whole zero (x ∷ us) xs a = absurd a
among_whole (suc n) (x ∷ us) [] a = absurd a
among_whole (suc n) (x ∷ us) (y ∷ xs) (inl a) = inl (a.0, among_whole n us xs a.1)
among_whole (suc n) (x ∷ us) (y ∷ xs) (inr a) = inr (among_whole n (x ∷ us) xs a)
