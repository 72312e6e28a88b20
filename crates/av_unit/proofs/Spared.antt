-- Walking over the units of a body.
use Rattle.std.proofs.Common.{◌≡◌, ℕ, zero, suc, ◌+◌, ◌-◌, ◌<◌, ◌≤◌, Bool, true, false, List, [], ◌∷◌, length, Option, Some, None, refl, sym, ap, ◌∙◌, arith, drop, length-drop}
use Rattle.std.specs.Prelude.{if◌then◌else◌, ◌==◌, nat_le, not, ◌&&◌, ◌||◌, option_map}
use Rattle.std.specs.List.{list_any}
use Rattle.std.proofs.lemmas.Bool.Decides.{nat_tests}
use Rattle.av_unit.specs.Disposable.{one_byte, two_bytes, four_bytes, length_at, unit_front, unit_behind, unit_of_length, before_firsts, firsts_in, firsts_of, is_slice, is_needed, is_end, spares, is_disposable}

-- what the units say, where a slice stands before them or none does
abbrev pub spares_after : Bool → Option (List ℕ) → Bool
spares_after slices None = false
spares_after slices (Some firsts) = (slices || list_any is_slice firsts) && not (list_any is_needed firsts)

abbrev pub before : ℕ → Option (List ℕ) → Option (List ℕ)
before first o = option_map (λ more. first ∷ more) o

pub starts : (o : Option (List ℕ)) → spares o ≡ spares_after false o
starts None = refl
starts (Some firsts) = refl

and_false : (a : Bool) → (a && false) ≡ false
and_false true = refl
and_false false = refl

or_or : (a b c : Bool) → (a || (b || c)) ≡ ((a || b) || c)
or_or true b c = refl
or_or false b c = refl

lost : (a n b : Bool) → n ≡ true → (a && not (n || b)) ≡ false
lost a n b e = rw e (and_false a)

kept : (slices s n any needs : Bool) → n ≡ false → ((slices || (s || any)) && not (n || needs)) ≡ (((slices || s) || any) && not needs)
kept slices s n any needs e = rw (e, or_or slices s any) refl

needed : (slices : Bool) (first : ℕ) (o : Option (List ℕ)) → is_needed first ≡ true → spares_after slices (before first o) ≡ false
needed slices first None e = refl
needed slices first (Some more) e = lost (slices || (is_slice first || list_any is_slice more)) (is_needed first) (list_any is_needed more) e

spared : (slices : Bool) (first : ℕ) (o : Option (List ℕ)) → is_needed first ≡ false → spares_after slices (before first o) ≡ spares_after (slices || is_slice first) o
spared slices first None e = refl
spared slices first (Some more) e = kept slices (is_slice first) (is_needed first) (list_any is_slice more) (list_any is_needed more) e

-- what is behind a length is shorter
one_shorter : (b : List ℕ) (p : ℕ × List ℕ) → one_byte b ≡ Some p → length p.1 < length b
one_shorter [] p e = absurd (cc)
one_shorter (a ∷ rest) p e = let q : rest ≡ p.1 = cc in rw (← q) (omega arith)

two_shorter : (b : List ℕ) (p : ℕ × List ℕ) → two_bytes b ≡ Some p → length p.1 < length b
two_shorter [] p e = absurd (cc)
two_shorter (a ∷ []) p e = absurd (cc)
two_shorter (a ∷ b ∷ rest) p e = let q : rest ≡ p.1 = cc in rw (← q) (omega arith)

four_shorter : (b : List ℕ) (p : ℕ × List ℕ) → four_bytes b ≡ Some p → length p.1 < length b
four_shorter [] p e = absurd (cc)
four_shorter (a ∷ []) p e = absurd (cc)
four_shorter (a ∷ b ∷ []) p e = absurd (cc)
four_shorter (a ∷ b ∷ c ∷ []) p e = absurd (cc)
four_shorter (a ∷ b ∷ c ∷ d ∷ rest) p e = let q : rest ≡ p.1 = cc in rw (← q) (omega arith)

by_test : (t : Bool) (o q : Option (ℕ × List ℕ)) (b : List ℕ) (p : ℕ × List ℕ) → (o ≡ Some p → length p.1 < length b) → (q ≡ Some p → length p.1 < length b)
    → (if t then o else q) ≡ Some p → length p.1 < length b
by_test true o q b p f g e = f e
by_test false o q b p f g e = g e

length_shorter : (size : ℕ) (b : List ℕ) (p : ℕ × List ℕ) → length_at size b ≡ Some p → length p.1 < length b
length_shorter size b p e =
    by_test (size == 1) (one_byte b) (if size == 2 then two_bytes b else (if size == 4 then four_bytes b else None)) b p (one_shorter b p)
    (by_test (size == 2) (two_bytes b) (if size == 4 then four_bytes b else None) b p (two_shorter b p)
    (by_test (size == 4) (four_bytes b) None b p (four_shorter b p) (λ f. absurd (cc)))) e

some_if : (t : Bool) (x p : ℕ × List ℕ) → (if t then Some x else None) ≡ Some p → x ≡ p
some_if true x p e = cc
some_if false x p e = absurd (cc)

unit_shorter : (n : ℕ) (b : List ℕ) (p : ℕ × List ℕ) → unit_of_length n b ≡ Some p → length p.1 ≤ length b
unit_shorter n [] p e = absurd (cc)
unit_shorter n (x ∷ xs) p e =
    let q = some_if (nat_le 1 n && nat_le n (length (x ∷ xs))) (x, drop n (x ∷ xs)) p e in
    let l : length p.1 ≡ length (x ∷ xs) - n = sym (ap (λ (y : ℕ × List ℕ). length y.1) q) ∙ length-drop n (x ∷ xs) in
    omega arith

behind_shorter : (o : Option (ℕ × List ℕ)) (b : List ℕ) (p : ℕ × List ℕ) → ((q : ℕ × List ℕ) → o ≡ Some q → length q.1 < length b) → unit_behind o ≡ Some p → length p.1 < length b
behind_shorter None b p less e = absurd (cc)
behind_shorter (Some q) b p less e = let l = less q refl in let u = unit_shorter q.0 q.1 p e in omega arith

shorter : (size : ℕ) (b : List ℕ) (p : ℕ × List ℕ) → unit_front size b ≡ Some p → length p.1 < length b
unfolding unit_front
shorter size b p e = behind_shorter (length_at size b) b p (length_shorter size b) e

before_same : (o : Option (ℕ × List ℕ)) (m n : List ℕ → Option (List ℕ)) → ((p : ℕ × List ℕ) → o ≡ Some p → m p.1 ≡ n p.1) → before_firsts o m ≡ before_firsts o n
before_same None m n same = refl
before_same (Some p) m n same = ap (before p.0) (same p refl)

-- it doesn't matter how many units at most are said to be there, if there are no fewer than bytes
same_most : (f g size : ℕ) (b : List ℕ) → length b ≤ f → length b ≤ g → firsts_in f size b ≡ firsts_in g size b
unfolding firsts_in
same_most zero zero size [] h k = refl
same_most zero zero size (x ∷ xs) h k = refl
same_most zero (suc g) size [] h k = refl
same_most zero (suc g) size (x ∷ xs) h k = absurd (omega arith)
same_most (suc f) zero size [] h k = refl
same_most (suc f) zero size (x ∷ xs) h k = absurd (omega arith)
same_most (suc f) (suc g) size [] h k = refl
same_most (suc f) (suc g) size (x ∷ xs) h k =
    before_same (unit_front size (x ∷ xs)) (λ rest. firsts_in f size rest) (λ rest. firsts_in g size rest)
    (λ p e. let less = shorter size (x ∷ xs) p e in same_most f g size p.1 (omega arith) (omega arith))

before_is : (o : Option (ℕ × List ℕ)) (next : List ℕ → Option (List ℕ)) (p : ℕ × List ℕ) → o ≡ Some p → before_firsts o next ≡ before p.0 (next p.1)
before_is o next p e = rw e refl

-- one unit more
step : (size : ℕ) (b : List ℕ) (p : ℕ × List ℕ) → unit_front size b ≡ Some p → firsts_of size b ≡ before p.0 (firsts_of size p.1)
unfolding firsts_of firsts_in
step size [] p e = let less = shorter size [] p e in absurd (omega arith)
step size (x ∷ xs) p e =
    let less = shorter size (x ∷ xs) p e in
    before_is (unit_front size (x ∷ xs)) (λ rest. firsts_in (length xs) size rest) p e
    ∙ ap (before p.0) (same_most (length xs) (length p.1) size p.1 (omega arith) (omega arith))

pub stops : (size : ℕ) (b rest : List ℕ) (first : ℕ) (slices : Bool) → unit_front size b ≡ Some (first, rest) → is_needed first ≡ true → spares_after slices (firsts_of size b) ≡ false
stops size b rest first slices e n = ap (spares_after slices) (step size b (first, rest) e) ∙ needed slices first (firsts_of size rest) n

pub moves : (size : ℕ) (b rest : List ℕ) (first : ℕ) (slices : Bool) → unit_front size b ≡ Some (first, rest) → is_needed first ≡ false
    → spares_after slices (firsts_of size b) ≡ spares_after (slices || is_slice first) (firsts_of size rest)
moves size b rest first slices e n = ap (spares_after slices) (step size b (first, rest) e) ∙ spared slices first (firsts_of size rest) n

before_none : (o : Option (ℕ × List ℕ)) (next : List ℕ → Option (List ℕ)) → o ≡ None → before_firsts o next ≡ None
before_none o next e = rw e refl

nothing_more : (slices : Bool) → ((slices || false) && true) ≡ (slices && true)
nothing_more true = refl
nothing_more false = refl

-- no unit stands at the front: all were read where nothing is left
pub ended : (size : ℕ) (b : List ℕ) (slices : Bool) → unit_front size b ≡ None → spares_after slices (firsts_of size b) ≡ (slices && is_end b)
unfolding firsts_of firsts_in
ended size [] slices e = nothing_more slices
ended size (x ∷ xs) slices e = ap (spares_after slices) (before_none (unit_front size (x ∷ xs)) (λ rest. firsts_in (length xs) size rest) e) ∙ sym (and_false slices)

-- nothing is told of units whose lengths have no size
pub no_size : (size : ℕ) (b : List ℕ) → size ≡ 0 → spares (firsts_of size b) ≡ false
unfolding firsts_of firsts_in unit_front
no_size size [] e = refl
no_size size (x ∷ xs) e = rw e refl

pub short : (size : ℕ) (b : List ℕ) → length b < 5 → is_disposable size b ≡ false
unfolding is_disposable firsts_of firsts_in
short size [] h = refl
short size (a ∷ []) h = refl
short size (a ∷ b ∷ []) h = refl
short size (a ∷ b ∷ c ∷ []) h = refl
short size (a ∷ b ∷ c ∷ d ∷ []) h = refl
short size (a ∷ b ∷ c ∷ d ∷ e ∷ more) h = absurd (omega arith)
