-- Where the first three bytes stand that no unit has
use Rattle.std.proofs.Common.{◌≡◌, ℕ, ◌+◌, ◌-◌, ◌<◌, ◌≤◌, true, false, List, [], ◌∷◌, zero, suc, length, drop, slice_index, Option, Some, None, refl, sym, ap, ◌∙◌, subst, arith, length-drop}
use Rattle.std.proofs.lemmas.Bool.{eq-eqb}
use Rattle.std.proofs.lemmas.Bool.Decides.{nat_tests}
use Rattle.memchr.specs.Find.{NoneBefore, Nowhere, Passes, is_byte}
use Rattle.avc_annexb.specs.Nal.{is_triple, triple_in, further}

further_more : (j k n : ℕ) (o : Option ℕ) → n ≡ j + k → further j (further k o) ≡ further n o
further_more j k n None e = refl
further_more j k n (Some i) e = ap Some (omega arith)

further_none : (o : Option ℕ) → further 0 o ≡ o
further_none None = refl
further_none (Some i) = ap Some (omega arith)

first_zero : (x : ℕ) (xs : List ℕ) → (x ≡ 0 → ⊥) → is_triple (x ∷ xs) ≡ false
first_zero x [] h = refl
first_zero x (y ∷ []) h = refl
first_zero x (y ∷ z ∷ rest) h = grind (arith, nat_tests, h)

not_here : (x : ℕ) (xs : List ℕ) → is_triple (x ∷ xs) ≡ false → triple_in (x ∷ xs) ≡ further 1 (triple_in xs)
unfolding triple_in
not_here x xs e = rw e refl

-- bytes without a zero among the first ones
no_zero : (n : ℕ) (s : List ℕ) → n ≤ length s → ((k : ℕ) → k < n → slice_index s k ≡ 0 → ⊥) → further n (triple_in (drop n s)) ≡ triple_in s
no_zero zero s h none = further_none (triple_in s)
no_zero (suc n) [] h none = absurd (omega arith)
no_zero (suc n) (x ∷ xs) h none =
    sym
    (not_here x xs (first_zero x xs (none 0 (omega arith)))
    ∙ (ap (further 1) (sym (no_zero n xs (omega arith) (λ k l. none (suc k) (omega arith)))) ∙ further_more 1 n (suc n) (triple_in (drop n xs)) (omega arith)))

pub from_first : (b r : List ℕ) (at : ℕ) → NoneBefore (Passes (is_byte 0) b) 0 (length b) at → r ≡ drop at b
    → further (length b - length r) (triple_in r) ≡ triple_in b
from_first b r at first e =
    let n : length b - length r ≡ at = omega (arith, ap length e, length-drop at b, first.high) in
    let place = no_zero at b (omega (arith, first.high)) (λ k l z. first.before k (omega arith) l (eq-eqb (slice_index b k) 0 z)) in
    rw (n, e) place

nowhere : (b : List ℕ) → ((k : ℕ) → k < length b → slice_index b k ≡ 0 → ⊥) → triple_in b ≡ None
unfolding triple_in
nowhere [] none = refl
nowhere (x ∷ xs) none = not_here x xs (first_zero x xs (none 0 (omega arith))) ∙ ap (further 1) (nowhere xs (λ k l. none (suc k) (omega arith)))

pub none_first : (b : List ℕ) → Nowhere (Passes (is_byte 0) b) 0 (length b) → None ≡ triple_in b
none_first b never = sym (nowhere b (λ k l z. never k (omega arith) l (eq-eqb (slice_index b k) 0 z)))

pub here : (s : List ℕ) → is_triple s ≡ true → triple_in s ≡ Some 0
unfolding triple_in
here [] e = absurd (cc)
here (x ∷ xs) e = rw e refl

-- a search goes on behind so many bytes
pub goes_on : (bytes left rest : List ℕ) (k : ℕ) → length left ≤ length bytes → length rest + k ≡ length left
    → further (length bytes - length left) (triple_in left) ≡ triple_in bytes → triple_in left ≡ further k (triple_in rest)
    → further (length bytes - length rest) (triple_in rest) ≡ triple_in bytes
goes_on bytes left rest k n r before step =
    sym (further_more (length bytes - length left) k (length bytes - length rest) (triple_in rest) (omega arith)) ∙ (ap (further (length bytes - length left)) (sym step) ∙ before)

pub steps : (bytes left mid next : List ℕ) → length left ≤ length bytes → further (length bytes - length left) (triple_in left) ≡ triple_in bytes
    → is_triple left ≡ false → mid ≡ drop 1 left → length next ≤ length mid → further (length mid - length next) (triple_in next) ≡ triple_in mid
    → further (length bytes - length next) (triple_in next) ≡ triple_in bytes
steps bytes [] mid [] short before none e within place = before
steps bytes [] mid (y ∷ next) short before none e within place = absurd (omega (arith, within, ap length e))
steps bytes (x ∷ xs) mid next short before none e within place =
    let n : length mid ≡ length xs = ap length e in
    let found : further (length xs - length next) (triple_in next) ≡ triple_in xs = subst (λ m. further (length m - length next) (triple_in next) ≡ triple_in m) e place in
    goes_on bytes (x ∷ xs) next (suc (length xs - length next)) short (omega (arith, within, n)) before
    (not_here x xs none ∙ (ap (further 1) (sym found) ∙ further_more 1 (length xs - length next) (suc (length xs - length next)) (triple_in next) (omega arith)))

pub ends : (bytes left : List ℕ) → length left ≡ 0 → further (length bytes - length left) (triple_in left) ≡ triple_in bytes → None ≡ triple_in bytes
unfolding triple_in
ends bytes [] n place = place
ends bytes (x ∷ xs) n place = absurd (omega arith)
