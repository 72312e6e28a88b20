-- NAL units behind start codes
use Rattle.std.proofs.Common.{◌≡◌, ℕ, zero, suc, ◌<◌, ◌≤◌, Bool, true, false, List, [], ◌∷◌, length, take, drop, Option, Some, None, refl, sym, ap, ◌∙◌, arith, length-drop}
use Rattle.std.specs.Prelude.{not, if◌then◌else◌}
use Rattle.std.proofs.lemmas.List.{length-take}
use Rattle.std.proofs.lemmas.Slice.Eq.{bytes_eq-Decides}
use Rattle.avc_annexb.specs.Nal.{triple_in}
use Rattle.ts_reader.specs.Payloads.{behind_unit, if_there, is_started, unit_length, units_fill}

pub unit_found : (b : List ℕ) (n : ℕ) → triple_in b ≡ Some n → unit_length b ≡ n
unfolding unit_length
unit_found b n e = rw e refl

pub unit_all : (b : List ℕ) → triple_in b ≡ None → unit_length b ≡ length b
unfolding unit_length
unit_all b e = rw e refl

pub picks : (s t : Bool) (q r : List ℕ) → (if not s then None else (if t then None else Some q)) ≡ Some r → (s ≡ true) × (t ≡ false) × (q ≡ r)
picks true true q r e = absurd (cc)
picks true false q r e = (refl, refl, cc)
picks false t q r e = absurd (cc)

started_long : (b : List ℕ) → is_started b ≡ true → 4 ≤ length b
started_long b e =
    let same : 0 ∷ 0 ∷ 0 ∷ 1 ∷ [] ≡ take 4 b = (bytes_eq-Decides (0 ∷ 0 ∷ 0 ∷ 1 ∷ []) (take 4 b)).0 e in
    omega (arith, ap length same, length-take 4 b)

pub behind_shorter : (b r : List ℕ) → behind_unit b ≡ Some r → length r < length b
unfolding behind_unit
behind_shorter b r e =
    let p = picks _ _ _ r e in
    let long = started_long b p.0 in
    omega (arith, ap length (sym p.2), length-drop (unit_length (drop 4 b)) (drop 4 b), length-drop 4 b)

there : (o : Option (List ℕ)) (f g : List ℕ → Bool) → ((r : List ℕ) → o ≡ Some r → f r ≡ g r) → if_there o f ≡ if_there o g
there None f g h = refl
there (Some r) f g h = h r refl

enough : (most n : ℕ) (b : List ℕ) → length b ≤ most → length b ≤ n → units_fill most b ≡ units_fill n b
unfolding units_fill
enough most n [] p q = refl
enough zero n (x ∷ xs) p q = absurd (omega arith)
enough (suc most) zero (x ∷ xs) p q = absurd (omega arith)
enough (suc most) (suc n) (x ∷ xs) p q =
    there (behind_unit (x ∷ xs)) (units_fill most) (units_fill n)
    (λ r e. let s = behind_shorter (x ∷ xs) r e in enough most n r (omega arith) (omega arith))

goes_in : (n : ℕ) (b : List ℕ) → 0 < length b → units_fill (suc n) b ≡ if_there (behind_unit b) (units_fill n)
unfolding units_fill
goes_in n [] h = absurd (omega arith)
goes_in n (x ∷ xs) h = refl

-- the unit at the front is passed
pub fill_more : (b r : List ℕ) → 0 < length b → behind_unit b ≡ Some r → units_fill (length b) b ≡ units_fill (length r) r
fill_more b r some e =
    let s = behind_shorter b r e in
    enough (length b) (suc (length b)) b (omega arith) (omega arith)
    ∙ goes_in (length b) b some
    ∙ ap (λ (o : Option (List ℕ)). if_there o (units_fill (length b))) e
    ∙ enough (length b) (length r) r (omega arith) (omega arith)

-- none is there
pub fill_stops : (b : List ℕ) → 0 < length b → behind_unit b ≡ None → units_fill (length b) b ≡ false
fill_stops b some e =
    enough (length b) (suc (length b)) b (omega arith) (omega arith)
    ∙ goes_in (length b) b some
    ∙ ap (λ (o : Option (List ℕ)). if_there o (units_fill (length b))) e

pub fill_ends : (b : List ℕ) → length b ≡ 0 → units_fill (length b) b ≡ true
unfolding units_fill
fill_ends [] e = refl
fill_ends (x ∷ xs) e = absurd (omega arith)
