-- Byte streams split into their units
use Rattle.std.proofs.Common.{◌≡◌, ℕ, zero, suc, ◌+◌, ◌*◌, ◌-◌, ◌<◌, ◌≤◌, Bool, true, false, List, [], ◌∷◌, ◌++◌, length, take, drop, slice_index, Option, Some, None, Ok, Err, refl, sym, ap, ◌∙◌, subst, arith, length-drop, length-append}
use Rattle.std.specs.Prelude.{◌==◌, ◌&&◌, nat_le, option_map, if◌then◌else◌}
use Rattle.std.proofs.lemmas.Bool.Decides.{nat_tests}
use Rattle.std.proofs.lemmas.List.{append-nil, take-append-drop, take_at, drop_at}
use Rattle.relay_base.specs.Numbers.{be32_of}
use Rattle.avc_annexb.specs.declared.fail.AvcFail.{AvcFail}
use Rattle.avc_annexb.specs.declared.fail.AvcFail.TheVariants.{NoStart}
use Rattle.avc_annexb.specs.Nal.{IsNal, AreNals, is_triple, triple_in, or_last, dirty_in}
use Rattle.avc_annexb.specs.Prefixed.{Units, before}
use Rattle.avc_annexb.specs.AnnexB.{started, annexb}
use Rattle.avc_annexb.specs.Split.{is_start, start_in, or_all, end_in, started_at, started_front, split_in, split_of}
use Rattle.avc_annexb.proofs.Units.{judged_ok, verdict_none, none_verdict, some_if, then_same, then_ok, then_err, before_more, before_none, nals_more}
use Rattle.avc_annexb.proofs.Prefixes.{then_found}
use Rattle.avc_annexb.specs.Nal.{further}

-- starts that are searched
start_long : (b : List ℕ) → is_start b ≡ true → 4 ≤ length b
start_long [] e = absurd (cc)
start_long (x ∷ []) e = absurd (cc)
start_long (x ∷ y ∷ []) e = absurd (cc)
start_long (x ∷ y ∷ z ∷ []) e = absurd (cc)
start_long (x ∷ y ∷ z ∷ w ∷ rest) e = omega arith

not_here : (x : ℕ) (xs : List ℕ) → is_start (x ∷ xs) ≡ false → start_in (x ∷ xs) ≡ further 1 (start_in xs)
unfolding start_in
not_here x xs e = rw e refl

further_more : (j k n : ℕ) (o : Option ℕ) → n ≡ j + k → further j (further k o) ≡ further n o
further_more j k n None e = refl
further_more j k n (Some i) e = ap Some (omega arith)

first_zero : (b : List ℕ) → 0 < slice_index b 0 → is_start b ≡ false
first_zero [] h = refl
first_zero (x ∷ []) h = refl
first_zero (x ∷ y ∷ []) h = refl
first_zero (x ∷ y ∷ z ∷ []) h = refl
first_zero (x ∷ y ∷ z ∷ w ∷ rest) h = grind (arith, nat_tests)

second_zero : (b : List ℕ) → 0 < slice_index b 1 → is_start b ≡ false
second_zero [] h = refl
second_zero (x ∷ []) h = refl
second_zero (x ∷ y ∷ []) h = refl
second_zero (x ∷ y ∷ z ∷ []) h = refl
second_zero (x ∷ y ∷ z ∷ w ∷ rest) h = grind (arith, nat_tests)

third_zero : (b : List ℕ) → 0 < slice_index b 2 → is_start b ≡ false
third_zero [] h = refl
third_zero (x ∷ []) h = refl
third_zero (x ∷ y ∷ []) h = refl
third_zero (x ∷ y ∷ z ∷ []) h = refl
third_zero (x ∷ y ∷ z ∷ w ∷ rest) h = grind (arith, nat_tests)

fourth_one : (x y z w : ℕ) (rest : List ℕ) → 1 < w → is_start (x ∷ y ∷ z ∷ w ∷ rest) ≡ false
fourth_one x y z w rest h = grind (arith, nat_tests)

pub skip4 : (s : List ℕ) → 4 ≤ length s → 1 < slice_index s 3 → start_in s ≡ further 4 (start_in (drop 4 s))
skip4 [] n h = absurd (omega arith)
skip4 (a ∷ []) n h = absurd (omega arith)
skip4 (a ∷ b ∷ []) n h = absurd (omega arith)
skip4 (a ∷ b ∷ c ∷ []) n h = absurd (omega arith)
skip4 (a ∷ b ∷ c ∷ d ∷ rest) n h =
    let some : 0 < d = omega arith in
    let e1 = not_here a (b ∷ c ∷ d ∷ rest) (fourth_one a b c d rest h) in
    let e2 = not_here b (c ∷ d ∷ rest) (third_zero (b ∷ c ∷ d ∷ rest) some) in
    let e3 = not_here c (d ∷ rest) (second_zero (c ∷ d ∷ rest) some) in
    let e4 = not_here d rest (first_zero (d ∷ rest) some) in
    e1 ∙ ap (further 1) (e2 ∙ ap (further 1) (e3 ∙ ap (further 1) e4 ∙ further_more 1 1 2 (start_in rest) refl) ∙ further_more 1 2 3 (start_in rest) refl)
    ∙ further_more 1 3 4 (start_in rest) refl

one_number : (a b c d : ℕ) → ((a * 16777216 + b * 65536 + c * 256 + d) == 1) ≡ ((a == 0) && ((b == 0) && ((c == 0) && (d == 1))))
one_number a b c d = grind (arith, nat_tests)

pub is_one : (s : List ℕ) → 4 ≤ length s → (be32_of s == 1) ≡ is_start s
unfolding be32_of
is_one [] n = absurd (omega arith)
is_one (a ∷ []) n = absurd (omega arith)
is_one (a ∷ b ∷ []) n = absurd (omega arith)
is_one (a ∷ b ∷ c ∷ []) n = absurd (omega arith)
is_one (a ∷ b ∷ c ∷ d ∷ rest) n = one_number a b c d

pub skip1 : (s : List ℕ) → 4 ≤ length s → is_start s ≡ false → start_in s ≡ further 1 (start_in (drop 1 s))
skip1 [] n h = absurd (omega arith)
skip1 (a ∷ s) n h = not_here a s h

pub here : (s : List ℕ) → 4 ≤ length s → is_start s ≡ true → start_in s ≡ Some 0
unfolding start_in
here [] n e = absurd (omega arith)
here (a ∷ s) n e = rw e refl

pub short : (s : List ℕ) → length s < 4 → start_in s ≡ None
unfolding start_in
short [] n = refl
short (a ∷ []) n = refl
short (a ∷ b ∷ []) n = refl
short (a ∷ b ∷ c ∷ []) n = refl
short (a ∷ b ∷ c ∷ d ∷ rest) n = absurd (omega arith)

pub goes_on : (bytes left rest : List ℕ) (k : ℕ) → length left ≤ length bytes → length rest + k ≡ length left
    → further (length bytes - length left) (start_in left) ≡ start_in bytes → start_in left ≡ further k (start_in rest)
    → further (length bytes - length rest) (start_in rest) ≡ start_in bytes
goes_on bytes left rest k n r before step =
    sym (further_more (length bytes - length left) k (length bytes - length rest) (start_in rest) (omega arith)) ∙ (ap (further (length bytes - length left)) (sym step) ∙ before)

some_bound : (b : List ℕ) (o : Option ℕ) → ((i : ℕ) → o ≡ Some i → i ≤ length b) → or_all (length b) o ≤ length b
some_bound b None h = omega arith
some_bound b (Some i) h = h i refl

within_by : (t : Bool) (xs : List ℕ) (o : Option ℕ) (i : ℕ) → (if t then Some 0 else option_map (λ k. 1 + k) o) ≡ Some i → ((j : ℕ) → o ≡ Some j → j ≤ length xs) → i ≤ suc (length xs)
within_by true xs o i e h = let z : 0 ≡ i = cc in omega arith
within_by false xs None i e h = absurd (cc)
within_by false xs (Some j) i e h =
    let z : 1 + j ≡ i = cc in
    let k = h j refl in
    omega (arith, k, z)

pub start_within : (b : List ℕ) (i : ℕ) → start_in b ≡ Some i → i ≤ length b
unfolding start_in
start_within [] i e = absurd (cc)
start_within (x ∷ xs) i e = within_by (is_start (x ∷ xs)) xs (start_in xs) i e (λ j h. start_within xs j h)

pub end_within : (b : List ℕ) → end_in b ≤ length b
unfolding end_in
end_within b = some_bound b (start_in b) (λ i e. start_within b i e)

-- a unit at the front
pub record IsStarted (b u rest : List ℕ) : Type 0 where
  pub starts : is_start b ≡ true
  pub unit : u ≡ take (end_in (drop 4 b)) (drop 4 b)
  pub rest_is : rest ≡ drop (end_in (drop 4 b)) (drop 4 b)

is_started : (b u rest : List ℕ) → started_at b ≡ Some (u, rest) → IsStarted b u rest
unfolding started_at
is_started b u rest e =
    let h = some_if (is_start b) (take (end_in (drop 4 b)) (drop 4 b), drop (end_in (drop 4 b)) (drop 4 b)) (u, rest) e in
    let s = h.1 in
    record { starts = h.0; unit = sym (ap (λ (x : List ℕ × List ℕ). x.0) s); rest_is = sym (ap (λ (x : List ℕ × List ℕ). x.1) s) }

pub record IsFirst (b u rest : List ℕ) : Type 0 where
  pub found : IsStarted b u rest
  pub nal : IsNal u

pub first : (at nal : ℕ) (b u rest : List ℕ) → started_front at nal b ≡ Ok (u, rest) → IsFirst b u rest
unfolding started_front
first at nal b u rest e =
    let h = judged_ok (NoStart at) nal (started_at b) (u, rest) e in
    record { found = is_started b u rest h.0; nal = verdict_none nal u h.1 }

shorter : (b u rest : List ℕ) → IsStarted b u rest → length rest < length b
shorter b u rest s =
    let long = start_long b s.starts in
    let n : length rest ≡ length (drop 4 b) - end_in (drop 4 b) = ap length s.rest_is ∙ length-drop (end_in (drop 4 b)) (drop 4 b) in
    omega (arith, length-drop 4 b)

pub rest_shorter : (at nal : ℕ) (b u rest : List ℕ) → started_front at nal b ≡ Ok (u, rest) → length rest < length b
rest_shorter at nal b u rest e = let one = first at nal b u rest e in shorter b u rest one.found

-- it doesn't matter how many units at most are said to be there, if there are no fewer than bytes
same_most : (f g total nal : ℕ) (b : List ℕ) → length b ≤ f → length b ≤ g → split_in f total nal b ≡ split_in g total nal b
unfolding split_in
same_most zero zero total nal b h k = refl
same_most zero (suc g) total nal [] h k = refl
same_most zero (suc g) total nal (x ∷ xs) h k = absurd (omega arith)
same_most (suc f) zero total nal [] h k = refl
same_most (suc f) zero total nal (x ∷ xs) h k = absurd (omega arith)
same_most (suc f) (suc g) total nal [] h k = refl
same_most (suc f) (suc g) total nal (x ∷ xs) h k =
    then_same (started_front (total - length (x ∷ xs)) nal (x ∷ xs)) (λ rest. split_in f total (nal + 1) rest) (λ rest. split_in g total (nal + 1) rest)
    (λ p e.
    let less = rest_shorter (total - length (x ∷ xs)) nal (x ∷ xs) p.0 p.1 e in
    same_most f g total (nal + 1) p.1 (omega arith) (omega arith))

step : (total nal : ℕ) (left u rest : List ℕ) → 0 < length left → started_front (total - length left) nal left ≡ Ok (u, rest)
    → split_in (length left) total nal left ≡ before (u ∷ []) (split_in (length rest) total (nal + 1) rest)
unfolding split_in
step total nal [] u rest some e = absurd (omega arith)
step total nal (x ∷ xs) u rest some e =
    let less = rest_shorter (total - length (x ∷ xs)) nal (x ∷ xs) u rest e in
    then_ok (started_front (total - length (x ∷ xs)) nal (x ∷ xs)) (λ r. split_in (length xs) total (nal + 1) r) (u, rest) e
    ∙ ap (before (u ∷ [])) (same_most (length xs) (length rest) total (nal + 1) rest (omega arith) (omega arith))

stop : (total nal : ℕ) (left : List ℕ) (f : AvcFail) → 0 < length left → started_front (total - length left) nal left ≡ Err f → split_in (length left) total nal left ≡ Err f
unfolding split_in
stop total nal [] f some e = absurd (omega arith)
stop total nal (x ∷ xs) f some e = then_err (started_front (total - length (x ∷ xs)) nal (x ∷ xs)) (λ r. split_in (length xs) total (nal + 1) r) f e

at_end : (total nal : ℕ) (b : List ℕ) → b ≡ [] → split_in (length b) total nal b ≡ Ok []
unfolding split_in
at_end total nal b e = rw e refl

at_start : (b : List ℕ) → split_in (length b) (length b) 0 b ≡ split_of b
unfolding split_of
at_start b = refl

-- where a walk over the units stands: the units so far, and those that are left, are all
pub record Walks (bytes left : List ℕ) (units : List (List ℕ)) : Type 0 where
  pub short : length left ≤ length bytes
  pub nals : AreNals units
  pub read : before units (split_in (length left) (length bytes) (length units) left) ≡ split_of bytes

pub starts : (bytes : List ℕ) → Walks bytes bytes []
starts bytes = record { short = omega arith; nals = tt; read = before_none _ ∙ at_start bytes }

pub moves : (n : ℕ) (bytes left u rest : List ℕ) (units more : List (List ℕ)) → n ≡ length units → 0 < length left
    → started_front (length bytes - length left) n left ≡ Ok (u, rest) → more ≡ units ++ u ∷ [] → Walks bytes left units → Walks bytes rest more
moves n bytes left u rest units more count some e is w =
    let one = first (length bytes - length left) n left u rest e in
    let less = shorter left u rest one.found in
    let m : length more ≡ n + 1 = ap length is ∙ length-append units (u ∷ []) ∙ omega arith in
    let go = step (length bytes) n left u rest some e in
    record {
      short = omega (arith, w.short);
      nals = rw is (nals_more units u w.nals one.nal);
      read = rw (m, is) (sym (before_more units u (split_in (length rest) (length bytes) (n + 1) rest)) ∙ ap (before units) (sym go) ∙ (rw count w.read));
    }

pub refused : (n : ℕ) (bytes left : List ℕ) (units : List (List ℕ)) (f : AvcFail) → n ≡ length units → 0 < length left
    → started_front (length bytes - length left) n left ≡ Err f → Walks bytes left units → split_of bytes ≡ Err f
refused n bytes left units f count some e w =
    sym w.read ∙ ap (before units) (subst (λ (k : ℕ). split_in (length left) (length bytes) k left ≡ Err f) count (stop (length bytes) n left f some e))

pub ended : (bytes left : List ℕ) (units : List (List ℕ)) → length left ≡ 0 → Walks bytes left units → split_of bytes ≡ Ok units
ended bytes [] units e w = sym w.read ∙ ap (before units) (at_end (length bytes) (length units) [] refl) ∙ ap Ok (append-nil units)
ended bytes (x ∷ xs) units e w = absurd (omega arith)

-- what is split is the text of its units
start_bytes : (b : List ℕ) → is_start b ≡ true → b ≡ 0 ∷ 0 ∷ 0 ∷ 1 ∷ drop 4 b
start_bytes [] e = absurd (cc)
start_bytes (x ∷ []) e = absurd (cc)
start_bytes (x ∷ y ∷ []) e = absurd (cc)
start_bytes (x ∷ y ∷ z ∷ []) e = absurd (cc)
start_bytes (x ∷ y ∷ z ∷ w ∷ rest) e =
    let a : x ≡ 0 = grind (arith, nat_tests) in
    let b : y ≡ 0 = grind (arith, nat_tests) in
    let c : z ≡ 0 = grind (arith, nat_tests) in
    let d : w ≡ 1 = grind (arith, nat_tests) in
    rw (a, b, c, d) refl

front_bytes : (b u rest : List ℕ) → IsStarted b u rest → b ≡ started u ++ rest
front_bytes b u rest s =
    let n : ℕ = end_in (drop 4 b) in
    let both : u ++ rest ≡ drop 4 b = rw (s.unit, s.rest_is) (take-append-drop n (drop 4 b)) in
    start_bytes b s.starts ∙ ap (λ (t : List ℕ). 0 ∷ 0 ∷ 0 ∷ 1 ∷ t) (sym both)

none_read : (units : List (List ℕ)) → [] ≡ units → [] ≡ annexb units
none_read [] e = refl
none_read (u ∷ units) e = absurd (cc)

found_in : (f total nal : ℕ) (b : List ℕ) (units : List (List ℕ)) → length b ≤ f → split_in f total nal b ≡ Ok units → b ≡ annexb units
unfolding split_in
found_in zero total nal [] units few e = none_read units (cc)
found_in zero total nal (x ∷ xs) units few e = absurd (omega arith)
found_in (suc f) total nal [] units few e = none_read units (cc)
found_in (suc f) total nal (x ∷ xs) units few e =
    let h = then_found 0 (started_front (total - length (x ∷ xs)) nal (x ∷ xs)) (λ rest. split_in f total (nal + 1) rest) units e in
    let one = first (total - length (x ∷ xs)) nal (x ∷ xs) h.0.0 h.0.1 h.2 in
    let less = shorter (x ∷ xs) h.0.0 h.0.1 one.found in
    let rest = found_in f total (nal + 1) h.0.1 h.1 (omega arith) h.3 in
    front_bytes (x ∷ xs) h.0.0 h.0.1 one.found ∙ ap (λ (t : List ℕ). started h.0.0 ++ t) rest ∙ ap annexb (sym h.4)

pub found : (b : List ℕ) (units : List (List ℕ)) → split_of b ≡ Ok units → b ≡ annexb units
unfolding split_of
found b units e = found_in (length b) (length b) 0 b units (omega arith) e

-- and the text of units is split into them
abbrev Ends : List ℕ → Type 0
Ends [] = Unit {0}
Ends (x ∷ []) = 0 < x
Ends (x ∷ y ∷ rest) = Ends (y ∷ rest)

ends_tail : (x : ℕ) (xs : List ℕ) → Ends (x ∷ xs) → Ends xs
ends_tail x [] e = tt
ends_tail x (y ∷ rest) e = e

ends_is : (u : List ℕ) → 0 < length u → 0 < slice_index u (length u - 1) → Ends u
ends_is [] some h = absurd (omega arith)
ends_is (x ∷ []) some h = h
ends_is (x ∷ y ∷ rest) some h =
    let e : length (x ∷ y ∷ rest) - 1 ≡ suc (length (y ∷ rest) - 1) = omega arith in
    ends_is (y ∷ rest) (omega arith) (subst (λ (k : ℕ). 0 < slice_index (x ∷ y ∷ rest) k) e h)

if_none : (t : Bool) (x : ℕ) → (if t then Some x else None) ≡ None → t ≡ false
if_none true x e = absurd (cc)
if_none false x e = refl

last_some : (s n : ℕ) → ((s == 0) && nat_le 1 n) ≡ false → 0 < n → 0 < s
last_some s n e h = grind (arith, nat_tests)

or_last_none : (b : List ℕ) (o : Option ℕ) → or_last b o ≡ None → (o ≡ None) × (0 < length b → 0 < slice_index b (length b - 1))
or_last_none b (Some at) e = absurd (cc)
or_last_none b None e = (refl, λ h. last_some (slice_index b (length b - 1)) (length b) (if_none ((slice_index b (length b - 1) == 0) && nat_le 1 (length b)) (length b - 1) e) h)

clean_parts : (u : List ℕ) → dirty_in u ≡ None → (triple_in u ≡ None) × (0 < length u → 0 < slice_index u (length u - 1))
unfolding dirty_in
clean_parts u e = or_last_none u (triple_in u) e

if_map : (t : Bool) (o : Option ℕ) → (if t then Some 0 else option_map (λ i. 1 + i) o) ≡ None → (t ≡ false) × (o ≡ None)
if_map true o e = absurd (cc)
if_map false None e = (refl, refl)
if_map false (Some i) e = absurd (cc)

triple_tail : (x : ℕ) (xs : List ℕ) → triple_in (x ∷ xs) ≡ None → (is_triple (x ∷ xs) ≡ false) × (triple_in xs ≡ None)
unfolding triple_in
triple_tail x xs e = if_map (is_triple (x ∷ xs)) (triple_in xs) e

no_triple : (x y z w : ℕ) (rest : List ℕ) → is_triple (x ∷ y ∷ z ∷ []) ≡ false → is_start (x ∷ y ∷ z ∷ w ∷ rest) ≡ false
no_triple x y z w rest t = grind (arith, nat_tests)

front_clean : (x : ℕ) (xs more : List ℕ) → is_triple (x ∷ xs) ≡ false → Ends (x ∷ xs) → is_start (x ∷ (xs ++ more)) ≡ false
front_clean x [] more t e = first_zero (x ∷ more) e
front_clean x (y ∷ []) more t e = second_zero (x ∷ y ∷ more) e
front_clean x (y ∷ z ∷ []) more t e = third_zero (x ∷ y ∷ z ∷ more) e
front_clean x (y ∷ z ∷ w ∷ rest) more t e = no_triple x y z w (rest ++ more) t

further_none : (o : Option ℕ) → further 0 o ≡ o
further_none None = refl
further_none (Some i) = ap Some (omega arith)

no_start : (u more : List ℕ) → triple_in u ≡ None → Ends u → start_in (u ++ more) ≡ further (length u) (start_in more)
no_start [] more t e = sym (further_none (start_in more))
no_start (x ∷ xs) more t e =
    let h = triple_tail x xs t in
    not_here x (xs ++ more) (front_clean x xs more h.0 e)
    ∙ ap (further 1) (no_start xs more h.1 (ends_tail x xs e)) ∙ further_more 1 (length xs) (length (x ∷ xs)) (start_in more) (omega arith)

start_of_text : (n : List ℕ) (ns : List (List ℕ)) → start_in (annexb (n ∷ ns)) ≡ Some 0
unfolding start_in
start_of_text n ns = refl

no_start_in_none : start_in [] ≡ None
unfolding start_in
no_start_in_none = refl

end_by : (u more : List ℕ) (o : Option ℕ) → start_in (u ++ more) ≡ further (length u) (start_in more) → start_in more ≡ o → or_all (length (u ++ more)) (further (length u) o) ≡ length u → end_in (u ++ more) ≡ length u
unfolding end_in
end_by u more o e s n = ap (or_all (length (u ++ more))) (e ∙ ap (further (length u)) s) ∙ n

end_is : (u : List ℕ) (ns : List (List ℕ)) → triple_in u ≡ None → Ends u → end_in (u ++ annexb ns) ≡ length u
end_is u [] t e = end_by u [] None (no_start u [] t e) no_start_in_none (ap length (append-nil u))
end_is u (n ∷ ns) t e = end_by u (annexb (n ∷ ns)) (Some 0) (no_start u (annexb (n ∷ ns)) t e) (start_of_text n ns) (omega arith)

unit_back : (u : List ℕ) (ns : List (List ℕ)) → IsNal u → started_at (started u ++ annexb ns) ≡ Some (u, annexb ns)
unfolding started_at
unit_back u ns one =
    let p = clean_parts u one.clean in
    let n = end_is u ns p.0 (ends_is u one.some (p.1 one.some)) in
    rw (n, take_at u (annexb ns) (length u) refl, drop_at u (annexb ns) (length u) refl) refl

front_back : (at nal : ℕ) (u : List ℕ) (ns : List (List ℕ)) → IsNal u → started_front at nal (started u ++ annexb ns) ≡ Ok (u, annexb ns)
unfolding started_front
front_back at nal u ns one = rw (unit_back u ns one, none_verdict nal u one) refl

some_bytes : (f total nal : ℕ) (b u rest : List ℕ) (r : Units) → length b ≤ f → 0 < length b → started_front (total - length b) nal b ≡ Ok (u, rest)
    → ((m : ℕ) → f ≡ suc m → split_in m total (nal + 1) rest ≡ r) → split_in f total nal b ≡ before (u ∷ []) r
unfolding split_in
some_bytes zero total nal b u rest r few some e next = absurd (omega arith)
some_bytes (suc f) total nal [] u rest r few some e next = absurd (omega arith)
some_bytes (suc f) total nal (x ∷ xs) u rest r few some e next = rw (e, next f refl) refl

again_in : (f total nal : ℕ) (units : List (List ℕ)) → AreNals units → length (annexb units) ≤ f → split_in f total nal (annexb units) ≡ Ok units
unfolding split_in
again_in zero total nal [] all few = refl
again_in (suc f) total nal [] all few = refl
again_in f total nal (u ∷ units) all few =
    let n : length (annexb (u ∷ units)) ≡ 4 + length u + length (annexb units) = length-append (started u) (annexb units) ∙ omega arith in
    some_bytes f total nal (annexb (u ∷ units)) u (annexb units) (Ok units) few (omega arith)
    (front_back (total - length (annexb (u ∷ units))) nal u units all.0)
    (λ m e. again_in m total (nal + 1) units all.1 (omega arith))

pub again : (units : List (List ℕ)) (b : List ℕ) → AreNals units → b ≡ annexb units → split_of b ≡ Ok units
unfolding split_of
again units b all e = rw e (again_in (length (annexb units)) (length (annexb units)) 0 units all (omega arith))
