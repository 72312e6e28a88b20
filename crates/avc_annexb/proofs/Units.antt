-- Units read one after another
use Rattle.std.proofs.Common.{◌≡◌, ℕ, zero, suc, ◌+◌, ◌-◌, ◌<◌, ◌≤◌, Bool, true, false, List, [], ◌∷◌, ◌++◌, length, take, drop, Option, Some, None, Ok, Err, refl, sym, ap, ◌∙◌, subst, inl, inr, arith, append_assoc, length-drop, length-append}
use Rattle.std.specs.Prelude.{if◌then◌else◌, nat_le}
use Rattle.std.proofs.lemmas.List.{append-nil}
use Rattle.std.proofs.lemmas.Bool.Decides.{nat_tests}
use Rattle.avc_annexb.specs.declared.fail.AvcFail.{AvcFail}
use Rattle.avc_annexb.specs.declared.fail.AvcFail.TheVariants.{PastEnd}
use Rattle.avc_annexb.specs.Nal.{IsNal, AreNals, verdict, dirty_at, dirty_in}
use Rattle.avc_annexb.specs.Prefixed.{IsSize, Front, Units, length_at, unit_at, front_of, judged, or_missing, unless, before, then_units, units_in, nals_of}

unless_ok : (v : Option AvcFail) (q p : List ℕ × List ℕ) → unless v q ≡ Ok p → (v ≡ None) × (q ≡ p)
unless_ok None q p e = (refl, cc)
unless_ok (Some f) q p e = absurd (cc)

pub judged_ok : (missing : AvcFail) (nal : ℕ) (o : Option (List ℕ × List ℕ)) (p : List ℕ × List ℕ) → judged nal (or_missing missing o) ≡ Ok p → (o ≡ Some p) × (verdict nal p.0 ≡ None)
judged_ok missing nal None p e = absurd (cc)
judged_ok missing nal (Some q) p e =
    let h = unless_ok (verdict nal q.0) q p e in
    (ap Some h.1, ap (λ (x : List ℕ × List ℕ). verdict nal x.0) (sym h.1) ∙ h.0)

dirty_none : (nal : ℕ) (o : Option ℕ) → dirty_at nal o ≡ None → o ≡ None
dirty_none nal None e = refl
dirty_none nal (Some at) e = absurd (cc)

pub verdict_none : (nal : ℕ) (u : List ℕ) → verdict nal u ≡ None → IsNal u
unfolding verdict
verdict_none nal [] e = absurd (cc)
verdict_none nal (x ∷ xs) e = record { some = omega arith; clean = dirty_none nal (dirty_in (x ∷ xs)) e }

pub none_verdict : (nal : ℕ) (u : List ℕ) → IsNal u → verdict nal u ≡ None
unfolding verdict
none_verdict nal [] fits = let h = fits.some in absurd (omega arith)
none_verdict nal (x ∷ xs) fits = rw fits.clean refl

-- a unit that is read at the front
pub record IsFirst (size : ℕ) (b u rest : List ℕ) : Type 0 where
  pub found : unit_at size b ≡ Some (u, rest)
  pub nal : IsNal u

pub first : (missing : AvcFail) (nal size : ℕ) (b u rest : List ℕ) → front_of missing nal size b ≡ Ok (u, rest) → IsFirst size b u rest
unfolding front_of
first missing nal size b u rest e =
    let h = judged_ok missing nal (unit_at size b) (u, rest) e in
    record { found = h.0; nal = verdict_none nal u h.1 }

pub some_if : (t : Bool) (x p : List ℕ × List ℕ) → (if t then Some x else None) ≡ Some p → (t ≡ true) × (x ≡ p)
some_if true x p e = (refl, cc)
some_if false x p e = absurd (cc)

-- what stands at the front
pub record Stands (size : ℕ) (b u rest : List ℕ) : Type 0 where
  pub whole : size + length_at size b ≤ length b
  pub unit : u ≡ take (length_at size b) (drop size b)
  pub rest_is : rest ≡ drop (size + length_at size b) b

pub stands : (size : ℕ) (b u rest : List ℕ) → unit_at size b ≡ Some (u, rest) → Stands size b u rest
unfolding unit_at
stands size b u rest e =
    let h = some_if (nat_le (size + length_at size b) (length b)) (take (length_at size b) (drop size b), drop (size + length_at size b) b) (u, rest) e in
    let t = h.0 in
    let s = h.1 in
    record {
      whole = grind (arith, nat_tests, t);
      unit = sym (ap (λ (x : List ℕ × List ℕ). x.0) s);
      rest_is = sym (ap (λ (x : List ℕ × List ℕ). x.1) s);
    }

size_some : (size : ℕ) → IsSize size → 0 < size
size_some size fits = elim fits [ inl e ↦ omega arith | inr f ↦ elim f [ inl e ↦ omega arith | inr e ↦ omega arith ] ]

pub shorter : (size : ℕ) (b u rest : List ℕ) → IsSize size → unit_at size b ≡ Some (u, rest) → length rest < length b
shorter size b u rest fits e =
    let s = stands size b u rest e in
    let some = size_some size fits in
    let n : length rest ≡ length b - (size + length_at size b) = ap length s.rest_is ∙ length-drop (size + length_at size b) b in
    omega (arith, s.whole)

pub then_same : (f : Front) (m n : List ℕ → Units) → ((p : List ℕ × List ℕ) → f ≡ Ok p → m p.1 ≡ n p.1) → then_units f m ≡ then_units f n
then_same (Ok p) m n same = ap (before (p.0 ∷ [])) (same p refl)
then_same (Err e) m n same = refl

-- it doesn't matter how many units at most are said to be there, if there are no fewer than bytes
pub same_most : (f g size total nal : ℕ) (b : List ℕ) → IsSize size → length b ≤ f → length b ≤ g → units_in f size total nal b ≡ units_in g size total nal b
unfolding units_in
same_most zero zero size total nal b fits h k = refl
same_most zero (suc g) size total nal [] fits h k = refl
same_most zero (suc g) size total nal (x ∷ xs) fits h k = absurd (omega arith)
same_most (suc f) zero size total nal [] fits h k = refl
same_most (suc f) zero size total nal (x ∷ xs) fits h k = absurd (omega arith)
same_most (suc f) (suc g) size total nal [] fits h k = refl
same_most (suc f) (suc g) size total nal (x ∷ xs) fits h k =
    then_same (front_of (PastEnd (total - length (x ∷ xs))) nal size (x ∷ xs)) (λ rest. units_in f size total (nal + 1) rest) (λ rest. units_in g size total (nal + 1) rest)
    (λ p e.
    let one = first (PastEnd (total - length (x ∷ xs))) nal size (x ∷ xs) p.0 p.1 e in
    let less = shorter size (x ∷ xs) p.0 p.1 fits one.found in
    same_most f g size total (nal + 1) p.1 fits (omega arith) (omega arith))

pub then_ok : (f : Front) (next : List ℕ → Units) (p : List ℕ × List ℕ) → f ≡ Ok p → then_units f next ≡ before (p.0 ∷ []) (next p.1)
then_ok f next p e = rw e refl

pub then_err : (f : Front) (next : List ℕ → Units) (e : AvcFail) → f ≡ Err e → then_units f next ≡ Err e
then_err f next e is = rw is refl

-- one unit more
pub step : (size total nal : ℕ) (left u rest : List ℕ) → IsSize size → 0 < length left → front_of (PastEnd (total - length left)) nal size left ≡ Ok (u, rest)
    → units_in (length left) size total nal left ≡ before (u ∷ []) (units_in (length rest) size total (nal + 1) rest)
unfolding units_in
step size total nal [] u rest fits some e = absurd (omega arith)
step size total nal (x ∷ xs) u rest fits some e =
    let one = first (PastEnd (total - length (x ∷ xs))) nal size (x ∷ xs) u rest e in
    let less = shorter size (x ∷ xs) u rest fits one.found in
    then_ok (front_of (PastEnd (total - length (x ∷ xs))) nal size (x ∷ xs)) (λ r. units_in (length xs) size total (nal + 1) r) (u, rest) e
    ∙ ap (before (u ∷ [])) (same_most (length xs) (length rest) size total (nal + 1) rest fits (omega arith) (omega arith))

-- a unit that is refused
pub stop : (size total nal : ℕ) (left : List ℕ) (f : AvcFail) → 0 < length left → front_of (PastEnd (total - length left)) nal size left ≡ Err f → units_in (length left) size total nal left ≡ Err f
unfolding units_in
stop size total nal [] f some e = absurd (omega arith)
stop size total nal (x ∷ xs) f some e = then_err (front_of (PastEnd (total - length (x ∷ xs))) nal size (x ∷ xs)) (λ r. units_in (length xs) size total (nal + 1) r) f e

pub before_more : (units : List (List ℕ)) (u : List ℕ) (r : Units) → before units (before (u ∷ []) r) ≡ before (units ++ u ∷ []) r
before_more units u (Ok more) = ap Ok (sym (append_assoc units (u ∷ []) more))
before_more units u (Err e) = refl

pub nals_more : (units : List (List ℕ)) (u : List ℕ) → AreNals units → IsNal u → AreNals (units ++ u ∷ [])
nals_more [] u all one = (one, tt)
nals_more (n ∷ units) u all one = (all.0, nals_more units u all.1 one)

pub before_none : (r : Units) → before [] r ≡ r
before_none (Ok more) = refl
before_none (Err e) = refl

-- nothing is left
pub at_end : (size total nal : ℕ) (b : List ℕ) → b ≡ [] → units_in (length b) size total nal b ≡ Ok []
unfolding units_in
at_end size total nal b e = rw e refl

pub at_start : (size : ℕ) (b : List ℕ) → units_in (length b) size (length b) 0 b ≡ nals_of size b
unfolding nals_of
at_start size b = refl

-- where a walk over the units stands: the units so far, and those that are left, are all
pub record Walks (size : ℕ) (bytes left : List ℕ) (units : List (List ℕ)) : Type 0 where
  pub short : length left ≤ length bytes
  pub nals : AreNals units
  pub read : before units (units_in (length left) size (length bytes) (length units) left) ≡ nals_of size bytes

pub starts : (size : ℕ) (bytes : List ℕ) → Walks size bytes bytes []
starts size bytes = record { short = omega arith; nals = tt; read = before_none _ ∙ at_start size bytes }

pub moves : (size n : ℕ) (bytes left u rest : List ℕ) (units more : List (List ℕ)) → IsSize size → n ≡ length units → 0 < length left
    → front_of (PastEnd (length bytes - length left)) n size left ≡ Ok (u, rest) → more ≡ units ++ u ∷ [] → Walks size bytes left units → Walks size bytes rest more
moves size n bytes left u rest units more fits count some e is w =
    let one = first (PastEnd (length bytes - length left)) n size left u rest e in
    let less = shorter size left u rest fits one.found in
    let m : length more ≡ n + 1 = ap length is ∙ length-append units (u ∷ []) ∙ omega arith in
    let go = step size (length bytes) n left u rest fits some e in
    record {
      short = omega (arith, w.short);
      nals = rw is (nals_more units u w.nals one.nal);
      read = rw (m, is) (sym (before_more units u (units_in (length rest) size (length bytes) (n + 1) rest)) ∙ ap (before units) (sym go) ∙ (rw count w.read));
    }

pub refused : (size n : ℕ) (bytes left : List ℕ) (units : List (List ℕ)) (f : AvcFail) → n ≡ length units → 0 < length left
    → front_of (PastEnd (length bytes - length left)) n size left ≡ Err f → Walks size bytes left units → nals_of size bytes ≡ Err f
refused size n bytes left units f count some e w =
    sym w.read ∙ ap (before units) (subst (λ (k : ℕ). units_in (length left) size (length bytes) k left ≡ Err f) count (stop size (length bytes) n left f some e))

pub ended : (size : ℕ) (bytes left : List ℕ) (units : List (List ℕ)) → length left ≡ 0 → Walks size bytes left units → nals_of size bytes ≡ Ok units
ended size bytes [] units e w = sym w.read ∙ ap (before units) (at_end size (length bytes) (length units) [] refl) ∙ ap Ok (append-nil units)
ended size bytes (x ∷ xs) units e w = absurd (omega arith)

pub rest_shorter : (missing : AvcFail) (size n : ℕ) (left u rest : List ℕ) → IsSize size → front_of missing n size left ≡ Ok (u, rest) → length rest < length left
rest_shorter missing size n left u rest fits e = let one = first missing n size left u rest e in shorter size left u rest fits one.found
