-- Whose calls those of a place are, where its root owns all of them
use Rattle.std.proofs.Common.{◌≡◌, ◌≢◌, ℕ, zero, suc, ◌+◌, ◌<◌, ◌≤◌, List, [], ◌∷◌, ◌++◌, length, take, slice_get, Option, Some, None, refl, sym, ap, ◌∙◌, subst, arith, length-append, inl, inr}
use Rattle.std.specs.Prelude.{reverse}
use Rattle.std.proofs.lemmas.Bool.{cases_eq, cases_lt}
use Rattle.std.proofs.lemmas.Option.{slice_get_within}
use Rattle.std.proofs.lemmas.List.{take_all}
use Rattle.std.specs.declared.result.Result.{Result}
use Rattle.std.specs.declared.result.Result.TheVariants.{Ok, Err}
use Rattle.av_unit.specs.declared.bytes.OutOfMemory.{OutOfMemory}
use Rattle.stream_model.specs.declared.calls.Entry.{Entry}
use Rattle.stream_model.specs.declared.replies.Reply.{Reply}
use Rattle.stream_model.specs.History.{History}
use Rattle.turn_gate.specs.Branches.{IsWhole}
use Rattle.turn_gate.specs.Histories.{Begins, times, AreOwn, AreAll}
use Rattle.turn_gate.proofs.Places.{times-append, times_other, times_self}
use Rattle.stream_registry.specs.Pasts.{Attempt}
use Rattle.stream_registry.specs.Gates.{told, told_at, number_if, number, numbers, made_at}
use Rattle.stream_registry.specs.Roots.{Root, Later, Unlearned, kin_at, mine_at, seen_at, OwnsAllAt, AreOwnAll}
use Rattle.stream_registry.specs.Splits.{OwnsMore, OwnsBoth}
use Rattle.stream_registry.specs.Callers.{Caller, all_made, EachBears, AreTheirs, AreNamedApart, AllBornAreIts}
use Rattle.stream_registry.specs.Told.{Step}
use Rattle.stream_registry.specs.declared.place_table.Site.{Site}
use Rattle.stream_registry.proofs.Tells.{past_more, told_more, begins_told, numbers_begin, numbers_more}

take_more : (h : List Attempt) (k : ℕ) (x : Attempt) → slice_get h k ≡ Some x → take (suc k) h ≡ take k h ++ x ∷ []
take_more [] k x at = absurd (cc)
take_more (y ∷ h) zero x at = let e : y ≡ x = cc in ap (λ (z : Attempt). z ∷ []) e
take_more (y ∷ h) (suc k) x at = ap (λ (l : List Attempt). y ∷ l) (take_more h k x at)

there : (h : List Attempt) (k : ℕ) → k < length h → (x : Attempt) × (slice_get h k ≡ Some x)
there [] k l = absurd (omega (arith, l))
there (y ∷ h) zero l = (y, refl)
there (y ∷ h) (suc k) l = there h k (omega (arith, l))

told_same : (h : List Attempt) (e : Entry) (x : OutOfMemory) → told (h ++ (e, Err x) ∷ []) ≡ told h
told_same h e x = ap (λ (l : History). reverse l) (past_more h e (Err x))

-- the call with this number has a place
abbrev HasPlace : List Attempt → ℕ → Type 0
HasPlace h n = (p : ℕ) × (p < length h) × (number h p ≡ n ∷ [])

found_by : (h : List Attempt) (k n : ℕ) (x : Attempt) → slice_get h k ≡ Some x → k < length h → n < length (told (take (suc k) h)) → (n < length (told (take k h)) → HasPlace h n) → HasPlace h n
found_by h k n (e, Ok r) at l within before =
    let long : length (told (take (suc k) h)) ≡ length (told (take k h)) + 1 =
    ap (λ (t : List Attempt). length (told t)) (take_more h k (e, Ok r) at) ∙ (ap length (told_more (take k h) e r) ∙ length-append (told (take k h)) ((e, r) ∷ [])) in
    elim (cases_lt n (length (told (take k h)))) [
      | inl m ↦ before m
      | inr m ↦ let is : length (told (take k h)) ≡ n = omega (arith, m, within, long) in (k, l, ap (λ o. number_if o (length (told (take k h)))) at ∙ ap (λ (j : ℕ). j ∷ []) is)
    ]
found_by h k n (e, Err x) at l within before =
    let same : length (told (take (suc k) h)) ≡ length (told (take k h)) = ap (λ (t : List Attempt). length (told t)) (take_more h k (e, Err x) at) ∙ ap length (told_same (take k h) e x) in
    before (omega (arith, within, same))

found : (h : List Attempt) (k n : ℕ) → k ≤ length h → n < length (told (take k h)) → HasPlace h n
found h zero n l within = absurd (omega (arith, within))
found h (suc k) n l within = let t = there h k (omega (arith, l)) in found_by h k n t.0 t.1 (omega (arith, l)) within (found h k n (omega (arith, l)))

times_numbers : (h : List Attempt) (mine : List ℕ) (p n : ℕ) → number h p ≡ n ∷ [] → 0 < times p mine → 0 < times n (numbers h mine)
times_numbers h [] p n is l = absurd (omega (arith, l))
times_numbers h (m ∷ ms) p n is l = elim (cases_eq m p) [
  | inl e ↦
      let u : times n (number h m) ≡ times n (n ∷ []) = ap (times n) (ap (number h) e ∙ is) in
      omega (arith, times-append n (number h m) (numbers h ms), u, times_self n n refl)
  | inr d ↦
      let some_more : 0 < times p ms = omega (arith, l, times_other p m (λ e. d (sym e))) in
      omega (arith, times-append n (number h m) (numbers h ms), times_numbers h ms p n is some_more)
]

-- where places are all, so are the numbers of the answered calls among them
pub told_all : (h : List Attempt) (mine : List ℕ) → AreAll mine (length h) → (n : ℕ) → n < length (told h) → 0 < times n (numbers h mine)
told_all h mine all n l =
    let f = found h (length h) n (omega arith) (subst (λ (t : List Attempt). n < length (told t)) (sym (take_all (length h) h (omega arith))) l) in
    times_numbers h mine f.0 n f.2 (omega (arith, all f.0 f.1))

one_made : (callers : List Caller) (n : ℕ) → 0 < times n (all_made callers) → (i : ℕ) × (c : Caller) × (slice_get callers i ≡ Some c) × (0 < times n c.made)
one_made [] n l = absurd (omega (arith, l))
one_made (c ∷ cs) n l = elim (cases_lt 0 (times n c.made)) [
  | inl m ↦ (0, c, refl, m)
  | inr z ↦ let r = one_made cs n (omega (arith, l, z, times-append n c.made (all_made cs))) in (suc r.0, r.1, r.2, r.3)
]

-- NOBODY ELSE CALLED
pub all_theirs : (roots : List (Root Site Attempt)) (q : ℕ) (callers : List Caller) → IsWhole (kin_at roots q) → OwnsAllAt roots q → numbers (seen_at roots q) (mine_at roots q) ≡ all_made callers → EachBears (told_at roots q) callers → AreTheirs (told_at roots q) callers
all_theirs roots q callers whole owns same named n s at =
    let m = told_all (seen_at roots q) (mine_at roots q) (owns whole) n (slice_get_within (told_at roots q) n s at) in
    let o = one_made callers n (subst (λ (l : List ℕ). 0 < times n l) same m) in
    (o.0, o.1, o.2, o.3, named o.0 o.1 o.2 n s o.3 at)

-- and so all calls that bear a name are its bearer's
pub born_are_its : (h : List Step) (callers : List Caller) → AreNamedApart callers → AreTheirs h callers → AllBornAreIts h callers
born_are_its h callers apart theirs i c here n s at bears =
    let t = theirs n s at in
    subst (λ (x : Caller). 0 < times n x.made) (apart t.0 i t.1 c t.2 here (sym t.4 ∙ bears)) t.3

below_own : (places : List ℕ) (n : ℕ) → AreOwn places n → (p : ℕ) → 0 < times p places → p < n
below_own places n own p = (own p).1

-- the numbers of a root that took in those of another, or of a pass
pub made_both : (seen : List Attempt) (mine : List ℕ) (other : List Attempt) (theirs : List ℕ) (later : List Attempt) → AreOwn mine (length seen) → AreOwn theirs (length other) → Begins seen later → Begins other later → numbers later (mine ++ theirs) ≡ numbers seen mine ++ numbers other theirs
made_both seen mine other theirs later own own' b c =
    numbers_more later mine theirs
    ∙ (λ i. numbers_begin seen later mine b (below_own mine (length seen) own) i ++ numbers_begin other later theirs c (below_own theirs (length other) own') i)

pub made_more : (roots roots' : List (Root Site Attempt)) (place : ℕ) (seen : List Attempt) (mine : List ℕ) → OwnsMore (mine_at roots) mine (mine_at roots') place → AreOwn (mine_at roots place) (length (seen_at roots place)) × AreOwn mine (length seen)
    → Begins (seen_at roots place) (seen_at roots' place) → Begins seen (seen_at roots' place) → ((q : ℕ) → q ≢ place → seen_at roots' q ≡ seen_at roots q) → OwnsMore (made_at roots) (numbers seen mine) (made_at roots') place
made_more roots roots' place seen mine o fit b c apart = record {
  here = ap (numbers (seen_at roots' place)) o.here ∙ made_both (seen_at roots place) (mine_at roots place) seen mine (seen_at roots' place) fit.0 fit.1 b c;
  others = λ q d. λ i. numbers (apart q d i) (o.others q d i);
}

pub made_all : (roots others roots' : List (Root Site Attempt)) → OwnsBoth (mine_at roots) (mine_at others) (mine_at roots') → AreOwnAll roots × AreOwnAll others → Later (seen_at roots) (seen_at roots') → Later (seen_at others) (seen_at roots')
    → OwnsBoth (made_at roots) (made_at others) (made_at roots')
made_all roots others roots' o fit b c = record {
  at_each = λ q. ap (numbers (seen_at roots' q)) (o.at_each q) ∙ made_both (seen_at roots q) (mine_at roots q) (seen_at others q) (mine_at others q) (seen_at roots' q) (fit.0 q) (fit.1 q) (b.at q) (c.at q);
}

-- a port that learned and took in nothing
pub made_kept : (roots roots' : List (Root Site Attempt)) → Unlearned roots roots' → ((q : ℕ) → mine_at roots' q ≡ mine_at roots q) → (q : ℕ) → made_at roots' q ≡ made_at roots q
made_kept roots roots' u m q = λ i. numbers (u.seen q i) (m q i)

begins_take : (n : ℕ) (h : List Attempt) → Begins (take n h) h
begins_take zero h = (h, refl)
begins_take (suc n) [] = ([], refl)
begins_take (suc n) (x ∷ h) = let b = begins_take n h in (b.0, ap (λ (l : List Attempt). x ∷ l) b.1)

told_some : (h : List Attempt) (p : ℕ) (e : Entry) (r : Reply) → slice_get h p ≡ Some (e, Ok r) → 0 < length (told h)
told_some h p e r at =
    let b = begins_told (take (suc p) h) h (begins_take (suc p) h) in
    let long : length (told (take (suc p) h)) ≡ length (told (take p h)) + 1 =
    ap (λ (t : List Attempt). length (told t)) (take_more h p (e, Ok r) at) ∙ (ap length (told_more (take p h) e r) ∙ length-append (told (take p h)) ((e, r) ∷ [])) in
    omega (arith, long, ap length b.1, length-append (told (take (suc p) h)) b.0)

number_none : (h : List Attempt) (p : ℕ) (o : Option Attempt) → slice_get h p ≡ o → told h ≡ [] → number_if o (length (told (take p h))) ≡ []
number_none h p None at none = refl
number_none h p (Some (e, Ok r)) at none = absurd (omega (arith, told_some h p e r at, ap length none))
number_none h p (Some (e, Err x)) at none = refl

numbers_none : (h : List Attempt) (mine : List ℕ) → told h ≡ [] → numbers h mine ≡ []
numbers_none h [] none = refl
numbers_none h (m ∷ ms) none = λ i. number_none h m (slice_get h m) refl none i ++ numbers_none h ms none i

-- a root that was told of no call owns none
pub made_none : (roots : List (Root Site Attempt)) (q : ℕ) → told_at roots q ≡ [] → made_at roots q ≡ []
made_none roots q none = numbers_none (seen_at roots q) (mine_at roots q) none
