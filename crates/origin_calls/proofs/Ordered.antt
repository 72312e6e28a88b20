-- The calls of an edge stand in the order of the items of its origin, and for one item it makes one Push at most
use Rattle.std.proofs.Common.{◌≡◌, ◌<◌, ◌≤◌, inl, inr, ℕ, zero, suc, ◌+◌, Bool, true, false, List, [], ◌∷◌, ◌++◌, Option, Some, None, refl, sym, ap, ◌∙◌, subst}
use Rattle.std.proofs.Common.{arith}
use Rattle.std.proofs.lemmas.Bool.{false≢true, cases_lt}
use Rattle.std.specs.List.{slice_get}
use Rattle.av_unit.specs.Media.{Media}
use Rattle.av_unit.specs.declared.item.Item.{Item}
use Rattle.av_unit.specs.declared.item.Item.TheVariants as item
use Rattle.stream_model.specs.declared.calls.Call.{Call}
use Rattle.stream_model.specs.declared.calls.Call.TheVariants as call
use Rattle.client_owed.specs.declared.types.Gift.{Gift}
use Rattle.client_owed.specs.declared.types.Gift.TheVariants as gift
use Rattle.origin_calls.specs.Calls.{calls_for, edge_calls, live_by, pushes, unit_in}
use Rattle.origin_calls.specs.Origin.{all_told, numbered, numbered_calls, plain, tag_of, told_by}
use Rattle.origin_calls.proofs.Members.{In, in_either, in_left, in_right}

abbrev pub is_push : Call → Bool
is_push (call.Push u) = true
is_push _ = false

-- ---- the numbers rise

-- the second stands after the first, of two Pushes at a higher number
abbrev pub After : ℕ × Call → ℕ × Call → Type 0
After p q = (p.0 ≤ q.0) × (is_push p.1 ≡ true → is_push q.1 ≡ true → p.0 < q.0)

abbrev AllAfter : ℕ × Call → List (ℕ × Call) → Type 0
AllAfter p [] = Unit {0}
AllAfter p (q ∷ M) = After p q × AllAfter p M

abbrev pub AreOrdered : List (ℕ × Call) → Type 0
AreOrdered [] = Unit {0}
AreOrdered (p ∷ M) = AllAfter p M × AreOrdered M

-- no number is lower
abbrev AreFrom : ℕ → List (ℕ × Call) → Type 0
AreFrom b [] = Unit {0}
AreFrom b (p ∷ M) = (b ≤ p.0) × AreFrom b M

from_both : (b : ℕ) (A B : List (ℕ × Call)) → AreFrom b A → AreFrom b B → AreFrom b (A ++ B)
from_both b [] B h k = k
from_both b (p ∷ A) B h k = (h.0, from_both b A B h.1 k)

from_less : (b c : ℕ) (M : List (ℕ × Call)) → b ≤ c → AreFrom c M → AreFrom b M
from_less b c [] l h = tt
from_less b c (p ∷ M) l h = (omega (arith, l, h.0), from_less b c M l h.1)

from_one : (b n : ℕ) (cs : List Call) → b ≤ n → AreFrom b (numbered n cs)
from_one b n [] l = tt
from_one b n (c ∷ cs) l = (l, from_one b n cs l)

after_all : (n : ℕ) (c : Call) (M : List (ℕ × Call)) → AreFrom (n + 1) M → AllAfter (n, c) M
after_all n c [] h = tt
after_all n c (q ∷ M) h = ((omega (arith, h.0), λ e f. omega (arith, h.0)), after_all n c M h.1)

-- the same number again, after a call that is no Push
again_after : (n : ℕ) (c d : Call) → is_push c ≡ false → After (n, c) (n, d)
again_after n c d e = (omega arith, λ f g. absurd (false≢true (sym e ∙ f)))

ordered_push : (live : Bool) (o : Option Media) (n : ℕ) (M : List (ℕ × Call)) → AreFrom (n + 1) M → AreOrdered M → AreOrdered (numbered n (pushes live o) ++ M)
ordered_push live None n M h k = k
ordered_push true (Some u) n M h k = (after_all n (call.Push u) M h, k)
ordered_push false (Some u) n M h k = ((again_after n call.Begin (call.Push u) refl, after_all n call.Begin M h), (after_all n (call.Push u) M h, k))

ordered_for : (live : Bool) (g : Gift) (n : ℕ) (M : List (ℕ × Call)) → AreFrom (n + 1) M → AreOrdered M → AreOrdered (numbered n (calls_for live g) ++ M)
ordered_for true gift.Published n M h k = ((again_after n call.End call.Begin refl, after_all n call.End M h), (after_all n call.Begin M h, k))
ordered_for false gift.Published n M h k = (after_all n call.Begin M h, k)
ordered_for true gift.Unpublished n M h k = (after_all n call.End M h, k)
ordered_for false gift.Unpublished n M h k = k
ordered_for live (gift.Tag t) n M h k = ordered_push live (unit_in t) n M h k

-- the items have rising numbers
abbrev pub Rises : ℕ → List (ℕ × Item) → Type 0
Rises b [] = Unit {0}
Rises b (p ∷ ps) = (b ≤ p.0) × Rises (p.0 + 1) ps

calls_from : (b : ℕ) (live : Bool) (ps : List (ℕ × Item)) → Rises b ps → AreFrom b (numbered_calls live ps)
unfolding numbered_calls
calls_from b live [] r = tt
calls_from b live (p ∷ ps) r =
    let later = numbered_calls (live_by live (told_by p.1)) ps in
    from_both b (numbered p.0 (calls_for live (told_by p.1))) later (from_one b p.0 (calls_for live (told_by p.1)) r.0)
    (from_less b (p.0 + 1) later (omega (arith, r.0)) (calls_from (p.0 + 1) (live_by live (told_by p.1)) ps r.1))

pub calls_ordered : (b : ℕ) (live : Bool) (ps : List (ℕ × Item)) → Rises b ps → AreOrdered (numbered_calls live ps)
unfolding numbered_calls
calls_ordered b live [] r = tt
calls_ordered b live (p ∷ ps) r =
    ordered_for live (told_by p.1) p.0 (numbered_calls (live_by live (told_by p.1)) ps) (calls_from (p.0 + 1) (live_by live (told_by p.1)) ps r.1)
    (calls_ordered (p.0 + 1) (live_by live (told_by p.1)) ps r.1)

-- ---- at places

some_pair : (x y : ℕ × Call) → Some x ≡ Some y → x ≡ y
some_pair x y e = cc

after_at : (p : ℕ × Call) (M : List (ℕ × Call)) (j : ℕ) (q : ℕ × Call) → AllAfter p M → slice_get M j ≡ Some q → After p q
after_at p [] j q a e = absurd (cc)
after_at p (x ∷ M) zero q a e = subst (λ (y : ℕ × Call). After p y) (some_pair x q e) a.0
after_at p (x ∷ M) (suc j) q a e = after_at p M j q a.1 e

pub ordered_at : (M : List (ℕ × Call)) (i j : ℕ) (p q : ℕ × Call) → AreOrdered M → i < j → slice_get M i ≡ Some p → slice_get M j ≡ Some q → After p q
ordered_at [] i j p q o l e f = absurd (cc)
ordered_at (x ∷ M) zero zero p q o l e f = absurd (omega (arith, l))
ordered_at (x ∷ M) zero (suc j) p q o l e f = subst (λ (y : ℕ × Call). After y q) (some_pair x p e) (after_at x M j q o.0 f)
ordered_at (x ∷ M) (suc i) zero p q o l e f = absurd (omega (arith, l))
ordered_at (x ∷ M) (suc i) (suc j) p q o l e f = ordered_at M i j p q o.1 (omega (arith, l)) e f

-- what has a lower number stands before
pub before_at : (M : List (ℕ × Call)) (m n j o : ℕ) (c d : Call) → AreOrdered M → slice_get M m ≡ Some (j, c) → slice_get M n ≡ Some (o, d) → j < o → m < n
before_at M m n j o c d k e f l = elim (cases_lt m n) [
  | inl lt ↦ lt
  | inr over ↦ elim (cases_lt n m) [
    | inl lt ↦ let le : o ≤ j = (ordered_at M n m (o, d) (j, c) k lt f e).0 in absurd (omega (arith, le, l))
    | inr ge ↦
        let same : n ≡ m = omega (arith, over, ge) in
        let one : o ≡ j = ap (λ (y : ℕ × Call). y.0) (some_pair (o, d) (j, c) (sym f ∙ ap (slice_get M) same ∙ e)) in
        absurd (omega (arith, one, l))
  ]
]

-- a Push of no lower number doesn't stand before one
pub not_before : (M : List (ℕ × Call)) (m n j o : ℕ) (u v : Media) → AreOrdered M → slice_get M m ≡ Some (j, call.Push u)
    → slice_get M n ≡ Some (o, call.Push v) → o ≤ j → n ≤ m
not_before M m n j o u v k e f l = elim (cases_lt m n) [
  | inl lt ↦ let less : j < o = (ordered_at M m n (j, call.Push u) (o, call.Push v) k lt e f).1 refl refl in absurd (omega (arith, less, l))
  | inr le ↦ le
]

-- ---- each Push is for a unit, and each unit is pushed

unit_is : (u v : Media) → call.Push u ≡ call.Push v → u ≡ v
unit_is u v e = cc

-- a call, and an item, with its number
abbrev call_at : ℕ → Call → ℕ × Call
call_at n c = (n, c)

abbrev item_at : ℕ → Item → ℕ × Item
item_at n x = (n, x)

number_is : (n o : ℕ) (c d : Call) → call_at n c ≡ call_at o d → n ≡ o
number_is n o c d e = ap (λ (y : ℕ × Call). y.0) e

call_is : (n o : ℕ) (c d : Call) → call_at n c ≡ call_at o d → c ≡ d
call_is n o c d e = ap (λ (y : ℕ × Call). y.1) e

no_push : (n o : ℕ) (c : Call) (v : Media) → is_push c ≡ false → call_at n c ≡ call_at o (call.Push v) → ⊥
no_push n o c v e f = false≢true (sym e ∙ ap is_push (call_is n o c (call.Push v) f))

-- the unit of a Push among these calls
pushed_by : (live : Bool) (w : Option Media) (n o : ℕ) (v : Media) → In (o, call.Push v) (numbered n (pushes live w)) → (n ≡ o) × (w ≡ Some v)
pushed_by live None n o v h = absurd h
pushed_by true (Some u) n o v (inl e) = (number_is n o (call.Push u) (call.Push v) e, ap Some (unit_is u v (call_is n o (call.Push u) (call.Push v) e)))
pushed_by true (Some u) n o v (inr h) = absurd h
pushed_by false (Some u) n o v (inl e) = absurd (no_push n o call.Begin v refl e)
pushed_by false (Some u) n o v (inr (inl e)) = (number_is n o (call.Push u) (call.Push v) e, ap Some (unit_is u v (call_is n o (call.Push u) (call.Push v) e)))
pushed_by false (Some u) n o v (inr (inr h)) = absurd h

-- the unit of the origin from which it comes
record MadeOf (x : Item) (n o : ℕ) (v : Media) : Type 0 where
  unit : Media
  is : x ≡ item.Unit unit
  number : n ≡ o
  same : unit_in (tag_of unit) ≡ Some v

push_for : (live : Bool) (x : Item) (n o : ℕ) (v : Media) → In (o, call.Push v) (numbered n (calls_for live (told_by x))) → MadeOf x n o v
push_for true item.Begin n o v (inl e) = absurd (no_push n o call.End v refl e)
push_for true item.Begin n o v (inr (inl e)) = absurd (no_push n o call.Begin v refl e)
push_for true item.Begin n o v (inr (inr h)) = absurd h
push_for false item.Begin n o v (inl e) = absurd (no_push n o call.Begin v refl e)
push_for false item.Begin n o v (inr h) = absurd h
push_for true item.End n o v (inl e) = absurd (no_push n o call.End v refl e)
push_for true item.End n o v (inr h) = absurd h
push_for false item.End n o v h = absurd h
push_for live (item.Unit u) n o v h = let p = pushed_by live (unit_in (tag_of u)) n o v h in record { unit = u; is = refl; number = p.0; same = p.1 }

pub record PushedFor (ps : List (ℕ × Item)) (o : ℕ) (v : Media) : Type 0 where
  pub unit : Media
  pub among : In (o, item.Unit unit) ps
  pub same : unit_in (tag_of unit) ≡ Some v

pub pushed_for : (live : Bool) (ps : List (ℕ × Item)) (o : ℕ) (v : Media) → In (o, call.Push v) (numbered_calls live ps) → PushedFor ps o v
unfolding numbered_calls
pushed_for live [] o v h = absurd h
pushed_for live (p ∷ ps) o v h = elim (in_either (o, call.Push v) (numbered p.0 (calls_for live (told_by p.1)))
    (numbered_calls (live_by live (told_by p.1)) ps) h) [
      | inl f ↦
          let u = push_for live p.1 p.0 o v f in
          record { unit = u.unit; among = inl (ap (item_at p.0) u.is ∙ ap (λ (n : ℕ). item_at n (item.Unit u.unit)) u.number); same = u.same }
      | inr f ↦ let r = pushed_for (live_by live (told_by p.1)) ps o v f in record { unit = r.unit; among = inr r.among; same = r.same }
    ]

pushed_here : (live : Bool) (w : Option Media) (n : ℕ) (v : Media) → w ≡ Some v → In (n, call.Push v) (numbered n (pushes live w))
pushed_here live None n v e = absurd (cc)
pushed_here true (Some u) n v e = let same : u ≡ v = cc in inl (ap (λ (x : Media). (n, call.Push x)) same)
pushed_here false (Some u) n v e = let same : u ≡ v = cc in inr (inl (ap (λ (x : Media). (n, call.Push x)) same))

pub unit_pushed : (live : Bool) (ps : List (ℕ × Item)) (j : ℕ) (u v : Media) → In (j, item.Unit u) ps → unit_in (tag_of u) ≡ Some v
    → In (j, call.Push v) (numbered_calls live ps)
unfolding numbered_calls
unit_pushed live [] j u v h e = absurd h
unit_pushed live (p ∷ ps) j u v (inl f) e =
    subst (λ (q : ℕ × Item). In (j, call.Push v) (numbered q.0 (calls_for live (told_by q.1)) ++ numbered_calls (live_by live (told_by q.1)) ps)) (sym f)
    (in_left (j, call.Push v) (numbered j (calls_for live (told_by (item.Unit u)))) (numbered_calls (live_by live (told_by (item.Unit u))) ps)
    (pushed_here live (unit_in (tag_of u)) j v e))
unit_pushed live (p ∷ ps) j u v (inr h) e =
    in_right (j, call.Push v) (numbered p.0 (calls_for live (told_by p.1))) (numbered_calls (live_by live (told_by p.1)) ps)
    (unit_pushed (live_by live (told_by p.1)) ps j u v h e)

-- ---- without their numbers they are the calls of an edge that was told this

plain_joined : (n : ℕ) (cs : List Call) (M : List (ℕ × Call)) → plain (numbered n cs ++ M) ≡ cs ++ plain M
unfolding plain
plain_joined n [] M = refl
plain_joined n (c ∷ cs) M = ap (λ (l : List Call). c ∷ l) (plain_joined n cs M)

pub plain_calls : (live : Bool) (ps : List (ℕ × Item)) → plain (numbered_calls live ps) ≡ edge_calls live (all_told ps)
unfolding plain numbered_calls edge_calls all_told
plain_calls live [] = refl
plain_calls live (p ∷ ps) =
    plain_joined p.0 (calls_for live (told_by p.1)) (numbered_calls (live_by live (told_by p.1)) ps)
    ∙ ap (λ (l : List Call). calls_for live (told_by p.1) ++ l) (plain_calls (live_by live (told_by p.1)) ps)

some_call : (x y : Call) → Some x ≡ Some y → x ≡ y
some_call x y e = cc

-- a call has a number
pub plain_at : (M : List (ℕ × Call)) (n : ℕ) (c : Call) → slice_get (plain M) n ≡ Some c → (o : ℕ) × (slice_get M n ≡ Some (o, c))
unfolding plain
plain_at [] n c e = absurd (cc)
plain_at (p ∷ M) zero c e = (p.0, ap (λ (x : Call). Some (p.0, x)) (some_call p.1 c e))
plain_at (p ∷ M) (suc n) c e = plain_at M n c e

pub at_plain : (M : List (ℕ × Call)) (n o : ℕ) (c : Call) → slice_get M n ≡ Some (o, c) → slice_get (plain M) n ≡ Some c
unfolding plain
at_plain [] n o c e = absurd (cc)
at_plain (p ∷ M) zero o c e = ap (λ (x : ℕ × Call). Some x.1) (some_pair p (o, c) e)
at_plain (p ∷ M) (suc n) o c e = at_plain M n o c e
