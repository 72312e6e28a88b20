-- Roots that grow
use Rattle.std.proofs.Common.{◌≡◌, ◌≢◌, ℕ, zero, suc, ◌+◌, ◌<◌, ◌≤◌, List, [], ◌∷◌, ◌++◌, length, slice_get, slice_set, Some, refl, sym, ap, ◌∙◌, subst, append_assoc, append-nil, arith, get_or, take, drop, map, length-append, inl, inr, nat_lt, false}
use Rattle.std.proofs.lemmas.Bool.{cases_eq, cases_lt}
use Rattle.std.proofs.lemmas.Bool.Decides.{nat_tests}
use Rattle.std.specs.Option.{option_map}
use Rattle.std.proofs.lemmas.Option.{slice_get_within, slice_get_read, slice_get_past, slice_get-map, slice_get-get_or}
use Rattle.std.proofs.lemmas.List.{length-map, take-append-le, take_all}
use Rattle.turn_gate.specs.Histories.{Begins, longer, AreOwn, AreAll}
use Rattle.turn_gate.specs.Known.{GateId, PassKnown, newcomer, SplitOnce}
use Rattle.turn_gate.specs.Branches.{trunk, cut_off, offshoot, at_depth, IsWhole}
use Rattle.turn_gate.specs.declared.gate.CallFail.{CallFail}
use Rattle.std.specs.declared.result.Result.{Result}
use Rattle.turn_gate.specs.declared.view.Branch.{Branch}
use Rattle.stream_registry.specs.Roots.{Root, Stays, Unlearned, AreTrunks, root_with, root_shoot, seen_of, seen_at, kin_of, kin_at, mine_of, mine_at, OwnsAll, OwnsAllAt, AreOwnAll, gates, Grown, Gathers, Later}
use Rattle.stream_registry.specs.Splits.{SplitsOff, TakesIn, TakesAll, Forks, OwnsMore, OwnsBoth}

pub begins_same : {E : Type 0} (xs : List E) → Begins xs xs
begins_same xs = ([], append-nil xs)

pub begins_trans : {E : Type 0} (xs ys zs : List E) → Begins xs ys → Begins ys zs → Begins xs zs
begins_trans {E} xs ys zs b c = (b.0 ++ c.0, sym (append_assoc xs b.0 c.0) ∙ (ap (λ (l : List E). l ++ c.0) b.1 ∙ c.1))

longer_nil : {E : Type 0} (xs : List E) → longer xs [] ≡ xs
longer_nil xs = let t : nat_lt (length xs) 0 ≡ false = grind (arith, nat_tests) in rw t refl

module _ {A E : Type 0} where
  pub grown_same : (roots : List (Root A E)) → Grown roots roots
  grown_same roots = record { gates = refl; seen = record { at = λ p. begins_same (seen_at roots p) } }

  pub grown_trans : (a b c : List (Root A E)) → Grown a b → Grown b c → Grown a c
  grown_trans a b c g h = record { gates = h.gates ∙ g.gates; seen = record { at = λ p. begins_trans (seen_at a p) (seen_at b p) (seen_at c p) (g.seen.at p) (h.seen.at p) } }

  pub gates_set : (roots : List (Root A E)) (place : ℕ) (v w : Root A E) → slice_get roots place ≡ Some v → w.gate ≡ v.gate → gates (slice_set roots place w) ≡ gates roots
  gates_set [] place v w at same = absurd (cc)
  gates_set (k ∷ ks) zero v w at same = let e : k ≡ v = cc in ap (λ (g : GateId A). g ∷ gates ks) (same ∙ ap (λ (r : Root A E). r.gate) (sym e))
  gates_set (k ∷ ks) (suc place) v w at same = ap (λ (l : List (GateId A)). k.gate ∷ l) (gates_set ks place v w at same)

  pub seen_set : (roots : List (Root A E)) (place : ℕ) (v w : Root A E) → slice_get roots place ≡ Some v → Begins v.seen w.seen → (p : ℕ) → Begins (seen_at roots p) (seen_at (slice_set roots place w) p)
  seen_set [] place v w at b p = absurd (cc)
  seen_set (k ∷ ks) zero v w at b zero = let e : k ≡ v = cc in subst (λ (r : Root A E). Begins r.seen w.seen) (sym e) b
  seen_set (k ∷ ks) zero v w at b (suc p) = begins_same (seen_at ks p)
  seen_set (k ∷ ks) (suc place) v w at b zero = begins_same k.seen
  seen_set (k ∷ ks) (suc place) v w at b (suc p) = seen_set ks place v w at b p

  pub seen_set_here : (roots : List (Root A E)) (place : ℕ) (v w : Root A E) → slice_get roots place ≡ Some v → seen_at (slice_set roots place w) place ≡ w.seen
  seen_set_here [] place v w at = absurd (cc)
  seen_set_here (k ∷ ks) zero v w at = refl
  seen_set_here (k ∷ ks) (suc place) v w at = seen_set_here ks place v w at

  pub grown_set : (roots : List (Root A E)) (place : ℕ) (v w : Root A E) → slice_get roots place ≡ Some v → Stays v w → Grown roots (slice_set roots place w)
  grown_set roots place v w at s = record { gates = gates_set roots place v w at s.0; seen = record { at = seen_set roots place v w at s.1 } }

  pub at_item : (roots items : List (Root A E)) (place : ℕ) (g : GateId A) (v : Root A E) → items ≡ roots → slice_get (gates roots) place ≡ Some g → v ≡ get_or items place v → slice_get items place ≡ Some v
  at_item roots items place g v is at read =
      let within : place < length (gates roots) = slice_get_within (gates roots) place g at in
      slice_get_read items (length items) place v refl (omega (arith, length-map roots (λ (k : Root A E). k.gate), ap length is)) read

  pub detaches : (roots items : List (Root A E)) (place : ℕ) (g : GateId A) (v w : Root A E) → items ≡ roots → slice_get (gates roots) place ≡ Some g → v ≡ get_or items place v → Stays v w → Grown roots (slice_set items place w) × (seen_at (slice_set items place w) place ≡ w.seen)
  detaches roots items place g v w is at read s =
      let here = at_item roots items place g v is at read in
      (subst (λ (l : List (Root A E)). Grown l (slice_set items place w)) is (grown_set items place v w here s), seen_set_here items place v w here)

  pub seen_past : (roots : List (Root A E)) (p : ℕ) → length roots ≤ p → seen_at roots p ≡ []
  seen_past roots p far = ap seen_of (slice_get_past roots p far)

  pub get_middle : (ys : List (Root A E)) (x : Root A E) (zs : List (Root A E)) → slice_get (ys ++ x ∷ zs) (length ys) ≡ Some x
  get_middle [] x zs = refl
  get_middle (y ∷ ys) x zs = get_middle ys x zs

  pub kin_set_here : (roots : List (Root A E)) (place : ℕ) (w : Root A E) → place < length roots → kin_at (slice_set roots place w) place ≡ w.kin
  kin_set_here [] place w l = absurd (omega (arith, l))
  kin_set_here (k ∷ ks) zero w l = refl
  kin_set_here (k ∷ ks) (suc place) w l = kin_set_here ks place w (omega (arith, l))

  pub kin_set_else : (roots : List (Root A E)) (place : ℕ) (w : Root A E) (q : ℕ) → q ≢ place → kin_at (slice_set roots place w) q ≡ kin_at roots q
  kin_set_else [] place w q d = refl
  kin_set_else (k ∷ ks) zero w zero d = absurd (d refl)
  kin_set_else (k ∷ ks) zero w (suc q) d = refl
  kin_set_else (k ∷ ks) (suc place) w zero d = refl
  kin_set_else (k ∷ ks) (suc place) w (suc q) d = kin_set_else ks place w q (λ e. d (ap suc e))

  pub kin_past : (roots : List (Root A E)) (p : ℕ) → length roots ≤ p → kin_at roots p ≡ []
  kin_past roots p far = ap kin_of (slice_get_past roots p far)

  pub seen_set_else : (roots : List (Root A E)) (place : ℕ) (w : Root A E) (q : ℕ) → q ≢ place → seen_at (slice_set roots place w) q ≡ seen_at roots q
  seen_set_else [] place w q d = refl
  seen_set_else (k ∷ ks) zero w zero d = absurd (d refl)
  seen_set_else (k ∷ ks) zero w (suc q) d = refl
  seen_set_else (k ∷ ks) (suc place) w zero d = refl
  seen_set_else (k ∷ ks) (suc place) w (suc q) d = seen_set_else ks place w q (λ e. d (ap suc e))

  pub mine_past : (roots : List (Root A E)) (p : ℕ) → length roots ≤ p → mine_at roots p ≡ []
  mine_past roots p far = ap mine_of (slice_get_past roots p far)

  pub mine_set_here : (roots : List (Root A E)) (place : ℕ) (w : Root A E) → place < length roots → mine_at (slice_set roots place w) place ≡ w.mine
  mine_set_here [] place w l = absurd (omega (arith, l))
  mine_set_here (k ∷ ks) zero w l = refl
  mine_set_here (k ∷ ks) (suc place) w l = mine_set_here ks place w (omega (arith, l))

  pub mine_set_else : (roots : List (Root A E)) (place : ℕ) (w : Root A E) (q : ℕ) → q ≢ place → mine_at (slice_set roots place w) q ≡ mine_at roots q
  mine_set_else [] place w q d = refl
  mine_set_else (k ∷ ks) zero w zero d = absurd (d refl)
  mine_set_else (k ∷ ks) zero w (suc q) d = refl
  mine_set_else (k ∷ ks) (suc place) w zero d = refl
  mine_set_else (k ∷ ks) (suc place) w (suc q) d = mine_set_else ks place w q (λ e. d (ap suc e))

  -- what a root owns is said of its place
  pub owns_here : (roots : List (Root A E)) (place : ℕ) (v w : Root A E) → slice_get roots place ≡ Some v → OwnsAll w → OwnsAllAt (slice_set roots place w) place
  owns_here roots place v w at o = let within = slice_get_within roots place v at in
      subst (λ (x : List Branch × List ℕ × List E). IsWhole x.0 → AreAll x.1 (length x.2))
      (λ i. (sym (kin_set_here roots place w within) i, sym (mine_set_here roots place w within) i, sym (seen_set_here roots place v w at) i)) o

  pub owns_else : (roots : List (Root A E)) (place : ℕ) (w : Root A E) (q : ℕ) → q ≢ place → OwnsAllAt roots q → OwnsAllAt (slice_set roots place w) q
  owns_else roots place w q d o =
      subst (λ (x : List Branch × List ℕ × List E). IsWhole x.0 → AreAll x.1 (length x.2))
      (λ i. (sym (kin_set_else roots place w q d) i, sym (mine_set_else roots place w q d) i, sym (seen_set_else roots place w q d) i)) o

  -- where there is no root, none is whole
  pub owns_past : (roots : List (Root A E)) (q : ℕ) → length roots ≤ q → OwnsAllAt roots q
  owns_past roots q far w = let e = ap (at_depth 0) (kin_past roots q far) in let f = w.first in absurd (omega arith)

  pub gathers_first : (others roots : List (Root A E)) → Gathers others others roots roots
  gathers_first others roots = record {
    rest = [];
    split = append-nil others;
    grown = grown_same roots;
    done = λ p far. subst (λ (l : List E). Begins l (seen_at roots p)) (sym (seen_past others p far)) (seen_at roots p, refl);
    taken = λ p far. sym (append-nil (kin_at roots p)) ∙ ap (λ (l : List Branch). kin_at roots p ++ l) (sym (kin_past others p far));
    untaken = λ p l. refl;
    longest = λ p far. sym (ap (λ (l : List E). longer (seen_at roots p) l) (seen_past others p far) ∙ longer_nil (seen_at roots p));
    unseen = λ p l. refl;
    owned = λ p far. sym (append-nil (mine_at roots p)) ∙ ap (λ (l : List ℕ). mine_at roots p ++ l) (sym (mine_past others p far));
    unowned = λ p l. refl;
    whole = λ p far l. absurd (omega arith);
    own = λ p far l. absurd (omega arith);
  }

  pub gathers_next : (others left ys roots roots' : List (Root A E)) (x : Root A E) → Gathers others left roots roots' → left ≡ ys ++ x ∷ [] → (rest : List (Root A E)) × (others ≡ ys ++ x ∷ rest)
  gathers_next others left ys roots roots' x i is = (i.rest, sym i.split ∙ (ap (λ (l : List (Root A E)). l ++ i.rest) is ∙ append_assoc ys (x ∷ []) i.rest))

  -- the next to be gathered has the gate of its place
  pub gathers_gate : (others left ys roots roots' : List (Root A E)) (x v : Root A E) → Gathers others left roots roots' → gates others ≡ gates roots → left ≡ ys ++ x ∷ [] → slice_get roots' (length ys) ≡ Some v → x.gate ≡ v.gate
  gathers_gate others left ys roots roots' x v i same is at =
      let here : slice_get others (length ys) ≡ Some x = let o = gathers_next others left ys roots roots' x i is in subst (λ (l : List (Root A E)). slice_get l (length ys) ≡ Some x) (sym o.1) (get_middle ys x o.0) in
      let a : slice_get (gates others) (length ys) ≡ Some x.gate = slice_get-map (λ (k : Root A E). k.gate) others (length ys) ∙ ap (option_map (λ (k : Root A E). k.gate)) here in
      let b : slice_get (gates roots') (length ys) ≡ Some v.gate = slice_get-map (λ (k : Root A E). k.gate) roots' (length ys) ∙ ap (option_map (λ (k : Root A E). k.gate)) at in
      let n : Some x.gate ≡ Some v.gate = sym a ∙ (ap (λ (l : List (GateId A)). slice_get l (length ys)) (same ∙ sym i.grown.gates) ∙ b) in cc

  pub gathers_more : (others left ys roots roots' : List (Root A E)) (x v w : Root A E) → Gathers others left roots roots' → left ≡ ys ++ x ∷ [] → slice_get roots' (length ys) ≡ Some v → Stays v w → Begins x.seen w.seen → w.kin ≡ v.kin ++ x.kin → w.seen ≡ longer v.seen x.seen → w.mine ≡ v.mine ++ x.mine → OwnsAll w → AreOwn v.mine (length v.seen) × AreOwn x.mine (length x.seen)
      → Gathers others ys roots (slice_set roots' (length ys) w)
  gathers_more others left ys roots roots' x v w i is at s b takes long owns all fit =
      let o = gathers_next others left ys roots roots' x i is in
      let step = grown_set roots' (length ys) v w at s in
      record {
        rest = x ∷ o.0;
        split = sym o.1;
        grown = grown_trans roots roots' (slice_set roots' (length ys) w) i.grown step;
        done = λ p far. elim (cases_eq p (length ys)) [
          | inl e ↦
              let a : seen_at others p ≡ x.seen = ap seen_of (ap (λ q. slice_get others q) e ∙ subst (λ (l : List (Root A E)). slice_get l (length ys) ≡ Some x) (sym o.1) (get_middle ys x o.0)) in
              let z : seen_at (slice_set roots' (length ys) w) p ≡ w.seen = ap (seen_at (slice_set roots' (length ys) w)) e ∙ seen_set_here roots' (length ys) v w at in
              subst (λ (l : List E). Begins l (seen_at (slice_set roots' (length ys) w) p)) (sym a) (subst (λ (l : List E). Begins x.seen l) (sym z) b)
          | inr d ↦
              let past : length left ≤ p = omega (arith, ap length is, length-append ys (x ∷ [])) in
              begins_trans (seen_at others p) (seen_at roots' p) (seen_at (slice_set roots' (length ys) w) p) (i.done p past) (step.seen.at p)
        ];
        taken = λ p far. elim (cases_eq p (length ys)) [
          | inl e ↦
              let here : kin_at others (length ys) ≡ x.kin = ap kin_of (subst (λ (l : List (Root A E)). slice_get l (length ys) ≡ Some x) (sym o.1) (get_middle ys x o.0)) in
              let was : kin_at roots (length ys) ≡ v.kin = sym (i.untaken (length ys) (omega (arith, ap length is, length-append ys (x ∷ [])))) ∙ ap kin_of at in
              ap (kin_at (slice_set roots' (length ys) w)) e
              ∙ (kin_set_here roots' (length ys) w (slice_get_within roots' (length ys) v at)
              ∙ (takes ∙ (λ j. (sym was ∙ ap (kin_at roots) (sym e)) j ++ (sym here ∙ ap (kin_at others) (sym e)) j)))
          | inr d ↦ kin_set_else roots' (length ys) w p d ∙ i.taken p (omega (arith, ap length is, length-append ys (x ∷ [])))
        ];
        untaken = λ p l. kin_set_else roots' (length ys) w p (λ e. absurd (omega arith)) ∙ i.untaken p (omega (arith, ap length is, length-append ys (x ∷ [])));
        longest = λ p far. elim (cases_eq p (length ys)) [
          | inl e ↦
              let here : seen_at others (length ys) ≡ x.seen = ap seen_of (subst (λ (l : List (Root A E)). slice_get l (length ys) ≡ Some x) (sym o.1) (get_middle ys x o.0)) in
              let was : seen_at roots (length ys) ≡ v.seen = sym (i.unseen (length ys) (omega (arith, ap length is, length-append ys (x ∷ [])))) ∙ ap seen_of at in
              ap (seen_at (slice_set roots' (length ys) w)) e
              ∙ (seen_set_here roots' (length ys) v w at
              ∙ (long ∙ (λ j. longer ((sym was ∙ ap (seen_at roots) (sym e)) j) ((sym here ∙ ap (seen_at others) (sym e)) j))))
          | inr d ↦ seen_set_else roots' (length ys) w p d ∙ i.longest p (omega (arith, ap length is, length-append ys (x ∷ [])))
        ];
        unseen = λ p l. seen_set_else roots' (length ys) w p (λ e. absurd (omega arith)) ∙ i.unseen p (omega (arith, ap length is, length-append ys (x ∷ [])));
        owned = λ p far. elim (cases_eq p (length ys)) [
          | inl e ↦
              let here : mine_at others (length ys) ≡ x.mine = ap mine_of (subst (λ (l : List (Root A E)). slice_get l (length ys) ≡ Some x) (sym o.1) (get_middle ys x o.0)) in
              let was : mine_at roots (length ys) ≡ v.mine = sym (i.unowned (length ys) (omega (arith, ap length is, length-append ys (x ∷ [])))) ∙ ap mine_of at in
              ap (mine_at (slice_set roots' (length ys) w)) e
              ∙ (mine_set_here roots' (length ys) w (slice_get_within roots' (length ys) v at)
              ∙ (owns ∙ (λ j. (sym was ∙ ap (mine_at roots) (sym e)) j ++ (sym here ∙ ap (mine_at others) (sym e)) j)))
          | inr d ↦ mine_set_else roots' (length ys) w p d ∙ i.owned p (omega (arith, ap length is, length-append ys (x ∷ [])))
        ];
        unowned = λ p l. mine_set_else roots' (length ys) w p (λ e. absurd (omega arith)) ∙ i.unowned p (omega (arith, ap length is, length-append ys (x ∷ [])));
        whole = λ p far within. elim (cases_eq p (length ys)) [
          | inl e ↦ subst (λ (q : ℕ). OwnsAllAt (slice_set roots' (length ys) w) q) (sym e) (owns_here roots' (length ys) v w at all)
          | inr d ↦ owns_else roots' (length ys) w p d (i.whole p (omega (arith, ap length is, length-append ys (x ∷ []))) within)
        ];
        own = λ p far within. elim (cases_eq p (length ys)) [
          | inl e ↦
              let there = subst (λ (l : List (Root A E)). slice_get l (length ys) ≡ Some x) (sym o.1) (get_middle ys x o.0) in
              let early : length ys < length left = omega (arith, ap length is, length-append ys (x ∷ [])) in
              let was : mine_at roots (length ys) ≡ v.mine = sym (i.unowned (length ys) early) ∙ ap mine_of at in
              let had : seen_at roots (length ys) ≡ v.seen = sym (i.unseen (length ys) early) ∙ ap seen_of at in
              subst (λ (q : ℕ). AreOwn (mine_at roots q) (length (seen_at roots q)) × AreOwn (mine_at others q) (length (seen_at others q))) (sym e) (
                subst (λ (y : List ℕ × List E). AreOwn y.0 (length y.1)) (λ j. (sym was j, sym had j)) fit.0,
                subst (λ (y : List ℕ × List E). AreOwn y.0 (length y.1)) (λ j. (sym (ap mine_of there) j, sym (ap seen_of there) j)) fit.1,
              )
          | inr d ↦ i.own p (omega (arith, ap length is, length-append ys (x ∷ []))) within
        ];
      }

  -- roots without their places among the passes
  abbrev pub bare : Root A E → Root A E
  bare k = root_shoot k []

  abbrev pub bared : List (Root A E) → List (Root A E)
  bared roots = map bare roots

  gates_bared : (roots : List (Root A E)) → gates (bared roots) ≡ gates roots
  gates_bared [] = refl
  gates_bared (k ∷ ks) = ap (λ (l : List (GateId A)). k.gate ∷ l) (gates_bared ks)

  seen_bared : (roots : List (Root A E)) (p : ℕ) → seen_at (bared roots) p ≡ seen_at roots p
  seen_bared [] p = refl
  seen_bared (k ∷ ks) zero = refl
  seen_bared (k ∷ ks) (suc p) = seen_bared ks p

  pub unlearned_of : (roots roots' : List (Root A E)) → bared roots' ≡ bared roots → Unlearned roots roots'
  unlearned_of roots roots' e = record {
    gates = sym (gates_bared roots') ∙ (ap (λ (l : List (Root A E)). gates l) e ∙ gates_bared roots);
    seen = λ p. sym (seen_bared roots' p) ∙ (ap (λ (l : List (Root A E)). seen_at l p) e ∙ seen_bared roots p);
  }

  pub unlearned_same : (roots roots' : List (Root A E)) → roots' ≡ roots → Unlearned roots roots'
  unlearned_same roots roots' e = unlearned_of roots roots' (ap bared e)

  pub unlearned_then : (a b c : List (Root A E)) → Unlearned a b → Unlearned b c → Unlearned a c
  unlearned_then a b c x y = record { gates = y.gates ∙ x.gates; seen = λ p. y.seen p ∙ x.seen p }

  bare_of : (v w : Root A E) → w ≡ root_with v w.kin → bare w ≡ bare v
  bare_of v w e = ap bare e

  pub bared_set : (roots : List (Root A E)) (place : ℕ) (v w : Root A E) → v ≡ get_or roots place v → place < length roots → w ≡ root_with v w.kin → bared (slice_set roots place w) ≡ bared roots
  bared_set [] place v w read l e = absurd (omega (arith, l))
  bared_set (k ∷ ks) zero v w read l e = ap (λ (x : Root A E). x ∷ bared ks) (bare_of v w e ∙ ap bare read)
  bared_set (k ∷ ks) (suc place) v w read l e = ap (λ (x : List (Root A E)). bare k ∷ x) (bared_set ks place v w read (omega (arith, l)) e)

  -- what is known of the root at one place, where that alone was set
  pub record SetAt (roots new : List (Root A E)) (place : ℕ) (v w : Root A E) : Type 0 where
    pub was : kin_at roots place ≡ v.kin
    pub seen_was : seen_at roots place ≡ v.seen
    pub here : kin_at new place ≡ w.kin
    pub others : (q : ℕ) → q ≢ place → kin_at new q ≡ kin_at roots q

  pub set_at : (roots items : List (Root A E)) (place : ℕ) (v w : Root A E) → items ≡ roots → v ≡ get_or items place v → place < length items → SetAt roots (slice_set items place w) place v w
  set_at roots items place v w is read l =
      let at : slice_get items place ≡ Some v = slice_get_read items (length items) place v refl l read in record {
        was = ap (λ (x : List (Root A E)). kin_at x place) (sym is) ∙ ap kin_of at;
        seen_was = ap (λ (x : List (Root A E)). seen_at x place) (sym is) ∙ ap seen_of at;
        here = kin_set_here items place w l;
        others = λ q d. kin_set_else items place w q d ∙ ap (λ (x : List (Root A E)). kin_at x q) is;
      }

  pub unlearned_set : (roots items : List (Root A E)) (place : ℕ) (v w : Root A E) → items ≡ roots → v ≡ get_or items place v → place < length items → w ≡ root_with v w.kin → Unlearned roots (slice_set items place w)
  unlearned_set roots items place v w is read l e = unlearned_of roots (slice_set items place w) (bared_set items place v w read l e ∙ ap bared is)

  pub kept_as : (v x w : Root A E) → v ≡ x → w ≡ root_with x w.kin → w ≡ root_with v w.kin
  kept_as v x w e k = k ∙ ap (λ (r : Root A E). root_with r w.kin) (sym e)

  pub split_as : (v x w : Root A E) (kin : List Branch) → v ≡ x → w ≡ root_with x kin → w ≡ root_with v w.kin
  split_as v x w kin e k = k ∙ (λ i. root_with (sym e i) (sym (ap (λ (r : Root A E). r.kin) k) i))

  -- one pass was split off from the root at a place
  pub splits_off : (roots items : List (Root A E)) (place : ℕ) (v w : Root A E) → items ≡ roots → v ≡ get_or items place v → place < length items → w ≡ root_with v (cut_off v.kin)
      → Unlearned roots (slice_set items place w) × SplitsOff (kin_at roots) (kin_at (slice_set items place w)) place
  splits_off roots items place v w is read l e = let s = set_at roots items place v w is read l in (
    unlearned_set roots items place v w is read l (split_as v v w (cut_off v.kin) refl e),
    record { here = s.here ∙ (ap (λ (r : Root A E). r.kin) e ∙ ap cut_off (sym s.was)); others = s.others },
  )

  pub newcomer_at : (roots items : List (Root A E)) (place : ℕ) (v w : Root A E) (p : PassKnown A E) → items ≡ roots → v ≡ get_or items place v → place < length items → p ≡ newcomer v.gate (offshoot v.kin) v.seen
      → p ≡ newcomer p.gate (offshoot (kin_at roots place)) (seen_at roots place)
  newcomer_at roots items place v w p is read l e = let s = set_at roots items place v w is read l in
      e ∙ (λ i. newcomer (sym (ap (λ (x : PassKnown A E). x.gate) e) i) (offshoot (sym s.was i)) (sym s.seen_was i))

  -- it took in a pass
  pub takes_in : (roots items : List (Root A E)) (place : ℕ) (v w : Root A E) (branches : List Branch) → items ≡ roots → v ≡ get_or items place v → place < length items → w.kin ≡ v.kin ++ branches
      → TakesIn (kin_at roots) branches (kin_at (slice_set items place w)) place
  takes_in roots items place v w branches is read l e = let s = set_at roots items place v w is read l in
      record { here = s.here ∙ (e ∙ ap (λ (x : List Branch). x ++ branches) (sym s.was)); others = s.others }

  -- what is split off in a call
  pub splits_once : {C R : Type 0} (roots items : List (Root A E)) (place : ℕ) (v w : Root A E) (kin kin' : List Branch) (result : Result R (CallFail C)) → items ≡ roots → v ≡ get_or items place v → place < length items → SplitOnce v.kin kin result w.kin kin'
      → SplitOnce (kin_at roots place) kin result (kin_at (slice_set items place w) place) kin'
  splits_once roots items place v w kin kin' result is read l e = let s = set_at roots items place v w is read l in
      subst (λ (x : List Branch × List Branch). SplitOnce x.0 kin result x.1 kin') (λ i. (sym s.was i, sym s.here i)) e

  -- a place that has a gate is there
  pub there_by_gate : (roots items : List (Root A E)) (place : ℕ) (g : GateId A) → items ≡ roots → slice_get (gates roots) place ≡ Some g → place < length items
  there_by_gate roots items place g is at = omega (arith, slice_get_within (gates roots) place g at, length-map roots (λ (k : Root A E). k.gate), ap length is)

  -- a root of which one pass was split off, and that pass as a root
  abbrev pub cut : Root A E → Root A E
  cut k = root_with k (cut_off k.kin)

  abbrev pub shoot : Root A E → Root A E
  shoot k = root_shoot k (offshoot k.kin)

  -- the first n were cut, and these are what was split off from them
  abbrev pub cut_first : ℕ → List (Root A E) → List (Root A E)
  cut_first zero ks = ks
  cut_first (suc n) [] = []
  cut_first (suc n) (k ∷ ks) = cut k ∷ cut_first n ks

  abbrev pub shoots : ℕ → List (Root A E) → List (Root A E)
  shoots zero ks = []
  shoots (suc n) [] = []
  shoots (suc n) (k ∷ ks) = shoot k ∷ shoots n ks

  cut_next : (ks : List (Root A E)) (n : ℕ) (v : Root A E) → n < length ks → v ≡ get_or (cut_first n ks) n v → slice_set (cut_first n ks) n (cut v) ≡ cut_first (suc n) ks
  cut_next [] n v l read = absurd (omega (arith, l))
  cut_next (k ∷ ks) zero v l read = ap (λ (x : Root A E). cut x ∷ ks) read
  cut_next (k ∷ ks) (suc n) v l read = ap (λ (x : List (Root A E)). cut k ∷ x) (cut_next ks n v (omega (arith, l)) read)

  shoots_next : (ks : List (Root A E)) (n : ℕ) (v : Root A E) → n < length ks → v ≡ get_or (cut_first n ks) n v → shoots n ks ++ shoot v ∷ [] ≡ shoots (suc n) ks
  shoots_next [] n v l read = absurd (omega (arith, l))
  shoots_next (k ∷ ks) zero v l read = ap (λ (x : Root A E). shoot x ∷ []) read
  shoots_next (k ∷ ks) (suc n) v l read = ap (λ (x : List (Root A E)). shoot k ∷ x) (shoots_next ks n v (omega (arith, l)) read)

  pub length_cut : (ks : List (Root A E)) (n : ℕ) → length (cut_first n ks) ≡ length ks
  length_cut ks zero = refl
  length_cut [] (suc n) = refl
  length_cut (k ∷ ks) (suc n) = ap suc (length_cut ks n)

  bared_cut : (ks : List (Root A E)) (n : ℕ) → bared (cut_first n ks) ≡ bared ks
  bared_cut ks zero = refl
  bared_cut [] (suc n) = refl
  bared_cut (k ∷ ks) (suc n) = ap (λ (x : List (Root A E)). bare k ∷ x) (bared_cut ks n)

  bared_shoots : (ks : List (Root A E)) (n : ℕ) → length ks ≤ n → bared (shoots n ks) ≡ bared ks
  bared_shoots [] zero l = refl
  bared_shoots [] (suc n) l = refl
  bared_shoots (k ∷ ks) zero l = absurd (omega (arith, l))
  bared_shoots (k ∷ ks) (suc n) l = ap (λ (x : List (Root A E)). bare k ∷ x) (bared_shoots ks n (omega (arith, l)))

  kin_cut : (ks : List (Root A E)) (n : ℕ) → length ks ≤ n → (q : ℕ) → kin_at (cut_first n ks) q ≡ cut_off (kin_at ks q)
  kin_cut [] zero l q = refl
  kin_cut [] (suc n) l q = refl
  kin_cut (k ∷ ks) zero l q = absurd (omega (arith, l))
  kin_cut (k ∷ ks) (suc n) l zero = refl
  kin_cut (k ∷ ks) (suc n) l (suc q) = kin_cut ks n (omega (arith, l)) q

  kin_shoots : (ks : List (Root A E)) (n : ℕ) → length ks ≤ n → (q : ℕ) → kin_at (shoots n ks) q ≡ offshoot (kin_at ks q)
  kin_shoots [] zero l q = refl
  kin_shoots [] (suc n) l q = refl
  kin_shoots (k ∷ ks) zero l q = absurd (omega (arith, l))
  kin_shoots (k ∷ ks) (suc n) l zero = refl
  kin_shoots (k ∷ ks) (suc n) l (suc q) = kin_shoots ks n (omega (arith, l)) q

  -- some were split, and these are the ports that they gave so far
  pub record Forking (first places list : List (Root A E)) (n : ℕ) : Type 0 where
    pub places_are : places ≡ cut_first n first
    pub list_is : list ≡ shoots n first

  pub forks_first : (first : List (Root A E)) → Forking first first [] 0
  forks_first first = record { places_are = refl; list_is = refl }

  pub forks_more : (first places list list' : List (Root A E)) (n : ℕ) (v w p : Root A E) → Forking first places list n → n < length places → v ≡ get_or places n v → w ≡ cut v → p ≡ shoot v → list' ≡ list ++ p ∷ []
      → Forking first (slice_set places n w) list' (n + 1)
  forks_more first places list list' n v w p f within read is shot more =
      let same = f.places_are in
      let l : n < length first = omega (arith, within, ap length same, length_cut first n) in
      let at : v ≡ get_or (cut_first n first) n v = read ∙ ap (λ (x : List (Root A E)). get_or x n v) same in
      let next : suc n ≡ n + 1 = omega arith in
      record {
        places_are = (λ i. slice_set (same i) n (is i)) ∙ (cut_next first n v l at ∙ ap (λ m. cut_first m first) next);
        list_is = more ∙ ((λ i. f.list_is i ++ shot i ∷ []) ∙ (shoots_next first n v l at ∙ ap (λ m. shoots m first) next));
      }

  pub forks_so_far : (first places list : List (Root A E)) (n : ℕ) → Forking first places list n → Unlearned first places
  forks_so_far first places list n f = unlearned_of first places (ap bared f.places_are ∙ bared_cut first n)

  pub forks_all : (first places list : List (Root A E)) (n : ℕ) → Forking first places list n → length first ≤ n → Unlearned first list × Forks (kin_at first) (kin_at places) (kin_at list)
  forks_all first places list n f l = (
    unlearned_of first list (ap bared f.list_is ∙ bared_shoots first n l),
    record { split = λ q. ap (λ (x : List (Root A E)). kin_at x q) f.places_are ∙ kin_cut first n l q; shoots = λ q. ap (λ (x : List (Root A E)). kin_at x q) f.list_is ∙ kin_shoots first n l q },
  )

  -- a fork that wasn't made, or not put into the list
  pub forks_not : (first places list : List (Root A E)) (n : ℕ) (v w : Root A E) → Forking first places list n → v ≡ get_or places n v → n < length places → w ≡ root_with v w.kin → Unlearned first (slice_set places n w)
  forks_not first places list n v w f read within e = unlearned_of first (slice_set places n w) (bared_set places n v w read within e ∙ (ap bared f.places_are ∙ bared_cut first n))

  -- the root from which one was split off on, as it is then
  pub cut_as : (v x w : Root A E) → v ≡ x → w ≡ root_with x w.kin → w.kin ≡ cut_off x.kin → w ≡ cut v
  cut_as v x w e k c = k ∙ (λ i. root_with (sym e i) ((c ∙ ap (λ (r : Root A E). cut_off r.kin) (sym e)) i))

  pub shoot_as : (v x p : Root A E) → v ≡ x → p ≡ root_shoot x (offshoot x.kin) → p ≡ shoot v
  shoot_as v x p e k = k ∙ ap shoot (sym e)

  -- one root more
  pub trunks_more : (roots roots' : List (Root A E)) (x : Root A E) → AreTrunks roots → x.kin ≡ trunk → roots' ≡ roots ++ x ∷ [] → AreTrunks roots'
  trunks_more roots roots' x all new is = subst (λ (l : List (Root A E)). AreTrunks l) (sym is) (trunks_behind roots x all new)
    where
      trunks_behind : (roots : List (Root A E)) (x : Root A E) → AreTrunks roots → x.kin ≡ trunk → AreTrunks (roots ++ x ∷ [])
      trunks_behind [] x all new zero l = new
      trunks_behind [] x all new (suc q) l = absurd (omega (arith, l))
      trunks_behind (k ∷ ks) x all new zero l = all zero (omega arith)
      trunks_behind (k ∷ ks) x all new (suc q) l = trunks_behind ks x (λ p m. all (suc p) (omega (arith, m))) new q (omega (arith, l))

  pub gathers_within : (others left ys roots roots' : List (Root A E)) (x : Root A E) (k : ℕ) → Gathers others left roots roots' → gates others ≡ gates roots → left ≡ ys ++ x ∷ [] → k ≡ length ys → k < length roots'
  gathers_within others left ys roots roots' x k i same is at =
      let o = gathers_next others left ys roots roots' x i is in
      let f : Root A E → GateId A = λ (r : Root A E). r.gate in
      omega (arith, ap length o.1, length-append ys (x ∷ o.0), ap length same, ap length i.grown.gates, length-map others f, length-map roots f, length-map roots' f)

  pub gathers_gate_at : (others left ys roots roots' : List (Root A E)) (x d : Root A E) (k : ℕ) → Gathers others left roots roots' → gates others ≡ gates roots → left ≡ ys ++ x ∷ [] → k ≡ length ys → x.gate ≡ (get_or roots' k d).gate
  gathers_gate_at others left ys roots roots' x d k i same is at =
      gathers_gate others left ys roots roots' x (get_or roots' k d) i same is (subst (λ (j : ℕ). slice_get roots' j ≡ Some (get_or roots' k d)) at (slice_get-get_or roots' k d (gathers_within others left ys roots roots' x k i same is at)))

  pub gathers_more_at : (others left ys roots roots' : List (Root A E)) (x d w : Root A E) (k : ℕ) → Gathers others left roots roots' → gates others ≡ gates roots → left ≡ ys ++ x ∷ [] → k ≡ length ys → Stays (get_or roots' k d) w → Begins x.seen w.seen → w.kin ≡ (get_or roots' k d).kin ++ x.kin → w.seen ≡ longer (get_or roots' k d).seen x.seen → w.mine ≡ (get_or roots' k d).mine ++ x.mine → OwnsAll w → AreOwn (get_or roots' k d).mine (length (get_or roots' k d).seen) × AreOwn x.mine (length x.seen)
      → Gathers others ys roots (slice_set roots' k w)
  gathers_more_at others left ys roots roots' x d w k i same is at s b takes long owns all fit =
      subst (λ (j : ℕ). Gathers others ys roots (slice_set roots' j w)) (sym at)
      (gathers_more others left ys roots roots' x (get_or roots' k d) w i is (subst (λ (j : ℕ). slice_get roots' j ≡ Some (get_or roots' k d)) at (slice_get-get_or roots' k d (gathers_within others left ys roots roots' x k i same is at))) s b takes long owns all fit)

  pub here_longer : (roots items : List (Root A E)) (place : ℕ) (g : GateId A) (v w : Root A E) (seen : List E) → items ≡ roots → slice_get (gates roots) place ≡ Some g → v ≡ get_or items place v → w.seen ≡ longer v.seen seen
      → seen_at (slice_set items place w) place ≡ longer (seen_at roots place) seen
  here_longer roots items place g v w seen is at read l =
      let here = at_item roots items place g v is at read in
      let same : seen_at roots place ≡ v.seen = ap (λ (l : List (Root A E)). seen_at l place) (sym is) ∙ ap seen_of here in
      seen_set_here items place v w here ∙ (l ∙ ap (λ (x : List E). longer x seen) (sym same))

  pub kept : (n : ℕ) (xs ys : List (Root A E)) → length xs ≡ n → take n (xs ++ ys) ≡ xs
  kept n xs ys l = take-append-le n xs ys (omega (arith, l)) ∙ take_all n xs (omega (arith, l))

  pub gathered : (mid old new others roots gone : List (Root A E)) (n : ℕ) → mid ≡ old → length old ≡ n → old ≡ roots → others ≡ gone → Grown mid new → Later (seen_at others) (seen_at new) → gates gone ≡ gates roots
      → Grown roots (take n (new ++ drop (length new) old)) × Grown gone (take n (new ++ drop (length new) old))
  gathered mid old new others roots gone n start len is was first later same =
      let grown : Grown old new = subst (λ (l : List (Root A E)). Grown l new) start first in
      let f : Root A E → GateId A = λ (k : Root A E). k.gate in
      let long : length new ≡ n = sym (length-map new f) ∙ (ap length grown.gates ∙ (length-map old f ∙ len)) in
      let e = kept n new (drop (length new) old) long in
      let g : Grown roots new = subst (λ (l : List (Root A E)). Grown l new) is grown in
      let h : Grown gone new = record { gates = g.gates ∙ sym same; seen = subst (λ (l : List (Root A E)). Later (seen_at l) (seen_at new)) was later } in
      (subst (λ (l : List (Root A E)). Grown roots l) (sym e) g, subst (λ (l : List (Root A E)). Grown gone l) (sym e) h)

  pub forked : (mid old new roots : List (Root A E)) (n : ℕ) → mid ≡ old → length old ≡ n → old ≡ roots → Unlearned mid new → Unlearned roots (take n (new ++ drop (length new) old))
  forked mid old new roots n start len is u =
      let f : Root A E → GateId A = λ (k : Root A E). k.gate in
      let long : length new ≡ n = sym (length-map new f) ∙ (ap length u.gates ∙ (length-map mid f ∙ (ap length start ∙ len))) in
      subst (λ (x : List (Root A E) × List (Root A E)). Unlearned x.0 x.1) (λ i. ((start ∙ is) i, sym (kept n new (drop (length new) old) long) i)) u

  pub forked_kin : (mid old new roots s : List (Root A E)) (n : ℕ) → mid ≡ old → length old ≡ n → old ≡ roots → Unlearned mid new → Unlearned mid s × Forks (kin_at mid) (kin_at new) (kin_at s)
      → Unlearned roots s × Forks (kin_at roots) (kin_at (take n (new ++ drop (length new) old))) (kin_at s)
  forked_kin mid old new roots s n start len is u f =
      let g : Root A E → GateId A = λ (k : Root A E). k.gate in
      let long : length new ≡ n = sym (length-map new g) ∙ (ap length u.gates ∙ (length-map mid g ∙ (ap length start ∙ len))) in
      subst (λ (x : List (Root A E) × List (Root A E)). Unlearned x.0 s × Forks (kin_at x.0) (kin_at x.1) (kin_at s)) (λ i. ((start ∙ is) i, sym (kept n new (drop (length new) old) long) i)) f

  pub gathered_longest : (mid old new others roots gone : List (Root A E)) (n : ℕ) → mid ≡ old → length old ≡ n → old ≡ roots → others ≡ gone → Grown mid new → ((q : ℕ) → seen_at new q ≡ longer (seen_at mid q) (seen_at others q))
      → (q : ℕ) → seen_at (take n (new ++ drop (length new) old)) q ≡ longer (seen_at roots q) (seen_at gone q)
  gathered_longest mid old new others roots gone n start len is was grown h =
      let f : Root A E → GateId A = λ (k : Root A E). k.gate in
      let long : length new ≡ n = sym (length-map new f) ∙ (ap length grown.gates ∙ (length-map mid f ∙ (ap length start ∙ len))) in
      subst (λ (x : List (Root A E) × List (Root A E) × List (Root A E)). (q : ℕ) → seen_at x.2 q ≡ longer (seen_at x.0 q) (seen_at x.1 q)) (λ i. ((start ∙ is) i, was i, sym (kept n new (drop (length new) old) long) i)) h

  pub gathered_kin : (mid old new others roots gone : List (Root A E)) (n : ℕ) → mid ≡ old → length old ≡ n → old ≡ roots → others ≡ gone → Grown mid new → TakesAll (kin_at mid) (kin_at others) (kin_at new)
      → TakesAll (kin_at roots) (kin_at gone) (kin_at (take n (new ++ drop (length new) old)))
  gathered_kin mid old new others roots gone n start len is was grown takes =
      let f : Root A E → GateId A = λ (k : Root A E). k.gate in
      let long : length new ≡ n = sym (length-map new f) ∙ (ap length grown.gates ∙ (length-map mid f ∙ (ap length start ∙ len))) in
      subst (λ (x : List (Root A E) × List (Root A E) × List (Root A E)). TakesAll (kin_at x.0) (kin_at x.1) (kin_at x.2)) (λ i. ((start ∙ is) i, was i, sym (kept n new (drop (length new) old) long) i)) takes

  -- a root that gains no call
  pub mine_kept : (roots items : List (Root A E)) (place : ℕ) (v w : Root A E) → items ≡ roots → v ≡ get_or items place v → place < length items → w ≡ root_with v w.kin → (q : ℕ) → mine_at (slice_set items place w) q ≡ mine_at roots q
  mine_kept roots items place v w is read l e q =
      let at : slice_get items place ≡ Some v = slice_get_read items (length items) place v refl l read in
      elim (cases_eq q place) [
        | inl d ↦
            ap (mine_at (slice_set items place w)) d
            ∙ (mine_set_here items place w l
            ∙ (ap (λ (r : Root A E). r.mine) e
            ∙ (sym (ap mine_of at) ∙ (ap (λ (x : List (Root A E)). mine_at x place) is ∙ ap (mine_at roots) (sym d)))))
        | inr d ↦ mine_set_else items place w q d ∙ ap (λ (x : List (Root A E)). mine_at x q) is
      ]

  -- it took in the calls of a pass
  pub owns_more : (roots items : List (Root A E)) (place : ℕ) (v w : Root A E) (mine : List ℕ) → items ≡ roots → v ≡ get_or items place v → place < length items → w.mine ≡ v.mine ++ mine → OwnsAll w
      → OwnsMore (mine_at roots) mine (mine_at (slice_set items place w)) place × OwnsAllAt (slice_set items place w) place
  owns_more roots items place v w mine is read l e o =
      let at : slice_get items place ≡ Some v = slice_get_read items (length items) place v refl l read in
      let was : mine_at roots place ≡ v.mine = ap (λ (x : List (Root A E)). mine_at x place) (sym is) ∙ ap mine_of at in (
        record {
          here = mine_set_here items place w l ∙ (e ∙ ap (λ (x : List ℕ). x ++ mine) (sym was));
          others = λ q d. mine_set_else items place w q d ∙ ap (λ (x : List (Root A E)). mine_at x q) is;
        },
        owns_here items place v w at o,
      )

  -- all were gathered
  pub gathered_all : (others left roots roots' : List (Root A E)) → Gathers others left roots roots' → gates others ≡ gates roots → length left ≡ 0 → OwnsBoth (mine_at roots) (mine_at others) (mine_at roots') × ((q : ℕ) → OwnsAllAt roots' q)
  gathered_all others left roots roots' i same none = (
    record { at_each = λ q. i.owned q (omega arith) },
    λ q. elim (cases_lt q (length others)) [
      | inl l ↦ i.whole q (omega arith) l
      | inr far ↦
          let f : Root A E → GateId A = λ (r : Root A E). r.gate in
          owns_past roots' q (omega (arith, far, ap length same, ap length i.grown.gates, length-map others f, length-map roots f, length-map roots' f))
    ],
  )

  own_past : (roots : List (Root A E)) (q : ℕ) → length roots ≤ q → AreOwn (mine_at roots q) (length (seen_at roots q))
  own_past roots q far = subst (λ (y : List ℕ). AreOwn y (length (seen_at roots q))) (sym (mine_past roots q far)) (λ p. (omega arith, λ some_own. absurd (omega arith)))

  pub gathered_own : (others left roots roots' : List (Root A E)) → Gathers others left roots roots' → gates others ≡ gates roots → length left ≡ 0 → AreOwnAll roots × AreOwnAll others
  gathered_own others left roots roots' i same none =
      let f : Root A E → GateId A = λ (r : Root A E). r.gate in
      let long : length roots ≡ length others = omega (arith, ap length same, length-map others f, length-map roots f) in (
        λ q. elim (cases_lt q (length others)) [
          | inl l ↦ (i.own q (omega arith) l).0
          | inr far ↦ own_past roots q (omega (arith, far, long))
        ],
        λ q. elim (cases_lt q (length others)) [
          | inl l ↦ (i.own q (omega arith) l).1
          | inr far ↦ own_past others q far
        ],
      )

  pub own_at : (roots items : List (Root A E)) (place : ℕ) (v : Root A E) → items ≡ roots → v ≡ get_or items place v → place < length items → AreOwn v.mine (length v.seen) → AreOwn (mine_at roots place) (length (seen_at roots place))
  own_at roots items place v is read l own =
      let at : slice_get items place ≡ Some v = slice_get_read items (length items) place v refl l read in
      subst (λ (x : List (Root A E)). AreOwn (mine_at x place) (length (seen_at x place))) is
      (subst (λ (y : List ℕ × List E). AreOwn y.0 (length y.1)) (λ j. (sym (ap mine_of at) j, sym (ap seen_of at) j)) own)

  pub gathered_mine : (mid old new others roots gone : List (Root A E)) (n : ℕ) → mid ≡ old → length old ≡ n → old ≡ roots → others ≡ gone → Grown mid new → OwnsBoth (mine_at mid) (mine_at others) (mine_at new) → ((q : ℕ) → OwnsAllAt new q)
      → OwnsBoth (mine_at roots) (mine_at gone) (mine_at (take n (new ++ drop (length new) old))) × ((q : ℕ) → OwnsAllAt (take n (new ++ drop (length new) old)) q)
  gathered_mine mid old new others roots gone n start len is was grown takes whole =
      let f : Root A E → GateId A = λ (k : Root A E). k.gate in
      let long : length new ≡ n = sym (length-map new f) ∙ (ap length grown.gates ∙ (length-map mid f ∙ (ap length start ∙ len))) in (
        subst (λ (x : List (Root A E) × List (Root A E) × List (Root A E)). OwnsBoth (mine_at x.0) (mine_at x.1) (mine_at x.2)) (λ i. ((start ∙ is) i, was i, sym (kept n new (drop (length new) old) long) i)) takes,
        subst (λ (x : List (Root A E)). (q : ℕ) → OwnsAllAt x q) (sym (kept n new (drop (length new) old) long)) whole,
      )
