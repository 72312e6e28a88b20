-- Each step on the turn word keeps the rule
use Rattle.std.proofs.Common.{◌≡◌, ◌≢◌, ℕ, zero, suc, ◌+◌, ◌<◌, ◌≤◌, List, [], ◌∷◌, ◌++◌, length, get_or, set, Option, Some, None, true, false, refl, sym, ap, ◌∙◌, subst, ⊎_elim, arith, lt_of_not-le, length-set, length-append, get_or-set_same}
use mathlib.Core.Logic.{dite}
use mathlib.Core.Option.{some, some-injective, some-ne-none}
use native.Mathlib.Decide.{ℕ_discrete, dec_le}
use lib.ListN.{get_elem?}
use Rattle.atomic_table.specs.Table.{State, Me, keeps, takes, gives, Allows, Splits, Joins, opening}
use Rattle.atomic_table.proofs.Lists.{at_set, set_here, set_else}
use Rattle.turn_gate.specs.declared.view.View.{View}
use Rattle.turn_gate.specs.Histories.{Begins, grown, placed, total, times}
use Rattle.turn_gate.specs.TurnTable.{opener, newcomer, cutting, spent, taking, noting, seizing, meeting, freeing, claims, Fits, Cuts, OneHolds, NoneHolds, TurnRule, Seizes, Frees, Learns}
use Rattle.turn_gate.proofs.Places.{begins_less, begins_more, begins_both, longer_begins, longer_length, times-append, times_other, times_self, total-append, total-set, total_zero, term_le}
use Rattle.turn_gate.proofs.Views.{off, bool_un, within, fits_set, fits_more, spent_fits, one_set, one_more, none_set, none_more, cuts_set, cuts_more, cuts_joined}
use Rattle.turn_gate.proofs.Closing.{all_own}
use Rattle.turn_gate.proofs.Branching.{cut_grows, length_more, trunk_deep, trunk_uncut}

module _ {C R : Type 0} where
  -- a history with a call more, or with none more
  begins_grown : (xs ys : List (C × R)) (said : Option (C × R)) → Begins xs ys → Begins xs (grown ys said)
  begins_grown xs ys None b = b
  begins_grown xs ys (Some e) b = begins_more xs ys (e ∷ []) b

  own_grown : (mine : List ℕ) (n : ℕ) (h : List (C × R)) (said : Option (C × R)) → ((p : ℕ) → 0 < times p mine → p < n) → n ≤ length h → (p : ℕ) → 0 < times p (placed mine (length h) said) → p < length (grown h said)
  own_grown mine n h None own l p some_own = let x = own p some_own in omega arith
  own_grown mine n h (Some e) own l p some_own =
      let long = length-append h (e ∷ []) in let t = times-append p mine (length h ∷ []) in
      dite (ℕ_discrete p (length h)) (λ x. omega arith) (λ x. let z = times_other p (length h) x in let y = own p (omega arith) in omega arith)

module _ {H C R A : Type 0} (inside : A → H → List (C × R) → Type 0) (key : A) where
  abbrev St : Type 0
  St = State (Option H) (View C R A)

  -- the views change, and the word, the slot and the history don't
  changed : (s : St) (o : TurnRule inside key s) (ws : List ℕ) (vs : List (View C R A)) → length ws ≡ length s.words → get_or ws 0 0 ≡ get_or s.words 0 0
      → ((j : ℕ) (u : View C R A) → get_elem? vs j ≡ some u → Fits key o.whole u) → ((p : ℕ) → total (claims p) vs ≡ total (claims p) s.views) → Cuts vs → (NoneHolds s.views → NoneHolds vs) → (OneHolds s.views → OneHolds vs)
      → TurnRule inside key record { words = ws; homes = s.homes; views = vs }
  changed s o ws vs long word each once cuts nobody one = record {
    one_word = long ∙ o.one_word;
    one_slot = o.one_slot;
    whole = o.whole;
    each = each;
    once = λ p l. once p ∙ o.once p l;
    cuts = cuts;
    free = λ e. let f = o.free (sym word ∙ e) in (f.0, nobody f.1);
    held = λ n. let h = o.held (λ e. n (word ∙ e)) in (word ∙ h.0, one h.1);
  }

  pub seizes : (n id : ℕ) (m : Me (Option H) (View C R A)) → m.1 ≡ [] → m.0.holds ≡ false → 0 < length m.0.kin → Allows (TurnRule inside key) n id m 0 (λ _. 1) (λ r n. Seizes inside m r n)
  seizes n id m none_held outside alive s o wide me _ =
      let f = o.each id m.0 me in
      let one : get_or (set s.words 0 1) 0 0 ≡ 1 = get_or-set_same s.words 0 1 0 (let w = o.one_word in omega arith) in
      let long : length (set s.words 0 1) ≡ 1 = length-set s.words 0 1 ∙ o.one_word in
      dite (ℕ_discrete (get_or s.words 0 0) 0)
      (λ free. let t = o.free free in let x = t.0.0 in let w = seizing m.0 o.whole in (
        w,
        takes 0 (Some x),
        t.0.1,
        record {
          one_word = long;
          one_slot = length-set s.homes 0 _ ∙ o.one_slot;
          whole = o.whole;
          each = fits_set key o.whole s.views id w (λ j u _ e. o.each j u e) record { named = f.named; holding = λ _. refl; grows = λ _. alive; seen_begins = f.seen_begins; noted_begins = f.noted_begins; own = f.own; bears = f.bears };
          once = λ p l. let moved = total-set (claims p) s.views id m.0 w me in let b = o.once p l in omega arith;
          cuts = cuts_set s.views id m.0 w me refl o.cuts;
          free = λ e. absurd (omega arith);
          held = λ _. (
            one,
            (
              id,
              w,
              set_here s.views id w (within s.views id m.0 me),
              refl,
              λ j u at so. ⊎_elim (λ (x : (j ≡ id) × (w ≡ u)). x.0) (λ (x : (j ≢ id) × (get_elem? s.views j ≡ some u)). absurd (off (t.1 j u x.1) so)) (at_set s.views id j w u at),
            ),
          );
        },
        (
          (λ _. record {
            history = o.whole;
            value = x;
            view_is = refl;
            slot = ap (λ (l : List (ℕ × Option H)). (0, Some x) ∷ l) none_held;
            fits = λ a e. subst (λ (k : A). inside k x o.whole) (sym (f.named a e)) t.0.2;
            begins = f.seen_begins;
          }),
          λ taken. absurd (taken free),
        ),
      ))
      (λ taken. let h = o.held taken in let w = meeting m.0 in (
        w,
        keeps,
        tt,
        record {
          one_word = long;
          one_slot = o.one_slot;
          whole = o.whole;
          each = fits_set key o.whole s.views id w (λ j u _ e. o.each j u e) record { named = f.named; holding = λ e. absurd (off refl e); grows = λ e. absurd (off refl e); seen_begins = f.seen_begins; noted_begins = f.noted_begins; own = f.own; bears = f.bears };
          once = λ p l. let moved = total-set (claims p) s.views id m.0 w me in let b = o.once p l in omega arith;
          cuts = cuts_set s.views id m.0 w me refl o.cuts;
          free = λ e. absurd (omega arith);
          held = λ _. (one, one_set s.views id m.0 w me (sym outside) h.1);
        },
        ((λ free. absurd (taken free)), λ _. (refl, none_held)),
      ))

  not_other : (s : St) (o : TurnRule inside key s) (id : ℕ) (v : View C R A) → OneHolds s.views → get_elem? s.views id ≡ some v → v.holds ≡ true → (j : ℕ) (u : View C R A) → j ≢ id → get_elem? s.views j ≡ some u → u.holds ≡ false
  not_other s o id v h me holds j u apart at = bool_un u.holds (λ so. apart (h.4 j u at so ∙ sym (h.4 id v me holds)))

  -- nobody claims a place behind the history
  unclaimed : (s : St) (o : TurnRule inside key s) (p : ℕ) → length o.whole ≤ p → total (claims p) s.views ≡ 0
  unclaimed s o p far = total_zero (claims p) s.views (λ j v e. let f = o.each j v e in let l = begins_less v.seen o.whole f.seen_begins in
      zero_of (times p v.mine) (λ h. let x = f.own p h in omega arith))
    where
      zero_of : (k : ℕ) → (0 < k → ⊥) → k ≡ 0
      zero_of zero h = refl
      zero_of (suc k) h = absurd (h (omega arith))

  at_most_once : (s : St) (o : TurnRule inside key s) (p : ℕ) → total (claims p) s.views ≤ 1
  at_most_once s o p = dite (dec_le (length o.whole) p) (λ far. let z = unclaimed s o p far in omega arith) (λ n. let x = o.once p (lt_of_not-le n) in omega arith)

  once_grown : (s : St) (o : TurnRule inside key s) (id : ℕ) (v : View C R A) (said : Option (C × R)) → get_elem? s.views id ≡ some v → v.whole ≡ o.whole → (p : ℕ) → p < length (grown o.whole said) → total (claims p) (set s.views id (freeing said v)) ≡ 1
  once_grown s o id v None me same p within = let moved = total-set (claims p) s.views id v (freeing None v) me in let b = o.once p within in omega arith
  once_grown s o id v (Some e) me same p within =
      let moved = total-set (claims p) s.views id v (freeing (Some e) v) me in let t = times-append p v.mine (length v.whole ∷ []) in let long : length v.whole ≡ length o.whole = ap length same in
      let longer = length-append o.whole (e ∷ []) in
      dite (ℕ_discrete p (length o.whole))
      (λ (x : p ≡ length o.whole). let z = unclaimed s o p (omega arith) in let one = times_self p (length v.whole) (x ∙ sym long) in omega arith)
      (λ x. let other = times_other p (length v.whole) (λ y. x (y ∙ long)) in let b = o.once p (omega arith) in omega arith)

  frees_known : (n id : ℕ) (v : View C R A) (value : H) (said : Option (C × R)) → v.holds ≡ true → v.of ≡ Some key → inside key value (grown v.whole said)
      → Allows (TurnRule inside key) n id (v, (0, Some value) ∷ []) 0 (λ _. 0) (λ _ n. Frees said (v, (0, Some value) ∷ []) n)
  frees_known n id v value said holds of_key ok s o wide me _ =
      let w = freeing said v in let f = o.each id v me in let same : v.whole ≡ o.whole = f.holding holds in
      let more : grown v.whole said ≡ grown o.whole said = ap (λ (l : List (C × R)). grown l said) same in
      let zeroed : get_or (set s.words 0 0) 0 0 ≡ 0 = get_or-set_same s.words 0 0 0 (let l = o.one_word in omega arith) in
      let busy : get_or s.words 0 0 ≢ 0 = λ free. off ((o.free free).1 id v me) holds in
      let h = (o.held busy).1 in
      let seen = begins_less v.seen o.whole f.seen_begins in (
        w,
        gives,
        tt,
        record {
          one_word = length-set s.words 0 0 ∙ o.one_word;
          one_slot = length-set s.homes 0 _ ∙ o.one_slot;
          whole = grown o.whole said;
          each = fits_set key (grown o.whole said) s.views id w
              (λ j u apart e. let g = o.each j u e in record {
                named = g.named;
                holding = λ so. absurd (off (not_other s o id v h me holds j u apart e) so);
                grows = g.grows;
                seen_begins = begins_grown u.seen o.whole said g.seen_begins;
                noted_begins = begins_grown u.noted o.whole said g.noted_begins;
                own = g.own;
                bears = g.bears;
              })
              record {
                named = f.named;
                holding = λ e. absurd (off refl e);
                grows = λ e. absurd (off refl e);
                seen_begins = ([], nil_right (grown v.whole said) ∙ more);
                noted_begins = (grown o.whole said, refl);
                own = own_grown v.mine (length v.seen) v.whole said f.own (let l = ap length same in omega arith);
                bears = λ p h. f.grows holds;
              };
          once = once_grown s o id v said me same;
          cuts = cuts_set s.views id v w me refl o.cuts;
          free = λ _. (
            (value, set_here s.homes 0 (some (Some value)) (let l = o.one_slot in omega arith), subst (λ (l : List (C × R)). inside key value l) more ok),
            λ j u at. ⊎_elim (λ (x : (j ≡ id) × (w ≡ u)). ap (λ (y : View C R A). y.holds) (sym x.1)) (λ (x : (j ≢ id) × (get_elem? s.views j ≡ some u)). not_other s o id v h me holds j u x.0 x.1) (at_set s.views id j w u at),
          );
          held = λ n. absurd (n zeroed);
        },
        (refl, refl, subst (λ (l : List (C × R)). Begins v.noted l) (sym same) f.noted_begins),
      )
    where
      nil_right : (l : List (C × R)) → l ++ [] ≡ l
      nil_right [] = refl
      nil_right (x ∷ l) = λ i. x ∷ nil_right l i

  pub frees : (n id : ℕ) (m : Me (Option H) (View C R A)) (value : H) (said : Option (C × R)) → m.1 ≡ (0, Some value) ∷ [] → m.0.holds ≡ true → m.0.of ≡ Some key → inside key value (grown m.0.whole said)
      → Allows (TurnRule inside key) n id m 0 (λ _. 0) (λ _ n. Frees said m n)
  frees n id m value said out holds of_key ok =
      subst (λ (x : Me (Option H) (View C R A)). Allows (TurnRule inside key) n id x 0 (λ _. 0) (λ _ n. Frees said x n)) (λ i. (m.0, sym out i)) (frees_known n id m.0 value said holds of_key ok)

  pub learns : (n id : ℕ) (m : Me (Option H) (View C R A)) → Allows (TurnRule inside key) n id m 0 (λ x. x) (λ r u. Learns m u)
  learns n id m s o wide me _ = let f = o.each id m.0 me in (
    m.0,
    keeps,
    tt,
    changed s o (set s.words 0 (get_or s.words 0 0)) (set s.views id m.0) (length-set s.words 0 _) (get_or-set_same s.words 0 (get_or s.words 0 0) 0 (let l = o.one_word in omega arith))
        (fits_set key o.whole s.views id m.0 (λ j u _ e. o.each j u e) f) (λ p. let moved = total-set (claims p) s.views id m.0 m.0 me in omega arith)
        (cuts_set s.views id m.0 m.0 me refl o.cuts) (none_set s.views id m.0 m.0 me refl) (one_set s.views id m.0 m.0 me refl),
    (refl, (λ l. begins_both m.0.noted m.0.seen o.whole f.noted_begins f.seen_begins l), λ p. (let b = at_most_once s o p in let part = term_le (claims p) s.views id m.0 me in omega arith, f.own p), λ w. all_own s.views id m.0 o.whole me w o.cuts (λ j u e. (o.each j u e).bears) o.once (begins_less m.0.seen o.whole f.seen_begins)),
  )

  -- a new seat is cut off from one
  pub new_pass : (id : ℕ) (v : View C R A) → Splits (TurnRule inside key) id v (cutting v) (newcomer v)
  new_pass id v s o me = let f = o.each id v me in let left = cutting v in let right = newcomer v in
      changed s o s.words (set s.views id left ++ right ∷ []) refl refl
      (fits_more key o.whole (set s.views id left) right
      (fits_set key o.whole s.views id left (λ j u _ e. o.each j u e)
      record { named = f.named; holding = f.holding; grows = λ so. cut_grows v.kin (f.grows so); seen_begins = f.seen_begins; noted_begins = f.noted_begins; own = f.own; bears = λ p h. cut_grows v.kin (f.bears p h) })
      record { named = f.named; holding = λ e. absurd (off refl e); grows = λ e. absurd (off refl e); seen_begins = f.seen_begins; noted_begins = (o.whole, refl); own = λ p h. absurd (omega arith); bears = λ p h. absurd (omega arith) })
      (λ p. omega (arith, total-append (claims p) (set s.views id left) (right ∷ []), total-set (claims p) s.views id v left me))
      (cuts_more s.views id v left right me refl refl o.cuts)
      (λ n. none_more (set s.views id left) right refl (none_set s.views id v left me refl n))
      (λ h. one_more (set s.views id left) right refl (one_set s.views id v left me refl h))

  -- a seat takes in another, which doesn't hold the turn
  unites : (id : ℕ) (v : View C R A) (other : ℕ) (u w : View C R A) → w.holds ≡ v.holds → u.holds ≡ false → w.kin ≡ v.kin ++ u.kin
      → ((whole : List (C × R)) → Fits key whole v → Fits key whole u → Fits key whole w) → ((p : ℕ) → claims p w ≡ claims p v + claims p u) → Joins (TurnRule inside key) id v other u w spent
  unites id v other u w same un both fit all s o me apart there =
      let g = o.each other u (sym (set_else s.views id other w apart) ∙ there) in
      let f = fit o.whole (o.each id v me) g in
      changed s o s.words (set (set s.views id w) other spent) refl refl
      (fits_set key o.whole (set s.views id w) other spent (λ j x _ e. fits_set key o.whole s.views id w (λ i y _ d. o.each i y d) f j x e) (spent_fits key o.whole))
      (λ p. omega (arith, all p, total-set (claims p) s.views id v w me, total-set (claims p) (set s.views id w) other u spent there))
      (cuts_joined s.views id v w other u me there both o.cuts)
      (λ n. none_set (set s.views id w) other u spent there (sym un) (none_set s.views id v w me same n))
      (λ h. one_set (set s.views id w) other u spent there (sym un) (one_set s.views id v w me same h))

  pub takes_in : (id : ℕ) (v : View C R A) (other : ℕ) (u : View C R A) → u.holds ≡ false → Joins (TurnRule inside key) id v other u (taking v u) spent
  takes_in id v other u un = unites id v other u (taking v u) refl un refl
      (λ whole f g. let b = longer_begins v.seen u.seen whole f.seen_begins g.seen_begins in let l = longer_length v.seen u.seen in record {
        named = f.named;
        holding = f.holding;
        grows = λ so. length_more v.kin u.kin (f.grows so);
        seen_begins = b.0;
        noted_begins = b.1;
        own = λ p h. let t = times-append p v.mine u.mine in dite (dec_le (times p v.mine) 0)
            (λ z. let x = g.own p (omega arith) in let l' = l.1 in omega arith) (λ z. let x = f.own p (omega arith) in let l' = l.0 in omega arith);
        bears = λ p h. let t = times-append p v.mine u.mine in let long = length-append v.kin u.kin in dite (dec_le (times p v.mine) 0)
            (λ z. let x = g.bears p (omega arith) in omega arith) (λ z. let x = f.bears p (omega arith) in omega arith);
      })
      (λ p. times-append p v.mine u.mine)

  -- the other has made no call
  pub notes : (id : ℕ) (v : View C R A) (other : ℕ) (u : View C R A) → u.holds ≡ false → u.mine ≡ [] → Joins (TurnRule inside key) id v other u (noting v u) spent
  notes id v other u un unmade = unites id v other u (noting v u) refl un refl
      (λ whole f g. record { named = f.named; holding = f.holding; grows = λ so. length_more v.kin u.kin (f.grows so); seen_begins = f.seen_begins; noted_begins = g.seen_begins; own = f.own; bears = λ p h. length_more v.kin u.kin (f.bears p h) })
      (λ p. let e = ap (times p) unmade in omega arith)

  starts : (value : H) → inside key value [] → TurnRule inside key (opening (0 ∷ []) (Some value ∷ []) (opener key))
  starts value ok = record {
    one_word = refl;
    one_slot = refl;
    whole = [];
    each = λ j v e. subst (λ (u : View C R A). Fits key [] u) (first j v e) record { named = λ a e. sym (some_is a e); holding = λ e. absurd (off refl e); grows = λ e. absurd (off refl e); seen_begins = ([], refl); noted_begins = ([], refl); own = λ p h. absurd (omega arith); bears = λ p h. absurd (omega arith) };
    once = λ p l. absurd (omega arith);
    cuts = record { one_first = refl; each_counted = λ d. let deep = trunk_deep d in let uncut = trunk_uncut d in omega arith };
    free = λ _. ((value, refl, ok), λ j v e. ap (λ (y : View C R A). y.holds) (sym (first j v e)));
    held = λ n. absurd (n refl);
  }
    where
      some_is : (a : A) → Some key ≡ Some a → key ≡ a
      some_is a e = ap (λ (x : Option A). or_key x) e
        where
          or_key : Option A → A
          or_key None = key
          or_key (Some x) = x

      first : (j : ℕ) (v : View C R A) → get_elem? (opener key ∷ []) j ≡ some v → opener key ≡ v
      first zero v e = some-injective (opener key) v e
      first (suc j) v e = absurd (some-ne-none v (sym e))

  pub starts_at : (items : List (Option H)) (value : H) → items ≡ Some value ∷ [] → inside key value [] → TurnRule inside key (opening (0 ∷ []) items (opener key))
  starts_at items value e ok = subst (λ (l : List (Option H)). TurnRule inside key (opening (0 ∷ []) l (opener key))) (sym e) (starts value ok)
