-- What a pass knows after a call, from what its seat was told
use Rattle.std.proofs.Common.{◌≡◌, ℕ, ◌+◌, ◌^◌, ◌<◌, ◌≤◌, List, [], ◌∷◌, ◌++◌, length, false, Option, Some, Result, Ok, Err, IfOk, sym, ap, ◌∙◌, subst, arith, length-append}
use Rattle.atomic_table.specs.Table.{Me}
use Rattle.atomic_table.specs.Seated.{TableId}
use Rattle.turn_gate.specs.declared.gate.CallFail.{CallFail}
use Rattle.turn_gate.specs.declared.gate.CallFail.TheVariants.{Busy, Worn}
use Rattle.turn_gate.specs.declared.view.View.{View}
use Rattle.turn_gate.specs.declared.view.Branch.{Branch}
use Rattle.turn_gate.specs.Histories.{Begins, AreOwn}
use Rattle.turn_gate.specs.TurnTable.{Seized, seizing, noting}
use Rattle.turn_gate.specs.Serving.{ServingAt, Gave, Served}
use Rattle.turn_gate.specs.Known.{PassKnown, Replied, RepliedAfter}
use Rattle.turn_gate.proofs.Places.{begins_less, own_more}

own_wider : (places : List ℕ) (n m : ℕ) → AreOwn places n → n ≤ m → AreOwn places m
own_wider places n m own l p = ((own p).0, λ some_own. let x = (own p).1 some_own in omega arith)

module _ {C R A : Type 0} where
  -- the turn is had, at the history h, by a seat that had this view, and has these branches now
  pub record Has (v : View C R A) (h : List (C × R)) (k : List Branch) (n : View C R A) : Type 0 where
    pub whole : n.whole ≡ h
    pub mine : n.mine ≡ v.mine
    pub of : n.of ≡ v.of
    pub met : n.met ≡ v.met
    pub kin : n.kin ≡ k

  pub has : (v n : View C R A) (h : List (C × R)) → n ≡ seizing v h → Has v h v.kin n
  has v n h e = record { whole = ap (λ (x : View C R A). x.whole) e; mine = ap (λ (x : View C R A). x.mine) e; of = ap (λ (x : View C R A). x.of) e; met = ap (λ (x : View C R A). x.met) e; kin = ap (λ (x : View C R A). x.kin) e }

  pub has_noted : (v n k u : View C R A) (h : List (C × R)) → Has v h v.kin n → k ≡ noting n u → Has v h (v.kin ++ u.kin) k
  has_noted v n k u h x e = record {
    whole = ap (λ (x : View C R A). x.whole) e ∙ x.whole;
    mine = ap (λ (x : View C R A). x.mine) e ∙ x.mine;
    of = ap (λ (x : View C R A). x.of) e ∙ x.of;
    met = ap (λ (x : View C R A). x.met) e ∙ x.met;
    kin = ap (λ (x : View C R A). x.kin) e ∙ ap (λ (l : List Branch). l ++ u.kin) x.kin;
  }

module _ {C R A H : Type 0} where
  module _ (inside : A → H → List (C × R) → Type 0) (key : A) where
    pub serving : (m n : Me (Option H) (View C R A)) → Seized inside m n → m.0.of ≡ Some key → ServingAt inside key n.0.whole n
    serving m n t o = let e = t.view_is in record {
      holds = ap (λ (x : View C R A). x.holds) e;
      of_is = ap (λ (x : View C R A). x.of) e ∙ o;
      value = t.value;
      slot = t.slot;
      fits = subst (λ (x : View C R A). inside key t.value x.whole) (sym e) (t.fits key o);
    }

    pub serving_noted : (n k : Me (Option H) (View C R A)) (u : View C R A) → ServingAt inside key n.0.whole n → k ≡ (noting n.0 u, n.1) → ServingAt inside key k.0.whole k
    serving_noted n k u s e = let d = ap (λ (x : Me (Option H) (View C R A)). x.0) e in record {
      holds = ap (λ (x : View C R A). x.holds) d ∙ s.holds;
      of_is = ap (λ (x : View C R A). x.of) d ∙ s.of_is;
      value = s.value;
      slot = ap (λ (x : Me (Option H) (View C R A)). x.1) e ∙ s.slot;
      fits = subst (λ (x : View C R A). inside key s.value x.whole) (sym d) s.fits;
    }

  module _ (lawful : List (C × R) → Type 0) (key : A) (call : C) (v : View C R A) (n f : Me (Option H) (View C R A)) (h : List (C × R)) (k : List Branch) (count : ℕ) where
    mine_after : (r : R) → Has v h k n.0 → Gave (Some (call, r)) n f → f.0.mine ≡ v.mine ++ length h ∷ []
    mine_after r x g = ap (λ (y : View C R A). y.mine) g.view_is ∙ (λ i. x.mine i ++ length (x.whole i) ∷ [])

    seen_after : (r : R) → Has v h k n.0 → Gave (Some (call, r)) n f → f.0.seen ≡ h ++ (call, r) ∷ []
    seen_after r x g = ap (λ (y : View C R A). y.seen) g.view_is ∙ (λ i. x.whole i ++ (call, r) ∷ [])

    own_after : (r : R) → Has v h k n.0 → Gave (Some (call, r)) n f → AreOwn v.mine (length v.seen) → Begins v.seen h → AreOwn f.0.mine (length f.0.seen)
    own_after r x g own b =
        let e : C × R = (call, r) in
        let mine = mine_after r x g in
        let long : length f.0.seen ≡ length h + 1 = ap length (seen_after r x g) ∙ length-append h (e ∷ []) in
        subst (λ (y : List ℕ × ℕ). AreOwn y.0 y.1) (λ i. (sym mine i, sym long i)) (own_more v.mine (length v.seen) (length h) own (begins_less v.seen h b))

    pub keeps_pass : (result : Result R (CallFail C)) → Has v h k n.0 → v.of ≡ Some key → AreOwn v.mine (length v.seen) → Begins v.seen h → Served lawful n call result count f
        → (f.1 ≡ []) × (f.0.holds ≡ false) × (f.0.kin ≡ k) × (f.0.of ≡ Some key) × (count ≡ length f.0.seen) × AreOwn f.0.mine (length f.0.seen) × lawful f.0.seen
    keeps_pass (Ok r) x of own b s =
        let e : C × R = (call, r) in
        let seen : f.0.seen ≡ n.0.whole ++ e ∷ [] = ap (λ (y : View C R A). y.seen) s.0.view_is in (
          s.0.slot,
          ap (λ (y : View C R A). y.holds) s.0.view_is,
          ap (λ (y : View C R A). y.kin) s.0.view_is ∙ x.kin,
          ap (λ (y : View C R A). y.of) s.0.view_is ∙ (x.of ∙ of),
          s.4 ∙ sym (ap length seen ∙ length-append n.0.whole (e ∷ [])),
          own_after r x s.0 own b,
          subst lawful (sym seen) s.3,
        )
    keeps_pass (Err (Worn c)) x of own b s =
        let seen : f.0.seen ≡ n.0.whole = ap (λ (y : View C R A). y.seen) s.1.view_is in
        let mine : f.0.mine ≡ v.mine = ap (λ (y : View C R A). y.mine) s.1.view_is ∙ x.mine in
        let long : length f.0.seen ≡ length h = ap length seen ∙ ap length x.whole in (
          s.1.slot,
          ap (λ (y : View C R A). y.holds) s.1.view_is,
          ap (λ (y : View C R A). y.kin) s.1.view_is ∙ x.kin,
          ap (λ (y : View C R A). y.of) s.1.view_is ∙ (x.of ∙ of),
          s.4 ∙ sym (ap length seen),
          subst (λ (y : List ℕ × ℕ). AreOwn y.0 y.1) (λ i. (sym mine i, sym long i)) (own_wider v.mine (length v.seen) (length h) own (begins_less v.seen h b)),
          subst lawful (sym seen) s.3,
        )
    keeps_pass (Err (Busy c)) x of own b s = absurd s

    abbrev pub known : TableId → A → View C R A → PassKnown A (C × R)
    known table about y = record { gate = record { table = table; about = about }; holds = y.holds; met = y.met; kin = y.kin; seen = y.seen; mine = y.mine }

    pub replied : (r : R) (table table' : TableId) (about about' : A) → table' ≡ table → about' ≡ about → Has v h k n.0 → AreOwn v.mine (length v.seen) → Begins v.seen h → Served lawful n call (Ok r) count f
        → Replied lawful (known table about v) (call, r) (known table' about' f.0)
    replied r table table' about about' same told x own b s =
        let e : C × R = (call, r) in
        let seen : f.0.seen ≡ n.0.whole ++ e ∷ [] = ap (λ (y : View C R A). y.seen) s.0.view_is in
        record {
          before = h;
          begins = b;
          lawful_before = subst lawful x.whole s.2;
          room = subst (λ (l : List (C × R)). length l < 2 ^ 62) x.whole s.1;
          seen = seen_after r x s.0;
          lawful_seen = subst lawful (sym seen) s.3;
          mine = mine_after r x s.0;
          own = own_after r x s.0 own b;
          same = record {
            gate = λ i. record { table = same i; about = told i };
            idle = ap (λ (y : View C R A). y.holds) s.0.view_is;
            met = ap (λ (y : View C R A). y.met) s.0.view_is ∙ x.met;
          };
        }

    pub replies : (result : Result R (CallFail C)) (table table' : TableId) (about about' : A) → table' ≡ table → about' ≡ about → Has v h k n.0 → AreOwn v.mine (length v.seen) → Begins v.seen h → Served lawful n call result count f
        → IfOk result (λ r. Replied lawful (known table about v) (call, r) (known table' about' f.0))
    replies (Ok r) table table' about about' same told x own b s = replied r table table' about about' same told x own b s
    replies (Err e) table table' about about' same told x own b s = tt

    pub replies_after : (result : Result R (CallFail C)) (table table' : TableId) (about about' : A) (root : List (C × R)) → table' ≡ table → about' ≡ about → Has v h k n.0 → AreOwn v.mine (length v.seen) → Begins v.seen h
        → n.0.noted ≡ root → Served lawful n call result count f
        → IfOk result (λ r. RepliedAfter lawful root (known table about v) (call, r) (known table' about' f.0))
    unfolding replied
    replies_after (Ok r) table table' about about' root same told x own b noted s = record {
      replied = replied r table table' about about' same told x own b s;
      root_begins = subst (λ (y : List (C × R) × List (C × R)). Begins y.0 y.1) (λ i. (noted i, x.whole i)) s.0.noted_begins;
    }
    replies_after (Err e) table table' about about' root same told x own b noted s = tt
