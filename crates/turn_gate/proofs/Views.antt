-- What the rule says of all views, where one changes or one more comes
use Rattle.std.proofs.Common.{◌≡◌, ◌≢◌, ℕ, zero, suc, ◌+◌, ◌<◌, List, [], ◌∷◌, ◌++◌, length, set, Bool, true, false, true≢false, Option, Some, None, refl, sym, ap, ◌∙◌, subst, ⊎_elim, arith}
use mathlib.Core.Logic.{dite}
use mathlib.Core.Option.{some, some-injective, some-ne-none}
use native.Mathlib.Decide.{ℕ_discrete}
use lib.ListN.{get_elem?}
use Rattle.atomic_table.proofs.Lists.{at_set, set_here, set_else, at_snoc, at_longer}
use Rattle.turn_gate.specs.declared.view.View.{View}
use Rattle.turn_gate.specs.Branches.{cut_off, offshoot, at_depth, cut_at}
use Rattle.turn_gate.specs.TurnTable.{spent, Fits, branches_at, cuts_at, Cuts, OneHolds, NoneHolds}
use Rattle.turn_gate.proofs.Places.{total-append, total-set}
use Rattle.turn_gate.proofs.Branching.{depth_cut, shoot_first, shoot_uncut, cut_counted, depth_both, cut_both}

pub off : {b : Bool} → b ≡ false → b ≡ true → ⊥
off un so = true≢false (sym so ∙ un)

pub bool_un : (b : Bool) → (b ≡ true → ⊥) → b ≡ false
bool_un true n = absurd (n refl)
bool_un false n = refl

pub within : {A : Type 0} (l : List A) (i : ℕ) (a : A) → get_elem? l i ≡ some a → i < length l
within [] i a e = absurd (some-ne-none a (sym e))
within (x ∷ xs) zero a e = omega arith
within (x ∷ xs) (suc i) a e = let h = within xs i a e in omega arith

module _ {C R A : Type 0} where
  pub fits_set : (key : A) (whole : List (C × R)) (views : List (View C R A)) (id : ℕ) (w : View C R A) → ((j : ℕ) (u : View C R A) → j ≢ id → get_elem? views j ≡ some u → Fits key whole u) → Fits key whole w
      → (j : ℕ) (u : View C R A) → get_elem? (set views id w) j ≡ some u → Fits key whole u
  fits_set key whole views id w others here j u e =
      ⊎_elim
      (λ (x : (j ≡ id) × (w ≡ u)). subst (λ (y : View C R A). Fits key whole y) x.1 here)
      (λ (x : (j ≢ id) × (get_elem? views j ≡ some u)). others j u x.0 x.1)
      (at_set views id j w u e)

  pub fits_more : (key : A) (whole : List (C × R)) (views : List (View C R A)) (w : View C R A) → ((j : ℕ) (u : View C R A) → get_elem? views j ≡ some u → Fits key whole u) → Fits key whole w
      → (j : ℕ) (u : View C R A) → get_elem? (views ++ w ∷ []) j ≡ some u → Fits key whole u
  fits_more key whole views w others here j u e = ⊎_elim (λ x. others j u x) (λ (x : w ≡ u). subst (λ (y : View C R A). Fits key whole y) x here) (at_snoc views w u j e)

  pub spent_fits : (key : A) (whole : List (C × R)) → Fits key whole spent
  spent_fits key whole = record { named = λ a e. absurd (none_some a e); holding = λ e. absurd (off refl e); grows = λ e. absurd (off refl e); seen_begins = (whole, refl); noted_begins = (whole, refl); own = λ p h. absurd (omega arith); bears = λ p h. absurd (omega arith) }
    where
      none_some : (a : A) → None ≡ Some a → ⊥
      none_some a e = true≢false (ap (λ (x : Option A). is_none x) e)
        where
          is_none : Option A → Bool
          is_none None = true
          is_none (Some x) = false

  pub one_set : (views : List (View C R A)) (id : ℕ) (v w : View C R A) → get_elem? views id ≡ some v → w.holds ≡ v.holds → OneHolds views → OneHolds (set views id w)
  one_set views id v w me same h =
      let only : (j : ℕ) (u : View C R A) → get_elem? (set views id w) j ≡ some u → u.holds ≡ true → j ≡ h.0 = λ j u at so. ⊎_elim
      (λ (x : (j ≡ id) × (w ≡ u)). x.0 ∙ h.4 id v me (sym same ∙ (ap (λ (y : View C R A). y.holds) x.1 ∙ so)))
      (λ (x : (j ≢ id) × (get_elem? views j ≡ some u)). h.4 j u x.1 so) (at_set views id j w u at) in
      dite (ℕ_discrete h.0 id)
      (λ (e : h.0 ≡ id). (h.0, w, subst (λ k. get_elem? (set views id w) k ≡ some w) (sym e) (set_here views id w (within views id v me)), same ∙ (ap (λ (y : View C R A). y.holds) (sym (some-injective h.1 v (sym h.2 ∙ (ap (λ k. get_elem? views k) e ∙ me)))) ∙ h.3), only))
      (λ ne. (h.0, h.1, set_else views id h.0 w ne ∙ h.2, h.3, only))

  pub one_more : (views : List (View C R A)) (w : View C R A) → w.holds ≡ false → OneHolds views → OneHolds (views ++ w ∷ [])
  one_more views w un h = (
    h.0,
    h.1,
    at_longer views (w ∷ []) h.0 h.1 h.2,
    h.3,
    λ j u at so. ⊎_elim (λ x. h.4 j u x so) (λ (x : w ≡ u). absurd (off (ap (λ (y : View C R A). y.holds) (sym x) ∙ un) so)) (at_snoc views w u j at),
  )

  pub none_set : (views : List (View C R A)) (id : ℕ) (v w : View C R A) → get_elem? views id ≡ some v → w.holds ≡ v.holds → NoneHolds views → NoneHolds (set views id w)
  none_set views id v w me same n j u at = ⊎_elim
      (λ (x : (j ≡ id) × (w ≡ u)). ap (λ (y : View C R A). y.holds) (sym x.1) ∙ (same ∙ n id v me))
      (λ (x : (j ≢ id) × (get_elem? views j ≡ some u)). n j u x.1) (at_set views id j w u at)

  pub none_more : (views : List (View C R A)) (w : View C R A) → w.holds ≡ false → NoneHolds views → NoneHolds (views ++ w ∷ [])
  none_more views w un n j u at = ⊎_elim (λ x. n j u x) (λ (x : w ≡ u). ap (λ (y : View C R A). y.holds) (sym x) ∙ un) (at_snoc views w u j at)

  -- one view changes, and its branches don't
  pub cuts_set : (views : List (View C R A)) (id : ℕ) (v w : View C R A) → get_elem? views id ≡ some v → w.kin ≡ v.kin → Cuts views → Cuts (set views id w)
  cuts_set views id v w me same c = record {
    one_first = let t = total-set (branches_at 0) views id v w me in let e = ap (at_depth 0) same in let o = c.one_first in omega arith;
    each_counted = λ d.
        let t = total-set (branches_at (d + 1)) views id v w me in let u = total-set (cuts_at d) views id v w me in
        let e = ap (at_depth (d + 1)) same in let f = ap (cut_at d) same in let o = c.each_counted d in omega arith;
  }

  -- one seat more, cut off from the one at id
  pub cuts_more : (views : List (View C R A)) (id : ℕ) (v w new : View C R A) → get_elem? views id ≡ some v → w.kin ≡ cut_off v.kin → new.kin ≡ offshoot v.kin → Cuts views → Cuts (set views id w ++ new ∷ [])
  cuts_more views id v w new me more shoot c = record {
    one_first =
        let t = total-set (branches_at 0) views id v w me in let s = total-append (branches_at 0) (set views id w) (new ∷ []) in
        let e = ap (at_depth 0) more ∙ depth_cut 0 v.kin in let f = ap (at_depth 0) shoot ∙ shoot_first v.kin in let o = c.one_first in omega arith;
    each_counted = λ d.
        let t = total-set (branches_at (d + 1)) views id v w me in let s = total-append (branches_at (d + 1)) (set views id w) (new ∷ []) in
        let u = total-set (cuts_at d) views id v w me in let r = total-append (cuts_at d) (set views id w) (new ∷ []) in
        let e = ap (at_depth (d + 1)) more ∙ depth_cut (d + 1) v.kin in let f = ap (at_depth (d + 1)) shoot in
        let g = ap (cut_at d) more in let h = ap (cut_at d) shoot ∙ shoot_uncut d v.kin in let k = cut_counted d v.kin in let o = c.each_counted d in omega arith;
  }

  -- one seat takes in the branches of another
  pub cuts_joined : (views : List (View C R A)) (id : ℕ) (v w : View C R A) (other : ℕ) (u : View C R A) → get_elem? views id ≡ some v → get_elem? (set views id w) other ≡ some u → w.kin ≡ v.kin ++ u.kin
      → Cuts views → Cuts (set (set views id w) other spent)
  cuts_joined views id v w other u me there both c = record {
    one_first =
        let t = total-set (branches_at 0) views id v w me in let s = total-set (branches_at 0) (set views id w) other u spent there in
        let e = ap (at_depth 0) both ∙ depth_both 0 v.kin u.kin in let o = c.one_first in omega arith;
    each_counted = λ d.
        let t = total-set (branches_at (d + 1)) views id v w me in let s = total-set (branches_at (d + 1)) (set views id w) other u spent there in
        let p = total-set (cuts_at d) views id v w me in let r = total-set (cuts_at d) (set views id w) other u spent there in
        let e = ap (at_depth (d + 1)) both ∙ depth_both (d + 1) v.kin u.kin in let f = ap (cut_at d) both ∙ cut_both d v.kin u.kin in let o = c.each_counted d in omega arith;
  }
