-- Where one seat has taken in all others, no other has a branch, so no other has calls
use Rattle.std.proofs.Common.{◌≡◌, ◌≢◌, ℕ, zero, suc, ◌+◌, ◌<◌, ◌≤◌, List, [], ◌∷◌, ◌++◌, length, refl, sym, ap, subst, arith, cond, eq-eqb, ne_eqb}
use mathlib.Core.Logic.{dite}
use mathlib.Core.Option.{some, some-injective, some-ne-none}
use native.Mathlib.Decide.{ℕ_discrete}
use lib.ListN.{get_elem?}
use Rattle.turn_gate.specs.declared.view.View.{View}
use Rattle.turn_gate.specs.declared.view.Branch.{Branch}
use Rattle.turn_gate.specs.Branches.{at_depth, cut_at, IsWhole}
use Rattle.turn_gate.specs.Histories.{total, times, AreAll}
use Rattle.turn_gate.specs.TurnTable.{claims, branches_at, cuts_at, Cuts}
use Rattle.turn_gate.proofs.Places.{total_zero, term_le}

zero_of : (k : ℕ) → (0 < k → ⊥) → k ≡ 0
zero_of zero h = refl
zero_of (suc k) h = absurd (h (omega arith))

-- what has no branch of a depth counts nothing there
bare_cut : (d : ℕ) (bs : List Branch) → at_depth d bs ≡ 0 → cut_at d bs ≡ 0
bare_cut d [] e = refl
bare_cut d (b ∷ bs) e = dite (ℕ_discrete b.depth d)
    (λ (h : b.depth ≡ d). absurd (let x = ap (λ t. cond t 1 0 + at_depth d bs) (eq-eqb b.depth d h) in omega arith))
    (λ n. let x = ap (λ t. cond t 1 0 + at_depth d bs) (ne_eqb b.depth d n) in let y = ap (λ t. cond t b.cut 0 + cut_at d bs) (ne_eqb b.depth d n) in
    let r = bare_cut d bs (omega arith) in omega arith)

-- what has branches of no depth has none
bare_nil : (bs : List Branch) → ((d : ℕ) → at_depth d bs ≡ 0) → 0 < length bs → ⊥
bare_nil [] h l = omega arith
bare_nil (b ∷ bs) h l = let x = ap (λ t. cond t 1 0 + at_depth b.depth bs) (eq-eqb b.depth b.depth refl) in let y = h b.depth in omega arith

module _ {A : Type 0} (g : A → ℕ) where
  -- two of a list count no more than all
  two_le : (l : List A) (i j : ℕ) (v u : A) → j ≢ i → get_elem? l i ≡ some v → get_elem? l j ≡ some u → g v + g u ≤ total g l
  two_le [] i j v u n a b = absurd (some-ne-none v (sym a))
  two_le (x ∷ xs) zero zero v u n a b = absurd (n refl)
  two_le (x ∷ xs) zero (suc j) v u n a b = let h = ap g (some-injective x v a) in let t = term_le g xs j u b in omega arith
  two_le (x ∷ xs) (suc i) zero v u n a b = let h = ap g (some-injective x u b) in let t = term_le g xs i v a in omega arith
  two_le (x ∷ xs) (suc i) (suc j) v u n a b = let t = two_le xs i j v u (λ e. n (ap suc e)) a b in omega arith

  -- where no other counts, one counts all
  only_one : (l : List A) (i : ℕ) (v : A) → get_elem? l i ≡ some v → ((j : ℕ) (u : A) → j ≢ i → get_elem? l j ≡ some u → g u ≡ 0) → total g l ≡ g v
  only_one [] i v a h = absurd (some-ne-none v (sym a))
  only_one (x ∷ xs) zero v a h = let e = ap g (some-injective x v a) in let z = total_zero g xs (λ j u b. h (suc j) u (λ e. absurd (omega arith)) b) in omega arith
  only_one (x ∷ xs) (suc i) v a h = let e = h 0 x (λ e. absurd (omega arith)) refl in let r = only_one xs i v a (λ j u n b. h (suc j) u (λ e. n (omega arith)) b) in omega arith

module _ {C R A : Type 0} (views : List (View C R A)) (id : ℕ) (v : View C R A) where
  -- no other has a branch
  bare : get_elem? views id ≡ some v → IsWhole v.kin → Cuts views → (d : ℕ) (j : ℕ) (u : View C R A) → j ≢ id → get_elem? views j ≡ some u → at_depth d u.kin ≡ 0
  bare me w c zero j u n at = let t = two_le (branches_at 0) views id j v u n me at in let o = c.one_first in let f = w.first in omega arith
  bare me w c (suc d) j u n at =
      let next : d + 1 ≡ suc d = omega arith in
      let k = only_one (cuts_at d) views id v me (λ i x m e. bare_cut d x.kin (bare me w c d i x m e)) in
      let t = two_le (branches_at (d + 1)) views id j v u n me at in let o = c.each_counted d in let f = w.each d in
      let none : at_depth (d + 1) u.kin ≡ 0 = omega arith in subst (λ (m : ℕ). at_depth m u.kin ≡ 0) next none

  -- so its own calls are all calls, and it has seen them
  pub owns_all : (whole : List (C × R)) → get_elem? views id ≡ some v → IsWhole v.kin → Cuts views → ((j : ℕ) (u : View C R A) → get_elem? views j ≡ some u → (p : ℕ) → 0 < times p u.mine → 0 < length u.kin)
      → ((p : ℕ) → p < length whole → total (claims p) views ≡ 1) → AreAll v.mine (length whole)
  owns_all whole me w c bears once p l =
      let k = only_one (claims p) views id v me (λ j u n e. zero_of (times p u.mine) (λ some_own. bare_nil u.kin (λ d. bare me w c d j u n e) (bears j u e p some_own))) in
      let o = once p l in omega arith

  pub all_own : (whole : List (C × R)) → get_elem? views id ≡ some v → IsWhole v.kin → Cuts views → ((j : ℕ) (u : View C R A) → get_elem? views j ≡ some u → (p : ℕ) → 0 < times p u.mine → 0 < length u.kin)
      → ((p : ℕ) → p < length whole → total (claims p) views ≡ 1) → length v.seen ≤ length whole → AreAll v.mine (length v.seen)
  all_own whole me w c bears once short p l = owns_all whole me w c bears once p (omega arith)
