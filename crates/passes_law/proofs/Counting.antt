-- Branches among others, of which one's change
use Rattle.std.proofs.Common.{◌≡◌, ◌≢◌, inl, inr, ℕ, zero, suc, ◌+◌, ◌<◌, List, [], ◌∷◌, ◌++◌, Option, Some, slice_get, slice_set, refl, sym, ap, ◌∙◌, subst, arith}
use Rattle.std.proofs.lemmas.Bool.{cases_eq}
use Rattle.turn_gate.specs.declared.view.Branch.{Branch}
use Rattle.turn_gate.specs.Branches.{Kindred, at_depth, cut_at}
use Rattle.turn_gate.proofs.Branching.{cut_both, depth_both}
use Rattle.passes_law.specs.Workers.{all_below, all_of}

-- the last two differ as the first two do
pub record InPlace (a b x y : List Branch) : Type 0 where
  pub depths : (d : ℕ) → at_depth d y + at_depth d a ≡ at_depth d x + at_depth d b
  pub cuts : (d : ℕ) → cut_at d y + cut_at d a ≡ cut_at d x + cut_at d b

pub in_self : (a b : List Branch) → InPlace a b a b
in_self a b = record { depths = λ d. omega arith; cuts = λ d. omega arith }

pub in_front : (a b x y c : List Branch) → InPlace a b x y → InPlace a b (c ++ x) (c ++ y)
in_front a b x y c i = record {
  depths = λ d. omega (arith, i.depths d, depth_both d c x, depth_both d c y);
  cuts = λ d. omega (arith, i.cuts d, cut_both d c x, cut_both d c y);
}

pub in_behind : (a b x y c : List Branch) → InPlace a b x y → InPlace a b (x ++ c) (y ++ c)
in_behind a b x y c i = record {
  depths = λ d. omega (arith, i.depths d, depth_both d x c, depth_both d y c);
  cuts = λ d. omega (arith, i.cuts d, cut_both d x c, cut_both d y c);
}

-- THE OTHERS STAY as they are
pub swap_in : (k k' a b x y : List Branch) → InPlace a b x y → Kindred (k ++ a) (k' ++ b) → Kindred (k ++ x) (k' ++ y)
swap_in k k' a b x y i h = record {
  first = omega (arith, h.first, i.depths 0, depth_both 0 k a, depth_both 0 k' b, depth_both 0 k x, depth_both 0 k' y);
  each = λ n. omega (
    arith,
    h.each n,
    i.depths (n + 1),
    i.cuts n,
    depth_both (n + 1) k a,
    depth_both (n + 1) k' b,
    depth_both (n + 1) k x,
    depth_both (n + 1) k' y,
    cut_both n k a,
    cut_both n k' b,
    cut_both n k x,
    cut_both n k' y,
  );
}

-- ---- at the keys

below_same : (f g : ℕ → List Branch) (n : ℕ) → ((j : ℕ) → j < n → g j ≡ f j) → all_below g n ≡ all_below f n
below_same f g zero e = refl
below_same f g (suc n) e =
    ap (λ (l : List Branch). l ++ g n) (below_same f g n (λ j l. e j (omega (arith, l)))) ∙ ap (λ (l : List Branch). all_below f n ++ l) (e n (omega arith))

pub below_none : (f : ℕ → List Branch) (n : ℕ) → ((j : ℕ) → f j ≡ []) → all_below f n ≡ []
below_none f zero e = refl
below_none f (suc n) e = ap (λ (l : List Branch). l ++ f n) (below_none f n e) ∙ e n

pub in_below : (f g : ℕ → List Branch) (key n : ℕ) → key < n → ((j : ℕ) → j ≢ key → g j ≡ f j) → InPlace (f key) (g key) (all_below f n) (all_below g n)
in_below f g key zero l e = absurd (omega (arith, l))
in_below f g key (suc n) l e = elim (cases_eq n key) [
  | inl i ↦
      let same : all_below g n ≡ all_below f n = below_same f g n (λ j m. e j (λ (d : j ≡ key). omega (arith, m, d, i))) in
      let last : InPlace (f n) (g n) (all_below f n ++ f n) (all_below g n ++ g n) =
      subst (λ (b : List Branch). InPlace (f n) (g n) (all_below f n ++ f n) (b ++ g n)) (sym same)
      (in_front (f n) (g n) (f n) (g n) (all_below f n) (in_self (f n) (g n))) in
      subst (λ (m : ℕ). InPlace (f m) (g m) (all_below f n ++ f n) (all_below g n ++ g n)) i last
  | inr d ↦
      let rest : InPlace (f key) (g key) (all_below f n) (all_below g n) = in_below f g key n (omega (arith, l, d)) e in
      subst (λ (b : List Branch). InPlace (f key) (g key) (all_below f n ++ f n) (all_below g n ++ b)) (sym (e n d))
      (in_behind (f key) (g key) (all_below f n) (all_below g n) (f n) rest)
]

-- ---- in a list

pub in_listed : {X : Type 0} (f : X → List Branch) (xs : List X) (i : ℕ) (x y : X) → slice_get xs i ≡ Some x
    → InPlace (f x) (f y) (all_of f xs) (all_of f (slice_set xs i y))
in_listed f [] i x y e = absurd (cc)
in_listed f (z ∷ zs) zero x y e =
    let same : z ≡ x = cc in
    subst (λ w. InPlace (f w) (f y) (f z ++ all_of f zs) (f y ++ all_of f zs)) same (in_behind (f z) (f y) (f z) (f y) (all_of f zs) (in_self (f z) (f y)))
in_listed f (z ∷ zs) (suc i) x y e = in_front (f x) (f y) (all_of f zs) (all_of f (slice_set zs i y)) (f z) (in_listed f zs i x y e)
