-- How branches count, where one is cut off or two are put together
use Rattle.std.proofs.Common.{◌≡◌, ℕ, ◌+◌, ◌<◌, List, [], ◌∷◌, ◌++◌, length, refl, ap, arith, cond, eq-eqb, ne_eqb}
use mathlib.Core.Logic.{dite}
use native.Mathlib.Decide.{ℕ_discrete}
use Rattle.turn_gate.specs.declared.view.Branch.{Branch}
use Rattle.turn_gate.specs.Branches.{trunk, cut_off, offshoot, at_depth, cut_at}

pub depth_cut : (d : ℕ) (bs : List Branch) → at_depth d (cut_off bs) ≡ at_depth d bs
depth_cut d [] = refl
depth_cut d (b ∷ bs) = refl

pub shoot_first : (bs : List Branch) → at_depth 0 (offshoot bs) ≡ 0
shoot_first [] = refl
shoot_first (b ∷ bs) = ap (λ x. cond x 1 0 + 0) (ne_eqb (b.depth + 1) 0 (λ e. absurd (omega arith)))

pub shoot_uncut : (d : ℕ) (bs : List Branch) → cut_at d (offshoot bs) ≡ 0
shoot_uncut d [] = refl
shoot_uncut d (b ∷ bs) = dite (ℕ_discrete (b.depth + 1) d) (λ e. ap (λ x. cond x 0 0 + 0) (eq-eqb (b.depth + 1) d e)) (λ n. ap (λ x. cond x 0 0 + 0) (ne_eqb (b.depth + 1) d n))

pub trunk_deep : (d : ℕ) → at_depth (d + 1) trunk ≡ 0
trunk_deep d = ap (λ x. cond x 1 0 + 0) (ne_eqb 0 (d + 1) (λ e. absurd (omega arith)))

pub trunk_uncut : (d : ℕ) → cut_at d trunk ≡ 0
trunk_uncut d = dite (ℕ_discrete 0 d) (λ e. ap (λ x. cond x 0 0 + 0) (eq-eqb 0 d e)) (λ n. ap (λ x. cond x 0 0 + 0) (ne_eqb 0 d n))

-- what is cut off is one branch more of the next depth
pub cut_counted : (d : ℕ) (bs : List Branch) → cut_at d (cut_off bs) ≡ cut_at d bs + at_depth (d + 1) (offshoot bs)
cut_counted d [] = refl
cut_counted d (b ∷ bs) = dite (ℕ_discrete b.depth d)
    (λ (e : b.depth ≡ d).
    let x = ap (λ t. cond t (b.cut + 1) 0 + cut_at d bs) (eq-eqb b.depth d e) in let y = ap (λ t. cond t b.cut 0 + cut_at d bs) (eq-eqb b.depth d e) in
    let z = ap (λ t. cond t 1 0 + 0) (eq-eqb (b.depth + 1) (d + 1) (ap (λ n. n + 1) e)) in omega arith)
    (λ n.
    let x = ap (λ t. cond t (b.cut + 1) 0 + cut_at d bs) (ne_eqb b.depth d n) in let y = ap (λ t. cond t b.cut 0 + cut_at d bs) (ne_eqb b.depth d n) in
    let z = ap (λ t. cond t 1 0 + 0) (ne_eqb (b.depth + 1) (d + 1) (λ e. n (omega arith))) in omega arith)

pub depth_both : (d : ℕ) (bs cs : List Branch) → at_depth d (bs ++ cs) ≡ at_depth d bs + at_depth d cs
depth_both d [] cs = omega arith
depth_both d (b ∷ bs) cs = omega (arith, depth_both d bs cs)

pub cut_both : (d : ℕ) (bs cs : List Branch) → cut_at d (bs ++ cs) ≡ cut_at d bs + cut_at d cs
cut_both d [] cs = omega arith
cut_both d (b ∷ bs) cs = omega (arith, cut_both d bs cs)

-- a branch stays in hand
pub cut_grows : (bs : List Branch) → 0 < length bs → 0 < length (cut_off bs)
cut_grows [] l = l
cut_grows (b ∷ bs) l = omega arith

pub length_more : (bs cs : List Branch) → 0 < length bs → 0 < length (bs ++ cs)
length_more [] cs l = absurd (omega arith)
length_more (b ∷ bs) cs l = omega arith
