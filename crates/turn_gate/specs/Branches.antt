-- Which passes were split off from which. A pass has its own branch first, and behind it those of the passes
-- that it took in
use Rattle.std.specs.Prelude.{◌≡◌, ℕ, ◌+◌, if◌then◌else◌, nat_eq, List, [], ◌∷◌}
use Rattle.turn_gate.specs.declared.view.Branch.{Branch}

abbrev pub branch : ℕ → ℕ → Branch
branch depth cut = record { depth = depth; cut = cut }

-- the first pass of a gate
abbrev pub trunk : List Branch
trunk = branch 0 0 ∷ []

-- one pass more was split off from it
abbrev pub cut_off : List Branch → List Branch
cut_off [] = []
cut_off (b ∷ bs) = branch b.depth (b.cut + 1) ∷ bs

-- the pass that was split off: one split deeper, and nothing was yet split off from it
abbrev pub offshoot : List Branch → List Branch
offshoot [] = []
offshoot (b ∷ bs) = branch (b.depth + 1) 0 ∷ []

-- how many branches have that depth
abbrev pub at_depth : ℕ → List Branch → ℕ
at_depth d [] = 0
at_depth d (b ∷ bs) = (if nat_eq b.depth d then 1 else 0) + at_depth d bs

-- how many passes were split off from those of that depth
abbrev pub cut_at : ℕ → List Branch → ℕ
cut_at d [] = 0
cut_at d (b ∷ bs) = (if nat_eq b.depth d then b.cut else 0) + cut_at d bs

-- THESE ARE ALL PASSES OF A GATE: the first one, all that were split off from it, all that were split off
-- from these, and so on. A pass with these branches has taken in every other, and nobody else can call
pub record IsWhole (kin : List Branch) : Type 0 where
  pub first : at_depth 0 kin ≡ 1
  pub each : (d : ℕ) → at_depth (d + 1) kin ≡ cut_at d kin

-- NO PASS IS MISSING, AND NONE CAME FROM ELSEWHERE: the second are the first, after passes were split off
-- from them and taken in by each other
pub record Kindred (kin kin' : List Branch) : Type 0 where
  pub first : at_depth 0 kin' ≡ at_depth 0 kin
  pub each : (d : ℕ) → at_depth (d + 1) kin' + cut_at d kin ≡ at_depth (d + 1) kin + cut_at d kin'
