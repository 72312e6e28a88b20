-- NO PASS IS LOST: what a session or a recorder has of the branches of each place
use Rattle.std.specs.Prelude.{ℕ, if◌then◌else◌, nat_eq, List, [], ◌++◌, Option, Some, None}
use Rattle.turn_gate.specs.declared.view.Branch.{Branch}
use Rattle.turn_gate.specs.Branches.{Kindred}
use Rattle.stream_registry.specs.Splits.{Kin}

-- these branches at one place, and none elsewhere
abbrev pub only_at : ℕ → List Branch → ℕ → List Branch
only_at place pass q = if nat_eq place q then pass else []

-- the branches of one who calls, at each place: those of its pass there, if it has one
abbrev pub branches_by : {Q : Type 0} → (Q → List Branch) → Option (ℕ × Q) → ℕ → List Branch
branches_by branches None q = []
branches_by branches (Some p) q = only_at p.0 (branches p.1) q

-- the pass of a recorder, at its place
abbrev pub spot_of : {Q : Type 0} → ℕ → Option Q → Option (ℕ × Q)
spot_of place None = None
spot_of place (Some p) = Some (place, p)

-- NO PASS IS LOST AND NONE CAME FROM ELSEWHERE. At each place the root's passes and those of one who calls are
-- those from before, after splits and joins among them. So all that was split off from a root is its caller's,
-- or it was taken in again
pub record KeepsPasses {P Q : Type 0} (kin : P → Kin) (branches : Q → List Branch) (port : P) (spot : Option (ℕ × Q)) (port' : P)
    (spot' : Option (ℕ × Q)) : Type 0 where
  pub kindred : (q : ℕ) → Kindred (kin port q ++ branches_by branches spot q) (kin port' q ++ branches_by branches spot' q)
