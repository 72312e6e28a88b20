-- What a port's roots and passes split off and take in. At a port of one thread there are no branches, and
-- nothing of this says anything
use Rattle.std.specs.Prelude.{◌≡◌, ◌≢◌, ℕ, ◌+◌, ◌<◌, List, [], ◌∷◌, ◌++◌}
use Rattle.std.specs.declared.result.Result.{Result}
use Rattle.std.specs.declared.result.Result.TheVariants.{Ok, Err}
use Rattle.stream_model.specs.declared.replies.Reply.{Reply}
use Rattle.turn_gate.specs.declared.view.Branch.{Branch}
use Rattle.turn_gate.specs.Branches.{branch, cut_off, offshoot}
use Rattle.turn_gate.specs.Histories.{times}
use Rattle.stream_registry.specs.declared.port.PortFail.{PortFail}
use Rattle.stream_registry.specs.declared.port.PortFail.TheVariants.{Busy, Worn, OutOfMemory}

-- the branches of the root at each place
abbrev pub Kin : Type 0
Kin = ℕ → List Branch

-- ONE PASS WAS SPLIT OFF from the root at this place, and none from another root
pub record SplitsOff (kin kin' : Kin) (place : ℕ) : Type 0 where
  pub here : kin' place ≡ cut_off (kin place)
  pub others : (q : ℕ) → q ≢ place → kin' q ≡ kin q

-- the root at this place took in a pass with these branches, and no other root did
pub record TakesIn (kin : Kin) (branches : List Branch) (kin' : Kin) (place : ℕ) : Type 0 where
  pub here : kin' place ≡ kin place ++ branches
  pub others : (q : ℕ) → q ≢ place → kin' q ≡ kin q

-- the root at each place took in the one of another port
pub record TakesAll (kin others kin' : Kin) : Type 0 where
  pub at_each : (q : ℕ) → kin' q ≡ kin q ++ others q

-- so many passes were split off
abbrev pub cut_times : ℕ → List Branch → List Branch
cut_times n [] = []
cut_times n (b ∷ bs) = branch b.depth (b.cut + n) ∷ bs

-- ONE PASS WAS SPLIT OFF from the root at each place, and these are the roots of another port
pub record Forks (kin kin' other : Kin) : Type 0 where
  pub split : (q : ℕ) → kin' q ≡ cut_off (kin q)
  pub shoots : (q : ℕ) → other q ≡ offshoot (kin q)

-- What a call splits off from a root: one pass, which the caller's takes in, and where the turn was held by
-- another, nothing
abbrev pub SplitBy : List Branch → List Branch → Result Reply PortFail → List Branch → List Branch → Type 0
SplitBy root pass (Ok r) root' pass' = (root' ≡ cut_off root) × (pass' ≡ pass ++ offshoot root)
SplitBy root pass (Err (Busy e)) root' pass' = (root' ≡ root) × (pass' ≡ pass)
SplitBy root pass (Err (Worn e)) root' pass' = (root' ≡ cut_off root) × (pass' ≡ pass ++ offshoot root)
SplitBy root pass (Err (OutOfMemory e)) root' pass' = (root' ≡ cut_off root) × (pass' ≡ pass ++ offshoot root)

-- NO PASS IS HIDDEN IN A CALL: what it splits off from the root at its place is that, and nothing from another root
pub record CallSplits (kin : Kin) (branches : List Branch) (result : Result Reply PortFail) (kin' : Kin) (branches' : List Branch) (place : ℕ) : Type 0 where
  pub here : SplitBy (kin place) branches result (kin' place) branches'
  pub others : (q : ℕ) → q ≢ place → kin' q ≡ kin q

-- the own calls of the root at each place
abbrev pub Owns : Type 0
Owns = ℕ → List ℕ

-- THE CALLS OF A PASS ARE NOT LOST: with the pass the root at this place took in its own calls, and no other
-- root took in any
pub record OwnsMore (owns : Owns) (mine : List ℕ) (owns' : Owns) (place : ℕ) : Type 0 where
  pub here : owns' place ≡ owns place ++ mine
  pub others : (q : ℕ) → q ≢ place → owns' q ≡ owns q

-- the root at each place took in the own calls of another port's
pub record OwnsBoth (owns others owns' : Owns) : Type 0 where
  pub at_each : (q : ℕ) → owns' q ≡ owns q ++ others q

-- each call of so many is among these numbers
abbrev pub HasAll : List ℕ → ℕ → Type 0
HasAll numbers count = (n : ℕ) → n < count → 0 < times n numbers
