-- What contracts see of a gate and of a pass, and what a call may answer
use Rattle.std.specs.Prelude.{◌≡◌, ℕ, ◌+◌, ◌^◌, ◌<◌, ◌≤◌, Bool, false, List, [], ◌∷◌, ◌++◌, length, Result, Ok, Err}
use Rattle.atomic_table.specs.Seated.{TableId}
use Rattle.turn_gate.specs.declared.gate.CallFail.{CallFail}
use Rattle.turn_gate.specs.declared.gate.CallFail.TheVariants.{Busy, Worn}
use Rattle.turn_gate.specs.declared.view.Branch.{Branch}
use Rattle.turn_gate.specs.Branches.{cut_off, offshoot}
use Rattle.turn_gate.specs.Histories.{Begins, AreOwn}

-- which gate it is
pub record GateId (A : Type 0) : Type 0 where
  pub table : TableId
  -- what never changes of its machine
  pub about : A

-- what a pass knows
pub record PassKnown (A E : Type 0) : Type 0 where
  -- its gate
  pub gate : GateId A
  -- whether it holds the turn
  pub holds : Bool
  -- how often its swap of the turn word found the turn held by another pass
  pub met : ℕ
  -- its place among the passes: how many splits lie between the first pass and it, and how many passes were
  -- split off from it; then the same of each pass that it took in
  pub kin : List Branch
  -- the calls that it has seen, with their replies: a beginning of the gate's history
  pub seen : List E
  -- the places of its own calls in it
  pub mine : List ℕ

module _ {A E : Type 0} where
  -- a pass that has made no call
  abbrev pub newcomer : GateId A → List Branch → List E → PassKnown A E
  newcomer gate kin seen = record { gate = gate; holds = false; met = 0; kin = kin; seen = seen; mine = [] }

  -- nothing has changed but its place among the passes
  abbrev pub with_kin : PassKnown A E → List Branch → PassKnown A E
  with_kin v kin = record { gate = v.gate; holds = v.holds; met = v.met; kin = kin; seen = v.seen; mine = v.mine }

  -- the turn was held by another pass
  abbrev pub met_once : PassKnown A E → PassKnown A E
  met_once v = record { gate = v.gate; holds = false; met = v.met + 1; kin = v.kin; seen = v.seen; mine = v.mine }

  -- the pass has its gate as before, has met no other, and doesn't hold the turn
  pub record Same (v w : PassKnown A E) : Type 0 where
    pub gate : w.gate ≡ v.gate
    pub idle : w.holds ≡ false
    pub met : w.met ≡ v.met

  -- The call was answered. `e` is the call with its reply, `v` the pass before and `w` the pass after
  pub record Replied (lawful : List E → Type 0) (v : PassKnown A E) (e : E) (w : PassKnown A E) : Type 0 where
    -- the calls before, of which there are fewer than 2^62
    pub before : List E
    pub begins : Begins v.seen before
    pub lawful_before : lawful before
    pub room : length before < 2 ^ 62
    -- the pass has then seen these and its own call
    pub seen : w.seen ≡ before ++ e ∷ []
    pub lawful_seen : lawful w.seen
    -- this place, and no other, has come to its own calls, and no place stands twice there
    pub mine : w.mine ≡ v.mine ++ length before ∷ []
    pub own : AreOwn w.mine (length w.seen)
    pub same : Same v w

  -- the calls before begin also with these, which a root had seen
  pub record RepliedAfter (lawful : List E → Type 0) (root : List E) (v : PassKnown A E) (e : E) (w : PassKnown A E) : Type 0 where
    pub replied : Replied lawful v e w
    pub root_begins : Begins root replied.before

  -- the history is full, and the pass has seen all of it
  pub record IsWorn (lawful : List E → Type 0) (v w : PassKnown A E) : Type 0 where
    pub begins : Begins v.seen w.seen
    pub full : length w.seen ≡ 2 ^ 62
    pub lawful_seen : lawful w.seen
    pub mine : w.mine ≡ v.mine
    pub same : Same v w

module _ {C R : Type 0} where
  -- WHAT A CALL SPLITS OFF FROM A ROOT: one pass, which the caller's takes in, once the turn was had. Where
  -- it wasn't had, nothing
  abbrev pub SplitOnce : List Branch → List Branch → Result R (CallFail C) → List Branch → List Branch → Type 0
  SplitOnce root kin (Ok r) root' kin' = (root' ≡ cut_off root) × (kin' ≡ kin ++ offshoot root)
  SplitOnce root kin (Err (Busy c)) root' kin' = (root' ≡ root) × (kin' ≡ kin)
  SplitOnce root kin (Err (Worn c)) root' kin' = (root' ≡ cut_off root) × (kin' ≡ kin ++ offshoot root)

module _ {A C R : Type 0} where
  -- the call comes back
  abbrev pub Failed : (List (C × R) → Type 0) → PassKnown A (C × R) → C → CallFail C → PassKnown A (C × R) → Type 0
  Failed lawful v call (Busy c) w = (c ≡ call) × (w ≡ met_once v)
  Failed lawful v call (Worn c) w = (c ≡ call) × IsWorn lawful v w

  -- What is answered where the turn was found free: Ok exactly where the history has fewer than 2^62 calls
  -- then, and Worn exactly where it has 2^62
  pub record Settled (v : PassKnown A (C × R)) (call : C) (result : Result R (CallFail C)) (w : PassKnown A (C × R)) : Type 0 where
    pub before : List (C × R)
    pub begins : Begins v.seen before
    pub bounded : length before ≤ 2 ^ 62
    pub room : length before < 2 ^ 62 → (r : R) × (result ≡ Ok r) × (w.seen ≡ before ++ (call, r) ∷ [])
    pub full : length before ≡ 2 ^ 62 → (result ≡ Err (Worn call)) × (w.seen ≡ before)
