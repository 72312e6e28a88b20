-- NO PASS IS LOST: what a worker has of the branches of each place
use Rattle.std.specs.Prelude.{◌≤◌, ℕ, zero, suc, List, [], ◌∷◌, ◌++◌, Option, Some, None}
use Rattle.slab.specs.Slab.{Slab, get}
use Rattle.turn_gate.specs.declared.view.Branch.{Branch}
use Rattle.turn_gate.specs.Branches.{Kindred}
use Rattle.stream_registry.specs.Splits.{Kin}
use Rattle.relay_worker.specs.Benches.{WorkerState}
use Rattle.relay_worker.specs.Filed.{state_of}
use Rattle.relay_worker.specs.declared.bench.Seated.{Seated}
use Rattle.relay_worker.specs.declared.recorder.Recorder.{Recorder}
use Rattle.passes_law.specs.Passes.{branches_by, spot_of}

-- the branches at the keys below this one
abbrev pub all_below : (ℕ → List Branch) → ℕ → List Branch
all_below f zero = []
all_below f (suc key) = all_below f key ++ f key

-- the branches of all in a list
abbrev pub all_of : {X : Type 0} → (X → List Branch) → List X → List Branch
all_of f [] = []
all_of f (x ∷ xs) = f x ++ all_of f xs

-- the pass of the session at a key, if there is one
abbrev pub spot_at : {P L Q : Type 0} → Option (Seated P L Q) → Option (ℕ × Q)
spot_at None = None
spot_at (Some s) = s.session.seat.spot

-- the branches of a recorder at a place
abbrev pub of_recorder : {P K Q : Type 0} → (Q → List Branch) → ℕ → Recorder P K Q → List Branch
of_recorder branches q r = branches_by branches (spot_of (state_of r).seat.place (state_of r).seat.pass) q

abbrev pub of_recorders : {P K Q : Type 0} → (Q → List Branch) → List (Recorder P K Q) → ℕ → List Branch
of_recorders branches rs q = all_of (of_recorder branches q) rs

abbrev pub of_sessions : {P L Q : Type 0} → (Q → List Branch) → Slab (Seated P L Q) → ℕ → ℕ → List Branch
of_sessions branches sessions n q = all_below (λ key. branches_by branches (spot_at (get sessions key)) q) n

module _ {P K L Q : Type 0} (kin : P → Kin) (branches : Q → List Branch) where
  -- all branches at a place: the root's, those of the sessions at the keys below this one, and those of the recorders
  abbrev pub held : P → Slab (Seated P L Q) → List (Recorder P K Q) → ℕ → ℕ → List Branch
  held port sessions recorders n q = kin port q ++ (of_sessions branches sessions n q ++ of_recorders branches recorders q)

  -- all are those from before, after splits and joins among them
  pub record KeepsHeld (port : P) (sessions : Slab (Seated P L Q)) (recorders : List (Recorder P K Q))
      (port' : P) (sessions' : Slab (Seated P L Q)) (recorders' : List (Recorder P K Q)) : Type 0 where
    -- no session came or went from this key on
    pub last : ℕ
    pub kindred : (n q : ℕ) → last ≤ n → Kindred (held port sessions recorders n q) (held port' sessions' recorders' n q)

-- NO PASS IS LOST AND NONE CAME FROM ELSEWHERE. At each place the passes of the root, of the sessions and of
-- the recorders are those from before, after splits and joins among them. So nobody else called
abbrev pub KeepsAll : {P D K L Q : Type 0} → (P → Kin) → (Q → List Branch) → WorkerState P D K Q L → WorkerState P D K Q L → Type 0
KeepsAll kin branches w w' = KeepsHeld kin branches w.bench.port w.bench.sessions w.recorders w'.bench.port w'.bench.sessions w'.recorders
