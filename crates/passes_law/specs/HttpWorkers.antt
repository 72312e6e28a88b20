-- NO PASS IS LOST: what a worker of HTTP players has of the branches of each place
use Rattle.std.specs.Prelude.{◌≤◌, ℕ, List, ◌++◌, Option, Some, None}
use Rattle.slab.specs.Slab.{Slab, get}
use Rattle.turn_gate.specs.declared.view.Branch.{Branch}
use Rattle.turn_gate.specs.Branches.{Kindred}
use Rattle.stream_registry.specs.Splits.{Kin}
use Rattle.http_worker.specs.Benches.{WorkerState}
use Rattle.http_worker.specs.declared.bench.Seated.{Seated}
use Rattle.passes_law.specs.Passes.{branches_by}
use Rattle.passes_law.specs.Workers.{all_below}

-- the pass of the player at a key, if there is one
abbrev pub spot_at : {P L Q : Type 0} → Option (Seated P L Q) → Option (ℕ × Q)
spot_at None = None
spot_at (Some s) = s.player.seat.spot

abbrev pub of_players : {P L Q : Type 0} → (Q → List Branch) → Slab (Seated P L Q) → ℕ → ℕ → List Branch
of_players branches players n q = all_below (λ key. branches_by branches (spot_at (get players key)) q) n

module _ {P L Q : Type 0} (kin : P → Kin) (branches : Q → List Branch) where
  -- all branches at a place: the root's, and those of the players at the keys below this one
  abbrev pub held : P → Slab (Seated P L Q) → ℕ → ℕ → List Branch
  held port players n q = kin port q ++ of_players branches players n q

  -- all are those from before, after splits and joins among them
  pub record KeepsHeld (port : P) (players : Slab (Seated P L Q)) (port' : P) (players' : Slab (Seated P L Q)) : Type 0 where
    -- no player came or went from this key on
    pub last : ℕ
    pub kindred : (n q : ℕ) → last ≤ n → Kindred (held port players n q) (held port' players' n q)

-- NO PASS IS LOST AND NONE CAME FROM ELSEWHERE. At each place the passes of the root and of the players are those
-- from before, after splits and joins among them. So nobody else called
abbrev pub KeepsAll : {P D L Q : Type 0} → (P → Kin) → (Q → List Branch) → WorkerState P D Q L → WorkerState P D Q L → Type 0
KeepsAll kin branches w w' = KeepsHeld kin branches w.bench.port w.bench.players w'.bench.port w'.bench.players
