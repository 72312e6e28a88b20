-- Workers that run
use Rattle.std.specs.Prelude.{◌≡◌, ℕ}
use Rattle.slab.specs.Slab.{slab_len}
use Rattle.relay_outside.specs.Doors.{DoorTold, IsDone}
use Rattle.relay_worker.specs.Running.{GoesAhead}
use Rattle.stream_registry.specs.Names.{PortRules}
use Rattle.stream_registry.specs.Told.{Histories}
use Rattle.http_worker.specs.Benches.{WorkerState}

-- what a worker keeps while it runs: its terms, and what its port has seen
pub record KeepsOn {P D Q L : Type 0} (fits : P → ℕ → Q → Type 0) (rules : P → PortRules) (root : P → Histories)
    (w w' : WorkerState P D Q L) : Type 0 where
  pub terms : w'.terms ≡ w.terms
  pub port : GoesAhead fits rules root w.bench.port w'.bench.port

-- no player lives, and the door needn't be asked again
pub record HasRun {P D Q L : Type 0} (doors : D → DoorTold) (w : WorkerState P D Q L) : Type 0 where
  pub none : slab_len w.bench.players ≡ 0
  pub done : IsDone (doors w.bench.door)
