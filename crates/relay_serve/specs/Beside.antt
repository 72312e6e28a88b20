-- Workers that run at the same time
use Rattle.std.specs.Prelude.{◌≡◌, ◌<◌, ℕ, List, length, slice_index_or, All, Option, Some, None}
use Rattle.command_dialog.specs.declared.types.Ask.{Ask}
use Rattle.command_dialog.specs.declared.types.Grant.{Grant}
use Rattle.http_worker.specs.Benches.{WorkerState as HttpState}
use Rattle.http_worker.specs.Books.{HasBooks as HasHttpBooks}
use Rattle.http_worker.specs.Running.{HasRun as HasRunHttp, KeepsOn as KeepsOnHttp}
use Rattle.relay_outside.specs.Doors.{DoorTold}
use Rattle.relay_outside.specs.Told.{LinkCounts, LinkTold}
use Rattle.relay_worker.specs.Benches.{WorkerState}
use Rattle.relay_worker.specs.Books.{HasBooks}
use Rattle.relay_worker.specs.Filed.{Tallies}
use Rattle.relay_worker.specs.Running.{HasRun, KeepsOn}
use Rattle.stream_registry.specs.Names.{PortRules}
use Rattle.stream_registry.specs.Told.{Histories, Step}

-- a worker of HTTP players has run: none of its players lives, its door is done, and its books are kept
pub record HttpRun {P D Q L : Type 0} (fits : P → ℕ → Q → Type 0) (rules : P → PortRules) (root : P → Histories) (seen : Q → List Step)
    (told : L → Option LinkTold) (counts : L → LinkCounts) (doors : D → DoorTold) (desk : Ask → Grant)
    (w w' : HttpState P D Q L) : Type 0 where
  pub keeps : KeepsOnHttp fits rules root w w'
  pub run : HasRunHttp doors w'
  pub books : HasHttpBooks rules root seen told counts doors desk w → HasHttpBooks rules root seen told counts doors desk w'

-- the same, where there is one
abbrev pub RunsIf : {P D Q L : Type 0} → (P → ℕ → Q → Type 0) → (P → PortRules) → (P → Histories) → (Q → List Step) → (L → Option LinkTold)
    → (L → LinkCounts) → (D → DoorTold) → (Ask → Grant) → Option (HttpState P D Q L) → Option (HttpState P D Q L) → Type 0
RunsIf fits rules root seen told counts doors desk None None = Unit {0}
RunsIf fits rules root seen told counts doors desk (Some w) (Some w') = HttpRun fits rules root seen told counts doors desk w w'
RunsIf fits rules root seen told counts doors desk None (Some w) = ⊥
RunsIf fits rules root seen told counts doors desk (Some w) None = ⊥

-- ALL WORKERS OF SESSIONS HAVE RUN: they are as many, no session of theirs lives, their doors are done, and
-- each has its books and the tallies of its recorders kept
pub record SessionsRun {P D K Q L : Type 0} (fits : P → ℕ → Q → Type 0) (rules : P → PortRules) (root : P → Histories) (seen : Q → List Step)
    (told : L → Option LinkTold) (counts : L → LinkCounts) (doors : D → DoorTold) (desk : Ask → Grant)
    (count : Q → ℕ) (holds : K → Option (List ℕ)) (faults : K → ℕ) (ws ws' : List (WorkerState P D K Q L)) : Type 0 where
  pub each : length ws' ≡ length ws
  pub run : All (HasRun doors) ws'
  pub keeps : (i : ℕ) (d : WorkerState P D K Q L) → i < length ws → KeepsOn fits rules root (slice_index_or ws i d) (slice_index_or ws' i d)
  pub tallies : (i : ℕ) (d : WorkerState P D K Q L) → i < length ws → All (Tallies count holds faults) (slice_index_or ws i d).recorders
      → All (Tallies count holds faults) (slice_index_or ws' i d).recorders
  pub books : (i : ℕ) (d : WorkerState P D K Q L) → i < length ws → HasBooks rules root seen told counts doors desk (slice_index_or ws i d)
      → HasBooks rules root seen told counts doors desk (slice_index_or ws' i d)
