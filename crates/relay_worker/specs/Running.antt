-- Workers that run
use Rattle.std.specs.Prelude.{◌≡◌, ◌<◌, ℕ, false, List, length, map, slice_index_or}
use Rattle.slab.specs.Slab.{slab_len}
use Rattle.relay_outside.specs.Doors.{DoorTold, IsDone}
use Rattle.stream_registry.specs.Names.{PortRules}
use Rattle.stream_registry.specs.Told.{Histories}
use Rattle.relay_session.specs.SeatState.{GoOn}
use Rattle.relay_worker.specs.Benches.{WorkerState}
use Rattle.relay_worker.specs.Filed.{form_of, state_of}
use Rattle.relay_worker.specs.declared.bench.Bench.{Bench}
use Rattle.relay_worker.specs.declared.recorder.RecordingForm.{RecordingForm}
use Rattle.relay_worker.specs.declared.recorder.Recorder.{Recorder}

-- whose recorder it is, of which stream, how it writes, and how many bytes its longest unit has
pub record Label : Type 0 where
  pub who : ℕ
  pub place : ℕ
  pub form : RecordingForm
  pub longest : ℕ

abbrev pub label_of : {P K Q : Type 0} → Recorder P K Q → Label
label_of r = record { who = (state_of r).seat.who; place = (state_of r).seat.place; form = form_of r; longest = (state_of r).tape.longest }

-- a port after calls of its own: nothing that was seen is forgotten, and passes that fitted still do
pub record GoesAhead {P Q : Type 0} (fits : P → ℕ → Q → Type 0) (rules : P → PortRules) (root : P → Histories)
    (port port' : P) : Type 0 where
  pub fixed : rules port' ≡ rules port
  pub roots : GoOn (root port) (root port')
  pub passes : (q : ℕ) (p : Q) → fits port q p → fits port' q p

-- what a worker keeps while it runs: its number and its limits, what its port has seen, and its recorders
pub record KeepsOn {P D K Q L : Type 0} (fits : P → ℕ → Q → Type 0) (rules : P → PortRules) (root : P → Histories)
    (w w' : WorkerState P D K Q L) : Type 0 where
  pub terms : w'.terms ≡ w.terms
  pub port : GoesAhead fits rules root w.bench.port w'.bench.port
  pub labels : map label_of w'.recorders ≡ map label_of w.recorders

-- nothing but the port has changed, and want of memory may have been found
pub record IsReadied {P D Q L : Type 0} (b b' : Bench P D Q L) : Type 0 where
  pub same : b' ≡ record b { port = b'.port; refused = b'.refused }
  pub refused : b'.refused ≡ false → b.refused ≡ false

-- no session lives, and the door needn't be asked again
pub record HasRun {P D K Q L : Type 0} (doors : D → DoorTold) (w : WorkerState P D K Q L) : Type 0 where
  pub none : slab_len w.bench.sessions ≡ 0
  pub done : IsDone (doors w.bench.door)

-- each element of a list, as a loop over it reads it
abbrev pub Each : {X : Type 0} → (X → Type 0) → List X → Type 0
Each {X} P xs = (i : ℕ) (x : X) → i < length xs → x ≡ slice_index_or xs i x → P x

-- each member of a list, by its place there
abbrev pub EachAt : {X : Type 0} → (ℕ → X → Type 0) → List X → Type 0
EachAt {X} P xs = (i : ℕ) (d : X) → i < length xs → P i (slice_index_or xs i d)
