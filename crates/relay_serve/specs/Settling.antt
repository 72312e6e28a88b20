-- What the doors that were shut tell of their links
use Rattle.std.specs.Prelude.{◌≡◌, ℕ, Bool, false, List, ◌++◌, map, All, Option, Some}
use Rattle.std.specs.List.{AllZip}
use Rattle.relay_config.specs.declared.config.Config.{Config}
use Rattle.relay_outside.specs.Doors.{DoorTold, IsDone}
use Rattle.relay_outside.specs.Houses.{Asked, Shut, shut_door}
use Rattle.relay_outside.specs.Told.{LinkCounts, LinkTold}
use Rattle.config_desk.specs.Grants.{granted_from}
use Rattle.relay_worker.specs.Benches.{WorkerState}
use Rattle.relay_worker.specs.Books.{HasBooks, Settled}
use Rattle.relay_worker.specs.Running.{Label, label_of}
use Rattle.relay_worker.specs.declared.bench.Terms.{Terms}
use Rattle.relay_worker.specs.declared.recorder.Recorder.{Recorder}
use Rattle.stream_model.specs.declared.calls.Shape.{Shape}
use Rattle.stream_registry.specs.Gates.{told, told_at}
use Rattle.stream_registry.specs.Names.{PortRules}
use Rattle.stream_registry.specs.Pasts.{Attempt}
use Rattle.stream_registry.specs.SharedState.{Streams, shared_rules}
use Rattle.stream_registry.specs.Told.{Histories}
use Rattle.stream_registry.specs.declared.place_table.Site.{Site}
use Rattle.turn_gate.specs.Known.{PassKnown}
use Rattle.relay_serve.specs.Recordings.{recordings_of}
use Rattle.relay_serve.specs.Starts.{HasTally, IsFiledBy}

-- ---- a worker

-- a worker that was given the recorders of these recordings too, each with a tally
pub record Enlists {D K L : Type 0} (holds : K → Option (List ℕ)) (faults : K → ℕ) (recordings : List Label)
    (w w' : WorkerState Streams D K (PassKnown Site Attempt) L) : Type 0 where
  pub bench : w'.bench ≡ w.bench
  pub terms : w'.terms ≡ w.terms
  pub labels : map label_of w'.recorders ≡ map label_of w.recorders ++ recordings
  pub tallies : All (HasTally holds faults) w.recorders → All (HasTally holds faults) w'.recorders

-- A WORKER OF THE SERVER: it has that number, the configured limits and as many link places as are
-- configured, its books are kept, and its recorders are those of its recordings, each with a tally
pub record IsServing (config : Config) {D K L : Type 0} (links : L → Option LinkTold) (counts : L → LinkCounts) (doors : D → DoorTold)
    (holds : K → Option (List ℕ)) (faults : K → ℕ) (number : ℕ) (w : WorkerState Streams D K (PassKnown Site Attempt) L) : Type 0 where
  pub number_is : w.terms.number ≡ number
  pub limited : w.terms.limits ≡ config.limits
  pub links_are : w.terms.links ≡ config.links
  pub books : HasBooks shared_rules (λ s. told_at s.roots) (λ p. told p.seen) links counts doors (granted_from 0 config.places config.opens) w
  pub labels : map label_of w.recorders ≡ recordings_of config number
  pub tallies : All (HasTally holds faults) w.recorders

-- WHAT IS LEFT OF IT: its door, which is done, and its recorders
pub record IsLeft (config : Config) {K : Type 0} (holds : K → Option (List ℕ)) (faults : K → ℕ) (rules : PortRules) (number : ℕ)
    (door : DoorTold) (recorders : List (Recorder Streams K (PassKnown Site Attempt))) : Type 0 where
  pub done : IsDone door
  pub filed : All (IsFiledBy rules) recorders
  pub labels : map label_of recorders ≡ recordings_of config number
  pub tallies : All (HasTally holds faults) recorders

-- ---- its door

-- it was asked for so: at the configured address, and to close after as many links as are configured
abbrev pub asked_of : Config → ℕ → Asked
asked_of config worker = record { worker = worker; listen = config.listen; accept = config.accept }

abbrev pub AsksFor : Config → ℕ → Asked → Type 0
AsksFor config worker asked = asked ≡ asked_of config worker

module _ (config : Config) (streams : ℕ → Shape) (histories : Histories) (worn : Bool) where
  -- THE DOOR OF A WORKER at its end, where nothing was refused for want of memory, and no session found the
  -- history of its stream full unless `worn` says so: as many links are back as it gave, no more were out at
  -- a time than are configured, and each was sent a beginning of what its session owes, whose calls stand in
  -- these histories
  pub record IsBalanced (worker : ℕ) (door : DoorTold) : Type 0 where
    pub terms : Terms
    pub number : terms.number ≡ worker
    pub limited : terms.limits ≡ config.limits
    pub links_are : terms.links ≡ config.links
    pub settled : Settled (granted_from 0 config.places config.opens) terms streams histories door false worn

  -- what a house tells of such a door
  pub record IsShut (worker : ℕ) (shut : Shut) : Type 0 where
    pub door : DoorTold
    pub told : shut_door worker door ≡ Some shut
    pub balanced : IsBalanced worker door

-- ---- what a house tells

-- what a house tells of what it took back: what it told before, and then one more for each of these, in their order
pub record ToldMore {A X : Type 0} (R : A → X → Type 0) (items : List A) (before : Option (List X)) (now : List X) : Type 0 where
  pub first : List X
  pub before_is : before ≡ Some first
  pub more : List X
  pub now_is : now ≡ first ++ more
  pub each : AllZip R items more

-- where it tells them
abbrev pub TellsMore : {A X : Type 0} → (A → X → Type 0) → List A → Option (List X) → Option (List X) → Type 0
TellsMore {A} {X} R items before now = (list : List X) → now ≡ Some list → ToldMore R items before list
