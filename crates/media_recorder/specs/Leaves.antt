-- HOW A RECORDER LEAVES
use Rattle.std.specs.Prelude.{◌≡◌, ℕ, List, Option, Some, None}
use Rattle.std.specs.declared.result.Result.{Result}
use Rattle.std.specs.declared.result.Result.TheVariants.{Ok, Err}
use Rattle.stream_model.specs.declared.calls.Call.TheVariants as call
use Rattle.stream_model.specs.declared.replies.Reply.{Reply}
use Rattle.turn_gate.specs.Histories.{Begins}
use Rattle.stream_registry.specs.declared.port.PortFail.{PortFail}
use Rattle.stream_registry.specs.declared.port.PortFail.TheVariants as fail
use Rattle.stream_registry.specs.Names.{PortRules}
use Rattle.stream_registry.specs.Told.{Step, Histories}
use Rattle.media_recorder.specs.declared.turn.Leaving.{Leaving}
use Rattle.media_recorder.specs.declared.turn.Leaving.TheVariants.{Done, Busy, OutOfMemory}
use Rattle.media_recorder.specs.Calls.{Stand}
use Rattle.media_recorder.specs.Ports.{seen_of, mine_of}
use Rattle.media_recorder.specs.Seats.{SeatState}
use Rattle.media_recorder.specs.Turns.{RecorderState, AsksAt}

-- the same recorder comes back, after its call
abbrev pub Again : {Q : Type 0} → RecorderState Q → SeatState Q → RecorderState Q → Type 0
Again r s' r' = r' ≡ record { seat = s'; player = r.player; tape = r.tape; end = r.end }

abbrev pub IsBusy : {Q : Type 0} → RecorderState Q → SeatState Q → Leaving (RecorderState Q) → Type 0
IsBusy r s' Done = ⊥
IsBusy r s' (Busy r') = Again r s' r'
IsBusy r s' (OutOfMemory r') = ⊥

abbrev pub HasNoMemory : {Q : Type 0} → RecorderState Q → SeatState Q → Leaving (RecorderState Q) → Type 0
HasNoMemory r s' Done = ⊥
HasNoMemory r s' (Busy r') = ⊥
HasNoMemory r s' (OutOfMemory r') = Again r s' r'

-- the pass is detached: what it had seen, and so the caller's calls, stand in what the port's root has seen
pub record Parts {P Q : Type 0} (rules : P → PortRules) (root : P → Histories) (seen : Q → List Step) (mine : Q → List ℕ)
    (port port' : P) (s : SeatState Q) : Type 0 where
  pub seen_first : Begins (seen_of seen (root port s.place) s.pass) (root port' s.place)
  pub calls_stand : Stand ((rules port).limits s.place) s.who (root port' s.place) (mine_of mine s.pass) s.calls

module _ {P Q : Type 0} (rules : P → PortRules) (root : P → Histories) (busies : P → ℕ)
    (seen : Q → List Step) (mine : Q → List ℕ) (count : Q → ℕ) where
  abbrev pub IsGone : P → P → SeatState Q → Leaving (RecorderState Q) → Type 0
  IsGone port port' s Done = Parts rules root seen mine port port' s
  IsGone port port' s (Busy r') = ⊥
  IsGone port port' s (OutOfMemory r') = ⊥

  -- what the answer to its Leave makes of it. Where the history is full, no call is made any more
  abbrev pub LeaveEnds : Result Reply PortFail → P → P → RecorderState Q → SeatState Q → Leaving (RecorderState Q) → Type 0
  LeaveEnds (Ok x) port port' r s' leaving = IsGone port port' s' leaving
  LeaveEnds (Err (fail.Worn e)) port port' r s' leaving = IsGone port port' s' leaving
  LeaveEnds (Err (fail.Busy e)) port port' r s' leaving = IsBusy r s' leaving
  LeaveEnds (Err (fail.OutOfMemory e)) port port' r s' leaving = HasNoMemory r s' leaving

  -- its Leave
  pub record LeavesAt (player : ℕ) (port port' : P) (r : RecorderState Q) (leaving : Leaving (RecorderState Q)) : Type 0 where
    pub answer : Result Reply PortFail
    pub seat : SeatState Q
    pub asks : AsksAt rules root busies seen mine count port port' r.seat (call.Leave player) answer seat
    pub ends : LeaveEnds answer port port' r seat leaving

  -- its Leave where it has joined; a recorder that hasn't joined makes no call
  abbrev pub Goes : Option ℕ → P → P → RecorderState Q → Leaving (RecorderState Q) → Type 0
  Goes None port port' r leaving = IsGone port port' r.seat leaving
  Goes (Some player) port port' r leaving = LeavesAt player port port' r leaving
