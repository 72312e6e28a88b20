-- A RECORDER'S OWN CALLS, AND NO OTHER: what they add to the history of its place, and which passes are split off
use Rattle.std.specs.Prelude.{◌≡◌, ◌≤◌, ◌⊎◌, ℕ, ◌+◌, List, [], length, Option, Some, None, IfOk}
use Rattle.std.specs.declared.result.Result.{Result}
use Rattle.stream_model.specs.declared.calls.Call.{Call}
use Rattle.stream_model.specs.declared.calls.Shape.{Shape}
use Rattle.stream_model.specs.declared.replies.Reply.{Reply}
use Rattle.turn_gate.specs.declared.view.Branch.{Branch}
use Rattle.turn_gate.specs.Branches.{offshoot}
use Rattle.stream_registry.specs.declared.port.PortFail.{PortFail}
use Rattle.stream_registry.specs.Placed.{answered}
use Rattle.stream_registry.specs.Splits.{Kin, SplitsOff, TakesIn, CallSplits}
use Rattle.stream_registry.specs.Names.{PortRules}
use Rattle.stream_registry.specs.Told.{Step, Histories, Keeps}
use Rattle.media_recorder.specs.declared.turn.Leaving.{Leaving}
use Rattle.media_recorder.specs.declared.turn.Leaving.TheVariants.{Done, Busy, OutOfMemory}
use Rattle.media_recorder.specs.Seats.{SeatState, calls_after, entry_of}
use Rattle.media_recorder.specs.Turns.{RecorderState}

-- the branches of a pass, if there is one
abbrev pub branches_of : {Q : Type 0} → (Q → List Branch) → Option Q → List Branch
branches_of branches None = []
branches_of branches (Some p) = branches p

-- a pass with these branches was there, or it is split off
abbrev pub Enters : {Q : Type 0} → (Q → List Branch) → Kin → ℕ → Option Q → List Branch → Kin → Type 0
Enters branches kin place None pass kin' = (pass ≡ offshoot (kin place)) × SplitsOff kin kin' place
Enters branches kin place (Some p) pass kin' = (pass ≡ branches p) × (kin' ≡ kin)

-- behind all that the root had seen a call was answered, and what is then seen keeps the rules
pub record Reaches (limits : Shape) (root seen : List Step) : Type 0 where
  pub long : length root + 1 ≤ length seen
  pub lawful : Keeps limits seen

abbrev pub ReachesIf : {Q : Type 0} → (Q → List Step) → Shape → List Step → Option Q → Type 0
ReachesIf seen limits root None = ⊥
ReachesIf seen limits root (Some p) = Reaches limits root (seen p)

module _ {P Q : Type 0} (rules : P → PortRules) (adds : List Step → List Step → List Step → Type 0) (root : P → Histories) (seen : Q → List Step)
    (kin : P → Kin) (branches : Q → List Branch) where
  -- ONE CALL, AND NO OTHER: where it was answered it alone came to the history of its place, by the rules,
  -- and no pass was split off but the caller's and the one that the call took in
  pub record AsksAlone (port port' : P) (s : SeatState Q) (call : Call) (answer : Result Reply PortFail) (s' : SeatState Q) : Type 0 where
    pub calls : s'.calls ≡ calls_after s.calls (entry_of s.who call) answer
    pub history : adds (root port s.place) (answered (entry_of s.who call) answer) (root port' s.place)
    pub laws : IfOk answer (λ _. ReachesIf seen ((rules port).limits s.place) (root port s.place) s'.pass)
    pub between : Kin
    pub pass : List Branch
    pub enters : Enters branches (kin port) s.place s.pass pass between
    pub splits : CallSplits between pass answer (kin port') (branches_of branches s'.pass) s.place

  -- ONE CALL AT MOST
  abbrev pub OneAtMost : P → P → SeatState Q → SeatState Q → Type 0
  OneAtMost port port' s s' = ((port' ≡ port) × (s' ≡ s)) ⊎ ((call : Call) × ((answer : Result Reply PortFail) × AsksAlone port port' s call answer s'))

  -- the pass is given back, if there is one
  abbrev pub GivesBack : P → P → ℕ → Option Q → Type 0
  GivesBack port port' place None = port' ≡ port
  GivesBack port port' place (Some p) = adds (root port place) [] (root port' place) × TakesIn (kin port) (branches p) (kin port') place

  -- it is gone and has given back its pass, or it is where it was
  abbrev pub GoneFrom : P → P → SeatState Q → Leaving (RecorderState Q) → Type 0
  GoneFrom port port' s Done = GivesBack port port' s.place s.pass
  GoneFrom port port' s (Busy r) = (port' ≡ port) × (r.seat ≡ s)
  GoneFrom port port' s (OutOfMemory r) = (port' ≡ port) × (r.seat ≡ s)

  -- IT LEAVES with one call at most
  pub record LeavesAlone (port port' : P) (s : SeatState Q) (leaving : Leaving (RecorderState Q)) : Type 0 where
    pub between : P
    pub seat : SeatState Q
    pub asks : OneAtMost port between s seat
    pub gone : GoneFrom between port' seat leaving
