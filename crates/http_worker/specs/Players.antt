-- What a worker does with one player
use Rattle.std.specs.Prelude.{◌≡◌, ◌≤◌, ℕ, Bool, true, false, [], List, Some, None}
use Rattle.relay_outside.specs.Heard.{Came}
use Rattle.relay_outside.specs.Told.{LinkCounts}
use Rattle.relay_outside.specs.declared.link.Said.{Said}
use Rattle.command_dialog.specs.declared.types.Ask.{Ask}
use Rattle.command_dialog.specs.declared.types.Grant.{Grant}
use Rattle.stream_model.specs.declared.calls.Entry.{Entry}
use Rattle.stream_registry.specs.Names.{PortRules}
use Rattle.stream_registry.specs.Splits.{Kin}
use Rattle.stream_registry.specs.Told.{Step, Histories}
use Rattle.turn_gate.specs.declared.view.Branch.{Branch}
use Rattle.relay_session.specs.Alone.{GrowsFrom, LeavesSplit}
use Rattle.relay_session.specs.Onward.{GoesOn}
use Rattle.relay_session.specs.Places.{AskedAlone}
use Rattle.relay_session.specs.SeatState.{GoOn, HasFit, IsElsewhere, LeaveFails, LeaveTries, LeavesFrom, StandsAt, known, left_at, place_of}
use Rattle.relay_session.specs.SeatVisits.{calls_of}
use Rattle.relay_session.specs.declared.seat_answers.Leaving.{Leaving}
use Rattle.http_flv.specs.Causes.{Did, MayBe}
use Rattle.http_flv.specs.PlayerState.{PlayerState, StandsFor, end_or_closed, ended_by, lasting_of, life_at}
use Rattle.http_flv.specs.Turns.{EndedBy}
use Rattle.http_flv.specs.declared.end.HttpEnd.{HttpEnd}
use Rattle.http_flv.specs.declared.end.HttpEnd.TheVariants as end
use Rattle.http_flv.specs.declared.stage.Stage.TheVariants.{Reading}
use Rattle.http_flv.specs.declared.turn.HttpTurn.{HttpTurn}
use Rattle.http_flv.specs.declared.turn.HttpTurn.TheVariants as turn
use Rattle.http_worker.specs.Benches.{who_of}
use Rattle.http_worker.specs.declared.bench.Seated.{Seated}
use Rattle.http_worker.specs.declared.bench.Terms.{Terms}

-- a turn that moved
abbrev pub is_moved : HttpTurn → Bool
is_moved turn.Moved = true
is_moved turn.Idle = false
is_moved (turn.Ended e) = false

-- an end for want of memory
abbrev pub lacks_memory : HttpEnd → Bool
lacks_memory end.PeerClosed = false
lacks_memory end.LinkFault = false
lacks_memory (end.Answered code) = false
lacks_memory end.Worn = false
lacks_memory end.OutOfMemory = true
lacks_memory end.Closed = false

-- a turn by which the player ended so
abbrev pub is_spent : HttpTurn → Bool
is_spent turn.Moved = false
is_spent turn.Idle = false
is_spent (turn.Ended e) = lacks_memory e

-- an end as the history of a stream was full
abbrev pub wears_out : HttpEnd → Bool
wears_out end.PeerClosed = false
wears_out end.LinkFault = false
wears_out (end.Answered code) = false
wears_out end.Worn = true
wears_out end.OutOfMemory = false
wears_out end.Closed = false

-- a turn by which the player ended so
abbrev pub is_worn : HttpTurn → Bool
is_worn turn.Moved = false
is_worn turn.Idle = false
is_worn (turn.Ended e) = wears_out e

-- a player of a new link: it has its name, and received nothing
pub record IsNewPlayer {Q : Type 0} (t : Terms) (had : ℕ) (s : PlayerState Q) : Type 0 where
  pub who : s.parts.who ≡ who_of had
  pub longest : s.parts.longest ≡ t.limits.max_message
  pub empty : (s.parts.x ≡ []) × (s.parts.later ≡ []) × (s.parts.calls ≡ []) × (s.parts.sent ≡ []) × (s.parts.out.left ≡ [])
  pub stage : (s.parts.stage ≡ Reading) × (s.parts.kept ≡ None)
  pub lives : s.ended ≡ None
  pub nowhere : (s.seat.spot ≡ None) × (s.seat.visits ≡ [])
  pub stands : (desk : Ask → Grant) → StandsFor desk s

module _ {P Q : Type 0} (fits : P → ℕ → Q → Type 0) (rules : P → PortRules) (root : P → Histories) (seen : Q → List Step)
    (count : Q → ℕ) (wants : Entry → Type 0) (busies : P → ℕ)
    (adds : List Step → List Step → List Step → Type 0) (kin : P → Kin) (branches : Q → List Branch) where
  -- ONE TURN of a player with its link, by the turn's own steps. One that has ended does nothing
  pub record TakesTurn {L : Type 0} (desk : Ask → Grant) (counts : L → LinkCounts) (hears : L → ℕ → Came → L → Type 0)
      (says : L → List ℕ → Said → L → Type 0) (port : P) (s : Seated P L Q) (answer : HttpTurn) (port' : P) (s' : Seated P L Q) : Type 0 where
    pub turn : EndedBy (AskedAlone fits rules root seen count wants busies adds kin branches) desk hears says
        s.player.ended (life_at s.player port) s.link answer (life_at s'.player port') s'.link
    pub ended : s'.player.ended ≡ ended_by answer
    pub lasts : lasting_of s'.player.parts ≡ lasting_of s.player.parts
    pub goes_on : GoesOn fits rules root seen busies port s.player.seat port' s'.player.seat
    pub did : Did answer (life_at s.player port) (life_at s'.player port')
    pub may_be : MayBe answer (busies port) (busies port') (counts s.link) (counts s'.link)
    pub stands : StandsFor desk s.player → StandsFor desk s'.player
    pub calls : s'.player.parts.calls ≡ calls_of s'.player.seat.visits

  -- ONE CLOSE of a player that has ended
  pub record Closes (port : P) (s : PlayerState Q) (answer : Leaving) (port' : P) (s' : PlayerState Q) : Type 0 where
    pub fit : HasFit (fits port') s'.seat.spot
    pub spot : place_of s'.seat.spot ≡ left_at answer (place_of s.seat.spot)
    pub leaves : LeavesFrom (place_of s.seat.spot) s.parts.who s.parts.fed s.parts.kept s.seat.active s.seat.visits
        answer s'.parts.kept s'.seat.active s'.seat.visits
    pub fails : LeaveFails (fits port') count wants (place_of s.seat.spot) s.parts.who s.parts.fed s.parts.kept (busies port) (busies port') answer
    pub tries : LeaveTries (busies port) (busies port') answer
    pub grows : GrowsFrom adds (rules port).limits (root port) (known root seen port s.seat) (place_of s.seat.spot) s.seat.visits s'.seat.visits
        (root port') (known root seen port' s'.seat)
    pub splits : LeavesSplit (place_of s.seat.spot) branches (kin port) s.seat.spot s.seat.visits s'.seat.visits (kin port') s'.seat.spot
    pub stands : StandsAt rules root seen port s.seat → StandsAt rules root seen port' s'.seat
    pub roots : GoOn (root port) (root port')
    pub fixed : rules port' ≡ rules port
    pub later : busies port ≤ busies port'
    pub others : (q : ℕ) → IsElsewhere s.seat.spot q → root port' q ≡ root port q
    pub passes : (q : ℕ) (p : Q) → fits port q p → fits port' q p
    pub ended : s'.ended ≡ Some (end_or_closed s.ended)
    pub parts : s'.parts ≡ record s.parts { kept = s'.parts.kept }
