-- A RECORDER'S TURN
use Rattle.std.specs.Prelude.{◌≡◌, ◌≤◌, ℕ, Bool, true, false, List, [], ◌∷◌, ◌++◌, take, drop, Option, Some, None}
use Rattle.std.specs.declared.result.Result.{Result}
use Rattle.std.specs.declared.result.Result.TheVariants.{Ok, Err}
use Rattle.av_unit.specs.declared.head.Want.{Want}
use Rattle.av_unit.specs.declared.item.Item.{Item}
use Rattle.relay_outside.specs.declared.sink.Put.{Put}
use Rattle.relay_outside.specs.declared.sink.Put.TheVariants as put
use Rattle.stream_model.specs.declared.calls.Call.{Call}
use Rattle.stream_model.specs.declared.calls.Call.TheVariants as call
use Rattle.stream_model.specs.declared.replies.Reply.{Reply}
use Rattle.stream_model.specs.declared.replies.Reply.TheVariants as reply
use Rattle.stream_model.specs.Held.{body_of}
use Rattle.stream_registry.specs.declared.port.PortFail.{PortFail}
use Rattle.stream_registry.specs.declared.port.PortFail.TheVariants as fail
use Rattle.stream_registry.specs.Names.{PortRules}
use Rattle.stream_registry.specs.Told.{Step, Histories}
use Rattle.media_recorder.specs.declared.turn.RecEnd.{RecEnd}
use Rattle.media_recorder.specs.declared.turn.RecEnd.TheVariants as end
use Rattle.media_recorder.specs.declared.turn.RecTurn.{RecTurn}
use Rattle.media_recorder.specs.declared.turn.RecTurn.TheVariants.{Moved, Idle, Busy, Ended}
use Rattle.media_recorder.specs.Seats.{SeatState, Asks}
use Rattle.media_recorder.specs.Tapes.{TapeState}

pub record RecorderState (Q : Type 0) : Type 0 where
  pub seat : SeatState Q
  -- the player's place that it joined at
  pub player : Option ℕ
  pub tape : TapeState
  pub end : Option RecEnd

-- the Take of a recorder wants sound and pictures
abbrev pub all : Want
all = record { audio = true; video = true }

abbrev pub is_empty : List ℕ → Bool
is_empty [] = true
is_empty (b ∷ bs) = false

-- the turn ends the recorder
abbrev pub Stops : RecEnd → RecTurn → Option RecEnd → Type 0
Stops e turn end' = (turn ≡ Ended e) × (end' ≡ Some e)

-- the recorder goes on
abbrev pub GoesOn : RecTurn → RecTurn → Option RecEnd → Type 0
GoesOn answer turn end' = (turn ≡ answer) × (end' ≡ None)

-- the sink took so many bytes from the front
abbrev pub sent_more : TapeState → ℕ → TapeState
sent_more t n = record t { sent = t.sent ++ take n t.pending; pending = drop n t.pending }

-- what a put's answer makes of the recorder
abbrev pub PutEnds : Put → TapeState → RecTurn → TapeState → Option RecEnd → Type 0
PutEnds (put.Took n) t turn t' end' = GoesOn Moved turn end' × (t' ≡ sent_more t n)
PutEnds put.Failed t turn t' end' = Stops end.SinkFault turn end' × (t' ≡ t)
PutEnds put.OutOfMemory t turn t' end' = Stops end.OutOfMemory turn end' × (t' ≡ t)

-- a call that wasn't made
abbrev pub Unmade : PortFail → RecTurn → Option RecEnd → Type 0
Unmade (fail.Busy e) turn end' = GoesOn Busy turn end'
Unmade (fail.Worn e) turn end' = Stops end.Worn turn end'
Unmade (fail.OutOfMemory e) turn end' = Stops end.OutOfMemory turn end'

abbrev pub Joins : Reply → RecTurn → Option ℕ → Option RecEnd → Type 0
Joins (reply.Joined place from) turn player' end' = GoesOn Moved turn end' × (player' ≡ Some place)
Joins reply.Full turn player' end' = Stops end.Full turn end' × (player' ≡ None)
Joins _ turn player' end' = GoesOn Moved turn end' × (player' ≡ None)

-- what the answer to its Join makes of it
abbrev pub JoinEnds : Result Reply PortFail → RecTurn → Option ℕ → Option RecEnd → Type 0
JoinEnds (Ok r) turn player' end' = Joins r turn player' end'
JoinEnds (Err e) turn player' end' = Unmade e turn end' × (player' ≡ None)

-- the item is written behind all before it
pub record Writes (t : TapeState) (item : Item) (t' : TapeState) : Type 0 where
  -- a longer unit is never written
  pub fits : body_of item ≤ t.longest
  pub items : t'.items ≡ t.items ++ item ∷ []
  pub sent : t'.sent ≡ t.sent
  pub longest : t'.longest ≡ t.longest

-- nothing is written
pub record Unwritten (t t' : TapeState) : Type 0 where
  pub items : t'.items ≡ t.items
  pub sent : t'.sent ≡ t.sent
  pub pending : t'.pending ≡ t.pending
  pub longest : t'.longest ≡ t.longest

-- the item was written, or there was no memory for it
abbrev pub Writing : TapeState → Item → RecTurn → TapeState → Option RecEnd → Type 0
Writing t item Moved t' end' = (end' ≡ None) × Writes t item t'
Writing t item (Ended e) t' end' = (e ≡ end.OutOfMemory) × (end' ≡ Some end.OutOfMemory) × Unwritten t t'
Writing t item Idle t' end' = ⊥
Writing t item Busy t' end' = ⊥

abbrev pub Takes : Reply → TapeState → RecTurn → TapeState → Option RecEnd → Type 0
Takes (reply.Sent from n item) t turn t' end' = Writing t item turn t' end'
Takes (reply.NotYet last) t turn t' end' = GoesOn Idle turn end' × (t' ≡ t)
Takes _ t turn t' end' = GoesOn Moved turn end' × (t' ≡ t)

-- what the answer to its Take makes of it
abbrev pub TakeEnds : Result Reply PortFail → TapeState → RecTurn → TapeState → Option RecEnd → Type 0
TakeEnds (Ok r) t turn t' end' = Takes r t turn t' end'
TakeEnds (Err e) t turn t' end' = Unmade e turn end' × (t' ≡ t)

-- one put is made, of all that is pending
pub record Puts {P Q K : Type 0} (takes : K → List ℕ → Put → K → Type 0) (port port' : P) (sink sink' : K)
    (r : RecorderState Q) (turn : RecTurn) (r' : RecorderState Q) : Type 0 where
  pub answer : Put
  pub step : takes sink r.tape.pending answer sink'
  pub ends : PutEnds answer r.tape turn r'.tape r'.end
  pub port_is : port' ≡ port
  pub seat_is : r'.seat ≡ r.seat
  pub player_is : r'.player ≡ r.player

module _ {P Q : Type 0} (rules : P → PortRules) (root : P → Histories) (busies : P → ℕ)
    (seen : Q → List Step) (mine : Q → List ℕ) (count : Q → ℕ) where
  -- one call is made at its place
  abbrev pub AsksAt : P → P → SeatState Q → Call → Result Reply PortFail → SeatState Q → Type 0
  AsksAt port port' s call answer s' = Asks seen mine count ((rules port).limits s.place) (root port s.place) (busies port) (busies port') s call answer s'

  -- its Join
  pub record JoinsAt (port port' : P) (r : RecorderState Q) (turn : RecTurn) (r' : RecorderState Q) : Type 0 where
    pub answer : Result Reply PortFail
    pub asks : AsksAt port port' r.seat call.Join answer r'.seat
    pub ends : JoinEnds answer turn r'.player r'.end
    pub tape_is : r'.tape ≡ r.tape

  -- its Take
  pub record TakesAt (player : ℕ) (port port' : P) (r : RecorderState Q) (turn : RecTurn) (r' : RecorderState Q) : Type 0 where
    pub answer : Result Reply PortFail
    pub asks : AsksAt port port' r.seat (call.Take player all) answer r'.seat
    pub ends : TakeEnds answer r.tape turn r'.tape r'.end
    pub player_is : r'.player ≡ r.player

  -- its Join where it hasn't joined, else its Take
  abbrev pub Calls : Option ℕ → P → P → RecorderState Q → RecTurn → RecorderState Q → Type 0
  Calls None port port' r turn r' = JoinsAt port port' r turn r'
  Calls (Some player) port port' r turn r' = TakesAt player port port' r turn r'

  module _ {K : Type 0} (takes : K → List ℕ → Put → K → Type 0) where
    -- a put where bytes are pending, else a call
    abbrev pub Works : Bool → P → P → K → K → RecorderState Q → RecTurn → RecorderState Q → Type 0
    Works false port port' sink sink' r turn r' = Puts takes port port' sink sink' r turn r'
    Works true port port' sink sink' r turn r' = Calls r.player port port' r turn r' × (sink' ≡ sink)

    -- a recorder that has ended answers the same again, and does nothing
    abbrev pub Turns : Option RecEnd → P → P → K → K → RecorderState Q → RecTurn → RecorderState Q → Type 0
    Turns (Some e) port port' sink sink' r turn r' = (turn ≡ Ended e) × (r' ≡ r) × (port' ≡ port) × (sink' ≡ sink)
    Turns None port port' sink sink' r turn r' = Works (is_empty r.tape.pending) port port' sink sink' r turn r'
