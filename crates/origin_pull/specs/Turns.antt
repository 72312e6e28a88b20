-- ONE TURN OF AN EDGE, as a relation: by what the port or the link answered in it
use Rattle.std.specs.Prelude.{◌≡◌, ◌⊎◌, ℕ, Bool, true, false, List, [], ◌∷◌, ◌++◌, Option, Some, None}
use Rattle.client_owed.specs.declared.types.Gift.{Gift}
use Rattle.relay_outside.specs.Heard.{Came}
use Rattle.relay_outside.specs.declared.link.Said.{Said}
use Rattle.rtmp_client.specs.ClientState.{ClientState, TurnMade, without_gift}
use Rattle.rtmp_client.specs.Turns as pulling
use Rattle.rtmp_client.specs.declared.end.ClientEnd.{ClientEnd}
use Rattle.rtmp_client.specs.declared.end.ClientEnd.TheVariants as client_end
use Rattle.rtmp_client.specs.declared.end.ClientTurn.{ClientTurn}
use Rattle.rtmp_client.specs.declared.end.ClientTurn.TheVariants as client_turn
use Rattle.stream_model.specs.declared.calls.Call.{Call}
use Rattle.stream_model.specs.declared.calls.Call.TheVariants as call
use Rattle.stream_model.specs.declared.calls.Entry.{Entry}
use Rattle.stream_model.specs.declared.replies.Reply.{Reply}
use Rattle.stream_model.specs.declared.replies.Reply.TheVariants as reply
use Rattle.relay_session.specs.declared.seat_answers.Made.{Made}
use Rattle.relay_session.specs.declared.seat_answers.Made.TheVariants as made
use Rattle.origin_calls.specs.Calls.{calls_for, live_by}
use Rattle.origin_pull.specs.Keeping.{calls_due, waiting}
use Rattle.origin_pull.specs.declared.core_fields.Core.{Core}
use Rattle.origin_pull.specs.declared.end.EdgeEnd.{EdgeEnd}
use Rattle.origin_pull.specs.declared.end.EdgeEnd.TheVariants as end
use Rattle.origin_pull.specs.declared.turn.EdgeTurn.{EdgeTurn}
use Rattle.origin_pull.specs.declared.turn.EdgeTurn.TheVariants.{Moved, Idle, Ended}

-- an edge that lives: what it keeps, its client, the port, and where it stands there
pub record Life (P S : Type 0) : Type 0 where
  pub parts : Core
  pub client : ClientState
  pub port : P
  pub seat : S

abbrev pub life : {P S : Type 0} → Core → ClientState → P → S → Life P S
life parts client port seat = record { parts = parts; client = client; port = port; seat = seat }

-- ---- a call is made: the kept one, or the first that is due

abbrev pub is_begin : Call → Bool
is_begin call.Begin = true
is_begin (call.Push unit) = false
is_begin call.End = false
is_begin call.Join = false
is_begin (call.Take player want) = false
is_begin (call.Leave player) = false
is_begin call.Count = false
is_begin (call.BeginAs name) = false
is_begin (call.JoinAs name) = false

-- it ends where a Begin is told that somebody else publishes, or that there is no slot
abbrev pub after_begin : Reply → EdgeTurn
after_begin (reply.InUse by) = Ended (end.InUse by)
after_begin (reply.NoSlot slots) = Ended end.NoSlot
after_begin (reply.Began n) = Moved
after_begin (reply.Pushed n) = Moved
after_begin (reply.NotPublisher live) = Moved
after_begin (reply.Ended n) = Moved
after_begin (reply.Joined player from) = Moved
after_begin reply.Full = Moved
after_begin reply.NotPlayer = Moved
after_begin (reply.Sent from n item) = Moved
after_begin (reply.Skip from to) = Moved
after_begin (reply.NotYet end) = Moved
after_begin (reply.Left player) = Moved
after_begin (reply.Counts began pushed ended joined skips) = Moved

abbrev pub after : Bool → Reply → EdgeTurn
after true r = after_begin r
after false r = Moved

-- it was answered
pub record IsAnswered (c : Core) (e : Entry) (rest : List Entry) (r : Reply) (d : Core) : Type 0 where
  pub parts : d ≡ record c { kept = None; due = d.due; calls = c.calls ++ (e, r) ∷ [] }
  pub left : waiting d ≡ rest

-- it wasn't made, and is kept
pub record IsKept (c : Core) (e : Entry) (rest : List Entry) (d : Core) : Type 0 where
  pub parts : d ≡ record c { kept = Some e; due = d.due }
  pub left : waiting d ≡ e ∷ rest

-- what became of it
abbrev pub MadeAs : Core → Entry → List Entry → Made → EdgeTurn → Core → Type 0
MadeAs c e rest (made.Answer r) a d = IsAnswered c e rest r d × (a ≡ after (is_begin e.call) r)
MadeAs c e rest (made.Busy f) a d = IsKept c e rest d × (a ≡ Idle)
MadeAs c e rest (made.Worn f) a d = IsKept c e rest d × (a ≡ Ended end.Worn)
MadeAs c e rest (made.OutOfMemory f) a d = IsKept c e rest d × (a ≡ Ended end.OutOfMemory)

pub record Called {P S : Type 0} (asks : P → S → ℕ → Entry → Made → P → S → Type 0)
    (v : Life P S) (e : Entry) (rest : List Entry) (a : EdgeTurn) (w : Life P S) : Type 0 where
  pub came : Made
  pub asked : asks v.port v.seat v.parts.place e came w.port w.seat
  pub became : MadeAs v.parts e rest came a w.parts
  pub client : w.client ≡ v.client

-- ---- the client takes a turn, and the gift that then waits is taken

-- by the rules of a client
abbrev pub ClientTurns : {L : Type 0} → (L → ℕ → Came → L → Type 0) → (L → List ℕ → Said → L → Type 0) → ClientState → L → ClientTurn → ClientState → L → Type 0
ClientTurns hears says k l a j m = TurnMade (pulling.EndedBy hears says) k l a j m

-- why the edge ends where its client does
abbrev pub end_as : Option ClientEnd → EdgeEnd
end_as None = end.Client
end_as (Some client_end.PeerClosed) = end.Client
end_as (Some client_end.LinkFault) = end.Client
end_as (Some (client_end.BadVersion at)) = end.Client
end_as (Some (client_end.BadChunk cause at)) = end.Client
end_as (Some (client_end.BadControl at)) = end.Client
end_as (Some (client_end.BadCommand at)) = end.Client
end_as (Some (client_end.Refused code description)) = end.Client
end_as (Some client_end.Done) = end.Client
end_as (Some client_end.OutOfMemory) = end.OutOfMemory

-- the calls for a gift are due
pub record IsDue (c : Core) (g : Gift) (d : Core) : Type 0 where
  pub parts : d ≡ record c { live = live_by c.live g; due = d.due }
  pub calls : calls_due d.due ≡ calls_for c.live g

-- there may be no memory for a unit
abbrev pub TakesBy : Option Gift → Core → EdgeTurn → EdgeTurn → Core → Type 0
TakesBy None c b a d = (d ≡ c) × (a ≡ b)
TakesBy (Some g) c b a d = (IsDue c g d × (a ≡ b)) ⊎ ((d ≡ c) × (a ≡ Ended end.OutOfMemory))

-- the gift that waited was taken
pub record IsTaken (k j : ClientState) : Type 0 where
  pub parts : j.parts ≡ without_gift k.parts
  pub input : j.input ≡ k.input
  pub ended : j.ended ≡ k.ended

abbrev pub Takes : Core → ClientState → EdgeTurn → EdgeTurn → Core → ClientState → Type 0
Takes c k b a d j = IsTaken k j × TakesBy k.parts.gift c b a d

abbrev pub ToldAs : ClientTurn → Core → ClientState → EdgeTurn → Core → ClientState → Type 0
ToldAs client_turn.Moved c k a d j = Takes c k Moved a d j
ToldAs client_turn.Idle c k a d j = Takes c k Idle a d j
ToldAs client_turn.Ended c k a d j = (d ≡ c) × (j ≡ k) × (a ≡ Ended (end_as k.ended))

pub record Pulls {L : Type 0} (turns : ClientState → L → ClientTurn → ClientState → L → Type 0)
    (c : Core) (k : ClientState) (l : L) (a : EdgeTurn) (d : Core) (j : ClientState) (m : L) : Type 0 where
  pub answer : ClientTurn
  pub between : ClientState
  pub turned : turns k l answer between m
  pub told : ToldAs answer c between a d j

-- ---- one of the two

module _ {P S L : Type 0} (asks : P → S → ℕ → Entry → Made → P → S → Type 0) (turns : ClientState → L → ClientTurn → ClientState → L → Type 0) where
  -- THE KEPT CALL, else the next call due, else one turn of the client
  abbrev pub TurnBy : List Entry → Life P S → L → EdgeTurn → Life P S → L → Type 0
  TurnBy (e ∷ rest) v l a w m = Called asks v e rest a w × (m ≡ l)
  TurnBy [] v l a w m = Pulls turns v.parts v.client l a w.parts w.client m × (w.port ≡ v.port) × (w.seat ≡ v.seat)

  abbrev pub Turn : Life P S → L → EdgeTurn → Life P S → L → Type 0
  Turn v l a w m = TurnBy (waiting v.parts) v l a w m

  -- an edge that has ended answers the same end
  abbrev pub EndedBy : Option EdgeEnd → Life P S → L → EdgeTurn → Life P S → L → Type 0
  EndedBy (Some e) v l a w m = (a ≡ Ended e) × (w ≡ v) × (m ≡ l)
  EndedBy None v l a w m = Turn v l a w m
