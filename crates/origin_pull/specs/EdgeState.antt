-- What contracts see of an edge
use Rattle.std.specs.Prelude.{◌≡◌, ◌≤◌, ℕ, ◌+◌, List, [], ◌++◌, Option, Some, None}
use Rattle.client_owed.specs.Standing.{new_keeps, new_past}
use Rattle.client_owed.specs.declared.types.Wish.TheVariants.{Pull}
use Rattle.client_owed.specs.declared.types.Asked.{Asked}
use Rattle.rtmp_client.specs.Bounds.{IsHolding}
use Rattle.rtmp_client.specs.ClientState as client
use Rattle.rtmp_client.specs.ClientState.{ClientState}
use Rattle.rtmp_client.specs.Keeping.{keeps_of, past_of}
use Rattle.stream_model.specs.declared.calls.Entry.{Entry}
use Rattle.relay_session.specs.SeatState.{SeatState}
use Rattle.origin_pull.specs.Keeping.{AreEdgeCalls, HasEnded, IsOwnEnd, IsSound, made, waiting, waiting_bytes}
use Rattle.origin_pull.specs.Turns.{Life, life}
use Rattle.origin_pull.specs.declared.core_fields.Core.{Core}
use Rattle.origin_pull.specs.declared.end.EdgeEnd.{EdgeEnd}
use Rattle.origin_pull.specs.declared.end.EdgeEnd.TheVariants as end
use Rattle.origin_pull.specs.declared.turn.EdgeTurn.{EdgeTurn}
use Rattle.origin_pull.specs.declared.turn.EdgeTurn.TheVariants.{Moved, Idle, Ended}

pub record EdgeState (Q : Type 0) : Type 0 where
  -- what it keeps of its place
  pub parts : Core
  -- its client
  pub client : ClientState
  -- where it stands at the streams
  pub seat : SeatState Q
  -- why it has ended, if it has
  pub ended : Option EdgeEnd

-- at a port
abbrev pub life_at : {P Q : Type 0} → EdgeState Q → P → Life P (SeatState Q)
life_at s port = life s.parts s.client port s.seat

abbrev pub IsLiving : Option EdgeEnd → Core → ClientState → Type 0
IsLiving None c k = IsSound c k
IsLiving (Some e) c k = HasEnded e c k

-- what a turn leaves, by its answer
abbrev pub LivesOn : Core → ClientState → EdgeTurn → Type 0
LivesOn c k Moved = IsSound c k
LivesOn c k Idle = IsSound c k
LivesOn c k (Ended e) = HasEnded e c k

-- A NEW CLIENT that plays: it has had no turn, and takes no longer messages than units are
pub record IsNew (k : ClientState) : Type 0 where
  pub pulls : k.parts.asked.wish ≡ Pull
  pub short : k.parts.reader.max ≤ 4194304
  pub past : past_of k.parts ≡ new_past
  pub keeps : keeps_of k.parts ≡ new_keeps
  pub lives : k.ended ≡ None
  pub stands : client.StandsFor k

-- THE CALLS OF AN EDGE THAT LIVES, with the kept call and those due, ARE THOSE OF THE BYTES that its client
-- was fed, and the client lives
pub record Stands (c : Core) (k : ClientState) : Type 0 where
  pub client : client.StandsFor k
  pub lives : k.ended ≡ None
  pub calls : AreEdgeCalls c.who k.parts (made c.calls ++ waiting c)

-- where its client has ended they are all of them, and none waits
pub record HasMadeAll (c : Core) (k : ClientState) : Type 0 where
  pub none : waiting c ≡ []
  pub calls : AreEdgeCalls c.who k.parts (made c.calls)
  pub own : IsOwnEnd k.ended

-- those of one that has ended otherwise begin them
abbrev pub EndsSo : EdgeEnd → Core → ClientState → Type 0
EndsSo end.Client c k = HasMadeAll c k
EndsSo (end.InUse by) c k = (more : List Entry) × AreEdgeCalls c.who k.parts (made c.calls ++ more)
EndsSo end.Worn c k = (more : List Entry) × AreEdgeCalls c.who k.parts (made c.calls ++ more)
EndsSo end.OutOfMemory c k = (more : List Entry) × AreEdgeCalls c.who k.parts (made c.calls ++ more)
EndsSo end.NoSlot c k = (more : List Entry) × AreEdgeCalls c.who k.parts (made c.calls ++ more)
EndsSo end.Closed c k = (more : List Entry) × AreEdgeCalls c.who k.parts (made c.calls ++ more)

abbrev pub StandsBy : Option EdgeEnd → Core → ClientState → Type 0
StandsBy None c k = Stands c k
StandsBy (Some e) c k = client.StandsFor k × EndsSo e c k

abbrev pub StandsFor : {Q : Type 0} → EdgeState Q → Type 0
StandsFor s = StandsBy s.ended s.parts s.client

abbrev pub ended_by : EdgeTurn → Option EdgeEnd
ended_by Moved = None
ended_by Idle = None
ended_by (Ended e) = Some e

-- what an edge keeps as it was made
pub record Lasting : Type 0 where
  pub who : ℕ
  pub place : ℕ
  pub asked : Asked
  pub max : ℕ

abbrev pub lasting_of : Core → ClientState → Lasting
lasting_of c k = record { who = c.who; place = c.place; asked = k.parts.asked; max = k.parts.reader.max }

-- HOW MANY BYTES IT HOLDS: those of its client, and the units of the kept call and of those due
pub record Holds (c : Core) (k : ClientState) (n : ℕ) : Type 0 where
  pub client : ℕ
  pub holding : IsHolding k.parts k.input client
  pub sum : n ≡ client + waiting_bytes c

-- why an edge that is closed has ended
abbrev pub end_or_closed : Option EdgeEnd → EdgeEnd
end_or_closed None = end.Closed
end_or_closed (Some e) = e
