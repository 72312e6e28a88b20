-- What an edge keeps true
use Rattle.std.specs.Prelude.{◌≡◌, ◌⊎◌, ◌<◌, ◌≤◌, ℕ, ◌+◌, Bool, true, false, List, [], ◌∷◌, ◌++◌, drop, Option, Some, None}
use Rattle.chunk_reader.specs.Sound.{IsRead}
use Rattle.chunk_wire.specs.declared.message.Message.{Message}
use Rattle.client_owed.specs.Pulled.{pulled}
use Rattle.client_owed.specs.declared.types.Gift.{Gift}
use Rattle.rtmp_client.specs.Bounds.{IsHolding, IsWithin}
use Rattle.rtmp_client.specs.ClientState.{ClientState, StandsFor}
use Rattle.rtmp_client.specs.declared.core_fields.Core.{Core as ClientCore}
use Rattle.rtmp_client.specs.declared.end.ClientEnd.{ClientEnd}
use Rattle.rtmp_client.specs.declared.end.ClientEnd.TheVariants as end
use Rattle.stream_model.specs.declared.calls.Call.{Call}
use Rattle.stream_model.specs.declared.calls.Entry.{Entry}
use Rattle.session_owed.specs.Talk.{Own, hand_bytes}
use Rattle.relay_session.specs.Bounds.{call_bytes}
use Rattle.relay_session.specs.SeatState.{HasFit, SeatState, active_after}
use Rattle.relay_session.specs.SeatVisits.{Visit, calls_of}
use Rattle.relay_session.specs.declared.seat_answers.Active.{Active}
use Rattle.relay_session.specs.declared.seat_answers.Active.TheVariants as active
use Rattle.origin_calls.specs.Calls.{edge_calls, entries, live_after}
use Rattle.origin_calls.specs.Relayed.{is_granted}
use Rattle.origin_pull.specs.declared.core_fields.Core.{Core}
use Rattle.origin_pull.specs.declared.due.Due.{Due}
use Rattle.origin_pull.specs.declared.due.Due.TheVariants.{Nothing, One, Two}
use Rattle.origin_pull.specs.declared.end.EdgeEnd.{EdgeEnd}
use Rattle.origin_pull.specs.declared.end.EdgeEnd.TheVariants as edge

-- ---- the calls that wait and are due

abbrev pub calls_due : Due → List Call
calls_due Nothing = []
calls_due (One c) = c ∷ []
calls_due (Two c d) = c ∷ d ∷ []

abbrev pub listed : Option Entry → List Entry
listed None = []
listed (Some e) = e ∷ []

-- the kept call and those due, in the order in which they are made
abbrev pub waiting : Core → List Entry
waiting c = listed c.kept ++ entries c.who (calls_due c.due)

-- the calls that were made, without their replies
abbrev pub made : List Own → List Entry
made [] = []
made (c ∷ C) = c.0 ∷ made C

-- the bytes of the units that these entries push
abbrev pub bytes_in : List Entry → ℕ
bytes_in [] = 0
bytes_in (e ∷ es) = call_bytes e.call + bytes_in es

abbrev pub waiting_bytes : Core → ℕ
waiting_bytes c = bytes_in (waiting c)

abbrev pub due_bytes : Due → ℕ
due_bytes Nothing = 0
due_bytes (One c) = call_bytes c
due_bytes (Two c d) = call_bytes c + call_bytes d

-- ---- its calls are those of what its client was told

-- THE CALLS THAT WERE MADE, with these behind them, ARE THOSE OF AN EDGE that was told this
pub record Owes (c : Core) (more : List Entry) (gs : List Gift) : Type 0 where
  pub live : c.live ≡ live_after false gs
  pub calls : made c.calls ++ more ≡ entries c.who (edge_calls false gs)

-- those that were made begin them
abbrev pub Begun : Core → List Gift → Type 0
Begun c gs = (more : List Entry) × (made c.calls ++ more ≡ entries c.who (edge_calls false gs))

-- these are the calls of an edge of this name for the bytes that its client was fed, which read as these messages
pub record AreEdgeCalls (who : ℕ) (k : ClientCore) (es : List Entry) : Type 0 where
  pub ms : List (ℕ × Message)
  pub read : IsRead k.reader.max (drop hand_bytes k.y) ms
  pub calls : es ≡ entries who (edge_calls false (pulled k.asked ms))

-- ---- its client

-- it is given nothing, no gift waits, and it takes no longer messages than units are
pub record IsQuiet (k : ClientState) : Type 0 where
  pub gift : k.parts.gift ≡ None
  pub gave : k.parts.gave ≡ []
  pub short : k.parts.reader.max ≤ 4194304
  pub stands : StandsFor k

-- an end of its own that isn't want of memory: it was never finished, so it isn't done
abbrev pub IsOwnEnd : Option ClientEnd → Type 0
IsOwnEnd None = ⊥
IsOwnEnd (Some end.PeerClosed) = Unit {0}
IsOwnEnd (Some end.LinkFault) = Unit {0}
IsOwnEnd (Some (end.BadVersion at)) = Unit {0}
IsOwnEnd (Some (end.BadChunk cause at)) = Unit {0}
IsOwnEnd (Some (end.BadControl at)) = Unit {0}
IsOwnEnd (Some (end.BadCommand at)) = Unit {0}
IsOwnEnd (Some (end.Refused code description)) = Unit {0}
IsOwnEnd (Some end.Done) = ⊥
IsOwnEnd (Some end.OutOfMemory) = ⊥

-- ---- what it holds

-- where a unit waits, the client holds so much less: it had held the tag
abbrev pub HasRoom : ℕ → ClientState → Type 0
HasRoom n k = (n ≡ 0) ⊎ ((m : ℕ) → IsHolding k.parts k.input m → IsWithin k.parts.reader.max (m + n))

-- ---- between turns

pub record IsSound (c : Core) (k : ClientState) : Type 0 where
  pub client : IsQuiet k
  pub lives : k.ended ≡ None
  pub owes : Owes c (waiting c) k.parts.taken
  pub room : HasRoom (waiting_bytes c) k

-- one that its client ended has made all its calls
pub record IsDone (c : Core) (k : ClientState) : Type 0 where
  pub none : waiting c ≡ []
  pub all : made c.calls ≡ entries c.who (edge_calls false k.parts.taken)
  pub own : IsOwnEnd k.ended

abbrev pub OverBy : EdgeEnd → Core → ClientState → Type 0
OverBy edge.Client c k = IsDone c k
OverBy (edge.InUse by) c k = Begun c k.parts.taken
OverBy edge.Worn c k = Begun c k.parts.taken
OverBy edge.OutOfMemory c k = Begun c k.parts.taken
OverBy edge.NoSlot c k = Begun c k.parts.taken
OverBy edge.Closed c k = Begun c k.parts.taken

pub record HasEnded (e : EdgeEnd) (c : Core) (k : ClientState) : Type 0 where
  pub client : IsQuiet k
  pub over : OverBy e c k
  pub room : HasRoom (waiting_bytes c) k

-- ---- at a port

-- what it was granted by the replies to its calls
abbrev pub granted_by : Active → List Own → Active
granted_by a [] = a
granted_by a (c ∷ C) = granted_by (active_after c.1 a) C

-- each of these calls was granted
abbrev pub AllGranted : List Own → Type 0
AllGranted [] = Unit {0}
AllGranted (c ∷ C) = (is_granted c.0.call c.1 ≡ true) × AllGranted C

-- it publishes where a broadcast is live
abbrev pub active_if : Bool → Active
active_if true = active.Publishes
active_if false = active.Nothing

-- it is at its place, or nowhere and granted nothing
abbrev pub IsHere : {Q : Type 0} → ℕ → Option (ℕ × Q) → Active → Type 0
IsHere place None a = a ≡ active.Nothing
IsHere place (Some p) a = p.0 ≡ place

-- all these calls were made at this place
abbrev pub AreHere : ℕ → List Visit → Type 0
AreHere place [] = Unit {0}
AreHere place (v ∷ vs) = (v.0 ≡ place) × AreHere place vs

-- it belongs to a port of so many places: its pass was attached there, its place is there, and it is nowhere
-- else; its calls are those that were made, all at its place, and it is granted what they were answered
pub record IsAt {Q : Type 0} (fits : ℕ → Q → Type 0) (count : ℕ) (c : Core) (s : SeatState Q) : Type 0 where
  pub fit : HasFit fits s.spot
  pub there : c.place < count
  pub here : IsHere c.place s.spot s.active
  pub calls : c.calls ≡ calls_of s.visits
  pub places : AreHere c.place s.visits
  pub granted : s.active ≡ granted_by active.Nothing c.calls
