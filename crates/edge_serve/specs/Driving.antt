-- Only proofs and private functions use it.
-- An edge that is turned until it ends, and is then closed
use Rattle.std.specs.Prelude.{◌≡◌, ◌≢◌, ◌<◌, ◌≤◌, ℕ, Bool, true, false, List, [], ◌++◌, length, Option, Some, None}
use Rattle.client_command.specs.Traffic.{IsCalm, Passed}
use Rattle.client_command.specs.Words.{AreShort}
use Rattle.client_owed.specs.declared.types.Asked.{Asked}
use Rattle.origin_pull.specs.EdgeState.{EdgeState, Lasting, lasting_of}
use Rattle.origin_pull.specs.declared.due.Due.TheVariants.{Nothing}
use Rattle.origin_pull.specs.declared.end.EdgeEnd.{EdgeEnd}
use Rattle.origin_pull.specs.declared.end.EdgeEnd.TheVariants as edge
use Rattle.origin_pull.specs.declared.turn.EdgeTurn.{EdgeTurn}
use Rattle.origin_pull.specs.declared.turn.EdgeTurn.TheVariants.{Moved, Idle, Ended}
use Rattle.relay_session.specs.SeatVisits.{Visit, calls_of}
use Rattle.relay_session.specs.declared.seat_answers.Active.{Active}
use Rattle.relay_session.specs.declared.seat_answers.Active.TheVariants as active
use Rattle.relay_worker.specs.Books.{LeavesBy}
use Rattle.rtmp_client.specs.ClientState.{ClientState}
use Rattle.rtmp_client.specs.declared.end.ClientEnd.{ClientEnd}
use Rattle.session_owed.specs.Talk.{Own}
use Rattle.stream_model.specs.declared.calls.Entry.{Entry}
use Rattle.stream_registry.specs.Names.{PortRules, places}
use Rattle.stream_registry.specs.Told.{Histories}
use Rattle.edge_serve.specs.Line.{edge_line}
use Rattle.edge_serve.specs.Pulls.{EdgeCause, HasPlayed, HasPulled, Origin, Parts, edge_name, edge_place}

-- what it was made for
abbrev pub made_for : Asked → ℕ → ℕ → ℕ → Lasting
made_for k max who place = record { who = who; place = place; asked = k; max = max }

-- a new edge of the name, at its place, with this client
pub record IsMade {Q : Type 0} (c : ClientState) (s : EdgeState Q) : Type 0 where
  pub who : s.parts.who ≡ edge_name
  pub place : s.parts.place ≡ edge_place
  pub calls : s.parts.calls ≡ []
  pub kept : s.parts.kept ≡ None
  pub due : s.parts.due ≡ Nothing
  pub client : s.client ≡ c
  pub seat : s.seat ≡ record { spot = None; active = active.Nothing; visits = [] }

-- IT LIVES, since its link was so: what the link gave its client received, and what the link took that has sent
pub record Drives {Q : Type 0} (k : Asked) (max who place : ℕ) (start now : Origin) (s : EdgeState Q) : Type 0 where
  pub lives : s.ended ≡ None
  pub lasts : lasting_of s.parts s.client ≡ made_for k max who place
  pub passed : Passed (s.client.parts.y ++ s.client.input) s.client.parts.sent start.told now.told
  pub calm : IsCalm start.counts now.counts
  pub few : length s.client.input ≤ 4096
  -- nobody gives it anything
  pub gave : s.client.parts.gave ≡ []

-- no call waits, but where the history of its place is full or memory was refused
abbrev pub WaitsBy : EdgeEnd → Option Entry → Type 0
WaitsBy edge.Client kept = kept ≡ None
WaitsBy (edge.InUse by) kept = kept ≡ None
WaitsBy edge.NoSlot kept = kept ≡ None
WaitsBy edge.Worn kept = Unit {0}
WaitsBy edge.OutOfMemory kept = Unit {0}
WaitsBy edge.Closed kept = ⊥

-- IT HAS ENDED SO
pub record HasDriven {Q : Type 0} (k : Asked) (max who place : ℕ) (start now : Origin) (e : EdgeEnd) (s : EdgeState Q) : Type 0 where
  pub ended : s.ended ≡ Some e
  pub lasts : lasting_of s.parts s.client ≡ made_for k max who place
  pub rest : List ℕ
  pub few : length rest ≤ 4096
  pub passed : Passed (s.client.parts.y ++ rest) s.client.parts.sent start.told now.told
  pub cause : EdgeCause e s.client.ended who s.parts.calls max (length s.client.parts.y) (s.client.parts.y ++ rest) start.counts now.counts
  pub waits : WaitsBy e s.parts.kept
  pub gave : s.client.parts.gave ≡ []

-- by the answer of its turn
abbrev pub DrivenBy : {Q : Type 0} → EdgeTurn → Asked → ℕ → ℕ → ℕ → Origin → Origin → EdgeState Q → Type 0
DrivenBy Moved k max who place start now s = Drives k max who place start now s
DrivenBy Idle k max who place start now s = Drives k max who place start now s
DrivenBy (Ended e) k max who place start now s = HasDriven k max who place start now e s

-- ---- it was closed

-- by these calls more, where this one waited and it was granted this
pub record HasLeft (who : ℕ) (waited : Option Entry) (a : Active) (visits : List Visit) (worn : Bool) (visits' : List Visit) : Type 0 where
  pub left : List Own
  pub calls_are : calls_of visits' ≡ calls_of visits ++ left
  pub left_by : LeavesBy waited left
  pub parts : worn ≡ false → waited ≡ None → Parts who a left

-- why it has ended then: a history that is full keeps it from its last call
abbrev pub end_then : EdgeEnd → Bool → EdgeEnd
end_then edge.OutOfMemory worn = edge.OutOfMemory
end_then edge.Client true = edge.Worn
end_then (edge.InUse by) true = edge.Worn
end_then edge.NoSlot true = edge.Worn
end_then edge.Worn true = edge.Worn
end_then edge.Closed true = edge.Worn
end_then edge.Client false = edge.Client
end_then (edge.InUse by) false = edge.InUse by
end_then edge.NoSlot false = edge.NoSlot
end_then edge.Worn false = edge.Worn
end_then edge.Closed false = edge.Closed

-- ---- what a thread of an edge is handed, and what it leaves

-- the names have their lengths, no message is longer than a unit may be, and its place is there
pub record CanPull (address app name : List ℕ) (max : ℕ) (rules : PortRules) : Type 0 where
  pub short : AreShort address app name
  pub most : max ≤ 4194304
  pub there : edge_place < places rules

-- it has pulled, and its line says so, unless there was no memory. Then too what was played over the link was
-- the stream
pub record IsPulled (k : Asked) (max : ℕ) (rules rules' : PortRules) (histories : Histories) (e : EdgeEnd) (line : List ℕ) (o o' : Origin) : Type 0 where
  pub fixed : rules' ≡ rules
  pub played : HasPlayed k max o o'
  pub client : Option ClientEnd
  pub line_is : e ≢ edge.OutOfMemory → line ≡ edge_line e client
  pub pulled : e ≢ edge.OutOfMemory → HasPulled k max edge_name edge_place rules.limits histories e client o o'
