-- A turn of a player over HTTP and of an edge in a replay, and what it leads to
use Rattle.std.specs.Prelude.{◌≡◌, ℕ, length, Option, None, Some}
use Rattle.command_dialog.specs.declared.types.Ask.{Ask}
use Rattle.command_dialog.specs.declared.types.Grant.{Grant}
use Rattle.relay_outside.specs.MemLinks.{MemHears, MemSays}
use Rattle.stream_model.specs.declared.calls.Entry.{Entry}
use Rattle.stream_registry.specs.Books.{SoleState, SeenState, FitsSole, journal_at, sole_rules}
use Rattle.stream_registry.specs.Told.{Histories}
use Rattle.relay_session.specs.Alone.{GrowsFrom}
use Rattle.relay_session.specs.SeatState.{GoOn, IsElsewhere, LeaveFails, LeavesFrom, SeatState, StandsAt, known, left_at, place_of}
use Rattle.relay_session.specs.declared.seat_answers.Leaving.{Leaving}
use Rattle.http_flv.specs.PlayerState as http
use Rattle.http_flv.specs.PlayerState.{PlayerState}
use Rattle.http_flv.specs.Turns as http_turns
use Rattle.http_flv.specs.declared.end.HttpEnd.{HttpEnd}
use Rattle.http_flv.specs.declared.end.HttpEnd.TheVariants as http_end
use Rattle.http_flv.specs.declared.turn.HttpTurn.{HttpTurn}
use Rattle.http_flv.specs.declared.turn.HttpTurn.TheVariants as http_turn
use Rattle.origin_pull.specs.EdgeState as edge
use Rattle.origin_pull.specs.EdgeState.{EdgeState}
use Rattle.origin_pull.specs.Turns as edge_turns
use Rattle.origin_pull.specs.declared.end.EdgeEnd.{EdgeEnd}
use Rattle.origin_pull.specs.declared.end.EdgeEnd.TheVariants as edge_end
use Rattle.origin_pull.specs.declared.turn.EdgeTurn.{EdgeTurn}
use Rattle.origin_pull.specs.declared.turn.EdgeTurn.TheVariants as edge_turn
use Rattle.relay_replay.specs.Guests.{PlayState, PullState}
use Rattle.relay_replay.specs.Streams.{SoleAdds, SoleAsks}

-- a seat's calls stand in the histories
abbrev pub SeatStands : SoleState → SeatState SeenState → Type 0
SeatStands port s = StandsAt (λ (p : SoleState). sole_rules p.rules) (λ p. journal_at p.books) (λ (p : SeenState). p.seen) port s

-- what its pass has seen of its place, and all of the others
abbrev pub known_by : SoleState → SeatState SeenState → Histories
known_by port s = known (λ (p : SoleState). journal_at p.books) (λ (p : SeenState). p.seen) port s

-- A SEAT WAS LEFT, named so at so many bytes of input: its last calls were made. Where its calls stood in the
-- histories they do so after it. These calls came to the history of the place where it was, and no other came
-- to any
pub record IsLeft (port : SoleState) (who fed : ℕ) (kept : Option Entry) (s : SeatState SeenState) (port' : SoleState) (kept' : Option Entry)
    (s' : SeatState SeenState) : Type 0 where
  pub leaving : Leaving
  pub leaves : LeavesFrom (place_of s.spot) who fed kept s.active s.visits leaving kept' s'.active s'.visits
  -- a call is left out only where the history there has as many as it can have
  pub cause : LeaveFails (FitsSole port') (λ (p : SeenState). length p.seen) (λ (_ : Entry). Unit {0}) (place_of s.spot) who fed kept 0 0 leaving
  pub left : place_of s'.spot ≡ left_at leaving (place_of s.spot)
  pub away : place_of s'.spot ≡ None
  pub roots : GoOn (journal_at port.books) (journal_at port'.books)
  pub others : (q : ℕ) → IsElsewhere s.spot q → journal_at port'.books q ≡ journal_at port.books q
  pub grows : GrowsFrom SoleAdds (sole_rules port.rules).limits (journal_at port.books) (known_by port s) (place_of s.spot) s.visits s'.visits
      (journal_at port'.books) (known_by port' s')
  pub stands : SeatStands port s → SeatStands port' s'
  pub fixed : sole_rules port'.rules ≡ sole_rules port.rules

-- ---- a player over HTTP

abbrev pub HasHttpMemory : HttpEnd → Type 0
HasHttpMemory http_end.OutOfMemory = ⊥
HasHttpMemory _ = Unit {0}

pub record PlayerClosed (port : SoleState) (s : PlayerState SeenState) (port' : SoleState) (s' : PlayerState SeenState) : Type 0 where
  pub left : IsLeft port s.parts.who s.parts.fed s.parts.kept s.seat port' s'.parts.kept s'.seat
  pub ended : s'.ended ≡ Some (http.end_or_closed s.ended)
  pub parts : s'.parts ≡ record s.parts { kept = s'.parts.kept }

-- one that ends is closed at once
abbrev pub AfterHttpTurn : HttpTurn → PlayerState SeenState → SoleState → PlayerState SeenState → Option HttpEnd → SoleState → Type 0
AfterHttpTurn http_turn.Moved s port s' ended port' = (s' ≡ s) × (port' ≡ port) × (ended ≡ None)
AfterHttpTurn http_turn.Idle s port s' ended port' = (s' ≡ s) × (port' ≡ port) × (ended ≡ None)
AfterHttpTurn (http_turn.Ended e) s port s' ended port' = HasHttpMemory e × (ended ≡ Some e) × PlayerClosed port s port' s'

-- the one of `HttpPlayer::turn`, with a link in memory
pub record PlayerTurned (desk : Ask → Grant) (port : SoleState) (c : PlayState) (port' : SoleState) (d : PlayState) : Type 0 where
  pub answer : HttpTurn
  pub between : SoleState
  pub mid : PlayerState SeenState
  pub turn : http_turns.EndedBy SoleAsks desk MemHears MemSays c.player.ended (http.life_at c.player port) c.link answer (http.life_at mid between) d.link
  pub stands : http.StandsFor desk c.player → http.StandsFor desk mid
  pub owed : http.StandsFor desk mid → http.OwesBy mid.ended desk mid.parts
  pub lasts : http.lasting_of mid.parts ≡ http.lasting_of c.player.parts
  pub leads : AfterHttpTurn answer mid between d.player d.ended port'

abbrev pub PlayerTurn : Option HttpEnd → (Ask → Grant) → SoleState → PlayState → SoleState → PlayState → Type 0
PlayerTurn (Some e) desk port c port' d = (d ≡ c) × (port' ≡ port)
PlayerTurn None desk port c port' d = PlayerTurned desk port c port' d

-- ---- an edge

abbrev pub HasEdgeMemory : EdgeEnd → Type 0
HasEdgeMemory edge_end.OutOfMemory = ⊥
HasEdgeMemory _ = Unit {0}

pub record EdgeClosed (port : SoleState) (s : EdgeState SeenState) (port' : SoleState) (s' : EdgeState SeenState) : Type 0 where
  pub left : IsLeft port s.parts.who 0 s.parts.kept s.seat port' s'.parts.kept s'.seat
  pub ended : s'.ended ≡ Some (edge.end_or_closed s.ended)
  pub stands : edge.StandsFor s'
  pub parts : s'.parts ≡ record s.parts { kept = s'.parts.kept }
  pub client : s'.client ≡ s.client

abbrev pub AfterEdgeTurn : EdgeTurn → EdgeState SeenState → SoleState → EdgeState SeenState → Option EdgeEnd → SoleState → Type 0
AfterEdgeTurn edge_turn.Moved s port s' ended port' = (s' ≡ s) × (port' ≡ port) × (ended ≡ None)
AfterEdgeTurn edge_turn.Idle s port s' ended port' = (s' ≡ s) × (port' ≡ port) × (ended ≡ None)
AfterEdgeTurn (edge_turn.Ended e) s port s' ended port' = HasEdgeMemory e × (ended ≡ Some e) × EdgeClosed port s port' s'

-- the one of `Edge::turn`, with a link in memory
pub record EdgeTurned (port : SoleState) (c : PullState) (port' : SoleState) (d : PullState) : Type 0 where
  pub answer : EdgeTurn
  pub between : SoleState
  pub mid : EdgeState SeenState
  pub turn : edge_turns.EndedBy SoleAsks (edge_turns.ClientTurns MemHears MemSays) c.edge.ended (edge.life_at c.edge port) c.link answer
      (edge.life_at mid between) d.link
  pub stands : edge.StandsFor mid
  pub lasts : edge.lasting_of mid.parts mid.client ≡ edge.lasting_of c.edge.parts c.edge.client
  pub leads : AfterEdgeTurn answer mid between d.edge d.ended port'

abbrev pub EdgeTurnBy : Option EdgeEnd → SoleState → PullState → SoleState → PullState → Type 0
EdgeTurnBy (Some e) port c port' d = (d ≡ c) × (port' ≡ port)
EdgeTurnBy None port c port' d = EdgeTurned port c port' d
