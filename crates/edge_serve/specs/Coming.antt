-- Only proofs and private functions use it.
-- HOW AN EDGE COMES TO ITS END: by turns, one after another, and then by closes
use Rattle.std.specs.Prelude.{◌≡◌, ◌⊎◌, true, ℕ, List, length, slice_get, None, Some, is_some}
use Rattle.turn_gate.specs.Known.{PassKnown}
use Rattle.turn_gate.specs.declared.view.Branch.{Branch}
use Rattle.relay_outside.specs.Heard.{Came}
use Rattle.relay_outside.specs.declared.link.Said.{Said}
use Rattle.rtmp_client.specs.ClientState.{ClientState}
use Rattle.stream_model.specs.declared.calls.Entry.{Entry}
use Rattle.stream_registry.specs.Gates.{told, told_at}
use Rattle.stream_registry.specs.Names.{PortRules}
use Rattle.stream_registry.specs.Pasts.{Attempt}
use Rattle.stream_registry.specs.Roots.{gates, kin_at}
use Rattle.stream_registry.specs.SharedState.{Streams, shared_rules}
use Rattle.stream_registry.specs.Splits.{Kin}
use Rattle.stream_registry.specs.Told.{Histories, Step}
use Rattle.stream_registry.specs.Wants.{IsTake}
use Rattle.stream_registry.specs.declared.place_table.Site.{Site}
use Rattle.relay_session.specs.Alone.{GrowsFrom, LeavesSplit}
use Rattle.relay_session.specs.Places.{AskedAlone}
use Rattle.relay_session.specs.SeatState.{LeavesFrom, known, left_at, place_of}
use Rattle.relay_session.specs.declared.seat_answers.Leaving.{Leaving}
use Rattle.relay_worker.specs.Rounds.{Walks}
use Rattle.origin_pull.specs.EdgeState.{EdgeState, IsNew, ended_by, life_at}
use Rattle.origin_pull.specs.Turns.{ClientTurns, EndedBy}
use Rattle.origin_pull.specs.declared.turn.EdgeTurn.{EdgeTurn}
use Rattle.edge_serve.specs.Driving.{IsMade}

-- an edge with its port, and with its link
pub record AtPort (P Q : Type 0) : Type 0 where
  pub edge : EdgeState Q
  pub port : P

pub record OnLink (P Q L : Type 0) : Type 0 where
  pub edge : EdgeState Q
  pub port : P
  pub link : L

abbrev pub at_port : {P Q : Type 0} → EdgeState Q → P → AtPort P Q
at_port edge port = record { edge = edge; port = port }

abbrev pub on_link : {P Q L : Type 0} → EdgeState Q → P → L → OnLink P Q L
on_link edge port link = record { edge = edge; port = port; link = link }

module _ {P Q : Type 0} (fits : P → ℕ → Q → Type 0) (rules : P → PortRules) (root : P → Histories) (seen : Q → List Step)
    (count : Q → ℕ) (wants : Entry → Type 0) (busies : P → ℕ)
    (adds : List Step → List Step → List Step → Type 0) (kin : P → Kin) (branches : Q → List Branch) where
  -- ONE CLOSE: its last calls are made, and no other
  pub record Closes (v : AtPort P Q) (answer : Leaving) (w : AtPort P Q) : Type 0 where
    pub leaves : LeavesFrom (place_of v.edge.seat.spot) v.edge.parts.who 0 v.edge.parts.kept v.edge.seat.active v.edge.seat.visits
        answer w.edge.parts.kept w.edge.seat.active w.edge.seat.visits
    pub spot : place_of w.edge.seat.spot ≡ left_at answer (place_of v.edge.seat.spot)
    pub grows : GrowsFrom adds (rules v.port).limits (root v.port) (known root seen v.port v.edge.seat) (place_of v.edge.seat.spot)
        v.edge.seat.visits w.edge.seat.visits (root w.port) (known root seen w.port w.edge.seat)
    pub splits : LeavesSplit (place_of v.edge.seat.spot) branches (kin v.port) v.edge.seat.spot v.edge.seat.visits
        w.edge.seat.visits (kin w.port) w.edge.seat.spot

  -- one close, whatever its answer
  abbrev pub CloseOn : AtPort P Q → AtPort P Q → Type 0
  CloseOn v w = (answer : Leaving) × Closes v answer w

  -- IT COMES THERE BY CLOSES. Each begins with just what the one before left
  pub record ByCloses (v w : AtPort P Q) : Type 0 where
    pub times : ℕ
    pub closes : Walks (λ n. CloseOn) times v w

  module _ {L : Type 0} (hears : L → ℕ → Came → L → Type 0) (says : L → List ℕ → Said → L → Type 0) where
    -- ONE TURN, by its own steps
    pub record TakesTurn (v : OnLink P Q L) (answer : EdgeTurn) (w : OnLink P Q L) : Type 0 where
      pub turn : EndedBy (AskedAlone fits rules root seen count wants busies adds kin branches) (ClientTurns hears says)
          v.edge.ended (life_at v.edge v.port) v.link answer (life_at w.edge w.port) w.link
      pub ended : w.edge.ended ≡ ended_by answer

    -- one turn, whatever its answer
    abbrev pub TurnOn : OnLink P Q L → OnLink P Q L → Type 0
    TurnOn v w = (answer : EdgeTurn) × TakesTurn v answer w

    -- IT COMES THERE BY TURNS. Each begins with just what the one before left: the edge, the port and the link.
    -- So no pass is split off and no call made but in a turn of the edge, in its own name
    pub record ByTurns (v w : OnLink P Q L) : Type 0 where
      pub times : ℕ
      pub turns : Walks (λ n. TurnOn) times v w

    -- A NEW EDGE PULLED with this port and this link: by turns to its end, and by closes away from its place
    pub record PulledAlone (port : P) (link : L) (port' : P) (link' : L) : Type 0 where
      pub client : ClientState
      pub new : IsNew client
      pub made : EdgeState Q
      pub is_made : IsMade client made
      pub over : EdgeState Q
      pub between : P
      pub turns : ByTurns (on_link made port link) (on_link over between link')
      pub ended : is_some over.ended ≡ true
      pub gone : EdgeState Q
      pub closes : ByCloses (at_port over between) (at_port gone port')
      pub away : gone.seat.spot ≡ None

    -- or nothing was done with them
    abbrev pub RunsAlone : P → L → P → L → Type 0
    RunsAlone port link port' link' = ((port' ≡ port) × (link' ≡ link)) ⊎ PulledAlone port link port' link'

-- the same at a port that shares its places
abbrev pub SharedAlone : {L : Type 0} → (L → ℕ → Came → L → Type 0) → (L → List ℕ → Said → L → Type 0) → Streams → L → Streams → L → Type 0
SharedAlone = RunsAlone (λ (s : Streams) (place : ℕ) (p : PassKnown Site Attempt). slice_get (gates s.roots) place ≡ Some p.gate) shared_rules
    (λ s. told_at s.roots) (λ p. told p.seen) (λ p. length p.seen) (λ e. IsTake e.call) (λ s. s.busies) (λ h xs i. Unit {0})
    (λ s. kin_at s.roots) (λ p. p.kin)
