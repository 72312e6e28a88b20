-- No pass is lost in a turn of a player over HTTP or of an edge
use Rattle.std.proofs.Common.{ℕ, List, Option}
use Rattle.turn_gate.specs.declared.view.Branch.{Branch}
use Rattle.command_dialog.specs.declared.types.Ask.{Ask}
use Rattle.command_dialog.specs.declared.types.Grant.{Grant}
use Rattle.relay_outside.specs.Heard.{Came}
use Rattle.relay_outside.specs.declared.link.Said.{Said}
use Rattle.stream_model.specs.declared.calls.Entry.{Entry}
use Rattle.stream_registry.specs.Names.{PortRules}
use Rattle.stream_registry.specs.Splits.{Kin}
use Rattle.stream_registry.specs.Told.{Step, Histories}
use Rattle.relay_session.specs.Places.{AskedAlone}
use Rattle.relay_session.specs.SeatState.{SeatState}
use Rattle.relay_session.specs.declared.seat_answers.Made.{Made}
use Rattle.http_flv.specs.Turns as player
use Rattle.http_flv.specs.declared.end.HttpEnd.{HttpEnd}
use Rattle.http_flv.specs.declared.turn.HttpTurn.{HttpTurn}
use Rattle.http_flv.proofs.Moving as player_moves
use Rattle.origin_pull.specs.Turns as edge
use Rattle.origin_pull.specs.Turns.{ClientTurns}
use Rattle.origin_pull.specs.declared.end.EdgeEnd.{EdgeEnd}
use Rattle.origin_pull.specs.declared.turn.EdgeTurn.{EdgeTurn}
use Rattle.origin_pull.proofs.Moving as edge_moves
use Rattle.passes_law.specs.Passes.{KeepsPasses}
use Rattle.passes_law.proofs.Passing.{asked_keeps, none_keeps, then_keeps}

module _ {P Q : Type 0} (fits : P → ℕ → Q → Type 0) (rules : P → PortRules) (root : P → Histories) (seen : Q → List Step) (count : Q → ℕ)
    (wants : Entry → Type 0) (busies : P → ℕ)
    (adds : List Step → List Step → List Step → Type 0) (kin : P → Kin) (branches : Q → List Branch) where
  abbrev Asks : P → SeatState Q → ℕ → Entry → Made → P → SeatState Q → Type 0
  Asks = AskedAlone fits rules root seen count wants busies adds kin branches

  abbrev Keeps : P → SeatState Q → P → SeatState Q → Type 0
  Keeps p s q t = KeepsPasses kin branches p s.spot q t.spot

  stay : (p : P) (s : SeatState Q) → Keeps p s p s
  stay p s = none_keeps branches kin p s.spot

  keeps_asked : (p : P) (s : SeatState Q) (place : ℕ) (e : Entry) (r : Made) (q : P) (t : SeatState Q) → Asks p s place e r q t → Keeps p s q t
  keeps_asked p s place e r q t a = asked_keeps branches kin p q s.spot t.spot place r a.asked.spot a.splits

  pub player_keeps : (desk : Ask → Grant) {L : Type 0} (hears : L → ℕ → Came → L → Type 0) (says : L → List ℕ → Said → L → Type 0)
      (o : Option HttpEnd) (v : player.Life P (SeatState Q)) (l : L) (a : HttpTurn) (w : player.Life P (SeatState Q)) (m : L)
      → player.EndedBy Asks desk hears says o v l a w m → Keeps v.port v.seat w.port w.seat
  player_keeps desk hears says o v l a w m t =
      player_moves.moves_turned Keeps stay (λ p s q t r u x y. then_keeps branches kin p q r s.spot t.spot u.spot x y) Asks keeps_asked desk hears says
      o v l a w m t

  pub edge_keeps : {L : Type 0} (hears : L → ℕ → Came → L → Type 0) (says : L → List ℕ → Said → L → Type 0)
      (o : Option EdgeEnd) (v : edge.Life P (SeatState Q)) (l : L) (a : EdgeTurn) (w : edge.Life P (SeatState Q)) (m : L)
      → edge.EndedBy Asks (ClientTurns hears says) o v l a w m → Keeps v.port v.seat w.port w.seat
  edge_keeps hears says o v l a w m t = edge_moves.moves_turned Keeps stay Asks keeps_asked (ClientTurns hears says) o v l a w m t
