-- What a turn changes at the port and of the seat is what its call changes
use Rattle.std.proofs.Common.{ℕ, List, [], ◌∷◌, sym, subst, Option, Some, None}
use Rattle.rtmp_client.specs.ClientState.{ClientState}
use Rattle.rtmp_client.specs.declared.end.ClientTurn.{ClientTurn}
use Rattle.stream_model.specs.declared.calls.Entry.{Entry}
use Rattle.relay_session.specs.declared.seat_answers.Made.{Made}
use Rattle.origin_pull.specs.Keeping.{waiting}
use Rattle.origin_pull.specs.Turns.{EndedBy, Life, TurnBy}
use Rattle.origin_pull.specs.declared.end.EdgeEnd.{EdgeEnd}
use Rattle.origin_pull.specs.declared.turn.EdgeTurn.{EdgeTurn}

-- a relation of port and seat with those later, that holds over no change and over a call
module _ {P S L : Type 0} (K : P → S → P → S → Type 0) (stay : (x : P) (s : S) → K x s x s) (asks : P → S → ℕ → Entry → Made → P → S → Type 0)
    (call : (x : P) (s : S) (place : ℕ) (e : Entry) (r : Made) (y : P) (t : S) → asks x s place e r y t → K x s y t)
    (turns : ClientState → L → ClientTurn → ClientState → L → Type 0) where
  abbrev Moves : Life P S → Life P S → Type 0
  Moves v w = K v.port v.seat w.port w.seat

  moves_by : (es : List Entry) (v : Life P S) (l : L) (a : EdgeTurn) (w : Life P S) (m : L) → TurnBy asks turns es v l a w m → Moves v w
  moves_by (e ∷ rest) v l a w m t = call v.port v.seat v.parts.place e t.0.came w.port w.seat t.0.asked
  moves_by [] v l a w m t = subst (λ (p : P). K v.port v.seat p w.seat) (sym t.1) (subst (λ (s : S). K v.port v.seat v.port s) (sym t.2) (stay v.port v.seat))

  -- A TURN
  pub moves_turned : (o : Option EdgeEnd) (v : Life P S) (l : L) (a : EdgeTurn) (w : Life P S) (m : L) → EndedBy asks turns o v l a w m → Moves v w
  moves_turned None v l a w m t = moves_by (waiting v.parts) v l a w m t
  moves_turned (Some e) v l a w m t = subst (Moves v) (sym t.1) (stay v.port v.seat)
