-- What a turn changes at the port and of the seat is what its calls change
use Rattle.std.proofs.Common.{inl, inr, ℕ, Bool, true, false, List, sym, subst, Option, Some, None, Result, Ok, Err}
use Rattle.relay_outside.specs.Heard.{Came, CameBytes, CameEnd, CameNotYet, CameFailed}
use Rattle.relay_outside.specs.declared.link.Said.{Said}
use Rattle.relay_outside.specs.declared.link.Said.TheVariants as said
use Rattle.command_dialog.specs.declared.types.Ask.{Ask}
use Rattle.command_dialog.specs.declared.types.Grant.{Grant}
use Rattle.stream_model.specs.declared.calls.Entry.{Entry}
use Rattle.relay_session.specs.Turns.{is_nil}
use Rattle.relay_session.specs.declared.seat_answers.Made.{Made}
use Rattle.http_flv.specs.Turns.{AfterJoin, AfterKept, CameAs, DroppedBy, EndedBy, HeardBy, Input, IsEnded, IsTried, JoinedBy, KeptOn, Life, ReadBy}
use Rattle.http_flv.specs.Turns.{SendBy, Sent, SentAs, Taken, TakenBy, ToldBy, life, takes, told}
use Rattle.http_flv.specs.declared.end.HttpEnd.{HttpEnd}
use Rattle.http_flv.specs.declared.stage.Stage.{Stage}
use Rattle.http_flv.specs.declared.stage.Stage.TheVariants as stage
use Rattle.http_flv.specs.declared.turn.HttpTurn.{HttpTurn}

-- a relation of port and seat with those later, that holds over no change, over two changes where it holds over each, and over a call
module _ {P S : Type 0} (K : P → S → P → S → Type 0) (stay : (x : P) (s : S) → K x s x s)
    (chain : (x : P) (s : S) (y : P) (t : S) (z : P) (u : S) → K x s y t → K y t z u → K x s z u)
    (asks : P → S → ℕ → Entry → Made → P → S → Type 0)
    (call : (x : P) (s : S) (place : ℕ) (e : Entry) (r : Made) (y : P) (t : S) → asks x s place e r y t → K x s y t) where
  abbrev Moves : Life P S → Life P S → Type 0
  Moves v w = K v.port v.seat w.port w.seat

  still : (v : Life P S) → Moves v v
  still v = stay v.port v.seat

  moves_then : (u v w : Life P S) → Moves u v → Moves v w → Moves u w
  moves_then u v w a b = chain u.port u.seat v.port v.seat w.port w.seat a b

  moves_asked : (v w : Life P S) (place : ℕ) (e : Entry) (r : Made) → asks v.port v.seat place e r w.port w.seat → Moves v w
  moves_asked v w place e r a = call v.port v.seat place e r w.port w.seat a

  moves_ended : (e : HttpEnd) (v : Life P S) (a : HttpTurn) (w : Life P S) → IsEnded e v a w → Moves v w
  moves_ended e v a w i =
      let T : P → Type 0 = λ p. K v.port v.seat p w.seat in
      let U : S → Type 0 = λ s. K v.port v.seat v.port s in
      subst T (sym i.port) (subst U (sym i.seat) (still v))

  moves_taken_by : (o : Option (ℕ × ℕ)) (v : Life P S) (moved : Bool) (a : HttpTurn) (w : Life P S) → TakenBy asks o v moved a w → Moves v w
  moves_taken_by None v moved a w t = subst (Moves v) (sym t.1) (still v)
  moves_taken_by (Some p) v moved a w t = moves_asked v w p.0 _ t.came t.asked

  moves_taken : (v : Life P S) (moved : Bool) (a : HttpTurn) (w : Life P S) → Taken asks v moved a w → Moves v w
  moves_taken v moved a w t = moves_taken_by (takes v.parts) v moved a w t

  moves_tried : (v w : Life P S) (e : Entry) (r : Result Bool HttpEnd) → IsTried asks v e r w → Moves v w
  moves_tried v w e r t = moves_asked v w t.place e t.came t.asked.asked

  module _ (desk : Ask → Grant) where
    moves_after : (r : Result Bool HttpEnd) (m : Life P S) (a : HttpTurn) (w : Life P S) → AfterJoin asks r m a w → Moves m w
    moves_after (Ok made) m a w t = moves_taken m true a w t
    moves_after (Err e) m a w t = moves_ended e m a w t

    moves_joined : (o : Option Entry) (v : Life P S) (a : HttpTurn) (w : Life P S) → JoinedBy asks o v a w → Moves v w
    moves_joined None v a w t = moves_taken v true a w t
    moves_joined (Some e) v a w t = moves_then v t.1.0 w (moves_tried v t.1.0 e t.0 t.1.1.0) (moves_after t.0 t.1.0 a w t.1.1.1)

    moves_heard : (b : List ℕ) (v : Life P S) (a : HttpTurn) (w : Life P S) → HeardBy asks desk b v a w → Moves v w
    moves_heard b v a w (inl t) = moves_joined t.0.kept (life t.0 v.port v.seat) a w t.1.1
    moves_heard b v a w (inr t) = moves_ended _ (life t.0 v.port v.seat) a w t.1.1

    moves_dropped : (b : List ℕ) (v : Life P S) (a : HttpTurn) (w : Life P S) → DroppedBy asks desk b v a w → Moves v w
    moves_dropped b v a w t = moves_taken (life t.0 v.port v.seat) true a w t.1.1

    moves_read : (s : Stage) (b : List ℕ) (v : Life P S) (a : HttpTurn) (w : Life P S) → ReadBy asks desk s b v a w → Moves v w
    moves_read stage.Reading b v a w t = moves_heard b v a w t
    moves_read (stage.Joining place) b v a w t = moves_dropped b v a w t
    moves_read (stage.Telling r) b v a w t = moves_dropped b v a w t
    moves_read (stage.Playing place player) b v a w t = moves_dropped b v a w t

    moves_came : (came : Came) (v : Life P S) (moved : Bool) (a : HttpTurn) (w : Life P S) → CameAs asks desk came v moved a w → Moves v w
    moves_came (CameBytes b) v moved a w t = moves_read v.parts.stage b v a w t
    moves_came CameNotYet v moved a w t = moves_taken v moved a w t
    moves_came CameEnd v moved a w t = moves_ended _ v a w t
    moves_came CameFailed v moved a w t = moves_ended _ v a w t

    module _ {L : Type 0} (hears : L → ℕ → Came → L → Type 0) where
      moves_input : (v : Life P S) (l : L) (moved : Bool) (a : HttpTurn) (w : Life P S) (m : L) → Input asks desk hears v l moved a w m → Moves v w
      moves_input v l moved a w m t = moves_came t.0 v moved a w t.1.1

      module _ (says : L → List ℕ → Said → L → Type 0) where
        moves_told : (o : Option ℕ) (v : Life P S) (l : L) (a : HttpTurn) (w : Life P S) (m : L) → ToldBy asks desk hears says o v l a w m → Moves v w
        moves_told None v l a w m t = moves_input v l true a w m t
        moves_told (Some code) v l a w m t = moves_ended _ v a w t.0

        moves_sent_as : (q : Said) (v : Life P S) (l : L) (moved : Bool) (a : HttpTurn) (w : Life P S) (m : L) → SentAs asks desk hears says q v l moved a w m → Moves v w
        moves_sent_as (said.Took n) v l moved a w m t = moves_told (told t.0) (life t.0 v.port v.seat) l a w m t.1.1
        moves_sent_as said.NotYet v l moved a w m t = moves_input v l moved a w m t
        moves_sent_as said.Failed v l moved a w m t = moves_ended _ v a w t.0
        moves_sent_as said.OutOfMemory v l moved a w m t = moves_ended _ v a w t.0

        moves_send : (b : Bool) (v : Life P S) (l : L) (moved : Bool) (a : HttpTurn) (w : Life P S) (m : L) → SendBy asks desk hears says b v l moved a w m → Moves v w
        moves_send true v l moved a w m t = moves_input v l moved a w m t
        moves_send false v l moved a w m t = moves_sent_as t.0 v t.1.0 moved a w m t.1.1.1

        moves_sent : (v : Life P S) (l : L) (moved : Bool) (a : HttpTurn) (w : Life P S) (m : L) → Sent asks desk hears says v l moved a w m → Moves v w
        moves_sent v l moved a w m t = moves_send (is_nil v.parts.out.left) v l moved a w m t

        moves_after_kept : (r : Result Bool HttpEnd) (k : Life P S) (l : L) (a : HttpTurn) (w : Life P S) (m : L) → AfterKept asks desk hears says r k l a w m → Moves k w
        moves_after_kept (Ok true) k l a w m t = moves_sent k l true a w m t
        moves_after_kept (Ok false) k l a w m t = subst (Moves k) (sym t.1) (still k)
        moves_after_kept (Err e) k l a w m t = moves_ended e k a w t.0

        pub moves_kept : (o : Option Entry) (v : Life P S) (l : L) (a : HttpTurn) (w : Life P S) (m : L) → KeptOn asks desk hears says o v l a w m → Moves v w
        moves_kept None v l a w m t = moves_sent v l false a w m t
        moves_kept (Some e) v l a w m t = moves_then v t.1.0 w (moves_tried v t.1.0 e t.0 t.1.1.0) (moves_after_kept t.0 t.1.0 l a w m t.1.1.1)

        -- A TURN
        pub moves_turned : (o : Option HttpEnd) (v : Life P S) (l : L) (a : HttpTurn) (w : Life P S) (m : L) → EndedBy asks desk hears says o v l a w m → Moves v w
        moves_turned None v l a w m t = moves_kept v.parts.kept v l a w m t
        moves_turned (Some e) v l a w m t = subst (Moves v) (sym t.1) (still v)
