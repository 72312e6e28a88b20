-- What a turn changes at the port and of the seat is what its calls change
use Rattle.std.proofs.Common.{inl, inr, ℕ, Bool, true, false, List, sym, subst, Option, Some, None}
use Rattle.relay_outside.specs.Heard.{Came, CameBytes, CameEnd, CameNotYet, CameFailed}
use Rattle.relay_outside.specs.declared.link.Said.{Said}
use Rattle.relay_outside.specs.declared.link.Said.TheVariants as said
use Rattle.command_dialog.specs.declared.types.Ask.{Ask}
use Rattle.command_dialog.specs.declared.types.Grant.{Grant}
use Rattle.command_dialog.specs.declared.types.Playing.{Playing}
use Rattle.stream_model.specs.declared.calls.Entry.{Entry}
use Rattle.relay_session.specs.Owing.{pending}
use Rattle.relay_session.specs.Turns.{AfterCall, AfterKept, CallAsked, CalledBy, CameAs, EmptyBy, EndedBy, Fed, FedAs, FedBy, Input, InputBy, IsEnded, KeptBy, Life, Loudly, Quietly, QuitBy, SendBy, Sent, SentAs, Stopping, Taken, TakenBy, is_hungry, is_nil, life, takes}
use Rattle.relay_session.specs.declared.end.End.{End}
use Rattle.relay_session.specs.declared.seat_answers.Made.{Made}
use Rattle.relay_session.specs.declared.seat_answers.Made.TheVariants as made
use Rattle.relay_session.specs.declared.turn.Turn.{Turn}

-- a relation of port and seat with those later, that holds over no change, over two changes where it holds over each, and over a call
module _ {P S : Type 0} (K : P → S → P → S → Type 0) (stay : (x : P) (s : S) → K x s x s) (chain : (x : P) (s : S) (y : P) (t : S) (z : P) (u : S) → K x s y t → K y t z u → K x s z u)
    (asks : P → S → ℕ → Entry → Made → P → S → Type 0) (call : (x : P) (s : S) (place : ℕ) (e : Entry) (r : Made) (y : P) (t : S) → asks x s place e r y t → K x s y t) where
  abbrev Moves : Life P S → Life P S → Type 0
  Moves v w = K v.port v.seat w.port w.seat

  still : (v : Life P S) → Moves v v
  still v = stay v.port v.seat

  moves_then : (u v w : Life P S) → Moves u v → Moves v w → Moves u w
  moves_then u v w a b = chain u.port u.seat v.port v.seat w.port w.seat a b

  moves_asked : (v w : Life P S) (place : ℕ) (e : Entry) (r : Made) → asks v.port v.seat place e r w.port w.seat → Moves v w
  moves_asked v w place e r a = call v.port v.seat place e r w.port w.seat a

  moves_ended : (e : End) (v : Life P S) (a : Turn) (w : Life P S) → IsEnded e v a w → Moves v w
  moves_ended e v a w i =
      let T : P → Type 0 = λ p. K v.port v.seat p w.seat in
      let U : S → Type 0 = λ s. K v.port v.seat v.port s in
      subst T (sym i.port) (subst U (sym i.seat) (still v))

  -- ---- step 6

  moves_taken_by : (o : Option Playing) (v : Life P S) (moved : Bool) (a : Turn) (w : Life P S) → TakenBy asks o v moved a w → Moves v w
  moves_taken_by None v moved a w t = subst (Moves v) (sym t.1) (still v)
  moves_taken_by (Some p) v moved a w t = moves_asked v w t.place _ t.came t.asked

  moves_taken : (v : Life P S) (moved : Bool) (a : Turn) (w : Life P S) → Taken asks v moved a w → Moves v w
  moves_taken v moved a w (inl t) = moves_taken_by (takes t.0) (life t.0 v.input v.port v.seat) moved a w t.2
  moves_taken v moved a w (inr t) = moves_ended _ v a w t

  -- ---- a call that waited

  moves_called_as : (v m : Life P S) (e : Entry) (came : Made) → CallAsked asks v e came m → Moves v m
  moves_called_as v m e came c = moves_asked v m c.place e came c.asked

  moves_after : (v m : Life P S) (came : Made) (a : Turn) (w : Life P S) → AfterCall asks v came m a w → Moves m w
  moves_after v m (made.Answer r) a w (inl t) = moves_taken m true a w t.1
  moves_after v m (made.Answer r) a w (inr t) = moves_ended _ m a w t
  moves_after v m (made.Busy f) a w t = moves_taken m true a w t
  moves_after v m (made.Worn f) a w t = moves_ended _ m a w t
  moves_after v m (made.OutOfMemory f) a w t = moves_ended _ m a w t

  moves_called : (o : Option Entry) (v : Life P S) (a : Turn) (w : Life P S) → CalledBy asks o v a w → Moves v w
  moves_called None v a w t = moves_taken v true a w t
  moves_called (Some e) v a w t = moves_then v t.1.0 w (moves_called_as v t.1.0 e t.0 t.1.1.0) (moves_after v t.1.0 t.0 a w t.1.1.1)

  module _ (desk : Ask → Grant) where
    -- ---- step 5

    moves_fed_as : (by : FedBy) (v : Life P S) (moved : Bool) (a : Turn) (w : Life P S) → FedAs asks desk by v moved a w → Moves v w
    moves_fed_as Quietly v moved a w t = moves_taken (life t.0 _ v.port v.seat) _ a w t.1.2
    moves_fed_as Loudly v moved a w t = moves_called _ (life t.0 t.1.0 v.port v.seat) a w t.1.1.2
    moves_fed_as (Stopping e) v moved a w t = moves_ended e (life t.0 v.input v.port v.seat) a w t.1.1

    moves_fed : (v : Life P S) (moved : Bool) (a : Turn) (w : Life P S) → Fed asks desk v moved a w → Moves v w
    moves_fed v moved a w t = moves_fed_as t.0 v moved a w t.1

    moves_came : (came : Came) (v : Life P S) (moved : Bool) (a : Turn) (w : Life P S) → CameAs asks desk came v moved a w → Moves v w
    moves_came (CameBytes b) v moved a w (inl t) = moves_fed (life v.parts b v.port v.seat) true a w t
    moves_came (CameBytes b) v moved a w (inr t) = moves_ended _ v a w t
    moves_came CameNotYet v moved a w t = moves_taken v moved a w t
    moves_came CameEnd v moved a w t = moves_ended _ v a w t
    moves_came CameFailed v moved a w t = moves_ended _ v a w t

    module _ {L : Type 0} (hears : L → ℕ → Came → L → Type 0) where
      moves_empty : (b : Bool) (v : Life P S) (l : L) (moved : Bool) (a : Turn) (w : Life P S) (m : L) → EmptyBy asks desk hears b v l moved a w m → Moves v w
      moves_empty true v l moved a w m t = moves_came t.0 v moved a w t.1.1
      moves_empty false v l moved a w m t = moves_fed v moved a w t.0

      moves_input_by : (b : Bool) (v : Life P S) (l : L) (moved : Bool) (a : Turn) (w : Life P S) (m : L) → InputBy asks desk hears b v l moved a w m → Moves v w
      moves_input_by true v l moved a w m t = moves_empty (is_nil v.input) v l moved a w m t
      moves_input_by false v l moved a w m t = moves_taken v moved a w t.0

      moves_input : (v : Life P S) (l : L) (moved : Bool) (a : Turn) (w : Life P S) (m : L) → Input asks desk hears v l moved a w m → Moves v w
      moves_input v l moved a w m t = moves_input_by (is_hungry v.parts) v l moved a w m t

      module _ (says : L → List ℕ → Said → L → Type 0) where
        -- ---- step 4

        moves_sent_as : (q : Said) (v : Life P S) (l : L) (moved : Bool) (a : Turn) (w : Life P S) (m : L) → SentAs asks desk hears says q v l moved a w m → Moves v w
        moves_sent_as (said.Took n) v l moved a w m t = moves_input (life t.0 v.input v.port v.seat) l true a w m t.1.1
        moves_sent_as said.NotYet v l moved a w m t = moves_input v l moved a w m t
        moves_sent_as said.Failed v l moved a w m t = moves_ended _ v a w t.0
        moves_sent_as said.OutOfMemory v l moved a w m t = moves_ended _ v a w t.0

        moves_send : (b : Bool) (v : Life P S) (l : L) (moved : Bool) (a : Turn) (w : Life P S) (m : L) → SendBy asks desk hears says b v l moved a w m → Moves v w
        moves_send true v l moved a w m t = moves_input v l moved a w m t
        moves_send false v l moved a w m t = moves_sent_as t.0 v t.1.0 moved a w m t.1.1.1

        moves_sent : (v : Life P S) (l : L) (moved : Bool) (a : Turn) (w : Life P S) (m : L) → Sent asks desk hears says v l moved a w m → Moves v w
        moves_sent v l moved a w m (inl t) = moves_send (is_nil (pending t.0.outgoing)) (life t.0 v.input v.port v.seat) l moved a w m t.1.1
        moves_sent v l moved a w m (inr t) = moves_ended _ v a w t.0

        -- ---- steps 3, 2 and 1

        moves_quit : (quit : Bool) (v : Life P S) (l : L) (moved : Bool) (a : Turn) (w : Life P S) (m : L) → QuitBy asks desk hears says quit v l moved a w m → Moves v w
        moves_quit true v l moved a w m t = moves_ended _ v a w t.0
        moves_quit false v l moved a w m t = moves_sent v l moved a w m t

        moves_after_kept : (quit : Bool) (v k : Life P S) (came : Made) (l : L) (a : Turn) (w : Life P S) (m : L) → AfterKept asks desk hears says quit v came k l a w m → Moves k w
        moves_after_kept quit v k (made.Answer r) l a w m (inl t) = moves_quit quit k l true a w m t.1
        moves_after_kept quit v k (made.Answer r) l a w m (inr t) = moves_ended _ k a w t.0
        moves_after_kept quit v k (made.Busy f) l a w m t = subst (Moves k) (sym t.1) (still k)
        moves_after_kept quit v k (made.Worn f) l a w m t = moves_ended _ k a w t.0
        moves_after_kept quit v k (made.OutOfMemory f) l a w m t = moves_ended _ k a w t.0

        pub moves_kept : (o : Option Entry) (quit : Bool) (v : Life P S) (l : L) (a : Turn) (w : Life P S) (m : L) → KeptBy asks desk hears says o quit v l a w m → Moves v w
        moves_kept None quit v l a w m t = moves_quit quit v l false a w m t
        moves_kept (Some e) quit v l a w m t = moves_then v t.1.0 w (moves_called_as v t.1.0 e t.0 t.1.1.0) (moves_after_kept quit v t.1.0 t.0 l a w m t.1.1.1)

        pub moves_turned : (o : Option End) (quit : Bool) (v : Life P S) (l : L) (a : Turn) (w : Life P S) (m : L) → EndedBy asks desk hears says o quit v l a w m → Moves v w
        moves_turned None quit v l a w m t = moves_kept v.parts.kept quit v l a w m t
        moves_turned (Some e) quit v l a w m t = subst (Moves v) (sym t.1) (still v)
