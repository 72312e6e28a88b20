-- A turn leaves all that stands at the port
use Rattle.std.proofs.Common.{inl, inr, ℕ, Bool, true, false, List, refl, sym, ◌∙◌, subst, arith, Option, Some, None}
use Rattle.relay_outside.specs.Heard.{Came, CameBytes, CameEnd, CameNotYet, CameFailed}
use Rattle.relay_outside.specs.declared.link.Said.{Said}
use Rattle.relay_outside.specs.declared.link.Said.TheVariants as said
use Rattle.command_dialog.specs.declared.types.Ask.{Ask}
use Rattle.command_dialog.specs.declared.types.Grant.{Grant}
use Rattle.command_dialog.specs.declared.types.Playing.{Playing}
use Rattle.stream_model.specs.declared.calls.Entry.{Entry}
use Rattle.stream_registry.specs.Names.{PortRules}
use Rattle.stream_registry.specs.Splits.{Kin}
use Rattle.stream_registry.specs.Told.{Step, Histories}
use Rattle.turn_gate.specs.declared.view.Branch.{Branch}
use Rattle.relay_session.specs.Onward.{GoesOn}
use Rattle.relay_session.specs.Owing.{pending}
use Rattle.relay_session.specs.Places.{AskedAlone}
use Rattle.relay_session.specs.SeatState.{SeatState, known}
use Rattle.relay_session.specs.Turns.{AfterCall, AfterKept, CallAsked, CalledBy, CameAs, EmptyBy, Fed, FedAs, FedBy, Input, InputBy, IsEnded, KeptBy, Life, Loudly, Quietly, QuitBy, SendBy, Sent, SentAs, Stopping, Taken, TakenBy, is_hungry, is_nil, life, takes}
use Rattle.relay_session.specs.declared.end.End.{End}
use Rattle.relay_session.specs.declared.seat_answers.Made.{Made}
use Rattle.relay_session.specs.declared.seat_answers.Made.TheVariants as made
use Rattle.relay_session.specs.declared.turn.Turn.{Turn}
use Rattle.relay_session.proofs.SeatStanding.{go_on_same, go_on_trans}

module _ {P Q : Type 0} (fits : P → ℕ → Q → Type 0) (rules : P → PortRules) (root : P → Histories) (seen : Q → List Step) (count : Q → ℕ) (wants : Entry → Type 0) (busies : P → ℕ)
    (adds : List Step → List Step → List Step → Type 0) (kin : P → Kin) (branches : Q → List Branch) where
  abbrev On : Life P (SeatState Q) → Life P (SeatState Q) → Type 0
  On v w = GoesOn fits rules root seen busies v.port v.seat w.port w.seat

  abbrev Asks : P → SeatState Q → ℕ → Entry → Made → P → SeatState Q → Type 0
  Asks = AskedAlone fits rules root seen count wants busies adds kin branches

  pub on_refl : (v : Life P (SeatState Q)) → On v v
  on_refl v = record {
    knows = go_on_same (known root seen v.port v.seat) (known root seen v.port v.seat) (λ q. refl);
    stands = λ s. s;
    roots = go_on_same (root v.port) (root v.port) (λ q. refl);
    fixed = refl;
    later = omega arith;
    passes = λ q p f. f;
  }

  on_then : (u v w : Life P (SeatState Q)) → On u v → On v w → On u w
  on_then u v w a b = record {
    knows = go_on_trans (known root seen u.port u.seat) (known root seen v.port v.seat) (known root seen w.port w.seat) a.knows b.knows;
    stands = λ s. b.stands (a.stands s);
    roots = go_on_trans (root u.port) (root v.port) (root w.port) a.roots b.roots;
    fixed = b.fixed ∙ a.fixed;
    later = omega (arith, a.later, b.later);
    passes = λ q p f. b.passes q p (a.passes q p f);
  }

  on_asked : (v w : Life P (SeatState Q)) (place : ℕ) (e : Entry) (r : Made) → Asks v.port v.seat place e r w.port w.seat → On v w
  on_asked v w place e r a = record { knows = a.asked.knows; stands = a.asked.stands; roots = a.asked.roots; fixed = a.asked.fixed; later = a.asked.later; passes = a.asked.passes }

  on_ended : (e : End) (v : Life P (SeatState Q)) (a : Turn) (w : Life P (SeatState Q)) → IsEnded e v a w → On v w
  on_ended e v a w i =
      let T : P → Type 0 = λ p. GoesOn fits rules root seen busies v.port v.seat p w.seat in
      let U : SeatState Q → Type 0 = λ s. GoesOn fits rules root seen busies v.port v.seat v.port s in
      subst T (sym i.port) (subst U (sym i.seat) (on_refl v))

  -- ---- step 6

  on_taken_by : (o : Option Playing) (v : Life P (SeatState Q)) (moved : Bool) (a : Turn) (w : Life P (SeatState Q)) → TakenBy Asks o v moved a w → On v w
  on_taken_by None v moved a w t = subst (On v) (sym t.1) (on_refl v)
  on_taken_by (Some p) v moved a w t = on_asked v w t.place _ t.came t.asked

  on_taken : (v : Life P (SeatState Q)) (moved : Bool) (a : Turn) (w : Life P (SeatState Q)) → Taken Asks v moved a w → On v w
  on_taken v moved a w (inl t) = on_taken_by (takes t.0) (life t.0 v.input v.port v.seat) moved a w t.2
  on_taken v moved a w (inr t) = on_ended _ v a w t

  -- ---- a call that waited

  on_called_as : (v m : Life P (SeatState Q)) (e : Entry) (came : Made) → CallAsked Asks v e came m → On v m
  on_called_as v m e came c = on_asked v m c.place e came c.asked

  on_after : (v m : Life P (SeatState Q)) (came : Made) (a : Turn) (w : Life P (SeatState Q)) → AfterCall Asks v came m a w → On m w
  on_after v m (made.Answer r) a w (inl t) = on_taken m true a w t.1
  on_after v m (made.Answer r) a w (inr t) = on_ended _ m a w t
  on_after v m (made.Busy f) a w t = on_taken m true a w t
  on_after v m (made.Worn f) a w t = on_ended _ m a w t
  on_after v m (made.OutOfMemory f) a w t = on_ended _ m a w t

  on_called : (o : Option Entry) (v : Life P (SeatState Q)) (a : Turn) (w : Life P (SeatState Q)) → CalledBy Asks o v a w → On v w
  on_called None v a w t = on_taken v true a w t
  on_called (Some e) v a w t = on_then v t.1.0 w (on_called_as v t.1.0 e t.0 t.1.1.0) (on_after v t.1.0 t.0 a w t.1.1.1)

  module _ (desk : Ask → Grant) where
    -- ---- step 5

    on_fed_as : (by : FedBy) (v : Life P (SeatState Q)) (moved : Bool) (a : Turn) (w : Life P (SeatState Q)) → FedAs Asks desk by v moved a w → On v w
    on_fed_as Quietly v moved a w t = on_taken (life t.0 _ v.port v.seat) _ a w t.1.2
    on_fed_as Loudly v moved a w t = on_called _ (life t.0 t.1.0 v.port v.seat) a w t.1.1.2
    on_fed_as (Stopping e) v moved a w t = on_ended e (life t.0 v.input v.port v.seat) a w t.1.1

    on_fed : (v : Life P (SeatState Q)) (moved : Bool) (a : Turn) (w : Life P (SeatState Q)) → Fed Asks desk v moved a w → On v w
    on_fed v moved a w t = on_fed_as t.0 v moved a w t.1

    on_came : (came : Came) (v : Life P (SeatState Q)) (moved : Bool) (a : Turn) (w : Life P (SeatState Q)) → CameAs Asks desk came v moved a w → On v w
    on_came (CameBytes b) v moved a w (inl t) = on_fed (life v.parts b v.port v.seat) true a w t
    on_came (CameBytes b) v moved a w (inr t) = on_ended _ v a w t
    on_came CameNotYet v moved a w t = on_taken v moved a w t
    on_came CameEnd v moved a w t = on_ended _ v a w t
    on_came CameFailed v moved a w t = on_ended _ v a w t

    module _ {L : Type 0} (hears : L → ℕ → Came → L → Type 0) where
      on_empty : (b : Bool) (v : Life P (SeatState Q)) (l : L) (moved : Bool) (a : Turn) (w : Life P (SeatState Q)) (m : L) → EmptyBy Asks desk hears b v l moved a w m → On v w
      on_empty true v l moved a w m t = on_came t.0 v moved a w t.1.1
      on_empty false v l moved a w m t = on_fed v moved a w t.0

      on_input_by : (b : Bool) (v : Life P (SeatState Q)) (l : L) (moved : Bool) (a : Turn) (w : Life P (SeatState Q)) (m : L) → InputBy Asks desk hears b v l moved a w m → On v w
      on_input_by true v l moved a w m t = on_empty (is_nil v.input) v l moved a w m t
      on_input_by false v l moved a w m t = on_taken v moved a w t.0

      on_input : (v : Life P (SeatState Q)) (l : L) (moved : Bool) (a : Turn) (w : Life P (SeatState Q)) (m : L) → Input Asks desk hears v l moved a w m → On v w
      on_input v l moved a w m t = on_input_by (is_hungry v.parts) v l moved a w m t

      module _ (says : L → List ℕ → Said → L → Type 0) where
        -- ---- step 4

        on_sent_as : (q : Said) (v : Life P (SeatState Q)) (l : L) (moved : Bool) (a : Turn) (w : Life P (SeatState Q)) (m : L) → SentAs Asks desk hears says q v l moved a w m → On v w
        on_sent_as (said.Took n) v l moved a w m t = on_input (life t.0 v.input v.port v.seat) l true a w m t.1.1
        on_sent_as said.NotYet v l moved a w m t = on_input v l moved a w m t
        on_sent_as said.Failed v l moved a w m t = on_ended _ v a w t.0
        on_sent_as said.OutOfMemory v l moved a w m t = on_ended _ v a w t.0

        on_send : (b : Bool) (v : Life P (SeatState Q)) (l : L) (moved : Bool) (a : Turn) (w : Life P (SeatState Q)) (m : L) → SendBy Asks desk hears says b v l moved a w m → On v w
        on_send true v l moved a w m t = on_input v l moved a w m t
        on_send false v l moved a w m t = on_sent_as t.0 v t.1.0 moved a w m t.1.1.1

        on_sent : (v : Life P (SeatState Q)) (l : L) (moved : Bool) (a : Turn) (w : Life P (SeatState Q)) (m : L) → Sent Asks desk hears says v l moved a w m → On v w
        on_sent v l moved a w m (inl t) = on_send (is_nil (pending t.0.outgoing)) (life t.0 v.input v.port v.seat) l moved a w m t.1.1
        on_sent v l moved a w m (inr t) = on_ended _ v a w t.0

        -- ---- steps 3, 2 and 1

        on_quit : (quit : Bool) (v : Life P (SeatState Q)) (l : L) (moved : Bool) (a : Turn) (w : Life P (SeatState Q)) (m : L) → QuitBy Asks desk hears says quit v l moved a w m → On v w
        on_quit true v l moved a w m t = on_ended _ v a w t.0
        on_quit false v l moved a w m t = on_sent v l moved a w m t

        on_after_kept : (quit : Bool) (v k : Life P (SeatState Q)) (came : Made) (l : L) (a : Turn) (w : Life P (SeatState Q)) (m : L) → AfterKept Asks desk hears says quit v came k l a w m → On k w
        on_after_kept quit v k (made.Answer r) l a w m (inl t) = on_quit quit k l true a w m t.1
        on_after_kept quit v k (made.Answer r) l a w m (inr t) = on_ended _ k a w t.0
        on_after_kept quit v k (made.Busy f) l a w m t = subst (On k) (sym t.1) (on_refl k)
        on_after_kept quit v k (made.Worn f) l a w m t = on_ended _ k a w t.0
        on_after_kept quit v k (made.OutOfMemory f) l a w m t = on_ended _ k a w t.0

        pub on_kept : (o : Option Entry) (quit : Bool) (v : Life P (SeatState Q)) (l : L) (a : Turn) (w : Life P (SeatState Q)) (m : L) → KeptBy Asks desk hears says o quit v l a w m → On v w
        on_kept None quit v l a w m t = on_quit quit v l false a w m t
        on_kept (Some e) quit v l a w m t = on_then v t.1.0 w (on_called_as v t.1.0 e t.0 t.1.1.0) (on_after_kept quit v t.1.0 t.0 l a w m t.1.1.1)
