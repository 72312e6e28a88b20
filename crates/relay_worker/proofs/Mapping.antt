-- A turn at a port is a turn seen without it: by the session's visits, and by what its link tells
use Rattle.std.proofs.Common.{◌≡◌, inl, inr, ℕ, ◌<◌, Bool, true, false, List, [], length, take, refl, ap, arith, Option, Some, None}
use Rattle.relay_outside.specs.Heard.{Came, CameBytes, CameEnd, CameNotYet, CameFailed, HearStep}
use Rattle.relay_outside.specs.Said.{SayStep}
use Rattle.relay_outside.specs.Told.{LinkTold, LinkCounts}
use Rattle.relay_outside.specs.declared.link.Said.{Said}
use Rattle.relay_outside.specs.declared.link.Said.TheVariants as said
use Rattle.command_dialog.specs.declared.types.Ask.{Ask}
use Rattle.command_dialog.specs.declared.types.Grant.{Grant}
use Rattle.command_dialog.specs.declared.types.Playing.{Playing}
use Rattle.stream_model.specs.declared.calls.Entry.{Entry}
use Rattle.relay_session.specs.Owing.{pending}
use Rattle.relay_session.specs.SeatState.{Makes}
use Rattle.relay_session.specs.SeatVisits.{Visit}
use Rattle.relay_session.specs.Turns.{AfterCall, AfterKept, CallAsked, CallMade, CalledBy, CameAs, EmptyBy, EndedBy, Fed, FedAs, FedBy, Input, InputBy, IsEnded, KeptBy, Life, Loudly, Quietly, QuitBy, SendBy, Sent, SentAs, Stopping, TakeMade, Taken, TakenBy, is_hungry, is_nil, life, take_entry, takes}
use Rattle.relay_session.specs.declared.core_fields.Core.{Core}
use Rattle.relay_session.specs.declared.end.End.{End}
use Rattle.relay_session.specs.declared.seat_answers.Made.{Made}
use Rattle.relay_session.specs.declared.seat_answers.Made.TheVariants as made
use Rattle.relay_session.specs.declared.turn.Turn.{Turn}
use Rattle.relay_worker.specs.Turned.{Alive, Asks, Hears, Says, Wire, alive, wire}
use Rattle.relay_worker.proofs.Turning.{some_nil}

abbrev bare_by : {P S : Type 0} → (S → List Visit) → Life P S → Alive
bare_by visits v = alive v.parts v.input (visits v.seat)

module _ {P S L : Type 0} (told : L → Option LinkTold) (counts : L → LinkCounts) (visits : S → List Visit) (desk : Ask → Grant) where
  abbrev bare : Life P S → Alive
  bare v = bare_by visits v

  ended : (e : End) (v : Life P S) (a : Turn) (w : Life P S) → IsEnded e v a w → IsEnded e (bare v) a (bare w)
  ended e v a w i = record { ended = i.ended; gone = i.gone; port = refl; seat = ap visits i.seat }

  take_made : (v : Life P S) (e : Entry) (moved : Bool) (came : Made) (w : Life P S) (a : Turn) → TakeMade v e moved came w a → TakeMade (bare v) e moved came (bare w) a
  take_made v e moved (made.Answer r) w a t = t
  take_made v e moved (made.Busy f) w a t = t
  take_made v e moved (made.Worn f) w a t = t
  take_made v e moved (made.OutOfMemory f) w a t = t

  call_made : (v : Life P S) (e : Entry) (came : Made) (w : Life P S) → CallMade v e came w → CallMade (bare v) e came (bare w)
  call_made v e (made.Answer r) w t = t
  call_made v e (made.Busy f) w t = t
  call_made v e (made.Worn f) w t = t
  call_made v e (made.OutOfMemory f) w t = t

  module _ (asks : P → S → ℕ → Entry → Made → P → S → Type 0) (makes : (x : P) (s : S) (place : ℕ) (e : Entry) (r : Made) (y : P) (t : S) → asks x s place e r y t → Makes place e r (visits s) (visits t)) where
    -- ---- step 6

    taken_by : (o : Option Playing) (v : Life P S) (moved : Bool) (a : Turn) (w : Life P S) → TakenBy asks o v moved a w → TakenBy Asks o (bare v) moved a (bare w)
    taken_by None v moved a w t = (t.0, ap bare t.1)
    taken_by (Some p) v moved a w t = record {
      place = t.place;
      there = t.there;
      came = t.came;
      asked = makes v.port v.seat t.place (take_entry v.parts p) t.came w.port w.seat t.asked;
      taken = take_made v (take_entry v.parts p) moved t.came w a t.taken;
      input = t.input;
    }

    taken : (v : Life P S) (moved : Bool) (a : Turn) (w : Life P S) → Taken asks v moved a w → Taken Asks (bare v) moved a (bare w)
    taken v moved a w (inl t) = inl (t.0, t.1, taken_by (takes t.0) (life t.0 v.input v.port v.seat) moved a w t.2)
    taken v moved a w (inr t) = inr (ended _ v a w t)

    -- ---- a call that waited

    asked : (v : Life P S) (e : Entry) (came : Made) (w : Life P S) → CallAsked asks v e came w → CallAsked Asks (bare v) e came (bare w)
    asked v e came w c = record {
      place = c.place;
      there = c.there;
      asked = makes v.port v.seat c.place e came w.port w.seat c.asked;
      called = call_made v e came w c.called;
      input = c.input;
    }

    after_call : (v m : Life P S) (came : Made) (a : Turn) (w : Life P S) → AfterCall asks v came m a w → AfterCall Asks (bare v) came (bare m) a (bare w)
    after_call v m (made.Answer r) a w (inl t) = inl (t.0, taken m true a w t.1, t.2)
    after_call v m (made.Answer r) a w (inr t) = inr (ended _ m a w t)
    after_call v m (made.Busy f) a w t = taken m true a w t
    after_call v m (made.Worn f) a w t = ended _ m a w t
    after_call v m (made.OutOfMemory f) a w t = ended _ m a w t

    called : (o : Option Entry) (v : Life P S) (a : Turn) (w : Life P S) → CalledBy asks o v a w → CalledBy Asks o (bare v) a (bare w)
    called None v a w t = taken v true a w t
    called (Some e) v a w t = (t.0, (bare t.1.0, (asked v e t.0 t.1.0 t.1.1.0, after_call v t.1.0 t.0 a w t.1.1.1)))

    -- ---- step 5

    fed_as : (by : FedBy) (v : Life P S) (moved : Bool) (a : Turn) (w : Life P S) → FedAs asks desk by v moved a w → FedAs Asks desk by (bare v) moved a (bare w)
    fed_as Quietly v moved a w t = (t.0, (t.1.0, t.1.1, taken (life t.0 [] v.port v.seat) _ a w t.1.2, t.1.3))
    fed_as Loudly v moved a w t = (t.0, (t.1.0, (t.1.1.0, t.1.1.1, called _ (life t.0 t.1.0 v.port v.seat) a w t.1.1.2, t.1.1.3, t.1.1.4)))
    fed_as (Stopping e) v moved a w t = (t.0, (t.1.0, ended e (life t.0 v.input v.port v.seat) a w t.1.1))

    fed : (v : Life P S) (moved : Bool) (a : Turn) (w : Life P S) → Fed asks desk v moved a w → Fed Asks desk (bare v) moved a (bare w)
    fed v moved a w t = (t.0, fed_as t.0 v moved a w t.1)

    came_as : (came : Came) (v : Life P S) (moved : Bool) (a : Turn) (w : Life P S) → CameAs asks desk came v moved a w → CameAs Asks desk came (bare v) moved a (bare w)
    came_as (CameBytes b) v moved a w (inl t) = inl (fed (life v.parts b v.port v.seat) true a w t)
    came_as (CameBytes b) v moved a w (inr t) = inr (ended _ v a w t)
    came_as CameNotYet v moved a w t = taken v moved a w t
    came_as CameEnd v moved a w t = ended _ v a w t
    came_as CameFailed v moved a w t = ended _ v a w t

    module _ (hears : L → ℕ → Came → L → Type 0) (hears_mean : (l : L) (room : ℕ) (answer : Came) (m : L) → 0 < room → hears l room answer m → HearStep room (told l) (told m) (counts l) (counts m) answer) where
      empty_by : (b : Bool) (v : Life P S) (l : L) (moved : Bool) (a : Turn) (w : Life P S) (m : L) → EmptyBy asks desk hears b v l moved a w m → EmptyBy Asks desk Hears b (bare v) (wire (told l) (counts l)) moved a (bare w) (wire (told m) (counts m))
      empty_by true v l moved a w m t = (t.0, (hears_mean l 4096 t.0 m (omega arith) t.1.0, came_as t.0 v moved a w t.1.1))
      empty_by false v l moved a w m t = (fed v moved a w t.0, ap (λ (n : L). wire (told n) (counts n)) t.1)

      input_by : (b : Bool) (v : Life P S) (l : L) (moved : Bool) (a : Turn) (w : Life P S) (m : L) → InputBy asks desk hears b v l moved a w m → InputBy Asks desk Hears b (bare v) (wire (told l) (counts l)) moved a (bare w) (wire (told m) (counts m))
      input_by true v l moved a w m t = empty_by (is_nil v.input) v l moved a w m t
      input_by false v l moved a w m t = (taken v moved a w t.0, ap (λ (n : L). wire (told n) (counts n)) t.1)

      input : (v : Life P S) (l : L) (moved : Bool) (a : Turn) (w : Life P S) (m : L) → Input asks desk hears v l moved a w m → Input Asks desk Hears (bare v) (wire (told l) (counts l)) moved a (bare w) (wire (told m) (counts m))
      input v l moved a w m t = input_by (is_hungry v.parts) v l moved a w m t

      module _ (says : L → List ℕ → Said → L → Type 0) (says_mean : (l : L) (piece : List ℕ) (answer : Said) (m : L) → 0 < length piece → says l piece answer m → SayStep piece (told l) (told m) (counts l) (counts m) answer) where
        -- ---- step 4

        sent_as : (q : Said) (v : Life P S) (l : L) (moved : Bool) (a : Turn) (w : Life P S) (m : L) → SentAs asks desk hears says q v l moved a w m → SentAs Asks desk Hears Says q (bare v) (wire (told l) (counts l)) moved a (bare w) (wire (told m) (counts m))
        sent_as (said.Took n) v l moved a w m t = (t.0, (t.1.0, input (life t.0 v.input v.port v.seat) l true a w m t.1.1, t.1.2))
        sent_as said.NotYet v l moved a w m t = input v l moved a w m t
        sent_as said.Failed v l moved a w m t = (ended _ v a w t.0, ap (λ (n : L). wire (told n) (counts n)) t.1)
        sent_as said.OutOfMemory v l moved a w m t = (ended _ v a w t.0, ap (λ (n : L). wire (told n) (counts n)) t.1)

        send_by : (b : Bool) (v : Life P S) (l : L) (moved : Bool) (a : Turn) (w : Life P S) (m : L) → is_nil (pending v.parts.outgoing) ≡ b → SendBy asks desk hears says b v l moved a w m → SendBy Asks desk Hears Says b (bare v) (wire (told l) (counts l)) moved a (bare w) (wire (told m) (counts m))
        send_by true v l moved a w m e t = input v l moved a w m t
        send_by false v l moved a w m e t =
            (t.0, (wire (told t.1.0) (counts t.1.0), (says_mean l (take 16384 (pending v.parts.outgoing)) t.0 t.1.0 (some_nil (pending v.parts.outgoing) e) t.1.1.0, sent_as t.0 v t.1.0 moved a w m t.1.1.1)))

        sent : (v : Life P S) (l : L) (moved : Bool) (a : Turn) (w : Life P S) (m : L) → Sent asks desk hears says v l moved a w m → Sent Asks desk Hears Says (bare v) (wire (told l) (counts l)) moved a (bare w) (wire (told m) (counts m))
        sent v l moved a w m (inl t) = inl (t.0, (t.1.0, send_by (is_nil (pending t.0.outgoing)) (life t.0 v.input v.port v.seat) l moved a w m refl t.1.1))
        sent v l moved a w m (inr t) = inr (ended _ v a w t.0, ap (λ (n : L). wire (told n) (counts n)) t.1)

        -- ---- steps 3, 2 and 1

        quit_by : (q : Bool) (v : Life P S) (l : L) (moved : Bool) (a : Turn) (w : Life P S) (m : L) → QuitBy asks desk hears says q v l moved a w m → QuitBy Asks desk Hears Says q (bare v) (wire (told l) (counts l)) moved a (bare w) (wire (told m) (counts m))
        quit_by true v l moved a w m t = (ended _ v a w t.0, ap (λ (n : L). wire (told n) (counts n)) t.1)
        quit_by false v l moved a w m t = sent v l moved a w m t

        after_kept : (q : Bool) (v k : Life P S) (came : Made) (l : L) (a : Turn) (w : Life P S) (m : L) → AfterKept asks desk hears says q v came k l a w m → AfterKept Asks desk Hears Says q (bare v) came (bare k) (wire (told l) (counts l)) a (bare w) (wire (told m) (counts m))
        after_kept q v k (made.Answer r) l a w m (inl t) = inl (t.0, quit_by q k l true a w m t.1, t.2)
        after_kept q v k (made.Answer r) l a w m (inr t) = inr (ended _ k a w t.0, ap (λ (n : L). wire (told n) (counts n)) t.1)
        after_kept q v k (made.Busy f) l a w m t = (t.0, ap bare t.1, ap (λ (n : L). wire (told n) (counts n)) t.2)
        after_kept q v k (made.Worn f) l a w m t = (ended _ k a w t.0, ap (λ (n : L). wire (told n) (counts n)) t.1)
        after_kept q v k (made.OutOfMemory f) l a w m t = (ended _ k a w t.0, ap (λ (n : L). wire (told n) (counts n)) t.1)

        kept_by : (o : Option Entry) (q : Bool) (v : Life P S) (l : L) (a : Turn) (w : Life P S) (m : L) → KeptBy asks desk hears says o q v l a w m → KeptBy Asks desk Hears Says o q (bare v) (wire (told l) (counts l)) a (bare w) (wire (told m) (counts m))
        kept_by None q v l a w m t = quit_by q v l false a w m t
        kept_by (Some e) q v l a w m t = (t.0, (bare t.1.0, (asked v e t.0 t.1.0 t.1.1.0, after_kept q v t.1.0 t.0 l a w m t.1.1.1)))

        -- A TURN of one that lives
        pub mapped : (o : Option End) (q : Bool) (v : Life P S) (l : L) (a : Turn) (w : Life P S) (m : L) → EndedBy asks desk hears says o q v l a w m → EndedBy Asks desk Hears Says o q (bare v) (wire (told l) (counts l)) a (bare w) (wire (told m) (counts m))
        mapped None q v l a w m t = kept_by v.parts.kept q v l a w m t
        mapped (Some e) q v l a w m t = (t.0, ap bare t.1, ap (λ (n : L). wire (told n) (counts n)) t.2)
