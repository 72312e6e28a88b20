-- A turn leaves a session's name, its window and its longest message
use Rattle.std.proofs.Common.{inl, inr, ◌≡◌, ℕ, Bool, true, false, List, ap, ◌∙◌, Option, Some, None}
use Rattle.relay_outside.specs.Heard.{Came, CameBytes, CameEnd, CameNotYet, CameFailed}
use Rattle.relay_outside.specs.declared.link.Said.{Said}
use Rattle.relay_outside.specs.declared.link.Said.TheVariants as said
use Rattle.command_dialog.specs.declared.types.Ask.{Ask}
use Rattle.command_dialog.specs.declared.types.Grant.{Grant}
use Rattle.command_dialog.specs.declared.types.Playing.{Playing}
use Rattle.stream_model.specs.declared.calls.Entry.{Entry}
use Rattle.relay_session.specs.Feeding.{Firm, Fixed}
use Rattle.relay_session.specs.Owing.{pending}
use Rattle.relay_session.specs.SessionState.{Lasting, lasting_of}
use Rattle.relay_session.specs.Turns.{AfterCall, AfterKept, CallMade, CalledBy, CameAs, EmptyBy, Fed, FedAs, FedBy, Gone, Input, InputBy, IsEnded, IsFilled, KeptBy, Life, Loudly, Quietly, QuitBy, SendBy, Sent, SentAs, Stopping, TakeMade, Taken, TakenBy, is_hungry, is_nil, life, takes}
use Rattle.relay_session.specs.declared.core_fields.Core.{Core}
use Rattle.relay_session.specs.declared.end.End.{End}
use Rattle.relay_session.specs.declared.seat_answers.Made.{Made}
use Rattle.relay_session.specs.declared.seat_answers.Made.TheVariants as made
use Rattle.relay_session.specs.declared.turn.Turn.{Turn}

abbrev Same : Core → Core → Type 0
Same c d = lasting_of d ≡ lasting_of c

abbrev firm_lasting : Firm → Lasting
firm_lasting f = record { who = f.who; window = f.window; max = f.max }

abbrev fixed_lasting : Fixed → Lasting
fixed_lasting f = record { who = f.who; window = f.window; max = f.max }

abbrev gone_lasting : Gone → Lasting
gone_lasting g = record { who = g.who; window = g.window; max = g.max }

filled_same : (c d : Core) → IsFilled c d → Same c d
filled_same c d f = ap lasting_of f.rest

module _ {P S : Type 0} (asks : P → S → ℕ → Entry → Made → P → S → Type 0) where
  ended_same : (e : End) (v : Life P S) (a : Turn) (w : Life P S) → IsEnded e v a w → Same v.parts w.parts
  ended_same e v a w i = ap gone_lasting i.gone

  -- ---- step 6

  made_same : (v : Life P S) (e : Entry) (moved : Bool) (came : Made) (w : Life P S) (a : Turn) → TakeMade v e moved came w a → Same v.parts w.parts
  made_same v e moved (made.Answer r) w a t = ap firm_lasting t.0.firm
  made_same v e moved (made.Busy f) w a t = ap lasting_of t.0
  made_same v e moved (made.Worn f) w a t = ap lasting_of t.0
  made_same v e moved (made.OutOfMemory f) w a t = ap lasting_of t.0

  taken_by_same : (o : Option Playing) (v : Life P S) (moved : Bool) (a : Turn) (w : Life P S) → TakenBy asks o v moved a w → Same v.parts w.parts
  taken_by_same None v moved a w t = ap (λ (x : Life P S). lasting_of x.parts) t.1
  taken_by_same (Some p) v moved a w t = made_same v _ moved t.came w a t.taken

  taken_same : (v : Life P S) (moved : Bool) (a : Turn) (w : Life P S) → Taken asks v moved a w → Same v.parts w.parts
  taken_same v moved a w (inl t) = taken_by_same (takes t.0) (life t.0 v.input v.port v.seat) moved a w t.2 ∙ filled_same v.parts t.0 t.1
  taken_same v moved a w (inr t) = ended_same _ v a w t

  -- ---- a call that waited

  call_same : (v : Life P S) (e : Entry) (came : Made) (w : Life P S) → CallMade v e came w → Same v.parts w.parts
  call_same v e (made.Answer r) w t = ap firm_lasting t.firm
  call_same v e (made.Busy f) w t = ap lasting_of t
  call_same v e (made.Worn f) w t = ap lasting_of t
  call_same v e (made.OutOfMemory f) w t = ap lasting_of t

  after_same : (v m : Life P S) (came : Made) (a : Turn) (w : Life P S) → AfterCall asks v came m a w → Same m.parts w.parts
  after_same v m (made.Answer r) a w (inl t) = taken_same m true a w t.1
  after_same v m (made.Answer r) a w (inr t) = ended_same _ m a w t
  after_same v m (made.Busy f) a w t = taken_same m true a w t
  after_same v m (made.Worn f) a w t = ended_same _ m a w t
  after_same v m (made.OutOfMemory f) a w t = ended_same _ m a w t

  called_same : (o : Option Entry) (v : Life P S) (a : Turn) (w : Life P S) → CalledBy asks o v a w → Same v.parts w.parts
  called_same None v a w t = taken_same v true a w t
  called_same (Some e) v a w t = after_same v t.1.0 t.0 a w t.1.1.1 ∙ call_same v e t.0 t.1.0 t.1.1.0.called

  module _ (desk : Ask → Grant) where
    -- ---- step 5

    fed_as_same : (by : FedBy) (v : Life P S) (moved : Bool) (a : Turn) (w : Life P S) → FedAs asks desk by v moved a w → Same v.parts w.parts
    fed_as_same Quietly v moved a w t = taken_same (life t.0 _ v.port v.seat) _ a w t.1.2 ∙ ap fixed_lasting t.1.0.fixed
    fed_as_same Loudly v moved a w t = called_same _ (life t.0 t.1.0 v.port v.seat) a w t.1.1.2 ∙ ap fixed_lasting t.1.1.0.fixed
    fed_as_same (Stopping e) v moved a w t = ended_same e (life t.0 v.input v.port v.seat) a w t.1.1 ∙ ap fixed_lasting t.1.0.fixed

    fed_same : (v : Life P S) (moved : Bool) (a : Turn) (w : Life P S) → Fed asks desk v moved a w → Same v.parts w.parts
    fed_same v moved a w t = fed_as_same t.0 v moved a w t.1

    came_same : (came : Came) (v : Life P S) (moved : Bool) (a : Turn) (w : Life P S) → CameAs asks desk came v moved a w → Same v.parts w.parts
    came_same (CameBytes b) v moved a w (inl t) = fed_same (life v.parts b v.port v.seat) true a w t
    came_same (CameBytes b) v moved a w (inr t) = ended_same _ v a w t
    came_same CameNotYet v moved a w t = taken_same v moved a w t
    came_same CameEnd v moved a w t = ended_same _ v a w t
    came_same CameFailed v moved a w t = ended_same _ v a w t

    module _ {L : Type 0} (hears : L → ℕ → Came → L → Type 0) where
      empty_same : (b : Bool) (v : Life P S) (l : L) (moved : Bool) (a : Turn) (w : Life P S) (m : L) → EmptyBy asks desk hears b v l moved a w m → Same v.parts w.parts
      empty_same true v l moved a w m t = came_same t.0 v moved a w t.1.1
      empty_same false v l moved a w m t = fed_same v moved a w t.0

      input_by_same : (b : Bool) (v : Life P S) (l : L) (moved : Bool) (a : Turn) (w : Life P S) (m : L) → InputBy asks desk hears b v l moved a w m → Same v.parts w.parts
      input_by_same true v l moved a w m t = empty_same (is_nil v.input) v l moved a w m t
      input_by_same false v l moved a w m t = taken_same v moved a w t.0

      input_same : (v : Life P S) (l : L) (moved : Bool) (a : Turn) (w : Life P S) (m : L) → Input asks desk hears v l moved a w m → Same v.parts w.parts
      input_same v l moved a w m t = input_by_same (is_hungry v.parts) v l moved a w m t

      module _ (says : L → List ℕ → Said → L → Type 0) where
        -- ---- step 4

        sent_as_same : (q : Said) (v : Life P S) (l : L) (moved : Bool) (a : Turn) (w : Life P S) (m : L) → SentAs asks desk hears says q v l moved a w m → Same v.parts w.parts
        sent_as_same (said.Took n) v l moved a w m t = input_same (life t.0 v.input v.port v.seat) l true a w m t.1.1 ∙ ap firm_lasting t.1.0.firm
        sent_as_same said.NotYet v l moved a w m t = input_same v l moved a w m t
        sent_as_same said.Failed v l moved a w m t = ended_same _ v a w t.0
        sent_as_same said.OutOfMemory v l moved a w m t = ended_same _ v a w t.0

        send_same : (b : Bool) (v : Life P S) (l : L) (moved : Bool) (a : Turn) (w : Life P S) (m : L) → SendBy asks desk hears says b v l moved a w m → Same v.parts w.parts
        send_same true v l moved a w m t = input_same v l moved a w m t
        send_same false v l moved a w m t = sent_as_same t.0 v t.1.0 moved a w m t.1.1.1

        sent_same : (v : Life P S) (l : L) (moved : Bool) (a : Turn) (w : Life P S) (m : L) → Sent asks desk hears says v l moved a w m → Same v.parts w.parts
        sent_same v l moved a w m (inl t) = send_same (is_nil (pending t.0.outgoing)) (life t.0 v.input v.port v.seat) l moved a w m t.1.1 ∙ filled_same v.parts t.0 t.1.0
        sent_same v l moved a w m (inr t) = ended_same _ v a w t.0

        -- ---- steps 3 and 2

        quit_same : (quit : Bool) (v : Life P S) (l : L) (moved : Bool) (a : Turn) (w : Life P S) (m : L) → QuitBy asks desk hears says quit v l moved a w m → Same v.parts w.parts
        quit_same true v l moved a w m t = ended_same _ v a w t.0
        quit_same false v l moved a w m t = sent_same v l moved a w m t

        after_kept_same : (quit : Bool) (v k : Life P S) (came : Made) (l : L) (a : Turn) (w : Life P S) (m : L) → AfterKept asks desk hears says quit v came k l a w m → Same k.parts w.parts
        after_kept_same quit v k (made.Answer r) l a w m (inl t) = quit_same quit k l true a w m t.1
        after_kept_same quit v k (made.Answer r) l a w m (inr t) = ended_same _ k a w t.0
        after_kept_same quit v k (made.Busy f) l a w m t = ap (λ (x : Life P S). lasting_of x.parts) t.1
        after_kept_same quit v k (made.Worn f) l a w m t = ended_same _ k a w t.0
        after_kept_same quit v k (made.OutOfMemory f) l a w m t = ended_same _ k a w t.0

        pub kept_same : (o : Option Entry) (quit : Bool) (v : Life P S) (l : L) (a : Turn) (w : Life P S) (m : L) → KeptBy asks desk hears says o quit v l a w m → Same v.parts w.parts
        kept_same None quit v l a w m t = quit_same quit v l false a w m t
        kept_same (Some e) quit v l a w m t = after_kept_same quit v t.1.0 t.0 l a w m t.1.1.1 ∙ call_same v e t.0 t.1.0 t.1.1.0.called
