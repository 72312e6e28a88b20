-- A turn leaves a player's name and its longest unit
use Rattle.std.proofs.Common.{inl, inr, ◌≡◌, ℕ, Bool, true, false, List, ap, ◌∙◌, Option, Some, None, Result, Ok, Err}
use Rattle.relay_outside.specs.Heard.{Came, CameBytes, CameEnd, CameNotYet, CameFailed}
use Rattle.relay_outside.specs.declared.link.Said.{Said}
use Rattle.relay_outside.specs.declared.link.Said.TheVariants as said
use Rattle.command_dialog.specs.declared.types.Ask.{Ask}
use Rattle.command_dialog.specs.declared.types.Grant.{Grant}
use Rattle.stream_model.specs.declared.calls.Entry.{Entry}
use Rattle.relay_session.specs.Turns.{is_nil}
use Rattle.relay_session.specs.declared.seat_answers.Made.{Made}
use Rattle.relay_session.specs.declared.seat_answers.Made.TheVariants as made
use Rattle.http_flv.specs.PlayerState.{Lasting, lasting_of}
use Rattle.http_flv.specs.Turns.{AfterJoin, AfterKept, CameAs, DroppedBy, Gone, HeardBy, Input, IsEnded, IsTried, IsUnheard, JoinMade, JoinedBy, KeptOn, Life, ReadBy, SendBy, Sent, SentAs, TakeMade, Taken, TakenBy, ToldBy, life, takes, told}
use Rattle.http_flv.specs.declared.core_fields.Core.{Core}
use Rattle.http_flv.specs.declared.end.HttpEnd.{HttpEnd}
use Rattle.http_flv.specs.declared.stage.Stage.{Stage}
use Rattle.http_flv.specs.declared.stage.Stage.TheVariants as stage
use Rattle.http_flv.specs.declared.turn.HttpTurn.{HttpTurn}

abbrev Same : Core → Core → Type 0
Same c d = lasting_of d ≡ lasting_of c

abbrev gone_lasting : Gone → Lasting
gone_lasting g = record { who = g.who; longest = g.longest }

unheard_same : (c d : Core) (b : List ℕ) → IsUnheard c b d → Same c d
unheard_same c d b (inl g) = ap gone_lasting g
unheard_same c d b (inr t) = ap gone_lasting t.1.1

module _ {P S : Type 0} (asks : P → S → ℕ → Entry → Made → P → S → Type 0) where
  ended_same : (e : HttpEnd) (v : Life P S) (a : HttpTurn) (w : Life P S) → IsEnded e v a w → Same v.parts w.parts
  ended_same e v a w i = ap gone_lasting i.gone

  -- ---- a Take

  take_same : (v : Life P S) (e : Entry) (moved : Bool) (came : Made) (w : Life P S) (a : HttpTurn) → TakeMade asks v e moved came w a → Same v.parts w.parts
  take_same v e moved (made.Answer r) w a (inl t) = ap lasting_of t.0.rest
  take_same v e moved (made.Answer r) w a (inr t) = ap gone_lasting t.0
  take_same v e moved (made.Busy f) w a t = ap lasting_of t.0
  take_same v e moved (made.Worn f) w a t = ap lasting_of t.0
  take_same v e moved (made.OutOfMemory f) w a t = ap lasting_of t.0

  taken_by_same : (o : Option (ℕ × ℕ)) (v : Life P S) (moved : Bool) (a : HttpTurn) (w : Life P S) → TakenBy asks o v moved a w → Same v.parts w.parts
  taken_by_same None v moved a w t = ap (λ (x : Life P S). lasting_of x.parts) t.1
  taken_by_same (Some p) v moved a w t = take_same v _ moved t.came w a t.taken

  taken_same : (v : Life P S) (moved : Bool) (a : HttpTurn) (w : Life P S) → Taken asks v moved a w → Same v.parts w.parts
  taken_same v moved a w t = taken_by_same (takes v.parts) v moved a w t

  -- ---- its Join

  join_same : (v : Life P S) (place : ℕ) (e : Entry) (came : Made) (r : Result Bool HttpEnd) (w : Life P S) → JoinMade asks v place e came r w → Same v.parts w.parts
  join_same v place e (made.Answer x) r w (inl t) = ap lasting_of t.1.rest
  join_same v place e (made.Answer x) r w (inr t) = ap gone_lasting t.1
  join_same v place e (made.Busy f) r w t = ap lasting_of t.1
  join_same v place e (made.Worn f) r w t = ap lasting_of t.1
  join_same v place e (made.OutOfMemory f) r w t = ap lasting_of t.1

  tried_same : (v : Life P S) (e : Entry) (r : Result Bool HttpEnd) (w : Life P S) → IsTried asks v e r w → Same v.parts w.parts
  tried_same v e r w t = join_same v t.place e t.came r w t.became

  after_same : (r : Result Bool HttpEnd) (m : Life P S) (a : HttpTurn) (w : Life P S) → AfterJoin asks r m a w → Same m.parts w.parts
  after_same (Ok made) m a w t = taken_same m true a w t
  after_same (Err e) m a w t = ended_same e m a w t

  joined_same : (o : Option Entry) (v : Life P S) (a : HttpTurn) (w : Life P S) → JoinedBy asks o v a w → Same v.parts w.parts
  joined_same None v a w t = taken_same v true a w t
  joined_same (Some e) v a w t = after_same t.0 t.1.0 a w t.1.1.1 ∙ tried_same v e t.0 t.1.0 t.1.1.0

  module _ (desk : Ask → Grant) where
    -- ---- what came

    heard_same : (b : List ℕ) (v : Life P S) (a : HttpTurn) (w : Life P S) → HeardBy asks desk b v a w → Same v.parts w.parts
    heard_same b v a w (inl t) = joined_same t.0.kept (life t.0 v.port v.seat) a w t.1.1 ∙ ap lasting_of t.1.0.rest
    heard_same b v a w (inr t) = ended_same _ (life t.0 v.port v.seat) a w t.1.1 ∙ unheard_same v.parts t.0 b t.1.0

    dropped_same : (b : List ℕ) (v : Life P S) (a : HttpTurn) (w : Life P S) → DroppedBy asks desk b v a w → Same v.parts w.parts
    dropped_same b v a w t = taken_same (life t.0 v.port v.seat) true a w t.1.1 ∙ ap lasting_of t.1.0

    read_same : (s : Stage) (b : List ℕ) (v : Life P S) (a : HttpTurn) (w : Life P S) → ReadBy asks desk s b v a w → Same v.parts w.parts
    read_same stage.Reading b v a w t = heard_same b v a w t
    read_same (stage.Joining place) b v a w t = dropped_same b v a w t
    read_same (stage.Telling r) b v a w t = dropped_same b v a w t
    read_same (stage.Playing place player) b v a w t = dropped_same b v a w t

    came_same : (came : Came) (v : Life P S) (moved : Bool) (a : HttpTurn) (w : Life P S) → CameAs asks desk came v moved a w → Same v.parts w.parts
    came_same (CameBytes b) v moved a w t = read_same v.parts.stage b v a w t
    came_same CameNotYet v moved a w t = taken_same v moved a w t
    came_same CameEnd v moved a w t = ended_same _ v a w t
    came_same CameFailed v moved a w t = ended_same _ v a w t

    module _ {L : Type 0} (hears : L → ℕ → Came → L → Type 0) where
      input_same : (v : Life P S) (l : L) (moved : Bool) (a : HttpTurn) (w : Life P S) (m : L) → Input asks desk hears v l moved a w m → Same v.parts w.parts
      input_same v l moved a w m t = came_same t.0 v moved a w t.1.1

      module _ (says : L → List ℕ → Said → L → Type 0) where
        -- ---- what was sent

        told_same : (o : Option ℕ) (v : Life P S) (l : L) (a : HttpTurn) (w : Life P S) (m : L) → ToldBy asks desk hears says o v l a w m → Same v.parts w.parts
        told_same None v l a w m t = input_same v l true a w m t
        told_same (Some code) v l a w m t = ended_same _ v a w t.0

        sent_as_same : (q : Said) (v : Life P S) (l : L) (moved : Bool) (a : HttpTurn) (w : Life P S) (m : L) → SentAs asks desk hears says q v l moved a w m → Same v.parts w.parts
        sent_as_same (said.Took n) v l moved a w m t = told_same (told t.0) (life t.0 v.port v.seat) l a w m t.1.1 ∙ ap lasting_of t.1.0.rest
        sent_as_same said.NotYet v l moved a w m t = input_same v l moved a w m t
        sent_as_same said.Failed v l moved a w m t = ended_same _ v a w t.0
        sent_as_same said.OutOfMemory v l moved a w m t = ended_same _ v a w t.0

        send_same : (b : Bool) (v : Life P S) (l : L) (moved : Bool) (a : HttpTurn) (w : Life P S) (m : L) → SendBy asks desk hears says b v l moved a w m → Same v.parts w.parts
        send_same true v l moved a w m t = input_same v l moved a w m t
        send_same false v l moved a w m t = sent_as_same t.0 v t.1.0 moved a w m t.1.1.1

        sent_same : (v : Life P S) (l : L) (moved : Bool) (a : HttpTurn) (w : Life P S) (m : L) → Sent asks desk hears says v l moved a w m → Same v.parts w.parts
        sent_same v l moved a w m t = send_same (is_nil v.parts.out.left) v l moved a w m t

        -- ---- a Join that waited

        after_kept_same : (r : Result Bool HttpEnd) (k : Life P S) (l : L) (a : HttpTurn) (w : Life P S) (m : L) → AfterKept asks desk hears says r k l a w m → Same k.parts w.parts
        after_kept_same (Ok true) k l a w m t = sent_same k l true a w m t
        after_kept_same (Ok false) k l a w m t = ap (λ (x : Life P S). lasting_of x.parts) t.1
        after_kept_same (Err e) k l a w m t = ended_same e k a w t.0

        pub kept_same : (o : Option Entry) (v : Life P S) (l : L) (a : HttpTurn) (w : Life P S) (m : L) → KeptOn asks desk hears says o v l a w m → Same v.parts w.parts
        kept_same None v l a w m t = sent_same v l false a w m t
        kept_same (Some e) v l a w m t = after_kept_same t.0 t.1.0 l a w m t.1.1.1 ∙ tried_same v e t.0 t.1.0 t.1.1.0
