-- The history of a run is the calls of its two sessions, in some order
use Rattle.std.proofs.Common.{◌≡◌, ℕ, ◌+◌, Bool, List, [], ◌∷◌, ◌++◌, Option, Some, None, refl, sym, ap, ◌∙◌, arith, append-nil}
use Rattle.std.specs.List.{concat}
use Rattle.chunk_wire.specs.declared.message.Message.{Message}
use Rattle.command_dialog.specs.State.{State}
use Rattle.relay_outside.specs.MemLinks.{MemLinkState}
use Rattle.relay_session.specs.Alone.{made_step}
use Rattle.relay_session.specs.SeatState.{Makes, SeatState}
use Rattle.relay_session.specs.SeatVisits.{Visit}
use Rattle.relay_session.specs.Session.{place_by}
use Rattle.relay_session.specs.SessionState.{SessionState, ended_by, life_at}
use Rattle.relay_session.specs.declared.seat_answers.Made.{Made}
use Rattle.relay_session.specs.declared.seat_answers.Made.TheVariants as made
use Rattle.relay_session.specs.declared.turn.Turn.{Turn}
use Rattle.stream_model.specs.Counts.{how_many}
use Rattle.stream_model.specs.declared.calls.Entry.{Entry}
use Rattle.stream_model.specs.declared.replies.Reply.{Reply}
use Rattle.stream_registry.specs.Books.{SeenState, SoleState, journal_at}
use Rattle.stream_registry.specs.Told.{Step}
use Rattle.loop_command.specs.Course.{Asks, SessionTurned}
use Rattle.loop_command.specs.Desk.{granted}
use Rattle.loop_command.specs.Lines.{ArePassed, Mixes, Serves, StaysHome, Works, steps_of}
use Rattle.loop_command.specs.declared.line.Line.{Line}
use Rattle.loop_command.proofs.Granted.{many_join}
use Rattle.loop_command.proofs.Home.{asked_home, heard_home}
use Rattle.loop_command.proofs.Serving.{IsTurn}
use Rattle.loop_command.proofs.Sessions.{tied_before}
use Rattle.loop_command.proofs.Ties.{not_both, turned_lives}

-- with so many replies of each kind of another session's
module _ (K : (Reply → Bool) → ℕ) where
  abbrev Counted : SoleState → SeatState SeenState → Type 0
  Counted p s = (f : Reply → Bool) → how_many f (journal_at p.books 0) ≡ how_many f (steps_of s.visits) + K f

  abbrev Mixed : Option ℕ → SoleState → SeatState SeenState → Type 0
  Mixed place p s = StaysHome place p s × Counted p s

  heard_mixed : (s : State) (place : Option ℕ) (m : Message) (x : SoleState) (t : SeatState SeenState) → Mixed place x t
      → Mixed (place_by granted s place m) x t
  heard_mixed s place m x t h = (heard_home s place m x t h.0, h.1)

  made_counted : (f : Reply → Bool) (r : Made) (place : ℕ) (e : Entry) (j i : List Step) (v w : List Visit) → i ≡ j ++ made_step e r → Makes place e r v w
      → how_many f j ≡ how_many f (steps_of v) + K f → how_many f i ≡ how_many f (steps_of w) + K f
  made_counted f (made.Answer q) place e j i v w g m h =
      omega (arith, h, ap (how_many f) g, many_join f j ((e, q) ∷ []), ap (λ (l : List Visit). how_many f (steps_of l)) m)
  made_counted f (made.Busy z) place e j i v w g m h = ap (how_many f) (g ∙ append-nil j) ∙ h ∙ ap (λ (l : List Visit). how_many f (steps_of l) + K f) (sym m.1)
  made_counted f (made.Worn z) place e j i v w g m h = ap (how_many f) (g ∙ append-nil j) ∙ h ∙ ap (λ (l : List Visit). how_many f (steps_of l) + K f) (sym m.1)
  made_counted f (made.OutOfMemory z) place e j i v w g m h = ap (how_many f) (g ∙ append-nil j) ∙ h
      ∙ ap (λ (l : List Visit). how_many f (steps_of l) + K f) (sym m.1)

  asked_mixed : (x : SoleState) (s : SeatState SeenState) (place : ℕ) (e : Entry) (r : Made) (y : SoleState) (t : SeatState SeenState) → Asks x s place e r y t
      → Mixed (Some place) x s → Mixed (Some place) y t
  asked_mixed x s place e r y t a h = (
    asked_home x s place e r y t a h.0,
    λ f. made_counted f r place e (journal_at x.books 0) (journal_at y.books 0) s.visits t.visits (at_home place (h.0.place place refl) a.grows.here)
        a.asked.makes (h.1 f),
  )
    where
      at_home : (p : ℕ) → p ≡ 0 → journal_at y.books p ≡ journal_at x.books p ++ made_step e r → journal_at y.books 0 ≡ journal_at x.books 0 ++ made_step e r
      at_home p z g = ap (λ (q : ℕ). journal_at y.books q) (sym z) ∙ g ∙ ap (λ (q : ℕ). journal_at x.books q ++ made_step e r) z

  -- a turn of one that lives
  pub turn_counted : (who : ℕ) (p q : SoleState) (v w : SessionState SeenState) (l m : MemLinkState) (a : Turn) → IsTurn v p l a w q m → ended_by a ≡ None
      → Works l → Serves who p v l → Counted p v.seat → Counted q w.seat
  turn_counted who p q v w l m a t lives works s h =
      (turned_lives Asks granted l.handed (l.gave ++ concat l.pieces) Mixed heard_mixed asked_mixed ⊥ v.ended v.quit (life_at v p) (life_at w q) l a m s.lives
      (λ e. not_both v.quit e s.goes_on) lives t (record { tied = tied_before who p v l s; home = (s.home, h); works = works })).home.1

-- A TURN of a session adds its own calls alone
pub served_mixed : (who : ℕ) (p q : SoleState) (l m : Line) (other : SeatState SeenState) → SessionTurned p q l m → ArePassed l → Serves who p l.session l.far
    → Mixes p l.session.seat other → Mixes q m.session.seat other
served_mixed who p q l m other t passed s h =
    turn_counted (λ (f : Reply → Bool). how_many f (steps_of other.visits)) who p q l.session m.session l.far t.link t.answer t.turn t.lives
    passed.back.works s h

pub mixes_swap : (p : SoleState) (s t : SeatState SeenState) → Mixes p s t → Mixes p t s
mixes_swap p s t h = λ f. omega (arith, h f)
