-- What the messages of a client that plays do in a session
use Rattle.std.proofs.Common.{◌≡◌, ◌≢◌, ℕ, ◌<◌, ◌^◌, ◌⊎◌, inl, inr, true, false, List, [], ◌∷◌, length, Some, None, option_map, refl, ap, ◌∙◌, arith}
use Rattle.std.specs.Prelude.{codes}
use Rattle.std.specs.Int.Count.{count_leading_zeros}
use Rattle.std.proofs.lemmas.Bool.{ne_eqb}
use Rattle.amf0_value.specs.Pattern.{pattern}
use Rattle.amf0_value.specs.Encoding.{items_spelling}
use Rattle.amf0_value.specs.declared.walk.Brief.TheVariants as brief
use Rattle.rtmp_command.specs.declared.answer.Why.TheVariants as why
use Rattle.rtmp_command.specs.Heard.{heard_from, heard_in}
use Rattle.av_unit.specs.declared.item.Item.{Item}
use Rattle.chunk_wire.specs.declared.message.Message.{Message}
use Rattle.ack_window.specs.declared.control.Control.TheVariants as control
use Rattle.ack_window.specs.Controls.{message_of}
use Rattle.command_dialog.specs.declared.types.Ask.{Ask}
use Rattle.command_dialog.specs.declared.types.Grant.{Grant}
use Rattle.command_dialog.specs.declared.types.Role.TheVariants as role
use Rattle.command_dialog.specs.declared.types.Phase.TheVariants as phase
use Rattle.command_dialog.specs.State.{State, with_phase}
use Rattle.command_dialog.specs.Words.{key_in, name_in}
use Rattle.command_dialog.specs.Dialog as dialog
use Rattle.stream_model.specs.declared.calls.Call.TheVariants as call
use Rattle.stream_model.specs.declared.replies.Reply.{Reply}
use Rattle.stream_model.specs.declared.replies.Reply.TheVariants as reply
use Rattle.session_owed.specs.Dialogue.{Step, Told}
use Rattle.relay_session.specs.Session.{does, told}
use Rattle.client_owed.specs.declared.types.Wish.TheVariants as wish
use Rattle.client_owed.specs.Client.{asks, delete_stream}
use Rattle.client_law.proofs.Answered.{refused, started}
use Rattle.client_law.proofs.Steps.{by_heard, command_does, hears, heard_delete, idle, items_read, patterns_low, stepped}

heard_play : (name : List ℕ) → length name < 2 ^ 16 → heard_in (items_spelling (asks wish.Pull name)) ≡ hears (codes "play") (pattern 3) None (brief.Text name)
unfolding heard_in
heard_play name l = ap heard_from (items_read (asks wish.Pull name) (omega arith, (tt, (tt, (l, tt)))) (tt, (patterns_low.2, (tt, (tt, tt)))) (omega arith))

-- it plays on the first message stream, with both switches on
abbrev pub playing : ℕ → List ℕ → ℕ → State
playing window app player = record {
  window = window;
  app = Some app;
  ids = 1 ∷ [];
  phase = phase.Plays (record { player = player; id = 1; want = record { audio = true; video = true }; paused = false });
}

pub playing_shows : (window player : ℕ) (app : List ℕ) (i : Item) → dialog.shows (playing window app player) i ≡ dialog.shown 1 i
unfolding dialog.shows
playing_shows window player app i = refl

-- a play was asked for
abbrev pub asked_state : ℕ → List ℕ → State
asked_state window app = with_phase (idle window app (1 ∷ [])) (phase.Asked role.Play 1)

module _ (desk : Ask → Grant) where
  abbrev pub play_of : List ℕ → List ℕ → Ask
  play_of app name = record { role = role.Play; app = app; name = name_in name; key = key_in name }

  abbrev pub asking_play : ℕ → List ℕ → List ℕ → Grant → Step State
  asking_play window app name g = stepped (with_phase (idle window app (1 ∷ [])) (dialog.asked role.Play 1 (Some g))) (dialog.refused_by role.Play 1 (Some g)) (option_map dialog.call_of (dialog.calls_by role.Play name (Some g)))

  abbrev pub play_on : ℕ → List ℕ → Message
  play_on id name = record { kind = 20; stream = id; time = 0; body = items_spelling (asks wish.Pull name) }

  pub play_does : (window : ℕ) (app name : List ℕ) → length name < 2 ^ 16 → does desk (idle window app (1 ∷ [])) (play_on 1 name) ≡ asking_play window app (name_in name) (desk (play_of app name))
  unfolding by_heard dialog.after dialog.says dialog.makes
  play_does window app name l = command_does desk (idle window app (1 ∷ [])) 1 (play_on 1 name).body ∙ ap (by_heard desk (idle window app (1 ∷ [])) (play_on 1 name)) (heard_play name l)

  pub play_passed : (window id : ℕ) (app name : List ℕ) → length name < 2 ^ 16 → 1 ≢ id → does desk (idle window app (1 ∷ [])) (play_on id name) ≡ stepped (idle window app (1 ∷ [])) [] None
  unfolding by_heard dialog.after dialog.says dialog.makes
  play_passed window id app name l ne =
      command_does desk (idle window app (1 ∷ [])) id (play_on id name).body ∙ ap (by_heard desk (idle window app (1 ∷ [])) (play_on id name)) (heard_play name l) ∙ rw (ne_eqb 1 id ne) refl

  pub play_delete : (window player : ℕ) (app : List ℕ) → does desk (playing window app player) (delete_stream 1) ≡ stepped (idle window app []) [] (Some (call.Leave player))
  unfolding by_heard dialog.after dialog.says dialog.makes pattern count_leading_zeros
  play_delete window player app = command_does desk (playing window app player) 0 (delete_stream 1).body ∙ ap (by_heard desk (playing window app player) (delete_stream 1)) (heard_delete 1 patterns_low.0)

-- ---- replies

abbrev pub joined : ℕ → List ℕ → ℕ → Told State
joined window app player = record { state = playing window app player; says = message_of (control.User 0 1) ∷ started ∷ [] }

abbrev pub denied : ℕ → List ℕ → Told State
denied window app = record { state = idle window app (1 ∷ []); says = refused why.Full ∷ [] }

-- the play is granted, or refused
abbrev pub IsAnswered : ℕ → List ℕ → Told State → Type 0
IsAnswered window app t = ((player : ℕ) × (t ≡ joined window app player)) ⊎ (t ≡ denied window app)

pub play_answered : (window : ℕ) (app : List ℕ) (r : Reply) → IsAnswered window app (told (asked_state window app) r)
unfolding told dialog.told
play_answered window app (reply.Joined player from) = inl (player, refl)
play_answered window app (reply.Began n) = inr refl
play_answered window app (reply.InUse by) = inr refl
play_answered window app (reply.Pushed n) = inr refl
play_answered window app (reply.NotPublisher n) = inr refl
play_answered window app (reply.Ended n) = inr refl
play_answered window app reply.Full = inr refl
play_answered window app reply.NotPlayer = inr refl
play_answered window app (reply.Sent from n item) = inr refl
play_answered window app (reply.Skip from to) = inr refl
play_answered window app (reply.NotYet end) = inr refl
play_answered window app (reply.Left player) = inr refl
play_answered window app (reply.Counts a b c e f) = inr refl
play_answered window app (reply.NoSlot slots) = inr refl

-- where no role is active a reply does nothing
pub idle_told : (window : ℕ) (app ids : List ℕ) (r : Reply) → told (idle window app ids) r ≡ record { state = idle window app ids; says = [] }
unfolding told dialog.told
idle_told window app ids r = refl
