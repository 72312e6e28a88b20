-- What a session answers a client that plays, and what it tells it
use Rattle.std.proofs.Common.{◌≡◌, ℕ, if◌then◌else◌, List, [], ◌∷◌, Option, Some, None, Result, Ok, refl, ap, ◌∙◌, arith}
use Rattle.std.specs.Prelude.{codes}
use Rattle.std.specs.Int.Count.{count_leading_zeros}
use Rattle.amf0_value.specs.Pattern.{pattern}
use Rattle.rtmp_command.specs.declared.answer.Answer.TheVariants as answer
use Rattle.rtmp_command.specs.declared.answer.Why.{Why}
use Rattle.rtmp_command.specs.Answers.{body_of, description_of}
use Rattle.rtmp_command.specs.declared.command.CommandFail.{CommandFail}
use Rattle.chunk_wire.specs.declared.message.Message.{Message}
use Rattle.ack_window.specs.Controls.{control_in}
use Rattle.command_dialog.specs.Dialog.{answers}
use Rattle.client_owed.specs.declared.types.Asked.{Asked}
use Rattle.client_owed.specs.declared.types.News.{News}
use Rattle.client_owed.specs.declared.types.News.TheVariants.{Done, Refused, Status}
use Rattle.client_owed.specs.declared.types.Phase.{Phase}
use Rattle.client_owed.specs.declared.types.Phase.TheVariants.{Connecting, Creating, Asking, Started}
use Rattle.client_owed.specs.declared.types.Wish.{Wish}
use Rattle.client_owed.specs.declared.types.Wish.TheVariants as wish
use Rattle.client_owed.specs.Client.{does, learns, learns_by, start_code, stays}
use Rattle.client_owed.specs.News.{is_text, news_in}
use Rattle.client_law.proofs.Starts.{NoStart, command_stays, connected_read, created_read, created_stays, status_read, success_stays, why_short}
use Rattle.client_law.proofs.Telling.{phase_in, told_before, told_from, told_last}

abbrev pub connected : Message
connected = answers 0 (answer.Connected (pattern 1))

abbrev pub created : Message
created = answers 0 (answer.Created (pattern 2) 1)

abbrev pub started : Message
started = answers 1 answer.PlayStart

abbrev pub refused : Why → Message
refused w = answers 1 (answer.PlayRefused w)

refused_stays : (k : Asked) (w : Why) → NoStart k (refused w)
unfolding body_of
refused_stays k w =
    command_stays k 1 (body_of (answer.PlayRefused w)) (Refused (codes "NetStream.Play.StreamNotFound") (description_of w)) (status_read (codes "error") (codes "NetStream.Play.StreamNotFound") (description_of w) (omega arith) (omega arith) (why_short w)) tt

learned : (k : Asked) (p : Phase) (stream : ℕ) (body : List ℕ) (n : News) → news_in body ≡ Ok n → (does k p (record { kind = 20; stream = stream; time = 0; body = body })).phase ≡ (learns k p n).phase
unfolding does control_in
learned k p stream body n e = ap (λ (r : Result News CommandFail). (learns_by k p r).phase) e

connects : (k : Asked) → (learns k Connecting (Done (pattern 1) None)).phase ≡ Creating
unfolding pattern count_leading_zeros
connects k = refl

creates : (k : Asked) → (learns k Creating (Done (pattern 2) (Some (pattern 1)))).phase ≡ Asking 1
unfolding pattern count_leading_zeros
creates k = refl

starts : (k : Asked) → k.wish ≡ wish.Pull → (learns k (Asking 1) (Status (codes "NetStream.Play.Start"))).phase ≡ Started 1
starts k e = ap (λ (w : Wish). (if is_text (codes "NetStream.Play.Start") (start_code w) then stays (Started 1) else stays (Asking 1)).phase) e

start_read : news_in (body_of answer.PlayStart) ≡ Ok (Status (codes "NetStream.Play.Start"))
unfolding body_of
start_read = status_read (codes "status") (codes "NetStream.Play.Start") (codes "Playing.") (omega arith) (omega arith) (omega arith)

-- what was answered tells nothing, and by the place of Play.Start the client has started
abbrev pub Known : Asked → List Message → Option ℕ → Type 0
Known k F None = told_from k Connecting F ≡ []
Known k F (Some f) = (told_from k Connecting F ≡ []) × (phase_in k Connecting F ≡ Started 1)

pub known_none : (k : Asked) → Known k [] None
unfolding told_from
known_none k = refl

pub known_connected : (k : Asked) → Known k (connected ∷ []) None
known_connected k = told_before k Connecting (connected ∷ []) tt (success_stays k, tt)

pub known_created : (k : Asked) → Known k (connected ∷ created ∷ []) None
known_created k = told_before k Connecting (connected ∷ created ∷ []) tt (success_stays k, (created_stays k, tt))

pub known_refused : (k : Asked) (w : Why) → Known k (connected ∷ created ∷ refused w ∷ []) None
known_refused k w = told_before k Connecting (connected ∷ created ∷ refused w ∷ []) tt (success_stays k, (created_stays k, (refused_stays k w, tt)))

phase_started : (k : Asked) → k.wish ≡ wish.Pull → phase_in k Connecting (connected ∷ created ∷ started ∷ []) ≡ Started 1
unfolding phase_in
phase_started k e =
    ap (λ (p : Phase). (does k (does k p created).phase started).phase) (learned k Connecting 0 connected.body (Done (pattern 1) None) connected_read ∙ connects k)
    ∙ ap (λ (p : Phase). (does k p started).phase) (learned k Creating 0 created.body (Done (pattern 2) (Some (pattern 1))) created_read ∙ creates k)
    ∙ learned k (Asking 1) 1 started.body (Status (codes "NetStream.Play.Start")) start_read ∙ starts k e

pub known_started : (k : Asked) (f : ℕ) → k.wish ≡ wish.Pull → Known k (connected ∷ created ∷ started ∷ []) (Some f)
known_started k f e = (told_last k Connecting (connected ∷ created ∷ []) started tt (success_stays k, (created_stays k, tt)), phase_started k e)
