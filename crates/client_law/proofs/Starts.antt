-- A client has started only by what tells it
use Rattle.std.proofs.Common.{◌≡◌, ℕ, ◌<◌, ◌^◌, Bool, true, false, ◌==◌, if◌then◌else◌, List, [], ◌∷◌, length, Option, Some, None, Result, Ok, Err, refl, sym, ap, subst, arith}
use Rattle.std.specs.Prelude.{codes}
use Rattle.std.specs.Int.Count.{count_leading_zeros}
use Rattle.amf0_value.specs.Pattern.{pattern}
use Rattle.amf0_value.specs.Encoding.{items_spelling}
use Rattle.rtmp_command.specs.declared.answer.Answer.TheVariants as answer
use Rattle.rtmp_command.specs.declared.answer.Why.{Why}
use Rattle.rtmp_command.specs.declared.answer.Why.TheVariants as why
use Rattle.rtmp_command.specs.Answers.{body_of, description_of, status_values, values_of}
use Rattle.chunk_wire.specs.declared.message.Message.{Message}
use Rattle.ack_window.specs.declared.control.Control.{Control}
use Rattle.ack_window.specs.declared.control.Control.TheVariants.{ChunkSize, Abort, Acknowledgement, User, Window, Bandwidth}
use Rattle.ack_window.specs.declared.control.BadControl.{BadControl}
use Rattle.ack_window.specs.Controls.{control_in, message_of, ping_answer_of}
use Rattle.command_dialog.specs.Dialog as dialog
use Rattle.relay_session.specs.Session.{pongs}
use Rattle.client_owed.specs.declared.types.Wish.{Wish}
use Rattle.client_owed.specs.declared.types.Wish.TheVariants as wish
use Rattle.client_owed.specs.declared.types.Asked.{Asked}
use Rattle.client_owed.specs.declared.types.News.{News}
use Rattle.client_owed.specs.declared.types.Phase.{Phase}
use Rattle.client_owed.specs.declared.types.News.TheVariants.{Done, Refused, Status, Other}
use Rattle.client_owed.specs.declared.types.Phase.TheVariants.{Connecting, Creating, Asking, Started}
use Rattle.client_owed.specs.News.{is_text, news_from, news_in}
use Rattle.client_owed.specs.Client.{Did, ask, created, create_stream, does, does_by, is_id, learns, learns_by, start_code, stays, whole}
use Rattle.client_owed.specs.Client as client
use Rattle.client_owed.specs.Owed.{phase_after}
use Rattle.client_law.specs.Loud.{Every, bare}
use Rattle.client_law.proofs.Steps.{items_read}

-- it hasn't started
abbrev pub IsBefore : Phase → Type 0
IsBefore Connecting = Unit {0}
IsBefore Creating = Unit {0}
IsBefore (Asking id) = Unit {0}
IsBefore (Started id) = ⊥

-- a message by which no client starts
abbrev pub NoStart : Asked → Message → Type 0
NoStart k m = (p : Phase) → IsBefore p → IsBefore (does k p m).phase

-- ---- messages that are no commands

kind_stays : (k : Asked) (p : Phase) (b : Bool) (r : Result News Rattle.rtmp_command.specs.declared.command.CommandFail.CommandFail) → b ≡ false → (if b then learns_by k p r else stays p).phase ≡ p
kind_stays k p b r e = ap (λ c. (if c then learns_by k p r else stays p).phase) e

pub phase_by : (k : Asked) (p : Phase) (m : Message) (r : Result (Option Control) BadControl) → (m.kind == 20) ≡ false → (does_by k p m r).phase ≡ p
phase_by k p m (Ok None) e = kind_stays k p (m.kind == 20) (news_in m.body) e
phase_by k p m (Ok (Some c)) e = refl
phase_by k p m (Err b) e = refl

pub other_stays : (k : Asked) (m : Message) → (m.kind == 20) ≡ false → NoStart k m
unfolding does
other_stays k m e = λ p h. subst IsBefore (sym (phase_by k p m (control_in m) e)) h

-- ---- commands

abbrev NotStart : Asked → News → Type 0
NotStart k (Done n v) = Unit {0}
NotStart k (Refused code description) = Unit {0}
NotStart k (Status code) = is_text code (start_code k.wish) ≡ false
NotStart k Other = Unit {0}

id_before : (k : Asked) (b : Bool) (id : ℕ) → IsBefore (if b then record { phase = Asking id; says = ask k id ∷ [] } else stays Creating).phase
id_before k true id = tt
id_before k false id = tt

created_before : (k : Asked) (v : Option ℕ) → IsBefore (created k v).phase
created_before k None = tt
created_before k (Some bits) = id_before k (is_id bits) (whole bits)

connected_before : (b : Bool) → IsBefore (if b then record { phase = Creating; says = client.chunk_size ∷ create_stream ∷ [] } else stays Connecting).phase
connected_before true = tt
connected_before false = tt

then_before : (k : Asked) (b : Bool) (v : Option ℕ) → IsBefore (if b then created k v else stays Creating).phase
then_before k true v = created_before k v
then_before k false v = tt

pub news_before : (k : Asked) (p : Phase) (n : News) → IsBefore p → NotStart k n → IsBefore (learns k p n).phase
news_before k Connecting (Done n v) h e = connected_before (n == pattern 1)
news_before k Connecting (Refused code description) h e = tt
news_before k Connecting (Status code) h e = tt
news_before k Connecting Other h e = tt
news_before k Creating (Done n v) h e = then_before k (n == pattern 2) v
news_before k Creating (Refused code description) h e = tt
news_before k Creating (Status code) h e = tt
news_before k Creating Other h e = tt
news_before k (Asking id) (Done n v) h e = tt
news_before k (Asking id) (Refused code description) h e = tt
news_before k (Asking id) (Status code) h e = subst (λ b. IsBefore (if b then stays (Started id) else stays (Asking id)).phase) (sym e) tt
news_before k (Asking id) Other h e = tt
news_before k (Started id) n h e = absurd h

pub command_stays : (k : Asked) (stream : ℕ) (body : List ℕ) (n : News) → news_in body ≡ Ok n → NotStart k n → NoStart k (record { kind = 20; stream = stream; time = 0; body = body })
unfolding does control_in
command_stays k stream body n e h = λ p b. subst (λ r. IsBefore (learns_by k p r).phase) (sym e) (news_before k p n b h)

-- ---- the answers of a session

low : (pattern 0 < 2 ^ 64) × (pattern 1 < 2 ^ 64) × (pattern 2 < 2 ^ 64) × (pattern 31 < 2 ^ 64)
unfolding pattern count_leading_zeros
low = (omega arith, omega arith, omega arith, omega arith)

abbrev status_news : List ℕ → List ℕ → List ℕ → News
status_news level code description = if is_text level (codes "error") then Refused code description else Status code

pub status_read : (level code description : List ℕ) → length level < 2 ^ 16 → length code < 2 ^ 16 → length description < 2 ^ 16 → news_in (items_spelling (status_values level code description)) ≡ Ok (status_news level code description)
unfolding news_in status_values
status_read level code description l c e =
    ap news_from (items_read (status_values level code description) (omega arith, (tt, (tt, (((omega arith, omega arith), l, ((omega arith, omega arith), c, ((omega arith, omega arith), e, tt))), tt))))
    (tt, (low.0, (tt, ((tt, (tt, (tt, tt))), tt)))) (omega arith))

pub why_short : (w : Why) → length (description_of w) < 2 ^ 16
why_short why.RoleActive = omega arith
why_short why.NoName = omega arith
why_short why.Refused = omega arith
why_short why.InUse = omega arith
why_short why.Full = omega arith

pub refused_stays : (k : Asked) (stream : ℕ) (w : Why) → NoStart k (dialog.answers stream (answer.PublishRefused w))
unfolding body_of
refused_stays k stream w =
    command_stays k stream (body_of (answer.PublishRefused w)) (Refused (codes "NetStream.Publish.BadName") (description_of w)) (status_read (codes "error") (codes "NetStream.Publish.BadName") (description_of w) (omega arith) (omega arith) (why_short w)) tt

pub notify_stays : (k : Asked) (stream : ℕ) → k.wish ≡ wish.Push → NoStart k (dialog.answers stream answer.PublishNotify)
unfolding body_of
notify_stays k stream e =
    command_stays k stream (body_of answer.PublishNotify) (Status (codes "NetStream.Play.PublishNotify")) (status_read (codes "status") (codes "NetStream.Play.PublishNotify") (codes "Published.") (omega arith) (omega arith) (omega arith))
    (ap (λ (q : Wish). is_text (codes "NetStream.Play.PublishNotify") (start_code q)) e)

pub unpublish_stays : (k : Asked) (stream : ℕ) → k.wish ≡ wish.Push → NoStart k (dialog.answers stream answer.UnpublishNotify)
unfolding body_of
unpublish_stays k stream e =
    command_stays k stream (body_of answer.UnpublishNotify) (Status (codes "NetStream.Play.UnpublishNotify")) (status_read (codes "status") (codes "NetStream.Play.UnpublishNotify") (codes "Unpublished.") (omega arith) (omega arith) (omega arith))
    (ap (λ (q : Wish). is_text (codes "NetStream.Play.UnpublishNotify") (start_code q)) e)

pub created_read : news_in (body_of (answer.Created (pattern 2) 1)) ≡ Ok (Done (pattern 2) (Some (pattern 1)))
unfolding body_of news_in
created_read = ap news_from (items_read (values_of (answer.Created (pattern 2) 1)) (omega arith, (tt, (tt, (tt, tt)))) (tt, (low.2, (tt, (low.1, tt)))) (omega arith))

pub created_stays : (k : Asked) → NoStart k (dialog.answers 0 (answer.Created (pattern 2) 1))
created_stays k = command_stays k 0 (body_of (answer.Created (pattern 2) 1)) (Done (pattern 2) (Some (pattern 1))) created_read tt

pub connected_read : news_in (body_of (answer.Connected (pattern 1))) ≡ Ok (Done (pattern 1) None)
unfolding body_of news_in
connected_read =
    ap news_from (items_read (values_of (answer.Connected (pattern 1)))
    (omega arith, (tt, (((omega arith, omega arith), omega arith, ((omega arith, omega arith), tt, tt)), (((omega arith, omega arith), omega arith, ((omega arith, omega arith), omega arith, ((omega arith, omega arith), omega arith, ((omega arith, omega arith), tt, tt)))), tt))))
    (tt, (low.1, ((tt, (low.3, tt)), ((tt, (tt, (tt, (low.0, tt)))), tt)))) (omega arith))

pub success_stays : (k : Asked) → NoStart k (dialog.answers 0 (answer.Connected (pattern 1)))
success_stays k = command_stays k 0 (body_of (answer.Connected (pattern 1))) (Done (pattern 1) None) connected_read tt

pub connected_stays : (k : Asked) (window : ℕ) → Every (NoStart k) (dialog.connected window (pattern 1))
connected_stays k window = (other_stays k (message_of (Window window)) refl, (other_stays k (message_of (Bandwidth window 2)) refl, (other_stays k (message_of (ChunkSize 4096)) refl, (success_stays k, tt))))

pub pong_stays : (k : Asked) (c : Control) → Every (NoStart k) (pongs (ping_answer_of c))
pong_stays k (ChunkSize size) = tt
pong_stays k (Abort id) = tt
pong_stays k (Acknowledgement count) = tt
pong_stays k (User event value) = by_event (event == 6)
  where
    by_event : (b : Bool) → Every (NoStart k) (pongs (if b then Some (User 7 value) else None))
    by_event true = (other_stays k (message_of (User 7 value)) refl, tt)
    by_event false = tt
pong_stays k (Window size) = tt
pong_stays k (Bandwidth size limit) = tt

-- ---- a client that is told nothing else hasn't started

pub before_after : (k : Asked) (p : Phase) (ms : List (ℕ × Message)) → IsBefore p → Every (NoStart k) (bare ms) → IsBefore (phase_after k p ms)
unfolding phase_after bare
before_after k p [] h e = h
before_after k p (m ∷ ms) h e = before_after k (does k p m.1).phase ms (e.0 p h) e.1
