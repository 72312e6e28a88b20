-- What a session says ends no client, but by a refusal
use Rattle.std.proofs.Common.{◌≡◌, ℕ, ◌<◌, ◌^◌, Bool, true, false, ◌==◌, nat_lt, if◌then◌else◌, List, [], ◌∷◌, length, Some, None, Ok, Err}
use Rattle.std.proofs.Common.{refl, sym, ap, ◌∙◌, subst, arith}
use Rattle.std.specs.Prelude.{codes}
use Rattle.amf0_value.specs.Encoding.{items_spelling}
use Rattle.amf0_value.specs.Pattern.{pattern}
use Rattle.av_unit.specs.Classes.{message_type}
use Rattle.av_unit.specs.declared.item.Item.{Item}
use Rattle.av_unit.specs.declared.item.Item.TheVariants as item
use Rattle.av_unit.specs.declared.unit.Kind.{Kind}
use Rattle.av_unit.specs.declared.unit.Kind.TheVariants as kind
use Rattle.ack_window.specs.Controls.{control_in, event_in, message_of, ping_answer_of, refusal, value_in}
use Rattle.ack_window.specs.declared.control.Control.{Control}
use Rattle.ack_window.specs.declared.control.Control.TheVariants.{ChunkSize, Abort, Acknowledgement, User, Window, Bandwidth}
use Rattle.chunk_wire.specs.declared.message.Message.{Message}
use Rattle.client_law.proofs.Starts.{connected_read, status_read, why_short}
use Rattle.client_law.proofs.Steps.{items_read, patterns_low}
use Rattle.client_law.specs.Loud.{Every}
use Rattle.client_owed.specs.News.{news_from, news_in}
use Rattle.client_owed.specs.declared.types.News.{News}
use Rattle.client_owed.specs.declared.types.News.TheVariants as news
use Rattle.command_dialog.specs.Dialog as dialog
use Rattle.command_dialog.specs.State.{State}
use Rattle.command_dialog.specs.declared.types.Grant.{Grant}
use Rattle.command_dialog.specs.declared.types.Grant.TheVariants as grant
use Rattle.command_dialog.specs.declared.types.Phase.{Phase}
use Rattle.command_dialog.specs.declared.types.Phase.TheVariants as phase
use Rattle.command_dialog.specs.declared.types.Role.{Role}
use Rattle.command_dialog.specs.declared.types.Role.TheVariants as role
use Rattle.refusal_law.specs.Refusals.{IsRefusal}
use Rattle.relay_session.specs.Session.{pongs, told}
use Rattle.rtmp_client.specs.Refusing.{ended_by, refused, refused_by}
use Rattle.rtmp_client.specs.declared.end.ClientEnd.{ClientEnd}
use Rattle.rtmp_client.specs.declared.end.ClientEnd.TheVariants as end
use Rattle.rtmp_command.specs.Answers.{body_of, description_of, status_values, values_of}
use Rattle.rtmp_command.specs.declared.answer.Answer.TheVariants as answer
use Rattle.rtmp_command.specs.declared.answer.Why.{Why}
use Rattle.rtmp_command.specs.declared.answer.Why.TheVariants as why
use Rattle.stream_model.specs.declared.replies.Reply.{Reply}
use Rattle.stream_model.specs.declared.replies.Reply.TheVariants as reply

-- a message that ends no client but by a refusal
abbrev pub Calm : Message → Type 0
Calm m = (at : ℕ) (e : ClientEnd) → refused at m ≡ Some e → IsRefusal e

not_none : (e : ClientEnd) → None ≡ Some e → ⊥
not_none e f = cc

-- one that ends none at all
abbrev pub Strict : Message → Type 0
Strict m = (at : ℕ) → refused at m ≡ None

calm : (m : Message) → Strict m → Calm m
calm m n = λ at e f. absurd (not_none e (sym (n at) ∙ f))

all_calm : (l : List Message) → Every Strict l → Every Calm l
all_calm [] h = tt
all_calm (m ∷ l) h = (calm m h.0, all_calm l h.1)

-- ---- control messages

user_read : (b : Bool) (m : Message) (c : Control) (n : ℕ) → n ≡ 6 → (if nat_lt n (if b then 6 else 2) then Err (refusal m) else Ok (Some c)) ≡ Ok (Some c)
user_read true m c n e = ap (λ (x : ℕ). if nat_lt x 6 then Err (refusal m) else Ok (Some c)) e
user_read false m c n e = ap (λ (x : ℕ). if nat_lt x 2 then Err (refusal m) else Ok (Some c)) e

-- each is read, whatever its numbers are
pub control_read : (c : Control) → (d : Control) × (control_in (message_of c) ≡ Ok (Some d))
unfolding control_in
control_read (ChunkSize size) = (_, refl)
control_read (Abort id) = (_, refl)
control_read (Acknowledgement count) = (_, refl)
control_read (User event value) =
    let m = message_of (User event value) in
    (User (event_in m.body) (value_in m.body), user_read (event_in m.body == 6) m (User (event_in m.body) (value_in m.body)) (length m.body) refl)
control_read (Window size) = (_, refl)
control_read (Bandwidth size limit) = (_, refl)

pub control_strict : (c : Control) → Strict (message_of c)
unfolding refused
control_strict c = λ at. ap (refused_by at (message_of c)) (control_read c).1

pub control_calm : (c : Control) → Calm (message_of c)
control_calm c = calm (message_of c) (control_strict c)

pub pongs_strict : (c : Control) → Every Strict (pongs (ping_answer_of c))
pongs_strict (ChunkSize size) = tt
pongs_strict (Abort id) = tt
pongs_strict (Acknowledgement count) = tt
pongs_strict (User event value) = by_event (event == 6)
  where
    by_event : (b : Bool) → Every Strict (pongs (if b then Some (User 7 value) else None))
    by_event true = (control_strict (User 7 value), tt)
    by_event false = tt
pongs_strict (Window size) = tt
pongs_strict (Bandwidth size limit) = tt

pub pongs_calm : (c : Control) → Every Calm (pongs (ping_answer_of c))
pongs_calm c = all_calm (pongs (ping_answer_of c)) (pongs_strict c)

-- ---- commands

news_calm : (n : News) (at : ℕ) (e : ClientEnd) → ended_by at (Ok n) ≡ Some e → IsRefusal e
news_calm (news.Refused code description) at e f =
    let g : end.Refused code description ≡ e = cc in
    subst IsRefusal g tt
news_calm (news.Done transaction number) at e f = absurd (not_none e f)
news_calm (news.Status code) at e f = absurd (not_none e f)
news_calm news.Other at e f = absurd (not_none e f)

command_calm : (stream : ℕ) (body : List ℕ) (n : News) → news_in body ≡ Ok n → Calm (record { kind = 20; stream = stream; time = 0; body = body })
unfolding refused control_in
command_calm stream body n r = λ at e f. news_calm n at e (sym (ap (ended_by at) r) ∙ f)

status_calm : (stream : ℕ) (level code description : List ℕ) → length level < 2 ^ 16 → length code < 2 ^ 16 → length description < 2 ^ 16
    → Calm (record { kind = 20; stream = stream; time = 0; body = items_spelling (status_values level code description) })
status_calm stream level code description l c d =
    command_calm stream (items_spelling (status_values level code description)) _ (status_read level code description l c d)

command_strict : (stream : ℕ) (body : List ℕ) (n : News) → news_in body ≡ Ok n → ((at : ℕ) → ended_by at (Ok n) ≡ None)
    → Strict (record { kind = 20; stream = stream; time = 0; body = body })
unfolding refused control_in
command_strict stream body n r e = λ at. ap (ended_by at) r ∙ e at

status_strict : (stream : ℕ) (code description : List ℕ) → length code < 2 ^ 16 → length description < 2 ^ 16
    → Strict (record { kind = 20; stream = stream; time = 0; body = items_spelling (status_values (codes "status") code description) })
status_strict stream code description c d =
    command_strict stream (items_spelling (status_values (codes "status") code description)) (news.Status code)
    (status_read (codes "status") code description (omega arith) c d) (λ at. refl)

pub publish_starts : (id : ℕ) → Strict (dialog.answers id answer.PublishStart)
unfolding body_of
publish_starts id = status_strict id (codes "NetStream.Publish.Start") (codes "Publishing.") (omega arith) (omega arith)

pub play_starts : (id : ℕ) → Strict (dialog.answers id answer.PlayStart)
unfolding body_of
play_starts id = status_strict id (codes "NetStream.Play.Start") (codes "Playing.") (omega arith) (omega arith)

notifies : (id : ℕ) → Strict (dialog.answers id answer.PublishNotify)
unfolding body_of
notifies id = status_strict id (codes "NetStream.Play.PublishNotify") (codes "Published.") (omega arith) (omega arith)

unpublishes : (id : ℕ) → Strict (dialog.answers id answer.UnpublishNotify)
unfolding body_of
unpublishes id = status_strict id (codes "NetStream.Play.UnpublishNotify") (codes "Unpublished.") (omega arith) (omega arith)

pub refuses_calm : (r : Role) (id : ℕ) (w : Why) → Every Calm (dialog.refuses r id w)
unfolding body_of
refuses_calm role.Publish id w = (
  status_calm id (codes "error") (codes "NetStream.Publish.BadName") (description_of w) (omega arith) (omega arith)
      (why_short w),
  tt,
)
refuses_calm role.Play id w = (
  status_calm id (codes "error") (codes "NetStream.Play.StreamNotFound") (description_of w) (omega arith) (omega arith)
      (why_short w),
  tt,
)

pub grants_calm : (r : Role) (id : ℕ) (g : Grant) → Every Calm (dialog.refused_by r id (Some g))
grants_calm r id (grant.Place place) = tt
grants_calm r id grant.Refused = refuses_calm r id why.Refused
grants_calm r id grant.NoName = refuses_calm r id why.NoName

pub connected_strict : (window : ℕ) → Every Strict (dialog.connected window (pattern 1))
connected_strict window = (
  control_strict (Window window),
  (
    control_strict (Bandwidth window 2),
    (
      control_strict (ChunkSize 4096),
      (command_strict 0 (body_of (answer.Connected (pattern 1))) (news.Done (pattern 1) None) connected_read (λ at. refl), tt),
    ),
  ),
)

pub connected_calm : (window : ℕ) → Every Calm (dialog.connected window (pattern 1))
connected_calm window = all_calm (dialog.connected window (pattern 1)) (connected_strict window)

created_read : (id : ℕ) → pattern id < 2 ^ 64 → news_in (body_of (answer.Created (pattern 2) id)) ≡ Ok (news.Done (pattern 2) (Some (pattern id)))
unfolding body_of news_in
created_read id low =
    ap news_from (items_read (values_of (answer.Created (pattern 2) id)) (omega arith, (tt, (tt, (tt, tt)))) (tt, (patterns_low.1, (tt, (low, tt))))
    (omega arith))

pub created_strict : (id : ℕ) → pattern id < 2 ^ 64 → Strict (dialog.answers 0 (answer.Created (pattern 2) id))
created_strict id low = command_strict 0 (body_of (answer.Created (pattern 2) id)) (news.Done (pattern 2) (Some (pattern id))) (created_read id low)
    (λ at. refl)

pub created_calm : (id : ℕ) → pattern id < 2 ^ 64 → Calm (dialog.answers 0 (answer.Created (pattern 2) id))
created_calm id low = calm (dialog.answers 0 (answer.Created (pattern 2) id)) (created_strict id low)

-- ---- what a reply tells

publish_told : (id : ℕ) (r : Reply) → Every Calm (dialog.told_publish id r)
publish_told id (reply.Began n) = (calm (dialog.answers id answer.PublishStart) (publish_starts id), tt)
publish_told id (reply.NoSlot slots) = refuses_calm role.Publish id why.Full
publish_told id (reply.InUse by) = refuses_calm role.Publish id why.InUse
publish_told id (reply.Pushed n) = refuses_calm role.Publish id why.InUse
publish_told id (reply.NotPublisher live) = refuses_calm role.Publish id why.InUse
publish_told id (reply.Ended n) = refuses_calm role.Publish id why.InUse
publish_told id (reply.Joined player from) = refuses_calm role.Publish id why.InUse
publish_told id reply.Full = refuses_calm role.Publish id why.InUse
publish_told id reply.NotPlayer = refuses_calm role.Publish id why.InUse
publish_told id (reply.Sent from n item) = refuses_calm role.Publish id why.InUse
publish_told id (reply.Skip from to) = refuses_calm role.Publish id why.InUse
publish_told id (reply.NotYet end) = refuses_calm role.Publish id why.InUse
publish_told id (reply.Left player) = refuses_calm role.Publish id why.InUse
publish_told id (reply.Counts began pushed ended joined skips) = refuses_calm role.Publish id why.InUse

play_told : (id : ℕ) (r : Reply) → Every Calm (dialog.told_play id r)
play_told id (reply.Joined player from) = (control_calm (User 0 id), (calm (dialog.answers id answer.PlayStart) (play_starts id), tt))
play_told id (reply.Began n) = refuses_calm role.Play id why.Full
play_told id (reply.NoSlot slots) = refuses_calm role.Play id why.Full
play_told id (reply.InUse by) = refuses_calm role.Play id why.Full
play_told id (reply.Pushed n) = refuses_calm role.Play id why.Full
play_told id (reply.NotPublisher live) = refuses_calm role.Play id why.Full
play_told id (reply.Ended n) = refuses_calm role.Play id why.Full
play_told id reply.Full = refuses_calm role.Play id why.Full
play_told id reply.NotPlayer = refuses_calm role.Play id why.Full
play_told id (reply.Sent from n item) = refuses_calm role.Play id why.Full
play_told id (reply.Skip from to) = refuses_calm role.Play id why.Full
play_told id (reply.NotYet end) = refuses_calm role.Play id why.Full
play_told id (reply.Left player) = refuses_calm role.Play id why.Full
play_told id (reply.Counts began pushed ended joined skips) = refuses_calm role.Play id why.Full

phase_told : (p : Phase) (r : Reply) → Every Calm (dialog.told_in p r)
phase_told phase.Idle r = tt
phase_told (phase.Asked role.Publish id) r = publish_told id r
phase_told (phase.Asked role.Play id) r = play_told id r
phase_told (phase.Publishes id size) r = tt
phase_told (phase.Plays p) r = tt

pub told_calm : (s : State) (r : Reply) → Every Calm (told s r).says
unfolding told dialog.told
told_calm s r = phase_told s.phase r

-- ---- what is shown of an item

abbrev unit_on : ℕ → ℕ → List ℕ → Kind → Message
unit_on stream time body x = record { kind = message_type x; stream = stream; time = time; body = body }

unit_strict : (stream time : ℕ) (body : List ℕ) (x : Kind) → Strict (unit_on stream time body x)
unfolding refused control_in
unit_strict stream time body kind.Meta = λ at. refl
unit_strict stream time body kind.VConfig = λ at. refl
unit_strict stream time body kind.AConfig = λ at. refl
unit_strict stream time body kind.Key = λ at. refl
unit_strict stream time body kind.Inter = λ at. refl
unit_strict stream time body kind.Spare = λ at. refl
unit_strict stream time body kind.Audio = λ at. refl
unit_strict stream time body kind.Data = λ at. refl

item_strict : (id : ℕ) (i : Item) → Every Strict (dialog.shown id i)
item_strict id item.Begin = (control_strict (User 0 id), (notifies id, tt))
item_strict id (item.Unit u) = (unit_strict id u.time u.body u.kind, tt)
item_strict id item.End = (control_strict (User 1 id), (unpublishes id, tt))

phase_shows : (p : Phase) (i : Item) → Every Strict (dialog.shown_in p i)
phase_shows (phase.Plays p) i = item_strict p.id i
phase_shows phase.Idle i = tt
phase_shows (phase.Asked r id) i = tt
phase_shows (phase.Publishes id size) i = tt

pub shows_strict : (s : State) (i : Item) → Every Strict (dialog.shows s i)
unfolding dialog.shows
shows_strict s i = phase_shows s.phase i

pub shows_calm : (s : State) (i : Item) → Every Calm (dialog.shows s i)
shows_calm s i = all_calm (dialog.shows s i) (shows_strict s i)
