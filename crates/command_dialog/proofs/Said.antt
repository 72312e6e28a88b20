-- What is said and shown is of a type that is written, and isn't too long.
use Rattle.std.proofs.Common.{◌≡◌, ◌<◌, ◌^◌, ℕ, List, [], ◌∷◌, length, Option, Some, None, Result, Ok, Err, inl, inr, refl, arith}
use Rattle.std.specs.Prelude.{All}
use Rattle.std.proofs.lemmas.List.Elements.{All-nil, All-cons}
use Rattle.std.specs.Int.{bytes_high_first}
use Rattle.av_unit.specs.declared.unit.Kind.{Kind}
use Rattle.av_unit.specs.declared.unit.Kind.TheVariants as kind
use Rattle.av_unit.specs.declared.item.Item.{Item}
use Rattle.av_unit.specs.declared.item.Item.TheVariants as item
use Rattle.relay_base.specs.Numbers.{be32_of}
use Rattle.rtmp_command.specs.declared.answer.Why.{Why}
use Rattle.rtmp_command.specs.declared.answer.Answer.{Answer}
use Rattle.rtmp_command.specs.declared.answer.Answer.TheVariants as answer
use Rattle.rtmp_command.specs.declared.answer.Why.TheVariants as why
use Rattle.rtmp_command.proofs.Lengths.{body_of_short}
use Rattle.chunk_wire.specs.declared.message.Message.{Message}
use Rattle.ack_window.specs.declared.control.Control.TheVariants as control
use Rattle.ack_window.specs.Controls.{message_of}
use Rattle.stream_model.specs.declared.replies.Reply.{Reply}
use Rattle.stream_model.specs.declared.replies.Reply.TheVariants as reply
use Rattle.command_dialog.specs.declared.types.Role.{Role}
use Rattle.command_dialog.specs.declared.types.Role.TheVariants as role
use Rattle.command_dialog.specs.declared.types.Ask.{Ask}
use Rattle.command_dialog.specs.declared.types.Grant.{Grant}
use Rattle.command_dialog.specs.declared.types.Grant.TheVariants as grant
use Rattle.command_dialog.specs.declared.types.Phase.{Phase}
use Rattle.command_dialog.specs.declared.types.Phase.TheVariants as phase
use Rattle.command_dialog.specs.declared.types.Meant.{Meant}
use Rattle.command_dialog.specs.declared.types.Meant.TheVariants as meant
use Rattle.command_dialog.specs.declared.types.DialogFail.{DialogFail}
use Rattle.command_dialog.specs.State.{State}
use Rattle.command_dialog.specs.Meaning.{meaning}
use Rattle.command_dialog.specs.Dialog.{answers, refuses, refused_by, connected, granted, says, does_by, does, told_publish, told_play, told_in, told}
use Rattle.command_dialog.specs.Dialog.{unit_message, shown, shown_in, shows}
use Rattle.command_dialog.specs.Writable.{IsSaid, IsShown, HasRoom}

-- ---- lists of one message and of two

pub just : (P : Message → Type 0) (m : Message) → P m → All P (m ∷ [])
just P m h = All-cons P m [] h (All-nil P)

pub both : (P : Message → Type 0) (m n : Message) → P m → P n → All P (m ∷ n ∷ [])
both P m n h k = All-cons P m (n ∷ []) h (just P n k)

-- ---- what is said

said_answer : (stream : ℕ) (a : Answer) → IsSaid (answers stream a)
said_answer stream a = record { kind = inr (inr (inr (inr refl))); short = body_of_short a; size = λ e. absurd cc; time = omega arith }

four : (n : ℕ) → length (bytes_high_first 4 n) ≡ 4
four n = refl

said_window : (n : ℕ) → IsSaid (message_of (control.Window n))
said_window n = record { kind = inr (inr (inl refl)); short = omega (arith, four n); size = λ e. absurd cc; time = omega arith }

said_bandwidth : (n : ℕ) → IsSaid (message_of (control.Bandwidth n 2))
said_bandwidth n = record { kind = inr (inr (inr (inl refl))); short = omega arith; size = λ e. absurd cc; time = omega arith }

said_size : IsSaid (message_of (control.ChunkSize 4096))
unfolding be32_of
said_size = record { kind = inl refl; short = omega arith; size = λ e. refl; time = omega arith }

said_event : (event id : ℕ) → IsSaid (message_of (control.User event id))
said_event event id = record { kind = inr (inl refl); short = omega arith; size = λ e. absurd cc; time = omega arith }

said_refusal : (r : Role) (id : ℕ) (w : Why) → All IsSaid (refuses r id w)
said_refusal role.Publish id w = just IsSaid _ (said_answer id _)
said_refusal role.Play id w = just IsSaid _ (said_answer id _)

said_by : (r : Role) (id : ℕ) (g : Option Grant) → All IsSaid (refused_by r id g)
said_by r id (Some (grant.Place place)) = All-nil IsSaid
said_by r id (Some grant.Refused) = said_refusal r id _
said_by r id (Some grant.NoName) = said_refusal r id _
said_by r id None = said_refusal r id _

said_connected : (w t : ℕ) → All IsSaid (connected w t)
said_connected w t =
    let band = message_of (control.Bandwidth w 2) in
    let size = message_of (control.ChunkSize 4096) in
    let last = answers 0 (answer.Connected t) in
    All-cons IsSaid (message_of (control.Window w)) (band ∷ size ∷ last ∷ []) (said_window w)
    (All-cons IsSaid band (size ∷ last ∷ []) (said_bandwidth w) (both IsSaid size last said_size (said_answer 0 (answer.Connected t))))

pub says_said : (s : State) (g : Option Grant) (m : Meant) → All IsSaid (says s g m)
unfolding says
says_said s g meant.Passed = All-nil IsSaid
says_said s g (meant.Connects t app) = said_connected s.window t
says_said s g (meant.Creates t id) = just IsSaid _ (said_answer 0 _)
says_said s g (meant.Busy r id) = said_refusal r id _
says_said s g (meant.Asks a id) = said_by a.role id g
says_said s g (meant.Closes id) = All-nil IsSaid
says_said s g (meant.Turns p) = All-nil IsSaid
says_said s g meant.Media = All-nil IsSaid

does_said_by : (desk : Ask → Grant) (s : State) (m : Message) (r : Result Meant DialogFail) → All IsSaid (does_by desk s m r).says
does_said_by desk s m (Ok meant) = says_said s (granted desk meant) meant
does_said_by desk s m (Err e) = All-nil IsSaid

pub does_said : (desk : Ask → Grant) (s : State) (m : Message) → All IsSaid (does desk s m).says
unfolding does
does_said desk s m = does_said_by desk s m (meaning s m)

-- what is told at a reply is a start or a refusal
pub publish_by : (P : List Message → Type 0) (id : ℕ) (r : Reply) → P (answers id answer.PublishStart ∷ []) → ((w : Why) → P (refuses role.Publish id w)) → P (told_publish id r)
publish_by P id (reply.Began n) h k = h
publish_by P id (reply.InUse by) h k = k why.InUse
publish_by P id (reply.Pushed n) h k = k why.InUse
publish_by P id (reply.NotPublisher live) h k = k why.InUse
publish_by P id (reply.Ended n) h k = k why.InUse
publish_by P id (reply.Joined player from) h k = k why.InUse
publish_by P id reply.Full h k = k why.InUse
publish_by P id reply.NotPlayer h k = k why.InUse
publish_by P id (reply.Sent from n item) h k = k why.InUse
publish_by P id (reply.Skip from to) h k = k why.InUse
publish_by P id (reply.NotYet end) h k = k why.InUse
publish_by P id (reply.Left player) h k = k why.InUse
publish_by P id (reply.Counts began pushed ended joined skips) h k = k why.InUse
publish_by P id (reply.NoSlot slots) h k = k why.Full

pub play_by : (P : List Message → Type 0) (id : ℕ) (r : Reply) → P (message_of (control.User 0 id) ∷ answers id answer.PlayStart ∷ []) → P (refuses role.Play id why.Full) → P (told_play id r)
play_by P id (reply.Began n) h k = k
play_by P id (reply.InUse by) h k = k
play_by P id (reply.Pushed n) h k = k
play_by P id (reply.NotPublisher live) h k = k
play_by P id (reply.Ended n) h k = k
play_by P id (reply.Joined player from) h k = h
play_by P id reply.Full h k = k
play_by P id reply.NotPlayer h k = k
play_by P id (reply.Sent from n item) h k = k
play_by P id (reply.Skip from to) h k = k
play_by P id (reply.NotYet end) h k = k
play_by P id (reply.Left player) h k = k
play_by P id (reply.Counts began pushed ended joined skips) h k = k
play_by P id (reply.NoSlot slots) h k = k

said_publish : (id : ℕ) (r : Reply) → All IsSaid (told_publish id r)
said_publish id r = publish_by (All IsSaid) id r (just IsSaid _ (said_answer id _)) (λ w. said_refusal role.Publish id w)

said_play : (id : ℕ) (r : Reply) → All IsSaid (told_play id r)
said_play id r = play_by (All IsSaid) id r (both IsSaid _ _ (said_event 0 id) (said_answer id _)) (said_refusal role.Play id _)

said_in : (p : Phase) (r : Reply) → All IsSaid (told_in p r)
said_in (phase.Asked role.Publish id) r = said_publish id r
said_in (phase.Asked role.Play id) r = said_play id r
said_in phase.Idle r = All-nil IsSaid
said_in (phase.Publishes id size) r = All-nil IsSaid
said_in (phase.Plays p) r = All-nil IsSaid

pub told_said : (s : State) (r : Reply) → All IsSaid (told s r).says
unfolding told
told_said s r = said_in s.phase r

-- ---- what is shown

shown_answer : (stream : ℕ) (a : Answer) → IsShown (answers stream a)
shown_answer stream a = record { kind = inr (inr (inr (inr refl))); short = omega (arith, body_of_short a); time = omega arith }

shown_event : (event id : ℕ) → IsShown (message_of (control.User event id))
shown_event event id = record { kind = inl refl; short = omega arith; time = omega arith }

shown_kind : (k : Kind) (id time : ℕ) (body : List ℕ) → length body < 2 ^ 24 → time < 2 ^ 32 → IsShown (unit_message id (record { kind = k; time = time; body = body }))
shown_kind kind.Meta id time body lt most = record { kind = inr (inr (inr (inl refl))); short = lt; time = most }
shown_kind kind.VConfig id time body lt most = record { kind = inr (inr (inl refl)); short = lt; time = most }
shown_kind kind.AConfig id time body lt most = record { kind = inr (inl refl); short = lt; time = most }
shown_kind kind.Key id time body lt most = record { kind = inr (inr (inl refl)); short = lt; time = most }
shown_kind kind.Inter id time body lt most = record { kind = inr (inr (inl refl)); short = lt; time = most }
shown_kind kind.Spare id time body lt most = record { kind = inr (inr (inl refl)); short = lt; time = most }
shown_kind kind.Audio id time body lt most = record { kind = inr (inl refl); short = lt; time = most }
shown_kind kind.Data id time body lt most = record { kind = inr (inr (inr (inl refl))); short = lt; time = most }

item_shown : (id : ℕ) (i : Item) → HasRoom i → All IsShown (shown id i)
item_shown id item.Begin room = both IsShown _ _ (shown_event 0 id) (shown_answer id _)
item_shown id (item.Unit unit) room = just IsShown _ (shown_kind unit.kind id unit.time unit.body room.0 room.1)
item_shown id item.End room = both IsShown _ _ (shown_event 1 id) (shown_answer id _)

phase_shows : (p : Phase) (i : Item) → HasRoom i → All IsShown (shown_in p i)
phase_shows (phase.Plays p) i room = item_shown p.id i room
phase_shows phase.Idle i room = All-nil IsShown
phase_shows (phase.Asked r id) i room = All-nil IsShown
phase_shows (phase.Publishes id size) i room = All-nil IsShown

pub shows_shown : (s : State) (i : Item) → HasRoom i → All IsShown (shows s i)
unfolding shows
shows_shown s i room = phase_shows s.phase i room
