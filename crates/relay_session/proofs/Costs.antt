-- What is said at a message, or at a reply, is short
use Rattle.std.proofs.Common.{◌≡◌, ◌≤◌, ℕ, List, [], ◌∷◌, length, Option, Some, None, refl, arith}
use Rattle.std.specs.Int.{bytes_high_first}
use Rattle.ack_window.specs.Controls.{message_of}
use Rattle.ack_window.specs.declared.control.Control.TheVariants as control
use Rattle.chunk_wire.specs.declared.message.Message.{Message}
use Rattle.command_dialog.specs.Dialog as dialog
use Rattle.command_dialog.specs.Dialog.{answers, connected, refused_by, refuses, told_in, told_play, told_publish}
use Rattle.command_dialog.specs.State.{State}
use Rattle.command_dialog.specs.declared.types.Grant.{Grant}
use Rattle.command_dialog.specs.declared.types.Grant.TheVariants as grant
use Rattle.command_dialog.specs.declared.types.Meant.{Meant}
use Rattle.command_dialog.specs.declared.types.Meant.TheVariants as meant
use Rattle.command_dialog.specs.declared.types.Phase.{Phase}
use Rattle.command_dialog.specs.declared.types.Phase.TheVariants as phase
use Rattle.command_dialog.specs.declared.types.Role.{Role}
use Rattle.command_dialog.specs.declared.types.Role.TheVariants as role
use Rattle.rtmp_command.specs.declared.answer.Answer.{Answer}
use Rattle.rtmp_command.specs.declared.answer.Answer.TheVariants as answer
use Rattle.rtmp_command.specs.declared.answer.Why.{Why}
use Rattle.rtmp_command.specs.declared.answer.Why.TheVariants as why
use Rattle.rtmp_command.proofs.Lengths.{body_of_short}
use Rattle.stream_model.specs.declared.replies.Reply.{Reply}
use Rattle.stream_model.specs.declared.replies.Reply.TheVariants as reply
use Rattle.relay_session.specs.Owing.{cost_of, costs_of}

answer_cost : (id : ℕ) (a : Answer) → cost_of (answers id a) ≤ 3518
answer_cost id a = omega (arith, body_of_short a)

one_cost : (id : ℕ) (a : Answer) → costs_of (answers id a ∷ []) ≤ 3518
one_cost id a = omega (arith, answer_cost id a)

four : (n : ℕ) → length (bytes_high_first 4 n) ≡ 4
four n = refl

window_cost : (n : ℕ) → cost_of (message_of (control.Window n)) ≤ 356
window_cost n = omega (arith, four n)

bandwidth_cost : (n : ℕ) → cost_of (message_of (control.Bandwidth n 2)) ≤ 373
bandwidth_cost n = omega arith

size_cost : cost_of (message_of (control.ChunkSize 4096)) ≤ 356
size_cost = omega arith

event_cost : (event id : ℕ) → cost_of (message_of (control.User event id)) ≤ 390
event_cost event id = omega arith

refusal_cost : (r : Role) (id : ℕ) (w : Why) → costs_of (refuses r id w) ≤ 3518
refusal_cost role.Publish id w = one_cost id (answer.PublishRefused w)
refusal_cost role.Play id w = one_cost id (answer.PlayRefused w)

refused_cost : (r : Role) (id : ℕ) (g : Option Grant) → costs_of (refused_by r id g) ≤ 3518
refused_cost r id (Some (grant.Place place)) = omega arith
refused_cost r id (Some grant.Refused) = refusal_cost r id _
refused_cost r id (Some grant.NoName) = refusal_cost r id _
refused_cost r id None = refusal_cost r id _

connected_cost : (w t : ℕ) → costs_of (connected w t) ≤ 4640
connected_cost w t = omega (arith, window_cost w, bandwidth_cost w, size_cost, answer_cost 0 (answer.Connected t))

says_cost : (s : State) (g : Option Grant) (m : Meant) → costs_of (dialog.says s g m) ≤ 4640
unfolding dialog.says
says_cost s g meant.Passed = omega arith
says_cost s g (meant.Connects t app) = connected_cost s.window t
says_cost s g (meant.Creates t id) = omega (arith, one_cost 0 (answer.Created t id))
says_cost s g (meant.Busy r id) = omega (arith, refusal_cost r id why.RoleActive)
says_cost s g (meant.Asks a id) = omega (arith, refused_cost a.role id g)
says_cost s g (meant.Closes id) = omega arith
says_cost s g (meant.Turns p) = omega arith
says_cost s g meant.Media = omega arith

-- at a message that is no control, where its meaning is this
pub meant_cost : (s : State) (g : Option Grant) (m : Meant) (l : List Message) → l ≡ dialog.says s g m → costs_of l ≤ 4640
meant_cost s g m l e = rw e (says_cost s g m)

publish_cost : (id : ℕ) (r : Reply) → costs_of (told_publish id r) ≤ 3518
publish_cost id (reply.Began n) = one_cost id answer.PublishStart
publish_cost id (reply.InUse by) = refusal_cost role.Publish id _
publish_cost id (reply.Pushed n) = refusal_cost role.Publish id _
publish_cost id (reply.NotPublisher live) = refusal_cost role.Publish id _
publish_cost id (reply.Ended n) = refusal_cost role.Publish id _
publish_cost id (reply.Joined player from) = refusal_cost role.Publish id _
publish_cost id reply.Full = refusal_cost role.Publish id _
publish_cost id (reply.NoSlot slots) = refusal_cost role.Publish id _
publish_cost id reply.NotPlayer = refusal_cost role.Publish id _
publish_cost id (reply.Sent from n item) = refusal_cost role.Publish id _
publish_cost id (reply.Skip from to) = refusal_cost role.Publish id _
publish_cost id (reply.NotYet end) = refusal_cost role.Publish id _
publish_cost id (reply.Left player) = refusal_cost role.Publish id _
publish_cost id (reply.Counts began pushed ended joined skips) = refusal_cost role.Publish id _

play_cost : (id : ℕ) (r : Reply) → costs_of (told_play id r) ≤ 7036
play_cost id (reply.Began n) = omega (arith, refusal_cost role.Play id why.Full)
play_cost id (reply.InUse by) = omega (arith, refusal_cost role.Play id why.Full)
play_cost id (reply.Pushed n) = omega (arith, refusal_cost role.Play id why.Full)
play_cost id (reply.NotPublisher live) = omega (arith, refusal_cost role.Play id why.Full)
play_cost id (reply.Ended n) = omega (arith, refusal_cost role.Play id why.Full)
play_cost id (reply.Joined player from) = omega (arith, event_cost 0 id, answer_cost id answer.PlayStart)
play_cost id reply.Full = omega (arith, refusal_cost role.Play id why.Full)
play_cost id (reply.NoSlot slots) = omega (arith, refusal_cost role.Play id why.Full)
play_cost id reply.NotPlayer = omega (arith, refusal_cost role.Play id why.Full)
play_cost id (reply.Sent from n item) = omega (arith, refusal_cost role.Play id why.Full)
play_cost id (reply.Skip from to) = omega (arith, refusal_cost role.Play id why.Full)
play_cost id (reply.NotYet end) = omega (arith, refusal_cost role.Play id why.Full)
play_cost id (reply.Left player) = omega (arith, refusal_cost role.Play id why.Full)
play_cost id (reply.Counts began pushed ended joined skips) = omega (arith, refusal_cost role.Play id why.Full)

told_by : (p : Phase) (r : Reply) → costs_of (told_in p r) ≤ 7036
told_by (phase.Asked role.Publish id) r = omega (arith, publish_cost id r)
told_by (phase.Asked role.Play id) r = play_cost id r
told_by phase.Idle r = omega arith
told_by (phase.Publishes id size) r = omega arith
told_by (phase.Plays p) r = omega arith

told_cost : (s : State) (r : Reply) → costs_of (dialog.told s r).says ≤ 7036
unfolding dialog.told
told_cost s r = told_by s.phase r

-- at a reply
pub reply_most : (s : State) (r : Reply) (l : List Message) → l ≡ (dialog.told s r).says → costs_of l ≤ 7036
reply_most s r l e = rw e (told_cost s r)
