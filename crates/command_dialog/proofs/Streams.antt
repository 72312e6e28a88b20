-- All that is said and shown is on message stream 0 or on one of 1 to 16.
use Rattle.std.proofs.Common.{◌≡◌, ◌≤◌, ℕ, List, [], ◌∷◌, ◌++◌, Option, Some, None, Bool, true, false, cond, not, nat_eq, refl, arith}
use Rattle.std.specs.Prelude.{◌||◌, All, Result, Ok, Err, codes}
use Rattle.std.proofs.lemmas.Bool.{eqb-true}
use Rattle.std.proofs.lemmas.List.Elements.{All-nil, All-cons}
use Rattle.av_unit.specs.Media.{Media}
use Rattle.av_unit.specs.declared.item.Item.{Item}
use Rattle.av_unit.specs.declared.item.Item.TheVariants as item
use Rattle.amf0_value.specs.declared.walk.Brief.{Brief}
use Rattle.amf0_value.specs.declared.walk.Brief.TheVariants as brief
use Rattle.rtmp_command.specs.declared.heard.Heard.{Heard}
use Rattle.rtmp_command.specs.declared.command.CommandFail.{CommandFail}
use Rattle.rtmp_command.specs.declared.answer.Why.{Why}
use Rattle.rtmp_command.specs.declared.answer.Answer.TheVariants as answer
use Rattle.ack_window.specs.declared.control.Control.TheVariants as control
use Rattle.ack_window.specs.Controls.{message_of}
use Rattle.rtmp_command.specs.Heard.{heard_in}
use Rattle.chunk_wire.specs.declared.message.Message.{Message}
use Rattle.stream_model.specs.declared.replies.Reply.{Reply}
use Rattle.stream_model.specs.declared.replies.Reply.TheVariants as reply
use Rattle.command_dialog.specs.declared.types.Role.{Role}
use Rattle.command_dialog.specs.declared.types.Role.TheVariants as role
use Rattle.command_dialog.specs.declared.types.Ask.{Ask}
use Rattle.command_dialog.specs.declared.types.Grant.{Grant}
use Rattle.command_dialog.specs.declared.types.Grant.TheVariants as grant
use Rattle.command_dialog.specs.declared.types.Phase.{Phase}
use Rattle.command_dialog.specs.declared.types.Phase.TheVariants as phase
use Rattle.command_dialog.specs.declared.types.Playing.{Playing}
use Rattle.command_dialog.specs.declared.types.Switch.{Switch}
use Rattle.command_dialog.specs.declared.types.Switch.TheVariants as switch
use Rattle.command_dialog.specs.declared.types.Meant.{Meant}
use Rattle.command_dialog.specs.declared.types.Meant.TheVariants as meant
use Rattle.command_dialog.specs.declared.types.DialogFail.{DialogFail}
use Rattle.command_dialog.specs.State.{State, fresh}
use Rattle.command_dialog.specs.Words.{is_text}
use Rattle.command_dialog.specs.Meaning.{meaning, commands_by, after_connect, is_open, least_free, connects, creates, asks_while, asks_by, asks, closed_in, closes_some, closes, turned, turns}
use Rattle.command_dialog.specs.Dialog.{answers, connected, refuses, refused_by, asked, phase_without, published_in, sized, without, granted, says, after, does_by, does, told_in, publishes_after, plays_after, phase_after, told, shown, shown_in, shows}
use Rattle.command_dialog.specs.Writable.{IsOn, AreIds, IsPhaseOn, HasIds}
use Rattle.command_dialog.proofs.Free.{is_free}
use Rattle.command_dialog.proofs.Said.{just, both, publish_by, play_by}

-- ---- the ids in a list

on_more : (ids : List ℕ) (id : ℕ) → AreIds ids → id ≤ 16 → AreIds (ids ++ id ∷ [])
on_more [] id a le = (le, tt)
on_more (n ∷ ids) id a le = (a.0, on_more ids id a.1 le)

kept_by : (b : Bool) (n : ℕ) (ids : List ℕ) → n ≤ 16 → AreIds ids → AreIds (cond b (n ∷ ids) ids)
kept_by true n ids le a = (le, a)
kept_by false n ids le a = a

on_without : (ids : List ℕ) (id : ℕ) → AreIds ids → AreIds (without id ids)
on_without [] id a = tt
on_without (n ∷ ids) id a = kept_by (not (nat_eq n id)) n (without id ids) a.0 (on_without ids id a.1)

there : (b : Bool) (n id : ℕ) (rest : Bool) → nat_eq n id ≡ b → (rest ≡ true → id ≤ 16) → n ≤ 16 → (b || rest) ≡ true → id ≤ 16
there true n id rest is more le e = omega (arith, eqb-true n id is, le)
there false n id rest is more le e = more e

on_open : (ids : List ℕ) (id : ℕ) → AreIds ids → is_open id ids ≡ true → id ≤ 16
on_open [] id a e = absurd cc
on_open (n ∷ ids) id a e = there (nat_eq n id) n id (is_open id ids) refl (on_open ids id a.1) a.0 e

-- ---- the ids in a meaning

abbrev IsMeantOn : Meant → Type 0
IsMeantOn meant.Passed = Unit {0}
IsMeantOn (meant.Connects transaction app) = Unit {0}
IsMeantOn (meant.Creates transaction id) = id ≤ 16
IsMeantOn (meant.Busy r id) = id ≤ 16
IsMeantOn (meant.Asks a id) = id ≤ 16
IsMeantOn (meant.Closes id) = Unit {0}
IsMeantOn (meant.Turns p) = p.id ≤ 16
IsMeantOn meant.Media = Unit {0}

abbrev IsReadOn : Result Meant DialogFail → Type 0
IsReadOn (Ok m) = IsMeantOn m
IsReadOn (Err e) = Unit {0}

either : {X : Type 0} (Q : X → Type 0) (b : Bool) (x y : X) → (b ≡ true → Q x) → Q y → Q (cond b x y)
either Q true x y h k = h refl
either Q false x y h k = k

connects_on : (app : Option (List ℕ)) (transaction : ℕ) (third : Option (List ℕ)) → IsMeantOn (connects app transaction third)
connects_on None transaction None = tt
connects_on None transaction (Some text) = tt
connects_on (Some app) transaction third = tt

creates_on : (ids : List ℕ) (transaction : ℕ) (o : Option ℕ) → least_free ids ≡ o → IsReadOn (creates transaction o)
creates_on ids transaction None e = tt
creates_on ids transaction (Some id) e = (is_free ids id e).1

while_on : (p : Phase) (r : Role) (id : ℕ) (app text : List ℕ) → id ≤ 16 → IsMeantOn (asks_while p r id app text)
while_on phase.Idle r id app text le = le
while_on (phase.Asked q n) r id app text le = le
while_on (phase.Publishes n size) r id app text le = le
while_on (phase.Plays p) r id app text le = le

by_on : (p : Phase) (r : Role) (id : ℕ) (app : List ℕ) (b : Brief) → id ≤ 16 → IsMeantOn (asks_by p r id app b)
by_on p r id app (brief.Text text) le = while_on p r id app text le
by_on p r id app (brief.Number bits) le = tt
by_on p r id app (brief.Boolean flag) le = tt
by_on p r id app brief.Other le = tt

asks_on : (p : Phase) (ids : List ℕ) (r : Role) (id : ℕ) (app : List ℕ) (b : Brief) → AreIds ids → IsMeantOn (asks p ids r id app b)
asks_on p ids r id app b a = either IsMeantOn (is_open id ids) (asks_by p r id app b) meant.Passed (λ e. by_on p r id app b (on_open ids id a e)) tt

some_on : (o : Option ℕ) → IsMeantOn (closes_some o)
some_on None = tt
some_on (Some id) = tt

closes_on : (ids : List ℕ) (b : Brief) → IsMeantOn (closes ids b)
closes_on ids (brief.Number bits) = some_on (closed_in bits ids)
closes_on ids (brief.Text text) = tt
closes_on ids (brief.Boolean flag) = tt
closes_on ids brief.Other = tt

turned_on : (w : Switch) (flag : Bool) (p : Playing) → p.id ≤ 16 → (turned w flag p).id ≤ 16
turned_on switch.Audio flag p le = le
turned_on switch.Video flag p le = le
turned_on switch.Pause flag p le = le

turns_are_on : (p : Phase) (stream : ℕ) (w : Switch) (b : Brief) → IsPhaseOn p → IsMeantOn (turns p stream w b)
turns_are_on (phase.Plays p) stream w (brief.Boolean flag) le = either IsMeantOn (nat_eq p.id stream) (meant.Turns (turned w flag p)) meant.Passed (λ e. turned_on w flag p le) tt
turns_are_on (phase.Plays p) stream w (brief.Number bits) le = tt
turns_are_on (phase.Plays p) stream w (brief.Text text) le = tt
turns_are_on (phase.Plays p) stream w brief.Other le = tt
turns_are_on phase.Idle stream w b le = tt
turns_are_on (phase.Asked r id) stream w b le = tt
turns_are_on (phase.Publishes id size) stream w b le = tt

-- where the first test fails, by the tests after it
other : (b : Bool) (x y : Result Meant DialogFail) → IsReadOn x → IsReadOn y → IsReadOn (cond b x y)
other b x y h k = either IsReadOn b x y (λ e. h) k

connected_on : (s : State) (stream : ℕ) (h : Heard) (app : Option (List ℕ)) → HasIds s → IsReadOn (after_connect s stream h app)
connected_on s stream h None on = tt
connected_on s stream h (Some app) on =
    other (is_text h.name (codes "createStream")) _ _ (creates_on s.ids h.transaction (least_free s.ids) refl)
    (other (is_text h.name (codes "publish")) _ _ (asks_on s.phase s.ids role.Publish stream app h.fourth on.ids)
    (other (is_text h.name (codes "play")) _ _ (asks_on s.phase s.ids role.Play stream app h.fourth on.ids)
    (other (is_text h.name (codes "deleteStream")) _ _ (closes_on s.ids h.fourth)
    (other (is_text h.name (codes "receiveAudio")) _ _ (turns_are_on s.phase stream switch.Audio h.fourth on.role)
    (other (is_text h.name (codes "receiveVideo")) _ _ (turns_are_on s.phase stream switch.Video h.fourth on.role)
    (other (is_text h.name (codes "pause")) _ _ (turns_are_on s.phase stream switch.Pause h.fourth on.role) tt))))))

commands_on : (s : State) (stream : ℕ) (r : Result Heard CommandFail) → HasIds s → IsReadOn (commands_by s stream r)
commands_on s stream (Ok h) on = other (is_text h.name (codes "connect")) _ _ (connects_on s.app h.transaction h.app) (connected_on s stream h s.app on)
commands_on s stream (Err e) on = tt

meaning_on : (s : State) (m : Message) → HasIds s → IsReadOn (meaning s m)
unfolding meaning
meaning_on s m on =
    other (nat_eq m.kind 20) (commands_by s m.stream (heard_in m.body)) _ (commands_on s m.stream (heard_in m.body) on)
    (other _ (Ok meant.Media) (Ok meant.Passed) tt tt)

-- ---- the state after it

asked_on : (r : Role) (id : ℕ) (g : Option Grant) → id ≤ 16 → IsPhaseOn (asked r id g)
asked_on r id (Some (grant.Place place)) le = le
asked_on r id (Some grant.Refused) le = tt
asked_on r id (Some grant.NoName) le = tt
asked_on r id None le = tt

phase_on : (id : ℕ) (p : Phase) → IsPhaseOn p → IsPhaseOn (phase_without id p)
phase_on id (phase.Publishes n size) le = either IsPhaseOn (nat_eq n id) phase.Idle (phase.Publishes n size) (λ e. tt) le
phase_on id (phase.Plays p) le = either IsPhaseOn (nat_eq p.id id) phase.Idle (phase.Plays p) (λ e. tt) le
phase_on id phase.Idle le = tt
phase_on id (phase.Asked r n) le = le

sized_on : (o : Option Media) (p : Phase) → IsPhaseOn p → IsPhaseOn (sized o p)
sized_on (Some u) (phase.Publishes id size) le = le
sized_on (Some u) phase.Idle le = tt
sized_on (Some u) (phase.Asked r id) le = le
sized_on (Some u) (phase.Plays p) le = le
sized_on None (phase.Publishes id size) le = le
sized_on None phase.Idle le = tt
sized_on None (phase.Asked r id) le = le
sized_on None (phase.Plays p) le = le

after_ids : (s : State) (m : Message) (g : Option Grant) (meant : Meant) → HasIds s → IsMeantOn meant → HasIds (after s m g meant)
unfolding after
after_ids s m g meant.Passed on le = on
after_ids s m g (meant.Connects transaction app) on le = record { ids = on.ids; role = on.role }
after_ids s m g (meant.Creates transaction id) on le = record { ids = on_more s.ids id on.ids le; role = on.role }
after_ids s m g (meant.Busy r id) on le = on
after_ids s m g (meant.Asks a id) on le = record { ids = on.ids; role = asked_on a.role id g le }
after_ids s m g (meant.Closes id) on le = record { ids = on_without s.ids id on.ids; role = phase_on id s.phase on.role }
after_ids s m g (meant.Turns p) on le = record { ids = on.ids; role = le }
after_ids s m g meant.Media on le = record { ids = on.ids; role = sized_on (published_in s.phase m) s.phase on.role }

pub fresh_ids : (window : ℕ) → HasIds (fresh window)
fresh_ids window = record { ids = tt; role = tt }

does_ids_by : (desk : Ask → Grant) (s : State) (m : Message) (r : Result Meant DialogFail) → HasIds s → IsReadOn r → HasIds (does_by desk s m r).state
does_ids_by desk s m (Ok meant) on le = after_ids s m (granted desk meant) meant on le
does_ids_by desk s m (Err e) on le = on

pub does_ids : (desk : Ask → Grant) (s : State) (m : Message) → HasIds s → HasIds (does desk s m).state
unfolding does
does_ids desk s m on = does_ids_by desk s m (meaning s m) on (meaning_on s m on)

-- ---- what is said

refuses_on : (r : Role) (id : ℕ) (w : Why) → id ≤ 16 → All IsOn (refuses r id w)
refuses_on role.Publish id w le = just IsOn _ le
refuses_on role.Play id w le = just IsOn _ le

refused_on : (r : Role) (id : ℕ) (g : Option Grant) → id ≤ 16 → All IsOn (refused_by r id g)
refused_on r id (Some (grant.Place place)) le = All-nil IsOn
refused_on r id (Some grant.Refused) le = refuses_on r id _ le
refused_on r id (Some grant.NoName) le = refuses_on r id _ le
refused_on r id None le = refuses_on r id _ le

connected_is_on : (w t : ℕ) → All IsOn (connected w t)
connected_is_on w t =
    let band = message_of (control.Bandwidth w 2) in
    let size = message_of (control.ChunkSize 4096) in
    let last = answers 0 (answer.Connected t) in
    All-cons IsOn (message_of (control.Window w)) (band ∷ size ∷ last ∷ []) (omega arith)
    (All-cons IsOn band (size ∷ last ∷ []) (omega arith) (both IsOn size last (omega arith) (omega arith)))

says_on : (s : State) (g : Option Grant) (m : Meant) → IsMeantOn m → All IsOn (says s g m)
unfolding says
says_on s g meant.Passed le = All-nil IsOn
says_on s g (meant.Connects transaction app) le = connected_is_on s.window transaction
says_on s g (meant.Creates transaction id) le = just IsOn _ (omega arith)
says_on s g (meant.Busy r id) le = refuses_on r id _ le
says_on s g (meant.Asks a id) le = refused_on a.role id g le
says_on s g (meant.Closes id) le = All-nil IsOn
says_on s g (meant.Turns p) le = All-nil IsOn
says_on s g meant.Media le = All-nil IsOn

does_on_by : (desk : Ask → Grant) (s : State) (m : Message) (r : Result Meant DialogFail) → IsReadOn r → All IsOn (does_by desk s m r).says
does_on_by desk s m (Ok meant) le = says_on s (granted desk meant) meant le
does_on_by desk s m (Err e) le = All-nil IsOn

pub does_on : (desk : Ask → Grant) (s : State) (m : Message) → HasIds s → All IsOn (does desk s m).says
unfolding does
does_on desk s m on = does_on_by desk s m (meaning s m) (meaning_on s m on)

-- ---- at a reply
publishes_by : (P : Phase → Type 0) (id : ℕ) (r : Reply) → P (phase.Publishes id 0) → P phase.Idle → P (publishes_after id r)
publishes_by P id (reply.Began n) h k = h
publishes_by P id (reply.InUse by) h k = k
publishes_by P id (reply.Pushed n) h k = k
publishes_by P id (reply.NotPublisher live) h k = k
publishes_by P id (reply.Ended n) h k = k
publishes_by P id (reply.Joined player from) h k = k
publishes_by P id reply.Full h k = k
publishes_by P id reply.NotPlayer h k = k
publishes_by P id (reply.Sent from n item) h k = k
publishes_by P id (reply.Skip from to) h k = k
publishes_by P id (reply.NotYet end) h k = k
publishes_by P id (reply.Left player) h k = k
publishes_by P id (reply.Counts began pushed ended joined skips) h k = k
publishes_by P id (reply.NoSlot slots) h k = k

played_on : (id : ℕ) (r : Reply) → id ≤ 16 → IsPhaseOn (plays_after id r)
played_on id (reply.Began n) le = tt
played_on id (reply.InUse by) le = tt
played_on id (reply.Pushed n) le = tt
played_on id (reply.NotPublisher live) le = tt
played_on id (reply.Ended n) le = tt
played_on id (reply.Joined player from) le = le
played_on id reply.Full le = tt
played_on id reply.NotPlayer le = tt
played_on id (reply.Sent from n item) le = tt
played_on id (reply.Skip from to) le = tt
played_on id (reply.NotYet end) le = tt
played_on id (reply.Left player) le = tt
played_on id (reply.Counts began pushed ended joined skips) le = tt
played_on id (reply.NoSlot slots) le = tt

phase_told : (p : Phase) (r : Reply) → IsPhaseOn p → IsPhaseOn (phase_after p r)
phase_told (phase.Asked role.Publish id) r le = publishes_by IsPhaseOn id r le tt
phase_told (phase.Asked role.Play id) r le = played_on id r le
phase_told phase.Idle r le = tt
phase_told (phase.Publishes id size) r le = le
phase_told (phase.Plays p) r le = le

pub told_ids : (s : State) (r : Reply) → HasIds s → HasIds (told s r).state
unfolding told
told_ids s r on = record { ids = on.ids; role = phase_told s.phase r on.role }

said_on : (p : Phase) (r : Reply) → IsPhaseOn p → All IsOn (told_in p r)
said_on (phase.Asked role.Publish id) r le = publish_by (All IsOn) id r (just IsOn _ le) (λ w. refuses_on role.Publish id w le)
said_on (phase.Asked role.Play id) r le = play_by (All IsOn) id r (both IsOn _ _ (omega arith) le) (refuses_on role.Play id _ le)
said_on phase.Idle r le = All-nil IsOn
said_on (phase.Publishes id size) r le = All-nil IsOn
said_on (phase.Plays p) r le = All-nil IsOn

pub told_on : (s : State) (r : Reply) → HasIds s → All IsOn (told s r).says
unfolding told
told_on s r on = said_on s.phase r on.role

-- ---- what is shown

item_on : (id : ℕ) (i : Item) → id ≤ 16 → All IsOn (shown id i)
item_on id item.Begin le = both IsOn _ _ (omega arith) le
item_on id (item.Unit unit) le = just IsOn _ le
item_on id item.End le = both IsOn _ _ (omega arith) le

phase_shows_on : (p : Phase) (i : Item) → IsPhaseOn p → All IsOn (shown_in p i)
phase_shows_on (phase.Plays p) i le = item_on p.id i le
phase_shows_on phase.Idle i le = All-nil IsOn
phase_shows_on (phase.Asked r id) i le = All-nil IsOn
phase_shows_on (phase.Publishes id size) i le = All-nil IsOn

pub shows_on : (s : State) (i : Item) → HasIds s → All IsOn (shows s i)
unfolding shows
shows_on s i on = phase_shows_on s.phase i on.role
