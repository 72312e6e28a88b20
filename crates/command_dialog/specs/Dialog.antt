-- THE DIALOGUE: what a message of a peer does by its meaning and its grant, what the stream's reply does, and
-- how a player is shown an item (RTMP 1.0, section 7.2).
use Rattle.std.specs.Prelude.{ℕ, List, [], ◌∷◌, ◌++◌, length, Option, Some, None, option_map, true, false, not, filter, ◌==◌, nat_le, if◌then◌else◌, Result, Ok, Err}
use Rattle.av_unit.specs.Media.{Media}
use Rattle.av_unit.specs.Classes.{unit_from, message_type}
use Rattle.av_unit.specs.Disposable.{length_size}
use Rattle.av_unit.specs.declared.unit.Kind.{Kind}
use Rattle.av_unit.specs.declared.unit.Kind.TheVariants as kind
use Rattle.av_unit.specs.declared.item.Item.{Item}
use Rattle.av_unit.specs.declared.item.Item.TheVariants as item
use Rattle.rtmp_command.specs.declared.answer.Why.{Why}
use Rattle.rtmp_command.specs.declared.answer.Why.TheVariants as why
use Rattle.rtmp_command.specs.declared.answer.Answer.{Answer}
use Rattle.rtmp_command.specs.declared.answer.Answer.TheVariants as answer
use Rattle.rtmp_command.specs.Answers.{body_of}
use Rattle.chunk_wire.specs.declared.message.Message.{Message}
use Rattle.ack_window.specs.declared.control.Control.TheVariants as control
use Rattle.ack_window.specs.Controls.{message_of}
use Rattle.stream_model.specs.declared.calls.Call.{Call}
use Rattle.stream_model.specs.declared.calls.Call.TheVariants as call
use Rattle.stream_model.specs.declared.replies.Reply.{Reply}
use Rattle.stream_model.specs.declared.replies.Reply.TheVariants as reply
use Rattle.command_dialog.specs.declared.types.Role.{Role}
use Rattle.command_dialog.specs.declared.types.Role.TheVariants as role
use Rattle.command_dialog.specs.declared.types.Ask.{Ask}
use Rattle.command_dialog.specs.declared.types.Grant.{Grant}
use Rattle.command_dialog.specs.declared.types.Grant.TheVariants as grant
use Rattle.command_dialog.specs.declared.types.Act.{Act}
use Rattle.command_dialog.specs.declared.types.Act.TheVariants as act
use Rattle.command_dialog.specs.declared.types.Phase.{Phase}
use Rattle.command_dialog.specs.declared.types.Phase.TheVariants as phase
use Rattle.command_dialog.specs.declared.types.Meant.{Meant}
use Rattle.command_dialog.specs.declared.types.Meant.TheVariants as meant
use Rattle.command_dialog.specs.declared.types.DialogFail.{DialogFail}
use Rattle.command_dialog.specs.State.{State, Step, Told, with_app, with_ids, with_phase}
use Rattle.command_dialog.specs.Meaning.{ask_in, meaning}

-- ---- what is said

-- a command message with the body of an answer
abbrev pub answers : ℕ → Answer → Message
answers stream a = record { kind = 20; stream = stream; time = 0; body = body_of a }

abbrev pub refuses : Role → ℕ → Why → List Message
refuses role.Publish id w = answers id (answer.PublishRefused w) ∷ []
refuses role.Play id w = answers id (answer.PlayRefused w) ∷ []

-- the four messages of the connect answer; the writer's chunk size is 4,096 after the third
abbrev pub connected : ℕ → ℕ → List Message
connected window transaction =
    message_of (control.Window window) ∷ message_of (control.Bandwidth window 2) ∷ message_of (control.ChunkSize 4096)
    ∷ answers 0 (answer.Connected transaction) ∷ []

-- what no grant comes for has no name
abbrev pub refused_by : Role → ℕ → Option Grant → List Message
refused_by r id (Some (grant.Place place)) = []
refused_by r id (Some grant.Refused) = refuses r id why.Refused
refused_by r id (Some grant.NoName) = refuses r id why.NoName
refused_by r id None = refuses r id why.NoName

-- WHAT IS SAID to the peer
unfoldable pub says : State → Option Grant → Meant → List Message
says s g meant.Passed = []
says s g (meant.Connects transaction app) = connected s.window transaction
says s g (meant.Creates transaction id) = answers 0 (answer.Created transaction id) ∷ []
says s g (meant.Busy r id) = refuses r id why.RoleActive
says s g (meant.Asks a id) = refused_by a.role id g
says s g (meant.Closes id) = []
says s g (meant.Turns p) = []
says s g meant.Media = []

-- ---- what is asked of a stream

-- with the name that was asked for
abbrev pub calls_by : Role → List ℕ → Option Grant → Option Act
calls_by role.Publish name (Some (grant.Place place)) = Some (act.Begin place name)
calls_by role.Play name (Some (grant.Place place)) = Some (act.Join place name)
calls_by r name _ = None

-- the role on the message stream ends
abbrev pub ends : ℕ → Phase → Option Act
ends id (phase.Publishes n size) = if n == id then Some act.End else None
ends id (phase.Plays p) = if p.id == id then Some (act.Leave p.player) else None
ends id phase.Idle = None
ends id (phase.Asked r n) = None

-- the unit that is published by a message, where a publish is granted
abbrev pub published_in : Phase → Message → Option Media
published_in (phase.Publishes id size) m = unit_from m.kind m.time m.body size
published_in phase.Idle m = None
published_in (phase.Asked r id) m = None
published_in (phase.Plays p) m = None

-- THE ONE CALL that is made at the stream
unfoldable pub makes : State → Message → Option Grant → Meant → Option Act
makes s m g meant.Passed = None
makes s m g (meant.Connects transaction app) = None
makes s m g (meant.Creates transaction id) = None
makes s m g (meant.Busy r id) = None
makes s m g (meant.Asks a id) = calls_by a.role a.name g
makes s m g (meant.Closes id) = ends id s.phase
makes s m g (meant.Turns p) = None
makes s m g meant.Media = option_map act.Push (published_in s.phase m)

-- ---- where the dialogue stands after it

abbrev pub asked : Role → ℕ → Option Grant → Phase
asked r id (Some (grant.Place place)) = phase.Asked r id
asked r id _ = phase.Idle

abbrev pub phase_without : ℕ → Phase → Phase
phase_without id (phase.Publishes n size) = if n == id then phase.Idle else phase.Publishes n size
phase_without id (phase.Plays p) = if p.id == id then phase.Idle else phase.Plays p
phase_without id p = p

-- the length size after a unit: that of the unit, where it is a video configuration
abbrev pub size_by : Kind → List ℕ → ℕ → ℕ
size_by kind.VConfig body size = length_size body
size_by kind.Meta body size = size
size_by kind.AConfig body size = size
size_by kind.Key body size = size
size_by kind.Inter body size = size
size_by kind.Spare body size = size
size_by kind.Audio body size = size
size_by kind.Data body size = size

abbrev pub sized : Option Media → Phase → Phase
sized (Some u) (phase.Publishes id size) = phase.Publishes id (size_by u.kind u.body size)
sized _ p = p

abbrev pub without : ℕ → List ℕ → List ℕ
without id ids = filter (λ n. not (n == id)) ids

-- THE STATE after it
unfoldable pub after : State → Message → Option Grant → Meant → State
after s m g meant.Passed = s
after s m g (meant.Connects transaction app) = with_app s app
after s m g (meant.Creates transaction id) = with_ids s (s.ids ++ id ∷ [])
after s m g (meant.Busy r id) = s
after s m g (meant.Asks a id) = with_phase s (asked a.role id g)
after s m g (meant.Closes id) = with_phase (with_ids s (without id s.ids)) (phase_without id s.phase)
after s m g (meant.Turns p) = with_phase s (phase.Plays p)
after s m g meant.Media = with_phase s (sized (published_in s.phase m) s.phase)

abbrev pub stepped : State → Message → Option Grant → Meant → Step
stepped s m g meant = record { state = after s m g meant; says = says s g meant; makes = makes s m g meant }

-- ---- a message by itself, where the grants of a desk are known

abbrev pub granted : (Ask → Grant) → Meant → Option Grant
granted desk meant = option_map desk (ask_in meant)

-- a message that is refused does nothing
abbrev pub does_by : (Ask → Grant) → State → Message → Result Meant DialogFail → Step
does_by desk s m (Ok meant) = stepped s m (granted desk meant) meant
does_by desk s m (Err e) = record { state = s; says = []; makes = None }

-- WHAT A MESSAGE DOES
unfoldable pub does : (Ask → Grant) → State → Message → Step
does desk s m = does_by desk s m (meaning s m)

-- ---- the stream's reply to a Begin or Join

abbrev pub told_publish : ℕ → Reply → List Message
told_publish id (reply.Began n) = answers id answer.PublishStart ∷ []
told_publish id (reply.NoSlot slots) = refuses role.Publish id why.Full
told_publish id _ = refuses role.Publish id why.InUse

abbrev pub told_play : ℕ → Reply → List Message
told_play id (reply.Joined player from) = message_of (control.User 0 id) ∷ answers id answer.PlayStart ∷ []
told_play id _ = refuses role.Play id why.Full

abbrev pub told_in : Phase → Reply → List Message
told_in (phase.Asked role.Publish id) r = told_publish id r
told_in (phase.Asked role.Play id) r = told_play id r
told_in _ r = []

abbrev pub publishes_after : ℕ → Reply → Phase
publishes_after id (reply.Began n) = phase.Publishes id 0
publishes_after id _ = phase.Idle

-- the switches are on, and the player isn't paused
abbrev pub plays_after : ℕ → Reply → Phase
plays_after id (reply.Joined player from) =
    phase.Plays (record { player = player; id = id; want = record { audio = true; video = true }; paused = false })
plays_after id _ = phase.Idle

abbrev pub phase_after : Phase → Reply → Phase
phase_after (phase.Asked role.Publish id) r = publishes_after id r
phase_after (phase.Asked role.Play id) r = plays_after id r
phase_after p r = p

-- WHAT THE REPLY DOES
unfoldable pub told : State → Reply → Told
told s r = record { state = with_phase s (phase_after s.phase r); says = told_in s.phase r }

-- ---- the call that an act is

-- A name of more than 64 bytes is no name of a broadcast: only a stream, which answers both calls alike,
-- could be granted by it
abbrev pub named : (List ℕ → Call) → Call → List ℕ → Call
named with_name without_name name = if nat_le (length name) 64 then with_name name else without_name

abbrev pub call_of : Act → Call
call_of (act.Begin place name) = named call.BeginAs call.Begin name
call_of (act.Join place name) = named call.JoinAs call.Join name
call_of (act.Push unit) = call.Push unit
call_of act.End = call.End
call_of (act.Leave player) = call.Leave player

-- ---- what a player is shown of an item: a marker as an event and a status, a unit as a message of its type

abbrev pub unit_message : ℕ → Media → Message
unit_message id unit = record { kind = message_type unit.kind; stream = id; time = unit.time; body = unit.body }

abbrev pub shown : ℕ → Item → List Message
shown id item.Begin = message_of (control.User 0 id) ∷ answers id answer.PublishNotify ∷ []
shown id (item.Unit unit) = unit_message id unit ∷ []
shown id item.End = message_of (control.User 1 id) ∷ answers id answer.UnpublishNotify ∷ []

abbrev pub shown_in : Phase → Item → List Message
shown_in (phase.Plays p) i = shown p.id i
shown_in _ i = []

-- WHAT IS SHOWN of an item
unfoldable pub shows : State → Item → List Message
shows s i = shown_in s.phase i
