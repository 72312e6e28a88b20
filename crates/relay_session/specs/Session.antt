-- The dialogue of a session: what it does at a message of its peer, at the reply of a stream, and at an item
use Rattle.std.specs.Prelude.{ℕ, List, [], ◌∷◌, Option, Some, None, option_map, Result, Ok, Err}
use Rattle.std.specs.Option.{is_some}
use Rattle.chunk_wire.specs.declared.message.Message.{Message}
use Rattle.ack_window.specs.declared.control.Control.{Control}
use Rattle.ack_window.specs.declared.control.Control.TheVariants.{ChunkSize, Abort, Acknowledgement, User, Window, Bandwidth}
use Rattle.ack_window.specs.declared.control.BadControl.{BadControl}
use Rattle.ack_window.specs.Controls.{control_in, message_of, ping_answer_of}
use Rattle.ack_window.specs.Outbound.{OutWindow, out_acked, out_set}
use Rattle.av_unit.specs.declared.item.Item.{Item}
use Rattle.stream_model.specs.declared.replies.Reply.{Reply}
use Rattle.stream_model.specs.declared.replies.Reply.TheVariants as reply
use Rattle.command_dialog.specs.declared.types.Ask.{Ask}
use Rattle.command_dialog.specs.declared.types.Grant.{Grant}
use Rattle.command_dialog.specs.declared.types.Act.{Act}
use Rattle.command_dialog.specs.declared.types.Act.TheVariants as act
use Rattle.command_dialog.specs.Dialog.{call_of, shows}
use Rattle.command_dialog.specs.Dialog as dialog
use Rattle.command_dialog.specs.Meaning.{meaning}
use Rattle.command_dialog.specs.State.{State, fresh, playing_in}
use Rattle.command_dialog.specs.declared.types.Meant.{Meant}
use Rattle.command_dialog.specs.declared.types.DialogFail.{DialogFail}
use Rattle.command_dialog.specs.declared.types.DialogFail.TheVariants as fail
use Rattle.stream_model.specs.declared.calls.Call.{Call}
use Rattle.stream_model.specs.declared.calls.Entry.{Entry}
use Rattle.relay_session.specs.declared.end.End.{End}
use Rattle.relay_session.specs.declared.end.End.TheVariants as end
use Rattle.session_owed.specs.Dialogue.{Dialogue, Step, Told}

-- the answer to a ping request (7.1.7)
abbrev pub pongs : Option Control → List Message
pongs None = []
pongs (Some control) = message_of control ∷ []

-- a message that is no control message
abbrev pub commands : (Ask → Grant) → State → Message → Step State
commands desk s m = record {
  state = (dialog.does desk s m).state;
  says = (dialog.does desk s m).says;
  makes = option_map call_of (dialog.does desk s m).makes;
}

-- a control message that can't be read does nothing, and ends the session
abbrev pub does_by : (Ask → Grant) → State → Message → Result (Option Control) BadControl → Step State
does_by desk s m (Ok None) = commands desk s m
does_by desk s m (Ok (Some control)) = record { state = s; says = pongs (ping_answer_of control); makes = None }
does_by desk s m (Err e) = record { state = s; says = []; makes = None }

-- WHAT A MESSAGE DOES, where the grants of a desk are known
unfoldable pub does : (Ask → Grant) → State → Message → Step State
does desk s m = does_by desk s m (control_in m)

-- why a message ends the session, where its last byte is at this place: it has no meaning
abbrev pub ended_by : ℕ → Result Meant DialogFail → Option End
ended_by at (Ok meant) = None
ended_by at (Err (fail.BadCommand place)) = Some (end.BadCommand at)
ended_by at (Err fail.TooManyStreams) = Some (end.TooManyStreams at)
ended_by at (Err fail.OutOfMemory) = Some end.OutOfMemory

abbrev pub refused_by : ℕ → State → Message → Result (Option Control) BadControl → Option End
refused_by at s m (Ok None) = ended_by at (meaning s m)
refused_by at s m (Ok (Some control)) = None
refused_by at s m (Err e) = Some (end.BadControl at)

-- WHY A MESSAGE ENDS the session, if it does
unfoldable pub refused : ℕ → State → Message → Option End
refused at s m = refused_by at s m (control_in m)

-- WHAT A REPLY DOES
unfoldable pub told : State → Reply → Told State
told s r = record { state = (dialog.told s r).state; says = (dialog.told s r).says }

-- the dialogue of a session of this name, that tells and begins with this window
abbrev pub session : ℕ → ℕ → (Ask → Grant) → Dialogue State
session who window desk = record { who = who; window = window; start = fresh window; does = does desk; told = told; shows = shows; plays = λ s. is_some (playing_in s.phase) }

-- a call as an entry
abbrev pub entry_by : ℕ → ℕ → Option Call → Option Entry
entry_by who at None = None
entry_by who at (Some call) = Some (record { who = who; at = at; call = call })

-- ---- what a message does besides

-- the outbound window after a control: an Acknowledgement is heard, and a Set Peer Bandwidth sets it (5.4.3, 5.4.5)
abbrev pub outbound_after : OutWindow → Control → OutWindow
outbound_after o (Acknowledgement count) = out_acked o count
outbound_after o (Bandwidth size limit) = out_set o size limit
outbound_after o (ChunkSize size) = o
outbound_after o (Abort id) = o
outbound_after o (User event value) = o
outbound_after o (Window size) = o

abbrev pub outbound_in : OutWindow → Result (Option Control) BadControl → OutWindow
outbound_in o (Ok (Some control)) = outbound_after o control
outbound_in o (Ok None) = o
outbound_in o (Err e) = o

-- THE OUTBOUND WINDOW after a message
unfoldable pub outbound_by : OutWindow → Message → OutWindow
outbound_by o m = outbound_in o (control_in m)

-- the place that a Begin or Join names, or the one before
abbrev pub place_after : Option ℕ → Option Act → Option ℕ
place_after place None = place
place_after place (Some (act.Begin p name)) = Some p
place_after place (Some (act.Join p name)) = Some p
place_after place (Some (act.Push unit)) = place
place_after place (Some act.End) = place
place_after place (Some (act.Leave player)) = place

abbrev pub place_in : (Ask → Grant) → State → Message → Option ℕ → Result (Option Control) BadControl → Option ℕ
place_in desk s m place (Ok None) = place_after place (dialog.does desk s m).makes
place_in desk s m place (Ok (Some control)) = place
place_in desk s m place (Err e) = place

-- THE PLACE of the session's calls after a message
unfoldable pub place_by : (Ask → Grant) → State → Option ℕ → Message → Option ℕ
place_by desk s place m = place_in desk s m place (control_in m)

-- the item that a reply brings
abbrev pub item_in : Reply → Option Item
item_in (reply.Sent from n item) = Some item
item_in (reply.Began n) = None
item_in (reply.InUse by) = None
item_in (reply.Pushed n) = None
item_in (reply.NotPublisher live) = None
item_in (reply.Ended n) = None
item_in (reply.Joined player from) = None
item_in reply.Full = None
item_in (reply.NoSlot slots) = None
item_in reply.NotPlayer = None
item_in (reply.Skip from to) = None
item_in (reply.NotYet end) = None
item_in (reply.Left player) = None
item_in (reply.Counts began pushed ended joined skips) = None
