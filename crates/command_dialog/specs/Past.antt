-- THE FOLD: where the dialogue stands after all that was met, and what all of it said and made.
use Rattle.std.specs.Prelude.{ℕ, List, [], ◌∷◌, ◌++◌, Option, Some, None, Result, Ok, Err}
use Rattle.std.specs.declared.snapshot.Snapshot.{Snapshot}
use Rattle.chunk_wire.specs.declared.message.Message.{Message}
use Rattle.stream_model.specs.declared.replies.Reply.{Reply}
use Rattle.command_dialog.specs.declared.types.Grant.{Grant}
use Rattle.command_dialog.specs.declared.types.Act.{Act}
use Rattle.command_dialog.specs.declared.types.Meant.{Meant}
use Rattle.command_dialog.specs.declared.types.Meant.TheVariants as meant
use Rattle.command_dialog.specs.declared.types.DialogFail.{DialogFail}
use Rattle.command_dialog.specs.State.{State, Step, Told, fresh}
use Rattle.command_dialog.specs.Meaning.{meaning}
use Rattle.command_dialog.specs.Dialog.{stepped, told}

-- a message with its grant, or the stream's reply to a Begin or Join
pub data Event : Type 0 where
  met : Message → Option Grant → Event
  answered : Reply → Event

-- the same as the code keeps it
abbrev pub event_of : Result (Message × Option Grant) (Snapshot Reply) → Event
event_of (Ok p) = met p.0 p.1
event_of (Err r) = answered r.value

-- a message that is refused is the last one
abbrev pub or_passed : Result Meant DialogFail → Meant
or_passed (Ok m) = m
or_passed (Err e) = meant.Passed

abbrev pub as_step : Told → Step
as_step t = record { state = t.state; says = t.says; makes = None }

abbrev pub one : State → Event → Step
one s (met m g) = stepped s m g (or_passed (meaning s m))
one s (answered r) = as_step (told s r)

-- the newest event first
abbrev pub state_of : ℕ → List Event → State
state_of window [] = fresh window
state_of window (e ∷ past) = (one (state_of window past) e).state

-- all that was said, in the order in which it was
abbrev pub said_of : ℕ → List Event → List Message
said_of window [] = []
said_of window (e ∷ past) = said_of window past ++ (one (state_of window past) e).says

abbrev pub acts_in : Option Act → List Act
acts_in None = []
acts_in (Some a) = a ∷ []

-- all that was asked of streams, in the order in which it was
abbrev pub made_of : ℕ → List Event → List Act
made_of window [] = []
made_of window (e ∷ past) = made_of window past ++ acts_in (one (state_of window past) e).makes

-- what contracts see of a dialogue with its past
pub record Talked : Type 0 where
  pub window : ℕ
  pub past : List Event

abbrev pub now_in : Talked → State
now_in t = state_of t.window t.past

abbrev pub talked : Talked → Event → Talked
talked t e = record { window = t.window; past = e ∷ t.past }
