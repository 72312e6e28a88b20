-- Where the dialogue with one peer stands.
use Rattle.std.specs.Prelude.{ℕ, List, [], length, Option, Some, None}
use Rattle.chunk_wire.specs.declared.message.Message.{Message}
use Rattle.command_dialog.specs.declared.types.Act.{Act}
use Rattle.command_dialog.specs.declared.types.Phase.{Phase}
use Rattle.command_dialog.specs.declared.types.Phase.TheVariants as phase
use Rattle.command_dialog.specs.declared.types.Playing.{Playing}

-- the window that the connect answer tells, the app once connected, the open message streams, and the role
pub record State : Type 0 where
  pub window : ℕ
  pub app : Option (List ℕ)
  pub ids : List ℕ
  pub phase : Phase

-- what a message does: the state then, what is said to the peer, and after it the one call at a stream
pub record Step : Type 0 where
  pub state : State
  pub says : List Message
  pub makes : Option Act

-- what the reply to that call does
pub record Told : Type 0 where
  pub state : State
  pub says : List Message

-- nothing was said yet
abbrev pub fresh : ℕ → State
fresh window = record { window = window; app = None; ids = []; phase = phase.Idle }

abbrev pub with_app : State → List ℕ → State
with_app s app = record { window = s.window; app = Some app; ids = s.ids; phase = s.phase }

abbrev pub with_ids : State → List ℕ → State
with_ids s ids = record { window = s.window; app = s.app; ids = ids; phase = s.phase }

abbrev pub with_phase : State → Phase → State
with_phase s p = record { window = s.window; app = s.app; ids = s.ids; phase = p }

-- the granted play, where there is one
abbrev pub playing_in : Phase → Option Playing
playing_in (phase.Plays p) = Some p
playing_in phase.Idle = None
playing_in (phase.Asked r id) = None
playing_in (phase.Publishes id size) = None

-- the length of an app, where there is one
abbrev pub app_length : Option (List ℕ) → ℕ
app_length None = 0
app_length (Some app) = length app
