-- What is said and shown can be written as chunks: it is of a type that is written, isn't too long, has a
-- time of 32 bits, and is on message stream 0 or one that is open, of which the ids are at most 16.
use Rattle.std.specs.Prelude.{◌≡◌, ◌⊎◌, ℕ, ◌<◌, ◌≤◌, ◌^◌, List, [], ◌∷◌, length}
use Rattle.av_unit.specs.declared.item.Item.{Item}
use Rattle.av_unit.specs.declared.item.Item.TheVariants as item
use Rattle.relay_base.specs.Numbers.{be32_of}
use Rattle.chunk_wire.specs.declared.message.Message.{Message}
use Rattle.command_dialog.specs.declared.types.Phase.{Phase}
use Rattle.command_dialog.specs.declared.types.Phase.TheVariants as phase
use Rattle.command_dialog.specs.State.{State}

-- a message that is said: Set Chunk Size, User Control, Window Acknowledgement Size, Set Peer Bandwidth or a command
pub record IsSaid (m : Message) : Type 0 where
  pub kind : (m.kind ≡ 1) ⊎ ((m.kind ≡ 4) ⊎ ((m.kind ≡ 5) ⊎ ((m.kind ≡ 6) ⊎ (m.kind ≡ 20))))
  pub short : length m.body ≤ 190
  pub size : m.kind ≡ 1 → be32_of m.body ≡ 4096
  pub time : m.time < 2 ^ 32

-- a message that is shown: User Control, audio, video, data or a command
pub record IsShown (m : Message) : Type 0 where
  pub kind : (m.kind ≡ 4) ⊎ ((m.kind ≡ 8) ⊎ ((m.kind ≡ 9) ⊎ ((m.kind ≡ 18) ⊎ (m.kind ≡ 20))))
  pub short : length m.body < 2 ^ 24
  pub time : m.time < 2 ^ 32

-- the body of a unit fits into a message, and its time into 32 bits
abbrev pub HasRoom : Item → Type 0
HasRoom item.Begin = Unit {0}
HasRoom (item.Unit unit) = (length unit.body < 2 ^ 24) × (unit.time < 2 ^ 32)
HasRoom item.End = Unit {0}

-- ---- the message streams

-- a message is on stream 0 or one of the ids that are given
abbrev pub IsOn : Message → Type 0
IsOn m = m.stream ≤ 16

abbrev pub AreIds : List ℕ → Type 0
AreIds [] = Unit {0}
AreIds (id ∷ ids) = (id ≤ 16) × AreIds ids

abbrev pub IsPhaseOn : Phase → Type 0
IsPhaseOn phase.Idle = Unit {0}
IsPhaseOn (phase.Asked r id) = id ≤ 16
IsPhaseOn (phase.Publishes id size) = id ≤ 16
IsPhaseOn (phase.Plays p) = p.id ≤ 16

-- the ids that are open, and that of the role, are at most 16
pub record HasIds (s : State) : Type 0 where
  pub ids : AreIds s.ids
  pub role : IsPhaseOn s.phase
