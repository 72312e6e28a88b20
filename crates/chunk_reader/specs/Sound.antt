-- What a reader keeps true of its fields
use Rattle.std.specs.Prelude.{◌≡◌, ℕ, List, [], Option, length, is_some, true, false}
use Rattle.chunk_wire.specs.declared.message.Message.{Message}
use Rattle.chunk_wire.specs.State.{State}
use Rattle.chunk_reader.specs.declared.fields.Core.{Core}
use Rattle.chunk_reader.specs.declared.fail.ReadFail.{ReadFail}
use Rattle.chunk_reader.specs.Reads.{Reads}
use Rattle.chunk_reader.specs.Core.{IsStanding}

-- the bytes read as these messages
pub record IsRead (max : ℕ) (fed : List ℕ) (given : List (ℕ × Message)) : Type 0 where
  pub s : State
  pub r : List ℕ
  pub reads : Reads max fed given s r

-- a reader that hasn't failed stands for what it was fed, and one that has holds nothing
pub record IsSound (core : Core) (count : ℕ) (failed : Option ReadFail) (fed : List ℕ) (given : List (ℕ × Message)) : Type 0 where
  pub counted : count ≡ length fed
  pub read : IsRead core.max fed given
  pub standing : is_some failed ≡ false → IsStanding core.max fed given core
  pub empty : is_some failed ≡ true → core.held ≡ 0
  pub dropped : is_some failed ≡ true → core.slots.items ≡ []
