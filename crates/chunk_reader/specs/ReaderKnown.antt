-- What contracts see of a reader: its longest message, the bytes that it was fed up to now or up to the byte that it
-- refused, the messages that it gave, each with the number of bytes up to its last, and how it failed
use Rattle.std.specs.Prelude.{ℕ, List, Option}
use Rattle.chunk_wire.specs.declared.message.Message.{Message}
use Rattle.chunk_reader.specs.declared.fail.ReadFail.{ReadFail}

pub record ReaderKnown : Type 0 where
  pub max : ℕ
  pub fed : List ℕ
  pub given : List (ℕ × Message)
  pub failed : Option ReadFail
