-- What is read of messages that were written
use Rattle.std.specs.Prelude.{◌≡◌, ℕ, ◌+◌, ◌<◌, ◌≤◌, ◌^◌, true, List, [], ◌∷◌, length, map, None}
use Rattle.chunk_wire.specs.declared.message.Message.{Message}
use Rattle.chunk_wire.specs.State.{State}
use Rattle.chunk_reader.specs.Control.{refused_size}
use Rattle.chunk_reader.specs.Reads.{Reads}
use Rattle.chunk_writer.specs.WriterKnown.{WriterKnown, fresh}
use Rattle.chunk_writer.specs.Rule.{is_written}
use Rattle.chunk_writer.specs.Written.{bytes_of, next, written}

-- a message that a writer takes, and that a reader takes whose longest message has max bytes: no longer, and with no
-- Set Chunk Size that is refused
pub record IsReadable (max : ℕ) (m : Message) : Type 0 where
  pub kind : is_written m.kind ≡ true
  pub stream : m.stream < 2 ^ 32
  pub time : m.time < 2 ^ 32
  pub short : length m.body < 2 ^ 24
  pub fits : length m.body ≤ max
  pub sized : refused_size m ≡ None

abbrev pub AreReadable : ℕ → List Message → Type 0
AreReadable max [] = Unit {0}
AreReadable max (m ∷ ms) = IsReadable max m × AreReadable max ms

-- each message with the number of bytes up to its last, where n bytes were written before them
abbrev pub placed : ℕ → WriterKnown → List Message → List (ℕ × Message)
placed n w [] = []
placed n w (m ∷ ms) = (n + length (bytes_of w m), m) ∷ placed (n + length (bytes_of w m)) (next w m) ms

-- the bytes of the messages read as these messages, each ending with its own last byte, and nothing is left
pub record IsReadBack (max : ℕ) (ms : List Message) : Type 0 where
  pub s : State
  pub reads : Reads max (written fresh ms) (placed 0 fresh ms) s []
  pub messages : map (λ p. p.1) (placed 0 fresh ms) ≡ ms
