-- Words for worked chunks
use Rattle.std.specs.Prelude.{ℕ, List, [], ◌∷◌, ◌++◌, replicate}
use Rattle.chunk_wire.specs.declared.headers.Basic.{Basic}
use Rattle.chunk_wire.specs.declared.headers.Head.{Head}
use Rattle.chunk_wire.specs.declared.message.Message.{Message}

abbrev pub basic : ℕ → ℕ → Basic
basic format id = record { format = format; id = id }

abbrev pub head : ℕ → ℕ → ℕ → ℕ → ℕ → ℕ → Head
head format id field len kind stream = record { format = format; id = id; field = field; length = len; kind = kind; stream = stream }

abbrev pub message : ℕ → ℕ → ℕ → List ℕ → Message
message kind stream time body = record { kind = kind; stream = stream; time = time; body = body }

-- an audio message of 200 bytes on chunk stream 4 at time 16,777,216: the header of its first chunk, with
-- extended time, and that of its second
abbrev pub far_first : List ℕ
far_first = 0x04 ∷ 0xFF ∷ 0xFF ∷ 0xFF ∷ 0 ∷ 0 ∷ 0xC8 ∷ 8 ∷ 1 ∷ 0 ∷ 0 ∷ 0 ∷ 1 ∷ 0 ∷ 0 ∷ 0 ∷ []

abbrev pub far_second : List ℕ
far_second = 0xC4 ∷ 1 ∷ 0 ∷ 0 ∷ 0 ∷ []

-- a user control message with event 7 and value 5 on chunk stream 2, in format 1
abbrev pub ping_response : List ℕ
ping_response = 0x42 ∷ 0 ∷ 0 ∷ 0 ∷ 0 ∷ 0 ∷ 6 ∷ 4 ∷ 0 ∷ 7 ∷ 0 ∷ 0 ∷ 0 ∷ 5 ∷ []
