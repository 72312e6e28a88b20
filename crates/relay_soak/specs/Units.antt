-- The units that are published in a soak.
use Rattle.std.specs.Prelude.{ℕ, zero, suc, ◌+◌, ◌*◌, ◌%◌, ◌==◌, if◌then◌else◌, List, [], ◌∷◌, ◌++◌}
use Rattle.std.proofs.Math.ListN.{replicate}
use Rattle.chunk_wire.specs.declared.message.Message.{Message}
use Rattle.chunk_writer.specs.WriterKnown.{WriterKnown}
use Rattle.chunk_writer.specs.Written.{bytes_of, next}
use Rattle.relay_soak.specs.Clients.{after_first, publish}

-- how unit i begins: each 250 a configuration and a key frame of AVC, and after them inter frames of it and
-- frames of AAC in turn
abbrev pub head : ℕ → List ℕ
head i =
    if i % 250 == 0 then 23 ∷ 0 ∷ []
    else (if i % 250 == 1 then 23 ∷ 1 ∷ []
    else (if i % 2 == 0 then 39 ∷ 1 ∷ []
    else 175 ∷ 1 ∷ []))

-- the type of its message: 8 for sound, 9 for pictures
abbrev pub kind : ℕ → ℕ
kind i =
    if i % 250 == 0 then 9
    else (if i % 250 == 1 then 9
    else (if i % 2 == 0 then 9
    else 8))

-- of 10 bytes and more
abbrev pub body : ℕ → List ℕ
body i = head i ++ replicate (8 + (37 * i) % 990) 0

-- each 20 milliseconds
abbrev pub message : ℕ → Message
message i = record { kind = kind i; stream = 1; time = 20 * i; body = body i }

-- what its publisher's client has written before unit i
abbrev pub before : ℕ → WriterKnown
before zero = after_first publish
before (suc i) = next (before i) (message i)

-- its bytes as the client writes them
abbrev pub piece : ℕ → List ℕ
piece i = bytes_of (before i) (message i)
