-- What the clients of a soak say.
use Rattle.std.specs.Prelude.{ℕ, List, [], ◌∷◌, ◌++◌, codes}
use Rattle.std.proofs.Math.ListN.{replicate}
use Rattle.chunk_wire.specs.declared.message.Message.{Message}
use Rattle.chunk_writer.specs.WriterKnown.{WriterKnown, fresh}
use Rattle.chunk_writer.specs.Written.{after_all, written}

-- ---- commands: a name, the number of the transaction, and what it is about

-- connect 1 { app: "live" }
abbrev pub connect : List ℕ
connect =
    (2 ∷ 0 ∷ 7 ∷ codes "connect") ++ (0 ∷ 63 ∷ 240 ∷ 0 ∷ 0 ∷ 0 ∷ 0 ∷ 0 ∷ 0 ∷ 3 ∷ 0 ∷ 3 ∷ codes "app") ++ (2 ∷ 0 ∷ 4 ∷ codes "live") ++ (0 ∷ 0 ∷ 9 ∷ [])

-- createStream 2 null
abbrev pub create_stream : List ℕ
create_stream = (2 ∷ 0 ∷ 12 ∷ codes "createStream") ++ (0 ∷ 64 ∷ 0 ∷ 0 ∷ 0 ∷ 0 ∷ 0 ∷ 0 ∷ 0 ∷ 5 ∷ [])

-- publish 3 null "soak" "live"
abbrev pub publish : List ℕ
publish = (2 ∷ 0 ∷ 7 ∷ codes "publish") ++ (0 ∷ 64 ∷ 8 ∷ 0 ∷ 0 ∷ 0 ∷ 0 ∷ 0 ∷ 0 ∷ 5 ∷ 2 ∷ 0 ∷ 4 ∷ codes "soak") ++ (2 ∷ 0 ∷ 4 ∷ codes "live")

-- play 3 null "soak"
abbrev pub play : List ℕ
play = (2 ∷ 0 ∷ 4 ∷ codes "play") ++ (0 ∷ 64 ∷ 8 ∷ 0 ∷ 0 ∷ 0 ∷ 0 ∷ 0 ∷ 0 ∷ 5 ∷ 2 ∷ 0 ∷ 4 ∷ codes "soak")

-- on a message stream, at time 0
abbrev pub command : ℕ → List ℕ → Message
command stream body = record { kind = 20; stream = stream; time = 0; body = body }

-- it connects, opens message stream 1, and asks there for that
abbrev pub asks : List ℕ → List Message
asks last = command 0 connect ∷ command 0 create_stream ∷ command 1 last ∷ []

-- a version and zero bytes stand for the handshake
abbrev pub first_input : List ℕ → List ℕ
first_input last = (3 ∷ replicate 3072 0) ++ written fresh (asks last)

-- what the client writes after it
abbrev pub after_first : List ℕ → WriterKnown
after_first last = after_all fresh (asks last)
