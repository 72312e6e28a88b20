-- What a message changes for the chunks after it (5.4): Set Chunk Size sets the size, and Abort drops the part held on
-- the chunk stream that it names. A body of fewer than four bytes changes nothing.
use Rattle.std.specs.Prelude.{ℕ, ◌^◌, nat_eq, nat_le, nat_lt, ◌&&◌, ◌||◌, if◌then◌else◌, List, [], length, Option, Some, None, get_or, set}
use Rattle.relay_base.specs.Numbers.{be32_of}
use Rattle.chunk_wire.specs.declared.kept.ChunkStream.{ChunkStream}
use Rattle.chunk_wire.specs.declared.message.Message.{Message}
use Rattle.chunk_wire.specs.State.{State, index_of, fresh_kept}
use Rattle.chunk_wire.specs.Chunk.{with_part, message_of, after_chunk}

abbrev pub dropped_at : ℕ → Option ℕ → List ChunkStream → List ChunkStream
dropped_at id None kept = kept
dropped_at id (Some i) kept = set kept i (with_part (get_or kept i (fresh_kept id)) [])

-- the records, the part of this id dropped
abbrev pub dropped : ℕ → List ChunkStream → List ChunkStream
dropped id kept = dropped_at id (index_of id kept) kept

unfoldable pub by_message : Message → State → State
by_message m s =
    if nat_lt (length m.body) 4 then s
    else (if nat_eq m.kind 1 then record { size = be32_of m.body; kept = s.kept }
    else (if nat_eq m.kind 2 then record { size = s.size; kept = dropped (be32_of m.body) s.kept }
    else s))

-- the state after the message, if there is one
abbrev pub controlled : Option Message → State → State
controlled None s = s
controlled (Some m) s = by_message m s

-- the number of a Set Chunk Size that is 0 or has its first bit set
unfoldable pub refused_size : Message → Option ℕ
refused_size m =
    if nat_eq m.kind 1 && (nat_le 4 (length m.body) && (nat_eq (be32_of m.body) 0 || nat_le (2 ^ 31) (be32_of m.body)))
    then Some (be32_of m.body) else None

abbrev pub bad_size : Option Message → Option ℕ
bad_size None = None
bad_size (Some m) = refused_size m

-- the state in which the next chunk begins
unfoldable pub next : State → List ℕ → State
next s c = controlled (message_of s c) (after_chunk s c)
