-- What a list of bytes reads as: chunks, each from the state that the one before left, and then less than a chunk
use Rattle.std.specs.Prelude.{◌≡◌, ℕ, ◌+◌, ◌-◌, ◌^◌, ◌<◌, ◌≤◌, nat_le, nat_lt, Bool, true, ◌&&◌, ◌||◌, if◌then◌else◌}
use Rattle.std.specs.Prelude.{List, [], ◌∷◌, ◌++◌, length, Option, Some, None}
use Rattle.std.specs.List.{concat}
use Rattle.chunk_wire.specs.declared.message.Message.{Message}
use Rattle.chunk_wire.specs.Layout.{basic_size, format_in}
use Rattle.chunk_wire.specs.State.{State, fresh_state, part_bytes, put}
use Rattle.chunk_wire.specs.Chunk.{IsChunk, chunk_size, header_size, opened, is_known, message_of, after_chunk}
use Rattle.chunk_reader.specs.Control.{next, bad_size}

-- the most bytes that messages in progress may have
abbrev pub part_limit : ℕ → ℕ
part_limit max = max + 65536

-- the bytes held of messages in progress after the bytes r of a chunk from s: a header that is whole drops
-- what it drops
unfoldable pub held_bytes : State → List ℕ → ℕ
held_bytes s r =
    if nat_le (header_size s r) (length r) then part_bytes (put (opened s r) s.kept) + (length r - header_size s r)
    else part_bytes s.kept

-- a chunk of the id is taken: it isn't fresh, or it may begin and fewer than 64 ids are known
abbrev pub has_room : State → List ℕ → Bool
has_room s r = is_known s r || (nat_lt (format_in r) 2 && nat_lt (length s.kept) 64)

-- nothing in the bytes r of a chunk from s is refused, and what was held before it is within the limit
pub record Admits (max : ℕ) (s : State) (r : List ℕ) : Type 0 where
  pub room : basic_size r ≤ length r → has_room s r ≡ true
  pub length : header_size s r ≤ length r → (opened s r).terms.length ≤ max
  pub held : held_bytes s r ≤ part_limit max
  pub before : part_bytes s.kept ≤ part_limit max

-- less than a chunk
pub record IsOpen (max : ℕ) (s : State) (r : List ℕ) : Type 0 where
  pub admitted : Admits max s r
  pub short : length r < chunk_size s r

-- a chunk within the limits, with the state and the message that it gives
pub record IsChunkWithin (max : ℕ) (s : State) (c : List ℕ) : Type 0 where
  pub chunk : IsChunk s c (after_chunk s c) (message_of s c)
  pub admitted : Admits max s c
  pub sized : bad_size (message_of s c) ≡ None

-- each is a chunk from the state that the one before left
abbrev pub AreChunks : ℕ → State → List (List ℕ) → Type 0
AreChunks max s [] = Unit {0}
AreChunks max s (c ∷ cs) = IsChunkWithin max s c × AreChunks max (next s c) cs

abbrev pub state_after : State → List (List ℕ) → State
state_after s [] = s
state_after s (c ∷ cs) = state_after (next s c) cs

-- a message with the number of bytes up to its last
abbrev pub ended : ℕ → Option Message → List (ℕ × Message)
ended n None = []
ended n (Some m) = (n, m) ∷ []

-- the messages that the chunks complete, each with the number of bytes up to its last
abbrev pub messages : ℕ → State → List (List ℕ) → List (ℕ × Message)
messages n s [] = []
messages n s (c ∷ cs) = ended (n + length c) (message_of s c) ++ messages (n + length c) (next s c) cs

-- The bytes b read as the messages ms, which leave the state s, and the bytes r of a chunk that isn't whole.
pub record Reads (max : ℕ) (b : List ℕ) (ms : List (ℕ × Message)) (s : State) (r : List ℕ) : Type 0 where
  pub chunks : List (List ℕ)
  pub are_chunks : AreChunks max fresh_state chunks
  pub whole : b ≡ concat chunks ++ r
  pub given : ms ≡ messages 0 fresh_state chunks
  pub state : s ≡ state_after fresh_state chunks
  pub rest : IsOpen max s r
  pub near : length b ≤ 2 ^ 62
