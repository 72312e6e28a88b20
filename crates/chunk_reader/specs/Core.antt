-- Only proofs and private functions use it.
-- How the reader's fields stand for the state and the bytes of the chunk in progress
use Rattle.std.specs.Prelude.{◌≡◌, ℕ, ◌+◌, ◌<◌, ◌≤◌, ◌⊎◌, List, length, get_or, set}
use Rattle.chunk_wire.specs.declared.kept.ChunkStream.{ChunkStream}
use Rattle.chunk_wire.specs.declared.message.Message.{Message}
use Rattle.chunk_wire.specs.State.{State, put, part_bytes}
use Rattle.chunk_wire.specs.Chunk.{chunk_size, header_size, opened, filled, with_part}
use Rattle.chunk_reader.specs.Reads.{Reads, held_bytes}
use Rattle.chunk_reader.specs.declared.fields.Core.{Core}

-- the state that the fields hold between two chunks
abbrev pub the_state : Core → State
the_state core = record { size = core.size; kept = core.slots.items }

-- a chunk's header isn't whole
pub record AtHead (s : State) (r : List ℕ) (core : Core) : Type 0 where
  pub state : s ≡ the_state core
  pub head : r ≡ core.head.items
  pub need : core.need ≡ 0
  pub short : length r < header_size s r

-- the record k is put into these, and its slot is at the place
pub record IsPlaceOf (kept : List ChunkStream) (k : ChunkStream) (slots : List ChunkStream) (place : ℕ) : Type 0 where
  pub within : place < length slots
  pub slots_are : slots ≡ put k kept
  pub is : (d : ChunkStream) → get_or slots place d ≡ k
  pub puts : (part : List ℕ) → set slots place (with_part k part) ≡ put (with_part k part) kept

-- a chunk's payload isn't whole
pub record InPayload (s : State) (r : List ℕ) (core : Core) : Type 0 where
  pub size : core.size ≡ s.size
  pub head : length core.head.items ≡ 0
  pub whole : header_size s r ≤ length r
  pub place : IsPlaceOf s.kept (with_part (opened s r) (filled s r)) core.slots.items core.place
  pub need : core.need + length r ≡ chunk_size s r
  pub some : 0 < core.need

-- what the fields stand for
pub record IsStanding (max : ℕ) (fed : List ℕ) (given : List (ℕ × Message)) (core : Core) : Type 0 where
  pub s : State
  pub r : List ℕ
  pub reads : Reads max fed given s r
  pub max_is : core.max ≡ max
  pub fields : AtHead s r core ⊎ InPayload s r core
  pub held : core.held ≡ held_bytes s r
  pub counted : core.held ≡ part_bytes core.slots.items
