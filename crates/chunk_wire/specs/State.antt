-- What a reader of chunks keeps between two chunks (5.3.1): the chunk size, and a record for each chunk stream id
-- that isn't fresh, in the order in which they came
use Rattle.std.specs.Prelude.{ℕ, ◌==◌, false, List, [], ◌∷◌, ◌++◌, length, Option, Some, None, get_or, set}
use Rattle.std.specs.List.{position, sum_by}
use Rattle.chunk_wire.specs.declared.kept.ChunkStream.{ChunkStream}
use Rattle.chunk_wire.specs.declared.kept.Terms.{Terms}

pub record State : Type 0 where
  pub size : ℕ
  pub kept : List ChunkStream

-- the chunk size is 128 at first, and each id is fresh (5.4.1)
abbrev pub fresh_state : State
fresh_state = record { size = 128; kept = [] }

-- what stands for a header that an id never had
abbrev pub no_terms : Terms
no_terms = record { time = 0; delta = 0; length = 0; kind = 0; stream = 0; extended = false }

-- the record of a fresh id
abbrev pub fresh_kept : ℕ → ChunkStream
fresh_kept id = record { id = id; terms = no_terms; part = [] }

-- the place of the record of an id
unfoldable pub index_of : ℕ → List ChunkStream → Option ℕ
index_of id kept = position (λ k. k.id == id) kept

-- the record at a place, or a fresh one
abbrev pub at_place : ℕ → Option ℕ → List ChunkStream → ChunkStream
at_place id None kept = fresh_kept id
at_place id (Some i) kept = get_or kept i (fresh_kept id)

-- the record of an id, or a fresh one
abbrev pub kept_of : ℕ → List ChunkStream → ChunkStream
kept_of id kept = at_place id (index_of id kept) kept

-- the records with this one at its place
abbrev pub put_at : Option ℕ → ChunkStream → List ChunkStream → List ChunkStream
put_at None k kept = kept ++ k ∷ []
put_at (Some i) k kept = set kept i k

-- the records with this one in place of that of its id
abbrev pub put : ChunkStream → List ChunkStream → List ChunkStream
put k kept = put_at (index_of k.id kept) k kept

-- the bytes of messages in progress
abbrev pub part_bytes : List ChunkStream → ℕ
part_bytes kept = sum_by (λ k. length k.part) kept
