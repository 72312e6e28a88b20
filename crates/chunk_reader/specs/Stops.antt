-- Where bytes are refused: the first `at` of them are read, and the byte after them decides the cause
use Rattle.std.specs.Prelude.{◌≡◌, ℕ, ◌^◌, ◌<◌, ◌≤◌, true, false, List, [], ◌∷◌, ◌++◌, length, take, slice_index, Some, None}
use Rattle.chunk_wire.specs.declared.message.Message.{Message}
use Rattle.chunk_wire.specs.Layout.{basic_size, format_in, id_in}
use Rattle.chunk_wire.specs.State.{State}
use Rattle.chunk_wire.specs.Chunk.{chunk_size, header_size, opened, is_known, message_of}
use Rattle.chunk_reader.specs.declared.fail.ReadCause.{ReadCause}
use Rattle.chunk_reader.specs.declared.fail.ReadCause.TheVariants.{NoHead, TooManyIds, TooLong, TooMuch, BadChunkSize, OutOfMemory, TooFar}
use Rattle.chunk_reader.specs.Control.{bad_size}
use Rattle.chunk_reader.specs.Reads.{Reads, Admits, has_room, held_bytes, part_limit}

-- the last of the bytes r of a chunk from s is refused for this cause, where n bytes stand before it in all
abbrev pub Refuses : ℕ → State → List ℕ → ℕ → ReadCause → Type 0
Refuses max s r n (NoHead id) = (length r ≡ basic_size r) × (id ≡ id_in r) × (is_known s r ≡ false) × (2 ≤ format_in r)
Refuses max s r n TooManyIds = (length r ≡ basic_size r) × (is_known s r ≡ false) × (format_in r < 2) × (64 ≤ length s.kept)
Refuses max s r n (TooLong found) = (length r ≡ header_size s r) × (has_room s r ≡ true) × (found ≡ (opened s r).terms.length) × (max < found)
Refuses max s r n TooMuch = (header_size s r < length r) × (length r ≤ chunk_size s r) × (part_limit max < held_bytes s r)
Refuses max s r n (BadChunkSize value) = (length r ≡ chunk_size s r) × Admits max s r × (bad_size (message_of s r) ≡ Some value)
Refuses max s r n OutOfMemory = ⊥
Refuses max s r n TooFar = (n ≡ 2 ^ 62) × Admits max s r × (length r ≡ chunk_size s r → bad_size (message_of s r) ≡ None)

pub record Stops (max : ℕ) (b : List ℕ) (cause : ReadCause) (place : ℕ) : Type 0 where
  pub ms : List (ℕ × Message)
  pub s : State
  pub r : List ℕ
  pub reads : Reads max (take place b) ms s r
  pub there : place < length b
  pub refused : Refuses max s (r ++ slice_index b place ∷ []) place cause
