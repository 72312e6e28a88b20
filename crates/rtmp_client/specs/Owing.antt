-- What a client is to send, encoded
use Rattle.std.specs.Prelude.{◌≡◌, ◌⊎◌, ℕ, ◌+◌, ◌-◌, ◌*◌, ◌<◌, ◌≤◌, max, true, List, [], ◌∷◌, ◌++◌, length, drop}
use Rattle.relay_base.specs.Numbers.{be32_of}
use Rattle.chunk_wire.specs.declared.message.Message.{Message}
use Rattle.chunk_writer.specs.WriterKnown.{WriterKnown, fresh}
use Rattle.chunk_writer.specs.Written.{IsWritable, after_all, sets_size, written}
use Rattle.client_owed.specs.declared.types.Given.{Given}
use Rattle.client_owed.specs.declared.types.Given.TheVariants.{Finish, Send}

-- a chunk size that a client tells: 128 at first, and then 4,096 (5.4.1)
pub record IsSized (size : ℕ) : Type 0 where
  pub least : 128 ≤ size
  pub most : size ≤ 4096

-- a message that a client sends: it can be written, and tells no other size of chunks
pub record IsSayable (m : Message) : Type 0 where
  pub can : IsWritable m
  pub sized : sets_size m ≡ true → IsSized (be32_of m.body)

abbrev pub AreSayable : List Message → Type 0
AreSayable [] = Unit {0}
AreSayable (m ∷ ms) = IsSayable m × AreSayable ms

-- sixteen times the bytes that a message has at most as chunks: 18 for its first header, and for each sixteen
-- bytes of its body one more
abbrev pub cost_of : Message → ℕ
cost_of m = 288 + 17 * length m.body

abbrev pub costs_of : List Message → ℕ
costs_of [] = 0
costs_of (m ∷ ms) = cost_of m + costs_of ms

-- what contracts see of it: the bytes, the writer after them, and how many of the last bytes are of no tag
pub record Owing : Type 0 where
  pub pending : List ℕ
  pub writer : WriterKnown
  pub others : ℕ

abbrev pub nothing : Owing
nothing = record { pending = []; writer = fresh; others = 0 }

-- the same by the fields: of the bytes those from an offset on are left, and those up to a place are of a tag
abbrev pub owing : List ℕ → ℕ → ℕ → WriterKnown → Owing
owing bytes offset tag writer = record { pending = drop offset bytes; writer = writer; others = length bytes - max offset tag }

-- messages more are to be sent, which are no tags
pub record Says (old : Owing) (l : List Message) (new : Owing) : Type 0 where
  pub bytes : new.pending ≡ old.pending ++ written old.writer l
  pub writer : new.writer ≡ after_all old.writer l
  pub others : new.others ≡ old.others + length (written old.writer l)

-- the message of a tag is to be sent, where nothing is pending
pub record Shows (old : Owing) (m : Message) (new : Owing) : Type 0 where
  pub bytes : new.pending ≡ old.pending ++ written old.writer (m ∷ [])
  pub writer : new.writer ≡ after_all old.writer (m ∷ [])
  pub others : new.others ≡ 0

-- what the fields keep. Of the bytes that were sent fewer are kept than 16,384 or than are pending, and none
-- where all were
pub record IsOwing (bytes : List ℕ) (offset tag : ℕ) (writer : WriterKnown) : Type 0 where
  pub within : offset ≤ length bytes
  pub marked : tag ≤ length bytes
  pub few : (offset < 16384) ⊎ (offset < length bytes - offset)
  pub drained : offset ≡ length bytes → offset ≡ 0
  pub sized : IsSized writer.size

-- what came to be pending is of no tag
abbrev pub Apart : Owing → Owing → Type 0
Apart old new = length old.pending + new.others ≡ old.others + length new.pending

-- this was given: where it is a tag, all that is pending is of it
abbrev pub Counts : Given → Owing → Owing → Type 0
Counts (Send t) old new = new.others ≡ 0
Counts Finish old new = Apart old new
