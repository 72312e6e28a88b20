-- What a session is to send: bytes that are encoded, a unit in hand, and what stands after it
use Rattle.std.specs.Prelude.{◌≡◌, ℕ, ◌+◌, ◌-◌, ◌*◌, ◌<◌, ◌≤◌, max, true, List, [], ◌∷◌, ◌++◌, length, drop, Option, Some, None}
use Rattle.relay_base.specs.Numbers.{be32_of}
use Rattle.chunk_wire.specs.declared.message.Message.{Message}
use Rattle.chunk_writer.specs.InHand.{InHand, left_of}
use Rattle.chunk_writer.specs.WriterKnown.{WriterKnown, fresh}
use Rattle.chunk_writer.specs.Written.{IsWritable, after_all, sets_size, written}
use Rattle.session_owed.specs.Chunks.{Hand, rest_by}

-- a chunk size that a session tells: 128 at first, and then 4,096 (5.4.1)
pub record IsSized (size : ℕ) : Type 0 where
  pub least : 128 ≤ size
  pub most : size ≤ 4096

-- a message that a session sends: it can be written, and tells no other size of chunks
pub record IsSayable (m : Message) : Type 0 where
  pub can : IsWritable m
  pub sized : sets_size m ≡ true → IsSized (be32_of m.body)

-- sixteen times the bytes that a message has at most as chunks: 18 for its first header, and for each sixteen
-- bytes of its body one more
abbrev pub cost_of : Message → ℕ
cost_of m = 288 + 17 * length m.body

abbrev pub costs_of : List Message → ℕ
costs_of [] = 0
costs_of (m ∷ ms) = cost_of m + costs_of ms

-- the chunks that are left of a unit in hand
abbrev pub left : Hand → List ℕ
left h = left_of h.sending h.body

abbrev pub in_hand : InHand → List ℕ → Hand
in_hand sending body = record { sending = sending; body = body }

-- the body has the length that the message was begun with
abbrev pub IsHeld : InHand → List ℕ → Type 0
IsHeld sending body = length body ≡ sending.begun.terms.length

-- chunks were written: with what is left, the bytes are the same, and those before stay
pub record Goes (old : Hand) (before : List ℕ) (new : Hand) (now : List ℕ) : Type 0 where
  pub same : now ++ left new ≡ before ++ left old
  pub more : List ℕ
  pub after : now ≡ before ++ more

-- what contracts see of it: the bytes that are encoded, those that stand after them, the writer after all,
-- how many of the last bytes are of no item that was taken, the unit in hand, and the bytes that were encoded
-- since that was begun
pub record Owing : Type 0 where
  pub ready : List ℕ
  pub rest : List ℕ
  pub writer : WriterKnown
  pub others : ℕ
  pub hand : Option Hand
  pub later : List ℕ

-- THE BYTES PENDING
abbrev pub pending : Owing → List ℕ
pending o = o.ready ++ o.rest

abbrev pub nothing : Owing
nothing = record { ready = []; rest = []; writer = fresh; others = 0; hand = None; later = [] }

-- of the first bytes those up to a place are of an item, and all where a unit is in hand
abbrev pub others_by : List ℕ → ℕ → ℕ → Option Hand → List ℕ → ℕ
others_by first offset item None later = length first - max offset item
others_by first offset item (Some h) later = length later

-- the same by the fields: of the first bytes those from an offset on are left
abbrev pub owing : List ℕ → ℕ → ℕ → Option Hand → List ℕ → WriterKnown → Owing
owing first offset item hand later writer = record {
  ready = drop offset first;
  rest = rest_by hand ++ later;
  writer = writer;
  others = others_by first offset item hand later;
  hand = hand;
  later = later;
}

abbrev pub AreWritable : List Message → Type 0
AreWritable [] = Unit {0}
AreWritable (m ∷ ms) = IsSayable m × AreWritable ms

-- messages more are to be sent, which are of no item
pub record Says (old : Owing) (l : List Message) (new : Owing) : Type 0 where
  pub bytes : pending new ≡ pending old ++ written old.writer l
  pub writer : new.writer ≡ after_all old.writer l
  pub others : new.others ≡ old.others + length (written old.writer l)

-- the messages of an item are to be sent, where nothing is pending
pub record Shows (old : Owing) (l : List Message) (new : Owing) : Type 0 where
  pub bytes : pending new ≡ pending old ++ written old.writer l
  pub writer : new.writer ≡ after_all old.writer l
  pub others : new.others ≡ 0

-- the messages of an item are to be sent, if there are any, where nothing is pending
pub record Takes (old : Owing) (l : List Message) (new : Owing) : Type 0 where
  pub bytes : pending new ≡ pending old ++ written old.writer l
  pub writer : new.writer ≡ after_all old.writer l
  pub others : new.others ≤ old.others

-- of the first bytes, how many are encoded of an item
abbrev pub shown_by : List ℕ → ℕ → ℕ → Option Hand → ℕ
shown_by first offset item None = item - offset
shown_by first offset item (Some h) = length first - offset

-- of a unit in hand there is more to encode
abbrev pub IsUnfinished : Option Hand → Type 0
IsUnfinished None = Unit {0}
IsUnfinished (Some h) = 0 < length (left h)

abbrev pub IsHandSized : Option Hand → Type 0
IsHandSized None = Unit {0}
IsHandSized (Some h) = IsSized h.sending.size

-- what the fields keep: without a unit in hand nothing stands after the first bytes, and of an item no more
-- is encoded than is sent at once, and a chunk
pub record IsOwing (first : List ℕ) (offset item : ℕ) (hand : Option Hand) (later : List ℕ) (writer : WriterKnown) : Type 0 where
  pub within : offset ≤ length first
  -- of the bytes that were sent fewer are kept than are sent at once, and none where all were
  pub few : offset < 16384
  pub drained : offset ≡ length first → offset ≡ 0
  pub marked : item ≤ length first
  pub idle : hand ≡ None → later ≡ []
  pub sized : IsSized writer.size
  pub hand_sized : IsHandSized hand
  pub shown : shown_by first offset item hand ≤ 20498
