-- What bounds the bytes that a client holds
use Rattle.std.specs.Prelude.{◌≡◌, ℕ, ◌+◌, ◌-◌, ◌*◌, ◌≤◌, nat_lt, Bool, true, false, if◌then◌else◌, List, [], length, Option, Some, None, is_some}
use Rattle.ack_window.specs.Inbound.{InWindow, room_of}
use Rattle.chunk_reader.specs.Feeds.{IsHeld}
use Rattle.chunk_reader.specs.ReaderKnown.{ReaderKnown}
use Rattle.session_owed.specs.Talk.{hand_bytes}
use Rattle.client_owed.specs.declared.types.Gift.{Gift}
use Rattle.client_owed.specs.declared.types.Gift.TheVariants as gift
use Rattle.client_owed.specs.declared.types.Wish.{Wish}
use Rattle.client_owed.specs.declared.types.Wish.TheVariants as wish
use Rattle.rtmp_client.specs.declared.core_fields.Core.{Core}
use Rattle.rtmp_client.specs.declared.end.ClientEnd.{ClientEnd}

-- the bytes of the tag that a gift is
abbrev pub gift_bytes : Option Gift → ℕ
gift_bytes None = 0
gift_bytes (Some (gift.Tag t)) = length t.body
gift_bytes (Some gift.Published) = 0
gift_bytes (Some gift.Unpublished) = 0

-- sixteen times the bytes that the last message may have
abbrev pub finish_cost : Bool → ℕ
finish_cost false = 1100
finish_cost true = 0

-- NOT MANY ANSWERS WAIT: with the last message, at most 12,206 bytes
abbrev pub IsLight : ℕ → Bool → Type 0
IsLight others finished = 16 * others + finish_cost finished ≤ 195296

-- how many bytes the next place of an acknowledgement is nearer than 1,000
abbrev pub nearness : InWindow → ℕ
nearness w = 1000 - room_of w

-- how many bytes are still to come of C2 and connect, at most
abbrev pub to_greet : ℕ → ℕ
to_greet fed = if nat_lt fed hand_bytes then 2463 else 0

-- what bounds the answers while input is fed, where n bytes of them wait: 16,000 for each, and for each that
-- is still to come of the handshake's; and 356 for each byte of input, since acknowledgements of at most 22
-- bytes come 1,000 bytes apart
abbrev pub weight : ℕ → ℕ → InWindow → ℕ
weight n fed w = 16000 * (n + to_greet fed) + 356 * nearness w

-- one that publishes is told nothing, and one that plays is given no tags; a tag that is encoded has at most
-- a byte more for each 512 of its body, and 18
abbrev pub Parts : Wish → ℕ → ℕ → Option Gift → Type 0
Parts wish.Push max tag g = (g ≡ None) × (512 * tag ≤ 9216 + 513 * max)
Parts wish.Pull max tag g = (tag ≡ 0) × (gift_bytes g ≤ max)

-- between the steps of a turn not many answers wait, and a tag or a gift is no longer than a message
pub record IsSmall (c : Core) : Type 0 where
  pub short : c.reader.max ≤ 4194304
  pub within : c.outgoing.others ≤ length c.outgoing.pending
  pub light : IsLight c.outgoing.others c.finished
  pub parts : Parts c.asked.wish c.reader.max (length c.outgoing.pending - c.outgoing.others) c.gift

-- of messages in progress: a reader that has failed holds nothing
pub record IsParts (k : ReaderKnown) (n : ℕ) : Type 0 where
  pub lives : is_some k.failed ≡ false → IsHeld k n
  pub failed : is_some k.failed ≡ true → n ≡ 0

-- OF ITS INPUT it keeps at most 4,096 bytes that it wasn't fed, and none where it has ended
abbrev pub IsInput : Option ClientEnd → List ℕ → Type 0
IsInput None input = length input ≤ 4096
IsInput (Some e) input = input ≡ []

pub record Held : Type 0 where
  -- received and not fed
  pub input : ℕ
  -- of messages in progress
  pub parts : ℕ
  -- encoded and not sent
  pub pending : ℕ
  -- of the gift that waits
  pub gift : ℕ

-- with so many bytes of messages in progress
abbrev pub held_with : Core → List ℕ → ℕ → Held
held_with c input parts = record { input = length input; parts = parts; pending = length c.outgoing.pending; gift = gift_bytes c.gift }

abbrev pub sum_of : Held → ℕ
sum_of h = h.input + (h.parts + (h.pending + h.gift))

-- A CLIENT WITH THIS INPUT HOLDS SO MANY BYTES
pub record IsHolding (c : Core) (input : List ℕ) (n : ℕ) : Type 0 where
  pub parts : ℕ
  pub read : IsParts c.reader parts
  pub sum : n ≡ sum_of (held_with c input parts)

-- IT HOLDS NO MORE THAN so many bytes, where it takes and is given messages of at most `max` bytes: 512 times
-- 4,096 of input, `max` and 65,536 of messages in progress, 32,768 of answers, and a tag or a gift with a
-- byte more for each 512 of it
abbrev pub IsWithin : ℕ → ℕ → Type 0
IsWithin max n = 512 * n ≤ 512 * (4096 + (max + 65536) + 32768) + 513 * max
