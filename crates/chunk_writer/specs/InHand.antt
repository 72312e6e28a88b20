-- A message that is written chunk by chunk
use Rattle.std.specs.Prelude.{ℕ, ◌+◌, nat_lt, Bool, true, false, ◌||◌, if◌then◌else◌, List, [], ◌++◌, length, take, drop}
use Rattle.chunk_writer.specs.declared.begun.Begun.{Begun}
use Rattle.chunk_writer.specs.Written.{header_with, message_bytes, spread}

-- how it was begun, the chunk size then, how many bytes of its body stand in chunks, and whether no chunk is
-- written yet
pub record InHand : Type 0 where
  pub begun : Begun
  pub size : ℕ
  pub sent : ℕ
  pub fresh : Bool

abbrev pub in_hand : ℕ → Begun → InHand
in_hand size b = record { begun = b; size = size; sent = 0; fresh = true }

-- a chunk more is to be written: the first, or one with bytes of the body
abbrev pub has_more : InHand → List ℕ → Bool
has_more h body = h.fresh || nat_lt h.sent (length body)

-- the format of the next chunk
abbrev pub format_of : InHand → ℕ
format_of h = if h.fresh then h.begun.format else 3

-- the bytes of the body that the next chunk has: as many as are left, up to the chunk size
abbrev pub payload_of : InHand → List ℕ → List ℕ
payload_of h body = take h.size (drop h.sent body)

abbrev pub chunk_of : InHand → List ℕ → List ℕ
chunk_of h body = header_with (format_of h) h.begun ++ payload_of h body

-- the message after it
abbrev pub after_chunk : InHand → List ℕ → InHand
after_chunk h body = record { begun = h.begun; size = h.size; sent = h.sent + length (payload_of h body); fresh = false }

-- THE BYTES THAT ARE LEFT of it: all of the message, or the further chunks
unfoldable pub left_of : InHand → List ℕ → List ℕ
left_of h body = if h.fresh then message_bytes h.size h.begun body else spread (header_with 3 h.begun) h.size 0 (drop h.sent body)
