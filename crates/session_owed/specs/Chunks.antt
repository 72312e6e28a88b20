-- What is pending while a message is encoded chunk by chunk
use Rattle.std.specs.Prelude.{ℕ, List, [], ◌++◌, Option, Some, None}
use Rattle.chunk_wire.specs.declared.message.Message.{Message}
use Rattle.chunk_writer.specs.InHand.{InHand, after_chunk, chunk_of, in_hand, left_of}
use Rattle.chunk_writer.specs.Rule.{begun_in}
use Rattle.chunk_writer.specs.WriterKnown.{WriterKnown}

-- a message in hand, and its body
pub record Hand : Type 0 where
  pub sending : InHand
  pub body : List ℕ

-- the chunks that are left of it
abbrev pub rest_by : Option Hand → List ℕ
rest_by None = []
rest_by (Some h) = left_of h.sending h.body

-- bytes to send, then the rest of the message in hand, and then what was said after that was begun
pub record Pending : Type 0 where
  pub first : List ℕ
  pub hand : Option Hand
  pub later : List ℕ

-- THE BYTES THAT ARE PENDING
abbrev pub pending_bytes : Pending → List ℕ
pending_bytes p = p.first ++ (rest_by p.hand ++ p.later)

-- bytes more are said: at the end, so after the message in hand
abbrev pub say_bytes : Pending → List ℕ → Pending
say_bytes p b = record { first = p.first; hand = p.hand; later = p.later ++ b }

-- nothing is in hand: what was said is to be sent next
abbrev pub all_first : List ℕ → Pending
all_first b = record { first = b; hand = None; later = [] }

-- a message as a writer begins it
abbrev pub hand_of : WriterKnown → Message → Hand
hand_of w m = record { sending = in_hand w.size (begun_in w.said m); body = m.body }

-- a message is begun where none is in hand
abbrev pub begin : WriterKnown → Message → List ℕ → Pending
begin w m first = record { first = first; hand = Some (hand_of w m); later = [] }

-- the message in hand after its next chunk
abbrev pub hand_after : Hand → Hand
hand_after h = record { sending = after_chunk h.sending h.body; body = h.body }

-- the next chunk of the message in hand is to be sent
abbrev pub next_chunk : List ℕ → Hand → List ℕ → Pending
next_chunk first h later = record { first = first ++ chunk_of h.sending h.body; hand = Some (hand_after h); later = later }
