-- The bytes of messages as chunks (5.3.1)
use Rattle.std.specs.Prelude.{◌≡◌, Bool, true, ℕ, ◌-◌, ◌^◌, ◌<◌, ◌≤◌, zero, suc, min, nat_eq, nat_le, ◌&&◌, if◌then◌else◌, List, [], ◌∷◌, ◌++◌, length}
use Rattle.std.specs.Int.{bytes_high_first}
use Rattle.relay_base.specs.Numbers.{be32_of}
use Rattle.chunk_wire.specs.declared.headers.Head.{Head}
use Rattle.chunk_wire.specs.declared.kept.Terms.{Terms}
use Rattle.chunk_wire.specs.declared.message.Message.{Message}
use Rattle.chunk_wire.specs.Written.{head_bytes}
use Rattle.chunk_writer.specs.declared.begun.Begun.{Begun}
use Rattle.chunk_writer.specs.declared.heading.Heading.{Heading}
use Rattle.chunk_writer.specs.WriterKnown.{WriterKnown, sized}
use Rattle.chunk_writer.specs.Rule.{begun_in, begun_on, heading_of, is_written}

-- headers can say this of a message
pub record IsHeading (h : Heading) : Type 0 where
  pub id_low : 2 ≤ h.id
  pub id_high : h.id ≤ 65599
  pub length : h.length < 2 ^ 24

-- a message that is begun so can be written
pub record IsBegun (b : Begun) : Type 0 where
  pub format : b.format < 4
  pub id_low : 2 ≤ b.id
  pub id_high : b.id ≤ 65599
  pub length : b.terms.length < 2 ^ 24

-- four bytes of extended time, where the time or delta has no room in three (5.3.1.3)
unfoldable pub extended_bytes : Terms → List ℕ
extended_bytes t = if t.extended then bytes_high_first 4 t.delta else []

-- the message header of a chunk of this format: FFFFFF stands for a time or delta that follows as extended time
abbrev pub head_with : ℕ → Begun → Head
head_with format b = record {
  format = format;
  id = b.id;
  field = min b.terms.delta 16777215;
  length = b.terms.length;
  kind = b.terms.kind;
  stream = b.terms.stream;
}

-- the header of a chunk of the message: the extended time stands in each
unfoldable pub header_with : ℕ → Begun → List ℕ
header_with format b = head_bytes (head_with format b) ++ extended_bytes b.terms

-- the payload: where a chunk has no room left, the header of the next stands before the next byte
unfoldable pub spread : List ℕ → ℕ → ℕ → List ℕ → List ℕ
spread header size room [] = []
spread header size zero (byte ∷ body) = header ++ byte ∷ spread header size (size - 1) body
spread header size (suc room) (byte ∷ body) = byte ∷ spread header size room body

-- the bytes of a message that is begun so: the header of its first chunk, and its body, with a format 3 header before
-- each further chunk
abbrev pub message_bytes : ℕ → Begun → List ℕ → List ℕ
message_bytes size b body = header_with b.format b ++ spread (header_with 3 b) size size body

-- the bytes that a writer writes for a message
unfoldable pub bytes_of : WriterKnown → Message → List ℕ
bytes_of w m = message_bytes w.size (begun_in w.said m) m.body

-- the writer after a message with this heading is begun
abbrev pub after_heading : WriterKnown → Heading → WriterKnown
after_heading w h = record { size = w.size; said = begun_on w.said h ∷ w.said }

-- the writer after a message
abbrev pub after : WriterKnown → Message → WriterKnown
after w m = after_heading w (heading_of m)

-- the message is a Set Chunk Size (5.4.1)
abbrev pub sets_size : Message → Bool
sets_size m = nat_eq m.kind 1 && nat_le 4 (length m.body)

-- the writer, where a Set Chunk Size message sets the size for what comes after it
unfoldable pub resized_by : Message → WriterKnown → WriterKnown
resized_by m w = if sets_size m then sized (be32_of m.body) w else w

-- a message that can be written: a Set Chunk Size says a size
pub record IsWritable (m : Message) : Type 0 where
  pub kind : is_written m.kind ≡ true
  pub short : length m.body < 2 ^ 24
  pub some : sets_size m ≡ true → 1 ≤ be32_of m.body
  pub most : sets_size m ≡ true → be32_of m.body < 2 ^ 31

-- the heading of these parts
abbrev pub heading_with : ℕ → ℕ → ℕ → ℕ → ℕ → Heading
heading_with id kind stream time len = record { id = id; kind = kind; stream = stream; time = time; length = len }

-- the message of these parts
abbrev pub message_with : ℕ → ℕ → ℕ → List ℕ → Message
message_with kind stream time body = record { kind = kind; stream = stream; time = time; body = body }

abbrev pub next : WriterKnown → Message → WriterKnown
next w m = resized_by m (after w m)

-- the bytes of messages in turn, the chunk size being set directly after each Set Chunk Size message and nowhere else
unfoldable pub written : WriterKnown → List Message → List ℕ
written w [] = []
written w (m ∷ ms) = bytes_of w m ++ written (next w m) ms

-- the writer after them
unfoldable pub after_all : WriterKnown → List Message → WriterKnown
after_all w [] = w
after_all w (m ∷ ms) = after_all (next w m) ms
