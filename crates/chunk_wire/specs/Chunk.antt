-- What the bytes of one chunk mean (5.3.1)
use Rattle.std.specs.Prelude.{◌≡◌, ℕ, ◌+◌, ◌-◌, ◌%◌, ◌^◌, min, nat_eq, nat_lt, Bool, true, ◌||◌, if◌then◌else◌, is_some}
use Rattle.std.specs.Prelude.{List, [], ◌++◌, length, drop, Option, Some, None}
use Rattle.relay_base.specs.Numbers.{be32_of}
use Rattle.chunk_wire.specs.declared.kept.ChunkStream.{ChunkStream}
use Rattle.chunk_wire.specs.declared.kept.Terms.{Terms}
use Rattle.chunk_wire.specs.declared.headers.Head.{Head}
use Rattle.chunk_wire.specs.declared.message.Message.{Message}
use Rattle.chunk_wire.specs.Layout.{basic_in, basic_size, format_in, id_in, head_in, head_size}
use Rattle.chunk_wire.specs.State.{State, kept_of, index_of, put}

-- the record of the chunk's id before it
abbrev pub kept_before : State → List ℕ → ChunkStream
kept_before s b = kept_of (id_in b) s.kept

-- the id isn't fresh
abbrev pub is_known : State → List ℕ → Bool
is_known s b = is_some (index_of (id_in b) s.kept)

-- the fields of the message header
abbrev pub head_fields : List ℕ → Head
head_fields b = head_in (basic_in b) (drop (basic_size b) b)

-- four bytes of extended time follow where the field is FFFFFF, and in format 3 where they followed the id's last
-- header of another format (5.3.1.3)
unfoldable pub is_extended : State → List ℕ → Bool
is_extended s b = if nat_lt (format_in b) 3 then nat_eq (head_fields b).field 16777215 else (kept_before s b).terms.extended

-- the bytes of basic header, message header and extended time
unfoldable pub header_size : State → List ℕ → ℕ
header_size s b = basic_size b + head_size (format_in b) + (if is_extended s b then 4 else 0)

-- the time of format 0, or the delta of format 1 or 2: the field, or the extended number
unfoldable pub value_in : State → List ℕ → ℕ
value_in s b = if is_extended s b then be32_of (drop (basic_size b + head_size (format_in b)) b) else (head_fields b).field

-- what the id keeps after a header with a value v, where so many bytes of a message in progress are there:
-- the table of formats (5.3.1.2.1 to 5.3.1.2.4). A message in progress goes on by format 3 alone. Times add
-- modulo 2^32.
unfoldable pub terms_by : Terms → ℕ → Head → ℕ → Bool → Terms
terms_by k part h v extended =
    if nat_eq h.format 0 then record { time = v; delta = v; length = h.length; kind = h.kind; stream = h.stream; extended = extended }
    else (if nat_eq h.format 1 then record { time = (k.time + v) % 2 ^ 32; delta = v; length = h.length; kind = h.kind; stream = k.stream; extended = extended }
    else (if nat_eq h.format 2 then record { time = (k.time + v) % 2 ^ 32; delta = v; length = k.length; kind = k.kind; stream = k.stream; extended = extended }
    else (if nat_eq part 0 then record {
      time = (k.time + k.delta) % 2 ^ 32;
      delta = k.delta;
      length = k.length;
      kind = k.kind;
      stream = k.stream;
      extended = k.extended;
    }
    else k)))

-- the record of the id after the chunk's header: formats 0, 1 and 2 drop the part of a message in progress
unfoldable pub opened : State → List ℕ → ChunkStream
opened s b = record {
  id = id_in b;
  terms = terms_by (kept_before s b).terms (length (kept_before s b).part) (head_fields b) (value_in s b) (is_extended s b);
  part = if nat_lt (format_in b) 3 then [] else (kept_before s b).part;
}

-- the bytes of the message that are missing after the header, or as many as the chunk size
abbrev pub payload_size : State → List ℕ → ℕ
payload_size s b = min s.size ((opened s b).terms.length - length (opened s b).part)

-- the bytes of the chunk
abbrev pub chunk_size : State → List ℕ → ℕ
chunk_size s b = header_size s b + payload_size s b

-- the bytes of the message that are there after the chunk's bytes so far
abbrev pub filled : State → List ℕ → List ℕ
filled s b = (opened s b).part ++ drop (header_size s b) b

-- the message is whole
abbrev pub is_done : State → List ℕ → Bool
is_done s b = nat_eq (length (filled s b)) (opened s b).terms.length

-- the message that the chunk completes
unfoldable pub message_of : State → List ℕ → Option Message
message_of s b = if is_done s b then Some (record {
  kind = (opened s b).terms.kind;
  stream = (opened s b).terms.stream;
  time = (opened s b).terms.time;
  body = filled s b;
}) else None

-- the record of the id with this part
abbrev pub with_part : ChunkStream → List ℕ → ChunkStream
with_part k part = record { id = k.id; terms = k.terms; part = part }

-- the state after the chunk: nothing but the record of its id changes
unfoldable pub after_chunk : State → List ℕ → State
after_chunk s b = record { size = s.size; kept = put (with_part (opened s b) (if is_done s b then [] else filled s b)) s.kept }

-- a chunk on a fresh id has format 0 or 1
abbrev pub may_begin : State → List ℕ → Bool
may_begin s b = is_known s b || nat_lt (format_in b) 2

-- The bytes b are one chunk, which leads from s to s' and completes the message m, or none.
pub record IsChunk (s : State) (b : List ℕ) (s' : State) (m : Option Message) : Type 0 where
  pub begins : may_begin s b ≡ true
  pub whole : length b ≡ chunk_size s b
  pub state : s' ≡ after_chunk s b
  pub message : m ≡ message_of s b
