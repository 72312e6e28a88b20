-- How the header of a chunk stands in its bytes: the basic header (5.3.1.1) and the message header (5.3.1.2).
-- A byte that isn't there counts as 0, so each word means something once the bytes that it reads are there.
use Rattle.std.specs.Prelude.{◌≡◌, ◌≤◌, ℕ, ◌+◌, ◌*◌, ◌/◌, ◌%◌, nat_eq, nat_le, if◌then◌else◌, List, length, drop, slice_index, Option, Some, None}
use Rattle.relay_base.specs.Numbers.{be24_of, le32_of}
use Rattle.chunk_wire.specs.declared.headers.Basic.{Basic}
use Rattle.chunk_wire.specs.declared.headers.Head.{Head}

-- the two highest bits of the first byte
abbrev pub format_in : List ℕ → ℕ
format_in b = slice_index b 0 / 64

-- the six lowest bits of the first byte
abbrev pub number_in : List ℕ → ℕ
number_in b = slice_index b 0 % 64

-- the bytes of a basic header: 0 says that one byte follows, and 1 that two do
unfoldable pub basic_size : List ℕ → ℕ
basic_size b = if nat_eq (number_in b) 0 then 2 else (if nat_eq (number_in b) 1 then 3 else 1)

-- the chunk stream id: 64 and the second byte, or 64, the second byte and 256 times the third, or the number itself
unfoldable pub id_in : List ℕ → ℕ
id_in b =
    if nat_eq (number_in b) 0 then slice_index b 1 + 64
    else (if nat_eq (number_in b) 1 then slice_index b 2 * 256 + slice_index b 1 + 64
    else number_in b)

abbrev pub basic_in : List ℕ → Basic
basic_in b = record { format = format_in b; id = id_in b }

-- the basic header at the front, where its bytes are there
abbrev pub basic_of : List ℕ → Option (Basic × ℕ)
basic_of b = if nat_le (basic_size b) (length b) then Some (basic_in b, basic_size b) else None

-- the bytes of a message header, by its format
unfoldable pub head_size : ℕ → ℕ
head_size format = if nat_eq format 0 then 11 else (if nat_eq format 1 then 7 else (if nat_eq format 2 then 3 else 0))

-- a header with these fields
abbrev pub head_with : Basic → ℕ → ℕ → ℕ → ℕ → Head
head_with basic field len kind stream = record {
  format = basic.format;
  id = basic.id;
  field = field;
  length = len;
  kind = kind;
  stream = stream;
}

-- the fields of a message header, by its format
unfoldable pub head_in : Basic → List ℕ → Head
head_in basic b =
    if nat_eq basic.format 0 then head_with basic (be24_of b) (be24_of (drop 3 b)) (slice_index b 6) (le32_of (drop 7 b))
    else (if nat_eq basic.format 1 then head_with basic (be24_of b) (be24_of (drop 3 b)) (slice_index b 6) 0
    else (if nat_eq basic.format 2 then head_with basic (be24_of b) 0 0 0
    else head_with basic 0 0 0 0))

-- the message header at the front, where its bytes are there
abbrev pub head_of : Basic → List ℕ → Option (Head × ℕ)
head_of basic b = if nat_le (head_size basic.format) (length b) then Some (head_in basic b, head_size basic.format) else None

-- the basic header at the front of b, of n bytes, which are there
pub record IsBasicAt (b : List ℕ) (basic : Basic) (n : ℕ) : Type 0 where
  pub is : basic ≡ basic_in b
  pub size : n ≡ basic_size b
  pub there : n ≤ length b

-- the message header at the front of b, of n bytes, which are there
pub record IsHeadAt (basic : Basic) (b : List ℕ) (head : Head) (n : ℕ) : Type 0 where
  pub is : head ≡ head_in basic b
  pub size : n ≡ head_size basic.format
  pub there : n ≤ length b
