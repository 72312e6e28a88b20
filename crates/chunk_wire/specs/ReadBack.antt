-- What is read of a header that was written
use Rattle.std.specs.Prelude.{◌≡◌, ℕ, ◌<◌, ◌≤◌, ◌^◌, nat_lt, nat_eq, if◌then◌else◌, List, ◌++◌, length, drop, slice_index, Some}
use Rattle.chunk_wire.specs.declared.headers.Basic.{Basic}
use Rattle.chunk_wire.specs.declared.headers.Head.{Head}
use Rattle.chunk_wire.specs.Layout.{basic_of, head_of}
use Rattle.chunk_wire.specs.Written.{basic_bytes, field_bytes, head_bytes}

-- a header that can be written
pub record IsHead (h : Head) : Type 0 where
  pub format : h.format < 4
  pub id_low : 2 ≤ h.id
  pub id_high : h.id ≤ 65599
  pub field : h.field < 2 ^ 24
  pub length : h.length < 2 ^ 24
  pub kind : h.kind < 256
  pub stream : h.stream < 2 ^ 32

-- the fields that its format has, and the others 0
unfoldable pub shown : Head → Head
shown h = record {
  format = h.format;
  id = h.id;
  field = if nat_lt h.format 3 then h.field else 0;
  length = if nat_lt h.format 2 then h.length else 0;
  kind = if nat_lt h.format 2 then h.kind else 0;
  stream = if nat_eq h.format 0 then h.stream else 0;
}

-- the basic header of a header
abbrev pub basic_part : Head → Basic
basic_part h = record { format = h.format; id = h.id }

-- both parts are read of the bytes written, whatever follows them
pub record ReadsBack (h : Head) (rest : List ℕ) : Type 0 where
  pub basic : basic_of (head_bytes h ++ rest) ≡ Some (basic_part h, length (basic_bytes h.format h.id))
  pub fields : head_of (basic_part h) (drop (length (basic_bytes h.format h.id)) (head_bytes h ++ rest)) ≡ Some (shown h, length (field_bytes h))

-- no bytes that read as the same basic header are fewer
abbrev pub IsShortest : ℕ → ℕ → Type 0
IsShortest format id =
    (b : List ℕ) (n : ℕ) → ((i : ℕ) → slice_index b i < 256) → basic_of b ≡ Some (record { format = format; id = id }, n)
    → length (basic_bytes format id) ≤ n
