-- The bytes that are written.
use Rattle.std.specs.Prelude.{◌≡◌, ◌≤◌, ◌<◌, ◌^◌, ℕ, ◌+◌, true, List, [], ◌∷◌, ◌++◌, length, flat_map}
use Rattle.std.specs.Int.{byte_at, bytes_high_first}
use Rattle.flv_tags.specs.declared.tag.Tag.{Tag}
use Rattle.flv_tags.specs.Layout.{is_kind, most_bytes}

-- the header (E.2): the letters FLV, the version 1, the flags of audio and video, and the bytes up to the body, 9; then
-- the bytes of the tag before the first (E.3), 0
abbrev pub header : List ℕ
header = 70 ∷ 76 ∷ 86 ∷ 1 ∷ 5 ∷ 0 ∷ 0 ∷ 0 ∷ 9 ∷ 0 ∷ 0 ∷ 0 ∷ 0 ∷ []

-- a tag that can be written
pub record IsWritable (t : Tag) : Type 0 where
  pub kind : is_kind t.kind ≡ true
  pub fits : length t.body ≤ most_bytes

-- one that a program can hold: its time is a number of 32 bits
pub record IsWritten (t : Tag) : Type 0 where
  pub writable : IsWritable t
  pub time : t.time < 2 ^ 32

-- TagType, DataSize, Timestamp, TimestampExtended and StreamID (E.4.1) of a body of so many bytes
unfoldable pub head_bytes : ℕ → ℕ → ℕ → List ℕ
head_bytes kind time size = kind ∷ (bytes_high_first 3 size ++ (bytes_high_first 3 time ++ (byte_at 3 time ∷ 0 ∷ 0 ∷ 0 ∷ [])))

-- the bytes of a tag of so many bytes of body, counted back
unfoldable pub back_bytes : ℕ → List ℕ
back_bytes size = bytes_high_first 4 (size + 11)

-- a tag, and the bytes that count it back
abbrev pub tag_bytes : Tag → List ℕ
tag_bytes t = head_bytes t.kind t.time (length t.body) ++ (t.body ++ back_bytes (length t.body))

-- a file of these tags
abbrev pub tags_text : List Tag → List ℕ
tags_text tags = header ++ flat_map tag_bytes tags
