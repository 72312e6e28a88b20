-- How a tag stands in its bytes: eleven bytes of header (E.4.1), the body, and four bytes that count these back (E.3).
-- A byte that isn't there counts as 0, so each word means something once the bytes that it reads are there.
use Rattle.std.specs.Prelude.{ℕ, ◌+◌, ◌*◌, nat_eq, Bool, ◌||◌, List, take, drop, slice_index}
use Rattle.relay_base.specs.Numbers.{be24_of, be32_of}
use Rattle.flv_tags.specs.declared.tag.Tag.{Tag}

-- TagType: audio 8, video 9, script data 18. The bits of a filter and those that are reserved are 0
abbrev pub is_kind : ℕ → Bool
is_kind kind = nat_eq kind 8 || (nat_eq kind 9 || nat_eq kind 18)

-- the bytes of the longest body (own)
abbrev pub most_bytes : ℕ
most_bytes = 4194304

abbrev pub kind_in : List ℕ → ℕ
kind_in b = slice_index b 0

-- DataSize: the bytes of the body
unfoldable pub size_in : List ℕ → ℕ
size_in b = be24_of (drop 1 b)

-- Timestamp, with TimestampExtended as its highest byte
unfoldable pub time_in : List ℕ → ℕ
time_in b = slice_index b 7 * 16777216 + be24_of (drop 4 b)

-- the body, after the three bytes of StreamID, of which nothing is asked (own)
abbrev pub body_in : List ℕ → List ℕ
body_in b = take (size_in b) (drop 11 b)

-- PreviousTagSize, which follows the tag that it counts
unfoldable pub back_in : List ℕ → ℕ
back_in b = be32_of (drop (11 + size_in b) b)

-- the bytes of the tag and of PreviousTagSize
abbrev pub tag_size : List ℕ → ℕ
tag_size b = size_in b + 15

unfoldable pub tag_in : List ℕ → Tag
tag_in b = record { kind = kind_in b; time = time_in b; body = body_in b }
