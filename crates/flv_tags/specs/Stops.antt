-- Where bytes are refused: those before are read, and the byte after them decides the cause.
use Rattle.std.specs.Prelude.{◌≡◌, ◌≢◌, ◌≤◌, ◌<◌, ◌⊎◌, ℕ, ◌+◌, true, false, List, [], ◌∷◌, ◌++◌, length, take, slice_index}
use Rattle.flv_tags.specs.declared.tag.Tag.{Tag}
use Rattle.flv_tags.specs.declared.fail.FlvFail.{FlvFail}
use Rattle.flv_tags.specs.declared.fail.FlvFail.TheVariants.{BadHeader, BadTag, BadBack, OutOfMemory}
use Rattle.flv_tags.specs.Layout.{is_kind, most_bytes, kind_in, size_in, back_in, tag_size}
use Rattle.flv_tags.specs.Written.{header}
use Rattle.flv_tags.specs.Reads.{InHeader, InTags}

-- the last of the bytes r of a tag says a type that isn't read
pub record BadKind (r : List ℕ) : Type 0 where
  pub first : length r ≡ 1
  pub kind : is_kind (kind_in r) ≡ false

-- it completes the number of a body's bytes, which is above the most
pub record TooLong (r : List ℕ) : Type 0 where
  pub fourth : length r ≡ 4
  pub kind : is_kind (kind_in r) ≡ true
  pub long : most_bytes < size_in r

-- it completes the number that counts the tag back, which is wrong
pub record BadCount (r : List ℕ) : Type 0 where
  pub last : length r ≡ tag_size r
  pub kind : is_kind (kind_in r) ≡ true
  pub fits : size_in r ≤ most_bytes
  pub wrong : back_in r ≢ size_in r + 11

-- the last of the bytes r of a tag, which begins after so many bytes, is refused so
abbrev pub RefusesTag : ℕ → List ℕ → FlvFail → Type 0
RefusesTag start r (BadHeader at) = ⊥
RefusesTag start r (BadTag at) = (at ≡ start) × (BadKind r ⊎ TooLong r)
RefusesTag start r (BadBack at stored real) = (at ≡ start + 11 + size_in r) × (stored ≡ back_in r) × (real ≡ size_in r + 11) × BadCount r
RefusesTag start r OutOfMemory = ⊥

-- the byte, after so many, is refused so
abbrev pub RefusesHeader : ℕ → ℕ → FlvFail → Type 0
RefusesHeader n byte (BadHeader at) = (at ≡ n) × (n < 9) × (n ≢ 4) × (byte ≢ slice_index header n)
RefusesHeader n byte _ = ⊥

-- after the bytes b, which read as these tags, the byte is refused so
abbrev pub Refuses : List ℕ → List Tag → ℕ → FlvFail → Type 0
Refuses b tags byte e =
    ((r : List ℕ) × InHeader b tags r × RefusesHeader (length b) byte e)
    ⊎ ((start : ℕ) × ((r : List ℕ) × InTags b tags r × (start + length r ≡ length b) × RefusesTag start (r ++ byte ∷ []) e))

-- The first n of the bytes b read as these tags, and the byte after them is refused so.
pub record Stops (b : List ℕ) (n : ℕ) (tags : List Tag) (e : FlvFail) : Type 0 where
  pub there : n < length b
  pub refused : Refuses (take n b) tags (slice_index b n) e

-- What is wrong with bytes that end here, though they read as these tags: the header isn't whole, or its four bytes
-- after nine aren't, or a tag isn't.
abbrev pub Ends : List ℕ → List Tag → FlvFail → Type 0
Ends b tags (BadHeader at) = (length b < 9) × (at ≡ length b)
Ends b tags (BadTag at) = ((9 ≤ length b) × (length b < 13) × (at ≡ 9)) ⊎ ((r : List ℕ) × InTags b tags r × (0 < length r) × (at + length r ≡ length b))
Ends b tags (BadBack at stored real) = ⊥
Ends b tags OutOfMemory = ⊥
