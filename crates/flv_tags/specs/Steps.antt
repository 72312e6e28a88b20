-- Only proofs and private functions use it.
-- What the steps of the reader leave, by its fields
use Rattle.std.specs.Prelude.{◌≡◌, ◌≢◌, ◌⊎◌, ◌<◌, ◌≤◌, ℕ, ◌+◌, ◌-◌, List, [], ◌++◌, length, take, slice_index, Option, Some, None}
use Rattle.flv_tags.specs.declared.tag.Tag.{Tag}
use Rattle.flv_tags.specs.declared.part.Part.{Part}
use Rattle.flv_tags.specs.declared.part.Cause.{Cause}
use Rattle.flv_tags.specs.declared.part.Cause.TheVariants.{NoTag, Back, Memory}
use Rattle.flv_tags.specs.declared.fail.FlvFail.{FlvFail}
use Rattle.flv_tags.specs.declared.fail.FlvFail.TheVariants.{OutOfMemory}
use Rattle.flv_tags.specs.Layout.{size_in, back_in, tag_in}
use Rattle.flv_tags.specs.Written.{header}
use Rattle.flv_tags.specs.Reads.{IsTag}
use Rattle.flv_tags.specs.Stops.{BadCount, BadKind, RefusesHeader, RefusesTag, TooLong}
use Rattle.flv_tags.specs.Sound.{IsPart, part_bytes}

-- these bytes came to the part
pub record Grows (old : Part) (x : List ℕ) (new : Part) : Type 0 where
  pub is_part : IsPart new
  pub bytes : part_bytes new ≡ part_bytes old ++ x

-- these bytes completed the tag, and nothing is left
pub record Completes (old : Part) (x : List ℕ) (t : Tag) (new : Part) : Type 0 where
  pub is_part : IsPart new
  pub none : part_bytes new ≡ []
  pub is_tag : IsTag (part_bytes old ++ x)
  pub tag : t ≡ tag_in (part_bytes old ++ x)

abbrev pub Passes : Part → List ℕ → Option Tag → Part → Type 0
Passes old x None new = Grows old x new
Passes old x (Some t) new = Completes old x t new

-- the last of the bytes r of a tag is refused so
abbrev pub IsStopped : List ℕ → Cause → Type 0
IsStopped r NoTag = BadKind r ⊎ TooLong r
IsStopped r (Back stored real) = (stored ≡ back_in r) × (real ≡ size_in r + 11) × BadCount r
IsStopped r Memory = Unit {0}

-- so many bytes of the piece were taken, and completed the tag, or none
pub record IsStepped (old : Part) (piece : List ℕ) (used : ℕ) (t : Option Tag) (new : Part) : Type 0 where
  pub some : 0 < used
  pub within : used ≤ length piece
  pub passes : Passes old (take used piece) t new

-- a byte of the header was taken
pub record IsHeaderByte (count : ℕ) (old : Part) (piece : List ℕ) (used : ℕ) (t : Option Tag) (new : Part) : Type 0 where
  pub early : count < 13
  pub one : used ≡ 1
  pub none : t ≡ None
  pub fits : count < 9 → count ≢ 4 → slice_index piece 0 ≡ slice_index header count
  pub same : new ≡ old

-- bytes were taken after so many
abbrev pub IsTaken : ℕ → Part → List ℕ → ℕ → Option Tag → Part → Type 0
IsTaken count old piece used t new = IsHeaderByte count old piece used t new ⊎ ((13 ≤ count) × IsStepped old piece used t new)

-- the first of the piece was refused, after so many bytes
abbrev pub TakeFails : ℕ → Part → List ℕ → FlvFail → Type 0
TakeFails count old piece e =
    (e ≡ OutOfMemory)
    ⊎ (((count < 13) × RefusesHeader count (slice_index piece 0) e)
    ⊎ ((13 ≤ count) × RefusesTag (count - length (part_bytes old)) (part_bytes old ++ take 1 piece) e))
