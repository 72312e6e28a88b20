-- Only proofs and private functions use it.
-- What a reader keeps true of its fields
use Rattle.std.specs.Prelude.{◌≡◌, ◌⊎◌, ◌<◌, ◌≤◌, ℕ, List, [], ◌++◌, length, Option, is_some, true, false}
use Rattle.flv_tags.specs.declared.tag.Tag.{Tag}
use Rattle.flv_tags.specs.declared.part.Part.{Part}
use Rattle.flv_tags.specs.declared.fail.FlvFail.{FlvFail}
use Rattle.flv_tags.specs.Layout.{size_in}
use Rattle.flv_tags.specs.Reads.{InHeader, InTags, IsOpen, Reads}

-- the bytes that are there of a tag
abbrev pub part_bytes : Part → List ℕ
part_bytes p = p.head.items ++ (p.body ++ p.back.items)

-- they are less than a tag: first the header fills, then the body, and then the number that counts both
pub record IsPart (p : Part) : Type 0 where
  pub head_most : length p.head.items ≤ 11
  pub body_most : length p.body ≤ size_in p.head.items
  pub body_late : length p.head.items < 11 → length p.body ≡ 0
  pub back_late : length p.head.items < 11 → length p.back.items ≡ 0
  pub back_last : length p.body < size_in p.head.items → length p.back.items ≡ 0
  pub rest : IsOpen (part_bytes p)

-- what was fed ends in them, or is less than a header
pub record IsStanding (fed : List ℕ) (given : List Tag) (part : Part) : Type 0 where
  pub is_part : IsPart part
  pub at : (InHeader fed given fed × (part_bytes part ≡ [])) ⊎ InTags fed given (part_bytes part)

pub record IsSound (part : Part) (count : ℕ) (failed : Option FlvFail) (fed : List ℕ) (given : List Tag) : Type 0 where
  pub counted : count ≡ length fed
  pub read : (r : List ℕ) × Reads fed given r
  pub standing : is_some failed ≡ false → IsStanding fed given part
  -- one that refused keeps no part
  pub dropped : is_some failed ≡ true → part_bytes part ≡ []
