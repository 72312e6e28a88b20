-- Laws of reading
use Rattle.std.specs.Prelude.{◌≡◌, ℕ, List, ◌++◌, take}
use Rattle.flv_tags.specs.declared.tag.Tag.{Tag}
use Rattle.flv_tags.specs.declared.fail.FlvFail.{FlvFail}
use Rattle.flv_tags.specs.Reads.{Reads}

-- two readings give the same tags and leave the same rest
pub record SameReading (ts us : List Tag) (q r : List ℕ) : Type 0 where
  pub tags_same : ts ≡ us
  pub rest_same : q ≡ r

-- the first n bytes read too, as the first of the tags
pub record ReadsPart (b : List ℕ) (n : ℕ) (tags : List Tag) : Type 0 where
  pub first : List Tag
  pub later : List Tag
  pub r : List ℕ
  pub reads : Reads (take n b) first r
  pub begins : tags ≡ first ++ later

-- two refusals are one
pub record SameStop (c d : FlvFail) (m n : ℕ) (ts us : List Tag) : Type 0 where
  pub fail_same : c ≡ d
  pub place_same : m ≡ n
  pub tags_same : ts ≡ us
