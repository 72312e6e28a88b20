-- What contracts see of a reader: the bytes that it was fed up to now or up to the byte that it refused, the
-- tags that it gave, and how it failed, if it did
use Rattle.std.specs.Prelude.{ℕ, List, Option}
use Rattle.flv_tags.specs.declared.tag.Tag.{Tag}
use Rattle.flv_tags.specs.declared.fail.FlvFail.{FlvFail}

pub record Known : Type 0 where
  pub fed : List ℕ
  pub given : List Tag
  pub failed : Option FlvFail
