-- What contracts see of a reader: the bytes that it was fed up to now, or up to the byte that it refused, the
-- units that it gave, and how it failed, if it did
use Rattle.std.specs.Prelude.{ℕ, List, [], Option, None}
use Rattle.ts_reader.specs.declared.unit.TsUnit.{TsUnit}
use Rattle.ts_reader.specs.declared.fail.TsFail.{TsFail}

pub record Known : Type 0 where
  pub fed : List ℕ
  pub given : List TsUnit
  pub failed : Option TsFail

-- one that was fed nothing
abbrev pub fresh : Known
fresh = record { fed = []; given = []; failed = None }
