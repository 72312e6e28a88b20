-- Only proofs and private functions use it.
-- What a writer of a transport stream file keeps true of its fields
use Rattle.std.specs.Prelude.{◌≡◌, Bool, true, false, is_some, reverse}
use Rattle.ts_writer.specs.Known.{TsKnown}
use Rattle.series_medium.specs.Broadcasts.{ts_file}

pub record IsTsFile (w : TsKnown) (is_open : Bool) : Type 0 where
  pub works : w.broken ≡ false
  pub open_is : is_open ≡ is_some (ts_file (reverse w.past))

-- something was written before, or the item added bytes
abbrev pub is_any : Bool → Bool → Bool
is_any true grew = true
is_any false grew = grew
