-- What a medium of transport streams keeps true of its fields
use Rattle.std.specs.Prelude.{◌≡◌, ℕ, false, IfSome, List, Option, reverse}
use Rattle.av_unit.specs.declared.item.Item.{Item}
use Rattle.ts_writer.specs.Known.{TsKnown}
use Rattle.media_recorder.specs.Transport.{left_out}

-- its writer, if it still has one, was given these items
pub record IsGiven (items : List Item) (w : TsKnown) : Type 0 where
  pub past : w.past ≡ reverse items
  pub works : w.broken ≡ false

pub record IsTsMedium (items : List Item) (writer : Option TsKnown) (count : ℕ) : Type 0 where
  pub given : IfSome writer (IsGiven items)
  pub counted : count ≡ left_out items
