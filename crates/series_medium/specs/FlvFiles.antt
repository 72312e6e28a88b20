-- Only proofs and private functions use it.
-- What an item adds to a file of FLV
use Rattle.std.specs.Prelude.{ℕ, Bool, true, if◌then◌else◌, List, [], ◌++◌}
use Rattle.av_unit.specs.declared.item.Item.{Item}
use Rattle.av_unit.specs.declared.item.Item.TheVariants.{Begin, Unit as AUnit, End}
use Rattle.flv_tags.specs.Written.{header}
use Rattle.flv_tags.specs.Text.{item_bytes}

-- the head of a file that isn't open yet
abbrev pub head_if : Bool → List ℕ
head_if is_open = if is_open then [] else header

abbrev pub flv_more : Bool → Item → List ℕ
flv_more is_open Begin = []
flv_more is_open (AUnit unit) = head_if is_open ++ item_bytes (AUnit unit)
flv_more is_open End = []

abbrev pub opens : Bool → Item → Bool
opens is_open Begin = is_open
opens is_open (AUnit unit) = true
opens is_open End = is_open
