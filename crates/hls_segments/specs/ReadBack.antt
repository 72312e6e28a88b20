-- What is read of segments, one after the other
use Rattle.std.specs.Prelude.{◌≡◌, ℕ, List, ◌++◌, Option, option_to_list}
use Rattle.av_unit.specs.declared.item.Item.{Item}
use Rattle.ts_reader.specs.declared.unit.TsUnit.{TsUnit}
use Rattle.ts_reader.specs.Reads.{Ends}
use Rattle.ts_law.specs.Bridge.{bridge}
use Rattle.hls_segments.specs.Cuts.{segments}
use Rattle.hls_segments.specs.Laws.{together}

-- THEY ARE READ as the bridged units, and in no other way
pub record AreReadBack (least : ℕ) (items : List Item) : Type 0 where
  pub read : (units : List TsUnit) × (last : Option TsUnit) × Ends (together (segments least items)) units last
  pub only : (units : List TsUnit) (last : Option TsUnit) → Ends (together (segments least items)) units last
      → units ++ option_to_list last ≡ bridge items
