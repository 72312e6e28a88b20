-- What contracts see of a writer: the items that it was given, the newest first, and whether it has wanted memory
use Rattle.std.specs.Prelude.{Bool, false, List, [], ◌∷◌}
use Rattle.av_unit.specs.declared.item.Item.{Item}

pub record TsKnown : Type 0 where
  pub past : List Item
  pub broken : Bool

abbrev pub fresh : TsKnown
fresh = record { past = []; broken = false }

abbrev pub given : TsKnown → Item → TsKnown
given k item = record { past = item ∷ k.past; broken = k.broken }
