-- What contracts see of a ring: its limits, and all items that were ever pushed.
use Rattle.std.specs.Prelude.{List}
use Rattle.av_unit.specs.declared.item.Item.{Item}
use Rattle.stream_model.specs.declared.calls.StreamLimits.{StreamLimits}

pub record RingKnown : Type 0 where
  pub limits : StreamLimits
  pub items : List Item
