-- The items that Takes were sent
use Rattle.std.specs.Prelude.{List, [], ◌∷◌}
use Rattle.std.specs.List.{flat_map}
use Rattle.av_unit.specs.declared.item.Item.{Item}
use Rattle.stream_model.specs.declared.calls.Call.{Call}
use Rattle.stream_model.specs.declared.calls.Call.TheVariants.{Take}
use Rattle.stream_model.specs.declared.replies.Reply.{Reply}
use Rattle.stream_model.specs.declared.replies.Reply.TheVariants.{Sent}
use Rattle.stream_registry.specs.Told.{Step}

abbrev pub item_in : Reply → List Item
item_in (Sent from n item) = item ∷ []
item_in _ = []

-- the item that the call was sent, if it was a Take and was sent one
abbrev pub item_at : Call → Reply → List Item
item_at (Take player want) r = item_in r
item_at _ r = []

-- THE ITEMS that the Takes among these calls were sent, in order
abbrev pub taken : List Step → List Item
taken calls = flat_map (λ step. item_at step.0.call step.1) calls
