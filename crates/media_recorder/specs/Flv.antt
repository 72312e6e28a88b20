-- The text of an FLV file goes on with each item
use Rattle.std.specs.Prelude.{◌≡◌, ℕ, List, ◌++◌}
use Rattle.std.specs.List.{flat_map}
use Rattle.std.proofs.Common.{sym, ap, ◌∙◌, append_assoc}
use Rattle.std.proofs.lemmas.List.Concat.{flat_map-append}
use Rattle.av_unit.specs.declared.item.Item.{Item}
use Rattle.turn_gate.specs.Histories.{Begins}
use Rattle.flv_tags.specs.Written.{header}
use Rattle.flv_tags.specs.Text.{item_bytes, flv_text}

pub flv_more : (items more : List Item) → flv_text items ++ flat_map item_bytes more ≡ flv_text (items ++ more)
flv_more items more =
    append_assoc header (flat_map item_bytes items) (flat_map item_bytes more)
    ∙ ap (λ (l : List ℕ). header ++ l) (sym (flat_map-append item_bytes items more))

pub flv_goes_on : (items more : List Item) → Begins (flv_text items) (flv_text (items ++ more))
flv_goes_on items more = (flat_map item_bytes more, flv_more items more)
