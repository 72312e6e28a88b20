-- A new stream or pool has the shape that was asked for.
use Rattle.std.proofs.Common.{◌≡◌, ℕ, Option, Some, None, sym, ap, ◌∙◌}
use Rattle.stream_model.specs.declared.calls.Shape.{Shape}
use Rattle.stream_model.specs.Shape.{TableKnown, new_table, stream_shape, pool_shape}

abbrev with_slots : Shape → Option ℕ → TableKnown
with_slots s o = new_table (record { limits = s.limits; slots = o })

pub shape_none : (k : TableKnown) (s : Shape) → s.slots ≡ None → k ≡ new_table (stream_shape s.limits) → k ≡ new_table s
shape_none k s e f = f ∙ ap (with_slots s) (sym e)

pub shape_some : (k : TableKnown) (s : Shape) (n : ℕ) → s.slots ≡ Some n → k ≡ new_table (pool_shape s.limits n) → k ≡ new_table s
shape_some k s n e f = f ∙ ap (with_slots s) (sym e)
