use Rattle.std.proofs.Common.{◌≡◌, ◌++◌, map, take}
use Rattle.stream_model.specs.Shape.{pool_shape}
use Rattle.stream_registry.proofs.shapes.add_pools.Given as goal

abbrev pub invariant-loop-table : goal.invariant-loop-table
invariant-loop-table l = l.list.items ≡ l.initial.list.items ++ map (λ o. pool_shape l.limits o.slots) (take l.table-index l.opens)
