use Rattle.std.proofs.Common.{◌≡◌, map, take}
use Rattle.stream_model.specs.Shape.{stream_shape}
use Rattle.stream_registry.proofs.shapes.streams.Given as goal

abbrev pub invariant-loop-name : goal.invariant-loop-name
invariant-loop-name l = l.list.items ≡ map (λ n. stream_shape l.limits) (take l._name-index l.names)
