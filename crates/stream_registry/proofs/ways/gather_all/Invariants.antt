use Rattle.stream_registry.specs.Roots.{Gathers}
use Rattle.std.proofs.Common.{vec_len}
use Rattle.stream_registry.proofs.ways.gather_all.Given as goal

abbrev pub invariant-loop-other : goal.invariant-loop-other
invariant-loop-other g l = Gathers l.initial.others.items l.others.items l.initial.places l.places

abbrev pub decreases-loop-other : goal.decreases-loop-other
decreases-loop-other g l = vec_len l.others
