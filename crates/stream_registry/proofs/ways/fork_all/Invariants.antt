use Rattle.stream_registry.proofs.Rooting.{Forking}
use Rattle.stream_registry.proofs.ways.fork_all.Given as goal

abbrev pub invariant-loop-i : goal.invariant-loop-i
invariant-loop-i g l = Forking l.initial.places l.places l.list.items l.i
