use Rattle.stream_registry.specs.Names.{NoneNamed}
use Rattle.stream_registry.proofs.names.NameList.find.Given as goal

abbrev pub invariant-loop-place : goal.invariant-loop-place
invariant-loop-place l = NoneNamed l.initial.self l.place l.app l.name
