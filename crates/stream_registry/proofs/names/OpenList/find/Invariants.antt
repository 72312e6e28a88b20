use Rattle.stream_registry.specs.Names.{NoneOpen}
use Rattle.stream_registry.proofs.names.OpenList.find.Given as goal

abbrev pub invariant-loop-table : goal.invariant-loop-table
invariant-loop-table l = NoneOpen l.initial.self l.table l.app
