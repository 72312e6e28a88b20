use Rattle.std.proofs.Common.{◌≡◌}
use Rattle.std.specs.Arc.{arc_value}
use Rattle.relay_bench.proofs.gate.at_gate.Given as goal

abbrev pub invariant-loop : goal.invariant-loop
invariant-loop l = l.root.gate ≡ arc_value l.gate
