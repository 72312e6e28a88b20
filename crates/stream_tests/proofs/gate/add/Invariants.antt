use Rattle.std.proofs.Common.{◌≡◌}
use Rattle.stream_tests.proofs.gate.add.Given as goal

abbrev pub invariant-loop : goal.invariant-loop
invariant-loop l = l.pass.gate ≡ l.gate
