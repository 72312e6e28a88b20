use Rattle.std.proofs.Common.{◌≡◌, ◌++◌}
use Rattle.relay_replay.specs.Prints.{TablesWithin, opens_text}
use Rattle.relay_replay.proofs.report.all_opens.Given as goal

abbrev pub invariant-loop-n : goal.invariant-loop-n
invariant-loop-n l = record {
  same : l.out ≡ l.fn.out ++ opens_text l.port l.streams l.n;
  within : TablesWithin l.port l.streams l.n;
}
