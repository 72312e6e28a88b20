use Rattle.std.proofs.Common.{◌≡◌, ◌++◌}
use Rattle.relay_replay.specs.Prints.{StreamsWithin, streams_text}
use Rattle.relay_replay.proofs.report.all_streams.Given as goal

abbrev pub invariant-loop-n : goal.invariant-loop-n
invariant-loop-n l = record {
  same : l.out ≡ l.fn.out ++ streams_text l.port l.n;
  within : StreamsWithin l.port l.n;
}
