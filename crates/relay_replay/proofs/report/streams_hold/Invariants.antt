use Rattle.std.proofs.Common.{◌≡◌, ◌≤◌, ◌+◌, ◌*◌}
use Rattle.relay_replay.specs.Prints.{streams_hold}
use Rattle.relay_replay.proofs.report.streams_hold.Given as goal

abbrev pub invariant-loop-n : goal.invariant-loop-n
invariant-loop-n l = record {
  same : l.total ≡ streams_hold l.port l.n;
  most : l.total ≤ l.n * (l.port.rules.limits.bytes + 196608);
}
