use Rattle.std.proofs.Common.{◌≡◌, ◌≤◌, ◌+◌, ◌*◌, take}
use Rattle.stream_registry.specs.Names.{slots_sum}
use Rattle.relay_replay.specs.Prints.{opens_hold}
use Rattle.relay_replay.proofs.report.opens_hold.Given as goal

abbrev pub invariant-loop-n : goal.invariant-loop-n
invariant-loop-n l = record {
  same : l.total ≡ opens_hold l.port l.streams l.n;
  most : l.total ≤ slots_sum (take l.n l.port.rules.opens) * (l.port.rules.limits.bytes + 196672);
}
