use Rattle.std.proofs.Common.{◌≡◌, ◌++◌, ◌+◌, length}
use Rattle.relay_replay.specs.Prints.{recorders_text}
use Rattle.relay_replay.proofs.report.all_recorders.Given as goal

abbrev pub invariant-loop-left : goal.invariant-loop-left
invariant-loop-left l = record {
  same : l.out ++ recorders_text l.n l.left ≡ l.fn.out ++ recorders_text 0 l.fn.recorders;
  count : l.n + length l.left ≡ length l.fn.recorders;
}

abbrev pub decreases-loop-left : goal.decreases-loop-left
decreases-loop-left l = length l.left
