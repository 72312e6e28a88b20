use Rattle.std.proofs.Common.{◌≡◌, ◌++◌, length}
use Rattle.relay_script.specs.ReplayLines.{pairs}
use Rattle.relay_script.proofs.replay.pairs.Given as goal

abbrev pub invariant-loop-left : goal.invariant-loop-left
invariant-loop-left l = record {
  same : l.bytes.items ++ pairs l.left ≡ pairs l.fn.word;
}

abbrev pub decreases-loop-left : goal.decreases-loop-left
decreases-loop-left l = length l.left
