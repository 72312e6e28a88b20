use Rattle.std.proofs.Common.{◌≡◌, length}
use Rattle.loop_command.specs.Course.{skips_in}
use Rattle.loop_command.proofs.ending.are_skipped.Given as goal

abbrev pub invariant-loop-left : goal.invariant-loop-left
invariant-loop-left l = skips_in l.history ≡ skips_in l.left

abbrev pub decreases-loop-left : goal.decreases-loop-left
decreases-loop-left l = length l.left
