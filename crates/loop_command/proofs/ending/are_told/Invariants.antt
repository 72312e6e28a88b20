use Rattle.std.proofs.Common.{◌≡◌, ◌+◌, length}
use Rattle.loop_command.specs.Course.{sent_in}
use Rattle.loop_command.proofs.ending.are_told.Given as goal

abbrev pub invariant-loop-left : goal.invariant-loop-left
invariant-loop-left l = sent_in l.fn.history + l.untold ≡ l.told + sent_in l.left

abbrev pub decreases-loop-left : goal.decreases-loop-left
decreases-loop-left l = length l.left
