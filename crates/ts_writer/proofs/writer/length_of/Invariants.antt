use Rattle.std.proofs.Common.{◌≡◌, ◌+◌, length}
use Rattle.ts_writer.specs.Held.{lengths}
use Rattle.ts_writer.proofs.writer.length_of.Given as goal

abbrev pub invariant-loop-left : goal.invariant-loop-left
invariant-loop-left l = l.sum + lengths l.left ≡ lengths l.list

abbrev pub decreases-loop-left : goal.decreases-loop-left
decreases-loop-left l = length l.left
