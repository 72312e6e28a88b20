use Rattle.std.proofs.Common.{◌≡◌, length}
use Rattle.command_dialog.specs.Meaning.{closed_in}
use Rattle.command_dialog.proofs.meaning.closing.Given as goal

abbrev pub invariant-loop-left : goal.invariant-loop-left
invariant-loop-left l = closed_in l.bits l.ids ≡ closed_in l.bits l.left

abbrev pub decreases-loop-left : goal.decreases-loop-left
decreases-loop-left l = length l.left
