use Rattle.std.proofs.Common.{length}
use Rattle.avc_annexb.proofs.Splits.{Walks}
use Rattle.avc_annexb.proofs.split.split_annexb.Given as goal

abbrev pub invariant-loop-left : goal.invariant-loop-left
invariant-loop-left l = Walks l.bytes l.left l.list.items

abbrev pub decreases-loop-left : goal.decreases-loop-left
decreases-loop-left l = length l.left
