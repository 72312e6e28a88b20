use Rattle.std.proofs.Common.{length}
use Rattle.avc_annexb.proofs.Units.{Walks}
use Rattle.avc_annexb.proofs.prefixed.nals.Given as goal

abbrev pub invariant-loop-left : goal.invariant-loop-left
invariant-loop-left l = Walks l.size l.bytes l.left l.list.items

abbrev pub decreases-loop-left : goal.decreases-loop-left
decreases-loop-left l = length l.left
