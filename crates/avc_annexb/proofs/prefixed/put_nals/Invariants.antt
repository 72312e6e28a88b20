use Rattle.std.proofs.Common.{length}
use Rattle.avc_annexb.proofs.Streams.{Puts}
use Rattle.avc_annexb.proofs.prefixed.put_nals.Given as goal

abbrev pub invariant-loop-left : goal.invariant-loop-left
invariant-loop-left l = Puts l.size l.bytes l.left l.nal l.fn.out l.out

abbrev pub decreases-loop-left : goal.decreases-loop-left
decreases-loop-left l = length l.left
