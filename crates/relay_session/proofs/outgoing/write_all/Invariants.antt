use Rattle.std.proofs.Common.{length}
use Rattle.relay_session.proofs.Pending.{IsWriting}
use Rattle.relay_session.proofs.outgoing.write_all.Given as goal

abbrev pub invariant-loop-left : goal.invariant-loop-left
invariant-loop-left l = IsWriting l.fn.writer l.fn.out l.fn.messages l.writer l.out l.left

abbrev pub decreases-loop-left : goal.decreases-loop-left
decreases-loop-left l = length l.left
