use Rattle.std.proofs.Common.{length}
use Rattle.pes_packets.proofs.Cuts.{Runs}
use Rattle.pes_packets.proofs.packets.put_rest.Given as goal

abbrev pub invariant-loop-left : goal.invariant-loop-left
invariant-loop-left l = Runs l.pid l.fn.counter l.counter l.rest l.left l.fn.out l.out

abbrev pub decreases-loop-left : goal.decreases-loop-left
decreases-loop-left l = length l.left
