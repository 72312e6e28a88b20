use Rattle.std.proofs.Common.{length}
use Rattle.client_law.specs.Room.{HaveRoom}
use Rattle.loop_command.proofs.ending.have_room.Given as goal

abbrev pub invariant-loop-left : goal.invariant-loop-left
invariant-loop-left l = HaveRoom 4194304 l.left → HaveRoom 4194304 l.fn.history

abbrev pub decreases-loop-left : goal.decreases-loop-left
decreases-loop-left l = length l.left
