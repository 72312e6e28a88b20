use Rattle.loop_command.proofs.Settling.{none_brought}
use Rattle.loop_command.proofs.ending.have_room.Goals as goal

pub returns : goal.returns
returns c = c.loop-left.invariant (none_brought c.loop-left.left.now c.in_default.len_below)
