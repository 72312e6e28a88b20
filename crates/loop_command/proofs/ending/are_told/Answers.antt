use Rattle.std.proofs.Common.{arith}
use Rattle.loop_command.proofs.Settling.{le_true, none_sent}
use Rattle.loop_command.proofs.ending.are_told.Goals as goal

pub returns : goal.returns
returns c = le_true _ _ (omega (arith, c.loop-left.invariant, none_sent c.loop-left.left.now c.in_default.len_below))
