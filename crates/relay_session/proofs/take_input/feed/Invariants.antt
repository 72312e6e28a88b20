use Rattle.std.proofs.Common.{length}
use Rattle.relay_session.proofs.Going.{IsFeeding}
use Rattle.relay_session.proofs.take_input.feed.Given as goal

abbrev pub invariant-loop-alloc : goal.invariant-loop-alloc
invariant-loop-alloc g l = IsFeeding (g.D.Desk.grants l.fn.desk) l.fn.core l.fn.input l.core l.input

abbrev pub decreases-loop-alloc : goal.decreases-loop-alloc
decreases-loop-alloc g l = length l.input
