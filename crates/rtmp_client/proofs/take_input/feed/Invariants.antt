use Rattle.std.proofs.Common.{length}
use Rattle.rtmp_client.proofs.Going.{IsFeeding}
use Rattle.rtmp_client.proofs.take_input.feed.Given as goal

abbrev pub invariant-loop-alloc : goal.invariant-loop-alloc
invariant-loop-alloc l = IsFeeding l.fn.core l.fn.input l.core l.input

abbrev pub decreases-loop-alloc : goal.decreases-loop-alloc
decreases-loop-alloc l = length l.input
