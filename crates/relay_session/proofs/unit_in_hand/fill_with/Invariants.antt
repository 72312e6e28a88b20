use Rattle.std.proofs.Common.{length, ◌+◌, ◌-◌}
use Rattle.relay_session.proofs.Filling.{IsFilling}
use Rattle.relay_session.proofs.unit_in_hand.fill_with.Given as goal

abbrev pub invariant-loop-sending : goal.invariant-loop-sending
invariant-loop-sending l = IsFilling l.fn.place l.fn.most l.fn.sending l.sending l.fn.body l.fn.out l.out

abbrev pub decreases-loop-sending : goal.decreases-loop-sending
decreases-loop-sending l = l.fn.place + l.fn.most - length l.out
