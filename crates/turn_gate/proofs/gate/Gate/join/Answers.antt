use Rattle.std.proofs.Common.{rules}
use Rattle.turn_gate.specs.InSlot.{InSlot}
use Rattle.turn_gate.proofs.Turning.{takes_in, learns}
use Rattle.turn_gate.proofs.gate.Gate.join.Goals as goal

pub join_seat-requires : goal.join_seat-requires
join_seat-requires g c = (search rules, search rules, search rules, search rules, takes_in (InSlot g.T.Machine.stands g.T.Machine.about) _ _ _ _ _ (search rules))

pub load-requires : goal.load-requires
load-requires g c = (search rules, search rules, learns (InSlot g.T.Machine.stands g.T.Machine.about) _ _ _ _)
