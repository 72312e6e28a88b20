use Rattle.std.proofs.Common.{rules}
use Rattle.turn_gate.specs.InSlot.{InSlot}
use Rattle.turn_gate.proofs.Turning.{new_pass}
use Rattle.turn_gate.proofs.gate.Gate.split.Goals as goal

pub split_seat-seat-requires : goal.split_seat-seat-requires
split_seat-seat-requires g c = (search rules, search rules, new_pass (InSlot g.T.Machine.stands g.T.Machine.about) _ _ _)
