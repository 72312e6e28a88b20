use Rattle.relay_program.proofs.FewSlots.{few_slots}
use Rattle.relay_program.proofs.drills.said.Goals as goal

pub act-requires-clause-slots : goal.act-requires-clause-slots
act-requires-clause-slots c = few_slots c.args.line.now c.in_ok-drill_line.field-0 c.in_ok-drill_line.ensures.says
