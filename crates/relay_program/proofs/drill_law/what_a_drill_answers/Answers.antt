use Rattle.relay_program.proofs.Kept.{drill_kept}
use Rattle.relay_program.proofs.drill_law.what_a_drill_answers.Goals as goal

pub returns : goal.returns
returns c = drill_kept (λ k lawful. c.tables_law.ensures k.shape k.past lawful)
