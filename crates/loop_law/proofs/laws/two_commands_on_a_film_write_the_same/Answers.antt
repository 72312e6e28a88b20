use Rattle.loop_law.proofs.Outputs.{same_output}
use Rattle.loop_law.proofs.laws.two_commands_on_a_film_write_the_same.Goals as goal

pub returns : goal.returns
returns c = λ film old new old' new' status status' e e' o o' r r'. same_output film old new old' new' status status' e e' o o' r r'
