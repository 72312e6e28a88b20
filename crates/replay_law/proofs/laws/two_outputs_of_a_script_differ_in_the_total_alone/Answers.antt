use Rattle.replay_law.proofs.Runs.{outputs_same}
use Rattle.replay_law.proofs.laws.two_outputs_of_a_script_differ_in_the_total_alone.Goals as goal

pub returns : goal.returns
returns c = outputs_same
