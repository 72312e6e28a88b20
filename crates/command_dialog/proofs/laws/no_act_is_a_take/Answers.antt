use Rattle.command_dialog.proofs.Rules.{no_take}
use Rattle.command_dialog.proofs.laws.no_act_is_a_take.Goals as goal

pub returns : goal.returns
returns c = no_take
