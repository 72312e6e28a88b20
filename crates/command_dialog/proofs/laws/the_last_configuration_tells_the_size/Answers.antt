use Rattle.command_dialog.proofs.Sizes.{size_is_told}
use Rattle.command_dialog.proofs.laws.the_last_configuration_tells_the_size.Goals as goal

pub returns : goal.returns
returns c = size_is_told
