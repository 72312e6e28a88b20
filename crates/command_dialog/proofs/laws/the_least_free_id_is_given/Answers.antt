use Rattle.command_dialog.proofs.Free.{is_free, is_least, all_open}
use Rattle.command_dialog.proofs.laws.the_least_free_id_is_given.Goals as goal

pub returns : goal.returns
returns c = record { free = is_free; least = is_least; none = all_open }
