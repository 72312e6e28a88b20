use Rattle.command_dialog.proofs.Rules.{apps, names, ids_are, closes_is}
use Rattle.command_dialog.proofs.laws.worked_examples.Goals as goal

pub returns : goal.returns
returns c = record { app = apps; name = names; ids = ids_are; closes = closes_is }
