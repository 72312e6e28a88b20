use Rattle.command_dialog.proofs.Said.{says_said, does_said, told_said, shows_shown}
use Rattle.command_dialog.proofs.laws.what_is_said_can_be_written.Goals as goal

pub returns : goal.returns
returns c = record { step = says_said; message = does_said; reply = told_said; item = shows_shown }
