use Rattle.command_dialog.proofs.Streams.{fresh_ids, does_ids, does_on, told_ids, told_on, shows_on}
use Rattle.command_dialog.proofs.laws.what_is_said_is_on_a_stream.Goals as goal

pub returns : goal.returns
returns c = record { first = fresh_ids; message = does_ids; message_says = does_on; reply = told_ids; reply_says = told_on; item = shows_on }
