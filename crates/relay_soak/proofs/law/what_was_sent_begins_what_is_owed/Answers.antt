use Rattle.relay_soak.proofs.Serving.{soak_served}
use Rattle.relay_soak.proofs.law.what_was_sent_begins_what_is_owed.Goals as goal

pub returns : goal.returns
returns c = soak_served
