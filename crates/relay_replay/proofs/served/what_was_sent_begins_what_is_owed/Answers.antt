use Rattle.relay_replay.proofs.Serving.{cast_served, does_served, settled_served}
use Rattle.relay_replay.proofs.served.what_was_sent_begins_what_is_owed.Goals as goal

pub returns-clause-line : goal.returns-clause-line
returns-clause-line c = does_served

pub returns-clause-settled : goal.returns-clause-settled
returns-clause-settled c = settled_served

pub returns-clause-printed : goal.returns-clause-printed
returns-clause-printed c = cast_served
