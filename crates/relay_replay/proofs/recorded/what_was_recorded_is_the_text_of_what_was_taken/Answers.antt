use Rattle.relay_replay.proofs.Recorders.{cast_recorded, does_recorded, settled_recorded}
use Rattle.relay_replay.proofs.recorded.what_was_recorded_is_the_text_of_what_was_taken.Goals as goal

pub returns-clause-line : goal.returns-clause-line
returns-clause-line c = does_recorded

pub returns-clause-settled : goal.returns-clause-settled
returns-clause-settled c = settled_recorded

pub returns-clause-printed : goal.returns-clause-printed
returns-clause-printed c = cast_recorded
