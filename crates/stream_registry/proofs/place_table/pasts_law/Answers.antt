use Rattle.stream_registry.proofs.Counted.{few_answered}
use Rattle.stream_registry.proofs.Tells.{past_more, past_goes_on}
use Rattle.stream_registry.proofs.place_table.pasts_law.Goals as goal

pub returns-clause-length : goal.returns-clause-length
returns-clause-length c = few_answered

pub returns-clause-last : goal.returns-clause-last
returns-clause-last c = past_more

pub returns-clause-begins : goal.returns-clause-begins
returns-clause-begins c = past_goes_on
