use Rattle.origin_calls.proofs.Ordered.{plain_calls}
use Rattle.origin_calls.proofs.Relaying.{in_order}
use Rattle.origin_calls.proofs.relayed.numbers_law.Goals as goal

pub returns-clause-calls : goal.returns-clause-calls
returns-clause-calls c = plain_calls

pub returns-clause-order : goal.returns-clause-order
returns-clause-order c = in_order
