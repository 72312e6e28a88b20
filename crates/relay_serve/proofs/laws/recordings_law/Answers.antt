use Rattle.relay_serve.proofs.Few.{as_many}
use Rattle.relay_serve.proofs.Having.{has_each}
use Rattle.relay_serve.proofs.laws.recordings_law.Goals as goal

pub returns-clause-each : goal.returns-clause-each
returns-clause-each c = has_each

pub returns-clause-count : goal.returns-clause-count
returns-clause-count c = as_many
