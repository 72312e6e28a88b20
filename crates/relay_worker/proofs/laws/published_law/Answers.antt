use Rattle.relay_worker.proofs.Publishing.{published_begins}
use Rattle.relay_worker.proofs.laws.published_law.Goals as goal

pub returns : goal.returns
returns c = published_begins
