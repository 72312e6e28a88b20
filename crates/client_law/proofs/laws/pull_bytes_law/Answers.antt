use Rattle.client_law.proofs.PullBytes.{pull_bytes}
use Rattle.client_law.proofs.laws.pull_bytes_law.Goals as goal

pub returns : goal.returns
returns c = pull_bytes
