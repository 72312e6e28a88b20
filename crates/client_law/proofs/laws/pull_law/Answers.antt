use Rattle.client_law.proofs.Pulling.{pull_told}
use Rattle.client_law.proofs.laws.pull_law.Goals as goal

pub returns : goal.returns
returns c = λ k who window max n o desk ns ms T C p h. pull_told k who window max desk p n o ns ms T C h
