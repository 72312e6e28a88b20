use Rattle.client_law.proofs.Begun.{push_begun}
use Rattle.client_law.proofs.laws.push_so_far_law.Goals as goal

pub returns : goal.returns
returns c = λ k who window max n o desk ns ms T C p h. push_begun k who window max desk p n o ns ms T C h
