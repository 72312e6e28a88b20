use Rattle.client_law.proofs.Begun.{push_come}
use Rattle.client_law.proofs.laws.push_bytes_so_far_law.Goals as goal

pub returns : goal.returns
returns c = λ k who window max desk x y ms ns T C p h. push_come k who window max desk p x y ms ns T C h
