use Rattle.client_turn_law.proofs.Alike.{begun_alike}
use Rattle.client_turn_law.proofs.laws.two_new_clients_are_alike.Goals as goal

pub returns : goal.returns
returns c = λ k max s t b d. begun_alike k max s t b d
