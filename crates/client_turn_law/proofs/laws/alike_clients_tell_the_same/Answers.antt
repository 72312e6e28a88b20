use Rattle.client_turn_law.proofs.Alike.{told_alike}
use Rattle.client_turn_law.proofs.laws.alike_clients_tell_the_same.Goals as goal

pub returns : goal.returns
returns c = λ s t h. told_alike s t h
