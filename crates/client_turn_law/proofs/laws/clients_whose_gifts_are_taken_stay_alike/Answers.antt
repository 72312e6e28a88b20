use Rattle.client_turn_law.proofs.Alike.{taken_alike}
use Rattle.client_turn_law.proofs.laws.clients_whose_gifts_are_taken_stay_alike.Goals as goal

pub returns : goal.returns
returns c = λ s t h. taken_alike s t h
