use Rattle.client_turn_law.proofs.Alike.{are_given_alike}
use Rattle.client_turn_law.proofs.laws.clients_that_are_given_the_same_stay_alike.Goals as goal

pub returns : goal.returns
returns c = λ g s s' t t' h a b. are_given_alike g s s' t t' h a b
