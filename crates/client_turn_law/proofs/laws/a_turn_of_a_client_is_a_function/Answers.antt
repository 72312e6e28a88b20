use Rattle.client_turn_law.proofs.Steps.{turn_both}
use Rattle.client_turn_law.proofs.laws.a_turn_of_a_client_is_a_function.Goals as goal

pub returns : goal.returns
returns c = λ s s' t t' l m m' a a' h x x' n n'. turn_both s s' t t' l m m' a a' h x x' n n'
