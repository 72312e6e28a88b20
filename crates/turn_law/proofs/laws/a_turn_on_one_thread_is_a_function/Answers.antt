use Rattle.turn_law.proofs.Steps.{turn_both}
use Rattle.turn_law.proofs.laws.a_turn_on_one_thread_is_a_function.Goals as goal

pub returns : goal.returns
returns c = λ desk quit v v' w w' l m m' a a' h t t' s s'. turn_both desk a w a' w' s s' m m' quit v v' l t t' h
