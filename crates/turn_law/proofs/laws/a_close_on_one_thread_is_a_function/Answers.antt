use Rattle.turn_law.proofs.Closing.{closed_same}
use Rattle.turn_law.proofs.laws.a_close_on_one_thread_is_a_function.Goals as goal

pub returns : goal.returns
returns c = closed_same
