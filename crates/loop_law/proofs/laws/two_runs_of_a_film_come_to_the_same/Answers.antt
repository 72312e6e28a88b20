use Rattle.loop_law.proofs.Courses.{ends_same}
use Rattle.loop_law.proofs.laws.two_runs_of_a_film_come_to_the_same.Goals as goal

pub returns : goal.returns
returns c = λ tags bytes back back' text text' most b d. ends_same tags bytes most back back' text text' b d
