use Rattle.held_law.proofs.Sums.{all_are}
use Rattle.held_law.proofs.laws.all_together_hold_at_most_the_sum.Goals as goal

pub returns : goal.returns
returns c = all_are
