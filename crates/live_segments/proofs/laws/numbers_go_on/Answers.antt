use Rattle.live_segments.proofs.Runs.{numbers_go_on}
use Rattle.live_segments.proofs.laws.numbers_go_on.Goals as goal

pub returns : goal.returns
returns c = numbers_go_on
