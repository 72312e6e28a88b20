use Rattle.live_segments.proofs.Runs.{whole_unless_held}
use Rattle.live_segments.proofs.laws.whole_unless_held.Goals as goal

pub returns : goal.returns
returns c = whole_unless_held
