use Rattle.live_segments.proofs.Lists.{bounded}
use Rattle.live_segments.proofs.laws.lists_are_bounded.Goals as goal

pub returns : goal.returns
returns c = bounded
