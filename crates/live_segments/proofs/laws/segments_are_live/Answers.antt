use Rattle.live_segments.proofs.Cutting.{are_live}
use Rattle.live_segments.proofs.laws.segments_are_live.Goals as goal

pub returns : goal.returns
returns c = are_live
