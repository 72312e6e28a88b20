use Rattle.hls_segments.proofs.Cutting.{are_cut}
use Rattle.hls_segments.proofs.laws.segments_are_cut.Goals as goal

pub returns : goal.returns
returns c = are_cut
