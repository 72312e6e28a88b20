use Rattle.hls_segments.proofs.Reading.{are_read}
use Rattle.hls_segments.proofs.laws.segments_are_read.Goals as goal

pub returns : goal.returns
returns c = are_read
