use Rattle.hls_command.proofs.Segments.{are_segments}
use Rattle.hls_command.proofs.laws.files_are_segments.Goals as goal

pub returns : goal.returns
returns c = are_segments
