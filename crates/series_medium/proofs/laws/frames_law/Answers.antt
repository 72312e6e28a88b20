use Rattle.series_medium.proofs.Framing.{read_frames}
use Rattle.series_medium.proofs.laws.frames_law.Goals as goal

pub returns : goal.returns
returns c = read_frames
