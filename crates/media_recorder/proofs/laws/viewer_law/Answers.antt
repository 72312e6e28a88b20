use Rattle.media_recorder.proofs.Viewing.{viewed}
use Rattle.media_recorder.proofs.laws.viewer_law.Goals as goal

pub returns : goal.returns
returns c = λ shape place who from entry newer before. viewed shape place who from entry newer before
