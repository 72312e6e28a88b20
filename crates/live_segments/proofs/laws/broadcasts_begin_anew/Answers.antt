use Rattle.live_segments.proofs.Runs.{text_is}
use Rattle.live_segments.proofs.laws.broadcasts_begin_anew.Goals as goal

pub returns : goal.returns
returns c = text_is
