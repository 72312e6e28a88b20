use Rattle.flv_tags.proofs.Beginnings.{reads_part}
use Rattle.flv_tags.proofs.laws.beginnings_are_read.Goals as goal

pub returns : goal.returns
returns c = reads_part
