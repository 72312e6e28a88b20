use Rattle.flv_tags.proofs.Apart.{refused_not_read}
use Rattle.flv_tags.proofs.laws.refused_bytes_are_not_read.Goals as goal

pub returns : goal.returns
returns c = refused_not_read
