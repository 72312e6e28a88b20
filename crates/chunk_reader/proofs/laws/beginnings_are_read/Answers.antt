use Rattle.chunk_reader.proofs.Parts.{reads_part}
use Rattle.chunk_reader.proofs.laws.beginnings_are_read.Goals as goal

pub returns : goal.returns
returns c = reads_part
