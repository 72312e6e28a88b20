use Rattle.ts_reader.proofs.Once.{reads_part}
use Rattle.ts_reader.proofs.laws.beginnings_are_read.Goals as goal

pub returns : goal.returns
returns c = reads_part
