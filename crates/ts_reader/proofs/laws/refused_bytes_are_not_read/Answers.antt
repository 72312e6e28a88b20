use Rattle.ts_reader.proofs.Once.{refused_not_read}
use Rattle.ts_reader.proofs.laws.refused_bytes_are_not_read.Goals as goal

pub returns : goal.returns
returns c = refused_not_read
