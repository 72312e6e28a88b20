use Rattle.chunk_reader.proofs.Apart.{refused_not_read}
use Rattle.chunk_reader.proofs.laws.refused_bytes_are_not_read.Goals as goal

pub returns : goal.returns
returns c = refused_not_read
