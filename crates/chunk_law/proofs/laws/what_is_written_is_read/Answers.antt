use Rattle.chunk_law.proofs.Messages.{read_back}
use Rattle.chunk_law.proofs.laws.what_is_written_is_read.Goals as goal

pub returns : goal.returns
returns c = read_back
