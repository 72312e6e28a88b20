use Rattle.chunk_reader.proofs.Short.{reads_short}
use Rattle.chunk_reader.proofs.laws.messages_are_short.Goals as goal

pub returns : goal.returns
returns c = reads_short
