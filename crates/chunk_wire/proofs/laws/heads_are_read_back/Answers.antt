use Rattle.chunk_wire.proofs.ReadBackLemmas.{reads_back}
use Rattle.chunk_wire.proofs.laws.heads_are_read_back.Goals as goal

pub returns : goal.returns
returns c = reads_back
