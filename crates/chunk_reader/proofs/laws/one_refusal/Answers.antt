use Rattle.chunk_reader.proofs.Single.{one_stop}
use Rattle.chunk_reader.proofs.laws.one_refusal.Goals as goal

pub returns : goal.returns
returns c = one_stop
