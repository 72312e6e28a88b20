use Rattle.chunk_reader.proofs.Settled.{read_or_refused}
use Rattle.chunk_reader.proofs.laws.each_is_read_or_refused.Goals as goal

pub returns : goal.returns
returns c = read_or_refused
