use Rattle.chunk_wire.proofs.ReadBackLemmas.{shortest}
use Rattle.chunk_wire.proofs.laws.ids_are_written_shortest.Goals as goal

pub returns : goal.returns
returns c = shortest
