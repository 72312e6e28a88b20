use Rattle.chunk_reader.proofs.Settled.{refused_inside, stays_refused}
use Rattle.chunk_reader.proofs.laws.refused_bytes_stay_refused.Goals as goal

pub returns-clause-stays : goal.returns-clause-stays
returns-clause-stays c = stays_refused

pub returns-clause-inside : goal.returns-clause-inside
returns-clause-inside c = refused_inside
