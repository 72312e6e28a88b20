use Rattle.stream_registry.proofs.Shaping.{listed, pooled}
use Rattle.stream_registry.proofs.shapes.places_law.Goals as goal

pub returns-clause-listed : goal.returns-clause-listed
returns-clause-listed c = listed

pub returns-clause-pools : goal.returns-clause-pools
returns-clause-pools c = pooled
