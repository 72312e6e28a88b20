use Rattle.stream_law.proofs.Shapes.{alone_there}
use Rattle.stream_law.proofs.pools.takes_alone_at_pools.Goals as goal

pub returns : goal.returns
returns c = alone_there
