use Rattle.stream_law.proofs.OwnNames.{own_name}
use Rattle.stream_law.proofs.pools.own_name_law.Goals as goal

pub returns : goal.returns
returns c = own_name
