use Rattle.stream_law.proofs.Shapes.{legal_by}
use Rattle.stream_law.proofs.pools.tables_law.Goals as goal

pub returns : goal.returns
returns c s past lawful slot player = legal_by s.limits s.slots past lawful slot player
