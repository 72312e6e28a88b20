use Rattle.stream_law.proofs.Spares.{spare_sent}
use Rattle.stream_law.proofs.players.spares_law.Goals as goal

pub returns : goal.returns
returns c = spare_sent
