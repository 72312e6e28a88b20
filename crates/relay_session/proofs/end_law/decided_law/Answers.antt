use Rattle.relay_session.proofs.Deciding.{decided}
use Rattle.relay_session.proofs.end_law.decided_law.Goals as goal

pub returns : goal.returns
returns c = decided
