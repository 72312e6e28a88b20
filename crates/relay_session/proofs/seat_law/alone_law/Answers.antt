use Rattle.relay_session.proofs.OwnCalls.{answered}
use Rattle.relay_session.proofs.seat_law.alone_law.Goals as goal

pub returns : goal.returns
returns c = answered
