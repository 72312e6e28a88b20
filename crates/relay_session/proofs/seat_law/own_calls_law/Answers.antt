use Rattle.relay_session.proofs.OwnCalls.{published, played, fares}
use Rattle.relay_session.proofs.seat_law.own_calls_law.Goals as goal

pub returns-clause-publisher : goal.returns-clause-publisher
returns-clause-publisher c = published

pub returns-clause-player : goal.returns-clause-player
returns-clause-player c = played

pub returns-clause-fares : goal.returns-clause-fares
returns-clause-fares c = fares
