use Rattle.relay_session.proofs.OwnCalls.{brings_so}
use Rattle.relay_session.proofs.seat_law.items_law.Goals as goal

pub returns : goal.returns
returns c = record { takes = brings_so }
