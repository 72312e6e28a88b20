use Rattle.http_worker.proofs.Booking.{settled_later}
use Rattle.http_worker.proofs.laws.settled_law.Goals as goal

pub returns : goal.returns
returns c = settled_later
