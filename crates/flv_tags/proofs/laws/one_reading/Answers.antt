use Rattle.flv_tags.proofs.Once.{one_reading}
use Rattle.flv_tags.proofs.laws.one_reading.Goals as goal

pub returns : goal.returns
returns c = one_reading
