use Rattle.ts_reader.proofs.Ends.{stays}
use Rattle.ts_reader.proofs.laws.refused_bytes_stay_refused.Goals as goal

pub returns : goal.returns
returns c = stays
