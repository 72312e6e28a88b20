use Rattle.ts_reader.proofs.Once.{one_stop}
use Rattle.ts_reader.proofs.laws.one_refusal.Goals as goal

pub returns : goal.returns
returns c = one_stop
