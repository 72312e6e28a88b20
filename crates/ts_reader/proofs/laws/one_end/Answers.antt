use Rattle.ts_reader.proofs.Ends.{not_at_end, one_end}
use Rattle.ts_reader.proofs.laws.one_end.Goals as goal

pub returns-clause-given : goal.returns-clause-given
returns-clause-given c = one_end

pub returns-clause-refused : goal.returns-clause-refused
returns-clause-refused c = not_at_end
