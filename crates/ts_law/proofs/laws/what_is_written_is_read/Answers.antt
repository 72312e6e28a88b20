use Rattle.ts_law.proofs.Items.{not_at_end, not_refused, read_back, read_only}
use Rattle.ts_law.proofs.laws.what_is_written_is_read.Goals as goal

pub returns : goal.returns
returns c = record { read = read_back; only = read_only; not_refused = not_refused; not_at_end = not_at_end }
