use Rattle.ts_law.proofs.Worked.{clock_wraps, shown_wraps}
use Rattle.ts_law.proofs.laws.times_go_on.Goals as goal

pub returns : goal.returns
returns c = record { decoded = clock_wraps; presented = shown_wraps }
