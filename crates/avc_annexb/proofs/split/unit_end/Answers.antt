use Rattle.std.proofs.Common.{sym}
use Rattle.avc_annexb.proofs.Splits.{start_within}
use Rattle.avc_annexb.proofs.split.unit_end.Goals as goal

pub returns-in-Some-clause-most : goal.returns-in-Some-clause-most
returns-in-Some-clause-most c = start_within c.args.bytes.now c.in-Some.at (sym c.in-Some.ensures)
