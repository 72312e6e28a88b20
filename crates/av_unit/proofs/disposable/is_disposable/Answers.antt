use Rattle.std.proofs.Common.{sym, arith}
use Rattle.av_unit.proofs.Spared.{short}
use Rattle.av_unit.proofs.disposable.is_disposable.Goals as goal

pub returns-in_default-clause-value : goal.returns-in_default-clause-value
returns-in_default-clause-value c = let h = c.in_default.len_below in sym (short c.args.size c.args.body.now (omega arith))
