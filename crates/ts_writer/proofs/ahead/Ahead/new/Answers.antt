use Rattle.std.proofs.Common.{refl}
use Rattle.ts_writer.specs.Parts.{counter}
use Rattle.ts_writer.proofs.ahead.Ahead.new.Goals as goal

pub returns : goal.returns
unfolding counter
returns c = refl
