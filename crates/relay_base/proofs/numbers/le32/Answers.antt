use Rattle.std.proofs.Common.{arith}
use Rattle.relay_base.specs.Numbers.{le32_of}
use Rattle.relay_base.proofs.numbers.le32.Goals as goal

pub returns : goal.returns
unfolding le32_of
returns c = omega (arith, c.read_u32.ensures)
