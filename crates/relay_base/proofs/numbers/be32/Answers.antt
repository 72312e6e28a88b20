use Rattle.std.proofs.Common.{arith}
use Rattle.relay_base.specs.Numbers.{be32_of}
use Rattle.relay_base.proofs.numbers.be32.Goals as goal

pub returns : goal.returns
unfolding be32_of
returns c = omega (arith, c.read_u32.ensures)
