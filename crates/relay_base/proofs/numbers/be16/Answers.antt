use Rattle.std.proofs.Common.{arith}
use Rattle.relay_base.specs.Numbers.{be16_of}
use Rattle.relay_base.proofs.numbers.be16.Goals as goal

pub returns : goal.returns
unfolding be16_of
returns c = omega (arith, c.read_u16.ensures)
