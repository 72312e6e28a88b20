use Rattle.std.proofs.Common.{arith}
use Rattle.relay_base.specs.Numbers.{be24_of}
use Rattle.relay_base.proofs.numbers.be24.Goals as goal

pub returns-clause-value : goal.returns-clause-value
unfolding be24_of
returns-clause-value c = omega (arith, c.read_u24.ensures)
