use Rattle.std.proofs.Common.{arith}
use Rattle.stream_registry.proofs.sole.SoleStreamPort.detach.Goals as goal

pub returns-clause-all : goal.returns-clause-all
returns-clause-all c = λ w. absurd (let f = w.first in omega arith)
