use Rattle.std.proofs.Common.{arith}
use Rattle.http_worker.proofs.laws.apart_law.Goals as goal

pub returns : goal.returns
returns c = λ number had who others other few some a b e.
    let l = a.to in
    let m = b.from in
    omega (arith, few, some, l, m, e)
