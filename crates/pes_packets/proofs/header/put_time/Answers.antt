use Rattle.std.proofs.Common.{◌++◌, List, ℕ, ap, arith}
use Rattle.std.proofs.lemmas.Result.{IfOk-equal}
use Rattle.pes_packets.proofs.Bits.{time_is}
use Rattle.pes_packets.proofs.header.put_time.Goals as goal

pub returns-clause-ok : goal.returns-clause-ok
returns-clause-ok c =
    IfOk-equal c.append.result _ _ _ c.append.ensures.ok
    (ap (λ (t : List ℕ). c.args.out.now ++ t) (time_is c.args.prefix c.args.time _ c.to_be_bytes.result (omega arith) c.to_be_bytes.ensures))
