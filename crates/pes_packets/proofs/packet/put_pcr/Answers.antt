use Rattle.std.proofs.Common.{◌++◌, List, ℕ, ap, arith}
use Rattle.std.proofs.lemmas.Result.{IfOk-equal}
use Rattle.pes_packets.proofs.Bits.{pcr_is}
use Rattle.pes_packets.proofs.packet.put_pcr.Goals as goal

pub returns-clause-ok : goal.returns-clause-ok
returns-clause-ok c =
    IfOk-equal c.append.result _ _ _ c.append.ensures.ok
    (ap (λ (t : List ℕ). c.args.out.now ++ t) (pcr_is c.args.base _ c.to_be_bytes.result (omega arith) c.to_be_bytes.ensures))
