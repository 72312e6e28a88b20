use Rattle.std.proofs.Common.{◌++◌, List, ℕ, refl, ap}
use Rattle.std.proofs.lemmas.Result.{IfOk-equal}
use Rattle.pes_packets.proofs.Bits.{head_is}
use Rattle.pes_packets.proofs.packet.put_head.Goals as goal

pub returns-clause-ok : goal.returns-clause-ok
returns-clause-ok c =
    IfOk-equal c.append.result _ _ _ c.append.ensures.ok
    (ap (λ (t : List ℕ). c.args.out.now ++ t)
    (head_is c.args.start c.args.pid c.args.control c.args.counter c.flag-start.result _ _ c.requires.pid c.requires.control c.requires.counter c.flag-start.ensures
    (rw c.to_be_bytes.ensures refl) (rw c.to_be_bytes.ensures refl)))
