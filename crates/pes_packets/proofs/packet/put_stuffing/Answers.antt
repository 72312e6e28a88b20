use Rattle.std.proofs.Common.{◌++◌, List, ℕ, ap}
use Rattle.std.proofs.lemmas.List.{take-replicate}
use Rattle.std.proofs.lemmas.Result.{IfOk-equal}
use Rattle.pes_packets.proofs.packet.put_stuffing.Goals as goal

pub returns-clause-ok : goal.returns-clause-ok
returns-clause-ok c = IfOk-equal c.append.result _ _ _ c.append.ensures.ok (ap (λ (t : List ℕ). c.args.out.now ++ t) (take-replicate c.args.count 184 255 c.requires))
