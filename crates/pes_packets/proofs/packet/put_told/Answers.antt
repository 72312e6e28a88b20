use Rattle.std.proofs.Common.{◌++◌, List, ℕ, ap, ◌∙◌, append_assoc}
use Rattle.std.proofs.lemmas.Result.{IfOk-equal}
use Rattle.pes_packets.specs.Packet.{pcr_bytes}
use Rattle.pes_packets.proofs.Bits.{told_is_none, told_is_some}
use Rattle.pes_packets.proofs.packet.put_told.Goals as goal

pub returns-in-None-clause-ok : goal.returns-in-None-clause-ok
returns-in-None-clause-ok c =
    IfOk-equal c.append.result _ _ _ c.append.ensures.ok
    (ap (λ (t : List ℕ). c.args.out.now ++ t) (told_is_none c.args.flags c.flag-jump.result c.flag-random.result c.in-None.is c.flag-jump.ensures c.flag-random.ensures))

pub returns-in_ok-append-in-Some-clause-ok : goal.returns-in_ok-append-in-Some-clause-ok
returns-in_ok-append-in-Some-clause-ok c =
    let told = told_is_some c.args.flags c.in-Some.base c.flag-jump.result c.flag-random.result c.in-Some.is c.flag-jump.ensures c.flag-random.ensures in
    IfOk-equal c.put_pcr.result _ _ _ c.put_pcr.ensures.ok
    (ap (λ (t : List ℕ). t ++ pcr_bytes c.in-Some.base) c.in_ok-append-in-Some.ensures.ok
    ∙ append_assoc c.args.out.now _ (pcr_bytes c.in-Some.base) ∙ ap (λ (t : List ℕ). c.args.out.now ++ t) told)
