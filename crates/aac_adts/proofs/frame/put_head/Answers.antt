use Rattle.std.proofs.Common.{◌++◌, List, ℕ, ap, arith}
use Rattle.std.proofs.lemmas.Result.{IfOk-equal}
use Rattle.aac_adts.proofs.Heads.{head_is}
use Rattle.aac_adts.proofs.frame.put_head.Goals as goal

pub returns-clause-ok : goal.returns-clause-ok
returns-clause-ok c =
    IfOk-equal c.append.result _ _ _ c.append.ensures.ok
    (ap (λ (t : List ℕ). c.args.out.now ++ t) (head_is c.args.asc c.args.len _ c.to_be_bytes.result (rw (← c.asc.view_is) (omega arith)) c.to_be_bytes.ensures))
