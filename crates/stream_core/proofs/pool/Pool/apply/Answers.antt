use Rattle.std.proofs.Common.{◌∙◌}
use Rattle.stream_core.specs.Alone.{DependsOnItsOwnSlot}
use Rattle.stream_core.proofs.Taking.{if_ok_more}
use Rattle.stream_core.proofs.pool.Pool.apply.Goals as goal

pub returns-clause-alone : goal.returns-clause-alone
returns-clause-alone c =
    let k = c.args.self.now in
    if_ok_more c.answer-reply.result _ (DependsOnItsOwnSlot k c.args.entry)
    (λ r is i player want other call slot items spell holder. is.0 ∙ c.takes_alone_at_pools.ensures k.limits k.slots k.past c.history_law.ensures.rules c.args.entry i player want other call slot items spell holder)
    c.answer-reply.ensures.ok
