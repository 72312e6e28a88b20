use Rattle.std.proofs.Common.{rules}
use Rattle.relay_session.proofs.Living.{before_new}
use Rattle.relay_session.proofs.steps.new_core.Goals as goal

pub returns-clause-stands : goal.returns-clause-stands
returns-clause-stands c = λ desk. before_new desk c.args.who c.args.window c.args.max_message c.new.result c.new-2.result c.new-3.result c.new-4.result c.new-5.result c.new-6.result c.new-7.result c.new-9.result c.new-8.result
    (search rules) c.new-3.ensures c.new-5.ensures c.new-6.ensures c.new-7.ensures c.new-8.ensures c.new-9.ensures
