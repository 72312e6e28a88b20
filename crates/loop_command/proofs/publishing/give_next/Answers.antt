use Rattle.std.proofs.Common.{◌∙◌, sym}
use Rattle.loop_command.specs.declared.rounds.Stage.TheVariants.{Done, Finishing}
use Rattle.loop_command.proofs.Running.{given_late, given_none, given_where}
use Rattle.loop_command.proofs.publishing.give_next.Goals as goal

pub give_one-requires-clause-can : goal.give_one-requires-clause-can
give_one-requires-clause-can c = sym c.can_give.ensures ∙ c.if-can_give.true

pub returns-then-can_give-clause-goes : goal.returns-then-can_give-clause-goes
returns-then-can_give-clause-goes c = λ file old now h.
    given_where c.give_one.result file old now c.args.run.now c.give_one.new.run c.in-Giving.is (sym c.can_give.ensures ∙ c.if-can_give.true)
    (c.give_one.ensures.goes file old now h)

pub returns-else-can_give-clause-goes : goal.returns-else-can_give-clause-goes
returns-else-can_give-clause-goes c = λ file old now h. record { is_run = h; made = given_none c.args.run.now (sym c.can_give.ensures ∙ c.if-can_give.false) }

pub returns-in-Finishing-clause-goes : goal.returns-in-Finishing-clause-goes
returns-in-Finishing-clause-goes c = λ file old now h. record { is_run = h; made = given_late Finishing c.args.run.now c.in-Finishing.is (λ e. cc) }

pub returns-in-Done-clause-goes : goal.returns-in-Done-clause-goes
returns-in-Done-clause-goes c = λ file old now h. record { is_run = h; made = given_late Done c.args.run.now c.in-Done.is (λ e. cc) }
