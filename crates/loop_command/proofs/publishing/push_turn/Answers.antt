use Rattle.std.proofs.Common.{ap, refl}
use Rattle.loop_command.specs.Course.{Pushed, PushesWhere, is_done}
use Rattle.loop_command.specs.Rounds.{Goes}
use Rattle.loop_command.specs.declared.rounds.Stage.TheVariants.{Finishing, Giving}
use Rattle.loop_command.proofs.Rounding.{step_then}
use Rattle.loop_command.proofs.Running.{push_done, push_where}
use Rattle.loop_command.proofs.publishing.push_turn.Goals as goal

pub returns-in-Done-clause-goes : goal.returns-in-Done-clause-goes
returns-in-Done-clause-goes c = λ file old now h. record { is_run = h; made = push_done c.args.run.now c.in-Done.is }

pub push_once-requires-clause-lives : goal.push_once-requires-clause-lives
push_once-requires-clause-lives c = ap is_done c.in-Finishing.is

pub push_once-requires-in-Giving-clause-lives : goal.push_once-requires-in-Giving-clause-lives
push_once-requires-in-Giving-clause-lives c = ap is_done c.in-Giving.is

pub returns-in-Finishing-clause-goes : goal.returns-in-Finishing-clause-goes
returns-in-Finishing-clause-goes c = λ file old now h.
    let r = c.args.run.now in
    let s = c.push_once.new.run in
    step_then c.push_once.result (Goes file s old now (Pushed r s)) (Goes file s old now (PushesWhere r.stage r s)) ⊥ ⊥
    (λ x. record { is_run = x.is_run; made = push_where Finishing r s refl c.in-Finishing.is x.made }) (λ x. x) (c.push_once.ensures.goes file old now h)

pub returns-in-Giving-clause-goes : goal.returns-in-Giving-clause-goes
returns-in-Giving-clause-goes c = λ file old now h.
    let r = c.args.run.now in
    let s = c.push_once-in-Giving.new.run in
    step_then c.push_once-in-Giving.result (Goes file s old now (Pushed r s)) (Goes file s old now (PushesWhere r.stage r s)) ⊥ ⊥
    (λ x. record { is_run = x.is_run; made = push_where Giving r s refl c.in-Giving.is x.made }) (λ x. x) (c.push_once-in-Giving.ensures.goes file old now h)
