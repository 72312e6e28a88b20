use Rattle.std.proofs.Common.{List, sym, ap, ◌∙◌, subst, arith}
use Rattle.relay_session.proofs.Costs.{meant_cost}
use Rattle.chunk_wire.specs.declared.message.Message.{Message}
use Rattle.command_dialog.specs.State.{Step}
use Rattle.command_dialog.specs.Meaning.{meaning}
use Rattle.command_dialog.proofs.Said.{says_said}
use Rattle.relay_session.specs.Owing.{AreWritable, Says}
use Rattle.relay_session.proofs.Answering.{all_can, does_is, end_by}
use Rattle.relay_session.proofs.answers.answer_command.Goals as goal

pub returns-in-Err-clause-err : goal.returns-in-Err-clause-err
returns-in-Err-clause-err g c = end_by c.args.last (meaning c.args.dialog.now c.args.message) c.in-Err.fail c.end_of.result c.end_of.ensures c.in-Err.ensures

pub say_all-requires : goal.say_all-requires
say_all-requires g c = subst AreWritable (sym (c.as_slice.ensures ∙ c.in-Ok-step.ensures.says)) (all_can _ (says_said c.args.dialog.now c.granted-grant.result c.in-Ok.meant))

pub returns-in-Ok-say_all-clause-state : goal.returns-in-Ok-say_all-clause-state
returns-in-Ok-say_all-clause-state g c =
    c.in-Ok-step.ensures.state
    ∙ sym (ap (λ (t : Step). t.state) (does_is (g.D.Desk.grants c.args.desk.now) c.args.dialog.now c.args.message c.in-Ok.meant c.granted-grant.result c.in-Ok.ensures c.granted-grant.ensures))

pub returns-in-Ok-say_all-clause-said : goal.returns-in-Ok-say_all-clause-said
returns-in-Ok-say_all-clause-said g c =
    let S : List Message → Type 0 = λ l. Says c.args.outgoing.now l c.say_all.new.self in
    subst S (c.as_slice.ensures ∙ c.in-Ok-step.ensures.says
    ∙ sym (ap (λ (t : Step). t.says) (does_is (g.D.Desk.grants c.args.desk.now) c.args.dialog.now c.args.message c.in-Ok.meant c.granted-grant.result c.in-Ok.ensures c.granted-grant.ensures)))
    c.in-Ok-say_all.ensures.said

pub returns-in-Ok-say_all-clause-makes : goal.returns-in-Ok-say_all-clause-makes
returns-in-Ok-say_all-clause-makes g c =
    c.in-Ok-step.ensures.makes
    ∙ sym (ap (λ (t : Step). t.makes) (does_is (g.D.Desk.grants c.args.desk.now) c.args.dialog.now c.args.message c.in-Ok.meant c.granted-grant.result c.in-Ok.ensures c.granted-grant.ensures))

pub returns-in-Ok-say_all-clause-light : goal.returns-in-Ok-say_all-clause-light
returns-in-Ok-say_all-clause-light g c = omega (arith, c.say_all.ensures.light, meant_cost c.args.dialog.now c.granted-grant.result c.in-Ok.meant _ (c.as_slice.ensures ∙ c.in-Ok-step.ensures.says))

pub returns-in-Err-say_all-clause-light : goal.returns-in-Err-say_all-clause-light
returns-in-Err-say_all-clause-light g c = omega (arith, c.say_all.ensures.light, meant_cost c.args.dialog.now c.granted-grant.result c.in-Ok.meant _ (c.as_slice.ensures ∙ c.in-Ok-step.ensures.says))
