use Rattle.std.proofs.Common.{sym, ◌∙◌, subst, arith}
use Rattle.relay_session.proofs.Costs.{reply_most}
use Rattle.command_dialog.proofs.Said.{told_said}
use Rattle.relay_session.specs.Owing.{AreWritable}
use Rattle.relay_session.proofs.Answering.{all_can}
use Rattle.relay_session.proofs.answers.hear.Goals as goal

pub say_all-requires : goal.say_all-requires
say_all-requires c = subst AreWritable (sym (c.as_slice.ensures ∙ c.in-Ok.ensures.says)) (all_can _ (told_said c.args.dialog.now c.args.reply.now))

pub returns-in-Ok-clause-light : goal.returns-in-Ok-clause-light
returns-in-Ok-clause-light c = omega (arith, c.say_all.ensures.light, reply_most c.args.dialog.now c.args.reply.now _ (c.as_slice.ensures ∙ c.in-Ok.ensures.says))
