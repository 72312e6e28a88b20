use Rattle.std.proofs.Common.{List, sym, ap, ◌∙◌, subst}
use Rattle.chunk_wire.specs.declared.message.Message.{Message}
use Rattle.rtmp_client.specs.Learning.{said_between}
use Rattle.rtmp_client.specs.Owing.{Says}
use Rattle.rtmp_client.proofs.Answering.{between}
use Rattle.rtmp_client.proofs.learning.learn.Goals as goal

pub returns-clause-said : goal.returns-clause-said
returns-clause-said c =
    let k = c.args.asked.now in
    let p = c.args.phase.now in
    subst (λ (l : List Message). Says c.args.outgoing.now l c.say_due.new.outgoing) (sym (c.due_between.ensures k) ∙ ap (said_between k p) c.next_phase-next.ensures ∙ between k p c.args.news.now) c.in_ok-say_due.ensures.said
