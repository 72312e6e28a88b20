use Rattle.std.proofs.Common.{sym, ◌∙◌, subst, Option}
use Rattle.ack_window.specs.declared.control.Control.{Control}
use Rattle.client_owed.specs.Client.{pongs}
use Rattle.rtmp_client.specs.Owing.{Says}
use Rattle.rtmp_client.proofs.Pending.{says_nothing}
use Rattle.rtmp_client.proofs.answers.answer_control.Goals as goal

pub returns-in-None-clause-said : goal.returns-in-None-clause-said
returns-in-None-clause-said c =
    let S : Option Control → Type 0 = λ o. Says c.args.outgoing.now (pongs o) c.args.outgoing.now in
    subst S (sym c.in-None.is ∙ c.ping_answer.ensures) (says_nothing c.args.outgoing.now)
