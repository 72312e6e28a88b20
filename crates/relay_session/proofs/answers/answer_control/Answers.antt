use Rattle.std.proofs.Common.{sym, ◌∙◌, subst, Option}
use Rattle.ack_window.specs.declared.control.Control.{Control}
use Rattle.relay_session.specs.Owing.{Says}
use Rattle.relay_session.specs.Session.{pongs}
use Rattle.relay_session.proofs.Answering.{says_none}
use Rattle.relay_session.proofs.answers.answer_control.Goals as goal

pub returns-in-None-clause-said : goal.returns-in-None-clause-said
returns-in-None-clause-said c =
    let S : Option Control → Type 0 = λ o. Says c.args.outgoing.now (pongs o) c.args.outgoing.now in
    subst S (sym c.in-None.is ∙ c.ping_answer.ensures) (says_none c.args.outgoing.now)
