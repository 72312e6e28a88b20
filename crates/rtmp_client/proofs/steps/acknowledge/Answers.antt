use Rattle.std.proofs.Common.{subst, ℕ, Option}
use Rattle.session_owed.specs.Acks.{ack_messages}
use Rattle.rtmp_client.specs.Owing.{Says}
use Rattle.rtmp_client.proofs.Pending.{says_nothing}
use Rattle.rtmp_client.proofs.steps.acknowledge.Goals as goal

pub returns-in-None-clause-said : goal.returns-in-None-clause-said
returns-in-None-clause-said c =
    let S : Option ℕ → Type 0 = λ o. Says c.args.outgoing.now (ack_messages o) c.args.outgoing.now in
    subst S (c.in-None.ensures.answer) (says_nothing c.args.outgoing.now)
