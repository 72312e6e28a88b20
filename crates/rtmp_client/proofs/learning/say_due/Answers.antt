use Rattle.std.proofs.Common.{List, sym, ap, subst}
use Rattle.chunk_wire.specs.declared.message.Message.{Message}
use Rattle.rtmp_client.specs.Owing.{Says}
use Rattle.rtmp_client.proofs.Pending.{says_nothing}
use Rattle.rtmp_client.specs.Learning.{said_due}
use Rattle.rtmp_client.proofs.learning.say_due.Goals as goal

pub returns-in-Nothing-clause-said : goal.returns-in-Nothing-clause-said
returns-in-Nothing-clause-said c = subst (λ (l : List Message). Says c.args.outgoing.now l c.args.outgoing.now) (ap (said_due c.args.asked.now) (sym c.in-Nothing.is)) (says_nothing c.args.outgoing.now)
