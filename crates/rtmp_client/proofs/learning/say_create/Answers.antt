use Rattle.std.proofs.Common.{ap, arith, subst, sym}
use Rattle.client_owed.specs.Client.{chunk_size, create_stream}
use Rattle.rtmp_client.specs.Owing.{IsSayable, cost_of}
use Rattle.rtmp_client.proofs.Answering.{said_two}
use Rattle.rtmp_client.proofs.Sayable.{create_cost, create_sayable, size_cost, size_sayable}
use Rattle.rtmp_client.proofs.learning.say_create.Goals as goal

pub say-requires : goal.say-requires
say-requires c = subst IsSayable (sym c.in_ok-size.ensures.message) size_sayable

pub say-requires-2 : goal.say-requires-2
say-requires-2 c = subst IsSayable (sym c.in_ok-create.ensures) create_sayable

pub returns-clause-said : goal.returns-clause-said
returns-clause-said c =
    said_two c.args.outgoing.now c.say.new.self c.say-2.new.self chunk_size create_stream c.in_ok-size.size c.in_ok-create.create c.say-2.result
    c.in_ok-size.ensures.message c.in_ok-create.ensures c.in_ok-say.ensures.said c.say-2.ensures.said

pub returns-clause-light : goal.returns-clause-light
returns-clause-light c =
    omega (arith, c.say.ensures.light, c.say-2.ensures.light, ap cost_of c.in_ok-size.ensures.message, ap cost_of c.in_ok-create.ensures, size_cost, create_cost)
