use Rattle.std.proofs.Common.{ap, arith, subst, sym}
use Rattle.rtmp_client.specs.Owing.{IsSayable, cost_of}
use Rattle.rtmp_client.proofs.Sayable.{ask_cost, ask_sayable}
use Rattle.rtmp_client.proofs.learning.say_ask.Goals as goal

pub say-requires : goal.say-requires
say-requires c = subst IsSayable (sym c.in_ok-message.ensures) (ask_sayable c.args.asked.now c.args.id c.requires)

pub returns-clause-light : goal.returns-clause-light
returns-clause-light c = omega (arith, c.say.ensures.light, ap cost_of c.in_ok-message.ensures, ask_cost c.args.asked.now c.args.id c.requires)
