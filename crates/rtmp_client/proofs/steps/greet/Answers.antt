use Rattle.std.proofs.Common.{ap, arith, subst, sym}
use Rattle.rtmp_client.specs.Owing.{IsSayable, cost_of}
use Rattle.rtmp_client.proofs.Sayable.{connect_cost, connect_sayable}
use Rattle.rtmp_client.proofs.steps.greet.Goals as goal

pub say-requires : goal.say-requires
say-requires c = subst IsSayable (sym c.in_ok-message.ensures) (connect_sayable c.args.asked.now c.requires)

pub returns-clause-light : goal.returns-clause-light
returns-clause-light c =
    omega (arith, c.say_c2.ensures.light, c.say.ensures.light, ap cost_of c.in_ok-message.ensures, connect_cost c.args.asked.now c.requires)
