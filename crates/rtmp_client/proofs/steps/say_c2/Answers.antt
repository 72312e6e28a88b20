use Rattle.std.proofs.Common.{arith}
use Rattle.rtmp_client.proofs.Sayable.{c2_short}
use Rattle.rtmp_client.proofs.steps.say_c2.Goals as goal

pub returns-clause-light : goal.returns-clause-light
returns-clause-light c =
    omega (
      arith,
      c.in_ok-append.ensures.others,
      c.in_ok-append-2.ensures.others,
      c.in_ok-append-3.ensures.others,
      c2_short c.first.result.now c.after-2.result.now c.first-s1.result.now c.after.result.now c.first.ensures c.first-s1.ensures c.after-2.ensures,
    )
