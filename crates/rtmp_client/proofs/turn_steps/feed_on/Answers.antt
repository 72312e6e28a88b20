use Rattle.std.proofs.Common.{refl, subst}
use Rattle.rtmp_client.specs.Feeding.{Hears}
use Rattle.rtmp_client.specs.Turns.{Loudly, Stopping}
use Rattle.rtmp_client.proofs.Turning.{hungry_open, living_fed, stands_by_sound}
use Rattle.rtmp_client.proofs.turn_steps.feed_on.Goals as goal

pub returns-in-Ok-true-clause-lives : goal.returns-in-Ok-true-clause-lives
returns-in-Ok-true-clause-lives c =
    let e = c.in-Ok-true.ensures in
    living_fed c.args.core.now c.feed.new.core c.in-Ok-true.field-0 c.requires.living (hungry_open c.args.core.now c.requires.hungry) e.sound e.apart e.fixed e.light e.heard e.gift

pub returns-in-Ok-true-clause-turn : goal.returns-in-Ok-true-clause-turn
returns-in-Ok-true-clause-turn c =
    let e = c.in-Ok-true.ensures in
    (Loudly, (e.fed, subst (Hears c.args.core.now c.feed.new.core) c.in-Ok-true.field-0-test e.heard, e.grows c.in-Ok-true.field-0-test, refl, stands_by_sound c.feed.new.core e.sound))

pub returns-in-Err-clause-turn : goal.returns-in-Err-clause-turn
returns-in-Err-clause-turn c = (Stopping c.in-Err.end, (c.in-Err.ensures.stopped, refl))
