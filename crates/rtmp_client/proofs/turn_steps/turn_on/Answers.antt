use Rattle.rtmp_client.proofs.Ending.{made_left}
use Rattle.rtmp_client.proofs.Turned.{again}
use Rattle.rtmp_client.proofs.turn_steps.turn_on.Goals as goal

pub returns-in-Some-clause-turn : goal.returns-in-Some-clause-turn
returns-in-Some-clause-turn g c = let L = g.L.Link in again L.hears L.says c.args.core.now c.args.input.now c.args.ended.now c.in-Some.field-0 c.args.link.now c.in-Some.is

pub returns-in-Err-clause-turn : goal.returns-in-Err-clause-turn
returns-in-Err-clause-turn g c =
    let L = g.L.Link in
    let t = c.send_on in
    made_left L.hears L.says c.in-Err.end t.new.core t.new.input c.clear.new.self c.args.core.now c.args.input.now c.args.ended.now c.args.link.now t.new.link c.in-None.is c.in-Err.ensures.turn
