use Rattle.rtmp_client.specs.Turns.{EndedBy}
use Rattle.client_command.proofs.Telling.{live_turned}
use Rattle.client_command.proofs.Turns.{turned}
use Rattle.client_command.proofs.turning.turn_once.Goals as goal

pub returns-clause-live : goal.returns-clause-live
returns-clause-live g c =
    let L = g.L.Link in
    let t = c.turn in
    live_turned (EndedBy L.hears L.says) t.result c.args.client.now t.new.self c.args.link.now t.new.link t.ensures.turn t.ensures.stands t.ensures.lasts t.ensures.input c.requires.live

pub returns-clause-goes : goal.returns-clause-goes
returns-clause-goes g c = λ k start n r.
    let L = g.L.Link in
    let t = c.turn in
    turned L.hears L.told L.counts g.met.L.Link.hears_mean L.says g.met.L.Link.says_mean t.result k c.args.client.now t.new.self start c.args.link.now t.new.link n t.ensures.turn
    t.ensures.stands t.ensures.lasts t.ensures.input r
