use Rattle.relay_session.specs.Places.{AskedAlone}
use Rattle.edge_serve.proofs.Turned.{turned}
use Rattle.edge_serve.proofs.driving.turn_once.Goals as goal

pub returns-clause-goes : goal.returns-clause-goes
returns-clause-goes g c = λ k max who place start d.
    let P = g.P.StreamPort in
    let L = g.L.Link in
    let t = c.turn in
    turned (AskedAlone P.fits P.rules P.root P.seen P.count P.wants P.busies P.adds P.kin P.branches) L.hears L.told L.counts
    g.met.L.Link.hears_mean L.says g.met.L.Link.says_mean k max who place start
    c.args.port.now t.new.port t.result c.args.edge.now t.new.self c.args.link.now t.new.link t.ensures.turn t.ensures.ended c.requires.stands
    t.ensures.stands t.ensures.lasts d
