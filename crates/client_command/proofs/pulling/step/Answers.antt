use Rattle.client_command.proofs.Pulled.{turn_goes, turn_stops}
use Rattle.client_command.proofs.pulling.step.Goals as goal

pub returns-in-Ended-clause-goes : goal.returns-in-Ended-clause-goes
returns-in-Ended-clause-goes g c = λ k old p.
    let L = g.L.Link in
    let t = c.turn_once in
    let turned = c.in-Ended.ensures.goes k old.told old.counts p.runs in
    turn_stops k c.args.client.now t.new.client c.args.begun.now old (L.told c.args.link.now) (L.told t.new.link) (L.counts c.args.link.now) (L.counts t.new.link)
    (g.K.Sink.holds c.args.out.now) (g.K.Sink.faults c.args.out.now) p c.requires.none turned

pub returns-in-Moved-clause-goes : goal.returns-in-Moved-clause-goes
returns-in-Moved-clause-goes g c = λ k old p.
    let L = g.L.Link in
    let t = c.turn_once in
    let turned = c.in-Moved.ensures.goes k old.told old.counts p.runs in
    c.write_next.ensures.goes k old (L.told t.new.link) (L.counts t.new.link)
    (turn_goes k c.args.client.now t.new.client c.args.begun.now old (L.told c.args.link.now) (L.told t.new.link) (L.counts c.args.link.now) (L.counts t.new.link)
    (g.K.Sink.holds c.args.out.now) (g.K.Sink.faults c.args.out.now) p t.ensures.lasts turned)

pub returns-in-Idle-clause-goes : goal.returns-in-Idle-clause-goes
returns-in-Idle-clause-goes g c = λ k old p.
    let L = g.L.Link in
    let t = c.turn_once in
    let turned = c.in-Idle.ensures.goes k old.told old.counts p.runs in
    c.write_next-in-Idle.ensures.goes k old (L.told t.new.link) (L.counts t.new.link)
    (turn_goes k c.args.client.now t.new.client c.args.begun.now old (L.told c.args.link.now) (L.told t.new.link) (L.counts c.args.link.now) (L.counts t.new.link)
    (g.K.Sink.holds c.args.out.now) (g.K.Sink.faults c.args.out.now) p t.ensures.lasts turned)
