use Rattle.client_command.proofs.Pushed.{none_long, open_turned, turn_goes, turn_stops}
use Rattle.client_command.proofs.pushing.step.Goals as goal

pub returns-in-Ended-clause-goes : goal.returns-in-Ended-clause-goes
returns-in-Ended-clause-goes g c = λ k old v.
    let L = g.L.Link in
    let t = c.turn_once.new in
    turn_stops k c.args.client.now t.client c.args.film.now old (L.told c.args.link.now) (L.told t.link) (L.counts c.args.link.now) (L.counts t.link)
    (g.S.Source.left c.args.input.now) (g.S.Source.faults c.args.input.now) c.requires.may c.requires.reading v (c.in-Ended.ensures.goes k old.told old.counts v.runs)

pub returns-in-Moved-clause-may : goal.returns-in-Moved-clause-may
returns-in-Moved-clause-may g c = (open_turned c.args.client.now c.turn_once.new.client c.turn_once.ensures.lasts c.in-Moved.ensures.live c.requires.may, c.requires.reading)

pub returns-in-Moved-clause-goes : goal.returns-in-Moved-clause-goes
returns-in-Moved-clause-goes g c = λ k old v.
    let L = g.L.Link in
    let t = c.turn_once.new in
    turn_goes k c.args.client.now t.client c.args.film.now old (L.told c.args.link.now) (L.told t.link) (L.counts c.args.link.now) (L.counts t.link)
    (g.S.Source.left c.args.input.now) (g.S.Source.faults c.args.input.now) v c.turn_once.ensures.lasts (c.in-Moved.ensures.goes k old.told old.counts v.runs)

pub give_next-requires-clause-may : goal.give_next-requires-clause-may
give_next-requires-clause-may g c = open_turned c.args.client.now c.turn_once.new.client c.turn_once.ensures.lasts c.in-Idle.ensures.live c.requires.may

pub give_next-requires-clause-nothing : goal.give_next-requires-clause-nothing
give_next-requires-clause-nothing g c = none_long c.turn_once.new.client.parts.outgoing.pending c.pending.result c.pending.ensures c.if-pending-eq0.true

pub returns-then-pending-eq0-clause-goes : goal.returns-then-pending-eq0-clause-goes
returns-then-pending-eq0-clause-goes g c = λ k old v.
    let L = g.L.Link in
    let t = c.turn_once.new in
    c.give_next.ensures.goes k old (L.told t.link) (L.counts t.link)
    (turn_goes k c.args.client.now t.client c.args.film.now old (L.told c.args.link.now) (L.told t.link) (L.counts c.args.link.now) (L.counts t.link)
    (g.S.Source.left c.args.input.now) (g.S.Source.faults c.args.input.now) v c.turn_once.ensures.lasts (c.in-Idle.ensures.goes k old.told old.counts v.runs))

pub returns-else-started-clause-may : goal.returns-else-started-clause-may
returns-else-started-clause-may g c = (open_turned c.args.client.now c.turn_once.new.client c.turn_once.ensures.lasts c.in-Idle.ensures.live c.requires.may, c.requires.reading)

pub returns-else-started-clause-goes : goal.returns-else-started-clause-goes
returns-else-started-clause-goes g c = λ k old v.
    let L = g.L.Link in
    let t = c.turn_once.new in
    turn_goes k c.args.client.now t.client c.args.film.now old (L.told c.args.link.now) (L.told t.link) (L.counts c.args.link.now) (L.counts t.link)
    (g.S.Source.left c.args.input.now) (g.S.Source.faults c.args.input.now) v c.turn_once.ensures.lasts (c.in-Idle.ensures.goes k old.told old.counts v.runs)
