use Rattle.stream_registry.proofs.place.Place.gather.Goals as goal

pub returns-clause-stays : goal.returns-clause-stays
returns-clause-stays g c = rw (← c.self.view_is, ← c.other.view_is) ((c.join.ensures.same.gate, c.join.ensures.both.0), c.join.ensures.both.1)

pub returns-clause-longer : goal.returns-clause-longer
returns-clause-longer g c = rw (← c.self.view_is, ← c.other.view_is) c.join.ensures.seen

pub returns-clause-mine : goal.returns-clause-mine
returns-clause-mine g c = rw (← c.self.view_is, ← c.other.view_is) c.join.ensures.mine.0

pub returns-clause-whole : goal.returns-clause-whole
returns-clause-whole g c = c.join.ensures.whole

pub returns-clause-own : goal.returns-clause-own
returns-clause-own g c = rw (← c.self.view_is, ← c.other.view_is) (c.seen.ensures.own, c.seen-2.ensures.own)
