use Rattle.unit_ring.proofs.Marking.{newest_push}
use Rattle.unit_ring.proofs.ring.Ring.push.Goals as goal

pub invariant_of-self : goal.invariant_of-self
invariant_of-self c =
    (c.push.ensures.window, c.push.ensures.least, rw (c.push.ensures.items, c.add.ensures) (newest_push c.self.inside.window.items c.self.inside.newest c.args.item c.self.invariant.2))
