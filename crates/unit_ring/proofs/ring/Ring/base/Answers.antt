use Rattle.unit_ring.proofs.Dropping.{base_is}
use Rattle.unit_ring.proofs.ring.Ring.base.Goals as goal

pub returns : goal.returns
returns c = rw (← c.self.view_is) (base_is c.self.inside.limits c.self.inside.window c.self.invariant.0 c.self.invariant.1)
