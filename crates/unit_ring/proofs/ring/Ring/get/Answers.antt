use Rattle.std.proofs.Common.{arith}
use Rattle.unit_ring.proofs.Dropping.{base_is, slots_are}
use Rattle.unit_ring.proofs.ring.Ring.get.Goals as goal

pub item-requires : goal.item-requires
item-requires c =
    let asked = rw (← c.self.view_is) at c.requires in
    let base = base_is c.self.inside.limits c.self.inside.window c.self.invariant.0 c.self.invariant.1 in
    let count = slots_are c.self.inside.limits c.self.inside.window c.self.invariant.0 in
    (omega arith, omega arith)
