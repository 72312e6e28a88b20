use Rattle.std.proofs.Common.{◌≡◌, length, ap, ◌∙◌, arith}
use Rattle.unit_ring.specs.Marks.{mark_of}
use Rattle.unit_ring.proofs.Dropping.{base_is, slots_are}
use Rattle.unit_ring.proofs.Configs.{mark_is}
use Rattle.unit_ring.proofs.ring.Ring.mark_at.Goals as goal

pub marks-requires : goal.marks-requires
marks-requires c =
    let asked = rw (← c.self.view_is) at c.requires in
    let base = base_is c.self.inside.limits c.self.inside.window c.self.invariant.0 c.self.invariant.1 in
    let count = slots_are c.self.inside.limits c.self.inside.window c.self.invariant.0 in
    let end = c.self.invariant.2.end in
    (omega arith, omega arith)

pub returns-then-n-self : goal.returns-then-n-self
returns-then-n-self c =
    let w = c.self.inside.window in
    rw (← c.self.view_is) (c.of.ensures ∙ ap (mark_of c.args.slot) (c.marks.ensures c.self.inside.limits c.self.invariant.0) ∙ mark_is c.args.slot w.items c.args.n)

pub returns-else-n-self : goal.returns-else-n-self
returns-else-n-self c =
    let w = c.self.inside.window in
    let asked = rw (← c.self.view_is) at c.requires in
    let end = c.self.invariant.2.end in
    let at : length w.items ≡ c.args.n = omega arith in
    rw (← c.self.view_is) (c.of-else-n-self.ensures ∙ ap (mark_of c.args.slot) c.self.invariant.2.marks ∙ rw at (mark_is c.args.slot w.items c.args.n))
