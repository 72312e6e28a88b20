use Rattle.std.proofs.Common.{◌-◌, ap, refl, arith}
use Rattle.unit_ring.proofs.Dropping.{dropped, slots_are}
use Rattle.unit_ring.proofs.window.Window.drop_first.Goals as goal

pub overflow_add-self : goal.overflow_add-self
overflow_add-self c = let end = slots_are c.args.limits.now c.args.self.now c.requires.window in omega arith

pub returns-in-Some-clause-window : goal.returns-in-Some-clause-window
returns-in-Some-clause-window c =
    let popped = c.in-Some.ensures in
    dropped c.args.limits.now c.args.self.now _ c.in-Some.first c.requires.window popped.items popped.len popped.capacity refl
    (ap (λ n. c.args.self.now.cost - n) c.cost.ensures.value) refl c.pass.ensures.kept (c.pass.ensures.small c.requires.window.kept.small)
