use Rattle.std.proofs.Common.{arith}
use Rattle.unit_ring.proofs.Dropping.{base_is, costs_are}
use Rattle.unit_ring.proofs.Configs.{kept_sum_is}
use Rattle.unit_ring.proofs.ring.Ring.held.Goals as goal

pub held-requires : goal.held-requires
held-requires c =
    let w = c.self.inside.window in
    let costs = costs_are c.self.inside.limits w c.self.invariant.0 in
    let count = c.self.invariant.0.count in
    let few = c.self.invariant.0.few in
    (omega arith, omega arith)

pub returns-clause-sum : goal.returns-clause-sum
returns-clause-sum c =
    let w = c.self.inside.window in
    let costs = costs_are c.self.inside.limits w c.self.invariant.0 in
    let base = base_is c.self.inside.limits w c.self.invariant.0 c.self.invariant.1 in
    let kept = kept_sum_is w.items w.base w.kept c.self.invariant.0.kept in
    rw (← c.self.view_is, ← base) (omega arith)

pub returns-clause-fits : goal.returns-clause-fits
returns-clause-fits c =
    let w = c.self.inside.window in
    let costs = costs_are c.self.inside.limits w c.self.invariant.0 in
    let count = c.self.invariant.0.count in
    let few = c.self.invariant.0.few in
    let small = c.self.invariant.0.kept.small in
    omega arith
