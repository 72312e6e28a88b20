use Rattle.std.proofs.Common.{◌≤◌, ◌+◌}
use Rattle.stream_core.specs.IsPoolPast.{for_each}
use Rattle.stream_core.proofs.Pools.{all_limits, for_each_is}
use Rattle.stream_core.proofs.pool.Pool.held.Goals as goal

pub held_in-requires-clause-limits : goal.held_in-requires-clause-limits
held_in-requires-clause-limits c = rw c.deref.ensures.value (all_limits c.self.inside.limits c.self.inside.slots.items c.self.inside.tally c.self.inside.past c.self.invariant)

pub returns-clause-most : goal.returns-clause-most
returns-clause-most c =
    let most = c.self.inside.limits.bytes + 196672 in
    let m : c.held_in.result ≤ for_each most c.self.inside.slots.items = rw c.deref.ensures.value at c.held_in.ensures.most in
    rw (← c.self.view_is) (rw (for_each_is most c.self.inside.slots.items) at m)
