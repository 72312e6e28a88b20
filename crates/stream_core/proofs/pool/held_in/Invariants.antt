use Rattle.std.proofs.Common.{◌≡◌, ◌≤◌, ◌+◌, ◌*◌, ◌^◌, length}
use Rattle.stream_model.specs.Pool.{held_in}
use Rattle.stream_core.specs.IsPoolPast.{HaveLimits, for_each}
use Rattle.stream_core.proofs.pool.held_in.Given as goal

abbrev pub invariant-loop-left : goal.invariant-loop-left
invariant-loop-left l = record {
  sum : l.sum + held_in l.left ≡ held_in l.slots;
  most : l.sum + for_each (l.limits.bytes + 196672) l.left ≤ for_each (l.limits.bytes + 196672) l.slots;
  fits : l.sum + 2 ^ 56 * length l.left ≤ 2 ^ 56 * length l.slots;
  limits : HaveLimits l.limits l.left;
}

abbrev pub decreases-loop-left : goal.decreases-loop-left
decreases-loop-left l = length l.left
