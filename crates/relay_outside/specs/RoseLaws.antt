-- Only proofs and private functions use it.
-- Counts that rise more than once.
use Rattle.std.proofs.Common.{ℕ, ◌≤◌, arith}
use Rattle.relay_outside.specs.Counts.{Rose}

-- what rose, and didn't fall after, rose
pub rose_then : (a b c : ℕ) → Rose a b → b ≤ c → Rose a c
rose_then a b c rose later = record { later = omega (arith, rose.later, later); higher = omega (arith, rose.higher, later) }

-- what didn't fall, and rose after, rose
pub rose_after : (a b c : ℕ) → a ≤ b → Rose b c → Rose a c
rose_after a b c later rose = record { later = omega (arith, later, rose.later); higher = omega (arith, later, rose.higher) }
