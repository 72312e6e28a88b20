-- Where the multiples of a window stand.
use Rattle.std.proofs.Common.{ℕ, ◌+◌, ◌-◌, ◌%◌, ◌<◌, ◌≡◌, ◌≢◌, arith}

-- the next place is one
pub next_place : (w t : ℕ) → 0 < w → (t + (w - t % w)) % w ≡ 0
next_place w t h = grind arith

-- and none stands before it
pub before_place : (w t k : ℕ) → 0 < w → 0 < k → k < w - t % w → (t + k) % w ≢ 0
before_place w t k h low high = grind arith
