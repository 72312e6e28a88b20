-- The size of a window of acknowledgements (RTMP 1.0, 5.4.4): a size below 1,000 counts as 1,000 (own)
use Rattle.std.specs.Prelude.{ℕ, max}

abbrev pub window_of : ℕ → ℕ
window_of size = max 1000 size
