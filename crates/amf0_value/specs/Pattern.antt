-- Whole numbers as the 64 bits of IEEE 754's binary64: a number of AMF0 has these bits (Adobe's AMF0
-- specification, section 2.2).
use Rattle.std.specs.Prelude.{◌≡◌, ℕ, ◌+◌, ◌-◌, ◌*◌, ◌^◌, ◌<◌, ◌≤◌, ◌⊎◌, ◌==◌, if◌then◌else◌}
use Rattle.std.specs.Int.Count.{count_leading_zeros}

-- n is a power of two, 2 ^ e, and what is above it: e stands in the exponent, and the rest in the fraction
pub record IsScaled (n bits : ℕ) : Type 0 where
  pub e : ℕ
  pub low : 2 ^ e ≤ n
  pub high : n < 2 ^ (e + 1)
  pub bits_are : bits ≡ (1023 + e) * 2 ^ 52 + (n - 2 ^ e) * 2 ^ (52 - e)

abbrev pub IsPattern : ℕ → ℕ → Type 0
IsPattern n bits = ((n ≡ 0) × (bits ≡ 0)) ⊎ IsScaled n bits

-- the e of a number below 2 ^ 64
abbrev pub power : ℕ → ℕ
power n = 63 - count_leading_zeros 64 n

-- the pattern, computed
unfoldable pub pattern : ℕ → ℕ
pattern n = if n == 0 then 0 else (1023 + power n) * 2 ^ 52 + (n - 2 ^ power n) * 2 ^ (52 - power n)
