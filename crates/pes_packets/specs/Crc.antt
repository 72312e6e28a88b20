-- The check of a section (ISO/IEC 13818-1, annex A): a register of 32 bits, into which the bits go with the
-- highest first
use Rattle.std.specs.Prelude.{ℕ, zero, suc, ◌-◌, ◌*◌, ◌^◌, nat_lt, if◌then◌else◌, List, [], ◌∷◌, bit_xor}

-- the polynomial, but for its highest term
abbrev pub polynomial : ℕ
polynomial = 0x04C11DB7

-- the register one bit on: where the bit that leaves it is 1, the polynomial is taken away
unfoldable pub shifted : ℕ → ℕ
shifted r = if nat_lt r (2 ^ 31) then r * 2 else bit_xor (r * 2 - 2 ^ 32) polynomial

-- and so many bits on
unfoldable pub shifted_by : ℕ → ℕ → ℕ
shifted_by zero r = r
shifted_by (suc n) r = shifted_by n (shifted r)

-- the register after bytes
unfoldable pub crc_from : ℕ → List ℕ → ℕ
crc_from r [] = r
crc_from r (b ∷ bs) = crc_from (shifted_by 8 (bit_xor r (b * 2 ^ 24))) bs

-- THE CHECK of bytes: all ones before them, and no change after them
abbrev pub crc_of : List ℕ → ℕ
crc_of b = crc_from 0xFFFFFFFF b
