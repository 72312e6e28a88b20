-- The register, bit by bit and byte by byte
use Rattle.std.proofs.Common.{◌≡◌, ℕ, suc, ◌+◌, ◌-◌, ◌*◌, ◌^◌, ◌<◌, ◌≤◌, List, length, get_or, drop, refl, arith, add-one, drop-cons}
use Rattle.std.specs.Prelude.{bit_xor}
use Rattle.std.proofs.lemmas.List.{drop_all}
use Rattle.pes_packets.specs.Crc.{shifted, shifted_by, crc_from}

pub one_bit : (i r : ℕ) → i < 8 → shifted_by (8 - i) r ≡ shifted_by (8 - (i + 1)) (shifted r)
unfolding shifted_by
one_bit i r h = let e : 8 - i ≡ suc (8 - (i + 1)) = omega arith in rw e refl

pub no_bit : (i r : ℕ) → 8 ≤ i → shifted_by (8 - i) r ≡ r
unfolding shifted_by
no_bit i r h = let e : 8 - i ≡ 0 = omega arith in rw e refl

pub one_byte : (i r : ℕ) (b : List ℕ) → i < length b → crc_from r (drop i b) ≡ crc_from (shifted_by 8 (bit_xor r (get_or b i 0 * 2 ^ 24))) (drop (i + 1) b)
unfolding crc_from
one_byte i r b h = rw (add-one, drop-cons b i 0) refl

pub no_byte : (i r : ℕ) (b : List ℕ) → length b ≤ i → crc_from r (drop i b) ≡ r
unfolding crc_from
no_byte i r b h = rw (drop_all i b h) refl
