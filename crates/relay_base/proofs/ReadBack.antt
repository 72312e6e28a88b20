-- A number is read of its bytes, whatever follows them
use Rattle.std.proofs.Common.{◌≡◌, ℕ, ◌<◌, ◌^◌, List, ◌++◌, arith}
use Rattle.std.specs.Int.{bytes_high_first, bytes_low_first}
use Rattle.byteorder.specs.Numbers.{big_number-reads_back, little_number-reads_back}
use Rattle.relay_base.specs.Numbers.{be16_of, be24_of, be32_of, le32_of}

pub be16_of-bytes : (n : ℕ) (rest : List ℕ) → n < 2 ^ 16 → be16_of (bytes_high_first 2 n ++ rest) ≡ n
unfolding be16_of
be16_of-bytes n rest h = omega (arith, big_number-reads_back 2 n rest h)

pub be24_of-bytes : (n : ℕ) (rest : List ℕ) → n < 2 ^ 24 → be24_of (bytes_high_first 3 n ++ rest) ≡ n
unfolding be24_of
be24_of-bytes n rest h = omega (arith, big_number-reads_back 3 n rest h)

pub be32_of-bytes : (n : ℕ) (rest : List ℕ) → n < 2 ^ 32 → be32_of (bytes_high_first 4 n ++ rest) ≡ n
unfolding be32_of
be32_of-bytes n rest h = omega (arith, big_number-reads_back 4 n rest h)

pub le32_of-bytes : (n : ℕ) (rest : List ℕ) → n < 2 ^ 32 → le32_of (bytes_low_first 0 4 n ++ rest) ≡ n
unfolding le32_of
le32_of-bytes n rest h = omega (arith, little_number-reads_back 4 n rest h)
