-- How many bytes a header has
use Rattle.std.proofs.Common.{ℕ, ◌<◌, ◌≤◌, List, arith}
use Rattle.std.proofs.lemmas.Bool.Decides.{nat_tests}
use Rattle.chunk_wire.specs.Layout.{basic_size, head_size}

-- a basic header has a byte
pub basic_size_some : (b : List ℕ) → 0 < basic_size b
unfolding basic_size
basic_size_some b = grind (arith, nat_tests)

-- and three at most
pub basic_size_most : (b : List ℕ) → basic_size b ≤ 3
unfolding basic_size
basic_size_most b = grind (arith, nat_tests)

-- a message header has eleven at most
pub head_size_most : (format : ℕ) → head_size format ≤ 11
unfolding head_size
head_size_most format = grind (arith, nat_tests)
