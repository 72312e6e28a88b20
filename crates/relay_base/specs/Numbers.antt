-- Numbers in the first bytes of a list
use Rattle.std.specs.Prelude.{ℕ, ◌+◌, ◌*◌, List, slice_index}

-- two bytes, the highest first
unfoldable pub be16_of : List ℕ → ℕ
be16_of b = slice_index b 0 * 256 + slice_index b 1

-- three bytes, the highest first
unfoldable pub be24_of : List ℕ → ℕ
be24_of b = slice_index b 0 * 65536 + slice_index b 1 * 256 + slice_index b 2

-- four bytes, the highest first
unfoldable pub be32_of : List ℕ → ℕ
be32_of b = slice_index b 0 * 16777216 + slice_index b 1 * 65536 + slice_index b 2 * 256 + slice_index b 3

-- four bytes, the lowest first
unfoldable pub le32_of : List ℕ → ℕ
le32_of b = slice_index b 0 + slice_index b 1 * 256 + slice_index b 2 * 65536 + slice_index b 3 * 16777216
