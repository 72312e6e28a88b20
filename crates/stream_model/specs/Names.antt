-- Which bytes are a name that a caller may give to a broadcast.
use Rattle.std.specs.Prelude.{ℕ, Bool, ◌&&◌, ◌||◌, ◌==◌, nat_le, List, length}
use Rattle.std.specs.List.{list_all}

abbrev pub within : ℕ → ℕ → ℕ → Bool
within least most n = nat_le least n && nat_le n most

-- a letter, a digit, `.`, `_` or `-`
abbrev pub is_name_byte : ℕ → Bool
is_name_byte c = (within 65 90 c || within 97 122 c) || (within 48 57 c || (c == 46 || (c == 95 || c == 45)))

-- 1 to 64 such bytes
abbrev pub is_name : List ℕ → Bool
is_name word = within 1 64 (length word) && list_all is_name_byte word
