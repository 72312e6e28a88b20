-- The words of the command line
use Rattle.std.specs.Prelude.{ℕ, Bool, false, List, [], ◌∷◌, codes, nat_eq}
use Rattle.std.specs.Cmp.Lexicographic.{pointwise}

-- the words that ask for a server: `serve` and one more, the name of a file
abbrev pub is_serve : List (List ℕ) → Bool
is_serve [] = false
is_serve (word ∷ []) = false
is_serve (word ∷ file ∷ []) = pointwise nat_eq word (codes "serve")
is_serve (word ∷ file ∷ other ∷ words) = false
