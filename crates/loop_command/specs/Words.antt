-- The words of the command line
use Rattle.std.specs.Prelude.{ℕ, Bool, false, List, [], ◌∷◌, codes}
use Rattle.client_owed.specs.News.{is_text}

-- they are `loop`
abbrev pub is_loop : List (List ℕ) → Bool
is_loop [] = false
is_loop (word ∷ []) = is_text word (codes "loop")
is_loop (word ∷ other ∷ words) = false
