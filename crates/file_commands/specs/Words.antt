-- The words of the command line.
use Rattle.std.specs.Prelude.{ℕ, Bool, false, ◌==◌, List, [], ◌∷◌, codes}
use Rattle.std.specs.Cmp.Lexicographic.{pointwise}

-- the one word is that text
abbrev pub only_word_is : List (List ℕ) → List ℕ → Bool
only_word_is [] text = false
only_word_is (word ∷ []) text = pointwise ◌==◌ word text
only_word_is (word ∷ other ∷ words) text = false

-- the words that ask for `remux`: that alone
abbrev pub is_remux : List (List ℕ) → Bool
is_remux words = only_word_is words (codes "remux")

-- and for `check`
abbrev pub is_check : List (List ℕ) → Bool
is_check words = only_word_is words (codes "check")
