-- The words of the command line.
use Rattle.std.specs.Prelude.{ℕ, Bool, false, List, [], ◌∷◌, codes}
use Rattle.relay_script.specs.Lines.{is_text}

-- the one word is that text
abbrev pub only_word_is : List (List ℕ) → List ℕ → Bool
only_word_is [] text = false
only_word_is (word ∷ []) text = is_text word text
only_word_is (word ∷ other ∷ words) text = false

-- the words that ask for a drill: `drill` alone
abbrev pub is_drill : List (List ℕ) → Bool
is_drill words = only_word_is words (codes "drill")

-- the words that ask for a replay: `replay` alone
abbrev pub is_replay : List (List ℕ) → Bool
is_replay words = only_word_is words (codes "replay")
