-- What is written, and what is reported of a stream
use Rattle.std.specs.Prelude.{◌≡◌, ℕ, ◌+◌, List, [], ◌∷◌, ◌++◌, codes, Option, Some, None}
use Rattle.std.specs.Fmt.{decimal}
use Rattle.std.specs.Io.KnownBytes.{append_known}

-- how many calls of a stream were answered so
pub record Counted : Type 0 where
  pub began : ℕ
  pub pushed : ℕ
  pub ended : ℕ
  pub joined : ℕ
  pub skips : ℕ

abbrev pub counts_line : ℕ → ℕ → ℕ → ℕ → ℕ → List ℕ
counts_line began pushed ended joined skips = codes " began " ++ decimal began ++ codes " pushed " ++ decimal pushed ++ codes " ended " ++ decimal ended
    ++ codes " joined " ++ decimal joined ++ codes " skips " ++ decimal skips ++ codes "\n"

-- of a stream whose history is full there are none
abbrev pub told_line : Option Counted → List ℕ
told_line None = codes " worn\n"
told_line (Some c) = counts_line c.began c.pushed c.ended c.joined c.skips

-- THE LINE of a stream or of an open table: its word and its number, and what is told of it
abbrev pub place_line : List ℕ → ℕ → Option Counted → List ℕ
place_line word n c = word ++ decimal n ++ told_line c

-- those that are numbered from n on
abbrev pub lines_from : List ℕ → ℕ → List (Option Counted) → List ℕ
lines_from word n [] = []
lines_from word n (c ∷ cs) = place_line word n c ++ lines_from word (n + 1) cs
