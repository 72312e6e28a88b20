-- The lines of a script, and where they end.
use Rattle.std.specs.Prelude.{◌≡◌, ℕ, ◌+◌, ◌^◌, if◌then◌else◌, ◌==◌, nat_le, false, List, [], ◌∷◌, ◌++◌, None}
use Rattle.std.specs.declared.option.Option.{Option}

-- bytes without an LF
abbrev pub NoLineFeed : List ℕ → Type 0
NoLineFeed [] = Unit {0}
NoLineFeed (c ∷ cs) = ((c == 10) ≡ false) × NoLineFeed cs

-- a line without its LF, and the number of the script's bytes up to its end, its LF included
pub record Line : Type 0 where
  pub text : List ℕ
  pub end : ℕ

abbrev pub line_at : List ℕ → ℕ → Line
line_at text end = record { text = text; end = end }

-- what stands after the last LF is a line where it isn't empty
abbrev pub last_line : ℕ → List ℕ → List Line
last_line place [] = []
last_line place (c ∷ cs) = line_at (c ∷ cs) place ∷ []

-- the lines of the bytes that come after the first `place` bytes of a script, of which `line` stands
-- after the last LF
abbrev pub lines_from : ℕ → List ℕ → List ℕ → List Line
lines_from place line [] = last_line place line
lines_from place line (c ∷ cs) =
    if c == 10 then line_at line (place + 1) ∷ lines_from (place + 1) [] cs else lines_from (place + 1) (line ++ c ∷ []) cs

abbrev pub lines : List ℕ → List Line
lines script = lines_from 0 [] script

-- what a line of a script says, by what its text means: one that contains a byte past the first 2^28 is
-- outside the grammar
abbrev pub line_says : {L : Type 0} → (List ℕ → Option L) → Line → Option L
line_says meaning line = if nat_le line.end (2 ^ 28) then meaning line.text else None
