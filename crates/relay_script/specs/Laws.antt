-- The lines of a script, without a word on how they are read.
use Rattle.std.specs.Prelude.{◌≡◌, ◌⊎◌, ℕ, ◌+◌, ◌<◌, min, List, [], ◌∷◌, ◌++◌, length}
use Rattle.relay_script.specs.Script.{NoLineFeed}
use Rattle.relay_script.specs.Script.{Line}

-- no line has an LF in it
abbrev pub EachWithoutFeed : List Line → Type 0
EachWithoutFeed [] = Unit {0}
EachWithoutFeed (line ∷ lines) = NoLineFeed line.text × EachWithoutFeed lines

-- the lines, an LF after each
abbrev pub with_feeds : List Line → List ℕ
with_feeds [] = []
with_feeds (line ∷ lines) = line.text ++ 10 ∷ with_feeds lines

-- the last line isn't empty
pub record EndsWithBytes (lines : List Line) : Type 0 where
  pub front : List Line
  pub last : Line
  pub lines_are : lines ≡ front ++ last ∷ []
  pub some : 0 < length last.text

-- the lines with an LF after each are the script, but that the last LF may lack after a line that isn't empty
pub record AreLines (script : List ℕ) (lines : List Line) : Type 0 where
  pub clean : EachWithoutFeed lines
  pub joined : (with_feeds lines ≡ script) ⊎ ((with_feeds lines ≡ script ++ 10 ∷ []) × EndsWithBytes lines)

-- each line ends, its LF included, after so many of the script's `total` bytes, where the first of the lines
-- begins after `start` of them
abbrev pub EndFrom : ℕ → ℕ → List Line → Type 0
EndFrom total start [] = Unit {0}
EndFrom total start (line ∷ lines) = (line.end ≡ min (start + length line.text + 1) total) × EndFrom total (start + length line.text + 1) lines
