-- The words of the command line
use Rattle.std.specs.Prelude.{ℕ, ◌&&◌, if◌then◌else◌, List, [], ◌∷◌, codes, Option, Some, None}
use Rattle.relay_script.specs.Lines.{count_of, is_text}
use Rattle.stream_model.specs.Names.{is_name}

-- what is asked for: the name of the files, and the least span of a segment in milliseconds
pub record Asked : Type 0 where
  pub name : List ℕ
  pub least : ℕ

abbrev pub asked : List ℕ → ℕ → Asked
asked name least = record { name = name; least = least }

abbrev pub asked_with : List ℕ → Option ℕ → Option Asked
asked_with name None = None
asked_with name (Some n) = Some (asked name n)

-- `segment NAME T`, where NAME has 1 to 64 letters, digits, `.`, `_` or `-`, and T is a number from 1 to 3,600,000
abbrev pub asked_by : List ℕ → List ℕ → List ℕ → Option Asked
asked_by word name number = if is_text word (codes "segment") && is_name name then asked_with name (count_of 3600001 number) else None

abbrev pub asked_of : List (List ℕ) → Option Asked
asked_of [] = None
asked_of (word ∷ []) = None
asked_of (word ∷ name ∷ []) = None
asked_of (word ∷ name ∷ number ∷ []) = asked_by word name number
asked_of (word ∷ name ∷ number ∷ other ∷ words) = None
