-- The words of the command line
use Rattle.std.specs.Prelude.{ℕ, ◌^◌, ◌-◌, ◌&&◌, if◌then◌else◌, List, [], ◌∷◌, codes, Option, Some, None}
use Rattle.relay_script.specs.Lines.{count_of, is_text}
use Rattle.stream_model.specs.Names.{is_name}

-- what is asked for: the name of the files, the target of a segment's span in milliseconds, and how many segments are listed
pub record Asked : Type 0 where
  pub name : List ℕ
  pub target : ℕ
  pub keep : ℕ

abbrev pub asked : List ℕ → ℕ → ℕ → Asked
asked name target keep = record { name = name; target = target; keep = keep }

-- LAST: 0 for all, or a number from 1 to 1,000
abbrev pub all_listed : ℕ
all_listed = 2 ^ 64 - 1

abbrev pub keep_of : List ℕ → Option ℕ
keep_of word = if is_text word (codes "0") then Some all_listed else count_of 1001 word

abbrev pub asked_with : List ℕ → Option ℕ → Option ℕ → Option Asked
asked_with name None keep = None
asked_with name (Some target) None = None
asked_with name (Some target) (Some keep) = Some (asked name target keep)

-- `hls NAME MS LAST`, where NAME has 1 to 64 letters, digits, `.`, `_` or `-`, and MS is a number from 1 to 3,600,000
abbrev pub asked_by : List ℕ → List ℕ → List ℕ → List ℕ → Option Asked
asked_by word name target last =
    if is_text word (codes "hls") && is_name name then asked_with name (count_of 3600001 target) (keep_of last) else None

abbrev pub asked_of : List (List ℕ) → Option Asked
asked_of [] = None
asked_of (word ∷ []) = None
asked_of (word ∷ name ∷ []) = None
asked_of (word ∷ name ∷ target ∷ []) = None
asked_of (word ∷ name ∷ target ∷ last ∷ []) = asked_by word name target last
asked_of (word ∷ name ∷ target ∷ last ∷ other ∷ words) = None
