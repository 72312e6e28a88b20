-- The files of segments. Lists of segments, and of their bytes, have the newest first; lists of files have
-- the oldest first.
use Rattle.std.specs.Prelude.{◌≡◌, ◌⊎◌, ℕ, List, [], ◌∷◌, ◌++◌, length, Option, Some}
use Rattle.relay_outside.specs.Counts.{Rose}
use Rattle.relay_outside.specs.Houses.{KeptFile}
use Rattle.hls_segments.specs.Cuts.{Segment}
use Rattle.hls_segments.specs.Playlist.{file_name}

-- the bytes of segments
abbrev pub texts : List Segment → List (List ℕ)
texts [] = []
texts (s ∷ earlier) = s.bytes ∷ texts earlier

-- a file without faults
abbrev pub whole_file : List ℕ → List ℕ → KeptFile
whole_file title bytes = record { name = title; bytes = bytes; faults = 0 }

-- THE FILES of segments with these bytes: NAME-0.ts, NAME-1.ts and so on
abbrev pub kept_files : List ℕ → List (List ℕ) → List KeptFile
kept_files name [] = []
kept_files name (bytes ∷ earlier) = kept_files name earlier ++ whole_file (file_name name (length earlier)) bytes ∷ []

-- a list that grew by these at its end, where it is told
abbrev pub Grew : {X : Type 0} → List X → Option (List X) → Option (List X) → Type 0
Grew {X} more before now = (list : List X) → now ≡ Some list → (first : List X) × (before ≡ Some first) × (list ≡ first ++ more)

-- ---- a first part of the files

-- the files of the first segments
pub record GrewByFirst (name : List ℕ) (list : List (List ℕ)) (before now : Option (List KeptFile)) : Type 0 where
  pub newer : List (List ℕ)
  pub whole : List (List ℕ)
  pub list_is : list ≡ newer ++ whole
  pub files : Grew (kept_files name whole) before now

-- and one more, with faults, that has the first bytes of the segment that follows them
pub record GrewByPart (name : List ℕ) (list : List (List ℕ)) (before now : Option (List KeptFile)) : Type 0 where
  pub newer : List (List ℕ)
  pub whole : List (List ℕ)
  pub wrote : List ℕ
  pub left : List ℕ
  pub list_is : list ≡ newer ++ ((wrote ++ left) ∷ whole)
  pub faults : ℕ
  pub faulty : Rose 0 faults
  pub files : Grew (kept_files name whole ++ record { name = file_name name (length whole); bytes = wrote; faults = faults } ∷ []) before now

-- A FIRST PART of the files of segments with these bytes
abbrev pub GrewInPart : List ℕ → List (List ℕ) → Option (List KeptFile) → Option (List KeptFile) → Type 0
GrewInPart name list before now = GrewByFirst name list before now ⊎ GrewByPart name list before now
