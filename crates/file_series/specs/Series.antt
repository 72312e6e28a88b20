-- What a series of files tells, and what its calls do. Lists of files have the oldest first.
use Rattle.std.specs.Prelude.{◌≡◌, ◌⊎◌, ℕ, List, [], ◌∷◌, ◌++◌, take, map, Option, Some, None, option_to_list}
use Rattle.std.specs.Option.{option_map}
use Rattle.relay_outside.specs.Counts.{Rose}
use Rattle.file_series.specs.declared.series.SeriesFail.{SeriesFail}
use Rattle.file_series.specs.declared.series.SeriesFail.TheVariants.{Failed, OutOfMemory}

-- a file that has ended: its bytes, and the listing that was given as it ended, if one was
pub record Ended : Type 0 where
  pub bytes : List ℕ
  pub listing : Option (List ℕ)

-- the files that have ended, and the bytes of the open one, if there is one
pub record Series : Type 0 where
  pub ended : List Ended
  pub last : Option (List ℕ)

abbrev pub none_yet : Series
none_yet = record { ended = []; last = None }

-- the bytes of all files
abbrev pub all_files : Series → List (List ℕ)
all_files s = map (λ e. e.bytes) s.ended ++ option_to_list s.last

abbrev pub last_bytes : Option (List ℕ) → List ℕ
last_bytes None = []
last_bytes (Some bytes) = bytes

-- with more bytes in the open file
abbrev pub took : List ℕ → Series → Series
took piece s = record { ended = s.ended; last = Some (last_bytes s.last ++ piece) }

abbrev pub ended_with : Option (List ℕ) → List Ended → Option (List ℕ) → List Ended
ended_with listing ended None = ended
ended_with listing ended (Some bytes) = ended ++ record { bytes = bytes; listing = listing } ∷ []

-- with the open file ended, if there is one
abbrev pub after_next : Option (List ℕ) → Series → Series
after_next listing s = record { ended = ended_with listing s.ended s.last; last = None }

-- ---- calls that fail

-- the faults before and now
abbrev pub Cause : SeriesFail → ℕ → ℕ → Type 0
Cause Failed before now = Rose before now
Cause OutOfMemory before now = now ≡ before

-- nothing was done, or some first bytes were added
abbrev pub PutsPart : List ℕ → Option Series → Option Series → Type 0
PutsPart piece before now = (now ≡ before) ⊎ ((n : ℕ) × (now ≡ option_map (took (take n piece)) before))

-- nothing was done, or the file has ended without a listing
abbrev pub NextFails : Option Series → Option Series → Type 0
NextFails before now = (now ≡ before) ⊎ (now ≡ option_map (after_next None) before)
