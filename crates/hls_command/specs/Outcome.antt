-- HOW THE COMMAND ENDS
use Rattle.std.specs.Prelude.{◌≡◌, ◌⊎◌, ◌≤◌, ℕ, Bool, true, false, List, ◌++◌, length, reverse, Option, Some, option_map}
use Rattle.std.specs.Io.KnownBytes.{IsAtEnd}
use Rattle.relay_base.specs.declared.limits.Status.{Status}
use Rattle.relay_outside.specs.Counts.{Rose}
use Rattle.flv_tags.specs.declared.tag.Tag.{Tag}
use Rattle.flv_tags.specs.Reads.{IsFile, Reads}
use Rattle.av_unit.specs.declared.item.Item.{Item}
use Rattle.file_commands.specs.Outcome.{most_bytes}
use Rattle.file_commands.specs.Remux.{items}
use Rattle.file_series.specs.Series.{Series}
use Rattle.live_segments.specs.Live.{some_lost}
use Rattle.hls_command.specs.Words.{Asked}
use Rattle.hls_command.specs.Films.{IsFirst, IsRefused}
use Rattle.hls_command.specs.Written.{WritesPart, finished}

-- what is seen of a source and a series: what is left of the one and what the other tells, and their faults
pub record Seen : Type 0 where
  pub left : Option (List ℕ)
  pub told : Option Series
  pub source_faults : ℕ
  pub series_faults : ℕ

abbrev pub seen : Option (List ℕ) → Option Series → ℕ → ℕ → Seen
seen left told source_faults series_faults = record { left = left; told = told; source_faults = source_faults; series_faults = series_faults }

-- these bytes were read, whatever is left of the film
abbrev pub IsReadTo : List ℕ → Seen → Seen → Type 0
IsReadTo read old new = (rest : List ℕ) × (old.left ≡ Some (read ++ rest)) × (new.left ≡ Some rest)

-- the items of a film: a Begin and the units of its tags; the newest first
abbrev pub past_of : List Tag → List Item
past_of tags = reverse (items tags)

-- ALL THAT TAGS GIVE IS WRITTEN
abbrev pub WritesAll : Asked → List Tag → Seen → Seen → Type 0
WritesAll a tags old new = new.told ≡ option_map (finished a (past_of tags)) old.told

-- the whole file was read
pub record IsWhole (a : Asked) (file : List ℕ) (some_out : Bool) (old new : Seen) : Type 0 where
  pub tags : List Tag
  pub within : length file ≤ most_bytes
  pub is_file : IsFile file tags
  pub out_is : some_lost a.target (past_of tags) ≡ some_out
  pub writes : WritesAll a tags old new

abbrev pub IsCode : ℕ → Type 0
IsCode code = (code ≡ 0) ⊎ ((code ≡ 3) ⊎ ((code ≡ 4) ⊎ ((code ≡ 5) ⊎ ((code ≡ 6) ⊎ (code ≡ 8)))))

-- the codes of a part
abbrev pub IsPartCode : ℕ → Type 0
IsPartCode code = (code ≡ 5) ⊎ (code ≡ 6)

-- the codes with which the source's faults may have risen
abbrev pub IsAfterSource : ℕ → Type 0
IsAfterSource code = (code ≡ 3) ⊎ ((code ≡ 5) ⊎ (code ≡ 6))

-- what a status says of the source and the series before and after
pub record Outcome (a : Asked) (old new : Seen) (status : Status) : Type 0 where
  pub read : (status.code ≡ 0) ⊎ (status.code ≡ 8) → IsAtEnd new.left
  pub all : status.code ≡ 0 → (file : List ℕ) → old.left ≡ Some file → IsWhole a file false old new
  pub left_out : status.code ≡ 8 → (file : List ℕ) → old.left ≡ Some file → IsWhole a file true old new
  pub refused : status.code ≡ 4 → (file : List ℕ) → old.left ≡ Some file
      → (tags : List Tag) × IsRefused file status.place tags × WritesAll a tags old new
  pub after_fault : status.code ≡ 3 → (read : List ℕ) → IsReadTo read old new
      → (tags : List Tag) × (rest : List ℕ) × Reads read tags rest × WritesAll a tags old new
  pub part : IsPartCode status.code → (read : List ℕ) → IsReadTo read old new
      → (tags : List Tag) × IsFirst read tags × WritesPart a (past_of tags) old.told new.told
  pub source_fault : status.code ≡ 3 → Rose old.source_faults new.source_faults
  pub series_fault : status.code ≡ 5 → Rose old.series_faults new.series_faults
  pub source : (IsAfterSource status.code → ⊥) → new.source_faults ≡ old.source_faults
  pub series : (status.code ≡ 5 → ⊥) → new.series_faults ≡ old.series_faults
  pub codes : IsCode status.code
  pub place : (status.code ≡ 4 → ⊥) → status.place ≡ 0
