-- HOW THE COMMAND ENDS
use Rattle.std.specs.Prelude.{◌≡◌, ◌⊎◌, ◌≤◌, ℕ, Bool, true, false, List, [], ◌∷◌, ◌++◌, length, reverse, Some}
use Rattle.std.specs.Io.KnownBytes.{append_known, IsAtEnd}
use Rattle.relay_base.specs.declared.limits.Status.{Status}
use Rattle.relay_outside.specs.Counts.{Rose}
use Rattle.relay_outside.specs.Houses.{HouseTold}
use Rattle.flv_tags.specs.declared.tag.Tag.{Tag}
use Rattle.flv_tags.specs.Reads.{IsFile, Reads}
use Rattle.av_unit.specs.declared.item.Item.{Item}
use Rattle.file_commands.specs.Outcome.{IsReadTo, Seen, most_bytes}
use Rattle.put_text.specs.Written.{WritesPart}
use Rattle.file_commands.specs.Remux.{items, items_of}
use Rattle.hls_segments.specs.Cuts.{Segment, is_too_many, segments, some_left_out}
use Rattle.hls_segments.specs.Playlist.{playlist}
use Rattle.segment_command.specs.Words.{Asked}
use Rattle.segment_command.specs.Files.{Grew, GrewInPart, kept_files, texts}
use Rattle.segment_command.specs.Films.{IsFirst, IsRefused}

-- the items of a film: a Begin and the units of its tags; the newest first
abbrev pub past_of : List Tag → List Item
past_of tags = reverse (items tags)

-- THE SEGMENTS OF A FILM
abbrev pub film : Asked → List Tag → List Segment
film a tags = segments a.least (past_of tags)

-- ALL THAT TAGS GIVE IS WRITTEN: a file for each segment, in order, and the playlist
pub record WritesAll (a : Asked) (tags : List Tag) (old new : Seen) (house house' : HouseTold) : Type 0 where
  pub files : Grew (kept_files a.name (texts (film a tags))) house.kept house'.kept
  pub list : new.held ≡ append_known old.held (playlist a.name (film a tags))

-- A FIRST PART IS WRITTEN: of the files and nothing of the playlist, or all files and a first part of the playlist
abbrev pub WritesFirst : Asked → List Tag → Seen → Seen → HouseTold → HouseTold → Type 0
WritesFirst a tags old new house house' =
    (GrewInPart a.name (texts (film a tags)) house.kept house'.kept × (new.held ≡ old.held))
    ⊎ (Grew (kept_files a.name (texts (film a tags))) house.kept house'.kept × WritesPart (playlist a.name (film a tags)) old.held new.held)

-- the first tags of a file, and one more whose unit would begin a segment more than there may be
pub record IsTooMany (least : ℕ) (file : List ℕ) (tags : List Tag) : Type 0 where
  pub next : Tag
  pub unit : Item
  pub unit_is : items_of next ≡ unit ∷ []
  pub reads : IsFirst file (tags ++ next ∷ [])
  pub further : is_too_many least (past_of tags) unit ≡ true

-- the whole file was read
pub record IsWhole (a : Asked) (file : List ℕ) (some_out : Bool) (old new : Seen) (house house' : HouseTold) : Type 0 where
  pub tags : List Tag
  pub within : length file ≤ most_bytes
  pub is_file : IsFile file tags
  pub out_is : some_left_out (past_of tags) ≡ some_out
  pub writes : WritesAll a tags old new house house'

abbrev pub IsCode : ℕ → Type 0
IsCode code = (code ≡ 0) ⊎ ((code ≡ 3) ⊎ ((code ≡ 4) ⊎ ((code ≡ 5) ⊎ ((code ≡ 6) ⊎ ((code ≡ 7) ⊎ ((code ≡ 8) ⊎ (code ≡ 9)))))))

-- the codes of a first part
abbrev pub IsPartCode : ℕ → Type 0
IsPartCode code = (code ≡ 5) ⊎ ((code ≡ 6) ⊎ (code ≡ 7))

-- the codes with which the source's faults may have risen
abbrev pub IsAfterSource : ℕ → Type 0
IsAfterSource code = (code ≡ 3) ⊎ ((code ≡ 5) ⊎ (code ≡ 6))

-- what a status says of the source, the sink and the house before and after
pub record Outcome (a : Asked) (old new : Seen) (house house' : HouseTold) (status : Status) : Type 0 where
  pub read : (status.code ≡ 0) ⊎ (status.code ≡ 8) → IsAtEnd new.left
  pub all : status.code ≡ 0 → (file : List ℕ) → old.left ≡ Some file → IsWhole a file false old new house house'
  pub left_out : status.code ≡ 8 → (file : List ℕ) → old.left ≡ Some file → IsWhole a file true old new house house'
  pub refused : status.code ≡ 4 → (file : List ℕ) → old.left ≡ Some file
      → (tags : List Tag) × IsRefused file status.place tags × WritesAll a tags old new house house'
  pub too_many : status.code ≡ 9 → (file : List ℕ) → old.left ≡ Some file
      → (tags : List Tag) × IsTooMany a.least file tags × WritesAll a tags old new house house'
  pub after_fault : status.code ≡ 3 → (read : List ℕ) → IsReadTo read old new
      → (tags : List Tag) × (rest : List ℕ) × Reads read tags rest × WritesAll a tags old new house house'
  pub part : IsPartCode status.code → (read : List ℕ) → IsReadTo read old new
      → (tags : List Tag) × IsFirst read tags × WritesFirst a tags old new house house'
  pub unlisted : status.code ≡ 7 → new.held ≡ old.held
  pub source_fault : status.code ≡ 3 → Rose old.source_faults new.source_faults
  pub sink_fault : status.code ≡ 5 → Rose old.sink_faults new.sink_faults ⊎ Rose house.spoiled house'.spoiled
  pub house_fault : status.code ≡ 7 → Rose house.faults house'.faults
  pub source : (IsAfterSource status.code → ⊥) → new.source_faults ≡ old.source_faults
  pub sink : (status.code ≡ 5 → ⊥) → new.sink_faults ≡ old.sink_faults
  pub files : (status.code ≡ 5 → ⊥) → house'.spoiled ≡ house.spoiled
  pub house_is : (status.code ≡ 7 → ⊥) → house'.faults ≡ house.faults
  pub codes : IsCode status.code
  pub place : (status.code ≡ 4 → ⊥) → status.place ≡ 0
