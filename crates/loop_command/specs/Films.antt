-- How the film is read, of which there are at most 2^28 bytes
use Rattle.std.specs.Prelude.{◌≡◌, ◌⊎◌, ◌≤◌, ◌<◌, ◌^◌, ◌+◌, ◌++◌, ℕ, List, [], ◌∷◌, length, Option}
use Rattle.flv_tags.specs.declared.tag.Tag.{Tag}
use Rattle.flv_tags.specs.Reads.{Reads}
use Rattle.segment_command.specs.Films.{WasRead}
use Rattle.file_commands.specs.Outcome.{Seen}
use Rattle.client_command.specs.Film.{IsRefusedAt, IsWhole}

abbrev pub most_bytes : ℕ
most_bytes = 2 ^ 28

-- how many bytes a tag has in a file: its header, its body, and the four that count it back
abbrev pub tag_length : Tag → ℕ
tag_length t = 15 + length t.body

-- and how many a file of these tags has, with its header and the four bytes behind it
abbrev pub film_length : List Tag → ℕ
film_length [] = 13
film_length (t ∷ tags) = tag_length t + film_length tags

-- THE WHOLE FILM WAS READ as these tags, of no more bytes than may be read
pub record WasWhole (tags : List Tag) (old new : Seen) : Type 0 where
  pub read : List ℕ
  pub was_read : WasRead read old.left new.left
  pub whole : IsWhole read tags new.left
  pub short : length read ≤ most_bytes
  pub faults : new.source_faults ≡ old.source_faults

-- more bytes than may be read as these tags, the first of them
pub record IsLong (read : List ℕ) (tags : List Tag) : Type 0 where
  pub front : List ℕ
  pub behind : List ℕ
  pub parts : read ≡ front ++ behind
  pub long : most_bytes < length front
  pub rest : List ℕ
  pub reads : Reads front tags rest

-- IT IS REFUSED AT A PLACE: there, or behind the bytes that may be read, where nothing before is refused
abbrev pub IsRefused : List ℕ → ℕ → Option (List ℕ) → Type 0
IsRefused read at left =
    ((at < most_bytes) × (tags : List Tag) × IsRefusedAt read at tags left)
    ⊎ ((at ≡ most_bytes) × (tags : List Tag) × (IsLong read tags ⊎ ((place : ℕ) × (most_bytes ≤ place) × IsRefusedAt read place tags left)))
