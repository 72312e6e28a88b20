-- How a film of FLV is read, and where it is refused
use Rattle.std.specs.Prelude.{◌≡◌, ◌⊎◌, ◌≤◌, ◌<◌, ℕ, List, ◌++◌, length, Option}
use Rattle.std.specs.Io.KnownBytes.{prepend_known}
use Rattle.flv_tags.specs.declared.tag.Tag.{Tag}
use Rattle.flv_tags.specs.declared.fail.FlvFail.{FlvFail}
use Rattle.flv_tags.specs.Reads.{Reads}
use Rattle.flv_tags.specs.Stops.{Ends, Stops}
use Rattle.file_commands.specs.Outcome.{most_bytes}
use Rattle.file_commands.specs.Remux.{offset_of}

-- these bytes of a source were read, by what is left of it before and now
abbrev pub WasRead : List ℕ → Option (List ℕ) → Option (List ℕ) → Type 0
WasRead read left now = left ≡ prepend_known read now

-- some first bytes read as these tags
pub record IsFirst (read : List ℕ) (tags : List Tag) : Type 0 where
  pub front : List ℕ
  pub behind : List ℕ
  pub parts : read ≡ front ++ behind
  pub rest : List ℕ
  pub reads : Reads front tags rest

-- bytes that are refused: some first of them
pub record IsStopped (file : List ℕ) (at : ℕ) (tags : List Tag) : Type 0 where
  pub front : List ℕ
  pub behind : List ℕ
  pub parts : file ≡ front ++ behind
  pub within : length front ≤ most_bytes
  pub count : ℕ
  pub cause : FlvFail
  pub stops : Stops front count tags cause
  pub place : at ≡ offset_of cause

-- the end of all
pub record IsCutOff (file : List ℕ) (at : ℕ) (tags : List Tag) : Type 0 where
  pub within : length file ≤ most_bytes
  pub cause : FlvFail
  pub ends : Ends file tags cause
  pub place : at ≡ offset_of cause

-- or that they are too many
pub record IsTooLong (file : List ℕ) (at : ℕ) (tags : List Tag) : Type 0 where
  pub front : List ℕ
  pub behind : List ℕ
  pub parts : file ≡ front ++ behind
  pub full : length front ≡ most_bytes
  pub more : 0 < length behind
  pub place : at ≡ most_bytes
  pub rest : List ℕ
  pub reads : Reads front tags rest

-- THE REFUSAL of a file: where it is refused, and the tags before
abbrev pub IsRefused : List ℕ → ℕ → List Tag → Type 0
IsRefused file at tags = IsStopped file at tags ⊎ (IsCutOff file at tags ⊎ IsTooLong file at tags)
