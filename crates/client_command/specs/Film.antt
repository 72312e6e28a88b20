-- A film that is pushed
use Rattle.std.specs.Prelude.{◌≡◌, ◌⊎◌, ◌≤◌, ◌++◌, ℕ, List, [], ◌∷◌, length, Option}
use Rattle.std.specs.Io.KnownBytes.{IsAtEnd}
use Rattle.flv_tags.specs.declared.tag.Tag.{Tag}
use Rattle.flv_tags.specs.Reads.{IsFile, Reads}
use Rattle.file_commands.specs.Outcome.{most_bytes}
use Rattle.segment_command.specs.Films.{IsCutOff, IsStopped, IsTooLong}
use Rattle.client_owed.specs.declared.types.Gave.{Gave}
use Rattle.client_owed.specs.declared.types.Given.{Given}
use Rattle.client_owed.specs.declared.types.Given.TheVariants.{Send, Finish}

-- how many bytes of a film are asked for at a time, and so wait to be read, at most
abbrev pub most_ahead : ℕ
most_ahead = 16384

-- the tag that was given, if it was one
abbrev pub sends_in : Given → List Tag
sends_in (Send t) = t ∷ []
sends_in Finish = []

-- THE TAGS of what was given
abbrev pub tags_given : List Gave → List Tag
tags_given [] = []
tags_given (g ∷ T) = sends_in g.given ++ tags_given T

-- the whole film was read
pub record IsWhole (read : List ℕ) (tags : List Tag) (left : Option (List ℕ)) : Type 0 where
  pub within : length read ≤ most_bytes
  pub at_end : IsAtEnd left
  pub file : IsFile read tags

-- it is refused at a place, behind these tags
abbrev pub IsRefusedAt : List ℕ → ℕ → List Tag → Option (List ℕ) → Type 0
IsRefusedAt read at tags left = (IsStopped read at tags ⊎ IsTooLong read at tags) ⊎ (IsAtEnd left × IsCutOff read at tags)

-- these tags are whole, or nothing was read
abbrev pub AreWhole : List ℕ → List Tag → Type 0
AreWhole front tags = IsFile front tags ⊎ ((front ≡ []) × (tags ≡ []))

-- NOTHING WAS READ BEHIND THESE TAGS, but for bytes that came with the last of them
pub record IsUpTo (read : List ℕ) (tags : List Tag) : Type 0 where
  pub front : List ℕ
  pub ahead : List ℕ
  pub parts : read ≡ front ++ ahead
  pub few : length ahead ≤ most_ahead
  pub whole : AreWhole front tags

-- a part of a tag stands behind these, or one tag more
abbrev pub ReadsOne : List ℕ → List Tag → Type 0
ReadsOne front tags = ((rest : List ℕ) × Reads front tags rest) ⊎ ((t : Tag) × IsFile front (tags ++ t ∷ []))

-- AT MOST ONE TAG WAS READ BEHIND THESE, whole or a part of it, but for bytes that came with it
pub record IsNear (read : List ℕ) (tags : List Tag) : Type 0 where
  pub front : List ℕ
  pub ahead : List ℕ
  pub parts : read ≡ front ++ ahead
  pub few : length ahead ≤ most_ahead
  pub reads : ReadsOne front tags
