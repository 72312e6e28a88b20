-- HOW THE COMMAND ENDS
use Rattle.std.specs.Prelude.{◌≡◌, ◌⊎◌, ℕ, true, false, List, length}
use Rattle.std.specs.Io.KnownBytes.{append_known}
use Rattle.relay_base.specs.declared.limits.Status.{Status}
use Rattle.relay_outside.specs.Counts.{Rose}
use Rattle.flv_tags.specs.declared.tag.Tag.{Tag}
use Rattle.file_commands.specs.Outcome.{Seen}
use Rattle.put_text.specs.Written.{WritesPart}
use Rattle.segment_command.specs.Films.{WasRead}
use Rattle.loop_command.specs.Course.{CameBack, CameNot, CamePart, has_skipped}
use Rattle.loop_command.specs.Films.{IsRefused, WasWhole}
use Rattle.loop_command.specs.Looped.{IsLooped}

-- the film came back, it is refused, its source or the sink fails, memory is refused, or its run doesn't come
-- to its end, or the player missed items of it
pub data How : Type 0 where
  Whole : How
  ByFilm : ℕ → How
  BySource : How
  BySink : How
  ByMemory : How
  ByRounds : How

abbrev pub status_at : ℕ → ℕ → Status
status_at code place = record { code = code; place = place }

-- THE CODE
abbrev pub status_of : How → Status
status_of Whole = status_at 0 0
status_of (ByFilm at) = status_at 4 at
status_of BySource = status_at 3 0
status_of BySink = status_at 5 0
status_of ByMemory = status_at 6 0
status_of ByRounds = status_at 9 0

-- the whole film was read, and what came back is written; the player missed nothing
pub record HasCome (old new : Seen) : Type 0 where
  pub tags : List Tag
  pub film : WasWhole tags old new
  pub text : List ℕ
  pub back : CameBack tags (length film.read) text
  pub unskipped : has_skipped back.last ≡ false
  pub looped : IsLooped tags text
  pub held : new.held ≡ append_known old.held text
  pub faults : new.sink_faults ≡ old.sink_faults

-- the whole film was read, and what came before it was clear that the film won't come back is written
pub record HasNotCome (old new : Seen) : Type 0 where
  pub tags : List Tag
  pub film : WasWhole tags old new
  pub text : List ℕ
  pub back : CameNot tags (length film.read) text
  pub held : new.held ≡ append_known old.held text
  pub faults : new.sink_faults ≡ old.sink_faults

-- the whole film was read, and what came back is written; but the player missed items of it
pub record HasSkipped (old new : Seen) : Type 0 where
  pub tags : List Tag
  pub film : WasWhole tags old new
  pub text : List ℕ
  pub back : CameBack tags (length film.read) text
  pub skipped : has_skipped back.last ≡ true
  pub held : new.held ≡ append_known old.held text
  pub faults : new.sink_faults ≡ old.sink_faults

-- the whole film was read, and a first part of what had come is written
pub record HasPart (Came : List Tag → ℕ → List ℕ → Type 0) (old new : Seen) : Type 0 where
  pub tags : List Tag
  pub film : WasWhole tags old new
  pub text : List ℕ
  pub came : Came tags (length film.read) text
  pub part : WritesPart text old.held new.held

-- nothing is written
pub record IsUnwritten (old new : Seen) : Type 0 where
  pub held : new.held ≡ old.held
  pub faults : new.sink_faults ≡ old.sink_faults

-- the film is refused there
pub record HasRefused (at : ℕ) (old new : Seen) : Type 0 where
  pub read : List ℕ
  pub was_read : WasRead read old.left new.left
  pub refused : IsRefused read at new.left
  pub faults : new.source_faults ≡ old.source_faults

-- what was read and written
abbrev pub Ends : How → Seen → Seen → Type 0
Ends Whole old new = HasCome old new
Ends (ByFilm at) old new = HasRefused at old new × IsUnwritten old new
Ends BySource old new = Rose old.source_faults new.source_faults × IsUnwritten old new
Ends BySink old new = HasPart CamePart old new × Rose old.sink_faults new.sink_faults
Ends ByMemory old new =
    (new.source_faults ≡ old.source_faults) × (new.sink_faults ≡ old.sink_faults)
    × ((new.held ≡ old.held) ⊎ (HasPart CamePart old new ⊎ HasPart CameBack old new))
Ends ByRounds old new = HasNotCome old new ⊎ HasSkipped old new

pub record Outcome (old new : Seen) (status : Status) : Type 0 where
  pub how : How
  pub status_is : status ≡ status_of how
  pub ends : Ends how old new
