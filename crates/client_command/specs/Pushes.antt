-- HOW `push` ENDS
use Rattle.std.specs.Prelude.{◌≡◌, ◌++◌, ℕ, Bool, true, false, List, [], Option}
use Rattle.relay_outside.specs.Counts.{Rose}
use Rattle.relay_outside.specs.Told.{LinkCounts, LinkTold}
use Rattle.chunk_wire.specs.declared.message.Message.{Message}
use Rattle.flv_tags.specs.Reads.{Reads}
use Rattle.client_owed.specs.declared.types.Asked.{Asked}
use Rattle.client_owed.specs.declared.types.Gave.{Gave}
use Rattle.client_owed.specs.Standing.{is_finished}
use Rattle.client_command.specs.Ends.{How, Whole, ByClient, ByFilm, BySource, BySink, ByMemory, refusal_of, status_of}
use Rattle.client_command.specs.Film.{IsNear, IsRefusedAt, IsUpTo, IsWhole, tags_given}
use Rattle.client_command.specs.Runs.{Causes, HasRun, IsUnfed}
use Rattle.client_command.specs.Traffic.{IsCalm}
use Rattle.client_command.specs.declared.ending.Ended.{Ended}
use Rattle.segment_command.specs.Films.{WasRead}

-- what is seen of the source and of the link
pub record PushSeen : Type 0 where
  pub left : Option (List ℕ)
  pub faults : ℕ
  pub told : Option LinkTold
  pub counts : LinkCounts

abbrev pub push_seen : Option (List ℕ) → ℕ → Option LinkTold → LinkCounts → PushSeen
push_seen left faults told counts = record { left = left; faults = faults; told = told; counts = counts }

-- nothing is left to send of what was given
pub record IsSettled (more : List ℕ) (whole : Bool) (T : List Gave) (old new : PushSeen) : Type 0 where
  pub none : more ≡ []
  pub finished : is_finished T ≡ whole
  pub calm : IsCalm old.counts new.counts

-- what was read of the film, where the client was given T, and why no more. The film is read no more than a tag
-- ahead of the client
abbrev pub PushBy : How → List ℕ → List Gave → List (ℕ × Message) → List ℕ → List ℕ → PushSeen → PushSeen → Type 0
PushBy Whole read T ms all more old new = IsWhole read (tags_given T) new.left × (new.faults ≡ old.faults) × IsSettled more true T old new
PushBy (ByClient e) read T ms all more old new = IsUpTo read (tags_given T) × (new.faults ≡ old.faults) × Causes e ms all old.counts new.counts
PushBy (ByFilm at) read T ms all more old new =
    IsRefusedAt read at (tags_given T) new.left × (new.faults ≡ old.faults) × IsSettled more false T old new × IsNear read (tags_given T)
PushBy BySource read T ms all more old new = ((rest : List ℕ) × Reads read (tags_given T) rest) × Rose old.faults new.faults × IsSettled more false T old new
PushBy BySink read T ms all more old new = ⊥
PushBy ByMemory read T ms all more old new = IsNear read (tags_given T) × (new.faults ≡ old.faults) × IsCalm old.counts new.counts

-- A FILM WAS PUSHED so far
pub record HasPushed (k : Asked) (how : How) (old new : PushSeen) : Type 0 where
  pub read : List ℕ
  pub was_read : WasRead read old.left new.left
  pub y : List ℕ
  pub rest : List ℕ
  pub unfed : IsUnfed how rest
  pub ms : List (ℕ × Message)
  pub T : List Gave
  pub more : List ℕ
  pub run : HasRun k y rest ms T [] more old.told new.told
  pub ends : PushBy how read T ms (y ++ rest) more old new

pub record PushOutcome (k : Asked) (old new : PushSeen) (e : Ended) : Type 0 where
  pub how : How
  pub status : e.status ≡ status_of how
  pub refusal : e.refusal ≡ refusal_of how
  pub pushed : HasPushed k how old new
