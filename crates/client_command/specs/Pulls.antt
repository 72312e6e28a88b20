-- HOW `pull` ENDS
use Rattle.std.specs.Prelude.{◌≡◌, ◌++◌, ℕ, List, [], ◌∷◌, Option}
use Rattle.std.specs.Io.KnownBytes.{append_known}
use Rattle.relay_outside.specs.Counts.{Rose}
use Rattle.relay_outside.specs.Told.{LinkCounts, LinkTold}
use Rattle.chunk_wire.specs.declared.message.Message.{Message}
use Rattle.client_owed.specs.declared.types.Asked.{Asked}
use Rattle.client_owed.specs.declared.types.Gift.{Gift}
use Rattle.client_owed.specs.declared.types.Gift.TheVariants.{Unpublished}
use Rattle.put_text.specs.Written.{WritesPart}
use Rattle.client_command.specs.Ends.{How, Whole, ByClient, ByFilm, BySource, BySink, ByMemory, refusal_of, status_of}
use Rattle.client_command.specs.Gifts.{IsOn, pull_text}
use Rattle.client_command.specs.Runs.{Causes, HasRun, IsUnfed}
use Rattle.client_command.specs.Traffic.{IsCalm}
use Rattle.client_command.specs.declared.ending.Ended.{Ended}

-- what is seen of the link and of the sink
pub record PullSeen : Type 0 where
  pub told : Option LinkTold
  pub counts : LinkCounts
  pub held : Option (List ℕ)
  pub faults : ℕ

abbrev pub pull_seen : Option LinkTold → LinkCounts → Option (List ℕ) → ℕ → PullSeen
pull_seen told counts held faults = record { told = told; counts = counts; held = held; faults = faults }

-- what was written of the gifts, and why no more
abbrev pub PullBy : How → List Gift → List (ℕ × Message) → List ℕ → PullSeen → PullSeen → Type 0
PullBy Whole gifts ms all old new =
    ((before : List Gift) × (gifts ≡ before ++ Unpublished ∷ []) × IsOn before)
    × (new.held ≡ append_known old.held (pull_text gifts)) × (new.faults ≡ old.faults) × IsCalm old.counts new.counts
PullBy (ByClient e) gifts ms all old new =
    IsOn gifts × (new.held ≡ append_known old.held (pull_text gifts)) × (new.faults ≡ old.faults) × Causes e ms all old.counts new.counts
PullBy (ByFilm at) gifts ms all old new = ⊥
PullBy BySource gifts ms all old new = ⊥
PullBy BySink gifts ms all old new = WritesPart (pull_text gifts) old.held new.held × Rose old.faults new.faults × IsCalm old.counts new.counts
PullBy ByMemory gifts ms all old new = WritesPart (pull_text gifts) old.held new.held × (new.faults ≡ old.faults) × IsCalm old.counts new.counts

-- A STREAM WAS PULLED so far
pub record HasPulled (k : Asked) (how : How) (old new : PullSeen) : Type 0 where
  pub y : List ℕ
  pub rest : List ℕ
  pub unfed : IsUnfed how rest
  pub ms : List (ℕ × Message)
  pub gifts : List Gift
  pub more : List ℕ
  pub run : HasRun k y rest ms [] gifts more old.told new.told
  pub ends : PullBy how gifts ms (y ++ rest) old new

pub record PullOutcome (k : Asked) (old new : PullSeen) (e : Ended) : Type 0 where
  pub how : How
  pub status : e.status ≡ status_of how
  pub refusal : e.refusal ≡ refusal_of how
  pub pulled : HasPulled k how old new
