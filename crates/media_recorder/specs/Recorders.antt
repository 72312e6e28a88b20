-- What a recorder keeps
use Rattle.std.specs.Prelude.{◌≡◌, ℕ, List, Option, Some, None}
use Rattle.av_unit.specs.declared.item.Item.{Item}
use Rattle.turn_gate.specs.Histories.{Begins}
use Rattle.media_recorder.specs.declared.turn.RecEnd.{RecEnd}
use Rattle.media_recorder.specs.declared.turn.RecEnd.TheVariants.{SinkFault, Full, Worn, OutOfMemory}
use Rattle.media_recorder.specs.Joined.{joined_from}
use Rattle.media_recorder.specs.Taken.{taken}
use Rattle.stream_registry.specs.Told.{Step}

abbrev pub AreWrittenTo : RecEnd → List Item → List Item → Type 0
AreWrittenTo SinkFault items all = items ≡ all
AreWrittenTo Full items all = items ≡ all
AreWrittenTo Worn items all = items ≡ all
AreWrittenTo OutOfMemory items all = Begins items all

-- the items written are those that were taken, but where there was no memory
abbrev pub AreWritten : Option RecEnd → List Item → List Item → Type 0
AreWritten None items all = items ≡ all
AreWritten (Some e) items all = AreWrittenTo e items all

-- what was taken is written, and the number with which it joined is kept
pub record IsRecorder (end : Option RecEnd) (items : List Item) (calls : List Step) (from : Option ℕ) : Type 0 where
  pub written : AreWritten end items (taken calls)
  pub from_is : from ≡ joined_from calls
