-- A client that runs over a link, and what its turns come to
use Rattle.std.specs.Prelude.{◌≡◌, ◌⊎◌, ◌≤◌, ◌++◌, ℕ, true, List, [], length, Option, Some, None}
use Rattle.relay_outside.specs.Counts.{Rose}
use Rattle.relay_outside.specs.Told.{LinkCounts, LinkTold}
use Rattle.client_owed.specs.declared.types.Asked.{Asked}
use Rattle.client_owed.specs.declared.types.Gift.{Gift}
use Rattle.client_owed.specs.Standing.{listed, new_keeps, new_past}
use Rattle.flv_tags.specs.declared.fail.FlvFail.{FlvFail}
use Rattle.flv_tags.specs.declared.fail.FlvFail.TheVariants as flv
use Rattle.rtmp_client.specs.ClientState.{ClientState, StandsSo}
use Rattle.rtmp_client.specs.Keeping.{keeps_of, past_of}
use Rattle.rtmp_client.specs.declared.core_fields.Core.{Core}
use Rattle.rtmp_client.specs.declared.end.ClientEnd.{ClientEnd}
use Rattle.rtmp_client.specs.declared.end.ClientEnd.TheVariants as end
use Rattle.rtmp_client.specs.declared.end.ClientTurn.{ClientTurn}
use Rattle.rtmp_client.specs.declared.end.ClientTurn.TheVariants.{Moved, Idle, Ended}
use Rattle.client_command.specs.declared.stop.Stop.{Stop}
use Rattle.client_command.specs.declared.stop.Stop.TheVariants.{Client, Refused, Source, Sink, Memory}
use Rattle.client_command.specs.Ends.{ByClient}
use Rattle.client_command.specs.Runs.{AreFriendly, Causes, HasRun, IsUnfed, most_message, most_received}
use Rattle.client_command.specs.Traffic.{IsCalm, Passed}

-- a client that lives
pub record IsLive (c : ClientState) : Type 0 where
  pub lives : c.ended ≡ None
  pub max : c.parts.reader.max ≡ most_message
  pub short : length c.input ≤ most_received
  pub stands : StandsSo c.parts

abbrev pub StillLives : ClientTurn → ClientState → Type 0
StillLives Moved c = IsLive c
StillLives Idle c = IsLive c
StillLives Ended c = Unit {0}

-- a new client
pub record IsNew (c : ClientState) : Type 0 where
  pub past : past_of c.parts ≡ new_past
  pub keeps : keeps_of c.parts ≡ new_keeps
  pub others : c.parts.outgoing.others ≡ length c.parts.outgoing.pending
  pub input : c.input ≡ []

-- a client that lives and runs since the link was so
pub record Runs (k : Asked) (c : ClientState) (start now : Option LinkTold) (n n' : LinkCounts) : Type 0 where
  pub live : IsLive c
  pub asked : c.parts.asked ≡ k
  pub passed : Passed (c.parts.y ++ c.input) c.parts.sent start now
  pub friendly : AreFriendly c.parts.reader.given
  pub calm : IsCalm n n'

abbrev pub gifts_of : Core → List Gift
gifts_of c = c.taken ++ listed c.gift

-- all was sent, and it was finished
pub record IsDone (e : ClientEnd) (c : Core) (more : List ℕ) (n n' : LinkCounts) : Type 0 where
  pub is_done : e ≡ end.Done
  pub finished : c.finished ≡ true
  pub none : more ≡ []
  pub calm : IsCalm n n'

-- a client that lived so before has ended in the turn
pub record Stopped (k : Asked) (e : ClientEnd) (c : Core) (start now : Option LinkTold) (n n' : LinkCounts) : Type 0 where
  pub rest : List ℕ
  pub unfed : IsUnfed (ByClient e) rest
  pub more : List ℕ
  pub run : HasRun k c.y rest c.reader.given c.gave (gifts_of c) more start now
  pub why : IsDone e c more n n' ⊎ Causes e c.reader.given (c.y ++ rest) n n'

abbrev pub Turned : ClientTurn → Asked → ClientState → ClientState → Option LinkTold → Option LinkTold → LinkCounts → LinkCounts → Type 0
Turned Moved k old new start now n n' = Runs k new start now n n'
Turned Idle k old new start now n n' = Runs k new start now n n'
Turned Ended k old new start now n n' = (e : ClientEnd) × (new.ended ≡ Some e) × Stopped k e old.parts start now n n'

abbrev pub stop_of : FlvFail → Stop
stop_of (flv.BadHeader at) = Refused at
stop_of (flv.BadTag at) = Refused at
stop_of (flv.BadBack at stored real) = Refused at
stop_of flv.OutOfMemory = Memory

-- what a sink's faults say of a put that failed
abbrev pub PutCause : Stop → ℕ → ℕ → Type 0
PutCause Client before now = ⊥
PutCause (Refused at) before now = ⊥
PutCause Source before now = ⊥
PutCause Sink before now = Rose before now
PutCause Memory before now = now ≡ before
