-- What the files of recordings hold at the end
use Rattle.std.specs.Prelude.{◌≡◌, ◌≤◌, ◌⊎◌, ℕ, List, [], ◌∷◌, ◌++◌, length, All, Bool, true, false, Option, Some, None}
use Rattle.turn_gate.specs.Histories.{Begins}
use Rattle.stream_model.specs.declared.calls.Call.TheVariants as call
use Rattle.stream_model.specs.declared.calls.Shape.{Shape}
use Rattle.stream_model.specs.declared.replies.Reply.TheVariants as reply
use Rattle.stream_registry.specs.Told.{Step, Histories}
use Rattle.relay_config.specs.declared.config.PlaceRule.{PlaceRule}
use Rattle.relay_outside.specs.Houses.{KeptFile}
use Rattle.media_recorder.specs.declared.turn.RecEnd.{RecEnd}
use Rattle.media_recorder.specs.declared.turn.RecEnd.TheVariants as rec
use Rattle.media_recorder.specs.Calls.{Stand}
use Rattle.media_recorder.specs.Joined.{joined_from}
use Rattle.media_recorder.specs.Ports.{mine_of}
use Rattle.media_recorder.specs.Says.{Rests}
use Rattle.media_recorder.specs.Seats.{entry_of}
use Rattle.media_recorder.specs.Taken.{taken}
use Rattle.media_recorder.specs.Tallied.{IsTurnedAway}
use Rattle.media_recorder.specs.Turns.{RecorderState, all}
use Rattle.relay_worker.specs.Filed.{text_in}
use Rattle.relay_worker.specs.Running.{Label}
use Rattle.relay_serve.specs.Recordings.{file_name}

-- a call by which a player leaves
abbrev pub IsLeave : Step → Type 0
IsLeave step = (player : ℕ) × (step.0.call ≡ call.Leave player)

-- THE WHOLE RECORDING: the recorder joined before its stream had an item. The file is the text of all that
-- its Takes were sent, and the last of these found nothing more, after all these calls of the stream's
-- history. The recorder left then
pub record IsWhole (r : Label) (bytes : List ℕ) (joined : List Step) (numbers : List ℕ) (calls : List Step) : Type 0 where
  pub from_first : joined_from calls ≡ Some 0
  pub text : bytes ≡ text_in r.form (taken calls)
  pub earlier : List Step
  pub player : ℕ
  pub last : ℕ
  pub leaves : List Step
  pub calls_are : calls ≡ earlier ++ (entry_of r.who (call.Take player all), reply.NotYet last) ∷ leaves
  pub only_leaves : All IsLeave leaves
  -- the numbers of these calls in the history
  pub before : List ℕ
  pub number : ℕ
  pub after : List ℕ
  pub numbers_are : numbers ≡ before ++ number ∷ after
  pub same_place : length before ≡ length earlier
  pub after_joined : length joined ≤ number

module _ (streams : ℕ → Shape) (joined histories : Histories) (worn : ℕ → Type 0) where
  -- WHAT A FILE HOLDS of a recording: a beginning of the text of the items that its recorder's Takes were
  -- sent. Where the file has no faults that is the whole, unless the recorder was turned away, or the history
  -- of its stream was full
  pub record Records (r : Label) (bytes : List ℕ) (faults : ℕ) : Type 0 where
    -- the recorder's calls, which stand at these numbers in the history of its stream
    pub calls : List Step
    pub numbers : List ℕ
    pub stand : Stand (streams r.place) r.who (histories r.place) numbers calls
    pub prefix : Begins bytes (text_in r.form (taken calls))
    pub whole : faults ≡ 0 → IsWhole r bytes (joined r.place) numbers calls ⊎ (IsTurnedAway r.who calls ⊎ worn r.place)

  -- A FILE THAT THE HOUSE KEEPS of a recording stands under the name that the configuration has for it
  pub record IsRecorded (places : List PlaceRule) (r : Label) (file : KeptFile) : Type 0 where
    pub named : file_name places r.place r.form ≡ Some file.name
    pub records : Records r file.bytes file.faults

-- ---- a recorder on its way there

-- it has ended so, or has nothing more to take
pub record IsSettled {Q : Type 0} (mine : Q → List ℕ) (root : List Step) (end : Option RecEnd) (r : RecorderState Q) : Type 0 where
  pub ended : r.end ≡ end
  pub rests : end ≡ None → Rests mine root r

-- there was no memory for it
abbrev pub starved : Option RecEnd → Bool
starved None = false
starved (Some rec.SinkFault) = false
starved (Some rec.Full) = false
starved (Some rec.Worn) = false
starved (Some rec.OutOfMemory) = true

-- the history of its stream was full
abbrev pub worn_out : Option RecEnd → Bool
worn_out None = false
worn_out (Some rec.SinkFault) = false
worn_out (Some rec.Full) = false
worn_out (Some rec.Worn) = true
worn_out (Some rec.OutOfMemory) = false

-- it has left: its calls, and where it had joined at most its Leave after them, stand in its stream's history
pub record HasLeft {Q : Type 0} (mine : Q → List ℕ) (limits : Shape) (history : List Step) (r : RecorderState Q) : Type 0 where
  pub leaves : List Step
  pub numbers : List ℕ
  pub only_leaves : All IsLeave leaves
  pub unjoined : r.player ≡ None → leaves ≡ []
  pub a_number_each : length numbers ≡ length leaves
  pub stand : Stand limits r.seat.who history (mine_of mine r.seat.pass ++ numbers) (r.seat.calls ++ leaves)
