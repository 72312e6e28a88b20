-- Only proofs and private functions use it.
-- What the parts of a command do
use Rattle.std.specs.Prelude.{◌≡◌, ◌⊎◌, ◌≤◌, ◌<◌, ℕ, Bool, List, ◌++◌, length, take, if◌then◌else◌}
use Rattle.std.specs.declared.option.Option.{Option}
use Rattle.std.specs.Io.KnownBytes.{IsAtEnd, append_known, prepend_known}
use Rattle.relay_base.specs.declared.limits.Status.{Status}
use Rattle.relay_outside.specs.Counts.{Rose}
use Rattle.file_commands.specs.declared.fail.Fail.{Fail}
use Rattle.file_commands.specs.declared.fail.Fail.TheVariants.{Refused, SourceFault, SinkFault, OutOfMemory}
use Rattle.put_text.specs.Written.{Writes, WritesPart}
use Rattle.file_commands.specs.Outcome.{GivenBy, IsCut, IsTooLong, StopsIn, WritesAll, WritesOf, WritesOfFront, WritesOfRead}

-- ---- one step

-- so many bytes were taken, and the text that they give was appended
pub record Steps (fed given piece : List ℕ) (used : ℕ) (out fed' given' out' : List ℕ) : Type 0 where
  pub some : 0 < used
  pub within : used ≤ length piece
  pub fed_is : fed' ≡ fed ++ take used piece
  pub more : List ℕ
  pub given_is : given' ≡ given ++ more
  pub out_is : out' ≡ out ++ more

module _ (Stops : List ℕ → ℕ → List ℕ → Type 0) where
  -- why no bytes are taken: they are refused, and nothing was appended; or memory is
  abbrev pub StepFails : Fail → List ℕ → List ℕ → List ℕ → List ℕ → Type 0
  StepFails (Refused at) bytes given out out' = Stops bytes at given × (out' ≡ out)
  StepFails SourceFault bytes given out out' = ⊥
  StepFails SinkFault bytes given out out' = ⊥
  StepFails OutOfMemory bytes given out out' = Unit {0}

-- the file ended, and what it still gives was appended
pub record Finishes (Whole : List ℕ → Bool → List ℕ → Type 0) (fed given : List ℕ) (some_out : Bool) (out out' : List ℕ) : Type 0 where
  pub more : List ℕ
  pub whole : Whole fed some_out (given ++ more)
  pub out_is : out' ≡ out ++ more

-- ---- the sink

-- why a text isn't put
abbrev pub PutFails : Fail → List ℕ → Option (List ℕ) → Option (List ℕ) → Type 0
PutFails (Refused at) text before now = ⊥
PutFails SourceFault text before now = ⊥
PutFails SinkFault text before now = WritesPart text before now
PutFails OutOfMemory text before now = WritesPart text before now

-- the sink's faults, where a part fails that has a sink alone
abbrev pub SinkCause : Fail → ℕ → ℕ → Type 0
SinkCause (Refused at) before now = now ≡ before
SinkCause SourceFault before now = ⊥
SinkCause SinkFault before now = Rose before now
SinkCause OutOfMemory before now = now ≡ before

-- the sink's faults
abbrev pub SinkFaults : Fail → ℕ → ℕ → Type 0
SinkFaults (Refused at) before now = now ≡ before
SinkFaults SourceFault before now = now ≡ before
SinkFaults SinkFault before now = Rose before now
SinkFaults OutOfMemory before now = now ≡ before

-- the source's faults
abbrev pub SourceFaults : Fail → ℕ → ℕ → Type 0
SourceFaults (Refused at) before now = now ≡ before
SourceFaults SourceFault before now = Rose before now
SourceFaults SinkFault before now = now ≡ before
SourceFaults OutOfMemory before now = now ≡ before

-- ---- a piece

module _ (Gives : List ℕ → List ℕ → Type 0) (Stops : List ℕ → ℕ → List ℕ → Type 0) where
  -- the bytes are refused: of the text before, what isn't pending is written
  pub record IsStopped (bytes : List ℕ) (at : ℕ) (pending : List ℕ) (before now : Option (List ℕ)) : Type 0 where
    pub given : List ℕ
    pub by : GivenBy Gives bytes given
    pub stops : Stops bytes at given
    pub writes : Writes given pending before now

  -- why a piece isn't taken
  abbrev pub PieceFails : Fail → List ℕ → List ℕ → Option (List ℕ) → Option (List ℕ) → Type 0
  PieceFails (Refused at) bytes pending before now = IsStopped bytes at pending before now
  PieceFails SourceFault bytes pending before now = ⊥
  PieceFails SinkFault bytes pending before now = WritesOfFront Gives bytes before now
  PieceFails OutOfMemory bytes pending before now = WritesOfFront Gives bytes before now

  -- the same where the bytes may be too many
  pub record IsRefused (bytes : List ℕ) (at : ℕ) (pending : List ℕ) (before now : Option (List ℕ)) : Type 0 where
    pub given : List ℕ
    pub by : GivenBy Gives bytes given
    pub refused : StopsIn Stops bytes at given ⊎ IsTooLong Gives bytes at given
    pub writes : Writes given pending before now

  abbrev pub TakeFails : Fail → List ℕ → List ℕ → Option (List ℕ) → Option (List ℕ) → Type 0
  TakeFails (Refused at) bytes pending before now = IsRefused bytes at pending before now
  TakeFails SourceFault bytes pending before now = ⊥
  TakeFails SinkFault bytes pending before now = WritesOfFront Gives bytes before now
  TakeFails OutOfMemory bytes pending before now = WritesOfFront Gives bytes before now

-- ---- the end

module _ (Gives : List ℕ → List ℕ → Type 0) (Cut : List ℕ → ℕ → List ℕ → Type 0) (Whole : List ℕ → Bool → List ℕ → Type 0) where
  -- why a file doesn't end: of the text so far, what isn't pending is written
  pub record IsCutThere (fed : List ℕ) (at : ℕ) (pending : List ℕ) (before now : Option (List ℕ)) : Type 0 where
    pub given : List ℕ
    pub by : GivenBy Gives fed given
    pub cut : Cut fed at given
    pub writes : Writes given pending before now

  abbrev pub EndFails : Fail → List ℕ → List ℕ → Option (List ℕ) → Option (List ℕ) → Type 0
  EndFails (Refused at) fed pending before now = IsCutThere fed at pending before now
  EndFails SourceFault fed pending before now = ⊥
  EndFails SinkFault fed pending before now = WritesOf Gives Whole fed before now
  EndFails OutOfMemory fed pending before now = WritesOf Gives Whole fed before now

-- ---- a whole file

-- these bytes were read
abbrev pub WasRead : List ℕ → Option (List ℕ) → Option (List ℕ) → Type 0
WasRead read left now = left ≡ prepend_known read now

-- what is told of them
abbrev pub WasTold : {F : Type 0} → (F → List ℕ → Type 0) → F → Option (List ℕ) → Option (List ℕ) → Type 0
WasTold told file left now = (read : List ℕ) × WasRead read left now × told file read

module _ (Gives : List ℕ → List ℕ → Type 0) (Stops Cut : List ℕ → ℕ → List ℕ → Type 0) (Whole : List ℕ → Bool → List ℕ → Type 0) where
  -- the end was read, and all is written
  pub record IsRead (some_out : Bool) (left left' before now : Option (List ℕ)) : Type 0 where
    pub read : List ℕ
    pub was_read : WasRead read left left'
    pub end : IsAtEnd left'
    pub all : WritesAll Whole read some_out before now

  -- a refusal that stands whatever follows, or that of the end
  abbrev pub IsRefusedThere : List ℕ → ℕ → List ℕ → Option (List ℕ) → Type 0
  IsRefusedThere read at given left' = (StopsIn Stops read at given ⊎ IsTooLong Gives read at given) ⊎ (IsAtEnd left' × IsCut Cut read at given)

  pub record IsRefusedFile (at : ℕ) (left left' : Option (List ℕ)) (pending : List ℕ) (before now : Option (List ℕ)) : Type 0 where
    pub read : List ℕ
    pub was_read : WasRead read left left'
    pub given : List ℕ
    pub by : GivenBy Gives read given
    pub refused : IsRefusedThere read at given left'
    pub writes : Writes given pending before now

  -- why a file isn't read to its end
  abbrev pub FileFails : Fail → Option (List ℕ) → Option (List ℕ) → List ℕ → Option (List ℕ) → Option (List ℕ) → Type 0
  FileFails (Refused at) left left' pending before now = IsRefusedFile at left left' pending before now
  FileFails SourceFault left left' pending before now = (read : List ℕ) × WasRead read left left' × WritesOfRead Gives read before now
  FileFails SinkFault left left' pending before now = (read : List ℕ) × WasRead read left left' × WritesOf Gives Whole read before now
  FileFails OutOfMemory left left' pending before now = (read : List ℕ) × WasRead read left left' × WritesOf Gives Whole read before now

  -- how the command ends then, once what is pending is put where the file is refused
  pub record EndsRefused (at : ℕ) (left left' before now : Option (List ℕ)) : Type 0 where
    pub read : List ℕ
    pub was_read : WasRead read left left'
    pub given : List ℕ
    pub by : GivenBy Gives read given
    pub refused : IsRefusedThere read at given left'
    pub written : now ≡ append_known before given

  abbrev pub Closes : Fail → Option (List ℕ) → Option (List ℕ) → Option (List ℕ) → Option (List ℕ) → Type 0
  Closes (Refused at) left left' before now = EndsRefused at left left' before now
  Closes SourceFault left left' before now = (read : List ℕ) × WasRead read left left' × WritesOfRead Gives read before now
  Closes SinkFault left left' before now = (read : List ℕ) × WasRead read left left' × WritesOf Gives Whole read before now
  Closes OutOfMemory left left' before now = (read : List ℕ) × WasRead read left left' × WritesOf Gives Whole read before now

-- what a refusal is in the end, once what is pending was put
abbrev pub PutEnds : ℕ → Fail → List ℕ → Option (List ℕ) → Option (List ℕ) → Type 0
PutEnds at (Refused place) pending before now = (place ≡ at) × (now ≡ append_known before pending)
PutEnds at SourceFault pending before now = ⊥
PutEnds at SinkFault pending before now = WritesPart pending before now
PutEnds at OutOfMemory pending before now = WritesPart pending before now

-- what a failure is in the end
abbrev pub Settles : Fail → Fail → List ℕ → Option (List ℕ) → Option (List ℕ) → Type 0
Settles (Refused at) last pending before now = PutEnds at last pending before now
Settles SourceFault last pending before now = (last ≡ SourceFault) × (now ≡ before)
Settles SinkFault last pending before now = (last ≡ SinkFault) × (now ≡ before)
Settles OutOfMemory last pending before now = (last ≡ OutOfMemory) × (now ≡ before)

abbrev pub SettlesFaults : Fail → Fail → ℕ → ℕ → Type 0
SettlesFaults (Refused at) last before now = SinkCause last before now
SettlesFaults SourceFault last before now = now ≡ before
SettlesFaults SinkFault last before now = now ≡ before
SettlesFaults OutOfMemory last before now = now ≡ before

abbrev pub status_of : Fail → Status
status_of (Refused at) = record { code = 4; place = at }
status_of SourceFault = record { code = 3; place = 0 }
status_of SinkFault = record { code = 5; place = 0 }
status_of OutOfMemory = record { code = 6; place = 0 }

-- 8 where something was left out
abbrev pub whole_status : Bool → Status
whole_status some_out = record { code = if some_out then 8 else 0; place = 0 }
