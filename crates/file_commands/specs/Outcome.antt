-- How a command ends that reads a file and writes what it gives.
use Rattle.std.specs.Prelude.{◌≡◌, ◌⊎◌, ◌↔◌, ◌≤◌, ◌<◌, ◌^◌, ℕ, Bool, true, false, List, ◌++◌, length, Some}
use Rattle.std.specs.declared.option.Option.{Option}
use Rattle.std.specs.Io.KnownBytes.{append_known, IsAtEnd}
use Rattle.relay_base.specs.declared.limits.Status.{Status}
use Rattle.relay_outside.specs.Counts.{Rose}
use Rattle.put_text.specs.Written.{WritesNearly, WritesPart}

-- how many bytes of a file are read at most; a byte behind them is refused
abbrev pub most_bytes : ℕ
most_bytes = 2 ^ 36

-- of a text that grows so many bytes are put at once at the latest
abbrev pub most_pending : ℕ
most_pending = 65536

-- what is seen of a source and a sink: what is left of the one and what the other holds, where they tell it,
-- and their faults
pub record Seen : Type 0 where
  pub left : Option (List ℕ)
  pub held : Option (List ℕ)
  pub source_faults : ℕ
  pub sink_faults : ℕ

abbrev pub seen : Option (List ℕ) → Option (List ℕ) → ℕ → ℕ → Seen
seen left held source_faults sink_faults = record { left = left; held = held; source_faults = source_faults; sink_faults = sink_faults }

abbrev pub IsCode : ℕ → Type 0
IsCode code = (code ≡ 0) ⊎ ((code ≡ 2) ⊎ ((code ≡ 3) ⊎ ((code ≡ 4) ⊎ ((code ≡ 5) ⊎ ((code ≡ 6) ⊎ (code ≡ 8))))))

-- these bytes were read, whatever is left of the file
abbrev pub IsReadTo : List ℕ → Seen → Seen → Type 0
IsReadTo read old new = (rest : List ℕ) × (old.left ≡ Some (read ++ rest)) × (new.left ≡ Some rest)

-- A command is told by the text that bytes give so far (`Gives`: bytes, text), by where they are refused
-- (`Stops`: bytes, place, the text of what stands before) or why they can't end (`Cut`: the same), and by
-- what they give in the end (`Whole`: bytes, whether something was left out, text).
module _ (Gives : List ℕ → List ℕ → Type 0) where
  -- some first bytes give this text
  pub record GivenBy (read text : List ℕ) : Type 0 where
    pub front : List ℕ
    pub behind : List ℕ
    pub parts : read ≡ front ++ behind
    pub gives : Gives front text

  -- the file has more bytes than are read
  pub record IsTooLong (file : List ℕ) (at : ℕ) (text : List ℕ) : Type 0 where
    pub front : List ℕ
    pub behind : List ℕ
    pub parts : file ≡ front ++ behind
    pub full : length front ≡ most_bytes
    pub more : 0 < length behind
    pub place : at ≡ most_bytes
    pub gives : Gives front text

  -- what all bytes give that were read is written but for the last of it, which is less than a part
  abbrev pub WritesOfRead : List ℕ → Option (List ℕ) → Option (List ℕ) → Type 0
  WritesOfRead read before now = (text : List ℕ) × Gives read text × WritesNearly most_pending text before now

  -- a first part is written of what some first bytes give
  abbrev pub WritesOfFront : List ℕ → Option (List ℕ) → Option (List ℕ) → Type 0
  WritesOfFront read before now = (text : List ℕ) × GivenBy read text × WritesPart text before now

module _ (Stops : List ℕ → ℕ → List ℕ → Type 0) where
  -- some first bytes, no more than are read, are refused there
  pub record StopsIn (file : List ℕ) (at : ℕ) (text : List ℕ) : Type 0 where
    pub front : List ℕ
    pub behind : List ℕ
    pub parts : file ≡ front ++ behind
    pub within : length front ≤ most_bytes
    pub stops : Stops front at text

module _ (Cut : List ℕ → ℕ → List ℕ → Type 0) where
  -- the file may not end there
  pub record IsCut (file : List ℕ) (at : ℕ) (text : List ℕ) : Type 0 where
    pub within : length file ≤ most_bytes
    pub cut : Cut file at text

module _ (Whole : List ℕ → Bool → List ℕ → Type 0) where
  -- all of the file was read, and its text is written
  pub record WritesAll (file : List ℕ) (some_out : Bool) (before now : Option (List ℕ)) : Type 0 where
    pub text : List ℕ
    pub within : length file ≤ most_bytes
    pub whole : Whole file some_out text
    pub written : now ≡ append_known before text

  -- a first part is written of what a file gives that was read to its end
  abbrev pub WritesOfFile : List ℕ → Option (List ℕ) → Option (List ℕ) → Type 0
  WritesOfFile read before now = (some_out : Bool) × ((text : List ℕ) × Whole read some_out text × WritesPart text before now)

module _ (Gives : List ℕ → List ℕ → Type 0) (Whole : List ℕ → Bool → List ℕ → Type 0) where
  -- a first part is written of what the bytes give that were read
  abbrev pub WritesOf : List ℕ → Option (List ℕ) → Option (List ℕ) → Type 0
  WritesOf read before now = WritesOfFront Gives read before now ⊎ WritesOfFile Whole read before now

module _ (Gives : List ℕ → List ℕ → Type 0) (Stops Cut : List ℕ → ℕ → List ℕ → Type 0) where
  -- THE REFUSAL of a file: where it is refused, and the text of what stands before
  abbrev pub Refused : List ℕ → ℕ → List ℕ → Type 0
  Refused file at text = StopsIn Stops file at text ⊎ (IsCut Cut file at text ⊎ IsTooLong Gives file at text)

  -- the file was refused there, and the text of what stands before is written
  abbrev pub WritesUpTo : List ℕ → ℕ → Option (List ℕ) → Option (List ℕ) → Type 0
  WritesUpTo file at before now = (text : List ℕ) × Refused file at text × (now ≡ append_known before text)

module _ (Gives : List ℕ → List ℕ → Type 0) (Stops Cut : List ℕ → ℕ → List ℕ → Type 0) (Whole : List ℕ → Bool → List ℕ → Type 0) where
  -- what a status says of the source and the sink before and after, where `asked` says whether the words ask
  -- for the command
  pub record Outcome (asked : Bool) (old new : Seen) (status : Status) : Type 0 where
    pub words : (status.code ≡ 2) ↔ (asked ≡ false)
    pub read : (status.code ≡ 0) ⊎ (status.code ≡ 8) → IsAtEnd new.left
    pub all : status.code ≡ 0 → (file : List ℕ) → old.left ≡ Some file → WritesAll Whole file false old.held new.held
    pub left_out : status.code ≡ 8 → (file : List ℕ) → old.left ≡ Some file → WritesAll Whole file true old.held new.held
    pub refused : status.code ≡ 4 → (file : List ℕ) → old.left ≡ Some file → WritesUpTo Gives Stops Cut file status.place old.held new.held
    pub after_fault : status.code ≡ 3 → (read : List ℕ) → IsReadTo read old new → WritesOfRead Gives read old.held new.held
    pub part : (status.code ≡ 5) ⊎ (status.code ≡ 6) → (read : List ℕ) → IsReadTo read old new → WritesOf Gives Whole read old.held new.held
    pub source_fault : status.code ≡ 3 → Rose old.source_faults new.source_faults
    pub sink_fault : status.code ≡ 5 → Rose old.sink_faults new.sink_faults
    pub source : (status.code ≡ 3 → ⊥) → new.source_faults ≡ old.source_faults
    pub sink : (status.code ≡ 5 → ⊥) → new.sink_faults ≡ old.sink_faults
    pub codes : IsCode status.code
    pub place : (status.code ≡ 4 → ⊥) → status.place ≡ 0
