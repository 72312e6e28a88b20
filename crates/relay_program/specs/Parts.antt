-- Only proofs and private functions use it.
-- What the parts of a drill do.
use Rattle.std.specs.Prelude.{◌≡◌, ◌⊎◌, ℕ, ◌+◌, ◌≤◌, ◌<◌, ◌^◌, List, [], ◌++◌, length, None, Some, Ok, Err}
use Rattle.std.specs.declared.option.Option.{Option}
use Rattle.std.specs.declared.result.Result.{Result}
use Rattle.std.specs.Io.KnownBytes.{append_known}
use Rattle.relay_outside.specs.Counts.{Rose}
use Rattle.relay_program.specs.declared.drills.Drilling.{Drilling}
use Rattle.relay_program.specs.declared.drills.DrillFail.{DrillFail}
use Rattle.relay_program.specs.declared.drills.DrillFail.TheVariants.{Outside, SourceFault, SinkFault, OutOfMemory}
use Rattle.relay_script.specs.declared.line.DrillLine.{DrillLine}
use Rattle.relay_script.specs.declared.line.DrillLine.TheVariants.{Nothing, Ring, Pool, Step, Held}
use Rattle.relay_script.specs.declared.line.LineFail.{LineFail}
use Rattle.relay_script.specs.declared.line.LineFail.TheVariants as line_fail
use Rattle.relay_script.specs.Script.{Line, lines_from}
use Rattle.relay_program.specs.Drill.{State, Done, table_of, text_from, outside_from, drill_text, outside_line}
use Rattle.put_text.specs.Written.{Writes, WritesPart}
use Rattle.relay_program.specs.Outcome.{WritesWholeLines}

-- why a text isn't put
abbrev pub PutFails : DrillFail → List ℕ → Option (List ℕ) → Option (List ℕ) → Type 0
PutFails (Outside n) text before now = ⊥
PutFails SourceFault text before now = ⊥
PutFails SinkFault text before now = WritesPart text before now
PutFails OutOfMemory text before now = WritesPart text before now

-- the sink's faults, where a part fails that has a sink alone
abbrev pub SinkCause : DrillFail → ℕ → ℕ → Type 0
SinkCause (Outside n) before now = now ≡ before
SinkCause SourceFault before now = ⊥
SinkCause SinkFault before now = Rose before now
SinkCause OutOfMemory before now = now ≡ before

-- the sink's faults
abbrev pub SinkFaults : DrillFail → ℕ → ℕ → Type 0
SinkFaults (Outside n) before now = now ≡ before
SinkFaults SourceFault before now = now ≡ before
SinkFaults SinkFault before now = Rose before now
SinkFaults OutOfMemory before now = now ≡ before

-- the source's faults
abbrev pub SourceFaults : DrillFail → ℕ → ℕ → Type 0
SourceFaults (Outside n) before now = now ≡ before
SourceFaults SourceFault before now = Rose before now
SourceFaults SinkFault before now = now ≡ before
SourceFaults OutOfMemory before now = now ≡ before

-- what a line prints, where it is inside the grammar
abbrev pub said_by : Option Done → List ℕ
said_by None = []
said_by (Some d) = d.text

-- a line was answered
pub record Answered (after : Option Done) (new : State) (before now : Option (List ℕ)) : Type 0 where
  pub does : Done
  pub after_is : after ≡ Some does
  pub state : new ≡ does.state
  pub writes : now ≡ append_known before does.text

-- why it isn't
abbrev pub AnswerFails : DrillFail → Option Done → ℕ → Option (List ℕ) → Option (List ℕ) → Type 0
AnswerFails (Outside n) after number before now = (n ≡ number) × (after ≡ None) × (now ≡ before)
AnswerFails SourceFault after number before now = ⊥
AnswerFails SinkFault after number before now = WritesPart (said_by after) before now
AnswerFails OutOfMemory after number before now = WritesPart (said_by after) before now

-- why a line does nothing
abbrev pub ActFails : LineFail → Option Done → Type 0
ActFails line_fail.Outside after = after ≡ None
ActFails line_fail.OutOfMemory after = Unit {0}

-- a pool has at most 64 slots
abbrev pub HasFewSlots : DrillLine → Type 0
HasFewSlots Nothing = Unit {0}
HasFewSlots (Ring limits) = Unit {0}
HasFewSlots (Pool slots) = slots ≤ 64
HasFewSlots (Step entry) = Unit {0}
HasFewSlots Held = Unit {0}

-- what a drill keeps of itself
pub record Fit (d : Drilling) : Type 0 where
  pub place : d.place ≤ 2 ^ 28
  pub line : length d.line ≤ 65536
  pub past : length (table_of d.made).past ≤ d.place
  pub number : d.number ≤ d.place + 1

-- the lines, the reply lines and the first line outside, of what comes after a part of the script
abbrev pub lines_ahead : Drilling → List ℕ → List Line
lines_ahead d rest = lines_from d.place d.line rest

abbrev pub text_ahead : Drilling → List ℕ → List ℕ
text_ahead d rest = text_from (lines_ahead d rest) d.made

abbrev pub outside_ahead : Drilling → List ℕ → Option ℕ
outside_ahead d rest = outside_from d.number (lines_ahead d rest) d.made

-- from before some bytes of the script to after them
pub record Advances (old : Drilling) (ahead : List ℕ) (new : Drilling) (left : List ℕ) (before now : Option (List ℕ)) : Type 0 where
  pub writes : Writes (text_ahead old ahead) (text_ahead new left) before now
  pub outside : outside_ahead new left ≡ outside_ahead old ahead
  pub counted : new.number + length (lines_ahead new left) ≡ old.number + length (lines_ahead old ahead)

-- a text's end with the first line outside, or a part of it
abbrev pub FailsAt : DrillFail → List ℕ → Option ℕ → Option (List ℕ) → Option (List ℕ) → Type 0
FailsAt (Outside n) text outside before now = Writes text [] before now × (outside ≡ Some n)
FailsAt SourceFault text outside before now = WritesPart text before now
FailsAt SinkFault text outside before now = WritesPart text before now
FailsAt OutOfMemory text outside before now = WritesPart text before now

abbrev pub Fails : DrillFail → Drilling → List ℕ → Option (List ℕ) → Option (List ℕ) → Type 0
Fails fail old ahead before now = FailsAt fail (text_ahead old ahead) (outside_ahead old ahead) before now

-- where the source failed, the whole lines that were read are answered
abbrev pub AfterFault : DrillFail → Option (List ℕ) → Option (List ℕ) → Option (List ℕ) → Option (List ℕ) → Type 0
AfterFault (Outside n) script left before now = Unit {0}
AfterFault SourceFault script left before now = WritesWholeLines drill_text outside_line script left before now
AfterFault SinkFault script left before now = Unit {0}
AfterFault OutOfMemory script left before now = Unit {0}

-- the same of a result
abbrev pub AfterFaultOf : Result (Unit {0}) DrillFail → Option (List ℕ) → Option (List ℕ) → Option (List ℕ) → Option (List ℕ) → Type 0
AfterFaultOf (Ok x) script left before now = Unit {0}
AfterFaultOf (Err fail) script left before now = AfterFault fail script left before now

-- bytes were added to the line
pub record Extended (old : Drilling) (run : List ℕ) (new : Drilling) : Type 0 where
  pub made : new.made ≡ old.made
  pub line : new.line ≡ old.line ++ run
  pub place : new.place ≡ old.place + length run
  pub number : new.number ≡ old.number

-- a line or a script of so many bytes is too long
abbrev pub IsOver : ℕ → ℕ → Type 0
IsOver len place = (65536 < len) ⊎ (2 ^ 28 < place)

abbrev pub ExtendFails : DrillFail → Drilling → List ℕ → Type 0
ExtendFails (Outside n) old run = (n ≡ old.number) × IsOver (length old.line + length run) (old.place + length run)
ExtendFails SourceFault old run = ⊥
ExtendFails SinkFault old run = ⊥
ExtendFails OutOfMemory old run = Unit {0}
