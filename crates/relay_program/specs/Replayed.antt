-- How a replay ends.
use Rattle.std.specs.Prelude.{◌≡◌, ◌⊎◌, ◌↔◌, ℕ, Bool, true, false, List, None, Some}
use Rattle.std.specs.declared.option.Option.{Option}
use Rattle.std.specs.Io.KnownBytes.{append_known, IsAtEnd}
use Rattle.relay_base.specs.declared.limits.Status.{Status}
use Rattle.relay_outside.specs.Counts.{Rose}
use Rattle.put_text.specs.Written.{WritesPart}
use Rattle.relay_program.specs.Outcome.{InOut, IsScriptCode, status_without_faults}
use Rattle.relay_program.specs.Replay.{Printed, outside_line}

-- all that is printed is written
pub record WritesPrinted (script : List ℕ) (before now : Option (List ℕ)) : Type 0 where
  pub text : List ℕ
  pub printed : Printed script text
  pub grown : now ≡ append_known before text

-- a first part of it
pub record WritesPartPrinted (script : List ℕ) (before now : Option (List ℕ)) : Type 0 where
  pub text : List ℕ
  pub printed : Printed script text
  pub part : WritesPart text before now

-- what a status says of the source and the sink before and after, where `asked` says whether the words ask
-- for the command
pub record Replayed (asked : Bool) (old new : InOut) (status : Status) : Type 0 where
  pub words : (status.code ≡ 2) ↔ (asked ≡ false)
  pub read : status.code ≡ 0 → IsAtEnd new.left
  pub inside : status.code ≡ 0 → (text : List ℕ) → old.left ≡ Some text → outside_line text ≡ None
  pub line : status.code ≡ 4 → (text : List ℕ) → old.left ≡ Some text → outside_line text ≡ Some status.place
  pub written : status.code ≡ 0 → (text : List ℕ) → old.left ≡ Some text → WritesPrinted text old.held new.held
  pub nothing : (status.code ≡ 2) ⊎ ((status.code ≡ 3) ⊎ (status.code ≡ 4)) → new.held ≡ old.held
  pub part : (text : List ℕ) → old.left ≡ Some text → (new.held ≡ old.held) ⊎ WritesPartPrinted text old.held new.held
  pub source_fault : status.code ≡ 3 → Rose old.source_faults new.source_faults
  pub sink_fault : status.code ≡ 5 → Rose old.sink_faults new.sink_faults
  pub source : (status.code ≡ 3 → ⊥) → new.source_faults ≡ old.source_faults
  pub sink : (status.code ≡ 5 → ⊥) → new.sink_faults ≡ old.sink_faults
  pub codes : IsScriptCode status.code
  pub place : (status.code ≡ 4 → ⊥) → status.place ≡ 0
  pub complete : (text : List ℕ) → old.left ≡ Some text → asked ≡ true → (Rose old.source_faults new.source_faults → ⊥)
      → (Rose old.sink_faults new.sink_faults → ⊥)
      → (status ≡ status_without_faults (outside_line text)) ⊎ (status.code ≡ 6)
