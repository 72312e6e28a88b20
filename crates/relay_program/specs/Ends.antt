-- Only proofs and private functions use it.
-- How a drill ends.
use Rattle.std.specs.Prelude.{◌≡◌, ℕ, ◌+◌, List, ◌++◌, length, Some}
use Rattle.std.specs.declared.option.Option.{Option}
use Rattle.relay_base.specs.declared.limits.Status.{Status}
use Rattle.relay_program.specs.declared.drills.Drilling.{Drilling}
use Rattle.relay_program.specs.declared.drills.DrillFail.{DrillFail}
use Rattle.relay_program.specs.declared.drills.DrillFail.TheVariants.{Outside, SourceFault, SinkFault, OutOfMemory}
use Rattle.relay_script.specs.Script.{lines}
use Rattle.relay_program.specs.Drill.{drill_text, outside_line}
use Rattle.put_text.specs.Written.{Writes}
use Rattle.relay_program.specs.Parts.{lines_ahead, text_ahead, outside_ahead}

-- what is ahead of a drill in the middle of its script, whatever follows what was read
pub record Ahead (d : Drilling) (left held : Option (List ℕ)) (script : List ℕ) (before : Option (List ℕ)) : Type 0 where
  pub read : List ℕ
  pub rest : List ℕ
  pub script_is : script ≡ read ++ rest
  pub left_is : left ≡ Some rest
  pub writes : (more : List ℕ) → Writes (drill_text (read ++ more)) (text_ahead d more) before held
  pub outside : (more : List ℕ) → outside_ahead d more ≡ outside_line (read ++ more)
  pub counted : (more : List ℕ) → d.number + length (lines_ahead d more) ≡ 1 + length (lines (read ++ more))

abbrev pub status_of : DrillFail → Status
status_of (Outside line) = record { code = 4; place = line }
status_of SourceFault = record { code = 3; place = 0 }
status_of SinkFault = record { code = 5; place = 0 }
status_of OutOfMemory = record { code = 6; place = 0 }
