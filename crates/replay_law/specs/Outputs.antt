-- THE OUTPUTS OF A SCRIPT, and when two differ in the total alone
use Rattle.std.specs.Prelude.{◌≡◌, ◌++◌, ℕ, List, All, Option, None, Some}
use Rattle.relay_script.specs.ReplayLines.{meaning}
use Rattle.relay_script.specs.Script.{Line, line_says, lines}
use Rattle.relay_script.specs.declared.replay.ReplayLine.{ReplayLine}
use Rattle.relay_script.specs.declared.replay.ReplayLine.TheVariants.{OpenHttp, OpenEdge}
use Rattle.relay_replay.specs.Cast.{CastState}
use Rattle.relay_replay.specs.Prints.{held_line}
use Rattle.relay_program.specs.Replay.{Printed}
use Rattle.turn_law.specs.Twins.{HasRoom}

-- a line that opens neither a player over HTTP nor an edge
abbrev pub OpensNoOther : ReplayLine → Type 0
OpensNoOther OpenHttp = ⊥
OpensNoOther (OpenEdge n app name) = ⊥
OpensNoOther _ = Unit {0}

abbrev pub OpensNoOtherIf : Option ReplayLine → Type 0
OpensNoOtherIf None = Unit {0}
OpensNoOtherIf (Some line) = OpensNoOther line

abbrev pub OpensNoOtherBy : Line → Type 0
OpensNoOtherBy line = OpensNoOtherIf (line_says meaning line)

-- A SCRIPT THAT OPENS SESSIONS ALONE
abbrev pub OpensSessionsAlone : List ℕ → Type 0
OpensSessionsAlone script = All OpensNoOtherBy (lines script)

-- no stream's history has as many calls as it can have
abbrev pub HasRoomIf : Option CastState → Type 0
HasRoomIf None = Unit {0}
HasRoomIf (Some c) = HasRoom c.port

-- AN OUTPUT of a script: what is printed of the state that its lines lead to, where each history has room
pub record IsOutput (script text : List ℕ) : Type 0 where
  pub printed : Printed script text
  pub room : HasRoomIf printed.state.cast

-- THEY DIFFER IN THE TOTAL ALONE, which is the first number of the last line
pub record DifferInTotal (text text' : List ℕ) : Type 0 where
  -- all lines but the last
  pub before : List ℕ
  pub sum : ℕ
  pub total : ℕ
  pub total' : ℕ
  pub first : text ≡ before ++ held_line total sum
  pub second : text' ≡ before ++ held_line total' sum
