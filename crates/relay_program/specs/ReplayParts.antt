-- Only proofs and private functions use it.
-- What the parts of a replay do.
use Rattle.std.specs.Prelude.{◌≡◌, ℕ, ◌+◌, ◌≤◌, ◌^◌, List, [], ◌++◌, length, None, Some}
use Rattle.std.specs.declared.option.Option.{Option}
use Rattle.relay_program.specs.declared.drills.DrillFail.{DrillFail}
use Rattle.relay_program.specs.declared.drills.DrillFail.TheVariants.{Outside, SourceFault, SinkFault, OutOfMemory}
use Rattle.relay_program.specs.declared.replays.Replaying.{Replaying}
use Rattle.relay_script.specs.ReplayLines.{meaning}
use Rattle.relay_script.specs.Script.{Line, lines_from, lines}
use Rattle.relay_replay.specs.Stand.{after_line}
use Rattle.relay_replay.specs.Prints.{Prints}
use Rattle.relay_replay.specs.Scenes.{SceneState, IsSound, stand_of, start}
use Rattle.relay_program.specs.Parts.{IsOver}
use Rattle.relay_program.specs.Replay.{DoesLine, Goes, outside_from, outside_line}

-- what a replay keeps of itself
pub record Fit (r : Replaying) : Type 0 where
  pub place : r.place ≤ 2 ^ 28
  pub line : length r.line ≤ 65536
  pub number : r.number ≤ r.place + 1
  pub sound : IsSound r.scene

-- the lines, and the first line outside, of what comes after a part of the script
abbrev pub lines_ahead : Replaying → List ℕ → List Line
lines_ahead r rest = lines_from r.place r.line rest

abbrev pub outside_ahead : Replaying → List ℕ → Option ℕ
outside_ahead r rest = outside_from r.number (lines_ahead r rest) (stand_of r.scene)

-- from before some bytes of the script to after them: what leads on from there leads on from here
pub record Advances (old : Replaying) (ahead : List ℕ) (new : Replaying) (left : List ℕ) : Type 0 where
  pub runs : (t : SceneState) → Goes (lines_ahead new left) new.scene t → Goes (lines_ahead old ahead) old.scene t
  pub outside : outside_ahead new left ≡ outside_ahead old ahead

-- why the script isn't taken to its end, where that is its first line outside
abbrev pub StopsAt : DrillFail → Option ℕ → Type 0
StopsAt (Outside n) outside = outside ≡ Some n
StopsAt SourceFault outside = Unit {0}
StopsAt SinkFault outside = ⊥
StopsAt OutOfMemory outside = Unit {0}

-- it isn't for a fault of the sink
abbrev pub HasNoSink : DrillFail → Type 0
HasNoSink (Outside n) = Unit {0}
HasNoSink SourceFault = Unit {0}
HasNoSink SinkFault = ⊥
HasNoSink OutOfMemory = Unit {0}

-- a part that has no source
abbrev pub Stops : DrillFail → Replaying → List ℕ → Type 0
Stops (Outside n) old ahead = outside_ahead old ahead ≡ Some n
Stops SourceFault old ahead = ⊥
Stops SinkFault old ahead = ⊥
Stops OutOfMemory old ahead = Unit {0}

-- bytes were added to the line
pub record Extended (old : Replaying) (run : List ℕ) (new : Replaying) : Type 0 where
  pub scene : new.scene ≡ old.scene
  pub line : new.line ≡ old.line ++ run
  pub place : new.place ≡ old.place + length run
  pub number : new.number ≡ old.number

abbrev pub ExtendFails : DrillFail → Replaying → List ℕ → Type 0
ExtendFails (Outside n) old run = (n ≡ old.number) × IsOver (length old.line + length run) (old.place + length run)
ExtendFails SourceFault old run = ⊥
ExtendFails SinkFault old run = ⊥
ExtendFails OutOfMemory old run = Unit {0}

-- a line was obeyed
pub record Obeyed (line : List ℕ) (old new : SceneState) : Type 0 where
  pub does : DoesLine (meaning line) old new
  pub after : after_line (meaning line) (stand_of old) ≡ Some (stand_of new)

abbrev pub ObeyFails : DrillFail → List ℕ → ℕ → SceneState → Type 0
ObeyFails (Outside n) line number old = (n ≡ number) × (after_line (meaning line) (stand_of old) ≡ None)
ObeyFails SourceFault line number old = ⊥
ObeyFails SinkFault line number old = ⊥
ObeyFails OutOfMemory line number old = Unit {0}

-- what is ahead of a replay in the middle of its script, whatever follows what was read
pub record Ahead (r : Replaying) (left : Option (List ℕ)) (script : List ℕ) : Type 0 where
  pub read : List ℕ
  pub rest : List ℕ
  pub script_is : script ≡ read ++ rest
  pub left_is : left ≡ Some rest
  pub runs : (more : List ℕ) (t : SceneState) → Goes (lines_ahead r more) r.scene t → Goes (lines (read ++ more)) start t
  pub outside : (more : List ℕ) → outside_ahead r more ≡ outside_line (read ++ more)

-- the script ends here, in that state
pub record EndsIn (old : Replaying) (t : SceneState) : Type 0 where
  pub goes : Goes (lines_ahead old []) old.scene t
  pub inside : outside_ahead old [] ≡ None

-- and that is printed
pub record EndsPrinted (old : Replaying) (text : List ℕ) : Type 0 where
  pub state : SceneState
  pub ends : EndsIn old state
  pub prints : Prints state text
