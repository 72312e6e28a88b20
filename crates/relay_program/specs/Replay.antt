-- What the script of a replay leads to, taken line by line, and what is printed at its end.
use Rattle.std.specs.Prelude.{◌≡◌, ℕ, ◌+◌, List, [], ◌∷◌, None, Some}
use Rattle.std.specs.declared.option.Option.{Option}
use Rattle.relay_script.specs.declared.replay.ReplayLine.{ReplayLine}
use Rattle.relay_script.specs.Script.{Line, lines, line_says}
use Rattle.relay_script.specs.ReplayLines.{meaning}
use Rattle.relay_replay.specs.Stand.{Stand, after_line}
use Rattle.relay_replay.specs.Scenes.{SceneState, Does, start, stand_of}
use Rattle.relay_replay.specs.Prints.{Prints}
use Rattle.relay_replay.specs.Whole.{given_more}

-- what a line does; one outside the grammar does nothing that could be said
abbrev pub DoesLine : Option ReplayLine → SceneState → SceneState → Type 0
DoesLine None s t = ⊥
DoesLine (Some line) s t = Does line s t

-- THE RUN: lines lead from one state to another
abbrev pub Goes : List Line → SceneState → SceneState → Type 0
Goes [] s t = t ≡ s
Goes (line ∷ lines) s t = (m : SceneState) × (DoesLine (line_says meaning line) s m × Goes lines m t)

-- THE PRINTED text of the state that the script's lines lead to, from the empty one on
pub record Printed (script text : List ℕ) : Type 0 where
  pub state : SceneState
  pub run : Goes (lines script) start state
  pub prints : Prints state text

-- the bytes that lines give to each session, behind those given before
abbrev pub given_line : Option ReplayLine → (ℕ → List ℕ) → ℕ → List ℕ
given_line None given = given
given_line (Some line) given = given_more line given

abbrev pub given_then : List Line → (ℕ → List ℕ) → ℕ → List ℕ
given_then [] given = given
given_then (line ∷ lines) given = given_then lines (given_line (line_says meaning line) given)

abbrev pub given_in : List ℕ → ℕ → List ℕ
given_in script = given_then (lines script) (λ (q : ℕ). [])

-- the number of the first line outside the grammar, where this one has number n
abbrev pub outside_then : ℕ → Option Stand → (Stand → Option ℕ) → Option ℕ
outside_then n None more = Some n
outside_then n (Some s) more = more s

abbrev pub outside_from : ℕ → List Line → Stand → Option ℕ
outside_from n [] s = None
outside_from n (line ∷ lines) s = outside_then n (after_line (line_says meaning line) s) (λ t. outside_from (n + 1) lines t)

-- the number, from 1, of the first line of a script that is outside the grammar
abbrev pub outside_line : List ℕ → Option ℕ
outside_line script = outside_from 1 (lines script) (stand_of start)
