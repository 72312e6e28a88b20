-- THE RUN OF A SOAK: one session publishes, and three play.
use Rattle.std.specs.Prelude.{◌≡◌, ℕ, zero, suc, ◌%◌, Bool, true, false, ◌==◌, List, [], ◌∷◌, ◌++◌, codes}
use Rattle.std.specs.Fmt.{decimal}
use Rattle.relay_script.specs.declared.replay.ReplayLine.{ReplayLine}
use Rattle.relay_script.specs.declared.replay.ReplayLine.TheVariants.{Limits, Stream, Session, Piece, Turn}
use Rattle.relay_replay.specs.Scenes.{Does, SceneState, SettledIn, start}
use Rattle.relay_replay.specs.Sums.{Sums}
use Rattle.relay_soak.specs.Clients.{first_input, play, publish}
use Rattle.relay_soak.specs.Units.{piece}

-- in so many turns a session is to be idle
abbrev pub most_turns : ℕ
most_turns = 1000000

-- a line of a replay, or turns of a session until it is idle
pub data Act : Type 0 where
  Line : ReplayLine → Act
  Settle : ℕ → Act

abbrev pub DoesAct : Act → SceneState → SceneState → Type 0
DoesAct (Line line) s t = Does line s t
DoesAct (Settle n) s t = SettledIn true most_turns n s t

-- acts lead from one state to another
abbrev pub Runs : List Act → SceneState → SceneState → Type 0
Runs [] s t = t ≡ s
Runs (act ∷ acts) s t = (m : SceneState) × (DoesAct act s m × Runs acts m t)

-- ---- what is done

-- one stream that takes every key, and four sessions
abbrev pub opening : List Act
opening =
    Line (Limits 4096 1048576 4096 4 2500000) ∷ Line (Stream (codes "live") (codes "soak")) ∷ Line Session ∷ Line Session ∷ Line Session ∷ Line Session ∷ []

-- a session is given that, and takes turns until it is idle
abbrev pub given : ℕ → List ℕ → List Act
given n bytes = Line (Piece n bytes) ∷ Settle n ∷ []

abbrev pub plays : ℕ → List Act
plays n = given n (first_input play)

-- session 0 publishes, and the others play
abbrev pub joining : List Act
joining = given 0 (first_input publish) ++ (plays 1 ++ (plays 2 ++ plays 3))

abbrev pub turn_by : Bool → ℕ → List Act
turn_by true p = Line (Turn p 1) ∷ []
turn_by false p = []

-- a player takes one turn where its number divides that of the unit
abbrev pub turn_if : ℕ → ℕ → List Act
turn_if p i = turn_by (i % p == 0) p

-- unit i is published
abbrev pub unit_acts : ℕ → List Act
unit_acts i = given 0 (piece i) ++ (turn_if 1 i ++ (turn_if 2 i ++ turn_if 3 i))

-- the first so many units
abbrev pub units : ℕ → List Act
units zero = []
units (suc n) = units n ++ unit_acts n

-- with that number of units
abbrev pub acts : ℕ → List Act
acts n = opening ++ (joining ++ units n)

-- WHAT IS PRINTED of the state that the run leads to: how many units there were, and what it came to
pub record Printed (n : ℕ) (text : List ℕ) : Type 0 where
  pub state : SceneState
  pub run : Runs (acts n) start state
  pub sums : List ℕ
  pub summary : Sums state sums
  pub text_is : text ≡ (codes "soak " ++ decimal n ++ codes "\n") ++ sums
