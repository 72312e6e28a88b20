-- The units that a session publishes
use Rattle.std.specs.Prelude.{ℕ, List, [], ◌∷◌, ◌++◌, Option, Some, None}
use Rattle.av_unit.specs.Media.{Media}
use Rattle.chunk_wire.specs.declared.message.Message.{Message}
use Rattle.stream_model.specs.declared.calls.Call.{Call}
use Rattle.stream_model.specs.declared.calls.Call.TheVariants as call
use Rattle.stream_model.specs.declared.calls.Entry.{Entry}
use Rattle.session_owed.specs.Dialogue.{Dialogue}
use Rattle.session_owed.specs.Talk.{Own, talk}

-- the unit that a call publishes
abbrev pub unit_of : Call → List Media
unit_of (call.Push unit) = unit ∷ []
unit_of call.Begin = []
unit_of call.End = []
unit_of call.Join = []
unit_of (call.Take player want) = []
unit_of (call.Leave player) = []
unit_of call.Count = []
unit_of (call.BeginAs name) = []
unit_of (call.JoinAs name) = []

-- the units of the calls that publish one, in their order
unfoldable pub pushed : List Entry → List Media
pushed [] = []
pushed (e ∷ es) = unit_of e.call ++ pushed es

-- THE UNITS PUBLISHED: those of the calls that the dialogue makes of the messages
abbrev pub published : {S : Type 0} → Dialogue S → List (ℕ × Message) → List Own → List Media
published d ms C = pushed (talk d C ms).made

-- the units of a session's own calls, in their order
unfoldable pub pushed_by : List Own → List Media
pushed_by [] = []
pushed_by (c ∷ C) = unit_of c.0.call ++ pushed_by C

-- and that of the call that waits
abbrev pub pushed_in : Option Entry → List Media
pushed_in None = []
pushed_in (Some e) = unit_of e.call
