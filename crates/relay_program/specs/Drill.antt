-- What the script of a drill is answered: a fold over its lines.
use Rattle.std.specs.Prelude.{◌≡◌, ℕ, Bool, true, not, if◌then◌else◌, ◌+◌, List, [], ◌∷◌, ◌++◌, None, Some, is_some}
use Rattle.std.specs.declared.option.Option.{Option}
use Rattle.stream_model.specs.declared.calls.StreamLimits.{StreamLimits}
use Rattle.stream_model.specs.declared.calls.Call.{Call}
use Rattle.stream_model.specs.declared.calls.Call.TheVariants as call
use Rattle.stream_model.specs.declared.calls.Entry.{Entry}
use Rattle.stream_model.specs.declared.replies.Reply.{Reply}
use Rattle.stream_model.specs.Shape.{TableKnown, stream_shape, pool_shape, new_table, table_answered, shape_reply, shape_held, IsShapeLawful, IsLegalAt}
use Rattle.relay_script.specs.declared.line.DrillLine.{DrillLine}
use Rattle.relay_script.specs.declared.line.DrillLine.TheVariants.{Nothing, Ring, Pool, Step, Held}
use Rattle.relay_script.specs.Script.{Line, lines, line_says}
use Rattle.relay_script.specs.Lines.{meaning}
use Rattle.relay_script.specs.Texts.{line_of, held_text}

-- ---- one line

-- the limits, where the script says none
abbrev pub defaults : StreamLimits
defaults = record { bytes = 33554432; items = 16384; players = 256 }

-- What a drill is between two lines: the limits, once a line has said them, and the stream or the pool, once a line has
-- asked for one.
pub record State : Type 0 where
  pub limits : Option StreamLimits
  pub table : Option TableKnown

-- before its first line
abbrev pub fresh : State
fresh = record { limits = None; table = None }

abbrev pub with_table : State → TableKnown → State
with_table s k = record { limits = s.limits; table = Some k }

abbrev pub limits_from : Option StreamLimits → StreamLimits
limits_from None = defaults
limits_from (Some limits) = limits

-- the limits of the stream, or of each slot of the pool
abbrev pub limits_of : State → StreamLimits
limits_of s = limits_from s.limits

abbrev pub table_from : StreamLimits → Option TableKnown → TableKnown
table_from limits None = new_table (stream_shape limits)
table_from limits (Some k) = k

-- what a call is made at: a stream, where no line has asked for a pool
abbrev pub table_of : State → TableKnown
table_of s = table_from (limits_of s) s.table

-- what a line has done: the state after it, and what it prints
pub record Done : Type 0 where
  pub state : State
  pub text : List ℕ

abbrev pub done : State → List ℕ → Done
done state text = record { state = state; text = text }

abbrev pub ring_from : StreamLimits → Option StreamLimits → Option TableKnown → Option Done
ring_from limits None None = Some (done (record { limits = Some limits; table = None }) [])
ring_from limits None (Some k) = None
ring_from limits (Some said) table = None

-- the limits are said before any line has done something
abbrev pub ring_does : StreamLimits → State → Option Done
ring_does limits s = ring_from limits s.limits s.table

abbrev pub pool_from : ℕ → State → Option TableKnown → Option Done
pool_from slots s None = Some (done (with_table s (new_table (pool_shape (limits_of s) slots))) [])
pool_from slots s (Some k) = None

-- a pool is asked for before any call, and before what is held
abbrev pub pool_does : ℕ → State → Option Done
pool_does slots s = pool_from slots s s.table

-- a broadcast at a pool has a name, and one at a stream has none
abbrev pub is_named_so : Bool → Call → Bool
is_named_so pool call.Begin = not pool
is_named_so pool (call.Push unit) = true
is_named_so pool call.End = true
is_named_so pool call.Join = not pool
is_named_so pool (call.Take player want) = true
is_named_so pool (call.Leave player) = true
is_named_so pool call.Count = true
is_named_so pool (call.BeginAs name) = pool
is_named_so pool (call.JoinAs name) = pool

-- whether the call may stand there
abbrev pub may_call : State → Call → Bool
may_call s call = is_named_so (is_some (table_of s).shape.slots) call

-- a call prints its reply
abbrev pub replied : State → Entry → Reply → Done
replied s entry r = done (with_table s (table_answered (table_of s) entry r)) (line_of r)

abbrev pub call_does : State → Entry → Option Done
call_does s entry =
    if may_call s entry.call then Some (replied s entry (shape_reply (table_of s).shape (table_of s).past entry)) else None

-- what the stream or the pool holds is printed, and it stays as it is
abbrev pub held_does : State → Done
held_does s = done (with_table s (table_of s)) (held_text (shape_held (table_of s).shape (table_of s).past))

-- what a line does in that state: None where it may not stand there
abbrev pub does : DrillLine → State → Option Done
does Nothing s = Some (done s [])
does (Ring limits) s = ring_does limits s
does (Pool slots) s = pool_does slots s
does (Step entry) s = call_does s entry
does Held s = Some (held_does s)

-- the same of a line by its meaning, which it lacks where it is no line of a script
abbrev pub after_line : Option DrillLine → State → Option Done
after_line None s = None
after_line (Some line) s = does line s

-- ---- all lines

-- what a line prints, and then the others; nothing from the first line on that is outside the grammar
abbrev pub text_then : Option Done → (State → List ℕ) → List ℕ
text_then None more = []
text_then (Some d) more = d.text ++ more d.state

abbrev pub text_from : List Line → State → List ℕ
text_from [] s = []
text_from (line ∷ lines) s = text_then (after_line (line_says meaning line) s) (λ t. text_from lines t)

-- the number of the first line outside the grammar, where this one has number n
abbrev pub outside_then : ℕ → Option Done → (State → Option ℕ) → Option ℕ
outside_then n None more = Some n
outside_then n (Some d) more = more d.state

abbrev pub outside_from : ℕ → List Line → State → Option ℕ
outside_from n [] s = None
outside_from n (line ∷ lines) s = outside_then n (after_line (line_says meaning line) s) (λ t. outside_from (n + 1) lines t)

-- what a drill prints of a script
abbrev pub drill_text : List ℕ → List ℕ
drill_text script = text_from (lines script) fresh

-- the number, from 1, of the first line of a script that is outside the grammar
abbrev pub outside_line : List ℕ → Option ℕ
outside_line script = outside_from 1 (lines script) fresh

-- the state after all lines, where none is outside the grammar
abbrev pub state_then : Option Done → (State → Option State) → Option State
state_then None more = None
state_then (Some d) more = more d.state

abbrev pub state_from : List Line → State → Option State
state_from [] s = Some s
state_from (line ∷ lines) s = state_then (after_line (line_says meaning line) s) (λ t. state_from lines t)

-- what a script that is read to its end has made
abbrev pub made_by : List ℕ → Option State
made_by script = state_from (lines script) fresh

-- What is known of a script that is read to its end. Each call at its stream or its pool was answered by the
-- rules, after the calls before it; and what each player was sent at a slot keeps the viewer's law.
pub record DrillKept (script : List ℕ) : Type 0 where
  pub state : State
  pub made : made_by script ≡ Some state
  pub rules : IsShapeLawful (table_of state).shape (table_of state).past
  pub viewers : (slot player : ℕ) → IsLegalAt (table_of state).shape (table_of state).past slot player
