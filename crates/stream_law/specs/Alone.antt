-- A history in which one player is alone: the calls of all other players are taken out of it.
use Rattle.std.specs.Prelude.{ℕ, Bool, true, false, ◌==◌, [], ◌∷◌}
use Rattle.stream_model.specs.declared.calls.Call.{Call}
use Rattle.stream_model.specs.declared.calls.Call.TheVariants as call
use Rattle.stream_model.specs.declared.calls.Entry.{Entry}
use Rattle.stream_model.specs.declared.replies.Reply.{Reply}
use Rattle.stream_model.specs.declared.replies.Reply.TheVariants.{Joined, Left}
use Rattle.stream_model.specs.History.{History}

-- the same caller, at the same place of its input, with this call
abbrev pub calling : Entry → Call → Entry
calling entry c = record { who = entry.who; at = entry.at; call = c }

abbrev pub one_if : Bool → Entry → Reply → History → History
one_if true entry r past = (entry, r) ∷ past
one_if false entry r past = past

-- a Join that was given the place is given the first one; any other is taken out
abbrev pub join_alone : Entry → Reply → ℕ → History → History
join_alone entry (Joined player from) place past = one_if (player == place) entry (Joined 0 from) past
join_alone entry r place past = past

abbrev pub left_alone : Reply → Reply
left_alone (Left player) = Left 0
left_alone r = r

-- a call that publishes stays, whoever made it. A call of the place's player stays, and its place is the
-- first one then. All others, and Counts, are taken out
abbrev pub call_alone : Entry → Call → Reply → ℕ → History → History
call_alone entry call.Begin r place past = (calling entry call.Begin, r) ∷ past
call_alone entry (call.BeginAs name) r place past = (calling entry (call.BeginAs name), r) ∷ past
call_alone entry (call.Push u) r place past = (calling entry (call.Push u), r) ∷ past
call_alone entry call.End r place past = (calling entry call.End, r) ∷ past
call_alone entry call.Join r place past = join_alone (calling entry call.Join) r place past
call_alone entry (call.JoinAs name) r place past = join_alone (calling entry (call.JoinAs name)) r place past
call_alone entry (call.Take player want) r place past = one_if (player == place) (calling entry (call.Take 0 want)) r past
call_alone entry (call.Leave player) r place past = one_if (player == place) (calling entry (call.Leave 0)) (left_alone r) past
call_alone entry call.Count r place past = past

-- THE HISTORY WITHOUT THE OTHER PLAYERS of a place
abbrev pub alone : History → ℕ → History
alone [] place = []
alone (step ∷ past) place = call_alone step.0 step.0.call step.1 place (alone past place)
