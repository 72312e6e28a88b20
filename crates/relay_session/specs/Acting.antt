-- What a session asks of the streams is what it was granted there
use Rattle.std.specs.Prelude.{◌≡◌, ℕ, true, false, Bool, List, Option, Some, None}
use Rattle.command_dialog.specs.declared.types.Phase.{Phase}
use Rattle.command_dialog.specs.declared.types.Phase.TheVariants as phase
use Rattle.stream_model.specs.declared.calls.Call.{Call}
use Rattle.stream_model.specs.declared.calls.Call.TheVariants as call
use Rattle.stream_model.specs.declared.calls.Entry.{Entry}
use Rattle.relay_session.specs.SeatOwn.{Acts}
use Rattle.relay_session.specs.SeatState.{IsGranted, SeatState, active_at}
use Rattle.relay_session.specs.SeatVisits.{Visit, calls_at}
use Rattle.relay_session.specs.declared.core_fields.Core.{Core}
use Rattle.relay_session.specs.declared.end.End.{End}
use Rattle.relay_session.specs.declared.seat_answers.Active.{Active}
use Rattle.relay_session.specs.declared.seat_answers.Active.TheVariants as active

-- what its seat was granted at the place of its calls
abbrev pub granted_in : {Q : Type 0} → Option ℕ → Option (ℕ × Q) → Active → Active
granted_in None spot a = active.Nothing
granted_in (Some place) spot a = active_at spot a place

-- where it has a pass, its calls there say what it was granted
abbrev pub HasGrant : {Q : Type 0} → Option (ℕ × Q) → Active → List Visit → Type 0
HasGrant None a visits = Unit {0}
HasGrant (Some p) a visits = IsGranted a (calls_at p.0 visits)

-- what the dialogue takes for granted was granted
abbrev pub IsRole : Phase → Active → Type 0
IsRole phase.Idle a = Unit {0}
IsRole (phase.Asked r id) a = Unit {0}
IsRole (phase.Publishes id size) a = a ≡ active.Publishes
IsRole (phase.Plays p) a = a ≡ active.Plays p.player

-- a call that only the holder of such a grant makes
abbrev pub IsHolders : Active → Call → Type 0
IsHolders a (call.Push unit) = a ≡ active.Publishes
IsHolders a call.End = a ≡ active.Publishes
IsHolders a (call.Take player want) = a ≡ active.Plays player
IsHolders a (call.Leave player) = a ≡ active.Plays player
IsHolders a call.Begin = Unit {0}
IsHolders a (call.BeginAs name) = Unit {0}
IsHolders a call.Join = Unit {0}
IsHolders a (call.JoinAs name) = Unit {0}
IsHolders a call.Count = Unit {0}

abbrev pub WaitsSo : Active → Option Entry → Type 0
WaitsSo a None = Unit {0}
WaitsSo a (Some e) = IsHolders a e.call

abbrev pub is_push : Call → Bool
is_push (call.Push unit) = true
is_push _ = false

-- while a publish is granted a Push alone waits, and while a play is granted no call does
abbrev pub Suits : Phase → Call → Type 0
Suits (phase.Publishes id size) c = is_push c ≡ true
Suits (phase.Plays p) c = ⊥
Suits phase.Idle c = Unit {0}
Suits (phase.Asked r id) c = Unit {0}

abbrev pub SuitsIf : Phase → Option Entry → Type 0
SuitsIf p None = Unit {0}
SuitsIf p (Some e) = Suits p e.call

-- where it has a pass: one that has left makes none
abbrev pub WaitsThere : {Q : Type 0} → Option (ℕ × Q) → Active → Option Entry → Type 0
WaitsThere None g kept = Unit {0}
WaitsThere (Some p) g kept = WaitsSo g kept

-- ITS CALLS ARE THOSE OF ONE THAT ASKS FOR NOTHING BUT WHAT IT WAS GRANTED, and so are the one that waits and
-- the one by which it leaves
pub record Acting {Q : Type 0} (c : Core) (s : SeatState Q) : Type 0 where
  pub acts : (q : ℕ) → Acts (calls_at q s.visits)
  pub granted : HasGrant s.spot s.active s.visits
  pub waits : WaitsThere s.spot (granted_in c.place s.spot s.active) c.kept

-- and of one that lives the dialogue knows what was granted, and what waits
pub record HasRole {Q : Type 0} (c : Core) (s : SeatState Q) : Type 0 where
  pub role : IsRole c.dialog.phase (granted_in c.place s.spot s.active)
  pub suits : SuitsIf c.dialog.phase c.kept
  pub waits : WaitsSo (granted_in c.place s.spot s.active) c.kept

abbrev pub ActsBy : {Q : Type 0} → Option End → Core → SeatState Q → Type 0
ActsBy None c s = Acting c s × HasRole c s
ActsBy (Some e) c s = Acting c s
