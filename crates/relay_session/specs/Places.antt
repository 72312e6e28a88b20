-- Where a session's calls are made, and what a call at a port says
use Rattle.std.specs.Prelude.{◌≡◌, ◌≢◌, ◌<◌, ◌≤◌, ℕ, List, Option, Some, None}
use Rattle.command_dialog.specs.declared.types.Ask.{Ask}
use Rattle.command_dialog.specs.declared.types.Grant.{Grant}
use Rattle.command_dialog.specs.declared.types.Grant.TheVariants as grant
use Rattle.stream_model.specs.declared.calls.Entry.{Entry}
use Rattle.stream_registry.specs.Names.{PortRules}
use Rattle.stream_registry.specs.Splits.{Kin}
use Rattle.stream_registry.specs.Told.{Step, Histories}
use Rattle.turn_gate.specs.declared.view.Branch.{Branch}
use Rattle.relay_session.specs.Alone.{GrowsBy, SplitsSo, made_step}
use Rattle.relay_session.specs.SeatState.{SeatState, Calls, Fails, GoOn, HasFit, IsElsewhere, IsNoted, Makes, StandsAt, Tries, active_at, active_then, known, place_of, stays}
use Rattle.relay_session.specs.SeatVisits.{calls_of}
use Rattle.relay_session.specs.declared.core_fields.Core.{Core}
use Rattle.relay_session.specs.declared.seat_answers.Made.{Made}

-- it is one of so many places
abbrev pub IsThere : ℕ → Option ℕ → Type 0
IsThere count None = Unit {0}
IsThere count (Some p) = p < count

abbrev pub IsGrantThere : ℕ → Grant → Type 0
IsGrantThere count (grant.Place p) = p < count
IsGrantThere count grant.NoName = Unit {0}
IsGrantThere count grant.Refused = Unit {0}

-- a desk grants none but these places
abbrev pub IsOffered : (Ask → Grant) → ℕ → Type 0
IsOffered desk count = (a : Ask) → IsGrantThere count (desk a)

-- a session belongs to a port of so many places: its pass was attached there, the place of its calls is
-- there, and its calls are those that were made
pub record IsAt {Q : Type 0} (fits : ℕ → Q → Type 0) (count : ℕ) (c : Core) (s : SeatState Q) : Type 0 where
  pub fit : HasFit fits s.spot
  pub there : IsThere count c.place
  pub calls : c.calls ≡ calls_of s.visits

-- A CALL AT A PORT was answered so: where the session is then, that the call stands once in the history
-- there, answered by the rules, or why it wasn't made, and what goes on for all others
pub record Asked {P Q : Type 0} (fits : P → ℕ → Q → Type 0) (rules : P → PortRules) (root : P → Histories) (seen : Q → List Step) (count : Q → ℕ) (wants : Entry → Type 0) (busies : P → ℕ)
    (port : P) (seat : SeatState Q) (place : ℕ) (e : Entry) (r : Made) (port' : P) (seat' : SeatState Q) : Type 0 where
  pub spot : place_of seat'.spot ≡ stays place r
  pub active : seat'.active ≡ active_then r (active_at seat.spot seat.active place)
  pub makes : Makes place e r seat.visits seat'.visits
  pub calls : Calls e r (calls_of seat.visits) (calls_of seat'.visits)
  pub noted : IsNoted ((rules port).limits place) (root port place) (known root seen port seat place) e r (known root seen port' seat' place)
  pub fails : Fails count (wants e) (busies port) (busies port') r seat'.spot
  pub tries : Tries (busies port) (busies port') r
  pub knows : GoOn (known root seen port seat) (known root seen port' seat')
  pub stands : StandsAt rules root seen port seat → StandsAt rules root seen port' seat'
  pub roots : GoOn (root port) (root port')
  pub others : (q : ℕ) → q ≢ place → IsElsewhere seat.spot q → root port' q ≡ root port q
  pub fixed : rules port' ≡ rules port
  pub later : busies port ≤ busies port'
  pub passes : (q : ℕ) (p : Q) → fits port q p → fits port' q p

-- THE SAME, AND NOTHING BESIDE IT: this call alone was added to the histories, if it was made, and no pass
-- was split off but the session's own and the one that the call took in
pub record AskedAlone {P Q : Type 0} (fits : P → ℕ → Q → Type 0) (rules : P → PortRules) (root : P → Histories) (seen : Q → List Step) (count : Q → ℕ) (wants : Entry → Type 0) (busies : P → ℕ)
    (adds : List Step → List Step → List Step → Type 0) (kin : P → Kin) (branches : Q → List Branch)
    (port : P) (seat : SeatState Q) (place : ℕ) (e : Entry) (r : Made) (port' : P) (seat' : SeatState Q) : Type 0 where
  pub asked : Asked fits rules root seen count wants busies port seat place e r port' seat'
  pub fit : HasFit (fits port') seat'.spot
  pub grows : GrowsBy adds (root port) place (made_step e r) (root port')
  pub splits : SplitsSo branches (kin port) seat.spot place r (kin port') seat'.spot
