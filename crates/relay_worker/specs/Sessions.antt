-- What a worker does with one session
use Rattle.std.specs.Prelude.{◌≡◌, ◌≤◌, ℕ, Bool, true, false, [], List, Some, None}
use Rattle.relay_outside.specs.Heard.{Came}
use Rattle.relay_outside.specs.declared.link.Said.{Said}
use Rattle.ack_window.specs.Outbound.{new_out}
use Rattle.command_dialog.specs.declared.types.Ask.{Ask}
use Rattle.command_dialog.specs.declared.types.Grant.{Grant}
use Rattle.stream_model.specs.declared.calls.Entry.{Entry}
use Rattle.stream_registry.specs.Names.{PortRules}
use Rattle.stream_registry.specs.Splits.{Kin}
use Rattle.stream_registry.specs.Told.{Step, Histories}
use Rattle.turn_gate.specs.declared.view.Branch.{Branch}
use Rattle.relay_session.specs.Acting.{Acting, ActsBy}
use Rattle.relay_session.specs.Alone.{GrowsFrom, LeavesSplit}
use Rattle.session_owed.specs.Standing.{new_past}
use Rattle.relay_session.specs.Keeping.{past_of}
use Rattle.relay_session.specs.Owing.{nothing}
use Rattle.relay_session.specs.SeatState.{GoOn, HasFit, LeaveFails, LeaveTries, LeavesFrom, SeatState, StandsAt, known, left_at, place_of}
use Rattle.relay_session.specs.SeatVisits.{calls_of}
use Rattle.relay_session.specs.SessionState.{SessionState, StandsFor, end_or_quit, ended_by, life_at}
use Rattle.relay_session.specs.Turns.{EndedBy}
use Rattle.relay_session.specs.declared.end.End.{End}
use Rattle.relay_session.specs.declared.end.End.TheVariants as end
use Rattle.relay_session.specs.declared.seat_answers.Leaving.{Leaving}
use Rattle.relay_session.specs.declared.seat_answers.Made.{Made}
use Rattle.relay_session.specs.declared.turn.Turn.{Turn}
use Rattle.relay_session.specs.declared.turn.Turn.TheVariants as turn
use Rattle.relay_worker.specs.Benches.{who_of}
use Rattle.relay_worker.specs.declared.bench.Seated.{Seated}
use Rattle.relay_worker.specs.declared.bench.Terms.{Terms}

-- a turn that moved
abbrev pub is_moved : Turn → Bool
is_moved turn.Moved = true
is_moved turn.Idle = false
is_moved (turn.Ended e) = false

-- an end for want of memory
abbrev pub lacks_memory : End → Bool
lacks_memory end.PeerClosed = false
lacks_memory end.LinkFault = false
lacks_memory (end.BadVersion at) = false
lacks_memory (end.BadChunk cause at) = false
lacks_memory (end.BadControl at) = false
lacks_memory (end.BadCommand at) = false
lacks_memory (end.TooManyStreams at) = false
lacks_memory end.Quit = false
lacks_memory end.Worn = false
lacks_memory end.OutOfMemory = true

-- a turn by which the session ended so
abbrev pub is_spent : Turn → Bool
is_spent turn.Moved = false
is_spent turn.Idle = false
is_spent (turn.Ended e) = lacks_memory e

-- an end as the history of a stream was full
abbrev pub wears_out : End → Bool
wears_out end.PeerClosed = false
wears_out end.LinkFault = false
wears_out (end.BadVersion at) = false
wears_out (end.BadChunk cause at) = false
wears_out (end.BadControl at) = false
wears_out (end.BadCommand at) = false
wears_out (end.TooManyStreams at) = false
wears_out end.Quit = false
wears_out end.Worn = true
wears_out end.OutOfMemory = false

-- a turn by which the session ended so
abbrev pub is_worn : Turn → Bool
is_worn turn.Moved = false
is_worn turn.Idle = false
is_worn (turn.Ended e) = wears_out e

-- a session of a new link: it has its name, and was fed nothing
pub record IsNewSession {Q : Type 0} (t : Terms) (had : ℕ) (s : SessionState Q) : Type 0 where
  pub who : s.parts.who ≡ who_of t.number had
  pub window : s.parts.window ≡ t.limits.window
  pub max : s.parts.reader.max ≡ t.limits.max_message
  pub past : past_of s.parts ≡ new_past
  pub outbound : s.parts.outbound ≡ new_out t.limits.window
  pub outgoing : s.parts.outgoing ≡ nothing
  pub input : s.input ≡ []
  pub quit : s.quit ≡ false
  pub lives : s.ended ≡ None
  pub nowhere : (s.seat.spot ≡ None) × (s.seat.visits ≡ []) × (s.parts.place ≡ None)
  pub stands : (desk : Ask → Grant) → StandsFor desk s
  pub acts : ActsBy s.ended s.parts s.seat

-- ONE TURN of a session with its link, by the turn's own steps. One that has ended does nothing
pub record TakesTurn {P Q L : Type 0} (asks : P → SeatState Q → ℕ → Entry → Made → P → SeatState Q → Type 0)
    (goes : P → SeatState Q → P → SeatState Q → Type 0)
    (desk : Ask → Grant) (hears : L → ℕ → Came → L → Type 0) (says : L → List ℕ → Said → L → Type 0)
    (port : P) (s : Seated P L Q) (answer : Turn) (port' : P) (s' : Seated P L Q) : Type 0 where
  pub turn : EndedBy asks desk hears says s.session.ended s.session.quit (life_at s.session port) s.link answer (life_at s'.session port') s'.link
  pub ended : s'.session.ended ≡ ended_by answer
  pub quit : s'.session.quit ≡ s.session.quit
  pub who : s'.session.parts.who ≡ s.session.parts.who
  pub goes_on : goes port s.session.seat port' s'.session.seat
  pub stands : StandsFor desk s.session → StandsFor desk s'.session
  pub acts : StandsFor desk s.session → ActsBy s.session.ended s.session.parts s.session.seat → ActsBy s'.session.ended s'.session.parts s'.session.seat
  pub calls : s'.session.parts.calls ≡ calls_of s'.session.seat.visits

-- ONE CLOSE of a session that has ended
pub record Closes {P Q : Type 0} (fits : P → ℕ → Q → Type 0) (rules : P → PortRules) (root : P → Histories)
    (seen : Q → List Step) (count : Q → ℕ) (wants : Entry → Type 0) (busies : P → ℕ)
    (adds : List Step → List Step → List Step → Type 0) (kin : P → Kin) (branches : Q → List Branch)
    (port : P) (s : SessionState Q) (answer : Leaving) (port' : P) (s' : SessionState Q) : Type 0 where
  pub fit : HasFit (fits port') s'.seat.spot
  pub spot : place_of s'.seat.spot ≡ left_at answer (place_of s.seat.spot)
  pub leaves : LeavesFrom (place_of s.seat.spot) s.parts.who s.parts.fed s.parts.kept s.seat.active s.seat.visits
      answer s'.parts.kept s'.seat.active s'.seat.visits
  pub fails : LeaveFails (fits port') count wants (place_of s.seat.spot) s.parts.who s.parts.fed s.parts.kept (busies port) (busies port') answer
  pub tries : LeaveTries (busies port) (busies port') answer
  pub grows : GrowsFrom adds (rules port).limits (root port) (known root seen port s.seat) (place_of s.seat.spot) s.seat.visits s'.seat.visits
      (root port') (known root seen port' s'.seat)
  pub splits : LeavesSplit (place_of s.seat.spot) branches (kin port) s.seat.spot s.seat.visits s'.seat.visits (kin port') s'.seat.spot
  pub stands : StandsAt rules root seen port s.seat → StandsAt rules root seen port' s'.seat
  pub acts : Acting s.parts s.seat → Acting s'.parts s'.seat
  pub roots : GoOn (root port) (root port')
  pub fixed : rules port' ≡ rules port
  pub later : busies port ≤ busies port'
  pub passes : (q : ℕ) (p : Q) → fits port q p → fits port' q p
  pub ended : s'.ended ≡ Some (end_or_quit s.ended)
  pub parts : s'.parts ≡ record s.parts { kept = s'.parts.kept }
