-- What goes on at a port while a session takes a turn there
use Rattle.std.specs.Prelude.{◌≡◌, ◌≤◌, ℕ, List}
use Rattle.stream_registry.specs.Names.{PortRules}
use Rattle.stream_registry.specs.Told.{Step, Histories}
use Rattle.relay_session.specs.SeatState.{SeatState, GoOn, StandsAt, known}

-- nothing that was known is forgotten, the session's calls stand as before, the port is the same, and the passes of all
-- others still fit
pub record GoesOn {P Q : Type 0} (fits : P → ℕ → Q → Type 0) (rules : P → PortRules) (root : P → Histories) (seen : Q → List Step) (busies : P → ℕ)
    (port : P) (seat : SeatState Q) (port' : P) (seat' : SeatState Q) : Type 0 where
  pub knows : GoOn (known root seen port seat) (known root seen port' seat')
  pub stands : StandsAt rules root seen port seat → StandsAt rules root seen port' seat'
  pub roots : GoOn (root port) (root port')
  pub fixed : rules port' ≡ rules port
  pub later : busies port ≤ busies port'
  pub passes : (q : ℕ) (p : Q) → fits port q p → fits port' q p
