-- What a worker of HTTP players keeps
use Rattle.std.specs.Prelude.{◌≡◌, ◌<◌, ◌≤◌, ◌+◌, ◌^◌, ℕ, is_some, Some, None}
use Rattle.slab.specs.Slab.{get, slab_len}
use Rattle.relay_outside.specs.Doors.{DoorTold}
use Rattle.relay_session.specs.SeatState.{HasFit}
use Rattle.stream_registry.specs.Names.{PortRules, places}
use Rattle.http_flv.specs.Keeping.{IsAt}
use Rattle.http_worker.specs.declared.bench.Bench.{Bench}
use Rattle.http_worker.specs.declared.bench.Seated.{Seated}
use Rattle.http_worker.specs.declared.bench.Terms.{Terms}

-- what contracts see of a worker
pub record WorkerState (P D Q L : Type 0) : Type 0 where
  -- how many links it has at most, and the limits
  pub terms : Terms
  -- its port, its door and its players
  pub bench : Bench P D Q L

-- THE NAME of a worker's player: 2^61, and how many links it had before this one
abbrev pub who_of : ℕ → ℕ
who_of had = 2 ^ 61 + had

-- a name that it has given
pub record IsNamed (had who : ℕ) : Type 0 where
  pub from : who_of 0 ≤ who
  pub to : who < who_of had

-- a player: its pass fits the port, and while it lives it belongs there
pub record IsSeated {P Q L : Type 0} (fits : ℕ → Q → Type 0) (places had : ℕ) (s : Seated P L Q) : Type 0 where
  pub fit : HasFit fits s.player.seat.spot
  pub at : s.player.ended ≡ None → IsAt fits places s.player.parts s.player.seat
  pub over : s.over ≡ is_some s.player.ended
  pub named : IsNamed had s.player.parts.who

module _ {P D Q L : Type 0} (fits : P → ℕ → Q → Type 0) (rules : P → PortRules) (doors : D → DoorTold) where
  -- WHAT A WORKER'S BENCH KEEPS: it has at most so many players, all of which fit its port, and each has a
  -- name of its own
  pub record IsSound (t : Terms) (b : Bench P D Q L) : Type 0 where
    pub short : t.limits.max_message ≤ 4194304
    pub few : b.had ≤ 2 ^ 40
    pub given : (doors b.door).given ≡ b.had
    pub closed : (doors b.door).closed ≡ b.closed
    pub most : slab_len b.players ≤ t.links
    pub room : t.links ≤ b.players.capacity
    pub seated : (key : ℕ) (s : Seated P L Q) → get b.players key ≡ Some s → IsSeated (fits b.port) (places (rules b.port)) b.had s
    pub single : (j k : ℕ) (s u : Seated P L Q) → get b.players j ≡ Some s → get b.players k ≡ Some u
        → s.player.parts.who ≡ u.player.parts.who → j ≡ k
