-- What a worker keeps
use Rattle.std.specs.Prelude.{◌≡◌, ◌<◌, ◌≤◌, ◌+◌, ◌*◌, ◌^◌, ◌||◌, ℕ, Bool, List, length, nat_le, is_some, Some, None, All}
use Rattle.slab.specs.Slab.{get, slab_len}
use Rattle.relay_outside.specs.Doors.{DoorTold}
use Rattle.media_recorder.specs.Ports.{FitsIf}
use Rattle.stream_registry.specs.Names.{PortRules, places}
use Rattle.relay_session.specs.Places.{IsAt}
use Rattle.relay_session.specs.SeatState.{HasFit}
use Rattle.relay_worker.specs.declared.bench.Bench.{Bench}
use Rattle.relay_worker.specs.declared.bench.Seated.{Seated}
use Rattle.relay_worker.specs.declared.bench.Terms.{Terms}
use Rattle.relay_worker.specs.declared.recorder.Recorder.{Recorder}
use Rattle.relay_worker.specs.Filed.{state_of}

-- what contracts see of a worker
pub record WorkerState (P D K Q L : Type 0) : Type 0 where
  -- its number, how many links it has at most, and the limits
  pub terms : Terms
  -- its port, its door and its sessions
  pub bench : Bench P D Q L
  pub recorders : List (Recorder P K Q)

-- THE NAME of a worker's session: its number times 2^40, and how many links it had before this one
abbrev pub who_of : ℕ → ℕ → ℕ
who_of number had = number * 2 ^ 40 + had

-- a name that it has given
pub record IsNamed (number had who : ℕ) : Type 0 where
  pub from : who_of number 0 ≤ who
  pub to : who < who_of number had

-- a session: its pass fits the port, and while it lives it belongs there
pub record IsSeated {P Q L : Type 0} (fits : ℕ → Q → Type 0) (places number had : ℕ) (s : Seated P L Q) : Type 0 where
  pub fit : HasFit fits s.session.seat.spot
  pub at : s.session.ended ≡ None → IsAt fits places s.session.parts s.session.seat
  pub over : s.over ≡ is_some s.session.ended
  pub named : IsNamed number had s.session.parts.who

-- a recorder: its place is there, and its pass fits the port
pub record IsFiled {P K Q : Type 0} (fits : ℕ → Q → Type 0) (places : ℕ) (r : Recorder P K Q) : Type 0 where
  pub there : (state_of r).seat.place < places
  pub fit : FitsIf (fits (state_of r).seat.place) (state_of r).seat.pass

-- the door needn't be asked again
abbrev pub is_done : DoorTold → Bool
is_done d = d.closed || nat_le (2 ^ 40) d.given

module _ {P D Q L : Type 0} (fits : P → ℕ → Q → Type 0) (rules : P → PortRules) (doors : D → DoorTold) where
  -- WHAT A WORKER'S BENCH KEEPS: it has at most so many sessions, all of which fit its port, and each has a
  -- name of its own
  pub record IsSound (t : Terms) (b : Bench P D Q L) : Type 0 where
    pub number : t.number < 2 ^ 20
    pub short : t.limits.max_message ≤ 4194304
    pub few : b.had ≤ 2 ^ 40
    pub given : (doors b.door).given ≡ b.had
    pub closed : (doors b.door).closed ≡ b.closed
    pub most : slab_len b.sessions ≤ t.links
    pub room : t.links ≤ b.sessions.capacity
    pub seated : (key : ℕ) (s : Seated P L Q) → get b.sessions key ≡ Some s
        → IsSeated (fits b.port) (places (rules b.port)) t.number b.had s
    pub single : (j k : ℕ) (s u : Seated P L Q) → get b.sessions j ≡ Some s → get b.sessions k ≡ Some u
        → s.session.parts.who ≡ u.session.parts.who → j ≡ k

-- and all its recorders fit its port
abbrev pub AreFiled : {P K Q : Type 0} → (P → ℕ → Q → Type 0) → (P → PortRules) → P → List (Recorder P K Q) → Type 0
AreFiled fits rules port recorders = All (IsFiled (fits port) (length (rules port).names)) recorders
