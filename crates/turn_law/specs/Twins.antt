-- WHEN TWO SESSIONS ON ONE THREAD ARE ALIKE, and what two turns of theirs have in common
use Rattle.std.specs.Prelude.{◌≡◌, ◌≢◌, ◌<◌, ◌^◌, ◌++◌, ℕ, List, [], length, Option, None}
use Rattle.command_dialog.specs.declared.types.Ask.{Ask}
use Rattle.command_dialog.specs.declared.types.Grant.{Grant}
use Rattle.relay_outside.specs.MemLinks.{MemLinkState}
use Rattle.stream_model.specs.declared.calls.Entry.{Entry}
use Rattle.stream_registry.specs.Books.{SoleState, SeenState, FitsSole, journal_at, sole_rules}
use Rattle.stream_registry.specs.Splits.{Kin}
use Rattle.stream_registry.specs.Told.{Histories, Step}
use Rattle.turn_gate.specs.declared.view.Branch.{Branch}
use Rattle.relay_session.specs.Alone.{GrowsFrom}
use Rattle.relay_session.specs.Keeping.{StandsBefore, past_of}
use Rattle.relay_session.specs.Places.{AskedAlone}
use Rattle.relay_session.specs.SeatState.{LeaveFails, LeavesFrom, SeatState, active_at, known, left_at, place_of}
use Rattle.relay_session.specs.SessionState.{lasting_of}
use Rattle.relay_session.specs.Turns.{Life}
use Rattle.relay_session.specs.declared.core_fields.Core.{Core}
use Rattle.relay_session.specs.declared.end.End.TheVariants as end
use Rattle.relay_session.specs.declared.seat_answers.Leaving.{Leaving}
use Rattle.relay_session.specs.declared.seat_answers.Made.{Made}
use Rattle.relay_session.specs.declared.turn.Turn.{Turn}
use Rattle.relay_session.specs.declared.turn.Turn.TheVariants.{Moved, Idle, Ended}

-- ---- streams of one thread

-- calls are put behind what was there, and no other is
abbrev pub SoleAdds : List Step → List Step → List Step → Type 0
SoleAdds = λ (h steps i : List Step). i ≡ h ++ steps

-- no pass is split off
abbrev pub no_kin : SoleState → Kin
no_kin = λ (port : SoleState) (q : ℕ). []

abbrev pub no_branches : SeenState → List Branch
no_branches = λ (p : SeenState). []

-- one call of a session at these streams
abbrev pub SoleAsks : SoleState → SeatState SeenState → ℕ → Entry → Made → SoleState → SeatState SeenState → Type 0
SoleAsks = AskedAlone FitsSole (λ (s : SoleState). sole_rules s.rules) (λ s. journal_at s.books) (λ (p : SeenState). p.seen) (λ p. length p.seen)
    (λ (_ : Entry). Unit {0}) (λ _. 0)
    SoleAdds no_kin no_branches

-- no history has as many calls as it can have
abbrev pub HasRoom : SoleState → Type 0
HasRoom port = (q : ℕ) → length (journal_at port.books q) < 2 ^ 62

-- the same rules and the same histories
pub record SamePort (p q : SoleState) : Type 0 where
  pub rules : sole_rules q.rules ≡ sole_rules p.rules
  pub journals : (n : ℕ) → journal_at q.books n ≡ journal_at p.books n

-- ---- sessions

abbrev pub SoleLife : Type 0
SoleLife = Life SoleState (SeatState SeenState)

-- at the same place, with the same grant there. How much of its history each pass has seen is free
pub record SameSeat (s t : SeatState SeenState) : Type 0 where
  pub spot : place_of t.spot ≡ place_of s.spot
  pub granted : (q : ℕ) → active_at t.spot t.active q ≡ active_at s.spot s.active q

-- all that decides what a session does from then on, beside what it owes. How far what is pending is encoded is free
pub record SameCore (c d : Core) : Type 0 where
  pub lasting : lasting_of d ≡ lasting_of c
  pub place : d.place ≡ c.place
  pub past : past_of d ≡ past_of c
  pub fed : d.fed ≡ c.fed
  pub outbound : d.outbound ≡ c.outbound
  pub others : d.outgoing.others ≡ c.outgoing.others

-- TWO SESSIONS THAT ARE ALIKE, each of which stands for what it was fed and its calls
pub record Alike (desk : Ask → Grant) (v w : SoleLife) : Type 0 where
  pub core : SameCore v.parts w.parts
  pub input : w.input ≡ v.input
  pub seat : SameSeat v.seat w.seat
  pub port : SamePort v.port w.port
  pub first : StandsBefore desk v.parts
  pub second : StandsBefore desk w.parts

-- two that have ended: what decides how each is closed is the same
pub record Parting (v w : SoleLife) : Type 0 where
  pub who : w.parts.who ≡ v.parts.who
  pub fed : w.parts.fed ≡ v.parts.fed
  pub kept : w.parts.kept ≡ v.parts.kept
  pub seat : SameSeat v.seat w.seat
  pub port : SamePort v.port w.port

-- ---- turns

-- what is asked of a turn: it didn't end for want of memory, and left room in the histories
pub record IsPlain (a : Turn) (w : SoleLife) : Type 0 where
  pub memory : a ≢ Ended end.OutOfMemory
  pub room : HasRoom w.port

abbrev pub LeftBy : Turn → (Ask → Grant) → SoleLife → SoleLife → Type 0
LeftBy Moved desk v w = Alike desk v w
LeftBy Idle desk v w = Alike desk v w
LeftBy (Ended e) desk v w = Parting v w

-- they were answered the same, and leave the same
pub record SameLeft (desk : Ask → Grant) (a : Turn) (w : SoleLife) (b : Turn) (x : SoleLife) : Type 0 where
  pub answer : b ≡ a
  pub left : LeftBy a desk w x

-- TWO TURNS THAT DID THE SAME, with their links
pub record SameTurn (desk : Ask → Grant) (a : Turn) (w : SoleLife) (l : MemLinkState) (b : Turn) (x : SoleLife) (m : MemLinkState) : Type 0 where
  pub turn : SameLeft desk a w b x
  pub link : m ≡ l

-- ---- closes

-- what is known of each history: what its pass has seen of its place, and all of the others
abbrev pub known_in : SoleState → SeatState SeenState → Histories
known_in port s = known (λ (p : SoleState). journal_at p.books) (λ (p : SeenState). p.seen) port s

-- a session was closed, and has left: what `Session::close` says of it, with the call that waits and the seat then
pub record Closes (v : SoleLife) (port : SoleState) (kept : Option Entry) (seat : SeatState SeenState) : Type 0 where
  pub leaving : Leaving
  pub leaves : LeavesFrom (place_of v.seat.spot) v.parts.who v.parts.fed v.parts.kept v.seat.active v.seat.visits leaving kept seat.active seat.visits
  pub fails : LeaveFails (FitsSole port) (λ (p : SeenState). length p.seen) (λ (_ : Entry). Unit {0}) (place_of v.seat.spot) v.parts.who v.parts.fed
      v.parts.kept 0 0 leaving
  pub left : place_of seat.spot ≡ left_at leaving (place_of v.seat.spot)
  pub away : place_of seat.spot ≡ None
  pub grows : GrowsFrom SoleAdds (sole_rules v.port.rules).limits (journal_at v.port.books) (known_in v.port v.seat) (place_of v.seat.spot) v.seat.visits
      seat.visits
      (journal_at port.books) (known_in port seat)
  pub fixed : sole_rules port.rules ≡ sole_rules v.port.rules
