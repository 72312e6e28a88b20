-- A session that is turned over and over
use Rattle.std.specs.Prelude.{◌≡◌, ◌⊎◌, ◌<◌, ℕ, zero, suc, ◌+◌, List, Option, Some, None}
use Rattle.command_dialog.specs.declared.types.Ask.{Ask}
use Rattle.command_dialog.specs.declared.types.Grant.{Grant}
use Rattle.relay_outside.specs.Heard.{Came}
use Rattle.relay_outside.specs.declared.link.Said.{Said}
use Rattle.stream_model.specs.declared.calls.Entry.{Entry}
use Rattle.relay_session.specs.SeatState.{SeatState}
use Rattle.relay_session.specs.SessionState.{SessionState, ended_by, life_at}
use Rattle.relay_session.specs.Turns.{EndedBy}
use Rattle.relay_session.specs.declared.seat_answers.Made.{Made}
use Rattle.relay_session.specs.declared.turn.Turn.{Turn}
use Rattle.relay_session.specs.declared.turn.Turn.TheVariants.{Moved, Idle, Ended}

-- what is turned: a session, with its port and its link
pub record Turning (P Q L : Type 0) : Type 0 where
  pub session : SessionState Q
  pub port : P
  pub link : L

-- how often a turn of that answer moved something; none goes on after one that ended
abbrev pub moved_by : Turn → Option ℕ
moved_by Moved = Some 1
moved_by Idle = Some 0
moved_by (Ended e) = None

module _ {P Q L : Type 0} (asks : P → SeatState Q → ℕ → Entry → Made → P → SeatState Q → Type 0) (desk : Ask → Grant) (hears : L → ℕ → Came → L → Type 0) (says : L → List ℕ → Said → L → Type 0) where
  -- one turn, with that answer
  pub record Turned (v : Turning P Q L) (answer : Turn) (w : Turning P Q L) : Type 0 where
    pub turn : EndedBy asks desk hears says v.session.ended v.session.quit (life_at v.session v.port) v.link answer (life_at w.session w.port) w.link
    pub ended : w.session.ended ≡ ended_by answer
    pub quit : w.session.quit ≡ v.session.quit

  -- one turn that didn't end it, where i had moved something before it, and n have then
  pub record OneMore (v : Turning P Q L) (i n : ℕ) (w : Turning P Q L) : Type 0 where
    pub answer : Turn
    pub turned : Turned v answer w
    pub count : ℕ
    pub moved : moved_by answer ≡ Some count
    pub sum : n ≡ i + count

  -- k turns of which none ended it, and n moved something
  abbrev pub Goes : ℕ → Turning P Q L → ℕ → Turning P Q L → Type 0
  Goes zero v n w = (n ≡ 0) × (w ≡ v)
  Goes (suc k) v n w = (i : ℕ) × ((m : Turning P Q L) × (Goes k v i m × OneMore m i n w))

  -- and then one that ended it, before there were so many
  pub record Stops (most : ℕ) (v : Turning P Q L) (n : ℕ) (w : Turning P Q L) : Type 0 where
    pub k : ℕ
    pub fewer : k < most
    pub last : Turning P Q L
    pub goes : Goes k v n last
    pub answer : Turn
    pub turned : Turned last answer w
    pub ends : moved_by answer ≡ None

  -- IT IS TURNED SO OFTEN, OR UNTIL IT ENDS, and n of the turns moved something
  abbrev pub Often : ℕ → Turning P Q L → ℕ → Turning P Q L → Type 0
  Often most v n w = Goes most v n w ⊎ Stops most v n w
