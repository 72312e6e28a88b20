-- IT CAME THERE BY TURNS: the turns of a session, one after another, with what its link tells. The session is seen
-- without its port, by its calls alone
use Rattle.std.specs.Prelude.{◌≡◌, ℕ, List, [], ◌∷◌, false, Option, None, Some}
use Rattle.ack_window.specs.Outbound.{new_out}
use Rattle.command_dialog.specs.declared.types.Ask.{Ask}
use Rattle.command_dialog.specs.declared.types.Grant.{Grant}
use Rattle.relay_outside.specs.Doors.{IsNewLink, Returned, returned}
use Rattle.relay_outside.specs.Heard.{Came, HearStep}
use Rattle.relay_outside.specs.Said.{SayStep}
use Rattle.relay_outside.specs.Told.{LinkCounts, LinkTold}
use Rattle.relay_outside.specs.declared.link.Said.{Said}
use Rattle.relay_session.specs.Keeping.{past_of}
use Rattle.relay_session.specs.Owing.{nothing}
use Rattle.relay_session.specs.SeatState.{Makes}
use Rattle.relay_session.specs.SeatVisits.{Visit}
use Rattle.relay_session.specs.SessionState.{ended_by, gone_but_kept}
use Rattle.relay_session.specs.Turns.{EndedBy, Gone, Life, life}
use Rattle.relay_session.specs.declared.core_fields.Core.{Core}
use Rattle.relay_session.specs.declared.end.End.{End}
use Rattle.relay_session.specs.declared.seat_answers.Made.{Made}
use Rattle.relay_session.specs.declared.turn.Turn.{Turn}
use Rattle.relay_session.specs.declared.turn.Turn.TheVariants as turn
use Rattle.session_owed.specs.Standing.{new_past}
use Rattle.session_owed.specs.Talk.{Own}
use Rattle.stream_model.specs.declared.calls.Entry.{Entry}

-- what a link tells, and what it counts
pub record Wire : Type 0 where
  pub told : Option LinkTold
  pub counts : LinkCounts

abbrev pub wire : Option LinkTold → LinkCounts → Wire
wire told counts = record { told = told; counts = counts }

-- what a step of a link means
abbrev pub Hears : Wire → ℕ → Came → Wire → Type 0
Hears l room came m = HearStep room l.told m.told l.counts m.counts came

abbrev pub Says : Wire → List ℕ → Said → Wire → Type 0
Says l piece said m = SayStep piece l.told m.told l.counts m.counts said

-- a call was made, and is the newest visit, or it wasn't
abbrev pub Asks : Unit {0} → List Visit → ℕ → Entry → Made → Unit {0} → List Visit → Type 0
Asks port visits place e came port' visits' = Makes place e came visits visits'

-- a session that lives: what it keeps, the bytes received and not fed, and its visits
abbrev pub Alive : Type 0
Alive = Life (Unit {0}) (List Visit)

abbrev pub alive : Core → List ℕ → List Visit → Alive
alive parts input visits = life parts input tt visits

-- one turn, by its own steps
abbrev pub TakesOne : (Ask → Grant) → Alive → Wire → Turn → Alive → Wire → Type 0
TakesOne desk v l a w m = EndedBy Asks desk Hears Says None false v l a w m

-- THESE TURNS, the newest first, none of which ended it
abbrev pub TakesTurns : (Ask → Grant) → List Turn → Alive → Wire → Alive → Wire → Type 0
TakesTurns desk [] v l w m = (w ≡ v) × (m ≡ l)
TakesTurns desk (a ∷ before) v l w m =
    (u : Alive) × ((k : Wire) × (TakesTurns desk before v l u k × (ended_by a ≡ None) × TakesOne desk u k a w m))

-- a session of this name that was fed nothing, and its link, which gave and took nothing
pub record IsFresh (who window max : ℕ) (v : Alive) (l : Wire) : Type 0 where
  pub named : v.parts.who ≡ who
  pub window_is : v.parts.window ≡ window
  pub max_is : v.parts.reader.max ≡ max
  pub past : past_of v.parts ≡ new_past
  pub outbound : v.parts.outbound ≡ new_out window
  pub outgoing : v.parts.outgoing ≡ nothing
  pub blank : (v.input ≡ []) × (v.seat ≡ []) × (v.parts.place ≡ None)
  pub link : IsNewLink l.told l.counts

-- IT LIVES, and came there by turns
pub record IsRunning (desk : Ask → Grant) (who window max : ℕ) (v : Alive) (l : Wire) : Type 0 where
  pub first : Alive
  pub first_link : Wire
  pub fresh : IsFresh who window max first first_link
  pub turns : List Turn
  pub ran : TakesTurns desk turns first first_link v l

-- IT HAS ENDED SO, by a turn after those by which it came there
pub record HasRunOut (desk : Ask → Grant) (who window max : ℕ) (e : End) (w : Alive) (m : Wire) : Type 0 where
  pub before : Alive
  pub before_link : Wire
  pub running : IsRunning desk who window max before before_link
  pub last : TakesOne desk before before_link (turn.Ended e) w m

-- whether it lives or has ended
abbrev pub ComesBy : (Ask → Grant) → ℕ → ℕ → ℕ → Option End → Alive → Wire → Type 0
ComesBy desk who window max None v l = IsRunning desk who window max v l
ComesBy desk who window max (Some e) v l = HasRunOut desk who window max e v l

-- of one that has ended so with this call waiting: what is left of it, but for that call
pub record RanOut (desk : Ask → Grant) (e : End) (waited : Option Entry) (g : Gone) (l : Wire) : Type 0 where
  pub last : Alive
  pub came : HasRunOut desk g.who g.window g.max e last l
  pub gone : gone_but_kept last.parts ≡ g
  pub waits : last.parts.kept ≡ waited

-- A LINK CAME BACK SO BY TURNS: from a new session and a new link, by turns alone, the last of which ended the
-- session. These bytes were fed then, these calls made, and this one waited. So a link that took all that it was
-- handed was sent all that was owed up to the last turn
pub record CameByTurns (desk : Ask → Grant) (who window max : ℕ) (e : End) (x : List ℕ) (calls : List Own) (waited : Option Entry)
    (back : Returned) : Type 0 where
  pub last : Alive
  pub link : Wire
  pub came : HasRunOut desk who window max e last link
  pub fed : last.parts.x ≡ x
  pub called : last.parts.calls ≡ calls
  pub waits : last.parts.kept ≡ waited
  pub told : returned link.told link.counts ≡ Some back
