-- What contracts see of a player
use Rattle.std.specs.Prelude.{ℕ, ◌+◌, List, ◌++◌, length, Option, Some, None}
use Rattle.command_dialog.specs.declared.types.Ask.{Ask}
use Rattle.command_dialog.specs.declared.types.Grant.{Grant}
use Rattle.relay_session.specs.SeatState.{SeatState}
use Rattle.http_flv.specs.Keeping.{HasEnded, IsSound, StandsBefore}
use Rattle.http_flv.specs.Out.{IsOwed}
use Rattle.http_flv.specs.Sending.{size_of}
use Rattle.http_flv.specs.Turns.{Life, OverBy, life}
use Rattle.http_flv.specs.declared.core_fields.Core.{Core}
use Rattle.http_flv.specs.declared.end.HttpEnd.{HttpEnd}
use Rattle.http_flv.specs.declared.end.HttpEnd.TheVariants.{Closed}
use Rattle.http_flv.specs.declared.turn.HttpTurn.{HttpTurn}
use Rattle.http_flv.specs.declared.turn.HttpTurn.TheVariants.{Moved, Idle, Ended}

pub record PlayerState (Q : Type 0) : Type 0 where
  -- what came, what it owes, its calls, and what it has sent
  pub parts : Core
  -- where it stands at the streams
  pub seat : SeatState Q
  -- why it has ended, if it has
  pub ended : Option HttpEnd

-- at a port
abbrev pub life_at : {P Q : Type 0} → PlayerState Q → P → Life P (SeatState Q)
life_at s port = life s.parts port s.seat

-- one that lives is sound, and what it holds has its bounds, also where it has ended
abbrev pub IsLiving : Option HttpEnd → Core → Type 0
IsLiving None c = IsSound c
IsLiving (Some e) c = HasEnded c

-- WHAT WAS SENT AND WHAT IS PENDING IS WHAT IT IS OWED before this desk; of one that has ended, what was sent
-- begins that, and is the whole text where it was told no
abbrev pub StandsBy : Option HttpEnd → (Ask → Grant) → Core → Type 0
StandsBy None desk c = StandsBefore desk c
StandsBy (Some e) desk c = OverBy desk c e

abbrev pub StandsFor : {Q : Type 0} → (Ask → Grant) → PlayerState Q → Type 0
StandsFor desk s = StandsBy s.ended desk s.parts

-- what was sent begins what it is owed
abbrev pub BeginsOwed : (Ask → Grant) → Core → Type 0
BeginsOwed desk c = (more : List ℕ) × IsOwed desk c.x c.calls (c.sent ++ more)

-- of one that lives, what is pending is all the rest
abbrev pub OwesBy : Option HttpEnd → (Ask → Grant) → Core → Type 0
OwesBy None desk c = IsOwed desk c.x c.calls (c.sent ++ c.out.left)
OwesBy (Some e) desk c = BeginsOwed desk c

abbrev pub ended_by : HttpTurn → Option HttpEnd
ended_by Moved = None
ended_by Idle = None
ended_by (Ended e) = Some e

-- what a player keeps as it was made
pub record Lasting : Type 0 where
  pub who : ℕ
  pub longest : ℕ

abbrev pub lasting_of : Core → Lasting
lasting_of c = record { who = c.who; longest = c.longest }

-- HOW MANY BYTES IT HOLDS: of a head that isn't whole, and of the text or the item that is being sent, which
-- counts whole
abbrev pub held_of : Core → ℕ
held_of c = length c.head + size_of c.out

-- at most so many, where no unit that it sends has more than `longest` bytes
abbrev pub most_held : ℕ → ℕ
most_held longest = 4096 + (longest + 256)

-- why a player that is closed has ended
abbrev pub end_or_closed : Option HttpEnd → HttpEnd
end_or_closed None = Closed
end_or_closed (Some e) = e
