-- What a turn did, by its answer
use Rattle.std.specs.Prelude.{◌≡◌, ◌⊎◌, ℕ, ◌<◌, true, false, List, ◌++◌, length}
use Rattle.relay_outside.specs.Counts.{Rose}
use Rattle.relay_outside.specs.Told.{LinkCounts}
use Rattle.session_owed.specs.Talk.{Own}
use Rattle.stream_registry.specs.Told as told
use Rattle.relay_session.specs.Causes.{is_loud}
use Rattle.http_flv.specs.Turns.{Life}
use Rattle.http_flv.specs.declared.core_fields.Core.{Core}
use Rattle.http_flv.specs.declared.turn.HttpTurn.{HttpTurn}
use Rattle.http_flv.specs.declared.turn.HttpTurn.TheVariants.{Moved, Idle, Ended}

-- how many bytes came
abbrev pub came_to : Core → ℕ
came_to c = length (c.x ++ c.later)

-- SOMETHING MOVED: bytes were sent, or came, or a call was made that isn't a Take that found nothing
pub record HasMoved {P S : Type 0} (v w : Life P S) : Type 0 where
  pub more : List Own
  pub calls : w.parts.calls ≡ v.parts.calls ++ more
  pub cause : (length v.parts.sent < length w.parts.sent) ⊎ ((came_to v.parts < came_to w.parts) ⊎ (is_loud more ≡ true))

-- NOTHING MOVED: none was sent, none came, and no call was made but a Take that found nothing
pub record IsStill {P S : Type 0} (v w : Life P S) : Type 0 where
  pub x : w.parts.x ≡ v.parts.x
  pub later : w.parts.later ≡ v.parts.later
  pub sent : w.parts.sent ≡ v.parts.sent
  pub more : List Own
  pub calls : w.parts.calls ≡ v.parts.calls ++ more
  pub quiet : is_loud more ≡ false

abbrev pub Did : {P S : Type 0} → HttpTurn → Life P S → Life P S → Type 0
Did Moved v w = HasMoved v w
Did Idle v w = IsStill v w
Did (Ended e) v w = Unit {0}

-- IT IS IDLE ONLY WHERE the port was busy, or the link couldn't give yet
abbrev pub MayBe : HttpTurn → ℕ → ℕ → LinkCounts → LinkCounts → Type 0
MayBe Moved busies busies' counts counts' = Unit {0}
MayBe Idle busies busies' counts counts' = told.Rose busies busies' ⊎ Rose counts.waits counts'.waits
MayBe (Ended e) busies busies' counts counts' = Unit {0}
