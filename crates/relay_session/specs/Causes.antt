-- What a turn did, by its answer
use Rattle.std.specs.Prelude.{◌≡◌, ◌⊎◌, ℕ, ◌<◌, Bool, true, false, not, ◌&&◌, ◌||◌, List, [], ◌∷◌, ◌++◌, length}
use Rattle.relay_outside.specs.Counts.{Rose}
use Rattle.relay_outside.specs.Told.{LinkCounts}
use Rattle.session_owed.specs.Talk.{Own, is_take}
use Rattle.stream_registry.specs.Told as told
use Rattle.relay_session.specs.Turns.{Life, is_not_yet}
use Rattle.relay_session.specs.declared.turn.Turn.{Turn}
use Rattle.relay_session.specs.declared.turn.Turn.TheVariants.{Moved, Idle, Ended}

-- a call other than a Take that found nothing
abbrev pub is_loud_call : Own → Bool
is_loud_call c = not (is_take c.0.call && is_not_yet c.1)

abbrev pub is_loud : List Own → Bool
is_loud [] = false
is_loud (c ∷ calls) = is_loud_call c || is_loud calls

-- SOMETHING MOVED: bytes were sent, or bytes were fed, as all are that are received, or a call was made that
-- isn't a Take that found nothing
pub record HasMoved {P S : Type 0} (v w : Life P S) : Type 0 where
  pub more : List Own
  pub calls : w.parts.calls ≡ v.parts.calls ++ more
  pub cause : (length v.parts.sent < length w.parts.sent) ⊎ ((length v.parts.x < length w.parts.x) ⊎ (is_loud more ≡ true))

-- NOTHING MOVED: none was sent, fed or received, and no call was made but a Take that found nothing
pub record IsStill {P S : Type 0} (v w : Life P S) : Type 0 where
  pub x : w.parts.x ≡ v.parts.x
  pub input : w.input ≡ v.input
  pub sent : w.parts.sent ≡ v.parts.sent
  pub more : List Own
  pub calls : w.parts.calls ≡ v.parts.calls ++ more
  pub quiet : is_loud more ≡ false

abbrev pub Did : {P S : Type 0} → Turn → Life P S → Life P S → Type 0
Did Moved v w = HasMoved v w
Did Idle v w = IsStill v w
Did (Ended e) v w = Unit {0}

-- IT IS IDLE ONLY WHERE the port was busy, or the link couldn't give or take yet
abbrev pub MayBe : Turn → ℕ → ℕ → LinkCounts → LinkCounts → Type 0
MayBe Moved busies busies' counts counts' = Unit {0}
MayBe Idle busies busies' counts counts' = told.Rose busies busies' ⊎ Rose counts.waits counts'.waits
MayBe (Ended e) busies busies' counts counts' = Unit {0}
