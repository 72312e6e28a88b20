-- What a turn did, by its answer
use Rattle.std.specs.Prelude.{◌≡◌, ◌⊎◌, ◌<◌, true, length, is_some}
use Rattle.relay_outside.specs.Counts.{Rose}
use Rattle.relay_outside.specs.Told.{LinkCounts}
use Rattle.rtmp_client.specs.Turns.{Life}
use Rattle.rtmp_client.specs.declared.end.ClientTurn.{ClientTurn}
use Rattle.rtmp_client.specs.declared.end.ClientTurn.TheVariants.{Moved, Idle, Ended}

-- SOMETHING MOVED: bytes were sent, or bytes were fed, as all are that are received
abbrev pub HasMoved : Life → Life → Type 0
HasMoved v w = (length v.parts.sent < length w.parts.sent) ⊎ (length v.parts.y < length w.parts.y)

-- NOTHING MOVED: none was sent, fed or received
pub record IsStill (v w : Life) : Type 0 where
  pub y : w.parts.y ≡ v.parts.y
  pub input : w.input ≡ v.input
  pub sent : w.parts.sent ≡ v.parts.sent

abbrev pub Did : ClientTurn → Life → Life → Type 0
Did Moved v w = HasMoved v w
Did Idle v w = IsStill v w
Did Ended v w = Unit {0}

-- IT IS IDLE ONLY WHERE the link couldn't give or take yet, or a gift waits
abbrev pub MayBe : ClientTurn → LinkCounts → LinkCounts → Life → Type 0
MayBe Moved counts counts' w = Unit {0}
MayBe Idle counts counts' w = Rose counts.waits counts'.waits ⊎ (is_some w.parts.gift ≡ true)
MayBe Ended counts counts' w = Unit {0}
