-- What a turn did, by its answer
use Rattle.std.specs.Prelude.{◌≡◌, ◌⊎◌, ℕ, List, [], ◌∷◌, ◌++◌}
use Rattle.relay_outside.specs.Counts.{Rose}
use Rattle.relay_outside.specs.Told.{LinkCounts}
use Rattle.session_owed.specs.Talk.{Own}
use Rattle.stream_registry.specs.Told as told
use Rattle.rtmp_client.specs.Causes as client
use Rattle.rtmp_client.specs.ClientState.{ClientState, life_of}
use Rattle.origin_pull.specs.declared.core_fields.Core.{Core}
use Rattle.origin_pull.specs.declared.turn.EdgeTurn.{EdgeTurn}
use Rattle.origin_pull.specs.declared.turn.EdgeTurn.TheVariants.{Moved, Idle, Ended}

-- one call more was made
abbrev pub IsLonger : List Own → List Own → Type 0
IsLonger C D = (o : Own) × (D ≡ C ++ o ∷ [])

-- SOMETHING MOVED: a call was made, or the client sent or was fed bytes
abbrev pub HasMoved : Core → ClientState → Core → ClientState → Type 0
HasMoved c k d j = IsLonger c.calls d.calls ⊎ client.HasMoved (life_of k) (life_of j)

-- NOTHING MOVED: no call was made, and the client sent, received and was fed nothing
pub record IsStill (c : Core) (k : ClientState) (d : Core) (j : ClientState) : Type 0 where
  pub calls : d.calls ≡ c.calls
  pub client : client.IsStill (life_of k) (life_of j)

abbrev pub Did : EdgeTurn → Core → ClientState → Core → ClientState → Type 0
Did Moved c k d j = HasMoved c k d j
Did Idle c k d j = IsStill c k d j
Did (Ended e) c k d j = Unit {0}

-- IT IS IDLE ONLY WHERE the port was busy, or the link couldn't give or take yet
abbrev pub MayBe : EdgeTurn → ℕ → ℕ → LinkCounts → LinkCounts → Type 0
MayBe Moved busies busies' counts counts' = Unit {0}
MayBe Idle busies busies' counts counts' = told.Rose busies busies' ⊎ Rose counts.waits counts'.waits
MayBe (Ended e) busies busies' counts counts' = Unit {0}

-- the same where no call is made
abbrev pub MayWait : EdgeTurn → LinkCounts → LinkCounts → Type 0
MayWait Moved counts counts' = Unit {0}
MayWait Idle counts counts' = Rose counts.waits counts'.waits
MayWait (Ended e) counts counts' = Unit {0}
