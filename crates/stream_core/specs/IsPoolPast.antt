-- Only proofs and private functions use it.
-- What the parts of a pool are after a past.
use Rattle.std.specs.Prelude.{◌≡◌, ℕ, ◌+◌, ◌≤◌, List, [], ◌∷◌, length}
use Rattle.stream_model.specs.declared.calls.StreamLimits.{StreamLimits}
use Rattle.stream_model.specs.History.{History}
use Rattle.stream_model.specs.Pool.{PoolSlot, slots_of, IsPoolLawful}
use Rattle.stream_core.specs.declared.tally.Tally.{Tally}
use Rattle.stream_core.specs.Tally.{IsTally}

-- each slot has these limits
abbrev pub HaveLimits : StreamLimits → List PoolSlot → Type 0
HaveLimits limits [] = Unit {0}
HaveLimits limits (s ∷ slots) = (s.stream.limits ≡ limits) × HaveLimits limits slots

-- so much for each slot
abbrev pub for_each : ℕ → List PoolSlot → ℕ
for_each most [] = 0
for_each most (s ∷ slots) = most + for_each most slots

pub record IsPoolPast (limits : StreamLimits) (slots : List PoolSlot) (tally : Tally) (past : History) : Type 0 where
  pub few : length slots ≤ 64
  pub slots_are : slots ≡ slots_of limits (length slots) past
  pub tally_is : IsTally tally past
  pub lawful : IsPoolLawful limits (length slots) past
