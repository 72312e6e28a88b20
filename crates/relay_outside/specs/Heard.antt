-- What a link gives.
use Rattle.std.specs.Prelude.{◌≡◌, ℕ, ◌<◌, ◌≤◌, List, length, take}
use Rattle.std.specs.declared.option.Option.{Option}
use Rattle.std.specs.Option.{option_map}
use Rattle.relay_outside.specs.declared.link.Heard.{Heard}
use Rattle.relay_outside.specs.declared.link.Heard.TheVariants.{Bytes, End, NotYet, Failed}
use Rattle.relay_outside.specs.Counts.{Rose}
use Rattle.relay_outside.specs.Told.{LinkTold, with_given, AreFirstLeft, LinkCounts}

-- an answer of a link that is asked for bytes, with the bytes that it gave
pub data Came : Type 0 where
  CameBytes : List ℕ → Came
  CameEnd : Came
  CameNotYet : Came
  CameFailed : Came

-- the bytes are the first of the slice that was filled
abbrev pub came : Heard → List ℕ → Came
came (Bytes n) into = CameBytes (take n into)
came End into = CameEnd
came NotYet into = CameNotYet
came Failed into = CameFailed

-- how many bytes there are
abbrev pub HeardCount : List ℕ → Heard → Type 0
HeardCount into (Bytes n) = (0 < n) × (n ≤ length into)
HeardCount into End = Unit {0}
HeardCount into NotYet = Unit {0}
HeardCount into Failed = Unit {0}

abbrev pub CameCount : ℕ → Came → Type 0
CameCount room (CameBytes bytes) = (0 < length bytes) × (length bytes ≤ room)
CameCount room CameEnd = Unit {0}
CameCount room CameNotYet = Unit {0}
CameCount room CameFailed = Unit {0}

-- what it tells now, by what it told before
abbrev pub CameTold : Option LinkTold → Option LinkTold → Came → Type 0
CameTold before now (CameBytes bytes) = AreFirstLeft bytes before × (now ≡ option_map (with_given bytes) before)
CameTold before now CameEnd = now ≡ before
CameTold before now CameNotYet = now ≡ before
CameTold before now CameFailed = now ≡ before

-- the counts now, by those before
abbrev pub CameCounts : LinkCounts → LinkCounts → Came → Type 0
CameCounts before now (CameBytes bytes) = (now.faults ≡ before.faults) × (now.waits ≡ before.waits) × (now.ends ≡ before.ends)
CameCounts before now CameEnd = (now.faults ≡ before.faults) × (now.waits ≡ before.waits) × Rose before.ends now.ends
CameCounts before now CameNotYet = (now.faults ≡ before.faults) × Rose before.waits now.waits × (now.ends ≡ before.ends)
CameCounts before now CameFailed = Rose before.faults now.faults × (now.waits ≡ before.waits) × (now.ends ≡ before.ends)

-- what such a step of a link means
pub record HearStep (room : ℕ) (before now : Option LinkTold) (counts_before counts_now : LinkCounts) (answer : Came) : Type 0 where
  pub count : CameCount room answer
  pub told : CameTold before now answer
  pub counts : CameCounts counts_before counts_now answer
