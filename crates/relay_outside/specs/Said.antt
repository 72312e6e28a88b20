-- What a link takes.
use Rattle.std.specs.Prelude.{◌≡◌, ℕ, ◌<◌, ◌≤◌, List, length, take}
use Rattle.std.specs.declared.option.Option.{Option}
use Rattle.std.specs.Option.{option_map}
use Rattle.relay_outside.specs.declared.link.Said.{Said}
use Rattle.relay_outside.specs.declared.link.Said.TheVariants.{Took, NotYet, Failed, OutOfMemory}
use Rattle.relay_outside.specs.Counts.{Rose}
use Rattle.relay_outside.specs.Told.{LinkTold, with_taken, LinkCounts}

-- how many bytes it took
abbrev pub SaidCount : List ℕ → Said → Type 0
SaidCount piece (Took n) = (0 < n) × (n ≤ length piece)
SaidCount piece NotYet = Unit {0}
SaidCount piece Failed = Unit {0}
SaidCount piece OutOfMemory = Unit {0}

-- what it tells now, by what it told before
abbrev pub SaidTold : Option LinkTold → Option LinkTold → List ℕ → Said → Type 0
SaidTold before now piece (Took n) = now ≡ option_map (with_taken (take n piece)) before
SaidTold before now piece NotYet = now ≡ before
SaidTold before now piece Failed = now ≡ before
SaidTold before now piece OutOfMemory = now ≡ before

-- the counts now, by those before
abbrev pub SaidCounts : LinkCounts → LinkCounts → Said → Type 0
SaidCounts before now (Took n) = (now.faults ≡ before.faults) × (now.waits ≡ before.waits) × (now.ends ≡ before.ends)
SaidCounts before now NotYet = (now.faults ≡ before.faults) × Rose before.waits now.waits × (now.ends ≡ before.ends)
SaidCounts before now Failed = Rose before.faults now.faults × (now.waits ≡ before.waits) × (now.ends ≡ before.ends)
SaidCounts before now OutOfMemory = (now.faults ≡ before.faults) × (now.waits ≡ before.waits) × (now.ends ≡ before.ends)

-- what such a step of a link means
pub record SayStep (piece : List ℕ) (before now : Option LinkTold) (counts_before counts_now : LinkCounts) (answer : Said) : Type 0 where
  pub count : SaidCount piece answer
  pub told : SaidTold before now piece answer
  pub counts : SaidCounts counts_before counts_now answer
