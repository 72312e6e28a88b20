-- What a link in memory is, and what its calls do.
use Rattle.std.specs.Prelude.{◌≡◌, ◌≢◌, ℕ, ◌-◌, Bool, true, false, List, [], ◌++◌, length, take, min, Option, Some, None}
use Rattle.std.specs.Option.{option_map}
use Rattle.std.specs.List.{concat}
use Rattle.relay_outside.specs.Counts.{risen}
use Rattle.relay_outside.specs.Heard.{Came, CameBytes, CameEnd, CameNotYet, CameFailed}
use Rattle.relay_outside.specs.Pieces.{nonempty_from, first_bytes, cut_first}
use Rattle.relay_outside.specs.Told.{LinkTold, LinkCounts}
use Rattle.relay_outside.specs.declared.link.Said.{Said}
use Rattle.relay_outside.specs.declared.link.Said.TheVariants.{Took, NotYet, Failed, OutOfMemory}

pub record MemLinkState : Type 0 where
  -- what is left of the pieces
  pub pieces : List (List ℕ)
  -- whether the input ends after them
  pub ended : Bool
  -- all that it gave
  pub gave : List ℕ
  -- what it took and has handed over
  pub handed : List ℕ
  -- what it took and has not handed over
  pub sent : List ℕ
  -- how many bytes it takes yet, None being any number
  pub room : Option ℕ
  -- whether the next recv fails
  pub recv_fails : Bool
  -- whether the next send fails
  pub send_fails : Bool
  pub counts : LinkCounts

-- what it tells
abbrev pub mem_told : MemLinkState → LinkTold
mem_told l = record { left = concat l.pieces; gave = l.gave; took = l.handed ++ l.sent }

-- one more of each, where the count can rise
abbrev pub with_fault : LinkCounts → LinkCounts
with_fault c = record c { faults = risen c.faults }

abbrev pub with_wait : LinkCounts → LinkCounts
with_wait c = record c { waits = risen c.waits }

abbrev pub with_end : LinkCounts → LinkCounts
with_end c = record c { ends = risen c.ends }

-- a recv with that room gives as much of the first piece left that isn't empty as there is room for
abbrev pub MemHears : MemLinkState → ℕ → Came → MemLinkState → Type 0
MemHears l room (CameBytes bytes) m = (l.recv_fails ≡ false) × (Some bytes ≡ first_bytes room (nonempty_from l.pieces))
    × (m ≡ record l { pieces = cut_first room (nonempty_from l.pieces); gave = l.gave ++ bytes })
MemHears l room CameEnd m = (l.recv_fails ≡ false) × (concat l.pieces ≡ []) × (l.ended ≡ true)
    × (m ≡ record l { pieces = []; counts = with_end l.counts })
MemHears l room CameNotYet m = (l.recv_fails ≡ false) × (concat l.pieces ≡ []) × (l.ended ≡ false)
    × (m ≡ record l { pieces = []; counts = with_wait l.counts })
MemHears l room CameFailed m = (l.recv_fails ≡ true) × (m ≡ record l { recv_fails = false; counts = with_fault l.counts })

-- how many of so many bytes there is room for
abbrev pub room_for : Option ℕ → ℕ → ℕ
room_for None n = n
room_for (Some room) n = min n room

-- a send takes as many bytes of the piece as there is room for, or none for want of memory
abbrev pub MemSays : MemLinkState → List ℕ → Said → MemLinkState → Type 0
MemSays l piece (Took n) m = (l.send_fails ≡ false) × (l.room ≢ Some 0) × (n ≡ room_for l.room (length piece))
    × (m ≡ record l { sent = l.sent ++ take n piece; room = option_map (λ room. room - n) l.room })
MemSays l piece NotYet m = (l.send_fails ≡ false) × (l.room ≡ Some 0) × (m ≡ record l { counts = with_wait l.counts })
MemSays l piece Failed m = (l.send_fails ≡ true) × (m ≡ record l { send_fails = false; counts = with_fault l.counts })
MemSays l piece OutOfMemory m = (l.send_fails ≡ false) × (l.room ≢ Some 0) × (m ≡ l)

-- no call was told to fail, and none failed
pub record IsFaultless (l : MemLinkState) : Type 0 where
  pub recv_works : l.recv_fails ≡ false
  pub send_works : l.send_fails ≡ false
  pub no_faults : l.counts.faults ≡ 0
