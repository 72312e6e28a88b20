-- What a door tells, and what it answers.
use Rattle.std.specs.Prelude.{◌≡◌, ◌⊎◌, ℕ, ◌+◌, ◌^◌, Bool, true, false, List, [], ◌∷◌, ◌++◌, Option, Some, None}
use Rattle.std.specs.Option.{option_map}
use Rattle.relay_outside.specs.Counts.{Rose}
use Rattle.relay_outside.specs.Told.{LinkTold, LinkCounts}
use Rattle.relay_outside.specs.declared.door.Knock.{Knock}
use Rattle.relay_outside.specs.declared.door.Knock.TheVariants as knock

-- a link that was handed back: all that it gave and took, and its counts
pub record Returned : Type 0 where
  pub gave : List ℕ
  pub took : List ℕ
  pub counts : LinkCounts

abbrev pub returned : Option LinkTold → LinkCounts → Option Returned
returned told counts = option_map (λ t. record { gave = t.gave; took = t.took; counts = counts }) told

-- a list with one more at its end, where both are told
abbrev pub with_one : {X : Type 0} → Option (List X) → Option X → Option (List X)
with_one (Some xs) (Some x) = Some (xs ++ x ∷ [])
with_one (Some xs) None = None
with_one None x = None

-- what a door tells
pub record DoorTold : Type 0 where
  -- how many links it has given
  pub given : ℕ
  pub faults : ℕ
  -- whether it has answered Closed
  pub closed : Bool
  -- the links that were handed back, in order, where it tells them
  pub back : Option (List Returned)

-- a link that has counted nothing and, where it tells, has given and taken nothing
pub record IsNewLink (told : Option LinkTold) (counts : LinkCounts) : Type 0 where
  pub none : counts ≡ record { faults = 0; waits = 0; ends = 0 }
  pub blank : (t : LinkTold) → told ≡ Some t → (t.gave ≡ []) × (t.took ≡ [])

-- a door that has given no link, has no faults, isn't closed and, where it tells, has no link back
pub record IsNewDoor (d : DoorTold) : Type 0 where
  pub given : d.given ≡ 0
  pub faults : d.faults ≡ 0
  pub open_yet : d.closed ≡ false
  pub blank : (list : List Returned) → d.back ≡ Some list → list ≡ []

-- a door that needn't be asked again: it is closed, or has given as many links as it may
abbrev pub IsDone : DoorTold → Type 0
IsDone d = (d.closed ≡ true) ⊎ (d.given ≡ 2 ^ 40)

-- what an answer of a door says of what it told before and tells now
abbrev pub Knocks : {L : Type 0} → (L → Option LinkTold) → (L → LinkCounts) → DoorTold → DoorTold → Knock L → Type 0
Knocks told counts d e (knock.Link l) = (d.closed ≡ false) × (e ≡ record d { given = d.given + 1 }) × IsNewLink (told l) (counts l)
Knocks told counts d e knock.NotYet = (d.closed ≡ false) × (e ≡ d)
Knocks told counts d e knock.Closed = e ≡ record d { closed = true }
Knocks told counts d e knock.Failed = Rose d.faults e.faults × (e ≡ record d { faults = e.faults })

-- with one link more handed back
abbrev pub with_back : DoorTold → Option Returned → DoorTold
with_back d link = record d { back = with_one d.back link }
