-- What a port's root has seen at each place
use Rattle.std.specs.Prelude.{◌≡◌, ℕ, ◌<◌, ◌≤◌, List, [], ◌++◌, length, map, slice_get, Option, Some, None}
use Rattle.turn_gate.specs.declared.view.Branch.{Branch}
use Rattle.turn_gate.specs.Branches.{trunk, IsWhole}
use Rattle.turn_gate.specs.Histories.{Begins, longer, AreOwn, AreAll}
use Rattle.turn_gate.specs.Known.{PassKnown, GateId}

-- a gate, what was seen of its history, the place of the root among the passes of its gate, and the places in
-- the history of the calls that are its own: those of all passes that it took in
pub record Root (A E : Type 0) : Type 0 where
  pub gate : GateId A
  pub seen : List E
  pub kin : List Branch
  pub mine : List ℕ

module _ {A E : Type 0} where
  -- the same gate, and nothing that was seen is forgotten
  abbrev pub Stays : Root A E → Root A E → Type 0
  Stays v w = (w.gate ≡ v.gate) × Begins v.seen w.seen

  abbrev pub Remembers : PassKnown A E → PassKnown A E → Type 0
  Remembers v w = (w.gate ≡ v.gate) × Begins v.seen w.seen

  abbrev pub seen_of : Option (Root A E) → List E
  seen_of None = []
  seen_of (Some k) = k.seen

  -- a history for each place
  abbrev pub seen_at : List (Root A E) → ℕ → List E
  seen_at roots place = seen_of (slice_get roots place)

  abbrev pub kin_of : Option (Root A E) → List Branch
  kin_of None = []
  kin_of (Some k) = k.kin

  -- the place of each root among the passes of its gate
  abbrev pub kin_at : List (Root A E) → ℕ → List Branch
  kin_at roots place = kin_of (slice_get roots place)

  -- a root that differs in its place among the passes alone
  abbrev pub root_with : Root A E → List Branch → Root A E
  root_with k kin = record { gate = k.gate; seen = k.seen; kin = kin; mine = k.mine }

  -- the root that is split off from one: it has no calls of its own
  abbrev pub root_shoot : Root A E → List Branch → Root A E
  root_shoot k kin = record { gate = k.gate; seen = k.seen; kin = kin; mine = [] }

  abbrev pub mine_of : Option (Root A E) → List ℕ
  mine_of None = []
  mine_of (Some k) = k.mine

  -- the own calls of the root at each place
  abbrev pub mine_at : List (Root A E) → ℕ → List ℕ
  mine_at roots place = mine_of (slice_get roots place)

  -- WHERE A ROOT HAS TAKEN IN EVERY OTHER PASS OF ITS GATE, its own calls are all calls, each once
  abbrev pub OwnsAll : Root A E → Type 0
  OwnsAll k = IsWhole k.kin → AreAll k.mine (length k.seen)

  -- so it is at a place
  abbrev pub OwnsAllAt : List (Root A E) → ℕ → Type 0
  OwnsAllAt roots place = IsWhole (kin_at roots place) → AreAll (mine_at roots place) (length (seen_at roots place))

  abbrev pub gates : List (Root A E) → List (GateId A)
  gates roots = map (λ k. k.gate) roots

-- the own calls at each place have places in what was seen there
abbrev pub AreOwnAll : {A E : Type 0} → List (Root A E) → Type 0
AreOwnAll roots = (q : ℕ) → AreOwn (mine_at roots q) (length (seen_at roots q))

-- each history begins with what was known of it
pub record Later {E : Type 0} (hs ks : ℕ → List E) : Type 0 where
  pub at : (place : ℕ) → Begins (hs place) (ks place)

pub record Grown {A E : Type 0} (roots roots' : List (Root A E)) : Type 0 where
  pub gates : gates roots' ≡ gates roots
  pub seen : Later (seen_at roots) (seen_at roots')

-- the same gates, of which nothing more was seen
pub record Unlearned {A E : Type 0} (roots roots' : List (Root A E)) : Type 0 where
  pub gates : gates roots' ≡ gates roots
  pub seen : (place : ℕ) → seen_at roots' place ≡ seen_at roots place

-- each of these was not yet split, and is the first of its gate
abbrev pub AreTrunks : {A E : Type 0} → List (Root A E) → Type 0
AreTrunks roots = (q : ℕ) → q < length roots → kin_at roots q ≡ trunk

-- the roots from `left` on were gathered
pub record Gathers {A E : Type 0} (others left roots roots' : List (Root A E)) : Type 0 where
  pub rest : List (Root A E)
  pub split : left ++ rest ≡ others
  pub grown : Grown roots roots'
  pub done : (place : ℕ) → length left ≤ place → Begins (seen_at others place) (seen_at roots' place)
  pub taken : (place : ℕ) → length left ≤ place → kin_at roots' place ≡ kin_at roots place ++ kin_at others place
  pub untaken : (place : ℕ) → place < length left → kin_at roots' place ≡ kin_at roots place
  pub owned : (place : ℕ) → length left ≤ place → mine_at roots' place ≡ mine_at roots place ++ mine_at others place
  pub unowned : (place : ℕ) → place < length left → mine_at roots' place ≡ mine_at roots place
  pub whole : (place : ℕ) → length left ≤ place → place < length others → OwnsAllAt roots' place
  pub own : (place : ℕ) → length left ≤ place → place < length others → AreOwn (mine_at roots place) (length (seen_at roots place)) × AreOwn (mine_at others place) (length (seen_at others place))
  pub longest : (place : ℕ) → length left ≤ place → seen_at roots' place ≡ longer (seen_at roots place) (seen_at others place)
  pub unseen : (place : ℕ) → place < length left → seen_at roots' place ≡ seen_at roots place
