-- What a port says around the calls of one holder of a pass
use Rattle.std.specs.Prelude.{◌≡◌, ◌≢◌, ℕ, ◌≤◌, List, [], Option, Some, None}
use Rattle.turn_gate.specs.Histories.{Begins}
use Rattle.stream_registry.specs.Names.{PortRules}
use Rattle.stream_registry.specs.Told.{Step, Histories}

-- a port after something at one place: what never changes stays, nothing is forgotten, the roots at other
-- places are as before, and passes that fitted it still do
pub record Serves {P Q : Type 0} (rules : P → PortRules) (root : P → Histories) (busies : P → ℕ) (fits : P → ℕ → Q → Type 0)
    (place : ℕ) (port port' : P) : Type 0 where
  pub fixed : rules port' ≡ rules port
  pub here : Begins (root port place) (root port' place)
  pub others : (q : ℕ) → q ≢ place → root port' q ≡ root port q
  pub never_falls : busies port ≤ busies port'
  pub still_fit : (q : ℕ) (p : Q) → fits port q p → fits port' q p

module _ {Q : Type 0} where
  -- a pass fits, if there is one
  abbrev pub FitsIf : (Q → Type 0) → Option Q → Type 0
  FitsIf fits None = Unit {0}
  FitsIf fits (Some p) = fits p

  -- what was seen: without a pass, what the root has
  abbrev pub seen_of : (Q → List Step) → List Step → Option Q → List Step
  seen_of seen root None = root
  seen_of seen root (Some p) = seen p

  -- the numbers of the calls that were made
  abbrev pub mine_of : (Q → List ℕ) → Option Q → List ℕ
  mine_of mine None = []
  mine_of mine (Some p) = mine p
