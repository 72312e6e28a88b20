-- What a link gave and took between two times
use Rattle.std.specs.Prelude.{◌≡◌, ℕ, List, ◌++◌, Option, Some, None}
use Rattle.relay_outside.specs.Told.{LinkCounts, LinkTold}

-- it gave these bytes of those that were left, and took these
pub record HasPassed (given taken : List ℕ) (old new : LinkTold) : Type 0 where
  pub left : old.left ≡ given ++ new.left
  pub gave : new.gave ≡ old.gave ++ given
  pub took : new.took ≡ old.took ++ taken

-- the same where it tells its bytes
abbrev pub Passed : List ℕ → List ℕ → Option LinkTold → Option LinkTold → Type 0
Passed given taken (Some t) (Some u) = HasPassed given taken t u
Passed given taken (Some t) None = ⊥
Passed given taken None (Some u) = ⊥
Passed given taken None None = Unit {0}

-- it has neither failed nor ended
pub record IsCalm (old new : LinkCounts) : Type 0 where
  pub faults : new.faults ≡ old.faults
  pub ends : new.ends ≡ old.ends
