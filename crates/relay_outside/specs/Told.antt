-- What a link tells, and what it counts.
use Rattle.std.specs.Prelude.{◌≡◌, ℕ, List, ◌++◌, length, take, drop}
use Rattle.std.specs.declared.option.Option.{Option}
use Rattle.std.specs.declared.option.Option.TheVariants.{Some, None}

-- the bytes of a link that tells them
pub record LinkTold : Type 0 where
  -- those that are left to give
  pub left : List ℕ
  -- those that it gave
  pub gave : List ℕ
  -- those that it took
  pub took : List ℕ

-- with these bytes given
abbrev pub with_given : List ℕ → LinkTold → LinkTold
with_given bytes t = record { left = drop (length bytes) t.left; gave = t.gave ++ bytes; took = t.took }

-- with these bytes taken
abbrev pub with_taken : List ℕ → LinkTold → LinkTold
with_taken bytes t = record { left = t.left; gave = t.gave; took = t.took ++ bytes }

-- these bytes are the first that are left, where the link tells those
abbrev pub AreFirstLeft : List ℕ → Option LinkTold → Type 0
AreFirstLeft bytes None = Unit {0}
AreFirstLeft bytes (Some t) = bytes ≡ take (length bytes) t.left

-- how often a link failed, had nothing to do yet, and was at its end
pub record LinkCounts : Type 0 where
  pub faults : ℕ
  pub waits : ℕ
  pub ends : ℕ
