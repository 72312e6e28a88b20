-- The bytes that are to be sent
use Rattle.std.specs.Prelude.{◌≡◌, ◌≤◌, ℕ, ◌+◌, List, length, drop}

pub record Sending : Type 0 where
  -- those that are left
  pub left : List ℕ
  -- how many before them were sent and are kept
  pub spent : ℕ

abbrev pub sending : List ℕ → ℕ → Sending
sending bytes from = record { left = drop from bytes; spent = from }

-- how many are kept
abbrev pub size_of : Sending → ℕ
size_of s = s.spent + length s.left

-- none are kept where all were sent
pub record IsSending (bytes : List ℕ) (from : ℕ) : Type 0 where
  pub within : from ≤ length bytes
  pub drained : from ≡ length bytes → from ≡ 0
