-- The acknowledgements that the relay sends of what it receives (RTMP 1.0, 5.4.3, 5.4.4). The standard asks for one
-- after each window of bytes; that it comes at the multiples of the window is own.
use Rattle.std.specs.Prelude.{◌≡◌, ℕ, ◌+◌, ◌-◌, ◌%◌, ◌^◌, ◌<◌, ◌≤◌, ◌==◌, if◌then◌else◌, Option, Some, None}
use Rattle.ack_window.specs.Window.{window_of}

-- the window in effect, and how many bytes were taken
pub record InWindow : Type 0 where
  pub window : ℕ
  pub taken : ℕ

-- what each keeps
pub record IsInWindow (window taken : ℕ) : Type 0 where
  pub least : 1000 ≤ window
  pub most : window < 2 ^ 32
  pub far : taken < 2 ^ 63

abbrev pub new_in : ℕ → InWindow
new_in size = record { window = window_of size; taken = 0 }

abbrev pub in_set : InWindow → ℕ → InWindow
in_set s size = record { window = window_of size; taken = s.taken }

abbrev pub in_took : InWindow → ℕ → InWindow
in_took s n = record { window = s.window; taken = s.taken + n }

-- an acknowledgement is due after so many bytes
abbrev pub IsPlace : ℕ → ℕ → Type 0
IsPlace window bytes = bytes % window ≡ 0

-- n bytes on is the next place
pub record IsNextPlace (s : InWindow) (n : ℕ) : Type 0 where
  pub ahead : 0 < n
  pub place : IsPlace s.window (s.taken + n)
  pub first : (k : ℕ) → 0 < k → k < n → ¬ IsPlace s.window (s.taken + k)

-- how far the next place is
abbrev pub room_of : InWindow → ℕ
room_of s = s.window - s.taken % s.window

-- the number that acknowledges so many bytes (5.4.3 has 32 bits for it)
abbrev pub number_of : ℕ → ℕ
number_of bytes = bytes % 2 ^ 32

-- what n bytes more are answered, where they don't pass the next place
abbrev pub ack_of : InWindow → ℕ → Option ℕ
ack_of s n = if n == room_of s then Some (number_of (s.taken + n)) else None
