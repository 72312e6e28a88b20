-- Calls at an `Inbound`, one after another, and the acknowledgements that are due.
use Rattle.std.specs.Prelude.{ℕ, ◌+◌, ◌-◌, ◌%◌, ◌≤◌, ◌==◌, Bool, nat_le, if◌then◌else◌, List, [], ◌∷◌, map, filter, Option, Some, None}
use Rattle.std.specs.List.{range_with_len}
use Rattle.ack_window.specs.Window.{window_of}
use Rattle.ack_window.specs.Inbound.{InWindow, in_set, in_took, room_of, ack_of, number_of}

-- a call: the window is set, or so many bytes are taken
pub data InCall : Type 0 where
  Set : ℕ → InCall
  Took : ℕ → InCall

-- an acknowledgement: how many bytes were taken when it was answered, and the number that it carries
pub record Ack : Type 0 where
  pub bytes : ℕ
  pub number : ℕ

-- each Took has at most as many bytes as the room to the next place
abbrev pub Steps : InWindow → List InCall → Type 0
Steps s [] = Unit {0}
Steps s (Set size ∷ calls) = Steps (in_set s size) calls
Steps s (Took n ∷ calls) = (n ≤ room_of s) × Steps (in_took s n) calls

-- an answer put before later ones
abbrev pub with_ack : ℕ → Option ℕ → List Ack → List Ack
with_ack bytes None later = later
with_ack bytes (Some number) later = record { bytes = bytes; number = number } ∷ later

-- WHAT THE CALLS ARE ANSWERED
abbrev pub acks_of : InWindow → List InCall → List Ack
acks_of s [] = []
acks_of s (Set size ∷ calls) = acks_of (in_set s size) calls
acks_of s (Took n ∷ calls) = with_ack (s.taken + n) (ack_of s n) (acks_of (in_took s n) calls)

-- how many bytes they take
abbrev pub taken_by : List InCall → ℕ
taken_by [] = 0
taken_by (Set size ∷ calls) = taken_by calls
taken_by (Took n ∷ calls) = n + taken_by calls

-- the window after the calls: that of the last Set, or the first
abbrev pub last_window : ℕ → List InCall → ℕ
last_window window [] = window
last_window window (Set size ∷ calls) = last_window (window_of size) calls
last_window window (Took n ∷ calls) = last_window window calls

-- the window in effect at a byte, counted from 1: that of the last Set before the Took that has the byte, or the first
abbrev pub window_at : ℕ → List InCall → ℕ → ℕ
window_at window [] byte = window
window_at window (Set size ∷ calls) byte = window_at (window_of size) calls byte
window_at window (Took n ∷ calls) byte = if nat_le byte n then window else window_at window calls (byte - n)

-- an acknowledgement is due after a byte: its count is a multiple of the window in effect at it
abbrev pub is_due : ℕ → List InCall → ℕ → Bool
is_due window calls byte = byte % window_at window calls byte == 0

abbrev pub ack_at : ℕ → Ack
ack_at byte = record { bytes = byte; number = number_of byte }

-- THE ACKNOWLEDGEMENTS THAT ARE DUE: of all bytes, in order, one after each that calls for it
abbrev pub due : ℕ → List InCall → List Ack
due window calls = map ack_at (filter (is_due window calls) (range_with_len 1 (taken_by calls)))

-- the acknowledgements after the multiples of one window, up to a number of bytes
abbrev pub multiples : ℕ → ℕ → List Ack
multiples window total = map ack_at (filter (λ byte. byte % window == 0) (range_with_len 1 total))
