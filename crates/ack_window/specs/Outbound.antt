-- How far a peer has acknowledged what it was sent (RTMP 1.0, 5.4.3 to 5.4.5). What is named own is this
-- project's choice.
use Rattle.std.specs.Prelude.{ℕ, ◌+◌, ◌-◌, ◌%◌, ◌^◌, ◌<◌, ◌≤◌, ◌==◌, Bool, true, false, nat_lt, if◌then◌else◌, min, max, IsTrue}
use Rattle.ack_window.specs.Window.{window_of}

-- the window in effect, how many bytes were sent, how many of these are acknowledged, and whether an acknowledgement
-- ever came
pub record OutWindow : Type 0 where
  pub window : ℕ
  pub sent : ℕ
  pub acknowledged : ℕ
  pub heard : Bool

-- what each keeps
pub record IsOutWindow (window sent acknowledged : ℕ) : Type 0 where
  pub least : 1000 ≤ window
  pub most : window < 2 ^ 32
  pub within : acknowledged ≤ sent
  pub far : sent < 2 ^ 64

abbrev pub new_out : ℕ → OutWindow
new_out size = record { window = window_of size; sent = 0; acknowledged = 0; heard = false }

-- Set Peer Bandwidth (5.4.5): limit 0 sets the window, and limit 1 takes the lesser of both. Others change
-- nothing (own: limit 2 is treated as 0 by the standard where the one before was 0)
abbrev pub limited : ℕ → ℕ → ℕ → ℕ
limited window size limit =
    if limit == 0 then window_of size else (if limit == 1 then min window (window_of size) else window)

abbrev pub out_set : OutWindow → ℕ → ℕ → OutWindow
out_set s size limit = record { window = limited s.window size limit; sent = s.sent; acknowledged = s.acknowledged; heard = s.heard }

-- the count stands still at the end of its 64 bits
abbrev pub out_sent : OutWindow → ℕ → OutWindow
out_sent s n = record { window = s.window; sent = min (s.sent + n) (2 ^ 64 - 1); acknowledged = s.acknowledged; heard = s.heard }

-- how far the value of an acknowledgement is behind what was sent, modulo 2^32
abbrev pub behind : ℕ → ℕ → ℕ
behind sent value = (sent + (2 ^ 32 - value)) % 2 ^ 32

-- how many bytes it acknowledges: the count that is so far behind, or all where that is 2^31 or more (own)
abbrev pub meant : ℕ → ℕ → ℕ
meant sent value = if nat_lt (behind sent value) (2 ^ 31) then sent - behind sent value else sent

abbrev pub out_acked : OutWindow → ℕ → OutWindow
out_acked s value = record { window = s.window; sent = s.sent; acknowledged = max s.acknowledged (meant s.sent value); heard = true }

-- the sender is held back: an acknowledgement came, and a window of bytes or more isn't acknowledged
pub record IsHeldBack (s : OutWindow) : Type 0 where
  pub heard : IsTrue s.heard
  pub full : s.window ≤ s.sent - s.acknowledged
