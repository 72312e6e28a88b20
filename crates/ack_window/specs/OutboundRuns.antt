-- Calls at an `Outbound`, one after another.
use Rattle.std.specs.Prelude.{◌≡◌, ℕ, ◌+◌, ◌<◌, List, [], ◌∷◌, ◌++◌}
use Rattle.ack_window.specs.Outbound.{OutWindow, new_out, out_set, out_sent, out_acked, meant}

-- a call: Set Peer Bandwidth came with a size and a limit, so many bytes were sent, or an acknowledgement came
pub data OutCall : Type 0 where
  Set : ℕ → ℕ → OutCall
  Sent : ℕ → OutCall
  Acked : ℕ → OutCall

-- what one call makes
abbrev pub out_after : OutWindow → OutCall → OutWindow
out_after s (Set size limit) = out_set s size limit
out_after s (Sent n) = out_sent s n
out_after s (Acked value) = out_acked s value

-- what calls in turn make
abbrev pub out_after_all : OutWindow → List OutCall → OutWindow
out_after_all s [] = s
out_after_all s (call ∷ calls) = out_after_all (out_after s call) calls

-- WHAT CALLS MAKE of an `Outbound` with a first window
abbrev pub outbound : ℕ → List OutCall → OutWindow
outbound size calls = out_after_all (new_out size) calls

-- no call of these sets a window: none is a Set of limit 0 or 1
abbrev pub KeepsWindow : List OutCall → Type 0
KeepsWindow [] = Unit {0}
KeepsWindow (Set size limit ∷ calls) = (1 < limit) × KeepsWindow calls
KeepsWindow (Sent n ∷ calls) = KeepsWindow calls
KeepsWindow (Acked value ∷ calls) = KeepsWindow calls

-- how many bytes they send
abbrev pub sent_by : List OutCall → ℕ
sent_by [] = 0
sent_by (Set size limit ∷ calls) = sent_by calls
sent_by (Sent n ∷ calls) = n + sent_by calls
sent_by (Acked value ∷ calls) = sent_by calls

-- an acknowledgement among calls: the calls before it, its value, and the calls after it
pub record AckedIn (calls : List OutCall) : Type 0 where
  pub before : List OutCall
  pub value : ℕ
  pub after : List OutCall
  pub is : calls ≡ before ++ (Acked value ∷ after)

-- how many bytes an acknowledgement means that comes after these calls
abbrev pub meant_after : ℕ → List OutCall → ℕ → ℕ
meant_after size before value = meant (outbound size before).sent value

-- an acknowledgement among calls means n bytes
pub record IsMeant (size : ℕ) (calls : List OutCall) (n : ℕ) : Type 0 where
  pub at : AckedIn calls
  pub is : n ≡ meant_after size at.before at.value
