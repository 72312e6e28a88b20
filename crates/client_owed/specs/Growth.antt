-- What goes together: how many bytes of chunks were fed, their messages, and what was given
use Rattle.std.specs.Prelude.{ℕ, ◌+◌, ◌≤◌, List, [], ◌∷◌}
use Rattle.chunk_wire.specs.declared.message.Message.{Message}
use Rattle.session_owed.specs.Talk.{hand_bytes}
use Rattle.client_owed.specs.declared.types.Gave.{Gave}

-- no message ends after so many bytes
abbrev pub EndBy : ℕ → List (ℕ × Message) → Type 0
EndBy n [] = Unit {0}
EndBy n (m ∷ ms) = (m.0 ≤ n) × EndBy n ms

-- nothing is given before the handshake is over, or after so many bytes of chunks
abbrev pub GivenBy : ℕ → List Gave → Type 0
GivenBy n [] = Unit {0}
GivenBy n (g ∷ T) = (hand_bytes ≤ g.at) × (g.at ≤ hand_bytes + n) × GivenBy n T

pub record Reaches (n : ℕ) (ms : List (ℕ × Message)) (T : List Gave) : Type 0 where
  pub read : EndBy n ms
  pub given : GivenBy n T
