-- Laws of reading
use Rattle.std.specs.Prelude.{◌≡◌, ◌⊎◌, ◌≤◌, ℕ, List, [], ◌∷◌, ◌++◌, length, take}
use Rattle.chunk_wire.specs.declared.message.Message.{Message}
use Rattle.chunk_wire.specs.State.{State}
use Rattle.chunk_reader.specs.declared.fail.ReadCause.{ReadCause}
use Rattle.chunk_reader.specs.Reads.{Reads}
use Rattle.chunk_reader.specs.Sound.{IsRead}
use Rattle.chunk_reader.specs.Stops.{Stops}

-- two readings give the same messages and leave the same state and the same rest
pub record SameReading (ms ns : List (ℕ × Message)) (s t : State) (q r : List ℕ) : Type 0 where
  pub messages_same : ms ≡ ns
  pub state_same : s ≡ t
  pub rest_same : q ≡ r

-- the first n bytes read too, as the first of the messages
pub record ReadsPart (max : ℕ) (b : List ℕ) (n : ℕ) (ms : List (ℕ × Message)) : Type 0 where
  pub first : List (ℕ × Message)
  pub later : List (ℕ × Message)
  pub s : State
  pub r : List ℕ
  pub reads : Reads max (take n b) first s r
  pub begins : ms ≡ first ++ later

-- two refusals have the same cause and place
pub record SameStop (c d : ReadCause) (p q : ℕ) : Type 0 where
  pub cause_same : c ≡ d
  pub place_same : p ≡ q

-- the bytes are read, or refused at a place
abbrev pub IsReadOrRefused : ℕ → List ℕ → Type 0
IsReadOrRefused max b = ((ms : List (ℕ × Message)) × IsRead max b ms) ⊎ ((cause : ReadCause) × ((place : ℕ) × Stops max b cause place))

-- no body has more bytes
abbrev pub AreShort : ℕ → List (ℕ × Message) → Type 0
AreShort max [] = Unit {0}
AreShort max (m ∷ ms) = (length m.1.body ≤ max) × AreShort max ms
