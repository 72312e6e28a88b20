-- What an edge and its client hold together
use Rattle.std.proofs.Common.{◌≡◌, ◌≤◌, inl, inr, ℕ, ◌+◌, Bool, true, false, is_some, List, Some, refl, sym, ap, ◌∙◌, subst, arith}
use Rattle.chunk_wire.specs.declared.message.Message.{Message}
use Rattle.chunk_wire.specs.State.{State}
use Rattle.chunk_reader.specs.Feeds.{IsHeld}
use Rattle.chunk_reader.specs.Laws.{SameReading}
use Rattle.chunk_reader.specs.ReaderKnown.{ReaderKnown}
use Rattle.chunk_reader.specs.Reads.{Reads, held_bytes}
use Rattle.client_owed.specs.declared.types.Gift.{Gift}
use Rattle.rtmp_client.specs.Bounds.{IsHolding, IsParts, IsWithin, gift_bytes}
use Rattle.rtmp_client.specs.ClientState.{ClientState, without_gift}
use Rattle.rtmp_client.specs.declared.core_fields.Core.{Core}
use Rattle.origin_pull.specs.Keeping.{HasRoom, bytes_in, waiting_bytes}
use Rattle.origin_pull.specs.Turns.{IsDue, IsTaken}
use Rattle.origin_pull.specs.declared.core_fields.Core.{Core as EdgeCore}
use Rattle.origin_pull.proofs.Owing.{IsFree, due_waits, free_waits}
use Rattle.origin_pull.proofs.Tags.{calls_short}

-- two readings of the same bytes are one
abbrev pub OneReading : Type 0
OneReading = (max : ℕ) (b : List ℕ) (ms ns : List (ℕ × Message)) (s t : State) (q r : List ℕ) → Reads max b ms s q → Reads max b ns t r
    → SameReading ms ns s t q r

held_one : OneReading → (k : ReaderKnown) (m n : ℕ) → IsHeld k m → IsHeld k n → m ≡ n
held_one law k m n h i =
    let same = law k.max k.fed k.given k.given h.0 i.0 h.1.0 i.1.0 h.1.1 i.1.1 in
    h.1.2 ∙ ap (λ (s : State). held_bytes s h.1.0) same.state_same ∙ ap (λ (r : List ℕ). held_bytes i.0 r) same.rest_same ∙ sym i.1.2

parts_by : OneReading → (b : Bool) (k : ReaderKnown) (m n : ℕ) → is_some k.failed ≡ b → IsParts k m → IsParts k n → m ≡ n
parts_by law true k m n e p q = p.failed e ∙ sym (q.failed e)
parts_by law false k m n e p q = held_one law k m n (p.lives e) (q.lives e)

parts_one : OneReading → (k : ReaderKnown) (m n : ℕ) → IsParts k m → IsParts k n → m ≡ n
parts_one law k m n p q = parts_by law (is_some k.failed) k m n refl p q

within_less : (max m n : ℕ) → m ≤ n → IsWithin max n → IsWithin max m
within_less max m n le w = omega (arith, le, w)

-- the tag that was taken makes room for its unit
taken_room : OneReading → (c : Core) (input : List ℕ) (n m : ℕ) (g : Gift) (u : ℕ) → IsHolding c input n → c.gift ≡ Some g → u ≤ gift_bytes (Some g)
    → IsHolding (without_gift c) input m → m + u ≤ n
taken_room law c input n m g u h e le i =
    omega (arith, h.sum, i.sum, ap gift_bytes e, le, parts_one law c.reader h.parts i.parts h.read i.read)

pub room_given : OneReading → (k j : ClientState) (n : ℕ) (g : Gift) (u : ℕ) → IsHolding k.parts k.input n → IsWithin k.parts.reader.max n
    → k.parts.gift ≡ Some g → u ≤ gift_bytes (Some g) → IsTaken k j → HasRoom u j
room_given law k j n g u h w e le t = inr (λ m i. (
    let here : IsHolding (without_gift k.parts) k.input m = subst (λ (l : List ℕ). IsHolding (without_gift k.parts) l m) t.input
    (subst (λ (c : Core). IsHolding c j.input m) t.parts i) in
    subst (λ (c : Core). IsWithin c.reader.max (m + u)) (sym t.parts)
    (within_less k.parts.reader.max (m + u) n (taken_room law k.parts k.input n m g u h e le here) w)))

pub room_less : (m n : ℕ) (k : ClientState) → m ≤ n → HasRoom n k → HasRoom m k
room_less m n k le (inl e) = inl (omega (arith, le, e))
room_less m n k le (inr f) = inr (λ x h. within_less k.parts.reader.max (x + m) (x + n) (omega (arith, le)) (f x h))

-- what both hold together
pub held_most : (k : ClientState) (n u : ℕ) → HasRoom u k → IsHolding k.parts k.input n → IsWithin k.parts.reader.max n → IsWithin k.parts.reader.max (n + u)
held_most k n u (inl e) h w = within_less k.parts.reader.max (n + u) n (omega (arith, e)) w
held_most k n u (inr f) h w = f n h

-- ---- the calls that are due for a gift

due_short : (c d : EdgeCore) (g : Gift) → IsFree c → IsDue c g d → waiting_bytes d ≤ gift_bytes (Some g)
due_short c d g f i = omega (arith, ap bytes_in (due_waits c d g f i), calls_short c.who c.live g)

pub room_due : OneReading → (c d : EdgeCore) (k j : ClientState) (n : ℕ) (g : Gift) → IsFree c → IsDue c g d → IsHolding k.parts k.input n
    → IsWithin k.parts.reader.max n → k.parts.gift ≡ Some g → IsTaken k j → HasRoom (waiting_bytes d) j
room_due law c d k j n g f i h w e t = room_given law k j n g (waiting_bytes d) h w e (due_short c d g f i) t

pub room_free : (c d : EdgeCore) (j : ClientState) → IsFree c → d ≡ c → HasRoom (waiting_bytes d) j
room_free c d j f e = inl (ap waiting_bytes e ∙ ap bytes_in (free_waits c f))
