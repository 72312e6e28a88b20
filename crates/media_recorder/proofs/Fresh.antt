-- A place that has had no call keeps each rule
use Rattle.std.proofs.Common.{◌≡◌, ℕ, zero, suc, ◌++◌, List, [], ◌∷◌, Option, None, Some, refl, sym, subst, arith}
use Rattle.stream_model.specs.declared.calls.StreamLimits.{StreamLimits}
use Rattle.stream_model.specs.declared.calls.Shape.{Shape}
use Rattle.stream_model.specs.History.{History}
use Rattle.stream_model.specs.Legal.{Legal}
use Rattle.stream_model.specs.Pool.{PoolSlot, new_slot, new_slots, slot_at}
use Rattle.stream_model.specs.Shape.{IsLawfulBy, AreLegalBy}
use Rattle.stream_registry.specs.Told.{Keeps}

-- the calls of a slot
past_at : List PoolSlot → ℕ → History
past_at slots i = (slot_at slots i).stream.past

one_more : (limits : StreamLimits) (slots : List PoolSlot) → ((i : ℕ) → past_at slots i ≡ []) → (i : ℕ) → past_at (slots ++ new_slot limits ∷ []) i ≡ []
unfolding past_at
one_more limits [] none zero = refl
one_more limits [] none (suc i) = refl
one_more limits (s ∷ slots) none zero = none zero
one_more limits (s ∷ slots) none (suc i) = one_more limits slots (λ (j : ℕ). none (suc j)) i

-- no slot of a new pool has had a call, and none that isn't there
new_past : (limits : StreamLimits) (n i : ℕ) → past_at (new_slots limits n) i ≡ []
unfolding past_at
new_past limits zero i = refl
new_past limits (suc n) i = one_more limits (new_slots limits n) (new_past limits n) i

none_sent : (limits : StreamLimits) (player : ℕ) → Legal limits [] player
none_sent limits player = record { rises = tt; content = tt; configured = tt; whole = tt; passed = λ n b. absurd (omega (arith, b.1)) }

lawful : (limits : StreamLimits) (slots : Option ℕ) → IsLawfulBy limits slots []
lawful limits None = tt
lawful limits (Some n) = tt

legal : (limits : StreamLimits) (slots : Option ℕ) (slot player : ℕ) → AreLegalBy limits slots [] slot player
unfolding past_at
legal limits None slot player = none_sent limits player
legal limits (Some n) slot player = subst (λ (h : History). Legal limits h player) (sym (new_past limits n slot)) (none_sent limits player)

pub keeps_none : (shape : Shape) → Keeps shape []
keeps_none shape = record { rules = lawful shape.limits shape.slots; viewers = legal shape.limits shape.slots }
