-- The parts of a pool, from past to past.
use Rattle.std.proofs.Common.{◌≡◌, ℕ, zero, suc, ◌+◌, ◌*◌, ◌^◌, ◌<◌, ◌≤◌, true, List, [], ◌∷◌, length, get_or, Some, ◌⊎◌, inl, inr, refl, sym, ap, ◌∙◌, arith, length-append}
use Rattle.std.proofs.Math.Nat.{add-mul}
use Rattle.std.proofs.lemmas.Option.{get_or_from_slice_get, slice_get_read}
use Rattle.stream_model.specs.declared.calls.StreamLimits.{StreamLimits}
use Rattle.stream_model.specs.declared.calls.Call.{Call}
use Rattle.stream_model.specs.History.{History, items_of}
use Rattle.stream_model.specs.Pool.{PoolSlot, new_slot, new_slots, no_slot, slot_at, name_asked, has_name, is_idle, slot_for}
use Rattle.stream_law.proofs.Slots.{is_found}
use Rattle.stream_core.specs.declared.tally.Tally.{Tally}
use Rattle.stream_core.specs.Tally.{no_answers}
use Rattle.stream_core.specs.IsPoolPast.{IsPoolPast, HaveLimits, for_each}
use Rattle.stream_law.proofs.PoolSlots.{most_items, each_stream}

-- what is read at an index is the slot there
pub at_slot : (slots : List PoolSlot) (i : ℕ) (x : PoolSlot) → i < length slots → x ≡ get_or slots i x → slot_at slots i ≡ x
at_slot slots i x h is = get_or_from_slice_get slots i x no_slot (slice_get_read slots (length slots) i x refl h is)

-- the slot that a call finds has the name that the call asks for, or is idle
pub open_slot : (slots : List PoolSlot) (who : ℕ) (c : Call) (i : ℕ) (x : PoolSlot) → slot_for slots who c ≡ Some i → slot_at slots i ≡ x →
    (name : List ℕ) → name_asked c ≡ Some name → (has_name name x ≡ true) ⊎ (is_idle x ≡ true)
open_slot slots who c i x is at name asks = elim ((is_found slots who c i is).named name asks) [
  | inl h ↦ inl (rw at at h)
  | inr h ↦ inr (rw at at h.idle)
]

new_length : (limits : StreamLimits) (n : ℕ) → length (new_slots limits n) ≡ n
new_length limits zero = refl
new_length limits (suc n) = omega (arith, length-append (new_slots limits n) (new_slot limits ∷ []), new_length limits n)

-- as many slots as there are to be, which have had no call
pub length_new : (limits : StreamLimits) (n : ℕ) (slots : List PoolSlot) → slots ≡ new_slots limits n → length slots ≡ n
length_new limits n slots e = ap length e ∙ new_length limits n

pub new_pool : (limits : StreamLimits) (n : ℕ) (slots : List PoolSlot) (tally : Tally) (past : History) → n ≤ 64 → slots ≡ new_slots limits n → tally ≡ no_answers → past ≡ [] → IsPoolPast limits slots tally past
new_pool limits n slots tally past few e t p =
    let count = length_new limits n slots e in
    rw (t, p) (record {
      few = rw count few;
      slots_are = e ∙ ap (new_slots limits) (sym count);
      tally_is = record { began = refl; pushed = refl; ended = refl; joined = refl; skips = refl };
      lawful = tt;
    })

module _ {limits : StreamLimits} {slots : List PoolSlot} {tally : Tally} {past : History} where
  -- there is room for three items more
  pub few_items : (i : ℕ) (x : PoolSlot) → IsPoolPast limits slots tally past → length past < 2 ^ 62 → i < length slots → slot_at slots i ≡ x → length (items_of x.stream.past) + 2 < 3 * 2 ^ 62
  few_items i x p few lt is =
      let most : length (items_of (slot_at slots i).stream.past) ≤ 3 * length past = rw (← p.slots_are) at (most_items limits (length slots) past p.lawful i lt) in
      let le : length (items_of x.stream.past) ≤ 3 * length past = rw is at most in
      omega arith

have_limits : (limits : StreamLimits) (slots : List PoolSlot) → ((i : ℕ) → i < length slots → (slot_at slots i).stream.limits ≡ limits) → HaveLimits limits slots
have_limits limits [] each = tt
have_limits limits (s ∷ slots) each = (each 0 (omega arith), have_limits limits slots (λ i lt. each (suc i) (omega arith)))

pub all_limits : (limits : StreamLimits) (slots : List PoolSlot) (tally : Tally) (past : History) → IsPoolPast limits slots tally past → HaveLimits limits slots
all_limits limits slots tally past p =
    have_limits limits slots (λ i lt. rw (← p.slots_are) at (each_stream limits (length slots) past p.lawful i lt).limits_are)

one_more : (most n m t : ℕ) → m ≡ n + 1 → t ≡ n * most → most + t ≡ m * most
one_more most n m t e f = let a = add-mul n 1 most in rw e (omega (arith, f))

pub for_each_is : (most : ℕ) (slots : List PoolSlot) → for_each most slots ≡ length slots * most
for_each_is most [] = let e : 0 * most ≡ 0 = omega arith in sym e
for_each_is most (s ∷ slots) = one_more most (length slots) (length (s ∷ slots)) (for_each most slots) (omega arith) (for_each_is most slots)
