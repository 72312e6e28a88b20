-- Laws of a place, whether it has a stream or a pool.
use Rattle.std.proofs.Common.{◌≡◌, ℕ, zero, suc, ◌<◌, ◌≤◌, List, [], ◌∷◌, length, None, Some, Option, inl, inr, refl, ap, ◌∙◌, subst, sym, arith}
use Rattle.std.proofs.lemmas.Bool.{cases_lt}
use Rattle.av_unit.specs.declared.head.Want.{Want}
use Rattle.stream_model.specs.declared.calls.StreamLimits.{StreamLimits}
use Rattle.stream_model.specs.declared.calls.Call.{Call}
use Rattle.stream_model.specs.declared.calls.Call.TheVariants.{Take}
use Rattle.stream_model.specs.declared.calls.Entry.{Entry}
use Rattle.stream_model.specs.History.{History, items_of, holder}
use Rattle.stream_model.specs.Spell.{spell}
use Rattle.stream_model.specs.Answer.{reply}
use Rattle.stream_model.specs.Legal.{Legal}
use Rattle.stream_model.specs.Pool.{PoolSlot, no_slot, slot_at, slot_for, slots_of, found, reply_in, reply_at, IsPoolLawful}
use Rattle.stream_model.specs.Shape.{IsLawfulBy, AreLegalBy}
use Rattle.stream_law.proofs.Slots.{is_found, slots_length}
use Rattle.stream_law.proofs.PoolSlots.{each_stream, each_lawful}
use Rattle.stream_law.proofs.Viewers.{legal}

-- no call, so nothing was sent
legal_first : (limits : StreamLimits) (place : ℕ) → Legal limits [] place
legal_first limits place = record { rises = tt; content = tt; configured = tt; whole = tt; passed = λ n b. absurd (omega (arith, b.0, b.1)) }

slot_past : (slots : List PoolSlot) (i : ℕ) → length slots ≤ i → slot_at slots i ≡ no_slot
slot_past [] i h = refl
slot_past (s ∷ slots) zero h = absurd (omega arith)
slot_past (s ∷ slots) (suc i) h = slot_past slots i (omega arith)

pub legal_by : (limits : StreamLimits) (slots : Option ℕ) (past : History) → IsLawfulBy limits slots past → (slot player : ℕ) → AreLegalBy limits slots past slot player
legal_by limits None past lawful slot player = legal limits past lawful player
legal_by limits (Some n) past lawful slot player = elim (cases_lt slot n) [
  | inl lt ↦ legal limits (slot_at (slots_of limits n past) slot).stream.past (each_lawful limits n past lawful slot lt) player
  | inr le ↦
      let none = slot_past (slots_of limits n past) slot (omega (arith, slots_length limits n past lawful)) in
      subst (λ (s : PoolSlot). Legal limits s.stream.past player) (sym none) (legal_first limits player)
]

same_found : (slots : List PoolSlot) (c : Call) (i player : ℕ) (want : Want) → c ≡ Take player want → (entry : Entry) →
    reply (found slots c i).stream.limits (found slots c i).stream.past entry ≡ reply (slot_at slots i).stream.limits (slot_at slots i).stream.past entry
same_found slots c i player want call entry = ap (λ (d : Call). reply (found slots d i).stream.limits (found slots d i).stream.past entry) call

alone : (limits : StreamLimits) (past other : History) (entry : Entry) (player : ℕ) (want : Want) → entry.call ≡ Take player want → items_of past ≡ items_of other →
    spell past player ≡ spell other player → holder past player ≡ holder other player → reply limits past entry ≡ reply limits other entry
alone limits past other entry player want call items spells holders = rw (call, items, spells, holders) refl

reply_found : (slots : List PoolSlot) (past : History) (entry : Entry) (i player : ℕ) (want : Want) → entry.call ≡ Take player want → slot_for slots entry.who entry.call ≡ Some i →
    reply_at slots past entry ≡ reply (slot_at slots i).stream.limits (slot_at slots i).stream.past entry
reply_found slots past entry i player want call is = ap (reply_in slots past entry) is ∙ same_found slots entry.call i player want call entry

pub alone_there : (limits : StreamLimits) (n : ℕ) (past : History) → IsPoolLawful limits n past → (entry : Entry) (i player : ℕ) (want : Want) (other : History) →
    entry.call ≡ Take player want → slot_for (slots_of limits n past) entry.who entry.call ≡ Some i →
    items_of (slot_at (slots_of limits n past) i).stream.past ≡ items_of other → spell (slot_at (slots_of limits n past) i).stream.past player ≡ spell other player →
    holder (slot_at (slots_of limits n past) i).stream.past player ≡ holder other player → reply_at (slots_of limits n past) past entry ≡ reply limits other entry
alone_there limits n past lawful entry i player want other call is items spells holders =
    let within = (is_found (slots_of limits n past) entry.who entry.call i is).within in
    let lt : i < n = omega (arith, slots_length limits n past lawful) in
    reply_found (slots_of limits n past) past entry i player want call is
    ∙ ap (λ (l : StreamLimits). reply l (slot_at (slots_of limits n past) i).stream.past entry) (each_stream limits n past lawful i lt).limits_are
    ∙ alone limits (slot_at (slots_of limits n past) i).stream.past other entry player want call items spells holders
