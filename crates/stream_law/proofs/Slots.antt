-- The slots of a pool, from call to call.
use Rattle.std.proofs.Common.{◌≡◌, ℕ, zero, suc, ◌<◌, Bool, true, false, if◌then◌else◌, ◌==◌, List, [], ◌∷◌, length, set, None, Some, Option, ◌⊎◌, inl, inr, refl, sym, ap, ◌∙◌, arith, length-set, length-append}
use Rattle.std.proofs.lemmas.Bool.Decides.{nat_tests}
use Rattle.std.proofs.lemmas.Bool.{cases_Bool, false≢true, cases_lt}
use Rattle.std.proofs.lemmas.Grind.{common_steps}
use Rattle.std.specs.Cmp.Lexicographic.{bytes_decides}
use Rattle.stream_model.specs.declared.calls.StreamLimits.{StreamLimits}
use Rattle.stream_model.specs.declared.calls.Call.{Call}
use Rattle.stream_model.specs.declared.calls.Call.TheVariants as call
use Rattle.stream_model.specs.declared.calls.Entry.{Entry}
use Rattle.stream_model.specs.declared.replies.Reply.{Reply}
use Rattle.stream_model.specs.History.{History}
use Rattle.stream_model.specs.Answer.{reply, first_or}
use Rattle.stream_model.specs.Pool.{PoolSlot, new_slot, new_slots, slot_at, name_asked, has_name, is_name, is_idle, least_below, least_slot, slot_named, slot_for, is_published_by, is_played_by, cleared, taking, ready, found, noted, reply_in, slots_in, slots_of, slots_after, reply_at, IsPoolLawful}

-- the least number below n that passes
pub record IsLeast (p : ℕ → Bool) (n i : ℕ) : Type 0 where
  pub within : i < n
  pub passes : p i ≡ true

pub first_or-some : (p q : Option ℕ) (i : ℕ) → first_or p q ≡ Some i → (p ≡ Some i) ⊎ ((p ≡ None) × (q ≡ Some i))
first_or-some None q i e = inr (refl, e)
first_or-some (Some k) q i e = inl e

one_if : (p : ℕ → Bool) (n i : ℕ) → (if p n then Some n else None) ≡ Some i → (n ≡ i) × (p i ≡ true)
one_if p n i e = elim (cases_Bool (p n)) [
  | inl h ↦ let f = rw h at e in let same : n ≡ i = cc in (same, rw same at h)
  | inr h ↦ let f = rw h at e in absurd (cc f)
]

pub is_least : (p : ℕ → Bool) (n i : ℕ) → least_below p n ≡ Some i → IsLeast p n i
is_least p zero i e = absurd (cc)
is_least p (suc n) i e = elim (first_or-some (least_below p n) (if p n then Some n else None) i e) [
  | inl h ↦ let k = is_least p n i h in let lt = k.within in record { within = omega arith; passes = k.passes }
  | inr h ↦ let k = one_if p n i h.1 in let same = k.0 in record { within = omega arith; passes = k.1 }
]

first_or-none : (p q : Option ℕ) → first_or p q ≡ None → (p ≡ None) × (q ≡ None)
first_or-none None q e = (refl, e)
first_or-none (Some k) q e = absurd (cc)

not_one : (p : ℕ → Bool) (n : ℕ) → (if p n then Some n else None) ≡ None → p n ≡ false
not_one p n e = elim (cases_Bool (p n)) [
  | inl h ↦ let f = rw h at e in absurd (cc f)
  | inr h ↦ h
]

pub none_least : (p : ℕ → Bool) (n : ℕ) → least_below p n ≡ None → (i : ℕ) → i < n → p i ≡ false
none_least p zero e i lt = absurd (omega arith)
none_least p (suc n) e i lt =
    let h = first_or-none (least_below p n) (if p n then Some n else None) e in
    elim (cases_lt i n) [
      | inl less ↦ none_least p n h.0 i less
      | inr le ↦ let same : n ≡ i = omega arith in rw same at (not_one p n h.1)
    ]

-- a slot that may take the name
pub record IsOpen (slots : List PoolSlot) (name : List ℕ) (i : ℕ) : Type 0 where
  pub idle : is_idle (slot_at slots i) ≡ true
  pub unnamed : (j : ℕ) → j < length slots → has_name name (slot_at slots j) ≡ false

-- a slot that a call finds
pub record IsFound (slots : List PoolSlot) (c : Call) (i : ℕ) : Type 0 where
  pub within : i < length slots
  pub named : (name : List ℕ) → name_asked c ≡ Some name → (has_name name (slot_at slots i) ≡ true) ⊎ IsOpen slots name i

named_found : (slots : List PoolSlot) (name : List ℕ) (i : ℕ) → slot_named slots name ≡ Some i →
    (i < length slots) × ((has_name name (slot_at slots i) ≡ true) ⊎ IsOpen slots name i)
named_found slots name i e = elim (first_or-some (least_slot (has_name name) slots) (least_slot is_idle slots) i e) [
  | inl h ↦ let k = is_least (λ j. has_name name (slot_at slots j)) (length slots) i h in (k.within, inl k.passes)
  | inr h ↦ let k = is_least (λ j. is_idle (slot_at slots j)) (length slots) i h.1 in
      (k.within, inr (record { idle = k.passes; unnamed = none_least (λ j. has_name name (slot_at slots j)) (length slots) h.0 }))
]

by_name : (slots : List PoolSlot) (c : Call) (name : List ℕ) (i : ℕ) → name_asked c ≡ Some name → slot_named slots name ≡ Some i → IsFound slots c i
by_name slots c name i asks e =
    let h = named_found slots name i e in
    record { within = h.0; named = λ other is. let same : name ≡ other = cc (asks, is) in rw same at h.1 }

unnamed : (slots : List PoolSlot) (c : Call) (p : PoolSlot → Bool) (i : ℕ) → name_asked c ≡ None → least_slot p slots ≡ Some i → IsFound slots c i
unnamed slots c p i asks e = record {
  within = (is_least (λ j. p (slot_at slots j)) (length slots) i e).within;
  named = λ name is. absurd (cc (asks, is));
}

pub is_found : (slots : List PoolSlot) (who : ℕ) (c : Call) (i : ℕ) → slot_for slots who c ≡ Some i → IsFound slots c i
is_found slots who call.Begin i e = by_name slots call.Begin [] i refl e
is_found slots who call.Join i e = by_name slots call.Join [] i refl e
is_found slots who (call.BeginAs name) i e = by_name slots (call.BeginAs name) name i refl e
is_found slots who (call.JoinAs name) i e = by_name slots (call.JoinAs name) name i refl e
is_found slots who (call.Push u) i e = unnamed slots (call.Push u) (is_published_by who) i refl e
is_found slots who call.End i e = unnamed slots call.End (is_published_by who) i refl e
is_found slots who (call.Take player want) i e = unnamed slots (call.Take player want) (is_played_by who player) i refl e
is_found slots who (call.Leave player) i e = unnamed slots (call.Leave player) (is_played_by who player) i refl e
is_found slots who call.Count i e = absurd (cc)

pub slot_changed : (slots : List PoolSlot) (i j : ℕ) (new : PoolSlot) → i < length slots → slot_at (set slots i new) j ≡ (if i == j then new else slot_at slots j)
slot_changed slots i j new lt = grind (arith, nat_tests, common_steps)

-- the slot that the call finds, after the call
abbrev pub changed : List PoolSlot → Entry → Reply → ℕ → PoolSlot
changed slots entry r i = noted entry r (found slots entry.call i)

-- a call changes no slot, or the one that it found
pub data Step (slots : List PoolSlot) (entry : Entry) (r : Reply) (slots_now : List PoolSlot) : Type 0 where
  nowhere : slots_now ≡ slots → Step slots entry r slots_now
  somewhere : (i : ℕ) → IsFound slots entry.call i → r ≡ reply (found slots entry.call i).stream.limits (found slots entry.call i).stream.past entry →
      slots_now ≡ set slots i (changed slots entry r i) → Step slots entry r slots_now

step_in : (slots : List PoolSlot) (past : History) (entry : Entry) (r : Reply) (o : Option ℕ) → ((i : ℕ) → o ≡ Some i → IsFound slots entry.call i) → r ≡ reply_in slots past entry o →
    Step slots entry r (slots_in slots entry r o)
step_in slots past entry r None h law = nowhere refl
step_in slots past entry r (Some i) h law = somewhere i (h i refl) law refl

pub step : (slots : List PoolSlot) (past : History) (entry : Entry) (r : Reply) → r ≡ reply_at slots past entry → Step slots entry r (slots_after slots entry r)
step slots past entry r law = step_in slots past entry r (slot_for slots entry.who entry.call) (is_found slots entry.who entry.call) law

step_length : (slots now : List PoolSlot) (entry : Entry) (r : Reply) → Step slots entry r now → length now ≡ length slots
step_length slots now entry r (nowhere e) = ap length e
step_length slots now entry r (somewhere i f law e) = ap length e ∙ length-set slots i (changed slots entry r i)

pub new_length : (limits : StreamLimits) (n : ℕ) → length (new_slots limits n) ≡ n
new_length limits zero = refl
new_length limits (suc n) = omega (arith, length-append (new_slots limits n) (new_slot limits ∷ []), new_length limits n)

pub slots_length : (limits : StreamLimits) (n : ℕ) (past : History) → IsPoolLawful limits n past → length (slots_of limits n past) ≡ n
slots_length limits n [] lawful = new_length limits n
slots_length limits n (s ∷ past) lawful =
    step_length (slots_of limits n past) (slots_of limits n (s ∷ past)) s.0 s.1 (step (slots_of limits n past) past s.0 s.1 lawful.0) ∙ slots_length limits n past lawful.1

pub new_at : (limits : StreamLimits) (n i : ℕ) → i < n → slot_at (new_slots limits n) i ≡ new_slot limits
new_at limits zero i lt = absurd (omega arith)
new_at limits (suc n) i lt = elim (cases_lt i n) [
  | inl less ↦ grind (arith, nat_tests, common_steps, new_at limits n i less, new_length limits n)
  | inr le ↦ grind (arith, nat_tests, common_steps, new_length limits n)
]

-- a fact of slots that each step of a slot keeps
pub record IsKept (P : PoolSlot → Type 0) (limits : StreamLimits) : Type 0 where
  pub new : P (new_slot limits)
  -- the slot takes a name
  pub takes : (s : PoolSlot) (name : List ℕ) → P s → is_idle s ≡ true → P (record { name = Some name; stream = cleared s.stream })
  -- the slot has a call, which asks for no other name than the slot's
  pub notes : (s : PoolSlot) (entry : Entry) → P s → ((name : List ℕ) → name_asked entry.call ≡ Some name → has_name name s ≡ true) →
      P (noted entry (reply s.stream.limits s.stream.past entry) s)

pub name_is : (o : Option (List ℕ)) (name : List ℕ) → is_name o name ≡ true → o ≡ Some name
name_is None name e = absurd (false≢true e)
name_is (Some other) name e = ap Some ((bytes_decides other name).0 e)

pub is_its_name : (name : List ℕ) → is_name (Some name) name ≡ true
is_its_name name = (bytes_decides name name).1 refl

-- the fact holds of the slot as the call finds it, and the slot has the name
record IsReady (P : PoolSlot → Type 0) (o : Option (List ℕ)) (s : PoolSlot) : Type 0 where
  fact : P s
  name : (name : List ℕ) → o ≡ Some name → has_name name s ≡ true

taking_kept : (P : PoolSlot → Type 0) (limits : StreamLimits) (name : List ℕ) (s : PoolSlot) (b : Bool) → IsKept P limits → P s → has_name name s ≡ b →
    (has_name name s ≡ true) ⊎ (is_idle s ≡ true) → P (taking b name s) × (has_name name (taking b name s) ≡ true)
taking_kept P limits name s true k h e or = (h, e)
taking_kept P limits name s false k h e or = elim or [
  | inl f ↦ absurd (false≢true (sym e ∙ f))
  | inr f ↦ (k.takes s name h f, is_its_name name)
]

ready_kept : (P : PoolSlot → Type 0) (limits : StreamLimits) (o : Option (List ℕ)) (s : PoolSlot) → IsKept P limits → P s →
    ((name : List ℕ) → o ≡ Some name → (has_name name s ≡ true) ⊎ (is_idle s ≡ true)) → IsReady P o (ready o s)
ready_kept P limits None s k h or = record { fact = h; name = λ name e. absurd (cc e) }
ready_kept P limits (Some name) s k h or =
    let t = taking_kept P limits name s (has_name name s) k h refl (or name refl) in
    record { fact = t.0; name = λ other e. let same : other ≡ name = cc in rw same t.1 }

found_kept : (P : PoolSlot → Type 0) (limits : StreamLimits) (slots : List PoolSlot) (c : Call) (i : ℕ) → IsKept P limits → P (slot_at slots i) → IsFound slots c i → IsReady P (name_asked c) (found slots c i)
found_kept P limits slots c i k h f = ready_kept P limits (name_asked c) (slot_at slots i) k h
    (λ name asks. elim (f.named name asks) [ inl g ↦ inl g | inr g ↦ inr g.idle ])

abbrev pub AllSlots : (PoolSlot → Type 0) → List PoolSlot → Type 0
AllSlots P slots = (i : ℕ) → i < length slots → P (slot_at slots i)

all_set : (P : PoolSlot → Type 0) (slots : List PoolSlot) (i : ℕ) (new : PoolSlot) → AllSlots P slots → i < length slots → P new → AllSlots P (set slots i new)
all_set P slots i new all lt h j within = rw (slot_changed slots i j new lt) (elim (cases_Bool (i == j)) [
  | inl e ↦ rw e h
  | inr e ↦ rw e (all j (rw (length-set slots i new) at within))
])

step_kept : (P : PoolSlot → Type 0) (limits : StreamLimits) (slots now : List PoolSlot) (entry : Entry) (r : Reply) → IsKept P limits → AllSlots P slots → Step slots entry r now → AllSlots P now
step_kept P limits slots now entry r k all (nowhere e) = rw e all
step_kept P limits slots now entry r k all (somewhere i f law e) =
    let g = found_kept P limits slots entry.call i k (all i f.within) f in
    rw e (all_set P slots i (changed slots entry r i) all f.within (rw law (k.notes (found slots entry.call i) entry g.fact g.name)))

-- it holds of each slot of a pool
pub each_slot : (P : PoolSlot → Type 0) (limits : StreamLimits) (n : ℕ) (past : History) → IsKept P limits → IsPoolLawful limits n past → AllSlots P (slots_of limits n past)
each_slot P limits n [] k lawful = λ i lt. rw (new_at limits n i (rw (new_length limits n) at lt)) k.new
each_slot P limits n (s ∷ past) k lawful =
    step_kept P limits (slots_of limits n past) (slots_of limits n (s ∷ past)) s.0 s.1 k (each_slot P limits n past k lawful.1) (step (slots_of limits n past) past s.0 s.1 lawful.0)
