-- What the calls of one name at a pool are answered
use Rattle.std.proofs.Common.{◌≡◌, ◌==◌, ℕ, ◌<◌, Bool, true, false, if◌then◌else◌, List, [], ◌∷◌, length, set, length-set, Option, Some, None, ◌⊎◌, inl, inr, refl, sym, ap, ◌∙◌, subst}
use Rattle.std.proofs.lemmas.Bool.{cases_Bool, false≢true}
use Rattle.std.proofs.lemmas.Bool.Decides.{eqb_tells}
use Rattle.av_unit.specs.declared.head.Want.{Want}
use Rattle.av_unit.specs.declared.unit.UnitArc.{UnitArc}
use Rattle.session_owed.specs.Talk.{is_take}
use Rattle.stream_model.specs.declared.calls.StreamLimits.{StreamLimits}
use Rattle.stream_model.specs.declared.calls.Call.{Call}
use Rattle.stream_model.specs.declared.calls.Call.TheVariants as call
use Rattle.stream_model.specs.declared.calls.Entry.{Entry}
use Rattle.stream_model.specs.declared.replies.Reply.{Reply}
use Rattle.stream_model.specs.declared.replies.Reply.TheVariants as reply
use Rattle.stream_model.specs.Counts.{is_pushed, is_ended}
use Rattle.stream_model.specs.History.{History, items_of, publisher, holder}
use Rattle.stream_model.specs.Known.{IsLawful}
use Rattle.stream_model.specs.Spell.{reply_of}
use Rattle.stream_model.specs.Pool.{PoolSlot, slot_at, slots_of, slots_in, name_asked, has_name, is_idle, ready, found, reply_nowhere, reply_in, reply_at, slot_for, least_slot, is_published_by, is_played_by, IsPoolLawful}
use Rattle.stream_law.proofs.Slots.{IsFound, is_found, changed, slot_changed, slots_length, is_least, none_least}
use Rattle.stream_law.proofs.PoolSlots.{each_stream}
use Rattle.stream_law.proofs.OwnNames.{free_holder}
use Rattle.stream_registry.specs.Told.{Step as Told}
use Rattle.relay_session.specs.SeatState.{publishes, plays}
use Rattle.relay_session.specs.SeatOwn.{own, is_not_player, Somewhere, FaresSo}
use Rattle.relay_session.proofs.SeatOwn.{brings, alike_publishes, alike_plays, publisher_step, publisher_more, holder_more, began_none, ended_who, joined_free, left_held, it_is, is_answer, the_answer, no_item}

abbrev Published : ℕ → PoolSlot → Type 0
Published who s = publisher s.stream.past ≡ Some who

abbrev Played : ℕ → ℕ → PoolSlot → Type 0
Played who player s = holder s.stream.past player ≡ Some who

-- ---- a slot that isn't idle is found as it is

as_it_is : (o : Option (List ℕ)) (s : PoolSlot) → is_idle s ≡ false → ((name : List ℕ) → o ≡ Some name → (has_name name s ≡ true) ⊎ (is_idle s ≡ true)) → ready o s ≡ s
as_it_is None s busy or = refl
as_it_is (Some name) s busy or = elim (or name refl) [
  | inl h ↦ rw h refl
  | inr h ↦ absurd (false≢true (sym busy ∙ h))
]

found_same : (slots : List PoolSlot) (c : Call) (i : ℕ) → IsFound slots c i → is_idle (slot_at slots i) ≡ false → found slots c i ≡ slot_at slots i
found_same slots c i f busy = as_it_is (name_asked c) (slot_at slots i) busy (λ name asks. elim (f.named name asks) [ inl g ↦ inl g | inr g ↦ inr g.idle ])

published_busy : (who : ℕ) (s : PoolSlot) → Published who s → is_idle s ≡ false
published_busy who s e = rw e refl

some_not_none : (who : ℕ) (o : Option ℕ) → o ≡ Some who → o ≡ None → ⊥
some_not_none who o e f = cc

played_busy : (who player : ℕ) (s : PoolSlot) → IsLawful s.stream.limits s.stream.past → Played who player s → is_idle s ≡ false
played_busy who player s lawful e = elim (cases_Bool (is_idle s)) [
  | inl h ↦ absurd (some_not_none who (holder s.stream.past player) e (free_holder s.stream player h lawful))
  | inr h ↦ h
]

-- ---- one call more

if_true : {A : Type 0} (b : Bool) (x y : A) → b ≡ true → (if b then x else y) ≡ x
if_true true x y e = refl
if_true false x y e = absurd (false≢true e)

if_false : {A : Type 0} (b : Bool) (x y : A) → b ≡ false → (if b then x else y) ≡ y
if_false false x y e = refl
if_false true x y e = absurd (false≢true (sym e))

same : (n : ℕ) → (n == n) ≡ true
same n = elim (eqb_tells n n) [ inl t ↦ t.0 | inr t ↦ absurd (t.1 refl) ]

-- the slot that a call has, and the others
module _ (P : PoolSlot → Type 0) (slots : List PoolSlot) (i : ℕ) (new : PoolSlot) (within : i < length slots) where
  at_here : P new → Somewhere P (set slots i new)
  at_here h =
      let lt : i < length (set slots i new) = subst (λ (n : ℕ). i < n) (sym (length-set slots i new)) within in
      let is : slot_at (set slots i new) i ≡ new = slot_changed slots i i new within ∙ if_true (i == i) new (slot_at slots i) (same i) in
      (i, lt, subst P (sym is) h)

  at_other : (j : ℕ) → j < length slots → (i == j) ≡ false → P (slot_at slots j) → Somewhere P (set slots i new)
  at_other j there other h =
      let lt : j < length (set slots i new) = subst (λ (n : ℕ). j < n) (sym (length-set slots i new)) there in
      let is : slot_at (set slots i new) j ≡ slot_at slots j = slot_changed slots i j new within ∙ if_false (i == j) new (slot_at slots j) other in
      (j, lt, subst P (sym is) h)

  -- what one of them has is kept, where the slot of the call keeps it
  kept : Somewhere P slots → (P (slot_at slots i) → P new) → Somewhere P (set slots i new)
  kept s own = elim (eqb_tells i s.0) [
    | inl t ↦ at_here (own (subst (λ (j : ℕ). P (slot_at slots j)) (sym t.1) s.2))
    | inr t ↦ at_other s.0 s.1 t.0 s.2
  ]

nowhere_publishes : (n : ℕ) (past : History) (e : Entry) (c : Call) (calls : List Told) → publishes ((e, reply_nowhere n past c) ∷ calls) ≡ publishes calls
nowhere_publishes n past e call.Begin calls = refl
nowhere_publishes n past e (call.BeginAs name) calls = refl
nowhere_publishes n past e call.Join calls = refl
nowhere_publishes n past e (call.JoinAs name) calls = refl
nowhere_publishes n past e (call.Push u) calls = refl
nowhere_publishes n past e call.End calls = refl
nowhere_publishes n past e (call.Take player want) calls = refl
nowhere_publishes n past e (call.Leave player) calls = refl
nowhere_publishes n past e call.Count calls = refl

nowhere_plays : (n : ℕ) (past : History) (e : Entry) (c : Call) (player : ℕ) (calls : List Told) → plays player ((e, reply_nowhere n past c) ∷ calls) ≡ plays player calls
nowhere_plays n past e call.Begin player calls = refl
nowhere_plays n past e (call.BeginAs name) player calls = refl
nowhere_plays n past e call.Join player calls = refl
nowhere_plays n past e (call.JoinAs name) player calls = refl
nowhere_plays n past e (call.Push u) player calls = refl
nowhere_plays n past e call.End player calls = refl
nowhere_plays n past e (call.Take p want) player calls = refl
nowhere_plays n past e (call.Leave p) player calls = refl
nowhere_plays n past e call.Count player calls = refl

module _ (slots : List PoolSlot) (past : History) (entry : Entry) (r : Reply) (who : ℕ) (calls : List Told) where
  -- the stream of the slot that the call finds, where that is the publisher if the calls before say so
  published_more : (i : ℕ) → r ≡ reply_in slots past entry (Some i) → (publishes calls ≡ true → Published who (found slots entry.call i))
      → publishes (if entry.who == who then (entry, r) ∷ calls else calls) ≡ true → Published who (changed slots entry r i)
  published_more i law before p =
      let k = (found slots entry.call i).stream in
      publisher_step k.past entry r ∙ publisher_more who (entry, r) calls (publisher k.past)
      (λ n e. began_none k.limits k.past entry.who n entry.call (sym e ∙ law)) (λ n e. ended_who k.limits k.past entry.who n entry.call (sym e ∙ law)) before p

  published_in : (o : Option ℕ) → ((i : ℕ) → o ≡ Some i → IsFound slots entry.call i) → r ≡ reply_in slots past entry o → (publishes calls ≡ true → Somewhere (Published who) slots)
      → publishes (if entry.who == who then (entry, r) ∷ calls else calls) ≡ true → Somewhere (Published who) (slots_in slots entry r o)
  published_in None f law before p =
      let still : publishes ((entry, r) ∷ calls) ≡ publishes calls = subst (λ (x : Reply). publishes ((entry, x) ∷ calls) ≡ publishes calls) (sym law) (nowhere_publishes (length slots) past entry entry.call calls) in
      before (sym (alike_publishes (entry.who == who) (entry, r) calls still) ∙ p)
  published_in (Some i) f law before p =
      let is = f i refl in
      elim (cases_Bool (publishes calls)) [
        | inl t ↦ kept (Published who) slots i (changed slots entry r i) is.within (before t)
            (λ h. published_more i law (λ _. subst (Published who) (sym (found_same slots entry.call i is (published_busy who (slot_at slots i) h))) h) p)
        | inr t ↦ at_here (Published who) slots i (changed slots entry r i) is.within (published_more i law (λ yes. absurd (false≢true (sym t ∙ yes))) p)
      ]

  -- the same of the holder of a place
  played_more : (player i : ℕ) → r ≡ reply_in slots past entry (Some i) → (plays player calls ≡ true → Played who player (found slots entry.call i))
      → plays player (if entry.who == who then (entry, r) ∷ calls else calls) ≡ true → Played who player (changed slots entry r i)
  played_more player i law before p =
      let k = (found slots entry.call i).stream in
      holder_more who player (entry, r) calls (holder k.past)
      (λ q from e. joined_free k.limits k.past entry.who q from entry.call (sym e ∙ law)) (λ q e. left_held k.limits k.past entry.who q entry.call (sym e ∙ law)) before p

  played_in : (player : ℕ) (o : Option ℕ) → ((i : ℕ) → o ≡ Some i → IsFound slots entry.call i) → ((i : ℕ) → i < length slots → IsLawful (slot_at slots i).stream.limits (slot_at slots i).stream.past)
      → r ≡ reply_in slots past entry o → (plays player calls ≡ true → Somewhere (Played who player) slots)
      → plays player (if entry.who == who then (entry, r) ∷ calls else calls) ≡ true → Somewhere (Played who player) (slots_in slots entry r o)
  played_in player None f lawful law before p =
      let still : plays player ((entry, r) ∷ calls) ≡ plays player calls = subst (λ (x : Reply). plays player ((entry, x) ∷ calls) ≡ plays player calls) (sym law) (nowhere_plays (length slots) past entry entry.call player calls) in
      before (sym (alike_plays player (entry.who == who) (entry, r) calls still) ∙ p)
  played_in player (Some i) f lawful law before p =
      let is = f i refl in
      elim (cases_Bool (plays player calls)) [
        | inl t ↦ kept (Played who player) slots i (changed slots entry r i) is.within (before t)
            (λ h. played_more player i law (λ _. subst (Played who player) (sym (found_same slots entry.call i is (played_busy who player (slot_at slots i) (lawful i is.within) h))) h) p)
        | inr t ↦ at_here (Played who player) slots i (changed slots entry r i) is.within (played_more player i law (λ yes. absurd (false≢true (sym t ∙ yes))) p)
      ]

-- ---- a lawful history

slots_lawful : (limits : StreamLimits) (n : ℕ) (past : History) → IsPoolLawful limits n past → (i : ℕ) → i < length (slots_of limits n past)
    → IsLawful (slot_at (slots_of limits n past) i).stream.limits (slot_at (slots_of limits n past) i).stream.past
slots_lawful limits n past l i lt = (each_stream limits n past l i (subst (λ (m : ℕ). i < m) (slots_length limits n past l) lt)).lawful

pub pool_published : (limits : StreamLimits) (n : ℕ) (past : History) (who : ℕ) → IsPoolLawful limits n past → publishes (own who past) ≡ true → Somewhere (Published who) (slots_of limits n past)
pool_published limits n [] who l p = absurd (false≢true p)
pool_published limits n (s ∷ past) who l p =
    let slots = slots_of limits n past in
    published_in slots past s.0 s.1 who (own who past) (slot_for slots s.0.who s.0.call) (is_found slots s.0.who s.0.call) l.0 (pool_published limits n past who l.1) p

pub pool_played : (limits : StreamLimits) (n : ℕ) (past : History) (who player : ℕ) → IsPoolLawful limits n past → plays player (own who past) ≡ true → Somewhere (Played who player) (slots_of limits n past)
pool_played limits n [] who player l p = absurd (false≢true p)
pool_played limits n (s ∷ past) who player l p =
    let slots = slots_of limits n past in
    played_in slots past s.0 s.1 who (own who past) player (slot_for slots s.0.who s.0.call) (is_found slots s.0.who s.0.call) (slots_lawful limits n past l.1) l.0
    (pool_played limits n past who player l.1) p

-- ---- what its own calls are answered then

module _ (slots : List PoolSlot) (past : History) (who at : ℕ) where
  abbrev asked : Call → Entry
  asked c = record { who = who; at = at; call = c }

  none_passes : (p : PoolSlot → Bool) → least_slot p slots ≡ None → Somewhere (λ s. p s ≡ true) slots → ⊥
  none_passes p e s = false≢true (sym (none_least (λ j. p (slot_at slots j)) (length slots) e s.0 s.1) ∙ s.2)

  passes_at : (p : PoolSlot → Bool) (i : ℕ) → least_slot p slots ≡ Some i → p (slot_at slots i) ≡ true
  passes_at p i e = (is_least (λ j. p (slot_at slots j)) (length slots) i e).passes

  pushed_so : (u : UnitArc) (o : Option ℕ) → least_slot (is_published_by who) slots ≡ o → Somewhere (λ s. is_published_by who s ≡ true) slots → is_pushed (reply_in slots past (asked (call.Push u)) o) ≡ true
  pushed_so u None e s = absurd (none_passes (is_published_by who) e s)
  pushed_so u (Some i) e s =
      let k = (slot_at slots i).stream in
      ap (λ (b : Bool). is_pushed (if b then reply.Pushed (length (items_of k.past)) else reply.NotPublisher (publisher k.past))) (passes_at (is_published_by who) i e)

  ended_so : (o : Option ℕ) → least_slot (is_published_by who) slots ≡ o → Somewhere (λ s. is_published_by who s ≡ true) slots → is_ended (reply_in slots past (asked call.End) o) ≡ true
  ended_so None e s = absurd (none_passes (is_published_by who) e s)
  ended_so (Some i) e s =
      let k = (slot_at slots i).stream in
      ap (λ (b : Bool). is_ended (if b then reply.Ended (length (items_of k.past)) else reply.NotPublisher (publisher k.past))) (passes_at (is_published_by who) i e)

  taken_so : (player : ℕ) (want : Want) (o : Option ℕ) → least_slot (is_played_by who player) slots ≡ o → Somewhere (λ s. is_played_by who player s ≡ true) slots
      → is_not_player (reply_in slots past (asked (call.Take player want)) o) ≡ false
  taken_so player want None e s = absurd (none_passes (is_played_by who player) e s)
  taken_so player want (Some i) e s =
      let k = (slot_at slots i).stream in
      let t = the_answer k.limits k.past player want in
      ap (λ (b : Bool). is_not_player (if b then reply_of t else reply.NotPlayer)) (passes_at (is_played_by who player) i e) ∙ (is_answer t).not_refused

  left_so : (player : ℕ) (o : Option ℕ) → least_slot (is_played_by who player) slots ≡ o → Somewhere (λ s. is_played_by who player s ≡ true) slots
      → is_not_player (reply_in slots past (asked (call.Leave player)) o) ≡ false
  left_so player None e s = absurd (none_passes (is_played_by who player) e s)
  left_so player (Some i) e s = ap (λ (b : Bool). is_not_player (if b then reply.Left player else reply.NotPlayer)) (passes_at (is_played_by who player) i e)

by_publisher : (slots : List PoolSlot) (who : ℕ) → Somewhere (Published who) slots → Somewhere (λ s. is_published_by who s ≡ true) slots
by_publisher slots who s = (s.0, s.1, it_is who (publisher (slot_at slots s.0).stream.past) s.2)

by_player : (slots : List PoolSlot) (who player : ℕ) → Somewhere (Played who player) slots → Somewhere (λ s. is_played_by who player s ≡ true) slots
by_player slots who player s = (s.0, s.1, it_is who (holder (slot_at slots s.0).stream.past player) s.2)

pub pool_fares : (limits : StreamLimits) (n : ℕ) (past : History) (who at : ℕ) (c : Call) → IsPoolLawful limits n past
    → FaresSo (own who past) c (reply_at (slots_of limits n past) past (record { who = who; at = at; call = c }))
pool_fares limits n past who at (call.Push u) l = λ p.
    let slots = slots_of limits n past in
    pushed_so slots past who at u (least_slot (is_published_by who) slots) refl (by_publisher slots who (pool_published limits n past who l p))
pool_fares limits n past who at call.End l = λ p.
    let slots = slots_of limits n past in
    ended_so slots past who at (least_slot (is_published_by who) slots) refl (by_publisher slots who (pool_published limits n past who l p))
pool_fares limits n past who at (call.Take player want) l = λ p.
    let slots = slots_of limits n past in
    taken_so slots past who at player want (least_slot (is_played_by who player) slots) refl (by_player slots who player (pool_played limits n past who player l p))
pool_fares limits n past who at (call.Leave player) l = λ p.
    let slots = slots_of limits n past in
    left_so slots past who at player (least_slot (is_played_by who player) slots) refl (by_player slots who player (pool_played limits n past who player l p))
pool_fares limits n past who at call.Begin l = tt
pool_fares limits n past who at (call.BeginAs name) l = tt
pool_fares limits n past who at call.Join l = tt
pool_fares limits n past who at (call.JoinAs name) l = tt
pool_fares limits n past who at call.Count l = tt

-- ---- an item

nowhere_item : (n : ℕ) (past : History) (c : Call) → brings (reply_nowhere n past c) ≡ false
unfolding brings
nowhere_item n past call.Begin = refl
nowhere_item n past (call.BeginAs name) = refl
nowhere_item n past call.Join = refl
nowhere_item n past (call.JoinAs name) = refl
nowhere_item n past (call.Push u) = refl
nowhere_item n past call.End = refl
nowhere_item n past (call.Take player want) = refl
nowhere_item n past (call.Leave player) = refl
nowhere_item n past call.Count = refl

item_so : (slots : List PoolSlot) (past : History) (e : Entry) (o : Option ℕ) → is_take e.call ≡ false → brings (reply_in slots past e o) ≡ false
item_so slots past e None t = nowhere_item (length slots) past e.call
item_so slots past e (Some i) t = let k = (found slots e.call i).stream in no_item k.limits k.past e.who e.call t

-- a pool answers a Take alone with one
pub pool_item : (limits : StreamLimits) (n : ℕ) (past : History) (e : Entry) → is_take e.call ≡ false → brings (reply_at (slots_of limits n past) past e) ≡ false
pool_item limits n past e t = let slots = slots_of limits n past in item_so slots past e (slot_for slots e.who e.call) t
