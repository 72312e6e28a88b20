-- What holds of each slot of a pool: it is a stream, and it took its name while it was idle.
use Rattle.std.proofs.Common.{◌≡◌, ◌==◌, ℕ, ◌+◌, ◌*◌, ◌<◌, ◌≤◌, Bool, true, false, if◌then◌else◌, List, [], ◌∷◌, ◌++◌, length, None, Some, Option, ◌⊎◌, inl, inr, refl, sym, ap, ◌∙◌, arith, length-append, length-set, is_some}
use Rattle.std.proofs.lemmas.Bool.{cases_Bool, false≢true, and_parts, eq-eqb}
use Rattle.std.proofs.lemmas.Bool.Decides.{eqb_tells}
use Rattle.av_unit.specs.declared.item.Item.TheVariants as item
use Rattle.stream_model.specs.declared.calls.StreamLimits.{StreamLimits}
use Rattle.stream_model.specs.declared.calls.Call.{Call}
use Rattle.stream_model.specs.declared.calls.Call.TheVariants as call
use Rattle.stream_model.specs.declared.calls.Entry.{Entry}
use Rattle.stream_model.specs.declared.replies.Reply.{Reply}
use Rattle.stream_model.specs.declared.replies.Reply.TheVariants.{Ended}
use Rattle.stream_model.specs.History.{History, items_of, publisher, holder}
use Rattle.stream_model.specs.Answer.{reply, end_reply}
use Rattle.stream_model.specs.Known.{StreamKnown, answered, IsLawful}
use Rattle.stream_model.specs.Pool.{PoolSlot, slot_at, name_asked, has_name, is_idle, is_free, none_held, begun, cleared, by_nobody, new_slots, taking, ready, noted, found, slots_of, IsPoolLawful}
use Rattle.stream_model.proofs.Pushes.{is_live-push}
use Rattle.stream_model.proofs.Growth.{one_item_more}
use Rattle.stream_law.specs.HasTaken.{HasTaken}
use Rattle.stream_law.proofs.Slots.{IsKept, Step, nowhere, somewhere, step, each_slot, slots_length, slot_changed, changed, name_is, is_its_name, IsFound, new_at, new_length}

pub nobody : (o : Option ℕ) → (if is_some o then false else true) ≡ true → o ≡ None
nobody None e = refl
nobody (Some k) e = absurd (false≢true e)

pub free_publisher : (k : StreamKnown) → is_free k ≡ true → publisher k.past ≡ None
free_publisher k e = nobody (publisher k.past) (and_parts (if is_some (publisher k.past) then false else true) (none_held (holder k.past) k.limits.players) e).0

-- what publishes after a Begin
begin_live : (k : StreamKnown) → publisher (begun k).past ≡ Some (by_nobody call.Begin).who
begin_live k = rw (is_live-push (items_of k.past) item.Begin) refl

pub begun_lawful : (k : StreamKnown) → is_free k ≡ true → IsLawful k.limits k.past → IsLawful k.limits (begun k).past
begun_lawful k free lawful = (rw (free_publisher k free) refl, lawful)

end_is : (end len : ℕ) (live : Option ℕ) (who : ℕ) → live ≡ Some who → end ≡ len → Ended end ≡ end_reply len live who
end_is end len live who e f = rw (e, eq-eqb who who refl, f) refl

pub cleared_lawful : (k : StreamKnown) → is_free k ≡ true → IsLawful k.limits k.past → IsLawful k.limits (cleared k).past
cleared_lawful k free lawful = (
  end_is (length (items_of k.past) + 1) (length (items_of (begun k).past)) (publisher (begun k).past) (by_nobody call.End).who (begin_live k) (sym (length-append (items_of k.past) (item.Begin ∷ []))),
  begun_lawful k free lawful,
)

-- a slot is a stream with the pool's limits, and its calls are lawful
pub record IsStream (limits : StreamLimits) (s : PoolSlot) : Type 0 where
  pub limits_are : s.stream.limits ≡ limits
  pub lawful : IsLawful s.stream.limits s.stream.past

streams_kept : (limits : StreamLimits) → IsKept (IsStream limits) limits
streams_kept limits = record {
  new = record { limits_are = refl; lawful = tt };
  takes = λ s name h idle. record { limits_are = h.limits_are; lawful = cleared_lawful s.stream idle h.lawful };
  notes = λ s entry h asks. record { limits_are = h.limits_are; lawful = (refl, h.lawful) };
}

pub each_stream : (limits : StreamLimits) (n : ℕ) (past : History) → IsPoolLawful limits n past → (i : ℕ) → i < n → IsStream limits (slot_at (slots_of limits n past) i)
each_stream limits n past lawful i lt = each_slot (IsStream limits) limits n past (streams_kept limits) lawful i (rw (← slots_length limits n past lawful) at lt)

pub each_lawful : (limits : StreamLimits) (n : ℕ) (past : History) → IsPoolLawful limits n past → (i : ℕ) → i < n → IsLawful limits (slot_at (slots_of limits n past) i).stream.past
each_lawful limits n past lawful i lt = let k = each_stream limits n past lawful i lt in rw k.limits_are at k.lawful

-- the slot has taken its name, if it has one
abbrev Took : PoolSlot → Type 0
Took s = (name : List ℕ) → s.name ≡ Some name → HasTaken name s.stream

took_now : (s : PoolSlot) (name : List ℕ) → is_idle s ≡ true → HasTaken name (cleared s.stream)
took_now s name idle = record { older = s.stream; limits_are = refl; free = idle; newer = []; past_is = refl; asks = tt }

took_before : (s : PoolSlot) (entry : Entry) (r : Reply) (name : List ℕ) → HasTaken name s.stream → ((other : List ℕ) → name_asked entry.call ≡ Some other → other ≡ name) → HasTaken name (answered s.stream entry r)
took_before s entry r name h asks = record { older = h.older; limits_are = h.limits_are; free = h.free; newer = (entry, r) ∷ h.newer; past_is = ap (λ (p : History). (entry, r) ∷ p) h.past_is; asks = (asks, h.asks) }

some_same : (o : Option (List ℕ)) (a b : List ℕ) → o ≡ Some a → o ≡ Some b → a ≡ b
some_same o a b e f = cc

took_kept : (limits : StreamLimits) → IsKept Took limits
took_kept limits = record {
  new = λ name e. absurd (cc e);
  takes = λ s name h idle other e. let same : other ≡ name = cc in rw same (took_now s name idle);
  notes = λ s entry h asks name e. took_before s entry (reply s.stream.limits s.stream.past entry) name (h name e)
      (λ other is. some_same s.name other name (name_is s.name other (asks other is)) e);
}

pub each_took : (limits : StreamLimits) (n : ℕ) (past : History) → IsPoolLawful limits n past → (i : ℕ) → i < n → (name : List ℕ) → (slot_at (slots_of limits n past) i).name ≡ Some name →
    HasTaken name (slot_at (slots_of limits n past) i).stream
each_took limits n past lawful i lt = each_slot Took limits n past (took_kept limits) lawful i (rw (← slots_length limits n past lawful) at lt)

-- items of a slot
pub cleared_items : (k : StreamKnown) → length (items_of (cleared k).past) ≡ length (items_of k.past) + 2
cleared_items k = omega (arith, length-append (items_of k.past ++ item.Begin ∷ []) (item.End ∷ []), length-append (items_of k.past) (item.Begin ∷ []))

noted_items : (s : PoolSlot) (entry : Entry) (r : Reply) → length (items_of (noted entry r s).stream.past) ≤ length (items_of s.stream.past) + 1
noted_items s entry r = one_item_more entry r s.stream.past

taking_items : (b : Bool) (name : List ℕ) (s : PoolSlot) → length (items_of (taking b name s).stream.past) ≤ length (items_of s.stream.past) + 2
taking_items true name s = omega arith
taking_items false name s = omega (arith, cleared_items s.stream)

ready_items : (o : Option (List ℕ)) (s : PoolSlot) → length (items_of (ready o s).stream.past) ≤ length (items_of s.stream.past) + 2
ready_items None s = omega arith
ready_items (Some name) s = taking_items (has_name name s) name s

changed_items : (slots : List PoolSlot) (entry : Entry) (r : Reply) (i : ℕ) → length (items_of (changed slots entry r i).stream.past) ≤ length (items_of (slot_at slots i).stream.past) + 3
changed_items slots entry r i = omega (arith, noted_items (found slots entry.call i) entry r, ready_items (name_asked entry.call) (slot_at slots i))

-- each slot has at most so many items
abbrev Has : ℕ → List PoolSlot → Type 0
Has most slots = (j : ℕ) → j < length slots → length (items_of (slot_at slots j).stream.past) ≤ most

step_items : (slots now : List PoolSlot) (entry : Entry) (r : Reply) (most : ℕ) → Has most slots → Step slots entry r now → Has (most + 3) now
step_items slots now entry r most h (nowhere e) j lt = rw e (let le = h j (rw e at lt) in omega arith)
step_items slots now entry r most h (somewhere i f law e) j lt =
    let within : j < length slots = rw (e, length-set slots i (changed slots entry r i)) at lt in
    rw (e, slot_changed slots i j (changed slots entry r i) f.within) (elim (cases_Bool (i == j)) [
      | inl same ↦ rw same (let le = h i f.within in omega (arith, changed_items slots entry r i))
      | inr other ↦ rw other (let le = h j within in omega arith)
    ])

new_items : (limits : StreamLimits) (n j : ℕ) → j < n → length (items_of (slot_at (new_slots limits n) j).stream.past) ≤ 0
new_items limits n j lt = rw (new_at limits n j lt) (omega arith)

pub most_items : (limits : StreamLimits) (n : ℕ) (past : History) → IsPoolLawful limits n past → (j : ℕ) → j < n → length (items_of (slot_at (slots_of limits n past) j).stream.past) ≤ 3 * length past
most_items limits n [] lawful j lt = new_items limits n j lt
most_items limits n (s ∷ past) lawful j lt =
    let slots = slots_of limits n past in
    let before : Has (3 * length past) slots = λ i within. most_items limits n past lawful.1 i (rw (slots_length limits n past lawful.1) at within) in
    let le = step_items slots (slots_of limits n (s ∷ past)) s.0 s.1 (3 * length past) before (step slots past s.0 s.1 lawful.0) j (rw (← slots_length limits n (s ∷ past) lawful) at lt) in
    omega arith

-- the slot that a call finds has its name from before, or no slot had that name
ready_name : (o : Option (List ℕ)) (s : PoolSlot) (x : List ℕ) → (ready o s).name ≡ Some x → (s.name ≡ Some x) ⊎ ((o ≡ Some x) × (has_name x s ≡ false))
ready_name None s x e = inl e
ready_name (Some name) s x e = elim (cases_Bool (has_name name s)) [
  | inl h ↦ inl (rw h at e)
  | inr h ↦ let f = rw h at e in let same : x ≡ name = cc in inr (ap Some (sym same), rw same h)
]

name_from : (slots : List PoolSlot) (c : Call) (i : ℕ) (x : List ℕ) → IsFound slots c i → (found slots c i).name ≡ Some x →
    ((slot_at slots i).name ≡ Some x) ⊎ ((k : ℕ) → k < length slots → has_name x (slot_at slots k) ≡ false)
name_from slots c i x f e = elim (ready_name (name_asked c) (slot_at slots i) x e) [
  | inl h ↦ inl h
  | inr h ↦ elim (f.named x h.0) [
    | inl g ↦ absurd (false≢true (sym h.1 ∙ g))
    | inr g ↦ inr g.unnamed
  ]
]

-- no two slots have one name
abbrev AreApart : List PoolSlot → Type 0
AreApart slots = (j k : ℕ) (x : List ℕ) → j < length slots → k < length slots → (slot_at slots j).name ≡ Some x → (slot_at slots k).name ≡ Some x → j ≡ k

named_here : (s : PoolSlot) (x : List ℕ) → s.name ≡ Some x → has_name x s ≡ true
named_here s x e = rw e (is_its_name x)

-- the slot that changed and another one
one_apart : (slots : List PoolSlot) (entry : Entry) (r : Reply) (i k : ℕ) (x : List ℕ) → AreApart slots → IsFound slots entry.call i → k < length slots →
    (found slots entry.call i).name ≡ Some x → (slot_at slots k).name ≡ Some x → i ≡ k
one_apart slots entry r i k x h f lt e g = elim (name_from slots entry.call i x f e) [
  | inl same ↦ h i k x f.within lt same g
  | inr none ↦ absurd (false≢true (sym (none k lt) ∙ named_here (slot_at slots k) x g))
]

step_apart : (slots now : List PoolSlot) (entry : Entry) (r : Reply) → AreApart slots → Step slots entry r now → AreApart now
step_apart slots now entry r h (nowhere e) = rw e h
step_apart slots now entry r h (somewhere i f law e) = λ j k x jlt klt je ke.
    let new = changed slots entry r i in
    let jw : j < length slots = rw (e, length-set slots i new) at jlt in
    let kw : k < length slots = rw (e, length-set slots i new) at klt in
    let jn = rw (e, slot_changed slots i j new f.within) at je in
    let kn = rw (e, slot_changed slots i k new f.within) at ke in
    elim (eqb_tells i j) [
      | inl a ↦ elim (eqb_tells i k) [
        | inl b ↦ sym a.1 ∙ b.1
        | inr b ↦ sym a.1 ∙ one_apart slots entry r i k x h f kw (rw a.0 at jn) (rw b.0 at kn)
      ]
      | inr a ↦ elim (eqb_tells i k) [
        | inl b ↦ sym (one_apart slots entry r i j x h f jw (rw b.0 at kn) (rw a.0 at jn)) ∙ b.1
        | inr b ↦ h j k x jw kw (rw a.0 at jn) (rw b.0 at kn)
      ]
    ]

new_apart : (limits : StreamLimits) (n : ℕ) → AreApart (new_slots limits n)
new_apart limits n j k x jlt klt je ke = let e = rw (new_at limits n j (rw (new_length limits n) at jlt)) at je in absurd (cc e)

are_apart : (limits : StreamLimits) (n : ℕ) (past : History) → IsPoolLawful limits n past → AreApart (slots_of limits n past)
are_apart limits n [] lawful = new_apart limits n
are_apart limits n (s ∷ past) lawful = step_apart (slots_of limits n past) (slots_of limits n (s ∷ past)) s.0 s.1 (are_apart limits n past lawful.1) (step (slots_of limits n past) past s.0 s.1 lawful.0)

pub one_slot : (limits : StreamLimits) (n : ℕ) (past : History) → IsPoolLawful limits n past → (i j : ℕ) → i < n → j < n → (name : List ℕ) →
    (slot_at (slots_of limits n past) i).name ≡ Some name → (slot_at (slots_of limits n past) j).name ≡ Some name → i ≡ j
one_slot limits n past lawful i j il jl name =
    let len = slots_length limits n past lawful in
    are_apart limits n past lawful i j name (rw (← len) at il) (rw (← len) at jl)
