-- Which calls want memory
use Rattle.std.proofs.Common.{◌≡◌, ℕ, List, [], ◌∷◌, ◌++◌, length, Bool, true, false, Option, Some, None, if◌then◌else◌, IfOk, OnErr, refl, sym, ap, ◌∙◌, subst}
use Rattle.std.specs.declared.result.Result.{Result}
use Rattle.std.specs.declared.result.Result.TheVariants.{Ok, Err}
use Rattle.av_unit.specs.declared.bytes.OutOfMemory.{OutOfMemory}
use Rattle.stream_model.specs.declared.calls.StreamLimits.{StreamLimits}
use Rattle.stream_model.specs.declared.calls.Shape.{Shape}
use Rattle.stream_model.specs.declared.calls.Call.{Call}
use Rattle.stream_model.specs.declared.calls.Call.TheVariants.{Begin, BeginAs, Push, End, Join, JoinAs, Take, Leave, Count}
use Rattle.stream_model.specs.declared.calls.Entry.{Entry}
use Rattle.stream_model.specs.declared.replies.Reply.{Reply}
use Rattle.stream_model.specs.declared.replies.Reply.TheVariants.{Pushed, NotPublisher, Ended, NotPlayer, Left}
use Rattle.stream_model.specs.Answer.{begin_reply, join_reply, is_who, reply_to, IsSent}
use Rattle.stream_model.specs.History.{History, items_of, publisher, holder}
use Rattle.stream_model.specs.Pool.{PoolSlot, found, reply_nowhere, reply_in, slot_for, slots_of}
use Rattle.stream_model.specs.Shape.{TableKnown, reply_by, shape_reply, table_answered, new_table, IsShapeLawful, IsLawfulBy}
use Rattle.stream_core.specs.Table.{known}
use Rattle.stream_core.specs.declared.table.Table.{Table}
use Rattle.stream_registry.specs.declared.again.TakeNumbers.{TakeNumbers}
use Rattle.stream_registry.specs.Pasts.{Attempt, AreWants, IsLawfulAt, past_of, Stands}
use Rattle.stream_registry.specs.Wants.{IsTake, taking, numbers_of}
use Rattle.stream_registry.proofs.Tells.{folds, past_more}

begun : (end : ℕ) (o : Option ℕ) → IsSent (begin_reply end o) → ⊥
begun end None s = s
begun end (Some by) s = s

joined : (from : ℕ) (o : Option ℕ) → IsSent (join_reply from o) → ⊥
joined from None s = s
joined from (Some place) s = s

either : (b : Bool) (x y : Reply) → (IsSent x → ⊥) → (IsSent y → ⊥) → IsSent (if b then x else y) → ⊥
either true x y f g s = f s
either false x y f g s = g s

-- only a Take is answered with an item
sent_take : (limits : StreamLimits) (past : History) (who : ℕ) (call : Call) → IsSent (reply_to limits past who call) → IsTake call
sent_take limits past who Begin s = absurd (begun (length (items_of past)) (publisher past) s)
sent_take limits past who (BeginAs name) s = absurd (begun (length (items_of past)) (publisher past) s)
sent_take limits past who (Push u) s = absurd (either (is_who (publisher past) who) (Pushed (length (items_of past))) (NotPublisher (publisher past)) (λ x. x) (λ x. x) s)
sent_take limits past who End s = absurd (either (is_who (publisher past) who) (Ended (length (items_of past))) (NotPublisher (publisher past)) (λ x. x) (λ x. x) s)
sent_take limits past who Join s = absurd (joined _ _ s)
sent_take limits past who (JoinAs name) s = absurd (joined _ _ s)
sent_take limits past who (Take player want) s = tt
sent_take limits past who (Leave player) s = absurd (either (is_who (holder past player) who) (Left player) NotPlayer (λ x. x) (λ x. x) s)
sent_take limits past who Count s = absurd s

-- no call that has no slot is answered with one
nowhere_sent : (n : ℕ) (past : History) (call : Call) → IsSent (reply_nowhere n past call) → IsTake call
nowhere_sent n past Begin s = absurd s
nowhere_sent n past (BeginAs name) s = absurd s
nowhere_sent n past (Push u) s = absurd s
nowhere_sent n past End s = absurd s
nowhere_sent n past Join s = absurd s
nowhere_sent n past (JoinAs name) s = absurd s
nowhere_sent n past (Take player want) s = tt
nowhere_sent n past (Leave player) s = absurd s
nowhere_sent n past Count s = absurd s

in_slot_take : (slots : List PoolSlot) (past : History) (entry : Entry) (o : Option ℕ) → IsSent (reply_in slots past entry o) → IsTake entry.call
in_slot_take slots past entry None s = nowhere_sent (length slots) past entry.call s
in_slot_take slots past entry (Some i) s = sent_take (found slots entry.call i).stream.limits (found slots entry.call i).stream.past entry.who entry.call s

by_take : (limits : StreamLimits) (slots : Option ℕ) (past : History) (entry : Entry) → IsSent (reply_by limits slots past entry) → IsTake entry.call
by_take limits None past entry s = sent_take limits past entry.who entry.call s
by_take limits (Some n) past entry s = in_slot_take (slots_of limits n past) past entry (slot_for (slots_of limits n past) entry.who entry.call) s

-- the numbers of a Take are those of its entry
pub take_numbers : (entry : Entry) (call : Call) → IsTake call → (n : TakeNumbers) × (numbers_of entry call ≡ Some n) × (taking n ≡ record { who = entry.who; at = entry.at; call = call })
take_numbers entry Begin t = absurd t
take_numbers entry (Push u) t = absurd t
take_numbers entry End t = absurd t
take_numbers entry Join t = absurd t
take_numbers entry (BeginAs name) t = absurd t
take_numbers entry (JoinAs name) t = absurd t
take_numbers entry (Leave player) t = absurd t
take_numbers entry Count t = absurd t
take_numbers entry (Take player want) t = (record { who = entry.who; at = entry.at; player = player; want = want }, refl, refl)

pub take_back : (entry : Entry) (m : TakeNumbers) → IsTake entry.call → numbers_of entry entry.call ≡ Some m → taking m ≡ entry
take_back entry m t is =
    let n = take_numbers entry entry.call t in
    let same : n.0 ≡ m = (let e : Some n.0 ≡ Some m = sym n.1 ∙ is in cc) in
    ap taking (sym same) ∙ n.2

-- one call more
wants_more : (limits : Shape) (past : History) (h : List Attempt) (e : Entry) (a : Result Reply OutOfMemory) → AreWants limits past h → AreWants limits (folds past h) ((e, a) ∷ []) → AreWants limits past (h ++ (e, a) ∷ [])
wants_more limits past [] e a w x = x
wants_more limits past ((f, Ok r) ∷ h) e a w x = wants_more limits ((f, r) ∷ past) h e a w x
wants_more limits past ((f, Err y) ∷ h) e a w x = (w.0, wants_more limits past h e a w.1 x)

wants_last : (limits : Shape) (past : History) (h : List Attempt) (e : Entry) (a : Result Reply OutOfMemory) → AreWants limits past (h ++ (e, a) ∷ []) → AreWants limits (folds past h) ((e, a) ∷ [])
wants_last limits past [] e a w = w
wants_last limits past ((f, Ok r) ∷ h) e a w = wants_last limits ((f, r) ∷ past) h e a w
wants_last limits past ((f, Err y) ∷ h) e a w = wants_last limits past h e a w.1

-- one more lawful answer
lawful_more : (limits : StreamLimits) (slots : Option ℕ) (past : History) (e : Entry) (r : Reply) → IsLawfulBy limits slots past → r ≡ reply_by limits slots past e → IsLawfulBy limits slots ((e, r) ∷ past)
lawful_more limits None past e r l is = (is, l)
lawful_more limits (Some n) past e r l is = (is, l)

lawful_by : (limits : StreamLimits) (slots : Option ℕ) (past : History) (e : Entry) (r : Reply) → IsLawfulBy limits slots ((e, r) ∷ past) → r ≡ reply_by limits slots past e
lawful_by limits None past e r l = l.0
lawful_by limits (Some n) past e r l = l.0

-- the last answer of a lawful past
pub last_lawful : (limits : Shape) (past : History) (e : Entry) (r : Reply) → IsShapeLawful limits ((e, r) ∷ past) → r ≡ shape_reply limits past e
last_lawful limits past e r l = lawful_by limits.limits limits.slots past e r l

none_lawful : (limits : StreamLimits) (slots : Option ℕ) → IsLawfulBy limits slots []
none_lawful limits None = tt
none_lawful limits (Some n) = tt

-- what has had no call stands for no history
pub stands_first : (k : TableKnown) (s : Shape) → k ≡ new_table s → Stands k []
stands_first k s e = subst (λ (x : TableKnown). Stands x []) (sym e) (refl, (none_lawful s.limits s.slots, tt))

-- a call that was answered, or refused for memory, is lawful after a lawful history
pub lawful_answer : (limits : Shape) (h : List Attempt) (e : Entry) (r : Reply) → IsLawfulAt limits h → r ≡ shape_reply limits (past_of h) e → IsLawfulAt limits (h ++ (e, Ok r) ∷ [])
lawful_answer limits h e r l is = (subst (λ (p : History). IsShapeLawful limits p) (sym (past_more h e (Ok r))) (lawful_more limits.limits limits.slots (past_of h) e r l.0 is), wants_more limits [] h e (Ok r) l.1 tt)

pub lawful_refusal : (limits : Shape) (h : List Attempt) (e : Entry) (x : OutOfMemory) → IsLawfulAt limits h → IsSent (shape_reply limits (past_of h) e) → IsLawfulAt limits (h ++ (e, Err x) ∷ [])
lawful_refusal limits h e x l sent = (subst (λ (p : History). IsShapeLawful limits p) (sym (past_more h e (Err x))) l.0, wants_more limits [] h e (Err x) l.1 (sent, tt))

-- what memory refused was answered with an item by the rules
pub refused_sent : (limits : Shape) (h : List Attempt) (e : Entry) (x : OutOfMemory) → IsLawfulAt limits (h ++ (e, Err x) ∷ []) → IsSent (shape_reply limits (past_of h) e)
refused_sent limits h e x l = (wants_last limits [] h e (Err x) l.1).0

-- so it was a Take
pub refused_take : (limits : Shape) (h : List Attempt) (e : Entry) (x : OutOfMemory) → IsLawfulAt limits (h ++ (e, Err x) ∷ []) → IsTake e.call
refused_take limits h e x l = by_take limits.limits limits.slots (past_of h) e (refused_sent limits h e x l)

-- a stream or a pool that answered a call stands for its history with this call and answer
pub desk_more : (old new : TableKnown) (h : List Attempt) (e : Entry) (a : Result Reply OutOfMemory) → IfOk a (λ r. (r ≡ shape_reply old.shape old.past e) × (new ≡ table_answered old e r)) → OnErr a (new ≡ old) → OnErr a (IsSent (shape_reply old.shape old.past e))
    → Stands old h → Stands new (h ++ (e, a) ∷ [])
desk_more old new h e (Ok r) ok err memory s =
    let same = ap (λ (k : TableKnown). k.shape) ok.1 in (
      ap (λ (k : TableKnown). k.past) ok.1 ∙ (ap (λ (p : History). (e, r) ∷ p) s.0 ∙ sym (past_more h e (Ok r))),
      subst (λ (l : Shape). IsLawfulAt l (h ++ (e, Ok r) ∷ [])) (sym same) (lawful_answer old.shape h e r s.1 (ok.0 ∙ ap (λ (p : History). shape_reply old.shape p e) s.0)),
    )
desk_more old new h e (Err x) ok err memory s =
    let same = ap (λ (k : TableKnown). k.shape) err in (
      ap (λ (k : TableKnown). k.past) err ∙ (s.0 ∙ sym (past_more h e (Err x))),
      subst (λ (l : Shape). IsLawfulAt l (h ++ (e, Err x) ∷ [])) (sym same) (lawful_refusal old.shape h e x s.1 (subst (λ (p : History). IsSent (shape_reply old.shape p e)) s.0 memory)),
    )

-- a refused call changes nothing that is known
pub known_same : (a : Result Reply OutOfMemory) (old new : Table) → OnErr a (new ≡ old) → OnErr a (known new ≡ known old)
known_same (Ok r) old new e = e
known_same (Err x) old new e = ap known e
