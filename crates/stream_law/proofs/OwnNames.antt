-- What a player at a slot of a pool was sent, by the name that the slot has.
use Rattle.std.proofs.Common.{◌≡◌, ◌==◌, ℕ, zero, suc, ◌<◌, ◌≤◌, Bool, true, false, if◌then◌else◌, List, [], ◌∷◌, ◌++◌, length, None, Some, Option, inl, inr, refl, sym, subst, arith, is_some, All}
use Rattle.std.proofs.lemmas.Bool.{cases_Bool, cases_lt, and_parts}
use Rattle.std.proofs.lemmas.Bool.Decides.{nat_tests}
use Rattle.stream_model.specs.declared.calls.StreamLimits.{StreamLimits}
use Rattle.stream_model.specs.declared.calls.Call.{Call}
use Rattle.stream_model.specs.declared.calls.Call.TheVariants as call
use Rattle.stream_model.specs.declared.replies.Reply.{Reply}
use Rattle.stream_model.specs.declared.replies.Reply.TheVariants.{Began, InUse, Pushed, NotPublisher, Ended, Joined, Full, NotPlayer, Sent, Skip, NotYet, Left, Counts, NoSlot}
use Rattle.stream_model.specs.declared.replies.Taken.{Taken}
use Rattle.stream_model.specs.declared.replies.Taken.TheVariants as taken
use Rattle.stream_model.specs.History.{History, items_of, publisher, holder, holder_after}
use Rattle.stream_model.specs.Window.{join}
use Rattle.stream_model.specs.Spell.{spell, sent, cursor, reply_of}
use Rattle.stream_model.specs.Take.{taken as answer}
use Rattle.stream_model.specs.Answer.{begin_reply, join_reply, free_place, is_who, reply_to}
use Rattle.stream_model.specs.Known.{StreamKnown, IsLawful}
use Rattle.stream_model.specs.Pool.{is_free, none_held, cleared, slots_of, slot_at, IsPoolLawful}
use Rattle.stream_law.specs.HasTaken.{HasTaken, SentOfItsName, is_join_of, joins}
use Rattle.stream_law.proofs.Slots.{first_or-some}
use Rattle.stream_law.proofs.PoolSlots.{nobody, each_took, each_stream}
use Rattle.stream_law.proofs.Since.{sent_since}

-- a free place is one of so many
if_some : (b : Bool) (n p : ℕ) → (if b then None else Some n) ≡ Some p → n ≡ p
if_some true n p e = absurd (cc)
if_some false n p e = cc

some_place : (holders : ℕ → Option ℕ) (n p : ℕ) → free_place holders n ≡ Some p → p < n
some_place holders zero p e = absurd (cc)
some_place holders (suc n) p e = elim (first_or-some (free_place holders n) (if is_some (holders n) then None else Some n) p e) [
  | inl h ↦ let lt = some_place holders n p h in omega arith
  | inr h ↦ let same = if_some (is_some (holders n)) n p h.1 in omega arith
]

-- no reply gives a place above those that there are
module _ (by place : ℕ) where
  begin_none : (end : ℕ) (live : Option ℕ) → holder_after by (begin_reply end live) place None ≡ None
  begin_none end None = refl
  begin_none end (Some who) = refl

  either_none : (b : Bool) (r q : Reply) → holder_after by r place None ≡ None → holder_after by q place None ≡ None → holder_after by (if b then r else q) place None ≡ None
  either_none true r q e f = e
  either_none false r q e f = f

  taken_none : (t : Taken) → holder_after by (reply_of t) place None ≡ None
  taken_none (taken.Sent from n x) = refl
  taken_none (taken.Skip from to) = refl
  taken_none (taken.NotYet end) = refl

  none_left : (b : Bool) (o : Option ℕ) → o ≡ None → (if b then None else o) ≡ None
  none_left true o e = refl
  none_left false o e = e

  join_none : (from : ℕ) (o : Option ℕ) → ((p : ℕ) → o ≡ Some p → p < place) → holder_after by (join_reply from o) place None ≡ None
  join_none from None h = refl
  join_none from (Some p) h = let lt = h p refl in let e : (p == place) ≡ false = grind (arith, nat_tests) in rw e refl

  asked_none : (limits : StreamLimits) (past : History) → limits.players ≤ place →
      holder_after by (join_reply (join limits (items_of past)) (free_place (holder past) limits.players)) place None ≡ None
  asked_none limits past h = join_none (join limits (items_of past)) (free_place (holder past) limits.players) (λ p e. let lt = some_place (holder past) limits.players p e in omega arith)

  reply_none : (limits : StreamLimits) (past : History) (who : ℕ) (c : Call) → limits.players ≤ place → holder_after by (reply_to limits past who c) place None ≡ None
  reply_none limits past who call.Begin h = begin_none (length (items_of past)) (publisher past)
  reply_none limits past who (call.BeginAs name) h = begin_none (length (items_of past)) (publisher past)
  reply_none limits past who (call.Push u) h = either_none (is_who (publisher past) who) (Pushed (length (items_of past))) (NotPublisher (publisher past)) refl refl
  reply_none limits past who call.End h = either_none (is_who (publisher past) who) (Ended (length (items_of past))) (NotPublisher (publisher past)) refl refl
  reply_none limits past who call.Join h = asked_none limits past h
  reply_none limits past who (call.JoinAs name) h = asked_none limits past h
  reply_none limits past who (call.Take player want) h =
      let t = answer limits (items_of past) (cursor (spell past player)) (sent (spell past player)) want in
      either_none (is_who (holder past player) who) (reply_of t) NotPlayer (taken_none t) refl
  reply_none limits past who (call.Leave player) h = either_none (is_who (holder past player) who) (Left player) NotPlayer (none_left (player == place) None refl) refl
  reply_none limits past who call.Count h = refl

holder_none : (limits : StreamLimits) (past : History) (place : ℕ) → IsLawful limits past → limits.players ≤ place → holder past place ≡ None
holder_none limits [] place lawful h = refl
holder_none limits (step ∷ past) place lawful h =
    rw (lawful.0, holder_none limits past place lawful.1 h) (reply_none step.0.who place limits past step.0.who step.0.call h)

none_at : (holders : ℕ → Option ℕ) (n p : ℕ) → none_held holders n ≡ true → p < n → holders p ≡ None
none_at holders zero p e lt = absurd (omega arith)
none_at holders (suc n) p e lt =
    let h = and_parts (none_held holders n) (if is_some (holders n) then false else true) e in
    elim (cases_lt p n) [
      | inl less ↦ none_at holders n p h.0 less
      | inr le ↦ let same : n ≡ p = omega arith in rw same at (nobody (holders n) h.1)
    ]

-- nobody holds a place of a stream that is free
pub free_holder : (k : StreamKnown) (place : ℕ) → is_free k ≡ true → IsLawful k.limits k.past → holder k.past place ≡ None
free_holder k place free lawful = elim (cases_lt place k.limits.players) [
  | inl lt ↦ none_at (holder k.past) k.limits.players place (and_parts (if is_some (publisher k.past) then false else true) (none_held (holder k.past) k.limits.players) free).1 lt
  | inr le ↦ holder_none k.limits k.past place lawful le
]

left_kept : (b : Bool) (h : Option ℕ) (who : ℕ) → (if b then None else h) ≡ Some who → h ≡ Some who
left_kept true h who e = absurd (cc)
left_kept false h who e = e

-- who holds a place after a call that didn't give it held it before
kept : (by : ℕ) (r : Reply) (place : ℕ) (h : Option ℕ) (who : ℕ) → is_join_of r place ≡ false → holder_after by r place h ≡ Some who → h ≡ Some who
kept by (Joined player from) place h who f e = rw f at e
kept by (Left player) place h who f e = left_kept (player == place) h who e
kept by (Began n) place h who f e = e
kept by (InUse other) place h who f e = e
kept by (Pushed n) place h who f e = e
kept by (NotPublisher live) place h who f e = e
kept by (Ended n) place h who f e = e
kept by Full place h who f e = e
kept by NotPlayer place h who f e = e
kept by (Sent from n x) place h who f e = e
kept by (Skip from to) place h who f e = e
kept by (NotYet end) place h who f e = e
kept by (Counts began pushed ended joined skips) place h who f e = e
kept by (NoSlot slots) place h who f e = e

-- a place that is held, and that nobody held before, was given since
held_joins : (newer older : History) (place who : ℕ) → holder older place ≡ None → holder (newer ++ older) place ≡ Some who → joins newer place ≡ true
held_joins [] older place who none held = absurd (cc)
held_joins (step ∷ newer) older place who none held = elim (cases_Bool (is_join_of step.1 place)) [
  | inl e ↦ rw e refl
  | inr e ↦ rw e (held_joins newer older place who none (kept step.0.who step.1 place (holder (newer ++ older) place) who e held))
]

lawful_before : (limits : StreamLimits) (newer older : History) → IsLawful limits (newer ++ older) → IsLawful limits older
lawful_before limits [] older lawful = lawful
lawful_before limits (step ∷ newer) older lawful = lawful_before limits newer older lawful.1

since : (older : StreamKnown) (newer : History) (past : History) (limits : StreamLimits) (place who : ℕ) → older.limits ≡ limits → is_free older ≡ true → past ≡ newer ++ (cleared older).past →
    IsLawful limits past → holder past place ≡ Some who → All (λ n. length (items_of (cleared older).past) ≤ n) (sent (spell past place))
since older newer past limits place who same free is lawful held =
    let all : IsLawful older.limits (newer ++ (cleared older).past) =
    subst (λ (l : StreamLimits). IsLawful l (newer ++ (cleared older).past)) (sym same) (subst (λ (h : History). IsLawful limits h) is lawful) in
    let before = lawful_before older.limits newer (cleared older).past all in
    let here : holder (newer ++ (cleared older).past) place ≡ Some who = subst (λ (h : History). holder h place ≡ Some who) is held in
    let joined = held_joins newer (cleared older).past place who (free_holder older place free before.1.1) here in
    subst (λ (h : History). All (λ n. length (items_of (cleared older).past) ≤ n) (sent (spell h place))) (sym is) (sent_since older newer all place joined)

pub own_name : (limits : StreamLimits) (n : ℕ) (past : History) → IsPoolLawful limits n past → (i : ℕ) → i < n → (name : List ℕ) → (slot_at (slots_of limits n past) i).name ≡ Some name →
    (place who : ℕ) → holder (slot_at (slots_of limits n past) i).stream.past place ≡ Some who → SentOfItsName name (slot_at (slots_of limits n past) i).stream place
own_name limits n past lawful i lt name is place who held =
    let s = (slot_at (slots_of limits n past) i).stream in
    let t = each_took limits n past lawful i lt name is in
    let k = each_stream limits n past lawful i lt in
    record { taken = t; since = since t.older t.newer s.past s.limits place who t.limits_are t.free t.past_is k.lawful held }
