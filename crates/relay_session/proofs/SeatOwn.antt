-- What the calls of one name at a stream are answered
use Rattle.std.proofs.Common.{◌≡◌, ◌==◌, ℕ, zero, suc, Bool, true, false, if◌then◌else◌, List, [], ◌∷◌, ◌++◌, length, Option, Some, None, refl, sym, ap, ◌∙◌, subst, inl, inr}
use Rattle.std.specs.Option.{is_some}
use Rattle.std.proofs.lemmas.Bool.{false≢true}
use Rattle.std.proofs.lemmas.Bool.Decides.{eqb_tells}
use Rattle.std.proofs.lemmas.List.Sums.{fold-append}
use Rattle.session_owed.specs.Talk.{is_take}
use Rattle.av_unit.specs.declared.head.Want.{Want}
use Rattle.av_unit.specs.declared.item.Item.{Item}
use Rattle.av_unit.specs.declared.item.Item.TheVariants as item
use Rattle.stream_model.specs.declared.calls.StreamLimits.{StreamLimits}
use Rattle.stream_model.specs.declared.calls.Call.{Call}
use Rattle.stream_model.specs.declared.calls.Call.TheVariants as call
use Rattle.stream_model.specs.declared.calls.Entry.{Entry}
use Rattle.stream_model.specs.declared.replies.Reply.{Reply}
use Rattle.stream_model.specs.declared.replies.Reply.TheVariants as reply
use Rattle.stream_model.specs.declared.replies.Taken.{Taken}
use Rattle.stream_model.specs.declared.replies.Taken.TheVariants as taken
use Rattle.stream_model.specs.Items.{is_live, live_after}
use Rattle.stream_model.specs.Window.{join}
use Rattle.stream_model.specs.Spell.{spell, cursor, sent, reply_of}
use Rattle.stream_model.specs.Take as take
use Rattle.stream_model.specs.Counts.{is_began, is_pushed, is_ended, is_joined}
use Rattle.stream_model.specs.Answer.{reply_to, begin_reply, join_reply, first_or, free_place, is_who}
use Rattle.stream_model.specs.History.{History, items_of, after_push, last_began, publisher, holder, holder_after}
use Rattle.stream_model.specs.Known.{IsLawful}
use Rattle.stream_registry.specs.Told.{Step}
use Rattle.relay_session.specs.SeatState.{publishes, plays}
use Rattle.relay_session.specs.SeatOwn.{own, is_not_player, FaresSo}
use Rattle.relay_session.specs.Session.{item_in}

-- ---- the publisher after a call

unfoldable pub publisher_after : Reply → ℕ → Option ℕ → Option ℕ
publisher_after (reply.Began n) who p = Some who
publisher_after (reply.Ended n) who p = None
publisher_after _ who p = p

live_more : (items : List Item) (x : Item) → is_live (items ++ x ∷ []) ≡ live_after (is_live items) x
live_more items x = fold-append live_after false items (x ∷ [])

-- a Push leaves the stream as live as it was
live_push : (c : Call) (items : List Item) → is_live (after_push c items) ≡ is_live items
live_push (call.Push u) items = live_more items (item.Unit u)
live_push call.Begin items = refl
live_push (call.BeginAs name) items = refl
live_push call.End items = refl
live_push call.Join items = refl
live_push (call.JoinAs name) items = refl
live_push (call.Take player want) items = refl
live_push (call.Leave player) items = refl
live_push call.Count items = refl

pub publisher_step : (past : History) (e : Entry) (r : Reply) → publisher ((e, r) ∷ past) ≡ publisher_after r e.who (publisher past)
unfolding publisher_after
publisher_step past e (reply.Began n) = ap (λ (b : Bool). if b then Some e.who else None) (live_more (items_of past) item.Begin)
publisher_step past e (reply.Ended n) = ap (λ (b : Bool). if b then last_began past else None) (live_more (items_of past) item.End)
publisher_step past e (reply.Pushed n) = ap (λ (b : Bool). if b then last_began past else None) (live_push e.call (items_of past))
publisher_step past e (reply.InUse by) = refl
publisher_step past e (reply.NotPublisher live) = refl
publisher_step past e (reply.Joined player from) = refl
publisher_step past e reply.Full = refl
publisher_step past e (reply.NoSlot slots) = refl
publisher_step past e reply.NotPlayer = refl
publisher_step past e (reply.Sent from n item) = refl
publisher_step past e (reply.Skip from to) = refl
publisher_step past e (reply.NotYet end) = refl
publisher_step past e (reply.Left player) = refl
publisher_step past e (reply.Counts began pushed ended joined skips) = refl

-- ---- what a lawful reply says of the history before it

unfoldable pub is_left : Reply → Bool
is_left (reply.Left player) = true
is_left _ = false

not_so : (f : Reply → Bool) (r x : Reply) → r ≡ x → f r ≡ true → f x ≡ false → ⊥
not_so f r x e y n = false≢true (sym n ∙ (sym (ap f e) ∙ y))

either : (f : Reply → Bool) (b : Bool) (x y : Reply) → f x ≡ false → f y ≡ false → f (if b then x else y) ≡ false
either f true x y h k = h
either f false x y h k = k

joins : (f : Reply → Bool) (from : ℕ) (o : Option ℕ) → ((player : ℕ) → f (reply.Joined player from) ≡ false) → f reply.Full ≡ false → f (join_reply from o) ≡ false
joins f from None h k = k
joins f from (Some player) h k = h player

begins : (f : Reply → Bool) (end : ℕ) (o : Option ℕ) → f (reply.Began end) ≡ false → ((by : ℕ) → f (reply.InUse by) ≡ false) → f (begin_reply end o) ≡ false
begins f end None h k = h
begins f end (Some by) h k = k by

-- an answer to the holder of a place isn't any of these
pub record IsAnswer (t : Taken) : Type 0 where
  pub not_began : is_began (reply_of t) ≡ false
  pub not_ended : is_ended (reply_of t) ≡ false
  pub not_joined : is_joined (reply_of t) ≡ false
  pub not_left : is_left (reply_of t) ≡ false
  pub not_refused : is_not_player (reply_of t) ≡ false

pub is_answer : (t : Taken) → IsAnswer t
unfolding is_left
is_answer (taken.Sent from n item) = record { not_began = refl; not_ended = refl; not_joined = refl; not_left = refl; not_refused = refl }
is_answer (taken.Skip from to) = record { not_began = refl; not_ended = refl; not_joined = refl; not_left = refl; not_refused = refl }
is_answer (taken.NotYet end) = record { not_began = refl; not_ended = refl; not_joined = refl; not_left = refl; not_refused = refl }

abbrev pub the_answer : StreamLimits → History → ℕ → Want → Taken
the_answer limits past player want = take.taken limits (items_of past) (cursor (spell past player)) (sent (spell past player)) want

begun_none : (n end : ℕ) (o : Option ℕ) → reply.Began n ≡ begin_reply end o → o ≡ None
begun_none n end None e = refl
begun_none n end (Some by) e = absurd (not_so is_began (reply.Began n) (reply.InUse by) e refl refl)

ended_some : (n end who : ℕ) (o live : Option ℕ) → reply.Ended n ≡ (if is_who o who then reply.Ended end else reply.NotPublisher live) → o ≡ Some who
ended_some n end who None live e = absurd (not_so is_ended (reply.Ended n) (reply.NotPublisher live) e refl refl)
ended_some n end who (Some by) live e = elim (eqb_tells by who) [
  | inl h ↦ ap (λ (x : ℕ). Some x) h.1
  | inr h ↦ let f : reply.Ended n ≡ (if false then reply.Ended end else reply.NotPublisher live) = subst (λ (b : Bool). reply.Ended n ≡ (if b then reply.Ended end else reply.NotPublisher live)) h.0 e in
      absurd (not_so is_ended (reply.Ended n) (reply.NotPublisher live) f refl refl)
]

left_some : (q player who : ℕ) (o : Option ℕ) → reply.Left q ≡ (if is_who o who then reply.Left player else reply.NotPlayer) → (q ≡ player) × (o ≡ Some who)
unfolding is_left
left_some q player who None e = absurd (not_so is_left (reply.Left q) reply.NotPlayer e refl refl)
left_some q player who (Some by) e = elim (eqb_tells by who) [
  | inl h ↦ let f : reply.Left q ≡ reply.Left player = subst (λ (b : Bool). reply.Left q ≡ (if b then reply.Left player else reply.NotPlayer)) h.0 e in
      let same : q ≡ player = cc in (same, ap (λ (x : ℕ). Some x) h.1)
  | inr h ↦ let f : reply.Left q ≡ reply.NotPlayer = subst (λ (b : Bool). reply.Left q ≡ (if b then reply.Left player else reply.NotPlayer)) h.0 e in
      absurd (not_so is_left (reply.Left q) reply.NotPlayer f refl refl)
]

last_free : (n q : ℕ) (x : Option ℕ) → (if is_some x then None else Some n) ≡ Some q → (n ≡ q) × (x ≡ None)
last_free n q None e = let same : n ≡ q = cc in (same, refl)
last_free n q (Some y) e = absurd (cc e)

first_free : (h : ℕ → Option ℕ) (n q : ℕ) (o : Option ℕ) → (o ≡ Some q → h q ≡ None) → first_or o (if is_some (h n) then None else Some n) ≡ Some q → h q ≡ None
first_free h n q (Some p) k e = k e
first_free h n q None k e = let l = last_free n q (h n) e in subst (λ (x : ℕ). h x ≡ None) l.0 l.1

free_none : (h : ℕ → Option ℕ) (n q : ℕ) → free_place h n ≡ Some q → h q ≡ None
free_none h zero q e = absurd (cc e)
free_none h (suc n) q e = first_free h n q (free_place h n) (free_none h n q) e

joined_some : (q from at : ℕ) (o : Option ℕ) → reply.Joined q from ≡ join_reply at o → o ≡ Some q
joined_some q from at None e = absurd (not_so is_joined (reply.Joined q from) reply.Full e refl refl)
joined_some q from at (Some p) e = let same : q ≡ p = cc in ap (λ (x : ℕ). Some x) (sym same)

module _ (limits : StreamLimits) (past : History) (who : ℕ) where
  pub began_none : (n : ℕ) (c : Call) → reply.Began n ≡ reply_to limits past who c → publisher past ≡ None
  began_none n call.Begin e = begun_none n (length (items_of past)) (publisher past) e
  began_none n (call.BeginAs name) e = begun_none n (length (items_of past)) (publisher past) e
  began_none n (call.Push u) e = absurd (not_so is_began (reply.Began n) (reply_to limits past who (call.Push u)) e refl (either is_began (is_who (publisher past) who) (reply.Pushed (length (items_of past))) (reply.NotPublisher (publisher past)) refl refl))
  began_none n call.End e = absurd (not_so is_began (reply.Began n) (reply_to limits past who call.End) e refl (either is_began (is_who (publisher past) who) (reply.Ended (length (items_of past))) (reply.NotPublisher (publisher past)) refl refl))
  began_none n call.Join e = absurd (not_so is_began (reply.Began n) (reply_to limits past who call.Join) e refl (joins is_began (join limits (items_of past)) (free_place (holder past) limits.players) (λ p. refl) refl))
  began_none n (call.JoinAs name) e = absurd (not_so is_began (reply.Began n) (reply_to limits past who (call.JoinAs name)) e refl (joins is_began (join limits (items_of past)) (free_place (holder past) limits.players) (λ p. refl) refl))
  began_none n (call.Take player want) e = absurd (not_so is_began (reply.Began n) (reply_to limits past who (call.Take player want)) e refl (either is_began (is_who (holder past player) who) (reply_of (the_answer limits past player want)) reply.NotPlayer (is_answer (the_answer limits past player want)).not_began refl))
  began_none n (call.Leave player) e = absurd (not_so is_began (reply.Began n) (reply_to limits past who (call.Leave player)) e refl (either is_began (is_who (holder past player) who) (reply.Left player) reply.NotPlayer refl refl))
  began_none n call.Count e = absurd (not_so is_began (reply.Began n) (reply_to limits past who call.Count) e refl refl)

  pub ended_who : (n : ℕ) (c : Call) → reply.Ended n ≡ reply_to limits past who c → publisher past ≡ Some who
  ended_who n call.Begin e = absurd (not_so is_ended (reply.Ended n) (reply_to limits past who call.Begin) e refl (begins is_ended (length (items_of past)) (publisher past) refl (λ by. refl)))
  ended_who n (call.BeginAs name) e = absurd (not_so is_ended (reply.Ended n) (reply_to limits past who (call.BeginAs name)) e refl (begins is_ended (length (items_of past)) (publisher past) refl (λ by. refl)))
  ended_who n (call.Push u) e = absurd (not_so is_ended (reply.Ended n) (reply_to limits past who (call.Push u)) e refl (either is_ended (is_who (publisher past) who) (reply.Pushed (length (items_of past))) (reply.NotPublisher (publisher past)) refl refl))
  ended_who n call.End e = ended_some n (length (items_of past)) who (publisher past) (publisher past) e
  ended_who n call.Join e = absurd (not_so is_ended (reply.Ended n) (reply_to limits past who call.Join) e refl (joins is_ended (join limits (items_of past)) (free_place (holder past) limits.players) (λ p. refl) refl))
  ended_who n (call.JoinAs name) e = absurd (not_so is_ended (reply.Ended n) (reply_to limits past who (call.JoinAs name)) e refl (joins is_ended (join limits (items_of past)) (free_place (holder past) limits.players) (λ p. refl) refl))
  ended_who n (call.Take player want) e = absurd (not_so is_ended (reply.Ended n) (reply_to limits past who (call.Take player want)) e refl (either is_ended (is_who (holder past player) who) (reply_of (the_answer limits past player want)) reply.NotPlayer (is_answer (the_answer limits past player want)).not_ended refl))
  ended_who n (call.Leave player) e = absurd (not_so is_ended (reply.Ended n) (reply_to limits past who (call.Leave player)) e refl (either is_ended (is_who (holder past player) who) (reply.Left player) reply.NotPlayer refl refl))
  ended_who n call.Count e = absurd (not_so is_ended (reply.Ended n) (reply_to limits past who call.Count) e refl refl)

  pub joined_free : (q from : ℕ) (c : Call) → reply.Joined q from ≡ reply_to limits past who c → holder past q ≡ None
  joined_free q from call.Begin e = absurd (not_so is_joined (reply.Joined q from) (reply_to limits past who call.Begin) e refl (begins is_joined (length (items_of past)) (publisher past) refl (λ by. refl)))
  joined_free q from (call.BeginAs name) e = absurd (not_so is_joined (reply.Joined q from) (reply_to limits past who (call.BeginAs name)) e refl (begins is_joined (length (items_of past)) (publisher past) refl (λ by. refl)))
  joined_free q from (call.Push u) e = absurd (not_so is_joined (reply.Joined q from) (reply_to limits past who (call.Push u)) e refl (either is_joined (is_who (publisher past) who) (reply.Pushed (length (items_of past))) (reply.NotPublisher (publisher past)) refl refl))
  joined_free q from call.End e = absurd (not_so is_joined (reply.Joined q from) (reply_to limits past who call.End) e refl (either is_joined (is_who (publisher past) who) (reply.Ended (length (items_of past))) (reply.NotPublisher (publisher past)) refl refl))
  joined_free q from call.Join e = free_none (holder past) limits.players q (joined_some q from (join limits (items_of past)) (free_place (holder past) limits.players) e)
  joined_free q from (call.JoinAs name) e = free_none (holder past) limits.players q (joined_some q from (join limits (items_of past)) (free_place (holder past) limits.players) e)
  joined_free q from (call.Take player want) e = absurd (not_so is_joined (reply.Joined q from) (reply_to limits past who (call.Take player want)) e refl (either is_joined (is_who (holder past player) who) (reply_of (the_answer limits past player want)) reply.NotPlayer (is_answer (the_answer limits past player want)).not_joined refl))
  joined_free q from (call.Leave player) e = absurd (not_so is_joined (reply.Joined q from) (reply_to limits past who (call.Leave player)) e refl (either is_joined (is_who (holder past player) who) (reply.Left player) reply.NotPlayer refl refl))
  joined_free q from call.Count e = absurd (not_so is_joined (reply.Joined q from) (reply_to limits past who call.Count) e refl refl)

  pub left_held : (q : ℕ) (c : Call) → reply.Left q ≡ reply_to limits past who c → holder past q ≡ Some who
  unfolding is_left
  left_held q call.Begin e = absurd (not_so is_left (reply.Left q) (reply_to limits past who call.Begin) e refl (begins is_left (length (items_of past)) (publisher past) refl (λ by. refl)))
  left_held q (call.BeginAs name) e = absurd (not_so is_left (reply.Left q) (reply_to limits past who (call.BeginAs name)) e refl (begins is_left (length (items_of past)) (publisher past) refl (λ by. refl)))
  left_held q (call.Push u) e = absurd (not_so is_left (reply.Left q) (reply_to limits past who (call.Push u)) e refl (either is_left (is_who (publisher past) who) (reply.Pushed (length (items_of past))) (reply.NotPublisher (publisher past)) refl refl))
  left_held q call.End e = absurd (not_so is_left (reply.Left q) (reply_to limits past who call.End) e refl (either is_left (is_who (publisher past) who) (reply.Ended (length (items_of past))) (reply.NotPublisher (publisher past)) refl refl))
  left_held q call.Join e = absurd (not_so is_left (reply.Left q) (reply_to limits past who call.Join) e refl (joins is_left (join limits (items_of past)) (free_place (holder past) limits.players) (λ p. refl) refl))
  left_held q (call.JoinAs name) e = absurd (not_so is_left (reply.Left q) (reply_to limits past who (call.JoinAs name)) e refl (joins is_left (join limits (items_of past)) (free_place (holder past) limits.players) (λ p. refl) refl))
  left_held q (call.Take player want) e = absurd (not_so is_left (reply.Left q) (reply_to limits past who (call.Take player want)) e refl (either is_left (is_who (holder past player) who) (reply_of (the_answer limits past player want)) reply.NotPlayer (is_answer (the_answer limits past player want)).not_left refl))
  left_held q (call.Leave player) e = let l = left_some q player who (holder past player) e in subst (λ (p : ℕ). holder past p ≡ Some who) (sym l.0) l.1
  left_held q call.Count e = absurd (not_so is_left (reply.Left q) (reply_to limits past who call.Count) e refl refl)

-- ---- one call more

pub alike_publishes : (b : Bool) (s : Step) (calls : List Step) → publishes (s ∷ calls) ≡ publishes calls → publishes (if b then s ∷ calls else calls) ≡ publishes calls
alike_publishes true s calls e = e
alike_publishes false s calls e = refl

pub alike_plays : (player : ℕ) (b : Bool) (s : Step) (calls : List Step) → plays player (s ∷ calls) ≡ plays player calls → plays player (if b then s ∷ calls else calls) ≡ plays player calls
alike_plays player true s calls e = e
alike_plays player false s calls e = refl

some_not_none : (who : ℕ) (o : Option ℕ) → o ≡ Some who → o ≡ None → ⊥
some_not_none who o e f = cc

some_same : (who by : ℕ) (o : Option ℕ) → o ≡ Some who → o ≡ Some by → by ≡ who
some_same who by o e f = cc

pub publisher_more : (who : ℕ) (s : Step) (calls : List Step) (o : Option ℕ) → ((n : ℕ) → s.1 ≡ reply.Began n → o ≡ None) → ((n : ℕ) → s.1 ≡ reply.Ended n → o ≡ Some s.0.who)
    → (publishes calls ≡ true → o ≡ Some who) → publishes (if s.0.who == who then s ∷ calls else calls) ≡ true → publisher_after s.1 s.0.who o ≡ Some who
unfolding publisher_after
publisher_more who (e, reply.Began n) calls o free held before p = elim (eqb_tells e.who who) [
  | inl h ↦ ap (λ (x : ℕ). Some x) h.1
  | inr h ↦ let q : publishes calls ≡ true = subst (λ (b : Bool). publishes (if b then (e, reply.Began n) ∷ calls else calls) ≡ true) h.0 p in absurd (some_not_none who o (before q) (free n refl))
]
publisher_more who (e, reply.Ended n) calls o free held before p = elim (eqb_tells e.who who) [
  | inl h ↦ let q : false ≡ true = subst (λ (b : Bool). publishes (if b then (e, reply.Ended n) ∷ calls else calls) ≡ true) h.0 p in absurd (false≢true q)
  | inr h ↦ let q : publishes calls ≡ true = subst (λ (b : Bool). publishes (if b then (e, reply.Ended n) ∷ calls else calls) ≡ true) h.0 p in absurd (h.1 (some_same who e.who o (before q) (held n refl)))
]
publisher_more who (e, reply.InUse by) calls o free held before p = before (sym (alike_publishes (e.who == who) (e, reply.InUse by) calls refl) ∙ p)
publisher_more who (e, reply.Pushed n) calls o free held before p = before (sym (alike_publishes (e.who == who) (e, reply.Pushed n) calls refl) ∙ p)
publisher_more who (e, reply.NotPublisher live) calls o free held before p = before (sym (alike_publishes (e.who == who) (e, reply.NotPublisher live) calls refl) ∙ p)
publisher_more who (e, reply.Full) calls o free held before p = before (sym (alike_publishes (e.who == who) (e, reply.Full) calls refl) ∙ p)
publisher_more who (e, reply.NoSlot slots) calls o free held before p = before (sym (alike_publishes (e.who == who) (e, reply.NoSlot slots) calls refl) ∙ p)
publisher_more who (e, reply.NotPlayer) calls o free held before p = before (sym (alike_publishes (e.who == who) (e, reply.NotPlayer) calls refl) ∙ p)
publisher_more who (e, reply.Sent from n item) calls o free held before p = before (sym (alike_publishes (e.who == who) (e, reply.Sent from n item) calls refl) ∙ p)
publisher_more who (e, reply.Skip from to) calls o free held before p = before (sym (alike_publishes (e.who == who) (e, reply.Skip from to) calls refl) ∙ p)
publisher_more who (e, reply.NotYet end) calls o free held before p = before (sym (alike_publishes (e.who == who) (e, reply.NotYet end) calls refl) ∙ p)
publisher_more who (e, reply.Counts began pushed ended joined skips) calls o free held before p = before (sym (alike_publishes (e.who == who) (e, reply.Counts began pushed ended joined skips) calls refl) ∙ p)
publisher_more who (e, reply.Joined player from) calls o free held before p = before (sym (alike_publishes (e.who == who) (e, reply.Joined player from) calls refl) ∙ p)
publisher_more who (e, reply.Left player) calls o free held before p = before (sym (alike_publishes (e.who == who) (e, reply.Left player) calls refl) ∙ p)

pub holder_more : (who player : ℕ) (s : Step) (calls : List Step) (h : ℕ → Option ℕ) → ((q from : ℕ) → s.1 ≡ reply.Joined q from → h q ≡ None) → ((q : ℕ) → s.1 ≡ reply.Left q → h q ≡ Some s.0.who)
    → (plays player calls ≡ true → h player ≡ Some who) → plays player (if s.0.who == who then s ∷ calls else calls) ≡ true → holder_after s.0.who s.1 player (h player) ≡ Some who
holder_more who player (e, reply.Joined q from) calls h free held before p = elim (eqb_tells q player) [
  | inl k ↦ elim (eqb_tells e.who who) [
    | inl m ↦ subst (λ (b : Bool). (if b then Some e.who else h player) ≡ Some who) (sym k.0) (ap (λ (x : ℕ). Some x) m.1)
    | inr m ↦ let t : plays player calls ≡ true = subst (λ (b : Bool). plays player (if b then (e, reply.Joined q from) ∷ calls else calls) ≡ true) m.0 p in
        absurd (some_not_none who (h player) (before t) (subst (λ (x : ℕ). h x ≡ None) k.1 (free q from refl)))
  ]
  | inr k ↦ let same : plays player ((e, reply.Joined q from) ∷ calls) ≡ plays player calls = rw k.0 refl in
      let t : plays player calls ≡ true = sym (alike_plays player (e.who == who) (e, reply.Joined q from) calls same) ∙ p in
      subst (λ (b : Bool). (if b then Some e.who else h player) ≡ Some who) (sym k.0) (before t)
]
holder_more who player (e, reply.Left q) calls h free held before p = elim (eqb_tells q player) [
  | inl k ↦ elim (eqb_tells e.who who) [
    | inl m ↦ let t : plays player ((e, reply.Left q) ∷ calls) ≡ true = subst (λ (b : Bool). plays player (if b then (e, reply.Left q) ∷ calls else calls) ≡ true) m.0 p in
        let none : plays player ((e, reply.Left q) ∷ calls) ≡ false = rw k.0 refl in
        absurd (false≢true (sym none ∙ t))
    | inr m ↦ let t : plays player calls ≡ true = subst (λ (b : Bool). plays player (if b then (e, reply.Left q) ∷ calls else calls) ≡ true) m.0 p in
        absurd (m.1 (some_same who e.who (h player) (before t) (subst (λ (x : ℕ). h x ≡ Some e.who) k.1 (held q refl))))
  ]
  | inr k ↦ let same : plays player ((e, reply.Left q) ∷ calls) ≡ plays player calls = rw k.0 refl in
      let t : plays player calls ≡ true = sym (alike_plays player (e.who == who) (e, reply.Left q) calls same) ∙ p in
      subst (λ (b : Bool). (if b then None else h player) ≡ Some who) (sym k.0) (before t)
]
holder_more who player (e, reply.InUse by) calls h free held before p = before (sym (alike_plays player (e.who == who) (e, reply.InUse by) calls refl) ∙ p)
holder_more who player (e, reply.Pushed n) calls h free held before p = before (sym (alike_plays player (e.who == who) (e, reply.Pushed n) calls refl) ∙ p)
holder_more who player (e, reply.NotPublisher live) calls h free held before p = before (sym (alike_plays player (e.who == who) (e, reply.NotPublisher live) calls refl) ∙ p)
holder_more who player (e, reply.Full) calls h free held before p = before (sym (alike_plays player (e.who == who) (e, reply.Full) calls refl) ∙ p)
holder_more who player (e, reply.NoSlot slots) calls h free held before p = before (sym (alike_plays player (e.who == who) (e, reply.NoSlot slots) calls refl) ∙ p)
holder_more who player (e, reply.NotPlayer) calls h free held before p = before (sym (alike_plays player (e.who == who) (e, reply.NotPlayer) calls refl) ∙ p)
holder_more who player (e, reply.Sent from n item) calls h free held before p = before (sym (alike_plays player (e.who == who) (e, reply.Sent from n item) calls refl) ∙ p)
holder_more who player (e, reply.Skip from to) calls h free held before p = before (sym (alike_plays player (e.who == who) (e, reply.Skip from to) calls refl) ∙ p)
holder_more who player (e, reply.NotYet end) calls h free held before p = before (sym (alike_plays player (e.who == who) (e, reply.NotYet end) calls refl) ∙ p)
holder_more who player (e, reply.Counts began pushed ended joined skips) calls h free held before p = before (sym (alike_plays player (e.who == who) (e, reply.Counts began pushed ended joined skips) calls refl) ∙ p)
holder_more who player (e, reply.Began n) calls h free held before p = before (sym (alike_plays player (e.who == who) (e, reply.Began n) calls refl) ∙ p)
holder_more who player (e, reply.Ended n) calls h free held before p = before (sym (alike_plays player (e.who == who) (e, reply.Ended n) calls refl) ∙ p)

-- ---- a lawful history

pub publishes_so : (limits : StreamLimits) (past : History) (who : ℕ) → IsLawful limits past → publishes (own who past) ≡ true → publisher past ≡ Some who
publishes_so limits [] who l p = absurd (false≢true p)
publishes_so limits (s ∷ past) who l p =
    publisher_step past s.0 s.1 ∙ publisher_more who s (own who past) (publisher past)
    (λ n e. began_none limits past s.0.who n s.0.call (sym e ∙ l.0)) (λ n e. ended_who limits past s.0.who n s.0.call (sym e ∙ l.0)) (publishes_so limits past who l.1) p

pub plays_so : (limits : StreamLimits) (past : History) (who player : ℕ) → IsLawful limits past → plays player (own who past) ≡ true → holder past player ≡ Some who
plays_so limits [] who player l p = absurd (false≢true p)
plays_so limits (s ∷ past) who player l p =
    holder_more who player s (own who past) (holder past)
    (λ q from e. joined_free limits past s.0.who q from s.0.call (sym e ∙ l.0)) (λ q e. left_held limits past s.0.who q s.0.call (sym e ∙ l.0)) (plays_so limits past who player l.1) p

pub it_is : (who : ℕ) (o : Option ℕ) → o ≡ Some who → is_who o who ≡ true
it_is who o e = elim (eqb_tells who who) [
  | inl h ↦ subst (λ (x : Option ℕ). is_who x who ≡ true) (sym e) h.0
  | inr h ↦ absurd (h.1 refl)
]

module _ (limits : StreamLimits) (past : History) (who : ℕ) (l : IsLawful limits past) where
  pub fares_so : (c : Call) → FaresSo (own who past) c (reply_to limits past who c)
  fares_so (call.Push u) = λ p. ap (λ (b : Bool). is_pushed (if b then reply.Pushed (length (items_of past)) else reply.NotPublisher (publisher past))) (it_is who (publisher past) (publishes_so limits past who l p))
  fares_so call.End = λ p. ap (λ (b : Bool). is_ended (if b then reply.Ended (length (items_of past)) else reply.NotPublisher (publisher past))) (it_is who (publisher past) (publishes_so limits past who l p))
  fares_so (call.Take player want) = λ p. ap (λ (b : Bool). is_not_player (if b then reply_of (the_answer limits past player want) else reply.NotPlayer)) (it_is who (holder past player) (plays_so limits past who player l p))
      ∙ (is_answer (the_answer limits past player want)).not_refused
  fares_so (call.Leave player) = λ p. ap (λ (b : Bool). is_not_player (if b then reply.Left player else reply.NotPlayer)) (it_is who (holder past player) (plays_so limits past who player l p))
  fares_so call.Begin = tt
  fares_so (call.BeginAs name) = tt
  fares_so call.Join = tt
  fares_so (call.JoinAs name) = tt
  fares_so call.Count = tt

-- ---- an item

unfoldable pub brings : Reply → Bool
brings r = is_some (item_in r)

-- the rules answer a Take alone with one
pub no_item : (limits : StreamLimits) (past : History) (who : ℕ) (c : Call) → is_take c ≡ false → brings (reply_to limits past who c) ≡ false
unfolding brings
no_item limits past who call.Begin t = begins brings (length (items_of past)) (publisher past) refl (λ by. refl)
no_item limits past who (call.BeginAs name) t = begins brings (length (items_of past)) (publisher past) refl (λ by. refl)
no_item limits past who (call.Push u) t = either brings (is_who (publisher past) who) (reply.Pushed (length (items_of past))) (reply.NotPublisher (publisher past)) refl refl
no_item limits past who call.End t = either brings (is_who (publisher past) who) (reply.Ended (length (items_of past))) (reply.NotPublisher (publisher past)) refl refl
no_item limits past who call.Join t = joins brings (join limits (items_of past)) (free_place (holder past) limits.players) (λ p. refl) refl
no_item limits past who (call.JoinAs name) t = joins brings (join limits (items_of past)) (free_place (holder past) limits.players) (λ p. refl) refl
no_item limits past who (call.Take player want) t = absurd (false≢true (sym t))
no_item limits past who (call.Leave player) t = either brings (is_who (holder past player) who) (reply.Left player) reply.NotPlayer refl refl
no_item limits past who call.Count t = refl
