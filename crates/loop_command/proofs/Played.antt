-- Where one call alone has joined, all items that were sent are items of the stream, in its order
use Rattle.std.proofs.Common.{◌≡◌, inl, inr, ◌⊎◌, ℕ, ◌+◌, ◌≤◌, ◌<◌, suc, Bool, true, false, ◌==◌, if◌then◌else◌, List, [], ◌∷◌, ◌++◌, length, take, Option, Some, None, refl, sym, ap, ◌∙◌, subst, arith, append-nil}
use Rattle.std.specs.List.{All, AllByRecursion, slice_get}
use Rattle.std.proofs.lemmas.List.Elements.{recursion_from_All}
use Rattle.std.proofs.lemmas.Bool.{eqb-false, eqb-true, ne_eqb}
use Rattle.av_unit.specs.declared.item.Item.{Item}
use Rattle.av_unit.specs.declared.head.Want.{Want}
use Rattle.client_law.specs.Pull.{item_for, item_in}
use Rattle.relay_session.specs.SeatVisits.{StandIn}
use Rattle.session_owed.specs.Talk.{is_take}
use Rattle.stream_model.specs.Answer.{begin_reply, end_reply, free_place, is_who, join_reply, push_reply, reply, reply_to}
use Rattle.stream_model.specs.Counts.{how_many, is_joined}
use Rattle.stream_model.specs.History.{History, holder, holder_after, items_of, publisher}
use Rattle.stream_model.specs.Known.{IsLawful}
use Rattle.stream_model.specs.Legal.{Each, IsAbove, Legal, OnSent}
use Rattle.stream_model.specs.Spell.{Spell, cursor, numbers_of, one_more, reply_of, sent, spell, spell_after, taken_of, takes_from}
use Rattle.stream_model.specs.Take.{taken}
use Rattle.stream_model.specs.Window.{join}
use Rattle.stream_model.specs.declared.calls.Call.{Call}
use Rattle.stream_model.specs.declared.calls.Call.TheVariants as call
use Rattle.stream_model.specs.declared.calls.Entry.{Entry}
use Rattle.stream_model.specs.declared.replies.Reply.{Reply}
use Rattle.stream_model.specs.declared.replies.Reply.TheVariants as reply_is
use Rattle.stream_model.specs.declared.replies.Taken.{Taken}
use Rattle.stream_model.specs.declared.replies.Taken.TheVariants as took
use Rattle.stream_registry.specs.Told.{Step}
use Rattle.loop_command.specs.Desk.{limits, shape}
use Rattle.loop_command.specs.Looped.{AreAmong}
use Rattle.loop_command.proofs.Among.{among_join, among_self, among_skip, among_after, among_whole, take_among, take_one}
use Rattle.loop_command.proofs.Granted.{none_joined}

-- all items that were sent, in order
abbrev pub told : History → List Item
told [] = []
told (s ∷ past) = told past ++ item_in s.1

-- and those of answers, of which the newest is first
abbrev pub given : List Taken → List Item
given [] = []
given (took.Sent at n x ∷ before) = given before ++ x ∷ []
given (took.Skip at to ∷ before) = given before
given (took.NotYet end ∷ before) = given before

-- nobody holds a place but this, and all was sent there
pub record IsAt (past : History) (p : ℕ) : Type 0 where
  pub others : (q : ℕ) → (q ≡ p → ⊥) → holder past q ≡ None
  pub same : told past ≡ given (spell past p).answers

abbrev is_sent : Reply → Bool
is_sent (reply_is.Sent from n i) = true
is_sent _ = false

not_sent : (r : Reply) → is_sent r ≡ false → item_in r ≡ []
not_sent (reply_is.Sent from n i) e = absurd cc
not_sent (reply_is.Began n) e = refl
not_sent (reply_is.Pushed n) e = refl
not_sent (reply_is.Ended n) e = refl
not_sent (reply_is.InUse by) e = refl
not_sent (reply_is.NotPublisher live) e = refl
not_sent (reply_is.Joined player from) e = refl
not_sent reply_is.Full e = refl
not_sent (reply_is.NoSlot slots) e = refl
not_sent reply_is.NotPlayer e = refl
not_sent (reply_is.Skip from to) e = refl
not_sent (reply_is.NotYet end) e = refl
not_sent (reply_is.Left player) e = refl
not_sent (reply_is.Counts began pushed ended joined skips) e = refl

-- a call that is no Take is sent no item
abbrev IsQuiet : History → ℕ → Call → Type 0
IsQuiet past who c = is_sent (reply_to limits past who c) ≡ false

quiet_begin : (n : ℕ) (o : Option ℕ) → is_sent (begin_reply n o) ≡ false
quiet_begin n None = refl
quiet_begin n (Some by) = refl

quiet_join : (n : ℕ) (o : Option ℕ) → is_sent (join_reply n o) ≡ false
quiet_join n None = refl
quiet_join n (Some p) = refl

quiet_push : (n who : ℕ) (o : Option ℕ) → is_sent (push_reply n o who) ≡ false
quiet_push n who o = by_test (is_who o who)
  where
    by_test : (b : Bool) → is_sent (if b then reply_is.Pushed n else reply_is.NotPublisher o) ≡ false
    by_test true = refl
    by_test false = refl

quiet_end : (n who : ℕ) (o : Option ℕ) → is_sent (end_reply n o who) ≡ false
quiet_end n who o = by_test (is_who o who)
  where
    by_test : (b : Bool) → is_sent (if b then reply_is.Ended n else reply_is.NotPublisher o) ≡ false
    by_test true = refl
    by_test false = refl

quiet_leave : (b : Bool) (player : ℕ) → is_sent (if b then reply_is.Left player else reply_is.NotPlayer) ≡ false
quiet_leave true player = refl
quiet_leave false player = refl

quiet : (past : History) (who : ℕ) (c : Call) → is_take c ≡ false → IsQuiet past who c
quiet past who call.Begin e = quiet_begin (length (items_of past)) (publisher past)
quiet past who (call.BeginAs name) e = quiet_begin (length (items_of past)) (publisher past)
quiet past who (call.Push u) e = quiet_push (length (items_of past)) who (publisher past)
quiet past who call.End e = quiet_end (length (items_of past)) who (publisher past)
quiet past who call.Join e = quiet_join (join limits (items_of past)) (free_place (holder past) limits.players)
quiet past who (call.JoinAs name) e = quiet_join (join limits (items_of past)) (free_place (holder past) limits.players)
quiet past who (call.Take player want) e = absurd cc
quiet past who (call.Leave player) e = quiet_leave (is_who (holder past player) who) player
quiet past who call.Count e = refl

-- ---- where none has joined nothing was sent

none_held : (o : Option ℕ) (who : ℕ) → o ≡ None → is_who o who ≡ false
none_held o who e = ap (λ (x : Option ℕ). is_who x who) e

silent : (past : History) (e : Entry) → ((q : ℕ) → holder past q ≡ None) → is_sent (reply limits past e) ≡ false
silent past e none = by_call e.call
  where
    by_test : (b : Bool) (t : Taken) → b ≡ false → is_sent (if b then reply_of t else reply_is.NotPlayer) ≡ false
    by_test true t e = absurd cc
    by_test false t e = refl

    by_call : (c : Call) → is_sent (reply_to limits past e.who c) ≡ false
    by_call (call.Take player want) =
        by_test (is_who (holder past player) e.who) (taken limits (items_of past) (cursor (spell past player)) (sent (spell past player)) want)
        (none_held (holder past player) e.who (none player))
    by_call call.Begin = quiet past e.who call.Begin refl
    by_call (call.BeginAs name) = quiet past e.who (call.BeginAs name) refl
    by_call (call.Push u) = quiet past e.who (call.Push u) refl
    by_call call.End = quiet past e.who call.End refl
    by_call call.Join = quiet past e.who call.Join refl
    by_call (call.JoinAs name) = quiet past e.who (call.JoinAs name) refl
    by_call (call.Leave player) = quiet past e.who (call.Leave player) refl
    by_call call.Count = refl

pub none_told : (past : History) → IsLawful limits past → how_many is_joined past ≡ 0 → told past ≡ []
none_told [] l n = refl
none_told (s ∷ past) l n =
    let m : how_many is_joined past ≡ 0 = omega (arith, n) in
    let q = not_sent s.1 (ap is_sent l.0 ∙ silent past s.0 (none_joined past m)) in
    ap (λ (i : List Item). told past ++ i) q ∙ append-nil (told past) ∙ none_told past l.1 m

-- ---- the call that joined

joins_at : (past : History) (p from : ℕ) (e : Entry) → how_many is_joined past ≡ 0 → told past ≡ [] → IsAt ((e, reply_is.Joined p from) ∷ past) p
joins_at past p from e n t = record { others = elsewhere; same = append-nil (told past) ∙ t ∙ sym (here (p == p) (same_test p)) }
  where
    same_test : (p : ℕ) → (p == p) ≡ true
    same_test p = by_test (p == p) refl
      where
        by_test : (b : Bool) → (p == p) ≡ b → b ≡ true
        by_test true e = refl
        by_test false e = absurd (eqb-false p p e refl)

    here : (b : Bool) → b ≡ true → given (if b then record { from = from; answers = [] } else spell past p).answers ≡ []
    here true e = refl
    here false e = absurd cc

    elsewhere : (q : ℕ) → (q ≡ p → ⊥) → (if p == q then Some e.who else holder past q) ≡ None
    elsewhere q ne = ap (λ (b : Bool). if b then Some e.who else holder past q) (ne_eqb p q (λ z. ne (sym z))) ∙ none_joined past n q

-- ---- each later call

none_later : (who : ℕ) (r : Reply) (q : ℕ) (o : Option ℕ) → is_joined r ≡ false → o ≡ None → holder_after who r q o ≡ None
none_later who (reply_is.Joined player from) q o j e = absurd cc
none_later who (reply_is.Left player) q o j e = by_test (player == q)
  where
    by_test : (b : Bool) → (if b then None else o) ≡ None
    by_test true = refl
    by_test false = e
none_later who (reply_is.Began n) q o j e = e
none_later who (reply_is.Pushed n) q o j e = e
none_later who (reply_is.Ended n) q o j e = e
none_later who (reply_is.InUse by) q o j e = e
none_later who (reply_is.NotPublisher live) q o j e = e
none_later who reply_is.Full q o j e = e
none_later who (reply_is.NoSlot slots) q o j e = e
none_later who reply_is.NotPlayer q o j e = e
none_later who (reply_is.Sent from n i) q o j e = e
none_later who (reply_is.Skip from to) q o j e = e
none_later who (reply_is.NotYet end) q o j e = e
none_later who (reply_is.Counts began pushed ended joined skips) q o j e = e

-- the answers to a call that is no Take stay
no_take_from : (c : Call) (p : ℕ) → is_take c ≡ false → takes_from c p ≡ false
no_take_from call.Begin p e = refl
no_take_from (call.BeginAs name) p e = refl
no_take_from (call.Push u) p e = refl
no_take_from call.End p e = refl
no_take_from call.Join p e = refl
no_take_from (call.JoinAs name) p e = refl
no_take_from (call.Take player want) p e = absurd cc
no_take_from (call.Leave player) p e = refl
no_take_from call.Count p e = refl

spell_stays : (c : Call) (r : Reply) (p : ℕ) (s : Spell) → is_take c ≡ false → is_joined r ≡ false → spell_after c r p s ≡ s
spell_stays c r p s e j = by_reply r j
  where
    pass : (r : Reply) → (if takes_from c p then one_more (taken_of r) s else s) ≡ s
    pass r = ap (λ (b : Bool). if b then one_more (taken_of r) s else s) (no_take_from c p e)

    by_reply : (r : Reply) → is_joined r ≡ false → spell_after c r p s ≡ s
    by_reply (reply_is.Joined player from) j = absurd cc
    by_reply (reply_is.Left player) j = pass (reply_is.Left player)
    by_reply (reply_is.Began n) j = pass (reply_is.Began n)
    by_reply (reply_is.Pushed n) j = pass (reply_is.Pushed n)
    by_reply (reply_is.Ended n) j = pass (reply_is.Ended n)
    by_reply (reply_is.InUse by) j = pass (reply_is.InUse by)
    by_reply (reply_is.NotPublisher live) j = pass (reply_is.NotPublisher live)
    by_reply reply_is.Full j = pass reply_is.Full
    by_reply (reply_is.NoSlot slots) j = pass (reply_is.NoSlot slots)
    by_reply reply_is.NotPlayer j = pass reply_is.NotPlayer
    by_reply (reply_is.Sent from n i) j = pass (reply_is.Sent from n i)
    by_reply (reply_is.Skip from to) j = pass (reply_is.Skip from to)
    by_reply (reply_is.NotYet end) j = pass (reply_is.NotYet end)
    by_reply (reply_is.Counts began pushed ended joined skips) j = pass (reply_is.Counts began pushed ended joined skips)

module _ (past : History) (p : ℕ) (h : IsAt past p) where
  abbrev s : Spell
  s = spell past p

  -- the item that a reply brings is the next of the place
  abbrev Goes : Call → Reply → Type 0
  Goes c r = told past ++ item_in r ≡ given (spell_after c r p s).answers

  quiet_goes : (who : ℕ) (c : Call) (r : Reply) → r ≡ reply_to limits past who c → is_take c ≡ false → is_joined r ≡ false → Goes c r
  quiet_goes who c r law e j =
      ap (λ (i : List Item). told past ++ i) (not_sent r (ap is_sent law ∙ quiet past who c e)) ∙ append-nil (told past) ∙ h.same
      ∙ ap (λ (x : Spell). given x.answers) (sym (spell_stays c r p s e j))

  -- a Take of the holder is one of the place
  held_here : (who player : ℕ) → is_who (holder past player) who ≡ true → player ≡ p
  held_here who player e = by_test (player == p) refl
    where
      by_test : (b : Bool) → (player == p) ≡ b → player ≡ p
      by_test true t = eqb-true player p t
      by_test false t =
          absurd (let f : is_who (holder past player) who ≡ false = none_held (holder past player) who (h.others player (λ z. eqb-false player p t z)) in cc)

  -- no answer
  none_goes : (b : Bool) → told past ++ [] ≡ given (if b then one_more None s else s).answers
  none_goes true = append-nil (told past) ∙ h.same
  none_goes false = append-nil (told past) ∙ h.same

  answer_goes : (t : Taken) (b : Bool) → b ≡ true → told past ++ item_in (reply_of t) ≡ given (if b then one_more (taken_of (reply_of t)) s else s).answers
  answer_goes t false e = absurd cc
  answer_goes (took.Sent at n x) true e = ap (λ (l : List Item). l ++ x ∷ []) h.same
  answer_goes (took.Skip at to) true e = append-nil (told past) ∙ h.same
  answer_goes (took.NotYet end) true e = append-nil (told past) ∙ h.same

  -- what a Take makes of a spell, where it is answered so
  spell_took : (player : ℕ) (want : Want) (t : Taken) → spell_after (call.Take player want) (reply_of t) p s ≡ (if player == p then one_more (taken_of (reply_of t)) s else s)
  spell_took player want (took.Sent at n x) = refl
  spell_took player want (took.Skip at to) = refl
  spell_took player want (took.NotYet end) = refl

  take_goes : (who player : ℕ) (want : Want) (b : Bool) (t : Taken) → is_who (holder past player) who ≡ b → Goes (call.Take player want) (if b then reply_of t else reply_is.NotPlayer)
  take_goes who player want false t e = none_goes (player == p)
  take_goes who player want true t e =
      answer_goes t (player == p) (same_test (player == p) refl) ∙ ap (λ (x : Spell). given x.answers) (sym (spell_took player want t))
    where
      same_test : (b : Bool) → (player == p) ≡ b → b ≡ true
      same_test true t = refl
      same_test false t = absurd (eqb-false player p t (held_here who player e))

  call_goes : (who : ℕ) (c : Call) (r : Reply) → r ≡ reply_to limits past who c → is_joined r ≡ false → Goes c r
  call_goes who (call.Take player want) r law j =
      subst (Goes (call.Take player want)) (sym law)
      (take_goes who player want (is_who (holder past player) who)
      (taken limits (items_of past) (cursor (spell past player)) (sent (spell past player)) want) refl)
  call_goes who call.Begin r law j = quiet_goes who call.Begin r law refl j
  call_goes who (call.BeginAs name) r law j = quiet_goes who (call.BeginAs name) r law refl j
  call_goes who (call.Push u) r law j = quiet_goes who (call.Push u) r law refl j
  call_goes who call.End r law j = quiet_goes who call.End r law refl j
  call_goes who call.Join r law j = quiet_goes who call.Join r law refl j
  call_goes who (call.JoinAs name) r law j = quiet_goes who (call.JoinAs name) r law refl j
  call_goes who (call.Leave player) r law j = quiet_goes who (call.Leave player) r law refl j
  call_goes who call.Count r law j = quiet_goes who call.Count r law refl j

  pub stays_at : (x : Step) → x.1 ≡ reply limits past x.0 → is_joined x.1 ≡ false → IsAt (x ∷ past) p
  stays_at x law j = record {
    others = λ q ne. none_later x.0.who x.1 q (holder past q) j (h.others q ne);
    same = call_goes x.0.who x.0.call x.1 law j;
  }

joined_as : (r : Reply) → is_joined r ≡ true → (p : ℕ) × (from : ℕ) × (r ≡ reply_is.Joined p from)
joined_as (reply_is.Joined player from) e = (player, from, refl)
joined_as (reply_is.Began n) e = absurd cc
joined_as (reply_is.Pushed n) e = absurd cc
joined_as (reply_is.Ended n) e = absurd cc
joined_as (reply_is.InUse by) e = absurd cc
joined_as (reply_is.NotPublisher live) e = absurd cc
joined_as reply_is.Full e = absurd cc
joined_as (reply_is.NoSlot slots) e = absurd cc
joined_as reply_is.NotPlayer e = absurd cc
joined_as (reply_is.Sent from n i) e = absurd cc
joined_as (reply_is.Skip from to) e = absurd cc
joined_as (reply_is.NotYet end) e = absurd cc
joined_as (reply_is.Left player) e = absurd cc
joined_as (reply_is.Counts began pushed ended joined skips) e = absurd cc

-- ALL WAS SENT AT ONE PLACE, if one has joined
abbrev AtOne : History → Type 0
AtOne past = (how_many is_joined past ≡ 0) ⊎ ((p : ℕ) × IsAt past p)

one_joined : (past : History) → IsLawful limits past → how_many is_joined past ≤ 1 → AtOne past
one_joined [] l n = inl refl
one_joined (x ∷ past) l n = by_joined (is_joined x.1) refl n (one_joined past l.1 (omega (arith, n)))
  where
    by_rest : is_joined x.1 ≡ false → AtOne past → AtOne (x ∷ past)
    by_rest j (inl m) = inl (omega (arith, m, ap {B = ℕ} (λ (b : Bool). if b then 1 else 0) j))
    by_rest j (inr a) = inr (a.0, stays_at past a.0 a.1 x l.0 j)

    by_joined : (b : Bool) → is_joined x.1 ≡ b → (if b then 1 else 0) + how_many is_joined past ≤ 1 → AtOne past → AtOne (x ∷ past)
    by_joined false j n a = by_rest j a
    by_joined true j n a =
        let m : how_many is_joined past ≡ 0 = omega (arith, n) in
        let r = joined_as x.1 j in
        inr (r.0, subst (λ (y : Reply). IsAt ((x.0, y) ∷ past) r.0) (sym r.2) (joins_at past r.0 r.1 x.0 m (none_told past l.1 m)))

-- ---- what was sent at a place is among the items

last_below : (b n : ℕ) (ns : List ℕ) → All (λ m. m < b) (ns ++ n ∷ []) → n < b
last_below b n ns h = by_recursion ns (recursion_from_All (λ m. m < b) (ns ++ n ∷ []) h)
  where
    by_recursion : (ns : List ℕ) → AllByRecursion (λ m. m < b) (ns ++ n ∷ []) → n < b
    by_recursion [] h = h.0
    by_recursion (k ∷ ns) h = by_recursion ns h.1

module _ (items : List Item) where
  abbrev Content : List Taken → Type 0
  Content = Each (OnSent (λ n x before. slice_get items n ≡ Some x))

  -- those of the numbers below one
  given_below : (answers : List Taken) (b : ℕ) → Each (OnSent IsAbove) answers → Content answers → All (λ m. m < b) (numbers_of answers)
      → AreAmong (given answers) (take b items)
  given_below [] b r c l = tt
  given_below (took.Skip at to ∷ before) b r c l = given_below before b r.1 c.1 l
  given_below (took.NotYet end ∷ before) b r c l = given_below before b r.1 c.1 l
  given_below (took.Sent at n x ∷ before) b r c l =
      let low : n < b = last_below b n (numbers_of before) l in
      let first : AreAmong (given before) (take n items) = given_below before n r.1 c.1 r.0 in
      take_among (suc n) b (given before ++ x ∷ []) items (omega (arith, low))
      (subst (AreAmong (given before ++ x ∷ [])) (sym (take_one n items x c.0))
      (among_join (given before) (take n items) (x ∷ []) (x ∷ []) first (among_self (x ∷ []))))

  given_among : (answers : List Taken) → Each (OnSent IsAbove) answers → Content answers → AreAmong (given answers) items
  given_among [] r c = tt
  given_among (took.Skip at to ∷ before) r c = given_among before r.1 c.1
  given_among (took.NotYet end ∷ before) r c = given_among before r.1 c.1
  given_among (took.Sent at n x ∷ before) r c =
      among_whole (suc n) (given before ++ x ∷ []) items
      (subst (AreAmong (given before ++ x ∷ [])) (sym (take_one n items x c.0))
      (among_join (given before) (take n items) (x ∷ []) (x ∷ []) (given_below before n r.1 c.1 r.0) (among_self (x ∷ []))))

-- THE ITEMS THAT WERE SENT are among those of the stream
pub told_among : (past : History) → IsLawful limits past → ((p : ℕ) → Legal limits past p) → how_many is_joined past ≤ 1 → AreAmong (told past) (items_of past)
told_among past l legal n = by_one (one_joined past l n)
  where
    by_one : AtOne past → AreAmong (told past) (items_of past)
    by_one (inl m) = subst (λ (i : List Item). AreAmong i (items_of past)) (sym (none_told past l m)) tt
    by_one (inr a) =
        subst (λ (i : List Item). AreAmong i (items_of past)) (sym a.1.same)
        (given_among (items_of past) (spell past a.0).answers (legal a.0).rises (legal a.0).content)

-- ---- those of a caller's own Takes

-- of calls of which the newest is first
abbrev pub taken_by : List Step → List Item
taken_by [] = []
taken_by (c ∷ Q) = taken_by Q ++ item_for c

for_among : (c : Step) → AreAmong (item_for c) (item_in c.1)
for_among c = by_take (is_take c.0.call)
  where
    by_take : (b : Bool) → AreAmong (if b then item_in c.1 else []) (item_in c.1)
    by_take true = among_self (item_in c.1)
    by_take false = tt

pub taken_among : (Q past : List Step) → StandIn shape Q past → AreAmong (taken_by Q) (told past)
taken_among [] past s = tt
taken_among (c ∷ Q) [] s = absurd s
taken_among (c ∷ Q) (x ∷ past) (inl s) =
    among_join (taken_by Q) (told past) (item_for c) (item_in x.1) (taken_among Q past s.2)
    (subst (λ (y : Step). AreAmong (item_for c) (item_in y.1)) s.0 (for_among c))
taken_among (c ∷ Q) (x ∷ past) (inr s) = among_after (taken_by (c ∷ Q)) (told past) (item_in x.1) (taken_among (c ∷ Q) past s)
