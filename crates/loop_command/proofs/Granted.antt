-- The stream of a run grants what its two sessions ask
use Rattle.std.proofs.Common.{◌≡◌, inl, inr, ℕ, suc, ◌+◌, ◌≤◌, Bool, true, false, ◌==◌, if◌then◌else◌, List, [], ◌∷◌, ◌++◌, length, reverse, Option, Some, None}
use Rattle.std.proofs.Common.{is_some, refl, sym, ap, ◌∙◌, subst, arith}
use Rattle.std.proofs.lemmas.List.{reverse-reverse}
use Rattle.client_owed.specs.declared.types.Wish.{Wish}
use Rattle.client_owed.specs.declared.types.Wish.TheVariants as wish
use Rattle.refusal_law.specs.Refusals.{AreClosed, AreGranted, AreOpened, HasBegun, HasJoined, IsGranted, OpensFor, opens}
use Rattle.relay_session.specs.SeatVisits.{StandIn}
use Rattle.session_owed.specs.Talk.{Own, is_take, makes}
use Rattle.stream_model.specs.Answer.{begin_reply, first_or, free_place, is_who, join_reply, reply, reply_to}
use Rattle.stream_model.specs.Counts.{how_many, is_began, is_joined}
use Rattle.stream_model.specs.History.{History, began_by, holder, holder_after, items_of, last_began, publisher}
use Rattle.stream_model.specs.Items.{is_live}
use Rattle.stream_model.specs.Spell.{cursor, reply_of, sent, spell}
use Rattle.stream_model.specs.Take.{taken}
use Rattle.stream_model.specs.declared.calls.Call.{Call}
use Rattle.stream_model.specs.declared.calls.Call.TheVariants as call
use Rattle.stream_model.specs.declared.calls.Entry.{Entry}
use Rattle.stream_model.specs.declared.replies.Reply.{Reply}
use Rattle.stream_model.specs.declared.replies.Reply.TheVariants as reply_is
use Rattle.stream_model.specs.declared.replies.Taken.{Taken}
use Rattle.stream_model.specs.declared.replies.Taken.TheVariants as took
use Rattle.stream_registry.specs.Told.{Step}
use Rattle.loop_command.specs.Desk.{limits, shape}
use Rattle.loop_command.proofs.Back.{reversed}

-- ---- of lists

pub many_join : (f : Reply → Bool) (a b : List Step) → how_many f (a ++ b) ≡ how_many f a + how_many f b
many_join f [] b = omega arith
many_join f (s ∷ a) b = omega (arith, many_join f a b)

-- ---- a call that stands by the rules, after no more of these replies than so many

record IsRuled (f : Reply → Bool) (n : ℕ) (c : Step) : Type 0 where
  pub past : History
  pub few : how_many f past ≤ n
  pub by_rules : c.1 ≡ reply limits past c.0

abbrev AreRuled : (Reply → Bool) → ℕ → List Step → Type 0
AreRuled f n [] = Unit {0}
AreRuled f n (c ∷ C) = IsRuled f n c × AreRuled f n C

more_ruled : (f : Reply → Bool) (n m : ℕ) (C : List Step) → n ≤ m → AreRuled f n C → AreRuled f m C
more_ruled f n m [] l h = tt
more_ruled f n m (c ∷ C) l h = (record { past = h.0.past; few = omega (arith, h.0.few, l); by_rules = h.0.by_rules }, more_ruled f n m C l h.1)

stand_ruled : (f : Reply → Bool) (C past : List Step) → StandIn shape C past → AreRuled f (how_many f past) C
stand_ruled f [] past s = tt
stand_ruled f (c ∷ C) [] s = absurd s
stand_ruled f (c ∷ C) (p ∷ past) (inl s) =
    let l : how_many f past ≤ how_many f (p ∷ past) = omega arith in
    (record { past = past; few = l; by_rules = s.1 }, more_ruled f (how_many f past) (how_many f (p ∷ past)) C l (stand_ruled f C past s.2))
stand_ruled f (c ∷ C) (p ∷ past) (inr s) = more_ruled f (how_many f past) (how_many f (p ∷ past)) (c ∷ C) (omega arith) (stand_ruled f (c ∷ C) past s)

ruled_join : (f : Reply → Bool) (n : ℕ) (a b : List Step) → AreRuled f n a → AreRuled f n b → AreRuled f n (a ++ b)
ruled_join f n [] b h i = i
ruled_join f n (c ∷ a) b h i = (h.0, ruled_join f n a b h.1 i)

ruled_reverse : (f : Reply → Bool) (n : ℕ) (C : List Step) → AreRuled f n C → AreRuled f n (reverse C)
ruled_reverse f n [] h = tt
ruled_reverse f n (c ∷ C) h =
    subst (AreRuled f n) (sym (reversed c C)) (ruled_join f n (reverse C) (c ∷ []) (ruled_reverse f n C h.1) (h.0, tt))

pub many_reverse : (f : Reply → Bool) (C : List Step) → how_many f (reverse C) ≡ how_many f C
many_reverse f [] = refl
many_reverse f (c ∷ C) = omega (arith, ap (how_many f) (reversed c C), many_join f (reverse C) (c ∷ []), many_reverse f C)

-- ---- what grants a call

-- replies that grant calls of one kind, which alone are answered so, and are where none was before
record Grants (w : Wish) (f : Reply → Bool) (fits : Call → Bool) : Type 0 where
  pub alone : (past : History) (e : Entry) → f (reply limits past e) ≡ true → fits e.call ≡ true
  pub first : (past : History) (e : Entry) → fits e.call ≡ true → how_many f past ≡ 0 → f (reply limits past e) ≡ true
  pub granted : (c : Call) (r : Reply) → fits c ≡ true → f r ≡ true → IsGranted c r
  pub opens_fits : (c : Call) → OpensFor w c → fits c ≡ true
  pub others : (v : Wish) (c : Call) → (v ≡ w → ⊥) → OpensFor v c → fits c ≡ false
  pub closed : (c : Call) → opens c ≡ false → fits c ≡ false

closed_granted : (c : Call) (r : Reply) → opens c ≡ false → IsGranted c r
closed_granted call.Begin r e = absurd cc
closed_granted (call.BeginAs name) r e = absurd cc
closed_granted call.Join r e = absurd cc
closed_granted (call.JoinAs name) r e = absurd cc
closed_granted (call.Push unit) r e = tt
closed_granted call.End r e = tt
closed_granted (call.Take player want) r e = tt
closed_granted (call.Leave player) r e = tt
closed_granted call.Count r e = tt

pub take_closed : (c : Call) → is_take c ≡ true → opens c ≡ false
take_closed (call.Take player want) e = refl
take_closed call.Begin e = absurd cc
take_closed (call.BeginAs name) e = absurd cc
take_closed call.Join e = absurd cc
take_closed (call.JoinAs name) e = absurd cc
take_closed (call.Push unit) e = absurd cc
take_closed call.End e = absurd cc
take_closed (call.Leave player) e = absurd cc
take_closed call.Count e = absurd cc

is_none : (b : Bool) → (b ≡ true → ⊥) → b ≡ false
is_none true n = absurd (n refl)
is_none false n = refl

not_both : (b : Bool) → b ≡ true → b ≡ false → ⊥
not_both b e f = cc

module _ (w : Wish) (f : Reply → Bool) (fits : Call → Bool) (g : Grants w f fits) where
  -- a call that isn't of the kind isn't answered so
  unfit : (n : ℕ) (c : Step) → IsRuled f n c → fits c.0.call ≡ false → f c.1 ≡ false
  unfit n c r e = is_none (f c.1) (λ t. not_both (fits c.0.call) (g.alone r.past c.0 (sym (ap f r.by_rules) ∙ t)) e)

  count_one : (b : Bool) (n : ℕ) → b ≡ false → (if b then 1 else 0) + n ≡ n
  count_one true n e = absurd cc
  count_one false n e = omega arith

  -- calls that begin nothing
  closed_none : (n : ℕ) (C : List Own) (rest : List Entry) → AreClosed (makes C ++ rest) → AreRuled f n C → (how_many f C ≡ 0) × AreGranted C
  unfolding makes
  closed_none n [] rest h r = (refl, tt)
  closed_none n (c ∷ C) rest h r = by_take (λ z. closed_none n C rest z r.1) (is_take c.0.call) refl h
    where
      one : opens c.0.call ≡ false → (how_many f C ≡ 0) × AreGranted C → (how_many f (c ∷ C) ≡ 0) × AreGranted (c ∷ C)
      one e i = (count_one (f c.1) (how_many f C) (unfit n c r.0 (g.closed c.0.call e)) ∙ i.0, (closed_granted c.0.call c.1 e, i.1))

      by_take : (AreClosed (makes C ++ rest) → (how_many f C ≡ 0) × AreGranted C) → (b : Bool) → is_take c.0.call ≡ b
          → AreClosed ((if b then makes C else c.0 ∷ makes C) ++ rest) → (how_many f (c ∷ C) ≡ 0) × AreGranted (c ∷ C)
      by_take ih true t h = one (take_closed c.0.call t) (ih h)
      by_take ih false t h = one h.0 (ih h.1)

  -- those of a session that begins something else
  others_none : (v : Wish) → (v ≡ w → ⊥) → (n : ℕ) (C : List Own) (rest : List Entry) → AreOpened v (makes C ++ rest) → AreRuled f n C → how_many f C ≡ 0
  unfolding makes
  others_none v ne n [] rest h r = refl
  others_none v ne n (c ∷ C) rest h r = by_take (λ z. others_none v ne n C rest z r.1) (is_take c.0.call) refl h
    where
      by_take : (AreOpened v (makes C ++ rest) → how_many f C ≡ 0) → (b : Bool) → is_take c.0.call ≡ b
          → AreOpened v ((if b then makes C else c.0 ∷ makes C) ++ rest) → how_many f (c ∷ C) ≡ 0
      by_take ih true t h = count_one (f c.1) (how_many f C) (unfit n c r.0 (g.closed c.0.call (take_closed c.0.call t))) ∙ ih h
      by_take ih false t h = count_one (f c.1) (how_many f C) (unfit n c r.0 (g.others v c.0.call ne h.0)) ∙ (closed_none n C rest h.1 r.1).0

  -- the one call that begins it is granted, where none but the session's own was answered so
  one_granted : (n : ℕ) (C : List Own) (rest : List Entry) → AreOpened w (makes C ++ rest) → AreRuled f n C → n ≡ how_many f C → AreGranted C
  unfolding makes
  one_granted n [] rest h r e = tt
  one_granted n (c ∷ C) rest h r e = by_take (λ z q. one_granted n C rest z r.1 q) (is_take c.0.call) refl h
    where
      is_so : fits c.0.call ≡ true → how_many f C ≡ 0 → (b : Bool) → f c.1 ≡ b → f c.1 ≡ true
      is_so t z true q = q
      is_so t z false q =
          let none : n ≡ 0 = e ∙ count_one (f c.1) (how_many f C) q ∙ z in
          ap f r.0.by_rules ∙ g.first r.0.past c.0 t (omega (arith, r.0.few, none))

      by_take : (AreOpened w (makes C ++ rest) → n ≡ how_many f C → AreGranted C) → (b : Bool) → is_take c.0.call ≡ b
          → AreOpened w ((if b then makes C else c.0 ∷ makes C) ++ rest) → AreGranted (c ∷ C)
      by_take ih true t h =
          let closed = take_closed c.0.call t in
          (closed_granted c.0.call c.1 closed, ih h (e ∙ count_one (f c.1) (how_many f C) (unfit n c r.0 (g.closed c.0.call closed))))
      by_take ih false t h =
          let rest_none = closed_none n C rest h.1 r.1 in
          let t = g.opens_fits c.0.call h.0 in
          (g.granted c.0.call c.1 t (is_so t rest_none.0 (f c.1) refl), rest_none.1)

  at_most : (b : Bool) (n : ℕ) → n ≡ 0 → (if b then 1 else 0) + n ≤ 1
  at_most true n e = omega (arith, e)
  at_most false n e = omega (arith, e)

  -- and at most one of them is answered so
  few_begin : (n : ℕ) (C : List Own) (rest : List Entry) → AreOpened w (makes C ++ rest) → AreRuled f n C → how_many f C ≤ 1
  unfolding makes
  few_begin n [] rest h r = omega arith
  few_begin n (c ∷ C) rest h r = by_take (λ z. few_begin n C rest z r.1) (is_take c.0.call) refl h
    where
      by_take : (AreOpened w (makes C ++ rest) → how_many f C ≤ 1) → (b : Bool) → is_take c.0.call ≡ b
          → AreOpened w ((if b then makes C else c.0 ∷ makes C) ++ rest) → how_many f (c ∷ C) ≤ 1
      by_take ih true t h =
          omega (arith, count_one (f c.1) (how_many f C) (unfit n c r.0 (g.closed c.0.call (take_closed c.0.call t))), ih h)
      by_take ih false t h = at_most (f c.1) (how_many f C) (closed_none n C rest h.1 r.1).0

-- ---- a broadcast

abbrev begins : Call → Bool
begins call.Begin = true
begins (call.BeginAs name) = true
begins call.Join = false
begins (call.JoinAs name) = false
begins (call.Push unit) = false
begins call.End = false
begins (call.Take player want) = false
begins (call.Leave player) = false
begins call.Count = false

-- where none was answered that it began nobody publishes
none_began : (past : History) → how_many is_began past ≡ 0 → last_began past ≡ None
none_began [] e = refl
none_began (s ∷ past) e = by_reply (λ z. none_began past z) s.1 e
  where
    by_reply : (how_many is_began past ≡ 0 → last_began past ≡ None) → (r : Reply) → (if is_began r then 1 else 0) + how_many is_began past ≡ 0
        → began_by s.0.who r (last_began past) ≡ None
    by_reply ih (reply_is.Began n) e = absurd (omega (arith, e))
    by_reply ih (reply_is.Joined player from) e = ih (omega (arith, e))
    by_reply ih (reply_is.Left player) e = ih (omega (arith, e))
    by_reply ih (reply_is.InUse by) e = ih (omega (arith, e))
    by_reply ih (reply_is.Pushed n) e = ih (omega (arith, e))
    by_reply ih (reply_is.NotPublisher live) e = ih (omega (arith, e))
    by_reply ih (reply_is.Ended n) e = ih (omega (arith, e))
    by_reply ih reply_is.Full e = ih (omega (arith, e))
    by_reply ih (reply_is.NoSlot slots) e = ih (omega (arith, e))
    by_reply ih reply_is.NotPlayer e = ih (omega (arith, e))
    by_reply ih (reply_is.Sent from n item) e = ih (omega (arith, e))
    by_reply ih (reply_is.Skip from to) e = ih (omega (arith, e))
    by_reply ih (reply_is.NotYet end) e = ih (omega (arith, e))
    by_reply ih (reply_is.Counts began pushed ended joined skips) e = ih (omega (arith, e))

none_live : (past : History) → how_many is_began past ≡ 0 → publisher past ≡ None
none_live past e = by_test (is_live (items_of past))
  where
    by_test : (b : Bool) → (if b then last_began past else None) ≡ None
    by_test true = none_began past e
    by_test false = refl

pub began_alone : (past : History) (who : ℕ) (c : Call) → is_began (reply_to limits past who c) ≡ true → begins c ≡ true
began_alone past who call.Begin e = refl
began_alone past who (call.BeginAs name) e = refl
began_alone past who call.Join e = absurd (join_not (free_place (holder past) limits.players) e)
  where
    join_not : (o : Option ℕ) → is_began (join_reply (Rattle.stream_model.specs.Window.join limits (items_of past)) o) ≡ true → ⊥
    join_not None e = cc
    join_not (Some p) e = cc
began_alone past who (call.JoinAs name) e = absurd (join_not (free_place (holder past) limits.players) e)
  where
    join_not : (o : Option ℕ) → is_began (join_reply (Rattle.stream_model.specs.Window.join limits (items_of past)) o) ≡ true → ⊥
    join_not None e = cc
    join_not (Some p) e = cc
began_alone past who (call.Push u) e = absurd (by_test (is_who (publisher past) who) e)
  where
    by_test : (b : Bool) → is_began (if b then reply_is.Pushed (length (items_of past)) else reply_is.NotPublisher (publisher past)) ≡ true → ⊥
    by_test true e = cc
    by_test false e = cc
began_alone past who call.End e = absurd (by_test (is_who (publisher past) who) e)
  where
    by_test : (b : Bool) → is_began (if b then reply_is.Ended (length (items_of past)) else reply_is.NotPublisher (publisher past)) ≡ true → ⊥
    by_test true e = cc
    by_test false e = cc
began_alone past who (call.Take player want) e =
    absurd (by_test (is_who (holder past player) who) (taken limits (items_of past) (cursor (spell past player)) (sent (spell past player)) want) e)
  where
    by_test : (b : Bool) (t : Taken) → is_began (if b then reply_of t else reply_is.NotPlayer) ≡ true → ⊥
    by_test true (took.Sent from n item) e = cc
    by_test true (took.Skip from to) e = cc
    by_test true (took.NotYet end) e = cc
    by_test false t e = cc
began_alone past who (call.Leave player) e = absurd (by_test (is_who (holder past player) who) e)
  where
    by_test : (b : Bool) → is_began (if b then reply_is.Left player else reply_is.NotPlayer) ≡ true → ⊥
    by_test true e = cc
    by_test false e = cc
began_alone past who call.Count e = absurd cc

begin_first : (end : ℕ) (o : Option ℕ) → o ≡ None → is_began (begin_reply end o) ≡ true
begin_first end o e = ap (λ (x : Option ℕ). is_began (begin_reply end x)) e

began_first : (past : History) (who : ℕ) (c : Call) → begins c ≡ true → how_many is_began past ≡ 0 → is_began (reply_to limits past who c) ≡ true
began_first past who call.Begin t e = begin_first (length (items_of past)) (publisher past) (none_live past e)
began_first past who (call.BeginAs name) t e = begin_first (length (items_of past)) (publisher past) (none_live past e)
began_first past who call.Join t e = absurd cc
began_first past who (call.JoinAs name) t e = absurd cc
began_first past who (call.Push u) t e = absurd cc
began_first past who call.End t e = absurd cc
began_first past who (call.Take player want) t e = absurd cc
began_first past who (call.Leave player) t e = absurd cc
began_first past who call.Count t e = absurd cc

begun_is : (r : Reply) → is_began r ≡ true → HasBegun r
begun_is (reply_is.Began n) e = tt
begun_is (reply_is.Joined player from) e = absurd cc
begun_is (reply_is.Left player) e = absurd cc
begun_is (reply_is.InUse by) e = absurd cc
begun_is (reply_is.Pushed n) e = absurd cc
begun_is (reply_is.NotPublisher live) e = absurd cc
begun_is (reply_is.Ended n) e = absurd cc
begun_is reply_is.Full e = absurd cc
begun_is (reply_is.NoSlot slots) e = absurd cc
begun_is reply_is.NotPlayer e = absurd cc
begun_is (reply_is.Sent from n item) e = absurd cc
begun_is (reply_is.Skip from to) e = absurd cc
begun_is (reply_is.NotYet end) e = absurd cc
begun_is (reply_is.Counts began pushed ended joined skips) e = absurd cc

begun_granted : (c : Call) (r : Reply) → begins c ≡ true → is_began r ≡ true → IsGranted c r
begun_granted call.Begin r t e = begun_is r e
begun_granted (call.BeginAs name) r t e = begun_is r e
begun_granted call.Join r t e = absurd cc
begun_granted (call.JoinAs name) r t e = absurd cc
begun_granted (call.Push u) r t e = tt
begun_granted call.End r t e = tt
begun_granted (call.Take player want) r t e = tt
begun_granted (call.Leave player) r t e = tt
begun_granted call.Count r t e = tt

push_fits : (c : Call) → OpensFor wish.Push c → begins c ≡ true
push_fits call.Begin h = refl
push_fits (call.BeginAs name) h = refl
push_fits call.Join h = absurd h
push_fits (call.JoinAs name) h = absurd h
push_fits (call.Push u) h = absurd h
push_fits call.End h = absurd h
push_fits (call.Take player want) h = absurd h
push_fits (call.Leave player) h = absurd h
push_fits call.Count h = absurd h

pull_begins : (v : Wish) (c : Call) → (v ≡ wish.Push → ⊥) → OpensFor v c → begins c ≡ false
pull_begins wish.Push c n h = absurd (n refl)
pull_begins wish.Pull call.Begin n h = absurd h
pull_begins wish.Pull (call.BeginAs name) n h = absurd h
pull_begins wish.Pull call.Join n h = refl
pull_begins wish.Pull (call.JoinAs name) n h = refl
pull_begins wish.Pull (call.Push u) n h = absurd h
pull_begins wish.Pull call.End n h = absurd h
pull_begins wish.Pull (call.Take player want) n h = absurd h
pull_begins wish.Pull (call.Leave player) n h = absurd h
pull_begins wish.Pull call.Count n h = absurd h

closed_begins : (c : Call) → opens c ≡ false → begins c ≡ false
closed_begins call.Begin e = absurd cc
closed_begins (call.BeginAs name) e = absurd cc
closed_begins call.Join e = absurd cc
closed_begins (call.JoinAs name) e = absurd cc
closed_begins (call.Push u) e = refl
closed_begins call.End e = refl
closed_begins (call.Take player want) e = refl
closed_begins (call.Leave player) e = refl
closed_begins call.Count e = refl

push_grants : Grants wish.Push is_began begins
push_grants = record {
  alone = λ past e. began_alone past e.who e.call;
  first = λ past e. began_first past e.who e.call;
  granted = begun_granted;
  opens_fits = push_fits;
  others = pull_begins;
  closed = closed_begins;
}

-- ---- a play

abbrev joins : Call → Bool
joins call.Begin = false
joins (call.BeginAs name) = false
joins call.Join = true
joins (call.JoinAs name) = true
joins (call.Push unit) = false
joins call.End = false
joins (call.Take player want) = false
joins (call.Leave player) = false
joins call.Count = false

-- where none was answered that it joined nobody holds a place
pub none_joined : (past : History) → how_many is_joined past ≡ 0 → (q : ℕ) → holder past q ≡ None
none_joined [] e q = refl
none_joined (s ∷ past) e q = by_reply (λ z. none_joined past z q) s.1 e
  where
    by_left : (b : Bool) → holder past q ≡ None → (if b then None else holder past q) ≡ None
    by_left true e = refl
    by_left false e = e

    by_reply : (how_many is_joined past ≡ 0 → holder past q ≡ None) → (r : Reply) → (if is_joined r then 1 else 0) + how_many is_joined past ≡ 0
        → holder_after s.0.who r q (holder past q) ≡ None
    by_reply ih (reply_is.Joined player from) e = absurd (omega (arith, e))
    by_reply ih (reply_is.Left player) e = by_left (player == q) (ih (omega (arith, e)))
    by_reply ih (reply_is.Began n) e = ih (omega (arith, e))
    by_reply ih (reply_is.InUse by) e = ih (omega (arith, e))
    by_reply ih (reply_is.Pushed n) e = ih (omega (arith, e))
    by_reply ih (reply_is.NotPublisher live) e = ih (omega (arith, e))
    by_reply ih (reply_is.Ended n) e = ih (omega (arith, e))
    by_reply ih reply_is.Full e = ih (omega (arith, e))
    by_reply ih (reply_is.NoSlot slots) e = ih (omega (arith, e))
    by_reply ih reply_is.NotPlayer e = ih (omega (arith, e))
    by_reply ih (reply_is.Sent from n item) e = ih (omega (arith, e))
    by_reply ih (reply_is.Skip from to) e = ih (omega (arith, e))
    by_reply ih (reply_is.NotYet end) e = ih (omega (arith, e))
    by_reply ih (reply_is.Counts began pushed ended joined skips) e = ih (omega (arith, e))

some_first : (o : Option ℕ) (n : ℕ) → is_some (first_or o (Some n)) ≡ true
some_first None n = refl
some_first (Some p) n = refl

free_some : (h : ℕ → Option ℕ) → ((q : ℕ) → h q ≡ None) → (n : ℕ) → is_some (free_place h (suc n)) ≡ true
free_some h none n =
    ap (λ (o : Option ℕ). is_some (first_or (free_place h n) (if is_some o then None else Some n))) (none n) ∙ some_first (free_place h n) n

join_first : (from : ℕ) (o : Option ℕ) → is_some o ≡ true → is_joined (join_reply from o) ≡ true
join_first from None e = absurd cc
join_first from (Some p) e = refl

joined_first : (past : History) (who : ℕ) (c : Call) → joins c ≡ true → how_many is_joined past ≡ 0 → is_joined (reply_to limits past who c) ≡ true
joined_first past who call.Join t e =
    join_first (Rattle.stream_model.specs.Window.join limits (items_of past)) (free_place (holder past) limits.players)
    (free_some (holder past) (none_joined past e) 255)
joined_first past who (call.JoinAs name) t e =
    join_first (Rattle.stream_model.specs.Window.join limits (items_of past)) (free_place (holder past) limits.players)
    (free_some (holder past) (none_joined past e) 255)
joined_first past who call.Begin t e = absurd cc
joined_first past who (call.BeginAs name) t e = absurd cc
joined_first past who (call.Push u) t e = absurd cc
joined_first past who call.End t e = absurd cc
joined_first past who (call.Take player want) t e = absurd cc
joined_first past who (call.Leave player) t e = absurd cc
joined_first past who call.Count t e = absurd cc

joined_alone : (past : History) (who : ℕ) (c : Call) → is_joined (reply_to limits past who c) ≡ true → joins c ≡ true
joined_alone past who call.Join e = refl
joined_alone past who (call.JoinAs name) e = refl
joined_alone past who call.Begin e = absurd (by_live (publisher past) e)
  where
    by_live : (o : Option ℕ) → is_joined (begin_reply (length (items_of past)) o) ≡ true → ⊥
    by_live None e = cc
    by_live (Some by) e = cc
joined_alone past who (call.BeginAs name) e = absurd (by_live (publisher past) e)
  where
    by_live : (o : Option ℕ) → is_joined (begin_reply (length (items_of past)) o) ≡ true → ⊥
    by_live None e = cc
    by_live (Some by) e = cc
joined_alone past who (call.Push u) e = absurd (by_test (is_who (publisher past) who) e)
  where
    by_test : (b : Bool) → is_joined (if b then reply_is.Pushed (length (items_of past)) else reply_is.NotPublisher (publisher past)) ≡ true → ⊥
    by_test true e = cc
    by_test false e = cc
joined_alone past who call.End e = absurd (by_test (is_who (publisher past) who) e)
  where
    by_test : (b : Bool) → is_joined (if b then reply_is.Ended (length (items_of past)) else reply_is.NotPublisher (publisher past)) ≡ true → ⊥
    by_test true e = cc
    by_test false e = cc
joined_alone past who (call.Take player want) e =
    absurd (by_test (is_who (holder past player) who) (taken limits (items_of past) (cursor (spell past player)) (sent (spell past player)) want) e)
  where
    by_test : (b : Bool) (t : Taken) → is_joined (if b then reply_of t else reply_is.NotPlayer) ≡ true → ⊥
    by_test true (took.Sent from n item) e = cc
    by_test true (took.Skip from to) e = cc
    by_test true (took.NotYet end) e = cc
    by_test false t e = cc
joined_alone past who (call.Leave player) e = absurd (by_test (is_who (holder past player) who) e)
  where
    by_test : (b : Bool) → is_joined (if b then reply_is.Left player else reply_is.NotPlayer) ≡ true → ⊥
    by_test true e = cc
    by_test false e = cc
joined_alone past who call.Count e = absurd cc

joined_is : (r : Reply) → is_joined r ≡ true → HasJoined r
joined_is (reply_is.Joined player from) e = tt
joined_is (reply_is.Began n) e = absurd cc
joined_is (reply_is.Left player) e = absurd cc
joined_is (reply_is.InUse by) e = absurd cc
joined_is (reply_is.Pushed n) e = absurd cc
joined_is (reply_is.NotPublisher live) e = absurd cc
joined_is (reply_is.Ended n) e = absurd cc
joined_is reply_is.Full e = absurd cc
joined_is (reply_is.NoSlot slots) e = absurd cc
joined_is reply_is.NotPlayer e = absurd cc
joined_is (reply_is.Sent from n item) e = absurd cc
joined_is (reply_is.Skip from to) e = absurd cc
joined_is (reply_is.NotYet end) e = absurd cc
joined_is (reply_is.Counts began pushed ended joined skips) e = absurd cc

joined_granted : (c : Call) (r : Reply) → joins c ≡ true → is_joined r ≡ true → IsGranted c r
joined_granted call.Join r t e = joined_is r e
joined_granted (call.JoinAs name) r t e = joined_is r e
joined_granted call.Begin r t e = absurd cc
joined_granted (call.BeginAs name) r t e = absurd cc
joined_granted (call.Push u) r t e = tt
joined_granted call.End r t e = tt
joined_granted (call.Take player want) r t e = tt
joined_granted (call.Leave player) r t e = tt
joined_granted call.Count r t e = tt

pull_fits : (c : Call) → OpensFor wish.Pull c → joins c ≡ true
pull_fits call.Begin h = absurd h
pull_fits (call.BeginAs name) h = absurd h
pull_fits call.Join h = refl
pull_fits (call.JoinAs name) h = refl
pull_fits (call.Push u) h = absurd h
pull_fits call.End h = absurd h
pull_fits (call.Take player want) h = absurd h
pull_fits (call.Leave player) h = absurd h
pull_fits call.Count h = absurd h

push_joins : (v : Wish) (c : Call) → (v ≡ wish.Pull → ⊥) → OpensFor v c → joins c ≡ false
push_joins wish.Pull c n h = absurd (n refl)
push_joins wish.Push call.Begin n h = refl
push_joins wish.Push (call.BeginAs name) n h = refl
push_joins wish.Push call.Join n h = absurd h
push_joins wish.Push (call.JoinAs name) n h = absurd h
push_joins wish.Push (call.Push u) n h = absurd h
push_joins wish.Push call.End n h = absurd h
push_joins wish.Push (call.Take player want) n h = absurd h
push_joins wish.Push (call.Leave player) n h = absurd h
push_joins wish.Push call.Count n h = absurd h

closed_joins : (c : Call) → opens c ≡ false → joins c ≡ false
closed_joins call.Begin e = absurd cc
closed_joins (call.BeginAs name) e = absurd cc
closed_joins call.Join e = absurd cc
closed_joins (call.JoinAs name) e = absurd cc
closed_joins (call.Push u) e = refl
closed_joins call.End e = refl
closed_joins (call.Take player want) e = refl
closed_joins (call.Leave player) e = refl
closed_joins call.Count e = refl

pull_grants : Grants wish.Pull is_joined joins
pull_grants = record {
  alone = λ past e. joined_alone past e.who e.call;
  first = λ past e. joined_first past e.who e.call;
  granted = joined_granted;
  opens_fits = pull_fits;
  others = push_joins;
  closed = closed_joins;
}

-- ---- both sessions

ruled : (history : List Step) (f : Reply → Bool) (E : List Step) → StandIn shape (reverse E) (reverse history) → AreRuled f (how_many f history) E
ruled history f E s =
    subst (AreRuled f (how_many f history)) (reverse-reverse E)
    (ruled_reverse f (how_many f history) (reverse E)
    (subst (λ (n : ℕ). AreRuled f n (reverse E)) (many_reverse f history) (stand_ruled f (reverse E) (reverse history) s)))

-- A PUBLISHER'S SESSION JOINS NONE, a player's begins none, and joins at most once
pub joins_none : (history C : List Step) (rest : List Entry) → StandIn shape (reverse C) (reverse history) → AreOpened wish.Push (makes C ++ rest)
    → how_many is_joined C ≡ 0
joins_none history C rest s h = others_none wish.Pull is_joined joins pull_grants wish.Push (λ e. cc) (how_many is_joined history) C rest h (ruled history is_joined C s)

pub begins_none : (history C : List Step) (rest : List Entry) → StandIn shape (reverse C) (reverse history) → AreOpened wish.Pull (makes C ++ rest)
    → how_many is_began C ≡ 0
begins_none history C rest s h = others_none wish.Push is_began begins push_grants wish.Pull (λ e. cc) (how_many is_began history) C rest h (ruled history is_began C s)

pub joins_once : (history C : List Step) (rest : List Entry) → StandIn shape (reverse C) (reverse history) → AreOpened wish.Pull (makes C ++ rest)
    → how_many is_joined C ≤ 1
joins_once history C rest s h = few_begin wish.Pull is_joined joins pull_grants (how_many is_joined history) C rest h (ruled history is_joined C s)

module _ (history C D : List Step) (stand : StandIn shape (reverse C) (reverse history)) (others : StandIn shape (reverse D) (reverse history))
    (mixed : (f : Reply → Bool) → how_many f history ≡ how_many f C + how_many f D) where
  granted_by : (w v : Wish) (f : Reply → Bool) (fits : Call → Bool) → Grants w f fits → (v ≡ w → ⊥) → (rest more : List Entry) → AreOpened w (makes C ++ rest)
      → AreOpened v (makes D ++ more) → AreGranted C
  granted_by w v f fits g ne rest more h i =
      let none = others_none w f fits g v ne (how_many f history) D more i (ruled history f D others) in
      one_granted w f fits g (how_many f history) C rest h (ruled history f C stand) (omega (arith, mixed f, none))

  -- THE PUBLISHER'S CALLS ARE GRANTED
  pub push_granted : (rest more : List Entry) → AreOpened wish.Push (makes C ++ rest) → AreOpened wish.Pull (makes D ++ more) → AreGranted C
  push_granted rest more h i = granted_by wish.Push wish.Pull is_began begins push_grants (λ e. cc) rest more h i

  -- AND SO ARE THE PLAYER'S
  pub pull_granted : (rest more : List Entry) → AreOpened wish.Pull (makes C ++ rest) → AreOpened wish.Push (makes D ++ more) → AreGranted C
  pull_granted rest more h i = granted_by wish.Pull wish.Push is_joined joins pull_grants (λ e. cc) rest more h i
