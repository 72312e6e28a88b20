-- One player's answers stay when the calls of all other players are taken out.
use Rattle.std.proofs.Common.{◌≡◌, ◌==◌, ℕ, zero, suc, ◌<◌, Bool, true, false, if◌then◌else◌, List, [], ◌∷◌, length, None, Some, Option, inl, inr, refl, ap, sym, ◌∙◌, arith}
use Rattle.std.specs.Option.{is_some}
use Rattle.std.proofs.lemmas.Bool.Decides.{eqb_tells}
use Rattle.std.proofs.lemmas.Bool.{false≢true}
use Rattle.av_unit.specs.declared.item.Item.{Item}
use Rattle.av_unit.specs.declared.unit.UnitArc.{UnitArc}
use Rattle.av_unit.specs.declared.head.Want.{Want}
use Rattle.stream_model.specs.declared.calls.StreamLimits.{StreamLimits}
use Rattle.stream_model.specs.declared.calls.Call.{Call}
use Rattle.stream_model.specs.declared.calls.Call.TheVariants as call
use Rattle.stream_model.specs.declared.calls.Entry.{Entry}
use Rattle.stream_model.specs.declared.replies.Reply.{Reply}
use Rattle.stream_model.specs.declared.replies.Reply.TheVariants.{Pushed, NotPublisher, Ended, NotPlayer, Left}
use Rattle.stream_model.specs.declared.replies.Taken.{Taken}
use Rattle.stream_model.specs.declared.replies.Taken.TheVariants.{Sent, Skip, NotYet}
use Rattle.stream_model.specs.Window.{join}
use Rattle.stream_model.specs.Take.{taken}
use Rattle.stream_model.specs.Spell.{spell, cursor, sent, reply_of}
use Rattle.stream_model.specs.History.{History, items_of, items_after, last_began, publisher, holder}
use Rattle.stream_model.specs.Answer.{reply, reply_to, begin_reply, join_reply, free_place, is_who}
use Rattle.stream_model.specs.Known.{IsLawful}
use Rattle.stream_model.specs.Legal.{turns}
use Rattle.stream_law.specs.Alone.{calling, one_if, join_alone, left_alone, call_alone, alone}
use Rattle.stream_law.proofs.Slots.{first_or-some}

-- ---- what the other history has in common with the first

record Same (limits : StreamLimits) (past other : History) (place : ℕ) : Type 0 where
  items : items_of other ≡ items_of past
  began : last_began other ≡ last_began past
  holds : holder other 0 ≡ holder past place
  spells : spell other 0 ≡ spell past place
  turns_are : turns other 0 ≡ turns past place
  lawful : IsLawful limits other

-- ---- the least free place

if_free : (b : Bool) (n p : ℕ) → (if b then None else Some n) ≡ Some p → (b ≡ false) × (n ≡ p)
if_free true n p e = absurd (cc)
if_free false n p e = (refl, cc)

not_some : (o : Option ℕ) → is_some o ≡ false → o ≡ None
not_some None e = refl
not_some (Some n) e = absurd (cc)

free_is : (holders : ℕ → Option ℕ) (n p : ℕ) → free_place holders n ≡ Some p → (holders p ≡ None) × (p < n)
free_is holders zero p e = absurd (cc)
free_is holders (suc n) p e = elim (first_or-some (free_place holders n) (if is_some (holders n) then None else Some n) p e) [
  | inl h ↦ let k = free_is holders n p h in let lt = k.1 in (k.0, omega arith)
  | inr h ↦
      let k = if_free (is_some (holders n)) n p h.1 in
      let same = k.1 in
      (rw same at (not_some (holders n) k.0), omega arith)
]

free_first : (holders : ℕ → Option ℕ) (n : ℕ) → holders 0 ≡ None → free_place holders (suc n) ≡ Some 0
free_first holders zero e = rw e refl
free_first holders (suc n) e = rw (free_first holders n e) refl

free_zero : (holders : ℕ → Option ℕ) (n p : ℕ) → p < n → holders 0 ≡ None → free_place holders n ≡ Some 0
free_zero holders zero p lt e = absurd (omega arith)
free_zero holders (suc n) p lt e = free_first holders n e

is_equal : (p q : ℕ) → (p == q) ≡ true → p ≡ q
is_equal p q e = elim (eqb_tells p q) [ inl k ↦ k.1 | inr k ↦ absurd (false≢true (sym k.0 ∙ e)) ]

module _ (limits : StreamLimits) (past other : History) (place : ℕ) (e : Entry) (h : Same limits past other place) where
  -- one call more in both
  abbrev After : Call → Reply → History → Type 0
  After c r now = Same limits ((calling e c, r) ∷ past) now place

  -- ---- calls that publish

  begin_same : (o : Option ℕ) → begin_reply (length (items_of past)) o ≡ reply limits other (calling e call.Begin) →
      After call.Begin (begin_reply (length (items_of past)) o) ((calling e call.Begin, begin_reply (length (items_of past)) o) ∷ other)
  begin_same None law = record { items = ap (λ (l : List Item). items_after call.Begin (begin_reply (length (items_of past)) None) l) h.items; began = refl; holds = h.holds; spells = h.spells; turns_are = h.turns_are; lawful = (law, h.lawful) }
  begin_same (Some by) law = record { items = h.items; began = h.began; holds = h.holds; spells = h.spells; turns_are = h.turns_are; lawful = (law, h.lawful) }

  begin_as_same : (name : List ℕ) (o : Option ℕ) → begin_reply (length (items_of past)) o ≡ reply limits other (calling e (call.BeginAs name)) →
      After (call.BeginAs name) (begin_reply (length (items_of past)) o) ((calling e (call.BeginAs name), begin_reply (length (items_of past)) o) ∷ other)
  begin_as_same name None law = record { items = ap (λ (l : List Item). items_after (call.BeginAs name) (begin_reply (length (items_of past)) None) l) h.items; began = refl; holds = h.holds; spells = h.spells; turns_are = h.turns_are; lawful = (law, h.lawful) }
  begin_as_same name (Some by) law = record { items = h.items; began = h.began; holds = h.holds; spells = h.spells; turns_are = h.turns_are; lawful = (law, h.lawful) }

  push_same : (u : UnitArc) (n : ℕ) (live : Option ℕ) (b : Bool) → (if b then Pushed n else NotPublisher live) ≡ reply limits other (calling e (call.Push u)) →
      After (call.Push u) (if b then Pushed n else NotPublisher live) ((calling e (call.Push u), (if b then Pushed n else NotPublisher live)) ∷ other)
  push_same u n live true law = record { items = ap (λ (l : List Item). items_after (call.Push u) (Pushed n) l) h.items; began = h.began; holds = h.holds; spells = h.spells; turns_are = h.turns_are; lawful = (law, h.lawful) }
  push_same u n live false law = record { items = h.items; began = h.began; holds = h.holds; spells = h.spells; turns_are = h.turns_are; lawful = (law, h.lawful) }

  end_same : (n : ℕ) (live : Option ℕ) (b : Bool) → (if b then Ended n else NotPublisher live) ≡ reply limits other (calling e call.End) →
      After call.End (if b then Ended n else NotPublisher live) ((calling e call.End, (if b then Ended n else NotPublisher live)) ∷ other)
  end_same n live true law = record { items = ap (λ (l : List Item). items_after call.End (Ended n) l) h.items; began = h.began; holds = h.holds; spells = h.spells; turns_are = h.turns_are; lawful = (law, h.lawful) }
  end_same n live false law = record { items = h.items; began = h.began; holds = h.holds; spells = h.spells; turns_are = h.turns_are; lawful = (law, h.lawful) }

  -- ---- a Join

  joins_zero : (p : ℕ) → (p == place) ≡ true → p ≡ place → free_place (holder past) limits.players ≡ Some p → free_place (holder other) limits.players ≡ Some 0
  joins_zero p t same f =
      let k = free_is (holder past) limits.players p f in
      free_zero (holder other) limits.players p k.1 (h.holds ∙ (rw same at k.0))

  join_same : (o : Option ℕ) → free_place (holder past) limits.players ≡ o →
      After call.Join (join_reply (join limits (items_of past)) o) (join_alone (calling e call.Join) (join_reply (join limits (items_of past)) o) place other)
  join_same None f = record { items = h.items; began = h.began; holds = h.holds; spells = h.spells; turns_are = h.turns_are; lawful = h.lawful }
  join_same (Some p) f = elim (eqb_tells p place) [
    | inl t ↦ rw t.0 (record {
      items = h.items;
      began = h.began;
      holds = rw t.0 refl;
      spells = rw t.0 refl;
      turns_are = rw t.0 refl;
      lawful = (rw (h.items, joins_zero p t.0 t.1 f) refl, h.lawful);
    })
    | inr t ↦ rw t.0 (record { items = h.items; began = h.began; holds = rw t.0 h.holds; spells = rw t.0 h.spells; turns_are = rw t.0 h.turns_are; lawful = h.lawful })
  ]

  join_as_same : (name : List ℕ) (o : Option ℕ) → free_place (holder past) limits.players ≡ o →
      After (call.JoinAs name) (join_reply (join limits (items_of past)) o) (join_alone (calling e (call.JoinAs name)) (join_reply (join limits (items_of past)) o) place other)
  join_as_same name None f = record { items = h.items; began = h.began; holds = h.holds; spells = h.spells; turns_are = h.turns_are; lawful = h.lawful }
  join_as_same name (Some p) f = elim (eqb_tells p place) [
    | inl t ↦ rw t.0 (record {
      items = h.items;
      began = h.began;
      holds = rw t.0 refl;
      spells = rw t.0 refl;
      turns_are = rw t.0 refl;
      lawful = (rw (h.items, joins_zero p t.0 t.1 f) refl, h.lawful);
    })
    | inr t ↦ rw t.0 (record { items = h.items; began = h.began; holds = rw t.0 h.holds; spells = rw t.0 h.spells; turns_are = rw t.0 h.turns_are; lawful = h.lawful })
  ]

  -- ---- a Take

  take_kept : (p : ℕ) (want : Want) (t : Taken) → (p == place) ≡ true → reply_of t ≡ reply limits other (calling e (call.Take 0 want)) →
      After (call.Take p want) (reply_of t) ((calling e (call.Take 0 want), reply_of t) ∷ other)
  take_kept p want (Sent from n x) k law = record { items = h.items; began = h.began; holds = h.holds; spells = rw (k, h.spells) refl; turns_are = rw (k, h.turns_are, h.items) refl; lawful = (law, h.lawful) }
  take_kept p want (Skip from to) k law = record { items = h.items; began = h.began; holds = h.holds; spells = rw (k, h.spells) refl; turns_are = rw (k, h.turns_are, h.items) refl; lawful = (law, h.lawful) }
  take_kept p want (NotYet end) k law = record { items = h.items; began = h.began; holds = h.holds; spells = rw (k, h.spells) refl; turns_are = rw (k, h.turns_are, h.items) refl; lawful = (law, h.lawful) }

  take_dropped : (p : ℕ) (want : Want) (t : Taken) → (p == place) ≡ false → After (call.Take p want) (reply_of t) other
  take_dropped p want (Sent from n x) k = record { items = h.items; began = h.began; holds = h.holds; spells = rw k h.spells; turns_are = rw k h.turns_are; lawful = h.lawful }
  take_dropped p want (Skip from to) k = record { items = h.items; began = h.began; holds = h.holds; spells = rw k h.spells; turns_are = rw k h.turns_are; lawful = h.lawful }
  take_dropped p want (NotYet end) k = record { items = h.items; began = h.began; holds = h.holds; spells = rw k h.spells; turns_are = rw k h.turns_are; lawful = h.lawful }

  take_same : (p : ℕ) (want : Want) (t : Taken) (b : Bool) → ((p == place) ≡ true → (if b then reply_of t else NotPlayer) ≡ reply limits other (calling e (call.Take 0 want))) →
      After (call.Take p want) (if b then reply_of t else NotPlayer) (one_if (p == place) (calling e (call.Take 0 want)) (if b then reply_of t else NotPlayer) other)
  take_same p want t true law = elim (eqb_tells p place) [
    | inl k ↦ rw k.0 (take_kept p want t k.0 (law k.0))
    | inr k ↦ rw k.0 (take_dropped p want t k.0)
  ]
  take_same p want t false law = elim (eqb_tells p place) [
    | inl k ↦ rw k.0 (record { items = h.items; began = h.began; holds = h.holds; spells = rw k.0 h.spells; turns_are = rw k.0 h.turns_are; lawful = (law k.0, h.lawful) })
    | inr k ↦ rw k.0 (record { items = h.items; began = h.began; holds = h.holds; spells = rw k.0 h.spells; turns_are = rw k.0 h.turns_are; lawful = h.lawful })
  ]

  taken_there : (p : ℕ) (want : Want) → p ≡ place →
      reply_to limits past e.who (call.Take p want) ≡ reply limits other (calling e (call.Take 0 want))
  taken_there p want same = rw (same, h.items, h.spells, h.holds) refl

  -- ---- a Leave

  leave_same : (p : ℕ) (b : Bool) → is_who (holder past p) e.who ≡ b →
      After (call.Leave p) (if b then Left p else NotPlayer) (one_if (p == place) (calling e (call.Leave 0)) (left_alone (if b then Left p else NotPlayer)) other)
  leave_same p true w = elim (eqb_tells p place) [
    | inl k ↦ rw k.0 (record { items = h.items; began = h.began; holds = rw k.0 refl; spells = h.spells; turns_are = h.turns_are; lawful = (rw (h.holds, rw k.1 at w) refl, h.lawful) })
    | inr k ↦ rw k.0 (record { items = h.items; began = h.began; holds = rw k.0 h.holds; spells = h.spells; turns_are = h.turns_are; lawful = h.lawful })
  ]
  leave_same p false w = elim (eqb_tells p place) [
    | inl k ↦ rw k.0 (record { items = h.items; began = h.began; holds = h.holds; spells = h.spells; turns_are = h.turns_are; lawful = (rw (h.holds, rw k.1 at w) refl, h.lawful) })
    | inr k ↦ rw k.0 (record { items = h.items; began = h.began; holds = h.holds; spells = h.spells; turns_are = h.turns_are; lawful = h.lawful })
  ]

  -- ---- any call

  call_same : (c : Call) → After c (reply_to limits past e.who c) (call_alone e c (reply_to limits past e.who c) place other)
  call_same call.Begin = begin_same (publisher past) (rw (h.items, h.began) refl)
  call_same (call.BeginAs name) = begin_as_same name (publisher past) (rw (h.items, h.began) refl)
  call_same (call.Push u) = push_same u (length (items_of past)) (publisher past) (is_who (publisher past) e.who) (rw (h.items, h.began) refl)
  call_same call.End = end_same (length (items_of past)) (publisher past) (is_who (publisher past) e.who) (rw (h.items, h.began) refl)
  call_same call.Join = join_same (free_place (holder past) limits.players) refl
  call_same (call.JoinAs name) = join_as_same name (free_place (holder past) limits.players) refl
  call_same (call.Take p want) =
      take_same p want (taken limits (items_of past) (cursor (spell past p)) (sent (spell past p)) want) (is_who (holder past p) e.who)
      (λ t. taken_there p want (is_equal p place t))
  call_same (call.Leave p) = leave_same p (is_who (holder past p) e.who) refl
  call_same call.Count = record { items = h.items; began = h.began; holds = h.holds; spells = h.spells; turns_are = h.turns_are; lawful = h.lawful }

step_same : (limits : StreamLimits) (past : History) (place : ℕ) (e : Entry) (r : Reply) → r ≡ reply limits past e → Same limits past (alone past place) place →
    Same limits ((e, r) ∷ past) (call_alone e e.call r place (alone past place)) place
step_same limits past place e r is h = rw is (call_same limits past (alone past place) place e h e.call)

same : (limits : StreamLimits) (past : History) → IsLawful limits past → (place : ℕ) → Same limits past (alone past place) place
same limits [] lawful place = record { items = refl; began = refl; holds = refl; spells = refl; turns_are = refl; lawful = tt }
same limits (step ∷ past) lawful place = step_same limits past place step.0 step.1 lawful.0 (same limits past lawful.1 place)

pub alone_lawful : (limits : StreamLimits) (past : History) → IsLawful limits past → (place : ℕ) → IsLawful limits (alone past place)
alone_lawful limits past lawful place = (same limits past lawful place).lawful

pub alone_items : (limits : StreamLimits) (past : History) → IsLawful limits past → (place : ℕ) → items_of (alone past place) ≡ items_of past
alone_items limits past lawful place = (same limits past lawful place).items

pub alone_holder : (limits : StreamLimits) (past : History) → IsLawful limits past → (place : ℕ) → holder (alone past place) 0 ≡ holder past place
alone_holder limits past lawful place = (same limits past lawful place).holds

pub alone_spell : (limits : StreamLimits) (past : History) → IsLawful limits past → (place : ℕ) → spell (alone past place) 0 ≡ spell past place
alone_spell limits past lawful place = (same limits past lawful place).spells

pub alone_turns : (limits : StreamLimits) (past : History) → IsLawful limits past → (place : ℕ) → turns (alone past place) 0 ≡ turns past place
alone_turns limits past lawful place = (same limits past lawful place).turns_are
