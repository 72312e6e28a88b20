-- Where nobody else publishes, each call of an edge publishes its item
use Rattle.std.proofs.Common.{◌≡◌, ◌==◌, inl, inr, ℕ, Bool, true, false, if◌then◌else◌, List, [], ◌∷◌, ◌++◌, length, Option, Some, None, refl, sym, ap, ◌∙◌}
use Rattle.std.proofs.Common.{subst, append-nil, append_assoc}
use Rattle.std.proofs.lemmas.Bool.{cases_Bool, eq-eqb, eqb-true, false≢true, true≢false}
use Rattle.std.proofs.lemmas.Grind.{fold-append}
use Rattle.av_unit.specs.Media.{Media}
use Rattle.av_unit.specs.declared.item.Item.{Item}
use Rattle.stream_model.specs.declared.calls.Call.{Call}
use Rattle.stream_model.specs.declared.calls.Call.TheVariants as call
use Rattle.stream_model.specs.declared.calls.Entry.{Entry}
use Rattle.stream_model.specs.declared.calls.StreamLimits.{StreamLimits}
use Rattle.stream_model.specs.declared.replies.Reply.{Reply}
use Rattle.stream_model.specs.declared.replies.Reply.TheVariants.{Began, Ended, NotPublisher, Pushed}
use Rattle.stream_model.specs.Answer.{begin_reply, end_reply, is_who, push_reply, reply, reply_to}
use Rattle.stream_model.specs.History.{History, began_by, items_after, items_of, last_began, publisher}
use Rattle.stream_model.specs.Items.{is_live}
use Rattle.stream_model.specs.Items as items
use Rattle.stream_model.specs.Known.{IsLawful}
use Rattle.client_owed.specs.declared.types.Gift.{Gift}
use Rattle.client_owed.specs.declared.types.Gift.TheVariants as gift
use Rattle.origin_calls.specs.Broadcasts.{AreBroadcasts}
use Rattle.origin_calls.specs.Calls.{calls_for, edge_calls, live_after, live_by, live_with, pushes, unit_in}
use Rattle.origin_calls.specs.Relayed.{AreGranted, IsAlone, Serves, calls_by, is_granted, item_for, items_for, publishes}
use Rattle.origin_calls.proofs.Whole.{are_broadcasts}

-- ---- a call among broadcasts

abbrev pub live_call : Call → Bool → Bool
live_call call.Begin live = true
live_call call.End live = false
live_call _ live = live

abbrev pub live_from : Bool → List Call → Bool
live_from live [] = live
live_from live (c ∷ cs) = live_from (live_call c live) cs

live_push : (live : Bool) (cs : List Call) (c : Call) → live_from live (cs ++ c ∷ []) ≡ live_call c (live_from live cs)
live_push live [] c = refl
live_push live (x ∷ cs) c = live_push (live_call x live) cs c

live_joined : (live : Bool) (a b : List Call) → live_from live (a ++ b) ≡ live_from (live_from live a) b
live_joined live [] b = refl
live_joined live (c ∷ a) b = live_joined (live_call c live) a b

live_pushed : (live : Bool) (o : Option Media) → live_from live (pushes live o) ≡ live_with live o
live_pushed live None = refl
live_pushed true (Some u) = refl
live_pushed false (Some u) = refl

live_for : (live : Bool) (g : Gift) → live_from live (calls_for live g) ≡ live_by live g
live_for true gift.Published = refl
live_for false gift.Published = refl
live_for true gift.Unpublished = refl
live_for false gift.Unpublished = refl
live_for live (gift.Tag t) = live_pushed live (unit_in t)

-- whether the calls of an edge leave a broadcast live
pub live_calls : (live : Bool) (gs : List Gift) → live_from live (edge_calls live gs) ≡ live_after live gs
unfolding edge_calls live_after
live_calls live [] = refl
live_calls live (g ∷ gs) =
    live_joined live (calls_for live g) (edge_calls (live_by live g) gs) ∙ ap (λ (b : Bool). live_from b (edge_calls (live_by live g) gs)) (live_for live g)
    ∙ live_calls (live_by live g) gs

abbrev IsNext : Bool → Call → Type 0
IsNext live call.Begin = live ≡ false
IsNext live (call.Push u) = live ≡ true
IsNext live call.End = live ≡ true
IsNext live _ = ⊥

next_here : (live : Bool) (c : Call) (more : List Call) → AreBroadcasts live (c ∷ more) → IsNext live c
next_here live call.Begin more h = h.0
next_here live (call.Push u) more h = h.0
next_here live call.End more h = h.0
next_here live call.Join more h = absurd h
next_here live (call.Take player want) more h = absurd h
next_here live (call.Leave player) more h = absurd h
next_here live call.Count more h = absurd h
next_here live (call.BeginAs name) more h = absurd h
next_here live (call.JoinAs name) more h = absurd h

next_later : (live : Bool) (c : Call) (more : List Call) → AreBroadcasts live (c ∷ more) → AreBroadcasts (live_call c live) more
next_later live call.Begin more h = h.1
next_later live (call.Push u) more h = h.1
next_later live call.End more h = h.1
next_later live call.Join more h = absurd h
next_later live (call.Take player want) more h = absurd h
next_later live (call.Leave player) more h = absurd h
next_later live call.Count more h = absurd h
next_later live (call.BeginAs name) more h = absurd h
next_later live (call.JoinAs name) more h = absurd h

next_at : (live : Bool) (cs : List Call) (c : Call) (more : List Call) → AreBroadcasts live (cs ++ c ∷ more) → IsNext (live_from live cs) c
next_at live [] c more h = next_here live c more h
next_at live (x ∷ cs) c more h = next_at (live_call x live) cs c more (next_later live x (cs ++ c ∷ more) h)

-- ---- what an item does

items_push : (cs : List Call) (c : Call) → items_for (cs ++ c ∷ []) ≡ items_for cs ++ item_for c ∷ []
unfolding items_for
items_push [] c = refl
items_push (x ∷ cs) c = ap (λ (l : List Item). item_for x ∷ l) (items_push cs c)

is_live_push : (xs : List Item) (x : Item) → is_live (xs ++ x ∷ []) ≡ items.live_after (is_live xs) x
is_live_push xs x = fold-append items.live_after false xs (x ∷ [])

live_item : (live now : Bool) (c : Call) → IsNext live c → items.live_after now (item_for c) ≡ live_call c now
live_item live now call.Begin h = refl
live_item live now (call.Push u) h = refl
live_item live now call.End h = refl
live_item live now call.Join h = absurd h
live_item live now (call.Take player want) h = absurd h
live_item live now (call.Leave player) h = absurd h
live_item live now call.Count h = absurd h
live_item live now (call.BeginAs name) h = absurd h
live_item live now (call.JoinAs name) h = absurd h

-- ---- the edge's own call

-- what stands: the items, whose last began, and the calls
record StandsBy (who : ℕ) (xs : List Item) (last : Option ℕ) (cs : List Call) : Type 0 where
  published : xs ≡ items_for cs
  live : is_live xs ≡ live_from false cs
  last_is : is_live xs ≡ true → last ≡ Some who

-- what a call of its own adds
record AddsOwn (who w : ℕ) (past : History) (c : Call) (r : Reply) : Type 0 where
  adds : items_after c r (items_of past) ≡ items_of past ++ item_for c ∷ []
  granted : is_granted c r ≡ true
  last_is : live_call c (is_live (items_of past)) ≡ true → began_by w r (last_began past) ≡ Some who

nobody : (past : History) → is_live (items_of past) ≡ false → publisher past ≡ None
nobody past e = ap (λ (b : Bool). if b then last_began past else None) e

somebody : (past : History) (who : ℕ) → is_live (items_of past) ≡ true → last_began past ≡ Some who → publisher past ≡ Some who
somebody past who e l = ap (λ (b : Bool). if b then last_began past else None) e ∙ l

own_name : (who w : ℕ) → w ≡ who → is_who (Some who) w ≡ true
own_name who w e = eq-eqb who w (sym e)

adds_by : (who w : ℕ) (past : History) (c : Call) (r q : Reply) → r ≡ q → AddsOwn who w past c q → AddsOwn who w past c r
adds_by who w past c r q e a = subst (AddsOwn who w past c) (sym e) a

adds_own : (limits : StreamLimits) (who w : ℕ) (past : History) (cs : List Call) (c : Call) (r : Reply) → w ≡ who → r ≡ reply_to limits past w c
    → StandsBy who (items_of past) (last_began past) cs → IsNext (live_from false cs) c → AddsOwn who w past c r
adds_own limits who w past cs call.Begin r e f s n =
    let now : r ≡ Began (length (items_of past)) = f ∙ ap (begin_reply (length (items_of past))) (nobody past (s.live ∙ n)) in
    adds_by who w past call.Begin r (Began (length (items_of past))) now (record { adds = refl; granted = refl; last_is = λ h. ap Some e })
adds_own limits who w past cs (call.Push u) r e f s n =
    let lives : is_live (items_of past) ≡ true = s.live ∙ n in
    let now : r ≡ Pushed (length (items_of past)) =
    f ∙ ap (λ (o : Option ℕ). push_reply (length (items_of past)) o w) (somebody past who lives (s.last_is lives))
    ∙ ap (λ (b : Bool). if b then Pushed (length (items_of past)) else NotPublisher (Some who)) (own_name who w e) in
    adds_by who w past (call.Push u) r (Pushed (length (items_of past))) now (record { adds = refl; granted = refl; last_is = s.last_is })
adds_own limits who w past cs call.End r e f s n =
    let lives : is_live (items_of past) ≡ true = s.live ∙ n in
    let now : r ≡ Ended (length (items_of past)) =
    f ∙ ap (λ (o : Option ℕ). end_reply (length (items_of past)) o w) (somebody past who lives (s.last_is lives))
    ∙ ap (λ (b : Bool). if b then Ended (length (items_of past)) else NotPublisher (Some who)) (own_name who w e) in
    adds_by who w past call.End r (Ended (length (items_of past))) now (record { adds = refl; granted = refl; last_is = λ h. absurd (false≢true h) })
adds_own limits who w past cs call.Join r e f s n = absurd n
adds_own limits who w past cs (call.Take player want) r e f s n = absurd n
adds_own limits who w past cs (call.Leave player) r e f s n = absurd n
adds_own limits who w past cs call.Count r e f s n = absurd n
adds_own limits who w past cs (call.BeginAs name) r e f s n = absurd n
adds_own limits who w past cs (call.JoinAs name) r e f s n = absurd n

stands_own : (who w : ℕ) (past : History) (cs : List Call) (c : Call) (r : Reply) → StandsBy who (items_of past) (last_began past) cs
    → IsNext (live_from false cs) c → AddsOwn who w past c r
    → StandsBy who (items_after c r (items_of past)) (began_by w r (last_began past)) (cs ++ c ∷ [])
stands_own who w past cs c r s n a =
    let now : is_live (items_after c r (items_of past)) ≡ live_call c (is_live (items_of past)) =
    ap is_live a.adds ∙ is_live_push (items_of past) (item_for c) ∙ live_item (live_from false cs) (is_live (items_of past)) c n in
    record {
      published = a.adds ∙ ap (λ (l : List Item). l ++ item_for c ∷ []) s.published ∙ sym (items_push cs c);
      live = now ∙ ap (live_call c) s.live ∙ sym (live_push false cs c);
      last_is = λ h. a.last_is (sym now ∙ h);
    }

-- ---- another's call

adds_nothing : (c : Call) (r : Reply) (xs : List Item) → publishes r ≡ false → items_after c r xs ≡ xs
adds_nothing c (Began n) xs e = absurd (true≢false e)
adds_nothing c (Pushed n) xs e = absurd (true≢false e)
adds_nothing c (Ended n) xs e = absurd (true≢false e)
adds_nothing c _ xs e = refl

begins_nothing : (w : ℕ) (r : Reply) (last : Option ℕ) → publishes r ≡ false → began_by w r last ≡ last
begins_nothing w (Began n) last e = absurd (true≢false e)
begins_nothing w _ last e = refl

not_published : (w who : ℕ) (r : Reply) → (w == who) ≡ false → (publishes r ≡ true → w ≡ who) → publishes r ≡ false
not_published w who r e h = elim (cases_Bool (publishes r)) [
  | inl f ↦ absurd (false≢true (sym e ∙ eq-eqb w who (h f)))
  | inr f ↦ f
]

stands_other : (who w : ℕ) (past : History) (cs : List Call) (c : Call) (r : Reply) → StandsBy who (items_of past) (last_began past) cs → publishes r ≡ false
    → StandsBy who (items_after c r (items_of past)) (began_by w r (last_began past)) cs
stands_other who w past cs c r s e =
    let same = adds_nothing c r (items_of past) e in
    record {
      published = same ∙ s.published;
      live = ap is_live same ∙ s.live;
      last_is = λ h. begins_nothing w r (last_began past) e ∙ s.last_is (sym (ap is_live same) ∙ h);
    }

-- ---- all of them

abbrev own_call : Bool → Call → List Call
own_call b c = if b then c ∷ [] else []

step_by : (limits : StreamLimits) (who : ℕ) (past : History) (e : Entry) (r : Reply) (cs rest : List Call) (b : Bool) → (e.who == who) ≡ b
    → r ≡ reply limits past e → (publishes r ≡ true → e.who ≡ who)
    → StandsBy who (items_of past) (last_began past) cs → AreBroadcasts false ((cs ++ own_call b e.call) ++ rest)
    → StandsBy who (items_after e.call r (items_of past)) (began_by e.who r (last_began past)) (cs ++ own_call b e.call)
step_by limits who past e r cs rest true is f alone s h =
    let n = next_at false cs e.call rest (subst (AreBroadcasts false) (append_assoc cs (e.call ∷ []) rest) h) in
    stands_own who e.who past cs e.call r s n (adds_own limits who e.who past cs e.call r (eqb-true e.who who is) f s n)
step_by limits who past e r cs rest false is f alone s h =
    subst (λ (l : List Call). StandsBy who (items_after e.call r (items_of past)) (began_by e.who r (last_began past)) l) (sym (append-nil cs))
    (stands_other who e.who past cs e.call r s (not_published e.who who r is alone))

stands : (limits : StreamLimits) (who : ℕ) (past : History) (rest : List Call) → IsLawful limits past → IsAlone who past
    → AreBroadcasts false (calls_by who past ++ rest)
    → StandsBy who (items_of past) (last_began past) (calls_by who past)
unfolding items_for
stands limits who [] rest l a h = record { published = refl; live = refl; last_is = λ e. absurd (false≢true e) }
stands limits who (s ∷ past) rest l a h =
    let mine : List Call = own_call (s.0.who == who) s.0.call in
    let before = stands limits who past (mine ++ rest) l.1 a.1 (subst (AreBroadcasts false) (append_assoc (calls_by who past) mine rest) h) in
    step_by limits who past s.0 s.1 (calls_by who past) rest (s.0.who == who) refl l.0 a.0 before h

-- each of its calls was granted
granted_by : (limits : StreamLimits) (who : ℕ) (past : History) (rest : List Call) → IsLawful limits past → IsAlone who past
    → AreBroadcasts false (calls_by who past ++ rest) → AreGranted who past
granted_by limits who [] rest l a h = tt
granted_by limits who (s ∷ past) rest l a h =
    let mine : List Call = own_call (s.0.who == who) s.0.call in
    let all : AreBroadcasts false (calls_by who past ++ (mine ++ rest)) = subst (AreBroadcasts false) (append_assoc (calls_by who past) mine rest) h in
    let before = stands limits who past (mine ++ rest) l.1 a.1 all in (
      λ e. (
          let here : AreBroadcasts false (calls_by who past ++ s.0.call ∷ rest) =
          subst (λ (b : Bool). AreBroadcasts false (calls_by who past ++ (own_call b s.0.call ++ rest))) (eq-eqb s.0.who who e) all in
          (adds_own limits who s.0.who past (calls_by who past) s.0.call s.1 e l.0 before (next_at false (calls_by who past) s.0.call rest here)).granted),
      granted_by limits who past (mine ++ rest) l.1 a.1 all,
    )

pub are_granted : (who : ℕ) (gs : List Gift) (limits : StreamLimits) (past : History) → Serves who gs limits past → AreGranted who past
are_granted who gs limits past s = granted_by limits who past s.more s.lawful s.alone (subst (AreBroadcasts false) (sym s.own) (are_broadcasts false gs))

-- WHAT IS PUBLISHED is the items of the edge's calls
pub are_items : (who : ℕ) (gs : List Gift) (limits : StreamLimits) (past : History) → Serves who gs limits past → items_of past ≡ items_for (calls_by who past)
are_items who gs limits past s = (stands limits who past s.more s.lawful s.alone (subst (AreBroadcasts false) (sym s.own) (are_broadcasts false gs))).published
