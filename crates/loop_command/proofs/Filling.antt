-- Where a publisher's calls alone bring a stream items, each of its Pushes does
use Rattle.std.proofs.Common.{◌≡◌, inl, inr, ℕ, ◌+◌, ◌≤◌, Bool, true, false, ◌==◌, if◌then◌else◌, List, [], ◌∷◌, ◌++◌, length, reverse, Option, Some, None, refl, sym, ap, ◌∙◌, subst, arith, append-nil, append_assoc}
use Rattle.std.proofs.lemmas.Bool.{eqb-false}
use Rattle.std.proofs.lemmas.List.{reverse-append}
use Rattle.av_unit.specs.Media.{Media}
use Rattle.av_unit.specs.declared.item.Item.{Item}
use Rattle.av_unit.specs.declared.item.Item.TheVariants as item
use Rattle.relay_session.specs.SeatVisits.{StandIn}
use Rattle.session_owed.specs.Published.{unit_of}
use Rattle.session_owed.specs.Talk.{is_take, makes}
use Rattle.stream_model.proofs.Pushes.{is_live-push}
use Rattle.stream_model.specs.Answer.{begin_reply, is_who, push_reply, reply, reply_to}
use Rattle.stream_model.specs.Counts.{how_many}
use Rattle.stream_model.specs.History.{History, began_by, items_after, items_of, last_began, publisher}
use Rattle.stream_model.specs.Items.{is_live}
use Rattle.stream_model.specs.declared.calls.Call.{Call}
use Rattle.stream_model.specs.declared.calls.Call.TheVariants as call
use Rattle.stream_model.specs.declared.calls.Entry.{Entry}
use Rattle.stream_model.specs.declared.replies.Reply.{Reply}
use Rattle.stream_model.specs.declared.replies.Reply.TheVariants as reply_is
use Rattle.stream_registry.specs.Told.{Step}
use Rattle.loop_command.specs.Desk.{limits, shape}
use Rattle.loop_command.specs.Looped.{AreAmong, units_in}
use Rattle.loop_command.proofs.Among.{units_join}
use Rattle.loop_command.proofs.Back.{reversed}
use Rattle.loop_command.proofs.Opening.{AreOpen, Fits, is_open, open_after}
use Rattle.loop_command.proofs.Owned.{AreBy, BeganBy, adds, few_stand, is_item, join_brings, last_own, leave_brings, not_began, not_item, one_of, pushes, take_brings, who_began}

-- ---- the publisher after a call

abbrev after : ℕ → Call → Reply → History → Option ℕ
after who c r past = if is_live (items_after c r (items_of past)) then began_by who r (last_began past) else None

-- one that brings no item changes nothing
stays : (who : ℕ) (c : Call) (r : Reply) (past : History) → is_item r ≡ false → after who c r past ≡ publisher past
stays who c r past e =
    ap (λ (i : List Item). if is_live i then began_by who r (last_began past) else None) (not_item c r (items_of past) e)
    ∙ ap (λ (o : Option ℕ). if is_live (items_of past) then o else None) (not_began who r (last_began past) e)

module _ (w who : ℕ) (own : who ≡ w) (past : List Step) (began : BeganBy w past) where
  abbrev IsLive : Call → Reply → Type 0
  IsLive c r = after who c r past ≡ Some w

  begin_live : (c : Call) (n : ℕ) (o : Option ℕ) → publisher past ≡ o → IsLive c (begin_reply n o)
  begin_live c n None e = ap (λ (b : Bool). if b then Some who else None) (is_live-push (items_of past) item.Begin) ∙ ap Some own
  begin_live c n (Some by) e = e ∙ ap Some (who_began w by past began e)

  push_live : (u : _) (n : ℕ) (b : Bool) → after who (call.Push u) (if b then reply_is.Pushed n else reply_is.NotPublisher (publisher past)) past ≡ publisher past
  push_live u n true = ap (λ (b : Bool). if b then last_began past else None) (is_live-push (items_of past) (item.Unit u))
  push_live u n false = refl

  -- where its last Begin has no End behind it, it publishes
  call_live : (c : Call) (o : Bool) → open_after c o ≡ true → (o ≡ true → publisher past ≡ Some w) → IsLive c (reply_to limits past who c)
  call_live call.Begin o e h = begin_live call.Begin (length (items_of past)) (publisher past) refl
  call_live (call.BeginAs name) o e h = begin_live (call.BeginAs name) (length (items_of past)) (publisher past) refl
  call_live (call.Push u) o e h = push_live u (length (items_of past)) (is_who (publisher past) who) ∙ h e
  call_live call.End o e h = absurd cc
  call_live call.Join o e h = stays who call.Join (reply_to limits past who call.Join) past (join_brings past) ∙ h e
  call_live (call.JoinAs name) o e h = stays who (call.JoinAs name) (reply_to limits past who (call.JoinAs name)) past (join_brings past) ∙ h e
  call_live (call.Take player want) o e h = stays who (call.Take player want) (reply_to limits past who (call.Take player want)) past (take_brings past who player want) ∙ h e
  call_live (call.Leave player) o e h = stays who (call.Leave player) (reply_to limits past who (call.Leave player)) past (leave_brings past who player) ∙ h e
  call_live call.Count o e h = h e

-- ---- calls that are no Takes

take_is : (c : Call) → is_take c ≡ true → (past : History) (who : ℕ) → is_item (reply_to limits past who c) ≡ false
take_is (call.Take player want) e past who = take_brings past who player want
take_is call.Begin e past who = absurd cc
take_is (call.BeginAs name) e past who = absurd cc
take_is (call.Push u) e past who = absurd cc
take_is call.End e past who = absurd cc
take_is call.Join e past who = absurd cc
take_is (call.JoinAs name) e past who = absurd cc
take_is (call.Leave player) e past who = absurd cc
take_is call.Count e past who = absurd cc

makes_one : (c : Step) (P : List Step) (b : Bool) → is_take c.0.call ≡ b → makes (c ∷ P) ≡ (if b then makes P else c.0 ∷ makes P)
unfolding makes
makes_one c P b e = ap (λ (x : Bool). if x then makes P else c.0 ∷ makes P) e

none_open : is_open (makes []) ≡ true → ⊥
unfolding makes
none_open e = cc

-- THE PUBLISHER, where its last Begin has no End behind it
pub live_still : (w : ℕ) (P past : List Step) → StandIn shape P past → how_many is_item past ≤ how_many is_item P → BeganBy w past → AreBy w P
    → is_open (makes P) ≡ true → publisher past ≡ Some w
live_still w [] past s l b a o = absurd (none_open o)
live_still w (m ∷ P) [] s l b a o = absurd s
live_still w (m ∷ P) (x ∷ past) (inr s) l b a o =
    stays x.0.who x.0.call x.1 past (one_of (is_item x.1) (how_many is_item past) (how_many is_item (m ∷ P)) l (few_stand is_item (m ∷ P) past s))
    ∙ live_still w (m ∷ P) past s (omega (arith, l)) b.1 a o
live_still w (m ∷ P) (x ∷ past) (inl s) l b a o =
    ap (λ (y : Step). after y.0.who y.0.call y.1 past) (sym s.0) ∙ ap (λ (r : Reply). after m.0.who m.0.call r past) s.1
    ∙ by_take (λ q. live_still w P past s.2 (omega (arith, l, ap {B = ℕ} (λ (y : Step). if is_item y.1 then 1 else 0) s.0)) b.1 a.1 q) (is_take m.0.call) refl
  where
    by_take : (is_open (makes P) ≡ true → publisher past ≡ Some w) → (t : Bool) → is_take m.0.call ≡ t
        → after m.0.who m.0.call (reply_to limits past m.0.who m.0.call) past ≡ Some w
    by_take ih true t =
        stays m.0.who m.0.call (reply_to limits past m.0.who m.0.call) past (take_is m.0.call t past m.0.who)
        ∙ ih (sym (ap is_open (makes_one m P true t)) ∙ o)
    by_take ih false t =
        call_live w m.0.who (a.0 t) past b.1 m.0.call (is_open (makes P)) (sym (ap is_open (makes_one m P false t)) ∙ o) ih

-- ---- its units

among_none : (l : List Media) → AreAmong l [] → l ≡ []
among_none [] a = refl
among_none (u ∷ l) a = absurd a

-- a call that is no Push brings no unit
no_unit : (c : Call) (r : Reply) (items : List Item) → unit_of c ≡ [] → units_in (items_after c r items) ≡ units_in items ++ unit_of c
no_unit c r items e =
    let a = adds c r items in
    a.are ∙ ap (λ (l : List Media). units_in items ++ l) (among_none a.units (subst (AreAmong a.units) e a.own) ∙ sym e)

pushed_so : (w who n : ℕ) (o : Option ℕ) → o ≡ Some w → who ≡ w → push_reply n o who ≡ reply_is.Pushed n
pushed_so w who n o e f =
    ap (λ (x : Option ℕ). push_reply n x who) e ∙ ap (λ (b : Bool). if b then reply_is.Pushed n else reply_is.NotPublisher (Some w)) (same (w == who) refl)
  where
    same : (b : Bool) → (w == who) ≡ b → b ≡ true
    same true t = refl
    same false t = absurd (eqb-false w who t (sym f))

unit_pushed : (w who : ℕ) (c : Call) (r : Reply) (past : History) (o : Bool) (items : List Item) → r ≡ reply_to limits past who c → who ≡ w → Fits c o
    → (o ≡ true → publisher past ≡ Some w) → units_in (items_after c r items) ≡ units_in items ++ unit_of c
unit_pushed w who (call.Push u) r past o items law own f h =
    ap (λ (x : Reply). units_in (items_after (call.Push u) x items))
    (law ∙ pushed_so w who (length (items_of past)) (publisher past) (h f) own) ∙ units_join items (item.Unit u ∷ [])
unit_pushed w who call.Begin r past o items law own f h = no_unit call.Begin r items refl
unit_pushed w who (call.BeginAs name) r past o items law own f h = no_unit (call.BeginAs name) r items refl
unit_pushed w who call.End r past o items law own f h = no_unit call.End r items refl
unit_pushed w who call.Join r past o items law own f h = no_unit call.Join r items refl
unit_pushed w who (call.JoinAs name) r past o items law own f h = no_unit (call.JoinAs name) r items refl
unit_pushed w who (call.Take player want) r past o items law own f h = no_unit (call.Take player want) r items refl
unit_pushed w who (call.Leave player) r past o items law own f h = no_unit (call.Leave player) r items refl
unit_pushed w who call.Count r past o items law own f h = no_unit call.Count r items refl

take_no_unit : (c : Call) → is_take c ≡ true → unit_of c ≡ []
take_no_unit (call.Take player want) e = refl
take_no_unit call.Begin e = refl
take_no_unit (call.BeginAs name) e = refl
take_no_unit call.End e = refl
take_no_unit call.Join e = refl
take_no_unit (call.JoinAs name) e = refl
take_no_unit (call.Leave player) e = refl
take_no_unit call.Count e = refl
take_no_unit (call.Push u) e = absurd cc

-- THE UNITS OF THE ITEMS are those of all its Pushes
pub all_pushed : (w : ℕ) (P past : List Step) → StandIn shape P past → how_many is_item past ≤ how_many is_item P → BeganBy w past → AreBy w P
    → AreOpen (makes P) → units_in (items_of P) ≡ pushes P
all_pushed w [] past s l b a o = refl
all_pushed w (m ∷ P) [] s l b a o = absurd s
all_pushed w (m ∷ P) (x ∷ past) (inr s) l b a o = all_pushed w (m ∷ P) past s (omega (arith, l)) b.1 a o
all_pushed w (m ∷ P) (x ∷ past) (inl s) l b a o =
    by_take (all_pushed w P past s.2 fewer b.1 a.1) (is_take m.0.call) refl
  where
    fewer : how_many is_item past ≤ how_many is_item P
    fewer = omega (arith, l, ap {B = ℕ} (λ (y : Step). if is_item y.1 then 1 else 0) s.0)

    by_take : (AreOpen (makes P) → units_in (items_of P) ≡ pushes P) → (t : Bool) → is_take m.0.call ≡ t
        → units_in (items_after m.0.call m.1 (items_of P)) ≡ pushes P ++ unit_of m.0.call
    by_take ih true t =
        no_unit m.0.call m.1 (items_of P) (take_no_unit m.0.call t)
        ∙ ap (λ (l : List Media). l ++ unit_of m.0.call) (ih (subst AreOpen (makes_one m P true t) o))
    by_take ih false t =
        let inside : AreOpen (m.0 ∷ makes P) = subst AreOpen (makes_one m P false t) o in
        unit_pushed w m.0.who m.0.call m.1 past (is_open (makes P)) (items_of P) s.1 (a.0 t) inside.0 (live_still w P past s.2 fewer b.1 a.1)
        ∙ ap (λ (l : List Media). l ++ unit_of m.0.call) (ih inside.1)

-- ---- the other order

makes_join : (a b : List Step) → makes (a ++ b) ≡ makes a ++ makes b
unfolding makes
makes_join [] b = refl
makes_join (c ∷ a) b = by_take (makes_join a b) (is_take c.0.call)
  where
    by_take : makes (a ++ b) ≡ makes a ++ makes b → (t : Bool)
        → (if t then makes (a ++ b) else c.0 ∷ makes (a ++ b)) ≡ (if t then makes a else c.0 ∷ makes a) ++ makes b
    by_take ih true = ih
    by_take ih false = ap (λ (l : List Entry). c.0 ∷ l) ih

one_made : (c : Step) → reverse (makes (c ∷ [])) ≡ makes (c ∷ [])
unfolding makes
one_made c = by_take (is_take c.0.call)
  where
    by_take : (t : Bool) → reverse (if t then makes [] else c.0 ∷ makes []) ≡ (if t then makes [] else c.0 ∷ makes [])
    by_take true = refl
    by_take false = refl

none_made : reverse (makes []) ≡ makes []
unfolding makes
none_made = refl

pub makes_reverse : (C : List Step) → makes (reverse C) ≡ reverse (makes C)
makes_reverse [] = sym none_made
makes_reverse (c ∷ C) =
    ap makes (reversed c C) ∙ makes_join (reverse C) (c ∷ []) ∙ ap (λ (l : List Entry). l ++ makes (c ∷ [])) (makes_reverse C)
    ∙ ap (λ (l : List Entry). reverse (makes C) ++ l) (sym (one_made c)) ∙ sym (reverse-append (makes (c ∷ [])) (makes C))
    ∙ ap reverse (sym (makes_join (c ∷ []) C))
