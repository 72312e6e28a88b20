-- The items of a stream are those that its publisher's calls brought
use Rattle.std.proofs.Common.{◌≡◌, inl, inr, ℕ, ◌+◌, ◌≤◌, Bool, true, false, ◌==◌, if◌then◌else◌, List, [], ◌∷◌, ◌++◌, length, Option, Some, None, refl, sym, ap, ◌∙◌, subst, arith, append-nil}
use Rattle.std.proofs.lemmas.Bool.{eqb-true}
use Rattle.av_unit.specs.Media.{Media}
use Rattle.av_unit.specs.declared.head.Want.{Want}
use Rattle.av_unit.specs.declared.item.Item.{Item}
use Rattle.av_unit.specs.declared.item.Item.TheVariants as item
use Rattle.relay_session.specs.SeatVisits.{StandIn}
use Rattle.session_owed.specs.Published.{unit_of}
use Rattle.session_owed.specs.Talk.{is_take}
use Rattle.stream_model.specs.Answer.{begin_reply, end_reply, free_place, is_who, join_reply, push_reply, reply, reply_to}
use Rattle.stream_model.specs.Counts.{how_many, is_began}
use Rattle.stream_model.specs.History.{History, after_push, began_by, holder, items_after, items_of, last_began, publisher}
use Rattle.stream_model.specs.Items.{is_live}
use Rattle.stream_model.specs.Spell.{cursor, reply_of, sent, spell}
use Rattle.stream_model.specs.Take.{taken}
use Rattle.stream_model.specs.Window.{join}
use Rattle.stream_model.specs.declared.calls.Call.{Call}
use Rattle.stream_model.specs.declared.calls.Call.TheVariants as call
use Rattle.stream_model.specs.declared.calls.Entry.{Entry}
use Rattle.stream_model.specs.declared.replies.Reply.{Reply}
use Rattle.stream_model.specs.declared.replies.Reply.TheVariants as reply_is
use Rattle.stream_model.specs.declared.replies.Taken.{Taken}
use Rattle.stream_model.specs.declared.replies.Taken.TheVariants as took
use Rattle.stream_registry.specs.Told.{Step}
use Rattle.loop_command.specs.Desk.{limits, shape}
use Rattle.loop_command.specs.Looped.{AreAmong, units_in}
use Rattle.loop_command.proofs.Among.{among_join, units_join}
use Rattle.loop_command.proofs.Granted.{began_alone, take_closed}

-- ---- of counts

-- whether a reply brings the stream an item
abbrev pub is_item : Reply → Bool
is_item (reply_is.Began n) = true
is_item (reply_is.Pushed n) = true
is_item (reply_is.Ended n) = true
is_item _ = false

pub one_of : (b : Bool) (n k : ℕ) → (if b then 1 else 0) + n ≤ k → k ≤ n → b ≡ false
one_of true n k l m = absurd (omega (arith, l, m))
one_of false n k l m = refl

pub few_stand : (f : Reply → Bool) (P past : List Step) → StandIn shape P past → how_many f P ≤ how_many f past
few_stand f [] past s = omega arith
few_stand f (m ∷ P) [] s = absurd s
few_stand f (m ∷ P) (x ∷ past) (inl s) = omega (arith, ap {B = ℕ} (λ (y : Step). if f y.1 then 1 else 0) s.0, few_stand f P past s.2)
few_stand f (m ∷ P) (x ∷ past) (inr s) = omega (arith, few_stand f (m ∷ P) past s)

-- ---- a reply that brings none changes none

pub not_item : (c : Call) (r : Reply) (items : List Item) → is_item r ≡ false → items_after c r items ≡ items
not_item c (reply_is.Began n) items e = absurd cc
not_item c (reply_is.Pushed n) items e = absurd cc
not_item c (reply_is.Ended n) items e = absurd cc
not_item c (reply_is.InUse by) items e = refl
not_item c (reply_is.NotPublisher live) items e = refl
not_item c (reply_is.Joined player from) items e = refl
not_item c reply_is.Full items e = refl
not_item c (reply_is.NoSlot slots) items e = refl
not_item c reply_is.NotPlayer items e = refl
not_item c (reply_is.Sent from n i) items e = refl
not_item c (reply_is.Skip from to) items e = refl
not_item c (reply_is.NotYet end) items e = refl
not_item c (reply_is.Left player) items e = refl
not_item c (reply_is.Counts began pushed ended joined skips) items e = refl

pub not_began : (who : ℕ) (r : Reply) (o : Option ℕ) → is_item r ≡ false → began_by who r o ≡ o
not_began who (reply_is.Began n) o e = absurd cc
not_began who (reply_is.Pushed n) o e = absurd cc
not_began who (reply_is.Ended n) o e = absurd cc
not_began who (reply_is.InUse by) o e = refl
not_began who (reply_is.NotPublisher live) o e = refl
not_began who (reply_is.Joined player from) o e = refl
not_began who reply_is.Full o e = refl
not_began who (reply_is.NoSlot slots) o e = refl
not_began who reply_is.NotPlayer o e = refl
not_began who (reply_is.Sent from n i) o e = refl
not_began who (reply_is.Skip from to) o e = refl
not_began who (reply_is.NotYet end) o e = refl
not_began who (reply_is.Left player) o e = refl
not_began who (reply_is.Counts began pushed ended joined skips) o e = refl

-- ---- THE ITEMS of a history that has no more such replies than calls of it are those of these calls

pub record SameItems (past P : History) : Type 0 where
  pub items : items_of past ≡ items_of P
  pub began : last_began past ≡ last_began P

one_more : (x : Step) (past P : History) → is_item x.1 ≡ false → SameItems past P → SameItems (x ∷ past) P
one_more x past P e h = record {
  items = not_item x.0.call x.1 (items_of past) e ∙ h.items;
  began = not_began x.0.who x.1 (last_began past) e ∙ h.began;
}

pub same_items : (P past : List Step) → StandIn shape P past → how_many is_item past ≤ how_many is_item P → SameItems past P
same_items [] [] s l = record { items = refl; began = refl }
same_items [] (x ∷ past) s l =
    one_more x past [] (one_of (is_item x.1) (how_many is_item past) 0 l (omega arith)) (same_items [] past tt (omega (arith, l)))
same_items (m ∷ P) [] s l = absurd s
same_items (m ∷ P) (x ∷ past) (inl s) l =
    let h = same_items P past s.2 (omega (arith, l, ap {B = ℕ} (λ (y : Step). if is_item y.1 then 1 else 0) s.0)) in
    record {
      items = ap (items_after x.0.call x.1) h.items ∙ ap (λ (y : Step). items_after y.0.call y.1 (items_of P)) (sym s.0);
      began = ap (began_by x.0.who x.1) h.began ∙ ap (λ (y : Step). began_by y.0.who y.1 (last_began P)) (sym s.0);
    }
same_items (m ∷ P) (x ∷ past) (inr s) l =
    one_more x past (m ∷ P) (one_of (is_item x.1) (how_many is_item past) (how_many is_item (m ∷ P)) l (few_stand is_item (m ∷ P) past s))
    (same_items (m ∷ P) past s (omega (arith, l)))

-- ---- whose calls begin a broadcast

-- all calls by which one has begun are this caller's
abbrev pub BeganBy : ℕ → List Step → Type 0
BeganBy w [] = Unit {0}
BeganBy w (s ∷ past) = (is_began s.1 ≡ true → s.0.who ≡ w) × BeganBy w past

not_both : (b : Bool) → b ≡ true → b ≡ false → ⊥
not_both b e f = cc

pub began_own : (w : ℕ) (P past : List Step) → StandIn shape P past → how_many is_began past ≤ how_many is_began P → BeganBy w P → BeganBy w past
began_own w [] [] s l b = tt
began_own w [] (x ∷ past) s l b =
    (λ t. absurd (not_both (is_began x.1) t (one_of (is_began x.1) (how_many is_began past) 0 l (omega arith))), began_own w [] past tt (omega (arith, l)) tt)
began_own w (m ∷ P) [] s l b = absurd s
began_own w (m ∷ P) (x ∷ past) (inl s) l b = (
  subst (λ (y : Step). is_began y.1 ≡ true → y.0.who ≡ w) s.0 b.0,
  began_own w P past s.2 (omega (arith, l, ap {B = ℕ} (λ (y : Step). if is_began y.1 then 1 else 0) s.0)) b.1,
)
began_own w (m ∷ P) (x ∷ past) (inr s) l b = (
  λ t. absurd (not_both (is_began x.1) t
      (one_of (is_began x.1) (how_many is_began past) (how_many is_began (m ∷ P)) l (few_stand is_began (m ∷ P) past s))),
  began_own w (m ∷ P) past s (omega (arith, l)) b,
)

-- the last that began was this caller's, if there is one
abbrev pub IsNone_or : ℕ → Option ℕ → Type 0
IsNone_or w None = Unit {0}
IsNone_or w (Some v) = v ≡ w

pub last_own : (w : ℕ) (past : List Step) → BeganBy w past → IsNone_or w (last_began past)
last_own w [] b = tt
last_own w (x ∷ past) b = by_reply (last_own w past b.1) x.1 b.0
  where
    by_reply : IsNone_or w (last_began past) → (r : Reply) → (is_began r ≡ true → x.0.who ≡ w) → IsNone_or w (began_by x.0.who r (last_began past))
    by_reply ih (reply_is.Began n) e = e refl
    by_reply ih (reply_is.Pushed n) e = ih
    by_reply ih (reply_is.Ended n) e = ih
    by_reply ih (reply_is.InUse by) e = ih
    by_reply ih (reply_is.NotPublisher live) e = ih
    by_reply ih (reply_is.Joined player from) e = ih
    by_reply ih reply_is.Full e = ih
    by_reply ih (reply_is.NoSlot slots) e = ih
    by_reply ih reply_is.NotPlayer e = ih
    by_reply ih (reply_is.Sent from n i) e = ih
    by_reply ih (reply_is.Skip from to) e = ih
    by_reply ih (reply_is.NotYet end) e = ih
    by_reply ih (reply_is.Left player) e = ih
    by_reply ih (reply_is.Counts began pushed ended joined skips) e = ih

-- ---- another's call brings no item

-- the calls that aren't Takes are this caller's
abbrev pub AreBy : ℕ → List Step → Type 0
AreBy w [] = Unit {0}
AreBy w (c ∷ C) = (is_take c.0.call ≡ false → c.0.who ≡ w) × AreBy w C

-- a Join, a Take and a Leave bring no item
pub join_brings : (past : History) → is_item (join_reply (join limits (items_of past)) (free_place (holder past) limits.players)) ≡ false
join_brings past = by_place (free_place (holder past) limits.players)
  where
    by_place : (o : Option ℕ) → is_item (join_reply (join limits (items_of past)) o) ≡ false
    by_place None = refl
    by_place (Some p) = refl

pub take_brings : (past : History) (who player : ℕ) (want : Want) → is_item (reply_to limits past who (call.Take player want)) ≡ false
take_brings past who player want =
    by_test (is_who (holder past player) who) (taken limits (items_of past) (cursor (spell past player)) (sent (spell past player)) want)
  where
    by_test : (b : Bool) (t : Taken) → is_item (if b then reply_of t else reply_is.NotPlayer) ≡ false
    by_test true (took.Sent from n i) = refl
    by_test true (took.Skip from to) = refl
    by_test true (took.NotYet end) = refl
    by_test false t = refl

pub leave_brings : (past : History) (who player : ℕ) → is_item (reply_to limits past who (call.Leave player)) ≡ false
leave_brings past who player = by_test (is_who (holder past player) who)
  where
    by_test : (b : Bool) → is_item (if b then reply_is.Left player else reply_is.NotPlayer) ≡ false
    by_test true = refl
    by_test false = refl

abbrev Published : History → ℕ → Call → Type 0
Published past who c = (is_take c ≡ false) × (is_who (publisher past) who ≡ true)

published_alone : (past : History) (who : ℕ) (c : Call) → is_item (reply_to limits past who c) ≡ true → is_began (reply_to limits past who c) ≡ false → Published past who c
published_alone past who call.Begin e n = absurd (by_live (publisher past) e n)
  where
    by_live : (o : Option ℕ) → is_item (begin_reply (length (items_of past)) o) ≡ true → is_began (begin_reply (length (items_of past)) o) ≡ false → ⊥
    by_live None e n = cc
    by_live (Some by) e n = cc
published_alone past who (call.BeginAs name) e n = absurd (by_live (publisher past) e n)
  where
    by_live : (o : Option ℕ) → is_item (begin_reply (length (items_of past)) o) ≡ true → is_began (begin_reply (length (items_of past)) o) ≡ false → ⊥
    by_live None e n = cc
    by_live (Some by) e n = cc
published_alone past who (call.Push u) e n = by_test (is_who (publisher past) who) refl e
  where
    by_test : (b : Bool) → is_who (publisher past) who ≡ b → is_item (if b then reply_is.Pushed (length (items_of past)) else reply_is.NotPublisher (publisher past)) ≡ true
        → Published past who (call.Push u)
    by_test true t e = (refl, t)
    by_test false t e = absurd cc
published_alone past who call.End e n = by_test (is_who (publisher past) who) refl e
  where
    by_test : (b : Bool) → is_who (publisher past) who ≡ b → is_item (if b then reply_is.Ended (length (items_of past)) else reply_is.NotPublisher (publisher past)) ≡ true
        → Published past who call.End
    by_test true t e = (refl, t)
    by_test false t e = absurd cc
published_alone past who call.Join e n = absurd (not_both _ e (join_brings past))
published_alone past who (call.JoinAs name) e n = absurd (not_both _ e (join_brings past))
published_alone past who (call.Take player want) e n = absurd (not_both _ e (take_brings past who player want))
published_alone past who (call.Leave player) e n = absurd (not_both _ e (leave_brings past who player))
published_alone past who call.Count e n = absurd cc

-- the publisher of a stream where all began by one caller is that caller
pub who_began : (w v : ℕ) (past : List Step) → BeganBy w past → publisher past ≡ Some v → v ≡ w
who_began w v past b e = by_live (is_live (items_of past)) e
  where
    by_last : (o : Option ℕ) → IsNone_or w o → o ≡ Some v → v ≡ w
    by_last None h e = absurd (let f : None ≡ Some v = e in cc)
    by_last (Some x) h e = let f : x ≡ v = cc in sym f ∙ h

    by_live : (l : Bool) → (if l then last_began past else None) ≡ Some v → v ≡ w
    by_live true e = by_last (last_began past) (last_own w past b) e
    by_live false e = absurd (let f : None ≡ Some v = e in cc)

who_is : (w who : ℕ) (past : List Step) → BeganBy w past → is_who (publisher past) who ≡ true → who ≡ w
who_is w who past b e = by_live (is_live (items_of past)) e
  where
    by_last : (o : Option ℕ) → IsNone_or w o → is_who o who ≡ true → who ≡ w
    by_last None h e = absurd cc
    by_last (Some v) h e = sym (eqb-true v who e) ∙ h

    by_live : (l : Bool) → is_who (if l then last_began past else None) who ≡ true → who ≡ w
    by_live true e = by_last (last_began past) (last_own w past b) e
    by_live false e = absurd cc

other_not : (w v : ℕ) (c : Step) (past : List Step) → c.1 ≡ reply limits past c.0 → BeganBy w past → (is_take c.0.call ≡ false → c.0.who ≡ v) → (v ≡ w → ⊥)
    → is_began c.1 ≡ false → is_item c.1 ≡ false
other_not w v c past r b own ne n = by_item (is_item c.1) refl
  where
    by_item : (x : Bool) → is_item c.1 ≡ x → x ≡ false
    by_item true e =
        let p = published_alone past c.0.who c.0.call (sym (ap is_item r) ∙ e) (sym (ap is_began r) ∙ n) in
        absurd (ne (sym (own p.0) ∙ who_is w c.0.who past b p.1))
    by_item false e = refl

none_of : (b : Bool) (n : ℕ) → (if b then 1 else 0) + n ≡ 0 → (b ≡ false) × (n ≡ 0)
none_of true n e = absurd (omega (arith, e))
none_of false n e = (refl, omega (arith, e))

count_none : (b : Bool) (n : ℕ) → b ≡ false → n ≡ 0 → (if b then 1 else 0) + n ≡ 0
count_none true n e m = absurd cc
count_none false n e m = omega (arith, m)

pub others_bring_none : (w v : ℕ) (Q past : List Step) → StandIn shape Q past → BeganBy w past → AreBy v Q → (v ≡ w → ⊥) → how_many is_began Q ≡ 0 → how_many is_item Q ≡ 0
others_bring_none w v [] past s b q ne n = refl
others_bring_none w v (c ∷ Q) [] s b q ne n = absurd s
others_bring_none w v (c ∷ Q) (x ∷ past) (inl s) b q ne n =
    let o = none_of (is_began c.1) (how_many is_began Q) n in
    count_none (is_item c.1) (how_many is_item Q) (other_not w v c past s.1 b.1 q.0 ne o.0) (others_bring_none w v Q past s.2 b.1 q.1 ne o.1)
others_bring_none w v (c ∷ Q) (x ∷ past) (inr s) b q ne n = others_bring_none w v (c ∷ Q) past s b.1 q ne n

-- ---- its own

began_no_take : (c : Call) (past : History) (who : ℕ) → is_began (reply_to limits past who c) ≡ true → is_take c ≡ false
began_no_take call.Begin past who e = refl
began_no_take (call.BeginAs name) past who e = refl
began_no_take call.Join past who e = refl
began_no_take (call.JoinAs name) past who e = refl
began_no_take (call.Push u) past who e = refl
began_no_take call.End past who e = refl
began_no_take (call.Leave player) past who e = refl
began_no_take call.Count past who e = refl
began_no_take (call.Take player want) past who e = absurd (let f = began_alone past who (call.Take player want) e in cc)

pub own_began : (w : ℕ) (P past : List Step) → StandIn shape P past → AreBy w P → BeganBy w P
own_began w [] past s a = tt
own_began w (c ∷ P) [] s a = absurd s
own_began w (c ∷ P) (x ∷ past) (inl s) a =
    (λ e. a.0 (began_no_take c.0.call past c.0.who (sym (ap is_began s.1) ∙ e)), own_began w P past s.2 a.1)
own_began w (c ∷ P) (x ∷ past) (inr s) a = own_began w (c ∷ P) past s a

-- ---- units

-- those that calls publish, the newest call first
abbrev pub pushes : List Step → List Media
pushes [] = []
pushes (c ∷ P) = pushes P ++ unit_of c.0.call

-- what a reply adds
pub record Adds (c : Call) (r : Reply) (items : List Item) : Type 0 where
  pub units : List Media
  pub are : units_in (items_after c r items) ≡ units_in items ++ units
  pub own : AreAmong units (unit_of c)

adds_none : (c : Call) (r : Reply) (items : List Item) → units_in (items_after c r items) ≡ units_in items → Adds c r items
adds_none c r items e = record { units = []; are = e ∙ sym (append-nil (units_in items)); own = tt }

adds_pushed : (c : Call) (n : ℕ) (items : List Item) → Adds c (reply_is.Pushed n) items
adds_pushed (call.Push u) n items = record { units = u ∷ []; are = units_join items (item.Unit u ∷ []); own = inl (refl, tt) }
adds_pushed call.Begin n items = adds_none call.Begin (reply_is.Pushed n) items refl
adds_pushed (call.BeginAs name) n items = adds_none (call.BeginAs name) (reply_is.Pushed n) items refl
adds_pushed call.Join n items = adds_none call.Join (reply_is.Pushed n) items refl
adds_pushed (call.JoinAs name) n items = adds_none (call.JoinAs name) (reply_is.Pushed n) items refl
adds_pushed call.End n items = adds_none call.End (reply_is.Pushed n) items refl
adds_pushed (call.Take player want) n items = adds_none (call.Take player want) (reply_is.Pushed n) items refl
adds_pushed (call.Leave player) n items = adds_none (call.Leave player) (reply_is.Pushed n) items refl
adds_pushed call.Count n items = adds_none call.Count (reply_is.Pushed n) items refl

pub adds : (c : Call) (r : Reply) (items : List Item) → Adds c r items
adds c (reply_is.Pushed n) items = adds_pushed c n items
adds c (reply_is.Began n) items = adds_none c (reply_is.Began n) items (units_join items (item.Begin ∷ []) ∙ append-nil (units_in items))
adds c (reply_is.Ended n) items = adds_none c (reply_is.Ended n) items (units_join items (item.End ∷ []) ∙ append-nil (units_in items))
adds c (reply_is.InUse by) items = adds_none c (reply_is.InUse by) items refl
adds c (reply_is.NotPublisher live) items = adds_none c (reply_is.NotPublisher live) items refl
adds c (reply_is.Joined player from) items = adds_none c (reply_is.Joined player from) items refl
adds c reply_is.Full items = adds_none c reply_is.Full items refl
adds c (reply_is.NoSlot slots) items = adds_none c (reply_is.NoSlot slots) items refl
adds c reply_is.NotPlayer items = adds_none c reply_is.NotPlayer items refl
adds c (reply_is.Sent from n i) items = adds_none c (reply_is.Sent from n i) items refl
adds c (reply_is.Skip from to) items = adds_none c (reply_is.Skip from to) items refl
adds c (reply_is.NotYet end) items = adds_none c (reply_is.NotYet end) items refl
adds c (reply_is.Left player) items = adds_none c (reply_is.Left player) items refl
adds c (reply_is.Counts began pushed ended joined skips) items = adds_none c (reply_is.Counts began pushed ended joined skips) items refl

pub items_pushed : (P : List Step) → AreAmong (units_in (items_of P)) (pushes P)
items_pushed [] = tt
items_pushed (c ∷ P) =
    let a = adds c.0.call c.1 (items_of P) in
    subst (λ (l : List Media). AreAmong l (pushes P ++ unit_of c.0.call)) (sym a.are)
    (among_join (units_in (items_of P)) (pushes P) a.units (unit_of c.0.call) (items_pushed P) a.own)
