-- Lawful after lawful is lawful: what an edge publishes of a lawful stream, and what its players are sent of that
use Rattle.std.proofs.Common.{◌≡◌, ◌<◌, ◌≤◌, ◌⊎◌, inl, inr, ℕ, zero, suc, Bool, true, false, List, [], ◌∷◌, ◌++◌, Option, Some, None, refl, sym, ap, ◌∙◌, subst}
use Rattle.std.proofs.Common.{arith, append_assoc}
use Rattle.std.specs.List.{Contains, slice_get}
use Rattle.std.proofs.lemmas.Bool.{cases_lt, false≢true}
use Rattle.std.proofs.lemmas.Option.{slice_get_within}
use Rattle.av_unit.specs.Media.{Media}
use Rattle.av_unit.specs.declared.item.Item.{Item}
use Rattle.av_unit.specs.declared.item.Item.TheVariants as item
use Rattle.av_unit.specs.declared.unit.Kind.{Kind}
use Rattle.av_unit.specs.declared.unit.Kind.TheVariants.{Meta, VConfig, AConfig, Key, Inter, Spare, Audio, Data}
use Rattle.stream_model.specs.declared.calls.Call.{Call}
use Rattle.stream_model.specs.declared.calls.Call.TheVariants as call
use Rattle.stream_model.specs.declared.calls.StreamLimits.{StreamLimits}
use Rattle.stream_model.specs.History.{History, items_of}
use Rattle.stream_model.specs.Items.{same_kind}
use Rattle.stream_model.specs.Known.{IsLawful}
use Rattle.stream_model.specs.Spell.{sent, spell}
use Rattle.stream_model.specs.Take.{at_kind}
use Rattle.stream_model.proofs.UnitKinds.{same_kind_is}
use Rattle.stream_law.specs.HasChain.{HasChain}
use Rattle.stream_law.proofs.Inters.{inter_chain, spare_chain}
use Rattle.stream_law.proofs.Viewers.{legal}
use Rattle.client_owed.specs.declared.types.Gift.{Gift}
use Rattle.origin_calls.specs.Calls.{calls_for, edge_calls, live_after, live_by}
use Rattle.origin_calls.specs.Origin.{Hears, IsMadeFor, given, numbered_calls, plain}
use Rattle.origin_calls.specs.Relayed.{ComesFrom, HasItsChain, IsFrame, IsSentOn, Serves, calls_by, item_for, items_for}
use Rattle.origin_calls.proofs.Again.{IsFrameKind, WasFrame, again, frame_again}
use Rattle.origin_calls.proofs.Alone.{are_items}
use Rattle.origin_calls.proofs.Given.{given_content, given_rises, given_sent, sent_given}
use Rattle.origin_calls.proofs.Members.{In, first_at, first_from, in_at, place_of}
use Rattle.origin_calls.proofs.Ordered.{AreOrdered, before_at, calls_ordered, not_before, ordered_at, plain_at, at_plain, plain_calls, pushed_for, unit_pushed}

-- ---- the items published, and the calls with their numbers

calls_joined : (live : Bool) (a b : List Gift) → edge_calls live (a ++ b) ≡ edge_calls live a ++ edge_calls (live_after live a) b
unfolding edge_calls live_after
calls_joined live [] b = refl
calls_joined live (g ∷ a) b =
    ap (λ (l : List Call). calls_for live g ++ l) (calls_joined (live_by live g) a b)
    ∙ sym (append_assoc (calls_for live g) (edge_calls (live_by live g) a) (edge_calls (live_after (live_by live g) a) b))

unit_of_call : (c : Call) (v : Media) → item_for c ≡ item.Unit v → c ≡ call.Push v
unit_of_call (call.Push u) v e = let h : u ≡ v = cc in ap call.Push h
unit_of_call call.Begin v e = absurd (cc)
unit_of_call call.End v e = absurd (cc)
unit_of_call call.Join v e = absurd (cc)
unit_of_call (call.Take player want) v e = absurd (cc)
unit_of_call (call.Leave player) v e = absurd (cc)
unit_of_call call.Count v e = absurd (cc)
unit_of_call (call.BeginAs name) v e = absurd (cc)
unit_of_call (call.JoinAs name) v e = absurd (cc)

some_item : (x y : Item) → Some x ≡ Some y → x ≡ y
some_item x y e = cc

some_call : (x y : Call) → Some x ≡ Some y → x ≡ y
some_call x y e = cc

unit_at_call : (cs : List Call) (n : ℕ) (v : Media) → slice_get (items_for cs) n ≡ Some (item.Unit v) → slice_get cs n ≡ Some (call.Push v)
unfolding items_for
unit_at_call [] n v e = absurd (cc)
unit_at_call (c ∷ cs) zero v e = ap Some (unit_of_call c v (some_item (item_for c) (item.Unit v) e))
unit_at_call (c ∷ cs) (suc n) v e = unit_at_call cs n v e

call_at_unit : (cs : List Call) (n : ℕ) (v : Media) → slice_get cs n ≡ Some (call.Push v) → slice_get (items_for cs) n ≡ Some (item.Unit v)
unfolding items_for
call_at_unit [] n v e = absurd (cc)
call_at_unit (c ∷ cs) zero v e = ap (λ (x : Call). Some (item_for x)) (some_call c (call.Push v) e)
call_at_unit (c ∷ cs) (suc n) v e = call_at_unit cs n v e

unit_is : (u v : Media) → item.Unit u ≡ item.Unit v → u ≡ v
unit_is u v e = cc

-- ---- an item of a kind is a unit of it

record UnitAt (k : Kind) (o : Option Item) : Type 0 where
  unit : Media
  there : o ≡ Some (item.Unit unit)
  kind : unit.kind ≡ k

unit_of_kind : (k : Kind) (o : Option Item) → at_kind k o ≡ true → UnitAt k o
unit_of_kind k None e = absurd (false≢true e)
unit_of_kind k (Some item.Begin) e = absurd (false≢true e)
unit_of_kind k (Some item.End) e = absurd (false≢true e)
unit_of_kind k (Some (item.Unit u)) e = record { unit = u; there = refl; kind = sym (same_kind_is k u.kind e) }

same_itself : (k : Kind) → same_kind k k ≡ true
same_itself Meta = refl
same_itself VConfig = refl
same_itself AConfig = refl
same_itself Key = refl
same_itself Inter = refl
same_itself Spare = refl
same_itself Audio = refl
same_itself Data = refl

kind_there : (k : Kind) (o : Option Item) (u : Media) → o ≡ Some (item.Unit u) → u.kind ≡ k → at_kind k o ≡ true
kind_there k o u e f = ap (at_kind k) e ∙ ap (same_kind k) f ∙ same_itself k

record FrameAt (o : Option Item) : Type 0 where
  unit : Media
  there : o ≡ Some (item.Unit unit)
  kind : IsFrameKind unit.kind

frame_of : (o : Option Item) → (at_kind Key o ≡ true) ⊎ (at_kind Inter o ≡ true) → FrameAt o
frame_of o (inl e) = let u = unit_of_kind Key o e in record { unit = u.unit; there = u.there; kind = inl u.kind }
frame_of o (inr e) = let u = unit_of_kind Inter o e in record { unit = u.unit; there = u.there; kind = inr u.kind }

frame_there : (o : Option Item) (u : Media) → o ≡ Some (item.Unit u) → IsFrameKind u.kind → (at_kind Key o ≡ true) ⊎ (at_kind Inter o ≡ true)
frame_there o u e (inl f) = inl (kind_there Key o u e f)
frame_there o u e (inr f) = inr (kind_there Inter o u e f)

was_key : (k j : Kind) → k ≡ Key → WasFrame k j → j ≡ Key
was_key k j e w = subst (λ (x : Kind). WasFrame x j) e w

was_inter : (k j : Kind) → k ≡ Inter → WasFrame k j → (j ≡ Inter) ⊎ (j ≡ Spare)
was_inter k j e w = subst (λ (x : Kind). WasFrame x j) e w

-- ---- an edge and its origin

module _ (who : ℕ) (gs : List Gift) (limits far : StreamLimits) (past origin : History) (player : ℕ) (s : Serves who gs limits past)
    (h : Hears gs far origin player) where
  abbrev P : List Item
  P = items_of past

  abbrev U : List Item
  U = items_of origin

  abbrev G : List (ℕ × Item)
  G = given (spell origin player).answers

  abbrev M : List (ℕ × Call)
  M = numbered_calls false G

  ordered : AreOrdered M
  ordered = calls_ordered 0 false G (given_rises (spell origin player).answers (legal far origin h.stream.lawful player).rises)

  -- the calls that were made begin those for all that the origin's player was sent
  begins : (rest : List Call) × (calls_by who past ++ rest ≡ plain M)
  begins =
      let later : List Call = edge_calls (live_after false gs) h.later in (
        s.more ++ later,
        sym (append_assoc (calls_by who past) s.more later) ∙ ap (λ (l : List Call). l ++ later) s.own ∙ sym (calls_joined false gs h.later)
            ∙ ap (edge_calls false) h.told
            ∙ sym (plain_calls false G),
      )

  pub push_at : (n : ℕ) (v : Media) → slice_get P n ≡ Some (item.Unit v) → slice_get (calls_by who past) n ≡ Some (call.Push v)
  push_at n v e = unit_at_call (calls_by who past) n v (ap (λ (l : List Item). slice_get l n) (sym (are_items who gs limits past s)) ∙ e)

  number_at : (n : ℕ) (v : Media) → slice_get P n ≡ Some (item.Unit v) → (o : ℕ) × (slice_get M n ≡ Some (o, call.Push v))
  number_at n v e =
      plain_at M n (call.Push v) (ap (λ (l : List Call). slice_get l n) (sym begins.1) ∙ first_at (calls_by who past) begins.0 n (call.Push v) (push_at n v e))

  -- WHAT IS PUBLISHED HERE comes from the origin
  pub comes : (n : ℕ) (v : Media) → slice_get P n ≡ Some (item.Unit v) → (from : ℕ) × ComesFrom origin player n v from
  comes n v e =
      let o = number_at n v e in
      let f = pushed_for false G o.0 v (in_at (o.0, call.Push v) M n o.1) in
      let answers = (spell origin player).answers in (
        o.0,
        record {
          made = o.1;
          unit = f.unit;
          there = given_content U answers o.0 (item.Unit f.unit) (legal far origin h.stream.lawful player).content f.among;
          taken = given_sent answers o.0 (item.Unit f.unit) f.among;
          same = f.same;
        },
      )

  -- a unit that was called for and is published within these is there
  unit_within : (m o n : ℕ) (u v : Media) → m < n → slice_get P n ≡ Some (item.Unit v) → slice_get M m ≡ Some (o, call.Push u)
      → slice_get P m ≡ Some (item.Unit u)
  unit_within m o n u v l e f =
      let long = slice_get_within (calls_by who past) n (call.Push v) (push_at n v e) in
      ap (λ (x : List Item). slice_get x m) (are_items who gs limits past s)
      ∙ call_at_unit (calls_by who past) m u
      (first_from (calls_by who past) begins.0 m (call.Push u) (omega (arith, l, long)) (ap (λ (x : List Call). slice_get x m) begins.1
      ∙ at_plain M m o (call.Push u) f))

  -- a frame that the origin's player was sent was called for
  record Called (j : ℕ) : Type 0 where
    unit : Media
    there : slice_get U j ≡ Some (item.Unit unit)
    frame : IsFrameKind unit.kind
    place : ℕ
    made : slice_get M place ≡ Some (j, call.Push unit)

  called : (j : ℕ) → Contains (sent (spell origin player)) j → IsFrame U j → Called j
  called j c f =
      let answers = (spell origin player).answers in
      let u = frame_of (slice_get U j) f in
      let g = sent_given answers j c in
      let there : slice_get U j ≡ Some g.0 = given_content U answers j g.0 (legal far origin h.stream.lawful player).content g.1 in
      let is : g.0 ≡ item.Unit u.unit = some_item g.0 (item.Unit u.unit) (sym there ∙ u.there) in
      let among : In (j, item.Unit u.unit) G = subst (λ (x : Item). In (j, x) G) is g.1 in
      let p = place_of (j, call.Push u.unit) M (unit_pushed false G j u.unit u.unit among (frame_again u.unit (h.stream.made j u.unit u.there) u.kind)) in
      record { unit = u.unit; there = u.there; frame = u.kind; place = p.0; made = p.1 }

  -- an inter frame that a player here is sent
  module _ (place n : ℕ) (v : Media) (here : slice_get P n ≡ Some (item.Unit v)) (kind : v.kind ≡ Inter) (got : Contains (sent (spell past place)) n) where
    from_there : (from : ℕ) × ComesFrom origin player n v from
    from_there = comes n v here

    far_chain : HasChain U (sent (spell origin player)) from_there.0
    far_chain =
        let c = from_there.1 in
        let a = again c.unit v (h.stream.made from_there.0 c.unit c.there) c.same (inr kind) in
        elim (was_inter v.kind c.unit.kind kind a.kind) [
          | inl e ↦ inter_chain far origin h.stream.lawful player from_there.0 c.taken (kind_there Inter (slice_get U from_there.0) c.unit c.there e)
          | inr e ↦ spare_chain far origin h.stream.lawful player from_there.0 c.taken (kind_there Spare (slice_get U from_there.0) c.unit c.there e)
        ]

    near_chain : HasChain P (sent (spell past place)) n
    near_chain = inter_chain limits past s.lawful place n got (kind_there Inter (slice_get P n) v here kind)

    -- the last key frame here doesn't come from behind the last one there
    key_before : (q : Media) → slice_get P near_chain.key ≡ Some (item.Unit q) → q.kind ≡ Key
        → (o : ℕ) × (slice_get M near_chain.key ≡ Some (o, call.Push q)) × (o ≤ far_chain.key)
    key_before q e f =
        let c = comes near_chain.key q e in
        let a = again c.1.unit q (h.stream.made c.0 c.1.unit c.1.there) c.1.same (inl f) in
        let is_key : at_kind Key (slice_get U c.0) ≡ true = kind_there Key (slice_get U c.0) c.1.unit c.1.there (was_key q.kind c.1.unit.kind f a.kind) in
        let before : c.0 < from_there.0 = (ordered_at M near_chain.key n (c.0, call.Push q) (from_there.0, call.Push v) ordered near_chain.is_last.before
        c.1.made from_there.1.made).1 refl refl in (
          c.0,
          c.1.made,
          elim (cases_lt far_chain.key c.0) [
            | inl lt ↦ absurd (false≢true (sym (far_chain.is_last.last c.0 lt before) ∙ is_key))
            | inr le ↦ le
          ],
        )

    one_sent : (j : ℕ) → far_chain.key ≤ j → j < from_there.0 → IsFrame U j → (m : ℕ) × (m < n) × IsSentOn origin player past place j m
    one_sent j le lt f =
        let c = called j (far_chain.are_sent j le lt f) f in
        let l : c.place < n = before_at M c.place n j from_there.0 (call.Push c.unit) (call.Push v) ordered c.made from_there.1.made lt in
        let there : slice_get P c.place ≡ Some (item.Unit c.unit) = unit_within c.place j n c.unit v l here c.made in
        let q = unit_of_kind Key (slice_get P near_chain.key) near_chain.is_last.is_kind in
        let k = key_before q.unit q.there q.kind in
        let from : near_chain.key ≤ c.place = not_before M c.place near_chain.key j k.0 c.unit q.unit ordered c.made k.1 (omega (arith, k.2, le)) in (
          c.place,
          l,
          record {
            pushed = call.Push c.unit;
            made = c.made;
            same = there ∙ sym c.there;
            taken = near_chain.are_sent c.place from l (frame_there (slice_get P c.place) c.unit there c.frame);
          },
        )

    pub inter_here : HasItsChain origin player past place n
    inter_here = record {
      unit = v;
      here = here;
      from = from_there.0;
      comes = from_there.1;
      key = far_chain.key;
      is_last = far_chain.is_last;
      chain = one_sent;
    }

  -- LAWFUL AFTER LAWFUL IS LAWFUL
  pub inter_relayed : (place n : ℕ) → Contains (sent (spell past place)) n → at_kind Inter (slice_get P n) ≡ true → HasItsChain origin player past place n
  inter_relayed place n c e = let u = unit_of_kind Inter (slice_get P n) e in inter_here place n u.unit u.there u.kind c

-- IN ITS ORDER, EACH ONCE
pub in_order : (far : StreamLimits) (origin : History) (player m n o p : ℕ) (u v : Media) → IsLawful far origin → m < n
    → IsMadeFor origin player m (call.Push u) o → IsMadeFor origin player n (call.Push v) p → o < p
in_order far origin player m n o p u v l lt e f =
    let G : List (ℕ × Item) = given (spell origin player).answers in
    let k = calls_ordered 0 false G (given_rises (spell origin player).answers (legal far origin l player).rises) in
    (ordered_at (numbered_calls false G) m n (o, call.Push u) (p, call.Push v) k lt e f).1 refl refl
