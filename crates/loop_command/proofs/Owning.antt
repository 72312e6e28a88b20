-- WHAT A PLAYER WAS SENT IS THE FILM'S OWN, where a publisher and the player alone have called the stream, and somebody its counts
use Rattle.std.proofs.Common.{◌≡◌, ℕ, ◌+◌, ◌≤◌, Bool, true, false, if◌then◌else◌, List, [], ◌∷◌, ◌++◌, reverse, Option, Some, None, refl, sym, ap, ◌∙◌, subst, arith, append_assoc, append-nil}
use Rattle.std.proofs.lemmas.List.{reverse-append}
use Rattle.av_unit.specs.Media.{Media}
use Rattle.av_unit.specs.declared.item.Item.{Item}
use Rattle.chunk_wire.specs.declared.message.Message.{Message}
use Rattle.client_law.specs.Pull.{item_for, items_sent}
use Rattle.client_owed.specs.declared.types.Wish.TheVariants as wish
use Rattle.refusal_law.specs.Refusals.{AreOpened}
use Rattle.session_owed.specs.Dialogue.{Dialogue}
use Rattle.session_owed.specs.Published.{pushed_by, unit_of}
use Rattle.session_owed.specs.Talk.{Own, Talk, calling, does_at, fresh, goes, is_take, makes, one, reply_at, resumed, started, talk, walk}
use Rattle.stream_model.specs.Answer.{reply_to}
use Rattle.stream_model.specs.Counts.{counts_reply, how_many, is_began, is_joined}
use Rattle.stream_model.specs.History.{items_of}
use Rattle.stream_model.specs.Known.{IsLawful}
use Rattle.stream_model.specs.declared.calls.Call.{Call}
use Rattle.stream_model.specs.declared.calls.Call.TheVariants as call
use Rattle.stream_model.specs.declared.calls.Entry.{Entry}
use Rattle.stream_model.specs.declared.replies.Reply.{Reply}
use Rattle.stream_model.specs.declared.replies.Reply.TheVariants as reply_is
use Rattle.stream_registry.specs.Told.{Keeps, Step}
use Rattle.loop_command.specs.Desk.{limits, player, publisher, shape}
use Rattle.loop_command.specs.Looped.{AreAmong, StandIn, units_in}
use Rattle.loop_command.proofs.Among.{among_then, units_among}
use Rattle.loop_command.proofs.Back.{reversed}
use Rattle.loop_command.proofs.Filling.{all_pushed, makes_reverse}
use Rattle.loop_command.proofs.Opening.{AreOpen}
use Rattle.loop_command.proofs.Granted.{begins_none, joins_none, joins_once, many_join, many_reverse}
use Rattle.loop_command.proofs.Owned.{AreBy, BeganBy, began_own, is_item, others_bring_none, own_began, pushes, same_items}
use Rattle.loop_command.proofs.Played.{taken_among, taken_by, told, told_among}

-- ---- the calls that messages make are its session's

abbrev AllBy : ℕ → List Entry → Type 0
AllBy w [] = Unit {0}
AllBy w (e ∷ es) = (e.who ≡ w) × AllBy w es

all_more : (w : ℕ) (es : List Entry) (e : Entry) → AllBy w es → e.who ≡ w → AllBy w (es ++ e ∷ [])
all_more w [] e h i = (i, tt)
all_more w (x ∷ es) e h i = (h.0, all_more w es e h.1 i)

module _ {S : Type 0} (d : Dialogue S) (C : List Own) where
  goes_by : (n : ℕ) (t : Talk S) (c : Option Call) → AllBy d.who t.made → AllBy d.who (goes d C n t c).made
  goes_by n t None h = h
  goes_by n t (Some c) h = by_reply (reply_at n C)
    where
      more : AllBy d.who (calling d n t c).made
      more = all_more d.who t.made (Rattle.session_owed.specs.Talk.entry_of d n c) h refl

      by_reply : (r : Option Reply) → AllBy d.who (resumed d n (calling d n t c) r).made
      by_reply None = more
      by_reply (Some r) = more

  one_by : (t : Talk S) (m : ℕ × Message) → AllBy d.who t.made → AllBy d.who (one d C t m).made
  unfolding one
  one_by t m h = by_stuck t.stuck
    where
      by_stuck : (b : Bool) → AllBy d.who (if b then t else does_at d C m.0 t (d.does t.state m.1)).made
      by_stuck true = h
      by_stuck false = goes_by m.0 (started d m.0 t (d.does t.state m.1)) (d.does t.state m.1).makes h

  walk_by : (t : Talk S) (ms : List (ℕ × Message)) → AllBy d.who t.made → AllBy d.who (walk d C t ms).made
  unfolding walk
  walk_by t [] h = h
  walk_by t (m ∷ ms) h = walk_by (one d C t m) ms (one_by t m h)

makes_by : (w : ℕ) (C : List Own) → AllBy w (makes C) → AreBy w C
unfolding makes
makes_by w [] h = tt
makes_by w (c ∷ C) h = by_take (λ z. makes_by w C z) (is_take c.0.call) refl h
  where
    by_take : (AllBy w (makes C) → AreBy w C) → (b : Bool) → is_take c.0.call ≡ b → AllBy w (if b then makes C else c.0 ∷ makes C) → AreBy w (c ∷ C)
    by_take ih true t h = ((λ f. absurd (let g : true ≡ false = sym t ∙ f in cc)), ih h)
    by_take ih false t h = ((λ f. h.0), ih h.1)

-- the calls of a session, of which none waits
pub calls_by : {S : Type 0} (d : Dialogue S) (C : List Own) (ms : List (ℕ × Message)) → (talk d C ms).made ≡ makes C ++ [] → AreBy d.who C
calls_by d C ms e =
    makes_by d.who C (subst (AllBy d.who) (e ∙ append-nil (makes C)) (walk_by d C (fresh d) ms tt))

by_join : (w : ℕ) (a b : List Step) → AreBy w a → AreBy w b → AreBy w (a ++ b)
by_join w [] b h i = i
by_join w (c ∷ a) b h i = (h.0, by_join w a b h.1 i)

by_reverse : (w : ℕ) (C : List Step) → AreBy w C → AreBy w (reverse C)
by_reverse w [] h = tt
by_reverse w (c ∷ C) h = subst (AreBy w) (sym (reversed c C)) (by_join w (reverse C) (c ∷ []) (by_reverse w C h.1) (h.0, tt))

-- ---- the other order

pushes_join : (a b : List Step) → pushes (a ++ b) ≡ pushes b ++ pushes a
pushes_join [] b = sym (append-nil (pushes b))
pushes_join (c ∷ a) b = ap (λ (l : List Media). l ++ unit_of c.0.call) (pushes_join a b) ∙ append_assoc (pushes b) (pushes a) (unit_of c.0.call)

pub pushes_reverse : (C : List Step) → pushes (reverse C) ≡ pushed_by C
unfolding pushed_by
pushes_reverse [] = refl
pushes_reverse (c ∷ C) =
    ap pushes (reversed c C) ∙ pushes_join (reverse C) (c ∷ []) ∙ ap (λ (l : List Media). unit_of c.0.call ++ l) (pushes_reverse C)

taken_join : (a b : List Step) → taken_by (a ++ b) ≡ taken_by b ++ taken_by a
taken_join [] b = sym (append-nil (taken_by b))
taken_join (c ∷ a) b = ap (λ (l : List Item). l ++ item_for c) (taken_join a b) ∙ append_assoc (taken_by b) (taken_by a) (item_for c)

taken_reverse : (C : List Step) → taken_by (reverse C) ≡ items_sent C
unfolding items_sent
taken_reverse [] = refl
taken_reverse (c ∷ C) =
    ap taken_by (reversed c C) ∙ taken_join (reverse C) (c ∷ []) ∙ ap (λ (l : List Item). item_for c ++ l) (taken_reverse C)

-- ---- both sessions

-- of replies of a kind that tells no counts the history has no more than the calls of both
abbrev pub AreTheirs : List Step → List Step → List Step → Type 0
AreTheirs history C D =
    (f : Reply → Bool) → ((a b c d e : ℕ) → f (reply_is.Counts a b c d e) ≡ false) → how_many f history ≤ how_many f C + how_many f D

-- THE CALLS OF A HISTORY are those of a publisher's session and a player's, each of which begins one role, and such as ask for counts
pub record AreBoth (history C D : List Own) : Type 0 where
  pub theirs : AreTheirs history C D
  pub rest : List Entry
  pub begins : AreOpened wish.Push (makes C ++ rest)
  pub more : List Entry
  pub joins : AreOpened wish.Pull (makes D ++ more)

-- so they are with one more that asks for counts
pub counted_both : (old history C D : List Own) (e : Entry) (r : Reply) → history ≡ old ++ (e, r) ∷ [] → e.call ≡ call.Count → Keeps shape history
    → AreBoth old C D → AreBoth history C D
counted_both old history C D e r adds asks keeps b = record {
  theirs = λ f n. omega (
    arith,
    b.theirs f n,
    ap (how_many f) adds,
    many_join f old ((e, r) ∷ []),
    ap {B = ℕ} (λ (x : Bool). if x then 1 else 0) (ap f is_count ∙ n _ _ _ _ _),
  );
  rest = b.rest;
  begins = b.begins;
  more = b.more;
  joins = b.joins;
}
  where
    turned : reverse history ≡ (e, r) ∷ reverse old
    turned = ap reverse adds ∙ reverse-append old ((e, r) ∷ [])

    is_count : r ≡ counts_reply (reverse old)
    is_count = (subst (IsLawful limits) turned keeps.rules).0 ∙ ap (reply_to limits (reverse old) e.who) asks

module _ (history C D : List Own) (keeps : Keeps shape history) (stand : StandIn C history) (others : StandIn D history) (both : AreBoth history C D)
    (mine : AreBy publisher C) (its : AreBy player D) (inside : AreOpen (reverse (makes C))) where
  abbrev past : List Step
  past = reverse history

  abbrev P : List Step
  P = reverse C

  abbrev Q : List Step
  Q = reverse D

  none_begun : how_many is_began D ≡ 0
  none_begun = begins_none history D both.more others both.joins

  began : BeganBy publisher past
  began =
      began_own publisher P past stand
      (omega (arith, both.theirs is_began (λ a b c d e. refl), many_reverse is_began history, many_reverse is_began C, none_begun))
      (own_began publisher P past stand (by_reverse publisher C mine))

  none_brought : how_many is_item Q ≡ 0
  none_brought =
      others_bring_none publisher player Q past others began (by_reverse player D its) (λ e. omega (arith, e)) (many_reverse is_began D ∙ none_begun)

  few_items : how_many is_item past ≤ how_many is_item P
  few_items =
      omega (arith, both.theirs is_item (λ a b c d e. refl), many_reverse is_item history, many_reverse is_item C, many_reverse is_item D, none_brought)

  -- THE STREAM'S UNITS are those that the publisher's calls push
  pub own_units : units_in (items_of past) ≡ pushed_by C
  own_units =
      ap units_in (same_items P past stand few_items).items
      ∙ all_pushed publisher P past stand few_items began (by_reverse publisher C mine) (subst AreOpen (sym (makes_reverse C)) inside) ∙ pushes_reverse C

  sent_own : AreAmong (items_sent D) (items_of past)
  sent_own =
      let few : how_many is_joined past ≤ 1 =
      omega (
        arith,
        both.theirs is_joined (λ a b c d e. refl),
        many_reverse is_joined history,
        joins_none history C both.rest stand both.begins,
        joins_once history D both.more others both.joins,
      ) in
      subst (λ (i : List Item). AreAmong i (items_of past)) (taken_reverse D)
      (among_then (taken_by Q) (told past) (items_of past) (taken_among Q past others) (told_among past keeps.rules (λ p. keeps.viewers 0 p) few))

  -- AND THE PLAYER WAS SENT NO OTHERS
  pub back_own : AreAmong (units_in (items_sent D)) (pushed_by C)
  back_own = subst (AreAmong (units_in (items_sent D))) own_units (units_among (items_sent D) (items_of past) sent_own)
