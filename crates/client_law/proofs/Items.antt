-- The items that a session was sent, in what it owes
use Rattle.std.proofs.Common.{◌≡◌, ℕ, ◌+◌, ◌-◌, ◌<◌, ◌≤◌, ◌⊎◌, inl, inr, Bool, true, false, ◌==◌, if◌then◌else◌, List, [], ◌∷◌, ◌++◌, Option, Some, None, refl, sym, ap, ◌∙◌, subst, arith, append-nil}
use Rattle.std.proofs.lemmas.Bool.{cases_eq, eq-eqb, ne_eqb}
use Rattle.av_unit.specs.declared.item.Item.{Item}
use Rattle.chunk_wire.specs.declared.message.Message.{Message}
use Rattle.command_dialog.specs.declared.types.Ask.{Ask}
use Rattle.command_dialog.specs.declared.types.Grant.{Grant}
use Rattle.command_dialog.specs.State.{State}
use Rattle.command_dialog.specs.Dialog.{shown, shows}
use Rattle.stream_model.specs.declared.replies.Reply.{Reply}
use Rattle.stream_model.specs.declared.replies.Reply.TheVariants as reply
use Rattle.session_owed.specs.Dialogue.{Dialogue}
use Rattle.session_owed.specs.Talk.{Own, hand_bytes, is_at, is_take, item_of, items_at, said_if, says_at, state_at}
use Rattle.session_owed.specs.Talk as talking
use Rattle.session_owed.specs.Talks as talks
use Rattle.relay_session.specs.Session.{session}
use Rattle.client_law.specs.Loud.{Rise, flat, loud, louds}
use Rattle.client_law.specs.Pull.{Plays, gifts_in, gifts_of, item_for, item_in, items_sent}
use Rattle.client_law.proofs.Gifts.{item_told}
use Rattle.client_law.proofs.Louds.{loud_joined}
use Rattle.client_law.proofs.SoFar.{EachPlays, PlaysFrom, plays_at}
use Rattle.client_law.proofs.Telling.{gifts_joined}

-- the places of the calls rise from one up to another, and each Take was made while a play was granted
abbrev pub ArePlays : (ℕ → State) → ℕ → ℕ → List Own → Type 0
ArePlays at from to [] = from ≤ to
ArePlays at from to (c ∷ C) = (from ≤ c.0.at) × (is_take c.0.call ≡ true → Plays (at (c.0.at - hand_bytes))) × ArePlays at c.0.at to C

-- what a client is shown of items on message stream 1
unfoldable pub shown_of : List Item → List Message
shown_of [] = []
shown_of (i ∷ is) = shown 1 i ++ shown_of is

-- and of those of the calls, with their places
unfoldable pub placed : List Own → List (ℕ × List Message)
placed [] = []
placed (c ∷ C) = (c.0.at - hand_bytes, shown_of (item_for c)) ∷ placed C

-- ---- what they tell

gifts_more : (is js : List Item) → gifts_of (is ++ js) ≡ gifts_of is ++ gifts_of js
unfolding gifts_of
gifts_more [] js = refl
gifts_more (i ∷ is) js = ap (λ t. Rattle.client_law.specs.Pull.gift_of i ∷ t) (gifts_more is js)

shown_told : (is : List Item) → gifts_in 1 (shown_of is) ≡ gifts_of is
unfolding gifts_in gifts_of shown_of
shown_told [] = refl
shown_told (i ∷ is) = gifts_joined 1 (shown 1 i) (shown_of is) ∙ ap (λ t. t ++ gifts_in 1 (shown_of is)) (item_told 1 i) ∙ ap (λ t. Rattle.client_law.specs.Pull.gift_of i ∷ t) (shown_told is)

pub placed_told : (C : List Own) → gifts_in 1 (flat (placed C)) ≡ gifts_of (items_sent C)
unfolding flat placed items_sent gifts_in gifts_of
placed_told [] = refl
placed_told (c ∷ C) =
    gifts_joined 1 (shown_of (item_for c)) (flat (placed C)) ∙ ap (λ t. t ++ gifts_in 1 (flat (placed C))) (shown_told (item_for c)) ∙ ap (λ t. gifts_of (item_for c) ++ t) (placed_told C)
    ∙ sym (gifts_more (item_for c) (items_sent C))

pub flat_loud : (es : List (ℕ × List Message)) → flat (louds es) ≡ loud (flat es)
unfolding flat louds loud
flat_loud [] = refl
flat_loud (e ∷ es) = ap (λ t. loud e.1 ++ t) (flat_loud es) ∙ sym (loud_joined e.1 (flat es))

-- ---- their places rise

plays_within : (at : ℕ → State) (from to : ℕ) (C : List Own) → ArePlays at from to C → from ≤ to
plays_within at from to [] h = h
plays_within at from to (c ∷ C) h = omega (arith, h.0, plays_within at c.0.at to C h.2)

pub rise_placed : (at : ℕ → State) (lo o from to : ℕ) (C : List Own) → hand_bytes + lo ≤ from → to ≤ hand_bytes + o → ArePlays at from to C → Rise lo o (louds (placed C))
unfolding louds placed
rise_placed at lo o from to [] l u h = tt
rise_placed at lo o from to (c ∷ C) l u h =
    (omega (arith, l, h.0), omega (arith, u, plays_within at c.0.at to C h.2), rise_placed at (c.0.at - hand_bytes) o c.0.at to C (omega (arith, l, h.0)) u h.2)

-- ---- where nothing may be sent

if_none : (b : Bool) → said_if b [] ≡ []
if_none true = refl
if_none false = refl

-- no Take in a state where none plays
not_taken : (c : Own) (b : Bool) → is_take c.0.call ≡ b → (is_take c.0.call ≡ true → ⊥) → (if b then item_in c.1 else []) ≡ []
not_taken c true e h = absurd (h e)
not_taken c false e h = refl

pub never_sent : (s : State) (states : List (ℕ × State)) (from to : ℕ) (C : List Own) → PlaysFrom None 0 s → EachPlays None states → ArePlays (λ j. state_at j s states) from to C
    → (items_sent C ≡ []) × (flat (placed C) ≡ [])
unfolding items_sent placed flat shown_of
never_sent s states from to [] h e p = (refl, refl)
never_sent s states from to (c ∷ C) h e p =
    let none : item_for c ≡ [] = not_taken c (is_take c.0.call) refl (λ q. plays_at None (c.0.at - hand_bytes) s states h e (p.1 q)) in
    let r = never_sent s states c.0.at to C h e p.2 in
    (ap (λ t. t ++ items_sent C) none ∙ r.0, ap (λ t. shown_of t ++ flat (placed C)) none ∙ r.1)

module _ (desk : Ask → Grant) (who window : ℕ) where
  abbrev d : Dialogue State
  d = session who window desk

  pub plays_so : (states : List (ℕ × State)) (from to : ℕ) (C : List Own) → talks.Rise d states from to C → ArePlays (λ j. state_at j d.start states) from to C
  plays_so states from to [] r = r
  plays_so states from to (c ∷ C) r = (r.0, r.1, plays_so states c.0.at to C r.2)

  -- ---- the items at a count

  reply_shown : (s : State) (r : Reply) → (Plays s) → ((i : Item) → shows s i ≡ shown 1 i) → talking.shown d s r ≡ shown_of (item_in r)
  unfolding shown_of
  reply_shown s (reply.Sent from n item) p h = h item ∙ sym (append-nil (shown 1 item))
  reply_shown s (reply.Began n) p h = refl
  reply_shown s (reply.InUse by) p h = refl
  reply_shown s (reply.Pushed n) p h = refl
  reply_shown s (reply.NotPublisher n) p h = refl
  reply_shown s (reply.Ended n) p h = refl
  reply_shown s (reply.Joined player from) p h = refl
  reply_shown s reply.Full p h = refl
  reply_shown s reply.NotPlayer p h = refl
  reply_shown s (reply.Skip from to) p h = refl
  reply_shown s (reply.NotYet end) p h = refl
  reply_shown s (reply.Left player) p h = refl
  reply_shown s (reply.Counts a b c e f) p h = refl
  reply_shown s (reply.NoSlot slots) p h = refl

  shows_by : (f : Option ℕ) (j : ℕ) (s : State) → PlaysFrom f j s → Plays s → (i : Item) → shows s i ≡ shown 1 i
  shows_by None j s h p = absurd (h p)
  shows_by (Some f) j s h p = (h p).1

  item_if : (f : Option ℕ) (j : ℕ) (s : State) (c : Own) (b : Bool) → is_take c.0.call ≡ b → PlaysFrom f j s → (is_take c.0.call ≡ true → Plays s) → said_if b (talking.shown d s c.1) ≡ shown_of (if b then item_in c.1 else [])
  unfolding shown_of
  item_if f j s c true e h p = reply_shown s c.1 (p e) (shows_by f j s h (p e))
  item_if f j s c false e h p = refl

  item_here : (f : Option ℕ) (j : ℕ) (s : State) (c : Own) → PlaysFrom f j s → (is_take c.0.call ≡ true → Plays s) → item_of d s c ≡ shown_of (item_for c)
  item_here f j s c h p = item_if f j s c (is_take c.0.call) refl h p

  items_here : (f : Option ℕ) (s : State) (states : List (ℕ × State)) (j : ℕ) (c : Own) → PlaysFrom f 0 s → ((n : ℕ) → PlaysFrom f n (state_at n s states)) → hand_bytes ≤ c.0.at → (is_take c.0.call ≡ true → Plays (state_at (c.0.at - hand_bytes) s states))
      → said_if (is_at j c) (item_of d (state_at j s states) c) ≡ said_if (c.0.at - hand_bytes == j) (shown_of (item_for c))
  items_here f s states j c h g l p = by_place (cases_eq c.0.at (hand_bytes + j))
    where
      by_place : ((c.0.at ≡ hand_bytes + j) ⊎ (c.0.at ≡ hand_bytes + j → ⊥)) → said_if (is_at j c) (item_of d (state_at j s states) c) ≡ said_if (c.0.at - hand_bytes == j) (shown_of (item_for c))
      by_place (inl e) =
          let same : c.0.at - hand_bytes ≡ j = omega (arith, e) in
          ap (λ b. said_if b (item_of d (state_at j s states) c)) (eq-eqb c.0.at (hand_bytes + j) e)
          ∙ item_here f j (state_at j s states) c (g j) (λ q. subst (λ (n : ℕ). Plays (state_at n s states)) same (p q))
          ∙ sym (ap (λ b. said_if b (shown_of (item_for c))) (eq-eqb (c.0.at - hand_bytes) j same))
      by_place (inr n) =
          ap (λ b. said_if b (item_of d (state_at j s states) c)) (ne_eqb c.0.at (hand_bytes + j) n) ∙ sym (ap (λ b. said_if b (shown_of (item_for c))) (ne_eqb (c.0.at - hand_bytes) j (λ e. n (omega (arith, e, l)))))

  pub items_placed : (f : Option ℕ) (s : State) (states : List (ℕ × State)) (j from to : ℕ) (C : List Own) → PlaysFrom f 0 s → ((n : ℕ) → PlaysFrom f n (state_at n s states)) → hand_bytes ≤ from → ArePlays (λ n. state_at n s states) from to C
      → items_at d (state_at j s states) j C ≡ says_at j (placed C)
  unfolding items_at says_at placed
  items_placed f s states j from to [] h g l p = refl
  items_placed f s states j from to (c ∷ C) h g l p =
      ap (λ t. t ++ items_at d (state_at j s states) j C) (items_here f s states j c h g (omega (arith, l, p.0)) p.1)
      ∙ ap (λ t. said_if (c.0.at - hand_bytes == j) (shown_of (item_for c)) ++ t) (items_placed f s states j c.0.at to C h g (omega (arith, l, p.0)) p.2)

-- none before it plays
none_before : (f j : ℕ) (c : Own) (s : State) (b : Bool) → is_take c.0.call ≡ b → PlaysFrom (Some f) (c.0.at - hand_bytes) s → (is_take c.0.call ≡ true → Plays s) → j < f
    → said_if (c.0.at - hand_bytes == j) (shown_of (if b then item_in c.1 else [])) ≡ []
unfolding shown_of
none_before f j c s true e h p l =
    let le : f ≤ c.0.at - hand_bytes = (h (p e)).0 in
    ap (λ b. said_if b (shown_of (item_in c.1))) (ne_eqb (c.0.at - hand_bytes) j (λ q. omega (arith, q, l, le)))
none_before f j c s false e h p l = if_none (c.0.at - hand_bytes == j)

pub placed_before : (f j : ℕ) (s : State) (states : List (ℕ × State)) (from to : ℕ) (C : List Own) → ((n : ℕ) → PlaysFrom (Some f) n (state_at n s states)) → j < f → ArePlays (λ n. state_at n s states) from to C → says_at j (placed C) ≡ []
unfolding says_at placed
placed_before f j s states from to [] g l p = refl
placed_before f j s states from to (c ∷ C) g l p =
    ap (λ t. t ++ says_at j (placed C)) (none_before f j c (state_at (c.0.at - hand_bytes) s states) (is_take c.0.call) refl (g (c.0.at - hand_bytes)) p.1 l) ∙ placed_before f j s states c.0.at to C g l p.2
