-- THE LAW OF PUSH, over the messages that a client and a session have read of each other
use Rattle.std.proofs.Common.{◌≡◌, ℕ, zero, suc, ◌+◌, ◌<◌, ◌^◌, inl, inr, Bool, true, false, ◌==◌, ◌%◌, ◌&&◌, nat_lt, if◌then◌else◌, List, [], ◌∷◌, ◌++◌, Option, Some, None, Result, Ok, Err, refl, sym, ap, ◌∙◌, subst, arith}
use Rattle.std.proofs.lemmas.Bool.Decides.{nat_tests}
use Rattle.av_unit.specs.declared.item.Item.{Item}
use Rattle.av_unit.specs.declared.item.Item.TheVariants as item
use Rattle.av_unit.specs.declared.unit.Kind.{Kind}
use Rattle.av_unit.specs.declared.unit.Kind.TheVariants as kind
use Rattle.av_unit.specs.Classes.{message_type}
use Rattle.amf0_value.specs.Pattern.{IsPattern, pattern}
use Rattle.amf0_value.proofs.Patterns.{above_fits, is_pattern, power_within}
use Rattle.rtmp_command.specs.declared.command.CommandFail.{CommandFail}
use Rattle.chunk_wire.specs.declared.message.Message.{Message}
use Rattle.ack_window.specs.declared.control.Control.{Control}
use Rattle.ack_window.specs.declared.control.Control.TheVariants.{User}
use Rattle.ack_window.specs.declared.control.BadControl.{BadControl}
use Rattle.ack_window.specs.Controls.{control_in, message_of}
use Rattle.ack_window.specs.Inbound.{number_of}
use Rattle.ack_window.specs.Window.{window_of}
use Rattle.command_dialog.specs.declared.types.Ask.{Ask}
use Rattle.command_dialog.specs.declared.types.Grant.{Grant}
use Rattle.command_dialog.specs.declared.types.Phase as dialog_phase
use Rattle.command_dialog.specs.declared.types.Phase.TheVariants as phase
use Rattle.command_dialog.specs.State.{State}
use Rattle.command_dialog.specs.Dialog.{shown, shown_in, shows}
use Rattle.stream_model.specs.declared.replies.Reply.{Reply}
use Rattle.stream_model.specs.declared.replies.Reply.TheVariants as reply
use Rattle.session_owed.specs.Acks.{acks_at, ack_message, window_at}
use Rattle.session_owed.specs.Dialogue.{Dialogue}
use Rattle.session_owed.specs.Owed.{at_count, talk_at, upto}
use Rattle.session_owed.specs.Owed as owing
use Rattle.session_owed.specs.Published.{published, pushed}
use Rattle.session_owed.specs.Talk.{Own, Talk, is_at, is_take, item_of, items_at, said_if, says_at, state_at, talk}
use Rattle.session_owed.specs.Talk as talking
use Rattle.relay_session.specs.Session.{session}
use Rattle.client_owed.specs.declared.types.Wish.TheVariants as wish
use Rattle.client_owed.specs.declared.types.Asked.{Asked}
use Rattle.client_owed.specs.declared.types.Gave.{Gave}
use Rattle.client_owed.specs.declared.types.News.{News}
use Rattle.client_owed.specs.declared.types.Phase.{Phase}
use Rattle.client_owed.specs.declared.types.News.TheVariants.{Done, Refused, Status, Other}
use Rattle.client_owed.specs.declared.types.Phase.TheVariants.{Connecting, Creating, Asking, Started}
use Rattle.client_owed.specs.News.{is_text, news_in}
use Rattle.client_owed.specs.Client.{Did, ask, connect, create_stream, created, does, does_by, is_id, learns, learns_by, start_code, stays, whole}
use Rattle.client_owed.specs.Client as client
use Rattle.client_owed.specs.Owed.{id_of, phase_after, phase_of}
use Rattle.client_law.specs.Laws.{HaveRead}
use Rattle.client_law.specs.Loud.{Every, EverySaid, asked_by, bare, loud, loud_placed, sents, units}
use Rattle.client_law.proofs.Alike.{Alike, alike_walk, bare_loud, every_join}
use Rattle.client_law.proofs.Louds.{loud_owed, start_phase}
use Rattle.client_law.proofs.Starts.{IsBefore, NoStart, before_after, connected_stays, created_stays, notify_stays, other_stays, pong_stays, refused_stays, unpublish_stays}
use Rattle.client_law.proofs.Steps.{url_short}
use Rattle.client_law.proofs.Walks.{Outcome, push_walk}

-- ---- what holds of all that a session says holds of all that it owes

pub every_upto : (Q : Message → Type 0) (f : ℕ → List Message) (n : ℕ) → ((j : ℕ) → Every Q (f j)) → Every Q (upto f n)
unfolding upto
every_upto Q f zero h = h 0
every_upto Q f (suc n) h = every_join Q (upto f n) (f (suc n)) (every_upto Q f n h) (h (suc n))

pub every_if : (Q : Message → Type 0) (b : Bool) (l : List Message) → Every Q l → Every Q (said_if b l)
every_if Q true l h = h
every_if Q false l h = tt

pub every_says : (Q : Message → Type 0) (n : ℕ) (es : List (ℕ × List Message)) → EverySaid Q es → Every Q (says_at n es)
unfolding says_at
every_says Q n [] h = tt
every_says Q n (e ∷ es) h = every_join Q (said_if (e.0 == n) e.1) (says_at n es) (every_if Q (e.0 == n) e.1 h.0) (every_says Q n es h.1)

ack_if : (Q : Message → Type 0) (b : Bool) (j : ℕ) → Q (ack_message (number_of j)) → Every Q (if b then ack_message (number_of j) ∷ [] else [])
ack_if Q true j h = (h, tt)
ack_if Q false j h = tt

pub every_acks : (Q : Message → Type 0) (w j : ℕ) (ms : List (ℕ × Message)) → ((n : ℕ) → Q (ack_message n)) → Every Q (acks_at w ms j)
unfolding acks_at
every_acks Q w j ms h = ack_if Q (nat_lt 0 j && (j % window_at w ms j == 0)) j (h (number_of j))

module _ {S : Type 0} (Q : Message → Type 0) (d : Dialogue S) (ack : (n : ℕ) → Q (ack_message n)) (shows_so : (s : S) (i : Item) → Every Q (d.shows s i)) where
  shown_so : (s : S) (r : Reply) → Every Q (talking.shown d s r)
  shown_so s (reply.Sent from n item) = shows_so s item
  shown_so s (reply.Began n) = tt
  shown_so s (reply.InUse by) = tt
  shown_so s (reply.Pushed n) = tt
  shown_so s (reply.NotPublisher n) = tt
  shown_so s (reply.Ended n) = tt
  shown_so s (reply.Joined player from) = tt
  shown_so s reply.Full = tt
  shown_so s reply.NotPlayer = tt
  shown_so s (reply.Skip from to) = tt
  shown_so s (reply.NotYet end) = tt
  shown_so s (reply.Left player) = tt
  shown_so s (reply.Counts a b c e f) = tt
  shown_so s (reply.NoSlot slots) = tt

  every_items : (s : S) (n : ℕ) (C : List Own) → Every Q (items_at d s n C)
  unfolding items_at
  every_items s n [] = tt
  every_items s n (c ∷ C) = every_join Q (said_if (is_at n c) (item_of d s c)) (items_at d s n C) (every_if Q (is_at n c) (item_of d s c) (every_if Q (is_take c.0.call) (talking.shown d s c.1) (shown_so s c.1))) (every_items s n C)

  every_count : (t : Talk S) (ms : List (ℕ × Message)) (C : List Own) (n : ℕ) → EverySaid Q t.said → Every Q (at_count d t ms C n)
  unfolding at_count talk_at
  every_count t ms C n h =
      every_join Q (acks_at (window_of d.window) ms n) (says_at n t.said ++ items_at d (state_at n d.start t.states) n C) (every_acks Q (window_of d.window) n ms ack)
      (every_join Q (says_at n t.said) (items_at d (state_at n d.start t.states) n C) (every_says Q n t.said h) (every_items (state_at n d.start t.states) n C))

  pub every_owed : (n : ℕ) (ms : List (ℕ × Message)) (C : List Own) → EverySaid Q (talk d C ms).said → Every Q (owing.owed d n ms C)
  unfolding owing.owed
  every_owed n ms C h = every_upto Q (at_count d (talk d C ms) ms C) n (λ j. every_count (talk d C ms) ms C j h)

pub every_front : (Q : Message → Type 0) (a b : List Message) → Every Q (a ++ b) → Every Q a
every_front Q [] b h = tt
every_front Q (m ∷ a) b h = (h.0, every_front Q a b h.1)

-- ---- what a player is shown starts no client that publishes

media_kind : (x : Kind) → (message_type x == 20) ≡ false
media_kind kind.Meta = refl
media_kind kind.VConfig = refl
media_kind kind.AConfig = refl
media_kind kind.Key = refl
media_kind kind.Inter = refl
media_kind kind.Spare = refl
media_kind kind.Audio = refl
media_kind kind.Data = refl

item_stays : (k : Asked) (id : ℕ) (i : Item) → k.wish ≡ wish.Push → Every (NoStart k) (shown id i)
item_stays k id item.Begin e = (other_stays k (message_of (User 0 id)) refl, (notify_stays k id e, tt))
item_stays k id (item.Unit u) e = (other_stays k (Rattle.command_dialog.specs.Dialog.unit_message id u) (media_kind u.kind), tt)
item_stays k id item.End e = (other_stays k (message_of (User 1 id)) refl, (unpublish_stays k id e, tt))

phase_shows : (k : Asked) (p : dialog_phase.Phase) (i : Item) → k.wish ≡ wish.Push → Every (NoStart k) (shown_in p i)
phase_shows k (phase.Plays p) i e = item_stays k p.id i e
phase_shows k phase.Idle i e = tt
phase_shows k (phase.Asked r id) i e = tt
phase_shows k (phase.Publishes id size) i e = tt

pub shows_stays : (k : Asked) (s : State) (i : Item) → k.wish ≡ wish.Push → Every (NoStart k) (shows s i)
unfolding shows
shows_stays k s i e = phase_shows k s.phase i e

-- ---- the message stream id is a number of 32 bits

pub pattern_low : (n : ℕ) → n < 2 ^ 53 → pattern n < 2 ^ 64
pattern_low n l = by_pattern (is_pattern n l)
  where
    by_pattern : IsPattern n (pattern n) → pattern n < 2 ^ 64
    by_pattern (inl z) = omega (arith, z.1)
    by_pattern (inr p) =
        let e = power_within p.e n p.low l in
        omega (arith, p.bits_are, e, above_fits p.e n e p.low p.high)

abbrev IsSmall : Phase → Type 0
IsSmall p = id_of p < 2 ^ 32

pub id_small : (a b c : Bool) (n : ℕ) → (a && (b && c)) ≡ true → c ≡ nat_lt n (2 ^ 32) → n < 2 ^ 32
id_small true true true n e h = grind (arith, nat_tests)
id_small true true false n e h = absurd cc
id_small true false c n e h = absurd cc
id_small false b c n e h = absurd cc

asks_small : (k : Asked) (b : Bool) (bits : ℕ) → is_id bits ≡ b → IsSmall (if b then record { phase = Asking (whole bits); says = ask k (whole bits) ∷ [] } else stays Creating).phase
asks_small k true bits e = id_small (pattern (whole bits) == bits) (nat_lt 0 (whole bits)) (nat_lt (whole bits) (2 ^ 32)) (whole bits) e refl
asks_small k false bits e = omega arith

created_small : (k : Asked) (v : Option ℕ) → IsSmall (created k v).phase
created_small k None = omega arith
created_small k (Some bits) = asks_small k (is_id bits) bits refl

connected_small : (b : Bool) → IsSmall (if b then record { phase = Creating; says = client.chunk_size ∷ create_stream ∷ [] } else stays Connecting).phase
connected_small true = omega arith
connected_small false = omega arith

then_small : (k : Asked) (b : Bool) (v : Option ℕ) → IsSmall (if b then created k v else stays Creating).phase
then_small k true v = created_small k v
then_small k false v = omega arith

started_small : (id : ℕ) (b : Bool) → id < 2 ^ 32 → IsSmall (if b then stays (Started id) else stays (Asking id)).phase
started_small id true h = h
started_small id false h = h

news_small : (k : Asked) (p : Phase) (n : News) → IsSmall p → IsSmall (learns k p n).phase
news_small k Connecting (Done n v) h = connected_small (n == pattern 1)
news_small k Connecting (Refused code description) h = h
news_small k Connecting (Status code) h = h
news_small k Connecting Other h = h
news_small k Creating (Done n v) h = then_small k (n == pattern 2) v
news_small k Creating (Refused code description) h = h
news_small k Creating (Status code) h = h
news_small k Creating Other h = h
news_small k (Asking id) (Done n v) h = h
news_small k (Asking id) (Refused code description) h = h
news_small k (Asking id) (Status code) h = started_small id (is_text code (start_code k.wish)) h
news_small k (Asking id) Other h = h
news_small k (Started id) n h = h

read_small : (k : Asked) (p : Phase) (r : Result News CommandFail) → IsSmall p → IsSmall (learns_by k p r).phase
read_small k p (Ok n) h = news_small k p n h
read_small k p (Err e) h = h

kind_small : (k : Asked) (p : Phase) (b : Bool) (r : Result News CommandFail) → IsSmall p → IsSmall (if b then learns_by k p r else stays p).phase
kind_small k p true r h = read_small k p r h
kind_small k p false r h = h

by_small : (k : Asked) (p : Phase) (m : Message) (r : Result (Option Control) BadControl) → IsSmall p → IsSmall (does_by k p m r).phase
by_small k p m (Ok None) h = kind_small k p (m.kind == 20) (news_in m.body) h
by_small k p m (Ok (Some c)) h = h
by_small k p m (Err e) h = h

pub after_small : (k : Asked) (p : Phase) (ms : List (ℕ × Message)) → IsSmall p → IsSmall (phase_after k p ms)
unfolding phase_after does
after_small k p [] h = h
after_small k p (m ∷ ms) h = after_small k (does k p m.1).phase ms (by_small k p m.1 (control_in m.1) h)

-- ---- the law

module _ (k : Asked) (who window max : ℕ) (desk : Ask → Grant) (push : k.wish ≡ wish.Push) where
  abbrev d : Dialogue State
  d = session who window desk

  abbrev Q : Message → Type 0
  Q = NoStart k

  -- the dialogue over all messages and over those that are loud
  both : (C : List Own) (ms : List (ℕ × Message)) → Alike Q desk (pong_stays k) (talk d C ms) (talk d C (loud_placed ms))
  both C ms = alike_walk Q desk (pong_stays k) who window C (talking.fresh d) (talking.fresh d) ms (record { state = refl; made = refl; stuck = refl; said = λ h. h })

  -- a client that has started was told so, and then the units of the tags are published
  started_so : (n o id : ℕ) (ns ms : List (ℕ × Message)) (T : List Gave) (C : List Own) → HaveRead k d max n o ns ms T C → phase_of k ns ≡ Started id → Outcome Q desk who window id T (talk d C (loud_placed ms)) → published d ms C ≡ units T
  started_so n o id ns ms T C h e (inl silent) =
      let all : Every Q (owing.owed d o ms C) = every_owed Q d (λ j. other_stays k (ack_message j) refl) (λ s i. shows_stays k s i push) o ms C ((both C ms).said silent) in
      let mine : Every Q (bare ns) = every_front Q (bare ns) h.later (subst (Every Q) (sym h.told) all) in
      absurd (subst IsBefore e (before_after k Connecting ns tt mine))
  started_so n o id ns ms T C h e (inr done) = ap pushed (both C ms).made ∙ done.1 (sym (both C ms).stuck ∙ h.made)

  loud_are : (n o id : ℕ) (ns ms : List (ℕ × Message)) (T : List Gave) (C : List Own) → HaveRead k d max n o ns ms T C → phase_of k ns ≡ Started id → bare (loud_placed ms) ≡ connect k ∷ create_stream ∷ ask k id ∷ sents id T
  loud_are n o id ns ms T C h e = bare_loud ms ∙ ap loud h.heard ∙ loud_owed k max n ns T h.rise h.given ∙ ap (λ (p : Phase). asked_by k p ++ sents (id_of p) T) e

  -- THE LAW, where something was given
  pub push_some : (n o : ℕ) (ns ms : List (ℕ × Message)) (g : Gave) (T : List Gave) (C : List Own) → HaveRead k d max n o ns ms (g ∷ T) C → published d ms C ≡ units (g ∷ T)
  push_some n o ns ms g T C h =
      let s = start_phase k Connecting h.given.0 ns h.given.1 in
      let small : id_of (phase_of k ns) < 2 ^ 32 = after_small k Connecting ns (omega arith) in
      let id_low : s.0 < 2 ^ 32 = subst IsSmall s.1 small in
      let p : pattern s.0 < 2 ^ 64 = pattern_low s.0 (omega (arith, id_low)) in
      started_so n o s.0 ns ms (g ∷ T) C h s.1
      (push_walk Q desk who window (connected_stays k window) (created_stays k) (λ w. refused_stays k 1 w) k max (Rattle.session_owed.specs.Talk.hand_bytes + h.given.0) (Rattle.session_owed.specs.Talk.hand_bytes + n) s.0 C (g ∷ T) (loud_placed ms) (url_short k h.named) (omega (arith, h.named.name)) p push h.given.2
      (loud_are n o s.0 ns ms (g ∷ T) C h s.1))
