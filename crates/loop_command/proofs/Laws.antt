-- The two laws of a client and a session, over a run that is over
use Rattle.std.proofs.Common.{◌≡◌, ℕ, ◌-◌, ◌<◌, ◌≤◌, ◌^◌, Bool, true, false, nat_le, if◌then◌else◌, List, [], ◌∷◌, ◌++◌, length, reverse, refl, sym, ap, ◌∙◌, subst, arith}
use Rattle.std.proofs.Common.{append_assoc, append-nil, length-append}
use Rattle.std.specs.List.{concat}
use Rattle.std.proofs.lemmas.Bool.Decides.{nat_tests}
use Rattle.av_unit.specs.declared.item.Item.{Item}
use Rattle.av_unit.specs.declared.item.Item.TheVariants as item
use Rattle.chunk_law.specs.ReadBack.{AreReadable}
use Rattle.chunk_wire.specs.declared.message.Message.{Message}
use Rattle.chunk_writer.specs.WriterKnown.{fresh}
use Rattle.chunk_writer.specs.Written.{written}
use Rattle.command_dialog.specs.declared.types.Ask.{Ask}
use Rattle.command_dialog.specs.declared.types.Grant.{Grant}
use Rattle.flv_tags.specs.declared.tag.Tag.{Tag}
use Rattle.flv_tags.specs.Text.{flv_text}
use Rattle.relay_outside.specs.MemLinks.{MemLinkState}
use Rattle.rtmp_handshake.specs.Answer.{answered}
use Rattle.client_owed.specs.declared.types.Asked.{Asked}
use Rattle.client_owed.specs.declared.types.Gave.{Gave}
use Rattle.client_owed.specs.declared.types.Gift.{Gift}
use Rattle.client_owed.specs.declared.types.Gift.TheVariants as gift
use Rattle.client_owed.specs.declared.types.Wish.TheVariants as wish
use Rattle.client_owed.specs.Owed as client
use Rattle.client_owed.specs.Pulled.{pulled, pulled_from}
use Rattle.client_owed.specs.Standing.{is_finished}
use Rattle.session_owed.specs.Owed as session_owed
use Rattle.session_owed.specs.Published.{published, pushed_by}
use Rattle.session_owed.specs.Talk.{Own, hand_bytes, makes}
use Rattle.stream_registry.specs.Told.{Keeps, Step}
use Rattle.relay_session.specs.Session.{session}
use Rattle.client_law.specs.Laws.{HaveSent}
use Rattle.client_law.specs.Loud.{units}
use Rattle.client_law.specs.Pull.{HavePlayed, IsTold, gifts_of, items_sent}
use Rattle.client_law.specs.Room.{HaveRoom}
use Rattle.client_command.specs.Film.{tags_given}
use Rattle.client_command.specs.Gifts.{pull_text}
use Rattle.loop_command.specs.Desk.{dialogue, granted, max_message, player, publisher, puller, pusher, shape, window}
use Rattle.loop_command.specs.Lines.{ClientSide, IsPassed, most_passed}
use Rattle.loop_command.specs.Looped.{AreAmong, IsLooped, StandIn, units_in, units_of}
use Rattle.loop_command.specs.Sides.{SessionSide}
use Rattle.loop_command.proofs.Opening.{AreOpen, calls_open}
use Rattle.loop_command.proofs.Owned.{AreBy}
use Rattle.loop_command.proofs.Owning.{AreBoth, back_own, calls_by, own_units}
use Rattle.loop_command.proofs.Back.{Closes, Told, all_came, calls_room, last_is, none_later, text_closed, told_first, units_given}

-- ---- lengths

front_short : (a b c : List ℕ) → a ++ b ≡ c → length c ≤ most_passed → length b ≤ most_passed
front_short a b c e l = omega (arith, length-append a b, ap length e, l)

-- the chunks that a session owes
session_short : (who : ℕ) (x : List ℕ) (ms : List (ℕ × Message)) (C : List Own) (all : List ℕ) → all ≡ session_owed.out (dialogue who) x ms C
    → length all ≤ most_passed
    → length (written fresh (session_owed.owed (dialogue who) (session_owed.count_of (dialogue who) x) ms C)) ≤ 2 ^ 62
unfolding Rattle.session_owed.specs.Owed.out
session_short who x ms C all e l =
    let w = written fresh (session_owed.owed (dialogue who) (session_owed.count_of (dialogue who) x) ms C) in
    omega (arith, front_short (answered x) w all (sym e) l)

-- and those that a client owes, behind the handshake
client_short : (k : Asked) (y : List ℕ) (ns : List (ℕ × Message)) (T : List Gave) (all : List ℕ) → hand_bytes ≤ length y → all ≡ client.out k y ns T
    → length all ≤ most_passed
    → length (written fresh (client.owed k (length y - hand_bytes) ns T)) ≤ 2 ^ 62
unfolding Rattle.client_owed.specs.Owed.out
client_short k y ns T all g e l =
    let w = written fresh (client.owed k (length y - hand_bytes) ns T) in
    let t : nat_le hand_bytes (length y) ≡ true = grind (arith, nat_tests, g) in
    let tail = if nat_le hand_bytes (length y) then client.c2 y ++ w else [] in
    let is : tail ≡ client.c2 y ++ w = ap (λ (b : Bool). if b then client.c2 y ++ w else []) t in
    let short : length tail ≤ most_passed = front_short client.hello tail all (sym e) l in
    omega (arith, front_short (client.c2 y) w tail (sym is) short)

-- ---- what passed between them

-- all that one link took begins with what the other gave
pub passed_all : (a rest pieces handed : List ℕ) (gave : List ℕ) → gave ++ pieces ≡ handed → gave ≡ a ++ rest → a ++ (rest ++ pieces) ≡ handed
passed_all a rest pieces handed gave e g = sym (append_assoc a rest pieces) ∙ ap (λ (l : List ℕ). l ++ pieces) (sym g) ∙ e

none_more : (m : MemLinkState) → m.sent ≡ [] → m.handed ++ m.sent ≡ m.handed
none_more m e = ap (λ (l : List ℕ). m.handed ++ l) e ∙ append-nil m.handed

abbrev pub PushLaw : Type 0
PushLaw = (k : Asked) (who window max : ℕ) (desk : Ask → Grant) (x y : List ℕ) (ms ns : List (ℕ × Message)) (g : Gave) (T : List Gave) (C : List Own)
    → k.wish ≡ wish.Push → HaveSent k (session who window desk) max x y ms ns (g ∷ T) C → published (session who window desk) ms C ≡ units (g ∷ T)

abbrev pub PullLaw : Type 0
PullLaw = (k : Asked) (who window max : ℕ) (desk : Ask → Grant) (x y : List ℕ) (ms ns : List (ℕ × Message)) (T : List Gave) (C : List Own)
    → k.wish ≡ wish.Pull → HavePlayed k (session who window desk) max x y ms ns T C → IsTold k ns C

abbrev pub ReadableLaw : Type 0
ReadableLaw = (who window max n : ℕ) (desk : Ask → Grant) (ms : List (ℕ × Message)) (C : List Own) → 4096 ≤ max → max ≤ 4194304 → HaveRoom max C
    → AreReadable max (session_owed.owed (session who window desk) n ms C)

module _ (push_law : PushLaw) (pull_law : PullLaw) (readable : ReadableLaw) (history : List Step) (room : HaveRoom max_message history) where
  side_room : (who : ℕ) (m : MemLinkState) (x : List ℕ) (C : List Own) → SessionSide who m x C history → HaveRoom max_message C
  side_room who m x C s = calls_room max_message shape C history s.stand room

  side_readable : (who : ℕ) (m : MemLinkState) (x : List ℕ) (C : List Own) (s : SessionSide who m x C history)
      → AreReadable max_message (session_owed.owed (dialogue who) (session_owed.count_of (dialogue who) x) s.ms C)
  side_readable who m x C s = readable who window max_message (session_owed.count_of (dialogue who) x) granted s.ms C (omega arith) (omega arith)
      (side_room who m x C s)

  -- ---- the publisher

  sent_all : (T : List Gave) (gifts : List Gift) (near far : MemLinkState) (forth back : ℕ) (x : List ℕ) (C : List Own) → is_finished T ≡ true
      → ClientSide pusher near T gifts [] → (s : SessionSide publisher far x C history) → IsPassed near far forth → IsPassed far near back
      → length x ≡ forth → published (dialogue publisher) s.ms C ≡ units T
  unfolding is_finished
  sent_all [] gifts near far forth back x C f c s p q l = absurd (let e : false ≡ true = f in cc)
  sent_all (g ∷ T) gifts near far forth back x C f c s p q l =
      let came : x ++ (s.rest ++ concat far.pieces) ≡ near.handed = passed_all x s.rest (concat far.pieces) near.handed far.gave p.came s.gave in
      let all : x ≡ near.handed = all_came x (s.rest ++ concat far.pieces) near.handed came (l ∙ p.total_is) in
      let owed : near.handed ≡ client.out pusher c.y c.ms (g ∷ T) = sym (none_more near p.none) ∙ sym (append-nil (near.handed ++ near.sent)) ∙ c.took in
      let owes : far.handed ≡ session_owed.out (dialogue publisher) x s.ms C = sym (none_more far q.none) ∙ s.owes in
      push_law pusher publisher window max_message granted x c.y s.ms c.ms g T C refl (record {
        named = record { address = omega arith; app = omega arith; name = omega arith };
        least = omega arith;
        most = omega arith;
        greeted = greeted c.early;
        given = c.given;
        sent = all ∙ owed;
        rest = c.rest ++ concat near.pieces;
        told = passed_all c.y c.rest (concat near.pieces) far.handed near.gave q.came c.gave ∙ owes;
        session_read = s.read;
        client_read = c.read;
        session_says = side_readable publisher far x C s;
        near = session_short publisher x s.ms C far.handed owes (omega (arith, q.total_is, q.few));
        made = s.talks.stuck;
      })
    where
      greeted : (length c.y < hand_bytes → (c.ms ≡ []) × (g ∷ T ≡ [])) → hand_bytes ≤ length c.y
      greeted e = by_test (nat_le hand_bytes (length c.y)) refl
        where
          by_test : (b : Bool) → nat_le hand_bytes (length c.y) ≡ b → hand_bytes ≤ length c.y
          by_test true t = grind (arith, nat_tests, t)
          by_test false t = absurd (let n : g ∷ T ≡ [] = (e (grind (arith, nat_tests, t))).1 in cc)

  -- ---- the player

  nothing_told : (k : Asked) (ns : List (ℕ × Message)) (g : Gift) (gs : List Gift) → ns ≡ [] → g ∷ gs ≡ pulled k ns → ⊥
  unfolding pulled_from
  nothing_told k ns g gs e t = absurd (let f : g ∷ gs ≡ [] = t ∙ ap (pulled k) e in cc)

  told_all : (before after : List Gift) (more : List ℕ) (near far : MemLinkState) (forth back : ℕ) (x : List ℕ) (C : List Own)
      → ClientSide puller near [] ((before ++ gift.Unpublished ∷ []) ++ after) more → length more ≡ 0
      → (s : SessionSide player far x C history) → IsPassed near far forth → IsPassed far near back
      → Told (before ++ gift.Unpublished ∷ []) (items_sent C)
  told_all before after more near far forth back x C c none s p q =
      let owed : near.handed ++ more ≡ client.out puller c.y c.ms [] = ap (λ (l : List ℕ). l ++ more) (sym (none_more near p.none)) ∙ c.took in
      let owes : far.handed ≡ session_owed.out (dialogue player) x s.ms C = sym (none_more far q.none) ∙ s.owes in
      let t = pull_law puller player window max_message granted x c.y s.ms c.ms [] C refl (record {
        named = record { address = omega arith; app = omega arith; name = omega arith };
        least = omega arith;
        most = omega arith;
        given = tt;
        rest = (s.rest ++ concat far.pieces) ++ more;
        sent = sym (append_assoc x (s.rest ++ concat far.pieces) more)
            ∙ ap (λ (l : List ℕ). l ++ more) (passed_all x s.rest (concat far.pieces) near.handed far.gave p.came s.gave) ∙ owed;
        left = c.rest ++ concat near.pieces;
        told = passed_all c.y c.rest (concat near.pieces) far.handed near.gave q.came c.gave ∙ owes;
        session_read = s.read;
        client_read = c.read;
        client_near = client_short puller c.y c.ms [] (near.handed ++ more) greeted owed
            (omega (arith, length-append near.handed more, none, p.total_is, p.few));
        session_says = side_readable player far x C s;
        session_near = session_short player x s.ms C far.handed owes (omega (arith, q.total_is, q.few));
        early = s.early;
        plays = s.rise;
      }) in
      told_first (before ++ gift.Unpublished ∷ []) (after ++ t.0) (items_sent C)
      (sym (append_assoc (before ++ gift.Unpublished ∷ []) after t.0) ∙ ap (λ (l : List Gift). l ++ t.0) c.told ∙ t.1)
    where
      some_told : (before : List Gift) → (before ++ gift.Unpublished ∷ []) ++ after ≡ pulled puller c.ms → c.ms ≡ [] → ⊥
      some_told [] e n = nothing_told puller c.ms gift.Unpublished after n e
      some_told (g ∷ gs) e n = nothing_told puller c.ms g ((gs ++ gift.Unpublished ∷ []) ++ after) n e

      greeted : hand_bytes ≤ length c.y
      greeted = by_test (nat_le hand_bytes (length c.y)) refl
        where
          by_test : (b : Bool) → nat_le hand_bytes (length c.y) ≡ b → hand_bytes ≤ length c.y
          by_test true t = grind (arith, nat_tests, t)
          by_test false t = absurd (some_told before c.told (c.early (grind (arith, nat_tests, t))).0)

  -- ---- both

  looped_by : (file : List Tag) (publishes plays : List Own) (before : List Gift) → Keeps shape history → StandIn publishes history
      → StandIn plays history → pushed_by publishes ≡ units_of file → AreBoth history publishes plays → AreBy publisher publishes → AreBy player plays
      → AreOpen (reverse (makes publishes))
      → (t : Told (before ++ gift.Unpublished ∷ []) (items_sent plays)) → t.later ≡ [] → Closes t.told
      → IsLooped file (pull_text (before ++ gift.Unpublished ∷ []))
  looped_by file publishes plays before keeps s u units both mine its inside t none c =
      let all : items_sent plays ≡ c.before ++ item.End ∷ [] = sym t.all ∙ ap (λ (l : List Item). t.told ++ l) none ∙ append-nil t.told ∙ c.last in
      record {
        history = history;
        keeps = keeps;
        publishes = publishes;
        published = s;
        pushed = units;
        own = own_units history publishes plays keeps s u both mine its inside ∙ units;
        plays = plays;
        played = u;
        before = c.before;
        sent = all;
        back = subst (AreAmong (units_in (items_sent plays))) units (back_own history publishes plays keeps s u both mine its inside);
        text_is = ap pull_text (sym t.gifts ∙ ap gifts_of c.last) ∙ text_closed c.before ∙ ap flv_text (sym all);
      }

  -- A RUN THAT IS OVER: the client that plays was told as much as its session was sent
  pub looped : (file : List Tag) (T : List Gave) (gifts before after : List Gift) (unsent : List ℕ) (n f n' f' : MemLinkState) (a b a' b' : ℕ)
      (x x' : List ℕ) (C D : List Own) → Keeps shape history → AreBoth history C D
      → is_finished T ≡ true → tags_given T ≡ file → ClientSide pusher n T gifts [] → SessionSide publisher f x C history → IsPassed n f a
      → IsPassed f n b → length x ≡ a
      → ClientSide puller n' [] ((before ++ gift.Unpublished ∷ []) ++ after) unsent → length unsent ≡ 0 → SessionSide player f' x' D history
      → IsPassed n' f' a' → IsPassed f' n' b'
      → length (items_sent D) ≤ length (before ++ gift.Unpublished ∷ []) → IsLooped file (pull_text (before ++ gift.Unpublished ∷ []))
  looped file T gifts before after unsent n f n' f' a b a' b' x x' C D keeps both done tags c s p q all c' none s' p' q' few =
      let published_is = sent_all T gifts n f a b x C done c s p q all in
      let t = told_all before after unsent n' f' a' b' x' D c' none s' p' q' in
      looped_by file C D before keeps s.stand s'.stand (s.units ∙ published_is ∙ units_given T file tags) both
      (calls_by (dialogue publisher) C s.ms s.talks.made) (calls_by (dialogue player) D s'.ms s'.talks.made)
      (calls_open publisher window granted C s.ms s.talks.made) t
      (none_later (before ++ gift.Unpublished ∷ []) (items_sent D) t few) (last_is t.told before t.gifts)
