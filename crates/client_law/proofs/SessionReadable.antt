-- What a session owes can be written and read, where each item that it was sent has room in a message
use Rattle.std.proofs.Common.{◌≡◌, ◌⊎◌, inl, inr, ℕ, suc, ◌≤◌, ◌^◌, Bool, true, false, ◌==◌, ◌&&◌, ◌||◌, nat_le, nat_eq, if◌then◌else◌, List, [], ◌∷◌, ◌++◌, length, Option, Some, None, Result, Ok, Err, refl, sym, ap, subst, arith}
use Rattle.std.specs.List.{All}
use Rattle.relay_base.specs.Numbers.{be32_of}
use Rattle.av_unit.specs.declared.item.Item.{Item}
use Rattle.av_unit.specs.declared.item.Item.TheVariants as item
use Rattle.chunk_wire.specs.declared.message.Message.{Message}
use Rattle.chunk_reader.specs.Control.{refused_size}
use Rattle.chunk_writer.specs.Rule.{is_written}
use Rattle.chunk_law.specs.ReadBack.{AreReadable, IsReadable}
use Rattle.ack_window.specs.declared.control.Control.{Control}
use Rattle.ack_window.specs.declared.control.Control.TheVariants.{ChunkSize, Abort, Acknowledgement, User, Window, Bandwidth}
use Rattle.ack_window.specs.declared.control.BadControl.{BadControl}
use Rattle.ack_window.specs.Controls.{control_in, ping_answer_of}
use Rattle.ack_window.specs.Window.{window_of}
use Rattle.rtmp_command.specs.declared.answer.Answer.TheVariants as answer
use Rattle.rtmp_command.proofs.Lengths.{body_of_short}
use Rattle.command_dialog.specs.declared.types.Ask.{Ask}
use Rattle.command_dialog.specs.declared.types.Grant.{Grant}
use Rattle.command_dialog.specs.Dialog as dialog
use Rattle.command_dialog.specs.State.{State, fresh}
use Rattle.command_dialog.specs.Writable.{HasIds, IsOn, IsSaid, IsShown}
use Rattle.command_dialog.specs.Writable as shown
use Rattle.stream_model.specs.declared.calls.Call.{Call}
use Rattle.stream_model.specs.declared.replies.Reply.{Reply}
use Rattle.stream_model.specs.declared.replies.Reply.TheVariants as reply
use Rattle.session_owed.specs.Acks.{acks_at}
use Rattle.session_owed.specs.Dialogue.{Dialogue, Step}
use Rattle.session_owed.specs.Owed.{at_count, owed, upto}
use Rattle.session_owed.specs.Talk.{Own, Talk, calling, does_at, goes, is_at, is_take, item_of, items_at, one, reply_at, resumed, said_if, says_at, state_at, state_if, talk, told_of, walk}
use Rattle.session_owed.specs.Talk as talking
use Rattle.relay_session.specs.Session.{does, does_by, pongs, session, told}
use Rattle.client_law.specs.Loud.{Every, EverySaid}
use Rattle.client_law.specs.Room.{BringsRoom, HasRoom, HaveRoom}
use Rattle.client_law.proofs.Alike.{every_join, said_join}
use Rattle.client_law.proofs.Push.{every_acks, every_if, every_says, every_upto}
use Rattle.client_law.proofs.Readable.{ack_fits, sizes_nothing, user_fits}

every_all : (P Q : Message → Type 0) (ms : List Message) → ((m : Message) → P m → Q m) → All P ms → Every Q ms
every_all P Q [] f h = tt
every_all P Q (m ∷ ms) f h = (f m (h 0 m (omega arith)), every_all P Q ms f (λ k d l. h (suc k) d (omega (arith, l))))

every_both : (P R Q : Message → Type 0) (ms : List Message) → ((m : Message) → P m → R m → Q m) → Every P ms → Every R ms → Every Q ms
every_both P R Q [] f h i = tt
every_both P R Q (m ∷ ms) f h i = (f m h.0 i.0, every_both P R Q ms f h.1 i.1)

-- ---- a message that is said or shown

said_kind : (kind : ℕ) → ((kind ≡ 1) ⊎ ((kind ≡ 4) ⊎ ((kind ≡ 5) ⊎ ((kind ≡ 6) ⊎ (kind ≡ 20))))) → is_written kind ≡ true
said_kind kind (inl e) = ap is_written e
said_kind kind (inr (inl e)) = ap is_written e
said_kind kind (inr (inr (inl e))) = ap is_written e
said_kind kind (inr (inr (inr (inl e)))) = ap is_written e
said_kind kind (inr (inr (inr (inr e)))) = ap is_written e

none_refused : (a b : Bool) (n : ℕ) → (if a && (b && false) then Some n else None) ≡ None
none_refused true true n = refl
none_refused true false n = refl
none_refused false b n = refl

tells_size : (m : Message) → be32_of m.body ≡ 4096 → refused_size m ≡ None
unfolding refused_size
tells_size m e =
    subst (λ (n : ℕ). (if nat_eq m.kind 1 && (nat_le 4 (length m.body) && (nat_eq n 0 || nat_le (2 ^ 31) n)) then Some n else None) ≡ None) (sym e)
    (none_refused (nat_eq m.kind 1) (nat_le 4 (length m.body)) 4096)

other_kind : (m : Message) (kind : ℕ) → nat_eq kind 1 ≡ false → m.kind ≡ kind → refused_size m ≡ None
other_kind m kind n e = sizes_nothing m (subst (λ (x : ℕ). nat_eq x 1 ≡ false) (sym e) n)

said_size : (m : Message) → ((m.kind ≡ 1) ⊎ ((m.kind ≡ 4) ⊎ ((m.kind ≡ 5) ⊎ ((m.kind ≡ 6) ⊎ (m.kind ≡ 20))))) → (m.kind ≡ 1 → be32_of m.body ≡ 4096) → refused_size m ≡ None
said_size m (inl e) s = tells_size m (s e)
said_size m (inr (inl e)) s = other_kind m 4 refl e
said_size m (inr (inr (inl e))) s = other_kind m 5 refl e
said_size m (inr (inr (inr (inl e)))) s = other_kind m 6 refl e
said_size m (inr (inr (inr (inr e)))) s = other_kind m 20 refl e

shown_kind : (kind : ℕ) → ((kind ≡ 4) ⊎ ((kind ≡ 8) ⊎ ((kind ≡ 9) ⊎ ((kind ≡ 18) ⊎ (kind ≡ 20))))) → (is_written kind ≡ true) × (nat_eq kind 1 ≡ false)
shown_kind kind (inl e) = (ap is_written e, ap (λ (k : ℕ). nat_eq k 1) e)
shown_kind kind (inr (inl e)) = (ap is_written e, ap (λ (k : ℕ). nat_eq k 1) e)
shown_kind kind (inr (inr (inl e))) = (ap is_written e, ap (λ (k : ℕ). nat_eq k 1) e)
shown_kind kind (inr (inr (inr (inl e)))) = (ap is_written e, ap (λ (k : ℕ). nat_eq k 1) e)
shown_kind kind (inr (inr (inr (inr e)))) = (ap is_written e, ap (λ (k : ℕ). nat_eq k 1) e)

module _ (max : ℕ) (least : 4096 ≤ max) (most : max ≤ 4194304) where
  abbrev Q : Message → Type 0
  Q = IsReadable max

  said_fits : (m : Message) → IsSaid m → IsOn m → Q m
  said_fits m s o = record { kind = said_kind m.kind s.kind; stream = omega (arith, o); time = s.time; short = omega (arith, s.short); fits = omega (arith, s.short, least); sized = said_size m s.kind s.size }

  shown_fits : (m : Message) → length m.body ≤ max → IsShown m → IsOn m → Q m
  shown_fits m f s o =
      let k = shown_kind m.kind s.kind in
      record { kind = k.0; stream = omega (arith, o); time = s.time; short = s.short; fits = f; sized = sizes_nothing m k.1 }

  says_fit : (ms : List Message) → All IsSaid ms → All IsOn ms → Every Q ms
  says_fit ms s o = every_both IsSaid IsOn Q ms said_fits (every_all IsSaid IsSaid ms (λ m h. h) s) (every_all IsOn IsOn ms (λ m h. h) o)

  -- the bodies of what is shown
  abbrev IsShort : Message → Type 0
  IsShort m = length m.body ≤ max

  shown_short : (id : ℕ) (i : Item) → HasRoom max i → Every IsShort (dialog.shown id i)
  shown_short id item.Begin r = (omega (arith, least), (omega (arith, least, body_of_short answer.PublishNotify), tt))
  shown_short id (item.Unit u) r = (r.0, tt)
  shown_short id item.End r = (omega (arith, least), (omega (arith, least, body_of_short answer.UnpublishNotify), tt))

  room_of : (i : Item) → HasRoom max i → shown.HasRoom i
  room_of item.Begin r = tt
  room_of (item.Unit u) r = (omega (arith, r.0, most), r.1)
  room_of item.End r = tt

  shows_short : (s : State) (i : Item) → HasRoom max i → Every IsShort (dialog.shows s i)
  unfolding Rattle.command_dialog.specs.Dialog.shows
  shows_short s i r = by_phase s.phase
    where
      by_phase : (p : _) → Every IsShort (dialog.shown_in p i)
      by_phase (Rattle.command_dialog.specs.declared.types.Phase.TheVariants.Plays p) = shown_short p.id i r
      by_phase Rattle.command_dialog.specs.declared.types.Phase.TheVariants.Idle = tt
      by_phase (Rattle.command_dialog.specs.declared.types.Phase.TheVariants.Asked q id) = tt
      by_phase (Rattle.command_dialog.specs.declared.types.Phase.TheVariants.Publishes id size) = tt

  pongs_fit : (c : Control) → Every Q (pongs (ping_answer_of c))
  pongs_fit (ChunkSize size) = tt
  pongs_fit (Abort id) = tt
  pongs_fit (Acknowledgement count) = tt
  pongs_fit (User event value) = by_event (event == 6)
    where
      by_event : (b : Bool) → Every Q (pongs (if b then Some (User 7 value) else None))
      by_event true = (user_fits max least most value, tt)
      by_event false = tt
  pongs_fit (Window size) = tt
  pongs_fit (Bandwidth size limit) = tt

  -- the laws of the dialogue
  module _ (said_message : (desk : Ask → Grant) (s : State) (m : Message) → All IsSaid (dialog.does desk s m).says) (said_reply : (s : State) (r : Reply) → All IsSaid (dialog.told s r).says)
      (shown_item : (s : State) (i : Item) → shown.HasRoom i → All IsShown (dialog.shows s i)) (first_ids : (window : ℕ) → HasIds (fresh window))
      (ids_message : (desk : Ask → Grant) (s : State) (m : Message) → HasIds s → HasIds (dialog.does desk s m).state) (on_message : (desk : Ask → Grant) (s : State) (m : Message) → HasIds s → All IsOn (dialog.does desk s m).says)
      (ids_reply : (s : State) (r : Reply) → HasIds s → HasIds (dialog.told s r).state) (on_reply : (s : State) (r : Reply) → HasIds s → All IsOn (dialog.told s r).says)
      (on_item : (s : State) (i : Item) → HasIds s → All IsOn (dialog.shows s i)) where
    shows_fit : (s : State) (i : Item) → HasIds s → HasRoom max i → Every Q (dialog.shows s i)
    shows_fit s i h r =
        let ms = dialog.shows s i in
        let both : Every (λ m. IsShort m × IsShown m) ms = every_both IsShort IsShown (λ m. IsShort m × IsShown m) ms (λ m f g. (f, g)) (shows_short s i r) (every_all IsShown IsShown ms (λ m x. x) (shown_item s i (room_of i r))) in
        every_both (λ m. IsShort m × IsShown m) IsOn Q ms (λ m f o. shown_fits m f.0 f.1 o) both (every_all IsOn IsOn ms (λ m x. x) (on_item s i h))

    module _ (who window : ℕ) (desk : Ask → Grant) where
      abbrev d : Dialogue State
      d = session who window desk

      -- a step that says what can be read, in a state with these ids
      record Fits (s : State) (l : List Message) : Type 0 where
        pub ids : HasIds s
        pub says : Every Q l

      does_by_fits : (s : State) (m : Message) (r : Result (Option Control) BadControl) → HasIds s → Fits (does_by desk s m r).state (does_by desk s m r).says
      does_by_fits s m (Ok None) h = record { ids = ids_message desk s m h; says = says_fit (dialog.does desk s m).says (said_message desk s m) (on_message desk s m h) }
      does_by_fits s m (Ok (Some c)) h = record { ids = h; says = pongs_fit c }
      does_by_fits s m (Err e) h = record { ids = h; says = tt }

      does_fits : (s : State) (m : Message) → HasIds s → Fits (does desk s m).state (does desk s m).says
      unfolding does
      does_fits s m h = does_by_fits s m (control_in m) h

      told_fits : (s : State) (r : Reply) → HasIds s → Fits (told s r).state (told s r).says
      unfolding told
      told_fits s r h = record { ids = ids_reply s r h; says = says_fit (dialog.told s r).says (said_reply s r) (on_reply s r h) }

      -- ---- the dialogue over messages

      abbrev EveryState : List (ℕ × State) → Type 0
      EveryState [] = Unit {0}
      EveryState (e ∷ es) = HasIds e.1 × EveryState es

      states_join : (es : List (ℕ × State)) (e : ℕ × State) → EveryState es → HasIds e.1 → EveryState (es ++ e ∷ [])
      states_join [] e x y = (y, tt)
      states_join (f ∷ es) e x y = (x.0, states_join es e x.1 y)

      record Sound (t : Talk State) : Type 0 where
        pub now : HasIds t.state
        pub states : EveryState t.states
        pub said : EverySaid Q t.said

      goes_sound : (C : List Own) (n : ℕ) (t : Talk State) (o : Option Call) → Sound t → Sound (goes d C n t o)
      goes_sound C n t None h = h
      goes_sound C n t (Some c) h = by_reply (reply_at n C)
        where
          by_reply : (o : Option Reply) → Sound (resumed d n (calling d n t c) o)
          by_reply None = record { now = h.now; states = h.states; said = h.said }
          by_reply (Some r) =
              let f = told_fits t.state r h.now in
              record { now = f.ids; states = states_join t.states (n, (told t.state r).state) h.states f.ids; said = said_join Q t.said (n, (told t.state r).says) h.said f.says }

      does_sound : (C : List Own) (n : ℕ) (t : Talk State) (s : Step State) → Fits s.state s.says → Sound t → Sound (does_at d C n t s)
      does_sound C n t s f h =
          goes_sound C n (talking.started d n t s) s.makes
          (record { now = f.ids; states = states_join t.states (n, s.state) h.states f.ids; said = said_join Q t.said (n, s.says) h.said f.says })

      one_sound : (C : List Own) (t : Talk State) (m : ℕ × Message) → Sound t → Sound (one d C t m)
      unfolding one
      one_sound C t m h = by_stuck t.stuck
        where
          by_stuck : (b : Bool) → Sound (if b then t else does_at d C m.0 t (does desk t.state m.1))
          by_stuck true = h
          by_stuck false = does_sound C m.0 t (does desk t.state m.1) (does_fits t.state m.1 h.now) h

      walk_sound : (C : List Own) (t : Talk State) (ms : List (ℕ × Message)) → Sound t → Sound (walk d C t ms)
      unfolding walk
      walk_sound C t [] h = h
      walk_sound C t (m ∷ ms) h = walk_sound C (one d C t m) ms (one_sound C t m h)

      talk_sound : (C : List Own) (ms : List (ℕ × Message)) → Sound (talk d C ms)
      talk_sound C ms = walk_sound C (talking.fresh d) ms (record { now = first_ids window; states = tt; said = tt })

      -- ---- all that is owed

      state_ids : (n : ℕ) (s : State) (es : List (ℕ × State)) → HasIds s → EveryState es → HasIds (state_at n s es)
      unfolding state_at
      state_ids n s [] h x = h
      state_ids n s (e ∷ es) h x = state_ids n (state_if (nat_le e.0 n) e.1 s) es (by_test (nat_le e.0 n)) x.1
        where
          by_test : (b : Bool) → HasIds (state_if b e.1 s)
          by_test true = x.0
          by_test false = h

      reply_fits : (s : State) (r : Reply) → HasIds s → BringsRoom max r → Every Q (talking.shown d s r)
      reply_fits s (reply.Sent from n i) h b = shows_fit s i h b
      reply_fits s (reply.Began n) h b = tt
      reply_fits s (reply.InUse by) h b = tt
      reply_fits s (reply.Pushed n) h b = tt
      reply_fits s (reply.NotPublisher live) h b = tt
      reply_fits s (reply.Ended n) h b = tt
      reply_fits s (reply.Joined player from) h b = tt
      reply_fits s reply.Full h b = tt
      reply_fits s reply.NotPlayer h b = tt
      reply_fits s (reply.Skip from to) h b = tt
      reply_fits s (reply.NotYet end) h b = tt
      reply_fits s (reply.Left player) h b = tt
      reply_fits s (reply.Counts began pushed ended joined skips) h b = tt
      reply_fits s (reply.NoSlot slots) h b = tt

      items_fit : (s : State) (n : ℕ) (C : List Own) → HasIds s → HaveRoom max C → Every Q (items_at d s n C)
      unfolding items_at
      items_fit s n [] h r = tt
      items_fit s n (c ∷ C) h r =
          every_join Q (said_if (is_at n c) (item_of d s c)) (items_at d s n C)
          (every_if Q (is_at n c) (item_of d s c) (every_if Q (is_take c.0.call) (talking.shown d s c.1) (reply_fits s c.1 h r.0))) (items_fit s n C h r.1)

      count_fits : (t : Talk State) (ms : List (ℕ × Message)) (C : List Own) (n : ℕ) → Sound t → HaveRoom max C → Every Q (at_count d t ms C n)
      unfolding at_count Rattle.session_owed.specs.Owed.talk_at
      count_fits t ms C n h r =
          let s = state_at n d.start t.states in
          every_join Q (acks_at (window_of d.window) ms n) (says_at n t.said ++ items_at d s n C) (every_acks Q (window_of d.window) n ms (ack_fits max least most))
          (every_join Q (says_at n t.said) (items_at d s n C) (every_says Q n t.said h.said) (items_fit s n C (state_ids n d.start t.states (first_ids window) h.states) r))

      pub session_readable : (n : ℕ) (ms : List (ℕ × Message)) (C : List Own) → HaveRoom max C → AreReadable max (owed (session who window desk) n ms C)
      unfolding owed
      session_readable n ms C r =
          let t = talk d C ms in
          are_all (upto (at_count d t ms C) n) (every_upto Q (at_count d t ms C) n (λ j. count_fits t ms C j (talk_sound C ms) r))
        where
          are_all : (l : List Message) → Every Q l → AreReadable max l
          are_all [] h = tt
          are_all (m ∷ l) h = (h.0, are_all l h.1)
