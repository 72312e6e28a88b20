-- THE DIALOGUE OF A SESSION over what a client that plays sends, in stages, with control messages anywhere
use Rattle.std.proofs.Common.{◌≡◌, ℕ, ◌<◌, ◌≤◌, ◌^◌, ◌⊎◌, inl, inr, Bool, true, false, ◌==◌, if◌then◌else◌, List, [], ◌∷◌, ◌++◌, length, Option, Some, None, refl, sym, ap, ◌∙◌, subst, arith}
use Rattle.std.specs.Option.{is_some}
use Rattle.std.proofs.lemmas.Bool.{cases_eq}
use Rattle.amf0_value.specs.Pattern.{pattern}
use Rattle.rtmp_command.specs.declared.answer.Why.TheVariants as why
use Rattle.chunk_wire.specs.declared.message.Message.{Message}
use Rattle.ack_window.specs.declared.control.Control.{Control}
use Rattle.ack_window.specs.declared.control.Control.TheVariants.{ChunkSize, Abort, Acknowledgement, User, Window, Bandwidth}
use Rattle.ack_window.specs.Controls.{ping_answer_of}
use Rattle.command_dialog.specs.declared.types.Ask.{Ask}
use Rattle.command_dialog.specs.declared.types.Grant.{Grant}
use Rattle.command_dialog.specs.declared.types.Grant.TheVariants as grant
use Rattle.command_dialog.specs.State.{State, fresh, playing_in}
use Rattle.command_dialog.specs.Words.{app_in, name_in}
use Rattle.command_dialog.specs.declared.types.Act.TheVariants as act
use Rattle.command_dialog.specs.Dialog as dialog
use Rattle.stream_model.specs.declared.calls.Call.TheVariants as call
use Rattle.stream_model.specs.declared.replies.Reply.{Reply}
use Rattle.session_owed.specs.Dialogue.{Dialogue, Step, Told}
use Rattle.session_owed.specs.Talk.{Own, Talk, calling, does_at, goes, one, reply_at, resumed, started, told_of, walk}
use Rattle.relay_session.specs.Session.{does, pongs, session, told}
use Rattle.client_owed.specs.declared.types.Asked.{Asked}
use Rattle.client_owed.specs.declared.types.Wish.{Wish}
use Rattle.client_owed.specs.declared.types.Wish.TheVariants as wish
use Rattle.client_owed.specs.Client.{ask, asks, command, connect, create_stream, delete_stream, tc_url}
use Rattle.client_law.specs.Loud.{Every, Rise, bare, flat, is_loud, keep, loud, louds}
use Rattle.client_law.specs.Pull.{Plays}
use Rattle.client_law.proofs.Alike.{Idles, idles}
use Rattle.client_law.proofs.Answered as answered
use Rattle.client_law.proofs.Answered.{Known, known_connected, known_created, known_none, known_refused, known_started}
use Rattle.client_law.proofs.PlaySteps.{IsAnswered, asked_state, asking_play, idle_told, joined, play_answered, play_delete, play_does, play_of, play_on, play_passed, playing, playing_shows}
use Rattle.client_law.proofs.SoFar.{PlaysFrom, SoFar, so_later, so_quiet, so_said, so_starts}
use Rattle.client_law.proofs.Steps.{connect_does, create_does, idle, idle_delete}
use Rattle.client_law.proofs.Walks.{one_open}

-- ---- control messages

abbrev Quiet : Message → Type 0
Quiet m = is_loud m ≡ false

pong_quiet : (c : Control) → Every Quiet (pongs (ping_answer_of c))
pong_quiet (ChunkSize size) = tt
pong_quiet (Abort id) = tt
pong_quiet (Acknowledgement count) = tt
pong_quiet (User event value) = by_event (event == 6)
  where
    by_event : (b : Bool) → Every Quiet (pongs (if b then Some (User 7 value) else None))
    by_event true = (refl, tt)
    by_event false = tt
pong_quiet (Window size) = tt
pong_quiet (Bandwidth size limit) = tt

none_loud : (l : List Message) → Every Quiet l → loud l ≡ []
unfolding loud
none_loud [] h = refl
none_loud (m ∷ l) h = ap (λ b. keep b m (loud l)) h.0 ∙ none_loud l h.1

heads : (a b : Message) (l r : List Message) → a ∷ l ≡ b ∷ r → (a ≡ b) × (l ≡ r)
heads a b l r e = (cc, cc)

pub not_some : false ≡ true → ⊥
not_some e = cc

-- what a client that plays sends at most, but for control messages, and the last of it
abbrev pub sends_last : ℕ → List Message
sends_last id = delete_stream id ∷ []

abbrev pub sends_ask : Asked → ℕ → List Message
sends_ask k id = ask k id ∷ sends_last id

abbrev pub sends_create : Asked → ℕ → List Message
sends_create k id = create_stream ∷ sends_ask k id

abbrev pub sends_all : Asked → ℕ → List Message
sends_all k id = connect k ∷ sends_create k id

module _ (desk : Ask → Grant) (who window : ℕ) (k : Asked) (C : List Own) (id : ℕ) where
  abbrev d : Dialogue State
  d = session who window desk

  abbrev app : List ℕ
  app = app_in k.app

  abbrev Now : List Message → Option ℕ → ℕ → Talk State → Type 0
  Now F f lo t = SoFar F f lo t.said t.states t.state

  -- ---- where it stands, with what is to come of these messages

  pub record At (s : State) (W F : List Message) (f : Option ℕ) (lo : ℕ) (L : List Message) (t : Talk State) : Type 0 where
    pub state : t.state ≡ s
    pub stuck : t.stuck ≡ false
    pub more : List Message
    pub left : L ++ more ≡ W
    pub now : Now F f lo t

  -- no more comes, or a call waits
  pub record IsOver (lo : ℕ) (L : List Message) (t : Talk State) : Type 0 where
    pub answers : List Message
    pub from : Option ℕ
    pub known : Known k answers from
    pub now : Now answers from lo t
    pub over : (t.stuck ≡ true) ⊎ (L ≡ [])

  abbrev pub Fresh : ℕ → List Message → Talk State → Type 0
  Fresh = At (fresh window) (sends_all k id) [] None

  abbrev pub Connected : ℕ → List Message → Talk State → Type 0
  Connected = At (idle window app []) (sends_create k id) (answered.connected ∷ []) None

  abbrev pub Created : ℕ → List Message → Talk State → Type 0
  Created = At (idle window app (1 ∷ [])) (sends_ask k id) (answered.connected ∷ answered.created ∷ []) None

  abbrev pub Denied : ℕ → List Message → Talk State → Type 0
  Denied lo L t = (F : List Message) × Known k F None × At (idle window app (1 ∷ [])) (sends_last id) F None lo L t

  abbrev pub IsPlaying : ℕ → List Message → Talk State → Type 0
  IsPlaying lo L t =
      (player : ℕ) × (f : ℕ) × At (playing window app player) (delete_stream 1 ∷ []) (answered.connected ∷ answered.created ∷ answered.started ∷ []) (Some f) lo L t

  abbrev pub Stage : ℕ → List Message → Talk State → Type 0
  Stage lo L t = Fresh lo L t ⊎ (Connected lo L t ⊎ (Created lo L t ⊎ (Denied lo L t ⊎ (IsPlaying lo L t ⊎ IsOver lo L t))))

  -- ---- a control message

  record Still (F : List Message) (f : Option ℕ) (o : ℕ) (t u : Talk State) : Type 0 where
    state : u.state ≡ t.state
    stuck : u.stuck ≡ t.stuck
    now : Now F f o u

  still_if : (F : List Message) (f : Option ℕ) (lo o : ℕ) (t : Talk State) (v : Step State) (b : Bool) → t.stuck ≡ b → lo ≤ o → Idles Quiet t.state v → Now F f lo t → Still F f o t (if b then t else does_at d C o t v)
  still_if F f lo o t v true e l i h = record { state = refl; stuck = refl; now = so_later F f lo o t.said t.states t.state l h }
  still_if F f lo o t v false e l i h =
      let p : PlaysFrom f o v.state = subst (PlaysFrom f o) (sym i.state) (so_later F f lo o t.said t.states t.state l h).now in
      let s : Still F f o t (started d o t v) = record { state = i.state; stuck = sym e; now = so_quiet F f lo o t.said t.states t.state v.state v.says l (none_loud v.says i.says) p h } in
      subst (λ c. Still F f o t (goes d C o (started d o t v) c)) (sym i.makes) s

  still : (F : List Message) (f : Option ℕ) (lo : ℕ) (t : Talk State) (m : ℕ × Message) → lo ≤ m.0 → is_loud m.1 ≡ false → Now F f lo t → Still F f m.0 t (one d C t m)
  unfolding one
  still F f lo t m l q h = still_if F f lo m.0 t (d.does t.state m.1) t.stuck refl l (idles Quiet desk pong_quiet t.state m.1 q) h

  at_still : (s : State) (W F : List Message) (f : Option ℕ) (lo : ℕ) (L : List Message) (t : Talk State) (m : ℕ × Message) → lo ≤ m.0 → is_loud m.1 ≡ false → At s W F f lo L t → At s W F f m.0 L (one d C t m)
  at_still s W F f lo L t m l q a =
      let r = still F f lo t m l q a.now in
      record { state = r.state ∙ a.state; stuck = r.stuck ∙ a.stuck; more = a.more; left = a.left; now = r.now }

  over_still : (L : List Message) (t u : Talk State) → u.stuck ≡ t.stuck → (t.stuck ≡ true) ⊎ (L ≡ []) → (u.stuck ≡ true) ⊎ (L ≡ [])
  over_still L t u e (inl h) = inl (e ∙ h)
  over_still L t u e (inr h) = inr h

  stage_still : (lo : ℕ) (L : List Message) (t : Talk State) (m : ℕ × Message) → lo ≤ m.0 → is_loud m.1 ≡ false → Stage lo L t → Stage m.0 L (one d C t m)
  stage_still lo L t m l q (inl a) = inl (at_still (fresh window) (sends_all k id) [] None lo L t m l q a)
  stage_still lo L t m l q (inr (inl a)) = inr (inl (at_still (idle window app []) (sends_create k id) (answered.connected ∷ []) None lo L t m l q a))
  stage_still lo L t m l q (inr (inr (inl a))) = inr (inr (inl (at_still (idle window app (1 ∷ [])) (sends_ask k id) (answered.connected ∷ answered.created ∷ []) None lo L t m l q a)))
  stage_still lo L t m l q (inr (inr (inr (inl a)))) = inr (inr (inr (inl (a.0, a.1, at_still (idle window app (1 ∷ [])) (sends_last id) a.0 None lo L t m l q a.2))))
  stage_still lo L t m l q (inr (inr (inr (inr (inl a))))) =
      inr (inr (inr (inr (inl (a.0, a.1, at_still (playing window app a.0) (delete_stream 1 ∷ []) (answered.connected ∷ answered.created ∷ answered.started ∷ []) (Some a.1) lo L t m l q a.2)))))
  stage_still lo L t m l q (inr (inr (inr (inr (inr a))))) =
      let r = still a.answers a.from lo t m l q a.now in
      inr (inr (inr (inr (inr (record { answers = a.answers; from = a.from; known = a.known; now = r.now; over = over_still L t (one d C t m) r.stuck a.over })))))

  -- ---- a command

  module _ (short_url : length (tc_url k) < 2 ^ 16) (short_name : length k.name < 2 ^ 16) (low : pattern id < 2 ^ 64) (pull : k.wish ≡ wish.Pull) where
    connects : (lo : ℕ) (x : Message) (L : List Message) (t : Talk State) (m : ℕ × Message) → lo ≤ m.0 → m.1 ≡ x → Fresh lo (x ∷ L) t → Connected m.0 L (one d C t m)
    unfolding loud
    connects lo x L t m l e a =
        let h = heads x (connect k) (L ++ a.more) (sends_create k id) a.left in
        let v : Step State = record { state = idle window app []; says = dialog.connected window (pattern 1); makes = None } in
        let o : one d C t m ≡ started d m.0 t v = one_open Quiet desk who window C t m (connect k) (fresh window) v a.stuck a.state (e ∙ h.0) (connect_does desk window k short_url) in
        subst (λ (u : Talk State). Connected m.0 L u) (sym o) (record { state = refl; stuck = refl; more = a.more; left = h.1; now = so_said [] (answered.connected ∷ []) lo m.0 t.said t.states t.state v.state v.says l refl not_some a.now })

    creates : (lo : ℕ) (x : Message) (L : List Message) (t : Talk State) (m : ℕ × Message) → lo ≤ m.0 → m.1 ≡ x → Connected lo (x ∷ L) t → Created m.0 L (one d C t m)
    unfolding loud
    creates lo x L t m l e a =
        let h = heads x create_stream (L ++ a.more) (sends_ask k id) a.left in
        let v : Step State = record { state = idle window app (1 ∷ []); says = answered.created ∷ []; makes = None } in
        let o : one d C t m ≡ started d m.0 t v = one_open Quiet desk who window C t m create_stream (idle window app []) v a.stuck a.state (e ∙ h.0) (create_does desk window app) in
        subst (λ (u : Talk State). Created m.0 L u) (sym o)
        (record { state = refl; stuck = refl; more = a.more; left = h.1; now = so_said (answered.connected ∷ []) (answered.created ∷ []) lo m.0 t.said t.states t.state v.state v.says l refl not_some a.now })

    -- what comes of a play
    abbrev Asked_to : ℕ → List Message → Talk State → Type 0
    Asked_to lo L t = Denied lo L t ⊎ (IsPlaying lo L t ⊎ IsOver lo L t)

    abbrev two : List Message
    two = answered.connected ∷ answered.created ∷ []

    refuses : (lo o : ℕ) (L more : List Message) (t : Talk State) (w : Rattle.rtmp_command.specs.declared.answer.Why.Why) → lo ≤ o → L ++ more ≡ (sends_last id) → Now two None lo t
        → Denied o L (record { state = idle window app (1 ∷ []); states = t.states ++ (o, idle window app (1 ∷ [])) ∷ []; said = t.said ++ (o, answered.refused w ∷ []) ∷ []; made = t.made; stuck = false })
    unfolding loud
    refuses lo o L more t w l e h = (
      two ++ answered.refused w ∷ [],
      known_refused k w,
      record { state = refl; stuck = refl; more = more; left = e; now = so_said two (answered.refused w ∷ []) lo o t.said t.states t.state (idle window app (1 ∷ [])) (answered.refused w ∷ []) l refl not_some h },
    )

    tells : (o : ℕ) (L more : List Message) (t : Talk State) (r : Told State) → id ≡ 1 → L ++ more ≡ (sends_last id) → Now two None o t → IsAnswered window app r → Asked_to o L (told_of d o t r)
    unfolding loud
    tells o L more t r i e h (inl j) =
        subst (λ (q : Told State). Asked_to o L (told_of d o t q)) (sym j.1)
        (inr (inl (
          j.0,
          o,
          record {
            state = refl;
            stuck = refl;
            more = more;
            left = e ∙ ap (λ (n : ℕ). delete_stream n ∷ []) i;
            now = so_starts two (answered.started ∷ []) o o t.said t.states t.state (joined window app j.0).state (joined window app j.0).says (omega arith) refl (λ x. playing_shows window j.0 app x) h;
          },
        )))
    tells o L more t r i e h (inr j) = subst (λ (q : Told State). Asked_to o L (told_of d o t q)) (sym j) (inl (refuses o o L more t why.Full (omega arith) e h))

    replies : (o : ℕ) (L more : List Message) (t : Talk State) (r : Option Reply) → t.stuck ≡ true → t.state ≡ asked_state window app → id ≡ 1 → L ++ more ≡ (sends_last id) → Now two None o t → Asked_to o L (resumed d o t r)
    replies o L more t None s st i e h = inr (inr (record { answers = two; from = None; known = known_created k; now = h; over = inl s }))
    replies o L more t (Some r) s st i e h =
        subst (λ (q : State). Asked_to o L (told_of d o t (told q r))) (sym st) (tells o L more t (told (asked_state window app) r) i e h (play_answered window app r))

    grants : (lo o : ℕ) (L more : List Message) (t : Talk State) (g : Grant) → lo ≤ o → id ≡ 1 → L ++ more ≡ (sends_last id) → Now two None lo t → Asked_to o L (goes d C o (started d o t (asking_play desk window app (name_in k.name) g)) (asking_play desk window app (name_in k.name) g).makes)
    unfolding loud
    grants lo o L more t grant.NoName l i e h = inl (refuses lo o L more t why.NoName l e h)
    grants lo o L more t grant.Refused l i e h = inl (refuses lo o L more t why.Refused l e h)
    grants lo o L more t (grant.Place place) l i e h =
        replies o L more (calling d o (started d o t (asking_play desk window app (name_in k.name) (grant.Place place))) (Rattle.command_dialog.specs.Dialog.call_of (act.Join place (name_in k.name)))) (reply_at o C) refl refl i e
        (so_quiet two None lo o t.said t.states t.state (asked_state window app) [] l refl not_some h)

    plays : (lo : ℕ) (x : Message) (L : List Message) (t : Talk State) (m : ℕ × Message) → lo ≤ m.0 → m.1 ≡ x → Created lo (x ∷ L) t → Asked_to m.0 L (one d C t m)
    plays lo x L t m l e a = by_id (cases_eq 1 id)
      where
        h : (x ≡ ask k id) × (L ++ a.more ≡ (sends_last id))
        h = heads x (ask k id) (L ++ a.more) (sends_last id) a.left

        mine : m.1 ≡ play_on desk id k.name
        mine = e ∙ h.0 ∙ ap (λ (w : Wish). command id (asks w k.name)) pull

        passed : Now two None m.0 (started d m.0 t (record { state = idle window app (1 ∷ []); says = []; makes = None }))
        passed = so_quiet two None lo m.0 t.said t.states t.state (idle window app (1 ∷ [])) [] l (none_loud [] tt) not_some a.now

        by_id : ((1 ≡ id) ⊎ (1 ≡ id → ⊥)) → Asked_to m.0 L (one d C t m)
        by_id (inr ne) =
            let v : Step State = record { state = idle window app (1 ∷ []); says = []; makes = None } in
            let o : one d C t m ≡ started d m.0 t v = one_open Quiet desk who window C t m (play_on desk id k.name) (idle window app (1 ∷ [])) v a.stuck a.state mine (play_passed desk window id app k.name short_name ne) in
            subst (λ (u : Talk State). Asked_to m.0 L u) (sym o) (inl (two, known_created k, record { state = refl; stuck = refl; more = a.more; left = h.1; now = passed }))
        by_id (inl q) =
            let g = desk (play_of desk app k.name) in
            let v = asking_play desk window app (name_in k.name) g in
            let o : one d C t m ≡ goes d C m.0 (started d m.0 t v) v.makes =
            one_open Quiet desk who window C t m (play_on desk 1 k.name) (idle window app (1 ∷ [])) v a.stuck a.state (mine ∙ ap (λ (n : ℕ). play_on desk n k.name) (sym q)) (play_does desk window app k.name short_name) in
            subst (λ (u : Talk State). Asked_to m.0 L u) (sym o) (grants lo m.0 L a.more t g l (sym q) h.1 a.now)

    -- ---- deleteStream

    no_more : (L more : List Message) → L ++ more ≡ [] → L ≡ []
    no_more [] more e = refl
    no_more (x ∷ L) more e = absurd cc

    idle_none : (s : State) → playing_in s.phase ≡ None → Plays s → ⊥
    idle_none s e p = not_some (sym (ap is_some e) ∙ p)

    closes_idle : (lo : ℕ) (x : Message) (L : List Message) (t : Talk State) (m : ℕ × Message) → lo ≤ m.0 → m.1 ≡ x → Denied lo (x ∷ L) t → IsOver m.0 L (one d C t m)
    closes_idle lo x L t m l e b =
        let a = b.2 in
        let h = heads x (delete_stream id) (L ++ a.more) [] a.left in
        let v : Step State = does desk (idle window app (1 ∷ [])) (delete_stream id) in
        let silent = idle_delete desk window id app low in
        let o : one d C t m ≡ goes d C m.0 (started d m.0 t v) v.makes = one_open Quiet desk who window C t m (delete_stream id) (idle window app (1 ∷ [])) v a.stuck a.state (e ∙ h.0) refl in
        let n : Now b.0 None m.0 (started d m.0 t v) = so_quiet b.0 None lo m.0 t.said t.states t.state v.state v.says l (ap loud silent.says ∙ none_loud [] tt) (idle_none v.state silent.idles) a.now in
        subst (λ (u : Talk State). IsOver m.0 L u) (sym (o ∙ ap (goes d C m.0 (started d m.0 t v)) silent.makes)) (record { answers = b.0; from = None; known = b.1; now = n; over = inr (no_more L a.more h.1) })

    left_replies : (F : List Message) (f : Option ℕ) (o : ℕ) (L : List Message) (t : Talk State) (r : Option Reply) → Known k F f → L ≡ [] → t.state ≡ idle window app [] → Now F f o t → PlaysFrom f o (idle window app []) → IsOver o L (resumed d o t r)
    left_replies F f o L t None w e s h p = record { answers = F; from = f; known = w; now = h; over = inr e }
    left_replies F f o L t (Some r) w e s h p =
        let q : d.told t.state r ≡ record { state = idle window app []; says = [] } = ap (λ (x : State). told x r) s ∙ idle_told window app [] r in
        subst (λ (x : Told State). IsOver o L (told_of d o t x)) (sym q) (record { answers = F; from = f; known = w; now = so_quiet F f o o t.said t.states t.state (idle window app []) [] (omega arith) (none_loud [] tt) p h; over = inr e })

    closes_play : (lo : ℕ) (x : Message) (L : List Message) (t : Talk State) (m : ℕ × Message) → lo ≤ m.0 → m.1 ≡ x → IsPlaying lo (x ∷ L) t → IsOver m.0 L (one d C t m)
    closes_play lo x L t m l e b =
        let a = b.2 in
        let F = two ++ answered.started ∷ [] in
        let h = heads x (delete_stream 1) (L ++ a.more) [] a.left in
        let v : Step State = record { state = idle window app []; says = []; makes = Some (call.Leave b.0) } in
        let o : one d C t m ≡ goes d C m.0 (started d m.0 t v) v.makes = one_open Quiet desk who window C t m (delete_stream 1) (playing window app b.0) v a.stuck a.state (e ∙ h.0) (play_delete desk window b.0 app) in
        let p : PlaysFrom (Some b.1) m.0 (idle window app []) = λ z. absurd (not_some z) in
        let n : Now F (Some b.1) m.0 (calling d m.0 (started d m.0 t v) (call.Leave b.0)) = so_quiet F (Some b.1) lo m.0 t.said t.states t.state (idle window app []) [] l (none_loud [] tt) p a.now in
        subst (λ (u : Talk State). IsOver m.0 L u) (sym o)
        (left_replies F (Some b.1) m.0 L (calling d m.0 (started d m.0 t v) (call.Leave b.0)) (reply_at m.0 C) (known_started k b.1 pull) (no_more L a.more h.1) refl n p)

    -- ---- where a call waits, or no more was to come

    waits_one : (t : Talk State) (m : ℕ × Message) → t.stuck ≡ true → one d C t m ≡ t
    unfolding one
    waits_one t m e = ap (λ b. if b then t else does_at d C m.0 t (d.does t.state m.1)) e

    over_one : (lo : ℕ) (x : Message) (L : List Message) (t : Talk State) (m : ℕ × Message) → lo ≤ m.0 → IsOver lo (x ∷ L) t → IsOver m.0 L (one d C t m)
    over_one lo x L t m l a = by_over a.over
      where
        by_over : (t.stuck ≡ true) ⊎ (x ∷ L ≡ []) → IsOver m.0 L (one d C t m)
        by_over (inl s) =
            subst (λ (u : Talk State). IsOver m.0 L u) (sym (waits_one t m s))
            (record { answers = a.answers; from = a.from; known = a.known; now = so_later a.answers a.from lo m.0 t.said t.states t.state l a.now; over = inl s })
        by_over (inr e) = absurd cc

    asked_stage : (o : ℕ) (L : List Message) (t : Talk State) → Asked_to o L t → Stage o L t
    asked_stage o L t a = inr (inr (inr a))

    stage_one : (lo : ℕ) (x : Message) (L : List Message) (t : Talk State) (m : ℕ × Message) → lo ≤ m.0 → m.1 ≡ x → Stage lo (x ∷ L) t → Stage m.0 L (one d C t m)
    stage_one lo x L t m l e (inl a) = inr (inl (connects lo x L t m l e a))
    stage_one lo x L t m l e (inr (inl a)) = inr (inr (inl (creates lo x L t m l e a)))
    stage_one lo x L t m l e (inr (inr (inl a))) = asked_stage m.0 L (one d C t m) (plays lo x L t m l e a)
    stage_one lo x L t m l e (inr (inr (inr (inl a)))) = inr (inr (inr (inr (inr (closes_idle lo x L t m l e a)))))
    stage_one lo x L t m l e (inr (inr (inr (inr (inl a))))) = inr (inr (inr (inr (inr (closes_play lo x L t m l e a)))))
    stage_one lo x L t m l e (inr (inr (inr (inr (inr a))))) = inr (inr (inr (inr (inr (over_one lo x L t m l a)))))

    -- ---- all of them

    stage_by : (lo : ℕ) (L : List Message) (t : Talk State) (m : ℕ × Message) (b : Bool) → is_loud m.1 ≡ b → lo ≤ m.0 → Stage lo (keep b m.1 L) t → Stage m.0 L (one d C t m)
    stage_by lo L t m true q l s = stage_one lo m.1 L t m l refl s
    stage_by lo L t m false q l s = stage_still lo L t m l q s

    -- THE STAGE after these messages
    pub walk_stages : (lo hi : ℕ) (ms : List (ℕ × Message)) (t : Talk State) → lo ≤ hi → Rise lo hi ms → Stage lo (loud (bare ms)) t → (to : ℕ) × (to ≤ hi) × Stage to [] (walk d C t ms)
    unfolding walk loud bare
    walk_stages lo hi [] t l r s = (lo, l, s)
    walk_stages lo hi (m ∷ ms) t l r s = walk_stages m.0 hi ms (one d C t m) r.1 r.2 (stage_by lo (loud (bare ms)) t m (is_loud m.1) refl r.0 s)

    -- what was answered, and since when it plays
    pub record Found (hi : ℕ) (t : Talk State) : Type 0 where
      pub answers : List Message
      pub from : Option ℕ
      pub known : Known k answers from
      pub now : Now answers from hi t

    found_at : (s : State) (W F : List Message) (f : Option ℕ) (to hi : ℕ) (t : Talk State) → to ≤ hi → Known k F f → At s W F f to [] t → Found hi t
    found_at s W F f to hi t l w a = record { answers = F; from = f; known = w; now = so_later F f to hi t.said t.states t.state l a.now }

    found_stage : (to hi : ℕ) (t : Talk State) → to ≤ hi → Stage to [] t → Found hi t
    found_stage to hi t l (inl a) = found_at (fresh window) (sends_all k id) [] None to hi t l (known_none k) a
    found_stage to hi t l (inr (inl a)) = found_at (idle window app []) (sends_create k id) (answered.connected ∷ []) None to hi t l (known_connected k) a
    found_stage to hi t l (inr (inr (inl a))) = found_at (idle window app (1 ∷ [])) (sends_ask k id) two None to hi t l (known_created k) a
    found_stage to hi t l (inr (inr (inr (inl a)))) = found_at (idle window app (1 ∷ [])) (sends_last id) a.0 None to hi t l a.1 a.2
    found_stage to hi t l (inr (inr (inr (inr (inl a))))) = found_at (playing window app a.0) (delete_stream 1 ∷ []) (two ++ answered.started ∷ []) (Some a.1) to hi t l (known_started k a.1 pull) a.2
    found_stage to hi t l (inr (inr (inr (inr (inr a))))) = record { answers = a.answers; from = a.from; known = a.known; now = so_later a.answers a.from to hi t.said t.states t.state l a.now }

    pub walk_found : (hi : ℕ) (ms : List (ℕ × Message)) → Rise 0 hi ms → (more : List Message) → loud (bare ms) ++ more ≡ (sends_all k id) → Found hi (walk d C (Rattle.session_owed.specs.Talk.fresh d) ms)
    unfolding flat louds
    walk_found hi ms r more e =
        let f = Rattle.session_owed.specs.Talk.fresh d in
        let start : Fresh 0 (loud (bare ms)) f = record { state = refl; stuck = refl; more = more; left = e; now = record { answers = refl; rise = tt; ceases = tt; states_play = tt; now = not_some } } in
        let w = walk_stages 0 hi ms f (omega arith) r (inl start) in
        found_stage w.0 hi (walk d C f ms) w.1 w.2
