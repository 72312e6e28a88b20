-- The dialogue of a session over the messages of a client that publishes
use Rattle.std.proofs.Common.{◌≡◌, ℕ, ◌<◌, ◌^◌, ◌⊎◌, inl, inr, Bool, true, false, if◌then◌else◌, nat_le, List, [], ◌∷◌, ◌++◌, length, Option, Some, None, refl, sym, ap, ◌∙◌, subst, append-nil, append_assoc}
use Rattle.std.proofs.lemmas.Bool.{cases_eq}
use Rattle.av_unit.specs.Classes.{unit_from}
use Rattle.av_unit.specs.Media.{Media}
use Rattle.amf0_value.specs.Pattern.{pattern}
use Rattle.chunk_wire.specs.declared.message.Message.{Message}
use Rattle.rtmp_command.specs.declared.answer.Why.{Why}
use Rattle.rtmp_command.specs.declared.answer.Why.TheVariants as why
use Rattle.rtmp_command.specs.declared.answer.Answer.TheVariants as answer
use Rattle.command_dialog.specs.declared.types.Ask.{Ask}
use Rattle.command_dialog.specs.declared.types.Grant.{Grant}
use Rattle.command_dialog.specs.declared.types.Grant.TheVariants as grant
use Rattle.command_dialog.specs.declared.types.Act.TheVariants as act
use Rattle.command_dialog.specs.declared.types.Role.TheVariants as role
use Rattle.command_dialog.specs.declared.types.Phase.TheVariants as phase
use Rattle.command_dialog.specs.State.{State, fresh, with_phase}
use Rattle.command_dialog.specs.Words.{app_in, name_in}
use Rattle.command_dialog.specs.Dialog as dialog
use Rattle.stream_model.specs.declared.calls.Call.{Call}
use Rattle.stream_model.specs.declared.calls.Call.TheVariants as call
use Rattle.stream_model.specs.declared.calls.Entry.{Entry}
use Rattle.stream_model.specs.declared.replies.Reply.{Reply}
use Rattle.stream_model.specs.declared.replies.Reply.TheVariants as reply
use Rattle.session_owed.specs.Dialogue.{Dialogue, Step, Told}
use Rattle.session_owed.specs.Published.{pushed, unit_of}
use Rattle.session_owed.specs.Talk.{Own, Talk, calling, does_at, entry_of, goes, one, reply_at, resumed, started, told_of, walk}
use Rattle.session_owed.specs.Talk as talking
use Rattle.relay_session.specs.Session.{does, session, told}
use Rattle.client_owed.specs.declared.types.Wish.{Wish}
use Rattle.client_owed.specs.declared.types.Asked.{Asked}
use Rattle.client_owed.specs.declared.types.Gave.{Gave}
use Rattle.client_owed.specs.declared.types.Given.{Given}
use Rattle.client_owed.specs.declared.types.Given.TheVariants.{Finish, Send}
use Rattle.client_owed.specs.Client.{ask, connect, create_stream, delete_stream, tc_url}
use Rattle.client_owed.specs.Owed.{EndsAt, Follow, MayGive, sent_on}
use Rattle.client_law.specs.Laws.{Begins}
use Rattle.client_law.specs.Loud.{Every, EverySaid, bare, listed, sents, size_after, tag_unit, units, units_from}
use Rattle.client_law.proofs.Alike.{said_join}
use Rattle.client_law.proofs.Steps.{Silent, asking, ask_of, ask_does, ask_passed, connect_does, create_does, idle, idle_delete, idle_media, live, live_after, live_delete, live_media, publishing, pushes}

pushed_more : (es : List Entry) (e : Entry) → pushed (es ++ e ∷ []) ≡ pushed es ++ unit_of e.call
unfolding pushed
pushed_more [] e = append-nil (unit_of e.call)
pushed_more (x ∷ es) e = ap (λ l. unit_of x.call ++ l) (pushed_more es e) ∙ sym (append_assoc (unit_of x.call) (pushed es) (unit_of e.call))

pub heads : (a b : Message) (x y : List Message) → a ∷ x ≡ b ∷ y → (a ≡ b) × (x ≡ y)
heads a b x y e = (cc, cc)

pub never : (a : Message) (x : List Message) → a ∷ x ≡ [] → ⊥
never a x e = cc

head_bare : (m : Message) (ms : List Message) (r : ℕ × Message) (R : List (ℕ × Message)) → bare (r ∷ R) ≡ m ∷ ms → (r.1 ≡ m) × (bare R ≡ ms)
unfolding bare
head_bare m ms r R e = (cc, cc)

none_bare : (m : Message) (ms : List Message) → bare [] ≡ m ∷ ms → ⊥
unfolding bare
none_bare m ms e = cc

bare_some : (r : ℕ × Message) (R : List (ℕ × Message)) → bare (r ∷ R) ≡ [] → ⊥
unfolding bare
bare_some r R b = cc

no_more : (R : List (ℕ × Message)) → bare R ≡ sents 1 [] → R ≡ []
unfolding bare sents
no_more [] b = refl
no_more (x ∷ R) b = absurd cc

none_left : (id : ℕ) (R : List (ℕ × Message)) → bare R ≡ sents id [] → R ≡ []
unfolding bare sents
none_left id [] b = refl
none_left id (x ∷ R) b = absurd cc

module _ (Q : Message → Type 0) (desk : Ask → Grant) (who window : ℕ) where
  abbrev d : Dialogue State
  d = session who window desk

  -- ---- where a call waits

  pub stuck_walk : (C : List Own) (t : Talk State) (ms : List (ℕ × Message)) → t.stuck ≡ true → walk d C t ms ≡ t
  unfolding walk one
  stuck_walk C t [] e = refl
  stuck_walk C t (m ∷ ms) e =
      let w : one d C t m ≡ t = ap (λ b. if b then t else does_at d C m.0 t (d.does t.state m.1)) e in
      ap (λ u. walk d C u ms) w ∙ stuck_walk C t ms e

  not_both : (b : Bool) → b ≡ true → b ≡ false → ⊥
  not_both b e f = cc

  by_bool : (b : Bool) → (b ≡ true) ⊎ (b ≡ false)
  by_bool true = inl refl
  by_bool false = inr refl

  pub unstuck : (C : List Own) (t : Talk State) (ms : List (ℕ × Message)) → (walk d C t ms).stuck ≡ false → t.stuck ≡ false
  unstuck C t ms e = by_stuck (by_bool t.stuck)
    where
      by_stuck : (t.stuck ≡ true) ⊎ (t.stuck ≡ false) → t.stuck ≡ false
      by_stuck (inl q) = absurd (not_both t.stuck q (ap (λ (u : Talk State). u.stuck) (sym (stuck_walk C t ms q)) ∙ e))
      by_stuck (inr q) = q

  -- one message, where none waits
  pub one_open : (C : List Own) (t : Talk State) (m : ℕ × Message) (x : Message) (s : State) (v : Step State) → t.stuck ≡ false → t.state ≡ s → m.1 ≡ x → does desk s x ≡ v → one d C t m ≡ goes d C m.0 (started d m.0 t v) v.makes
  unfolding one
  one_open C t m x s v f st mx e =
      let w : d.does t.state m.1 ≡ v = ap (λ q. d.does q m.1) st ∙ ap (d.does s) mx ∙ e in
      ap (λ b. if b then t else does_at d C m.0 t (d.does t.state m.1)) f ∙ ap (λ q. goes d C m.0 (started d m.0 t q) q.makes) w

  walk_none : (C : List Own) (t : Talk State) → pushed (walk d C t []).made ≡ pushed t.made
  unfolding walk
  walk_none C t = refl

  walk_first : (C : List Own) (t : Talk State) (r : ℕ × Message) (R : List (ℕ × Message)) → walk d C t (r ∷ R) ≡ walk d C (one d C t r) R
  unfolding walk
  walk_first C t r R = refl

  -- ---- it publishes

  told_live : (app : List ℕ) (size : ℕ) (o : Option Media) (r : Reply) → (told (live_after window app size o) r).state ≡ live window app (size_after o size)
  unfolding told dialog.told
  told_live app size None r = refl
  told_live app size (Some u) r = refl

  -- after a tag: it publishes on, with its unit
  record Pushed (app : List ℕ) (size : ℕ) (o : Option Media) (t u : Talk State) : Type 0 where
    state : u.state ≡ live window app (size_after o size)
    made : pushed u.made ≡ pushed t.made ++ listed o

  -- the talk after a tag
  abbrev gone : List Own → ℕ → List ℕ → ℕ → Talk State → Option Media → Talk State
  gone C o app size t m = goes d C o (started d o t (publishing desk window app size m)) (pushes desk m)

  tag_made : (C : List Own) (o : ℕ) (app : List ℕ) (size : ℕ) (t : Talk State) (m : Option Media) (rest : List (ℕ × Message))
      → (walk d C (gone C o app size t m) rest).stuck ≡ false → Pushed app size m t (gone C o app size t m)
  tag_made C o app size t None rest e = record { state = refl; made = sym (append-nil (pushed t.made)) }
  tag_made C o app size t (Some u) rest e = by_reply (reply_at o C) e
    where
      t' : Talk State
      t' = calling d o (started d o t (publishing desk window app size (Some u))) (call.Push u)

      by_reply : (r : Option Reply) → (walk d C (resumed d o t' r) rest).stuck ≡ false → Pushed app size (Some u) t (resumed d o t' r)
      by_reply None f = absurd (not_both true refl (unstuck C t' rest f))
      by_reply (Some r) f = record { state = told_live app size (Some u) r; made = pushed_more t.made (entry_of d o (call.Push u)) }

  finish_made : (C : List Own) (o : ℕ) (t : Talk State) (s : Step State) → s.makes ≡ Some call.End → pushed (goes d C o (started d o t s) s.makes).made ≡ pushed t.made
  finish_made C o t s e = ap (λ c. pushed (goes d C o (started d o t s) c).made) e ∙ by_reply (reply_at o C)
    where
      by_reply : (r : Option Reply) → pushed (resumed d o (calling d o (started d o t s) call.End) r).made ≡ pushed t.made
      by_reply None = pushed_more t.made (entry_of d o call.End) ∙ append-nil (pushed t.made)
      by_reply (Some r) = pushed_more t.made (entry_of d o call.End) ∙ append-nil (pushed t.made)

  -- EACH TAG IS THE MESSAGE WHOSE UNIT IS PUBLISHED
  pub tags_walk : (w : Wish) (max from to : ℕ) (C : List Own) (app : List ℕ) (size : ℕ) (T : List Gave) (R : List (ℕ × Message)) (t : Talk State) → t.state ≡ live window app size → bare R ≡ sents 1 T → Follow w max from to T
      → (walk d C t R).stuck ≡ false → pushed (walk d C t R).made ≡ pushed t.made ++ units_from size T
  unfolding sents units_from
  tags_walk w max from to C app size [] [] t st b f e = walk_none C t ∙ sym (append-nil (pushed t.made))
  tags_walk w max from to C app size [] (r ∷ R) t st b f e = absurd (bare_some r R b)
  tags_walk w max from to C app size (g ∷ T) [] t st b f e = absurd (none_bare (sent_on 1 g.given) (sents 1 T) b)
  tags_walk w max from to C app size (g ∷ T) (r ∷ R) t st b f e =
      by_given g.given (head_bare (sent_on 1 g.given) (sents 1 T) r R b).0 f.1 f.2 (head_bare (sent_on 1 g.given) (sents 1 T) r R b).1
      (λ next u su eu. tags_walk w max g.at to C app next T R u su (head_bare (sent_on 1 g.given) (sents 1 T) r R b).1 f.3 eu) e
    where
      by_given : (x : Given) → r.1 ≡ sent_on 1 x → MayGive w max x → EndsAt x T → bare R ≡ sents 1 T
          → ((next : ℕ) (u : Talk State) → u.state ≡ live window app next → (walk d C u R).stuck ≡ false → pushed (walk d C u R).made ≡ pushed u.made ++ units_from next T)
          → (walk d C t (r ∷ R)).stuck ≡ false → pushed (walk d C t (r ∷ R)).made ≡ pushed t.made ++ (listed (tag_unit size x) ++ units_from (size_after (tag_unit size x) size) T)
      by_given (Send tag) rx may ends br ih e =
          let m = unit_from tag.kind tag.time tag.body size in
          let u = gone C r.0 app size t m in
          let o : one d C t r ≡ u = one_open C t r (sent_on 1 (Send tag)) (live window app size) (publishing desk window app size m) (unstuck C t (r ∷ R) e) st rx (live_media desk window tag.time tag.kind size app tag.body may.1) in
          let whole : walk d C t (r ∷ R) ≡ walk d C u R = walk_first C t r R ∙ ap (λ q. walk d C q R) o in
          let goes_on : (walk d C u R).stuck ≡ false = ap (λ (q : Talk State). q.stuck) (sym whole) ∙ e in
          let p = tag_made C r.0 app size t m R goes_on in
          ap (λ (q : Talk State). pushed q.made) whole ∙ ih (size_after m size) u p.state goes_on ∙ ap (λ l. l ++ units_from (size_after m size) T) p.made
          ∙ append_assoc (pushed t.made) (listed m) (units_from (size_after m size) T)
      by_given Finish rx may ends br ih e =
          let v : Step State = record { state = idle window app []; says = []; makes = Some call.End } in
          let u = goes d C r.0 (started d r.0 t v) v.makes in
          let o : one d C t r ≡ u = one_open C t r (delete_stream 1) (live window app size) v (unstuck C t (r ∷ R) e) st rx (live_delete desk window size app) in
          let none : R ≡ [] = no_more R (br ∙ ap (sents 1) ends) in
          ap (λ (q : Talk State). pushed q.made) (walk_first C t r R ∙ ap (λ q. walk d C q R) o ∙ ap (walk d C u) none) ∙ walk_none C u ∙ finish_made C r.0 t v refl
          ∙ sym (append-nil (pushed t.made)) ∙ ap (λ l. pushed t.made ++ units_from size l) (sym ends)

  -- ---- it publishes so far

  -- a tag was heard: it publishes on, or its call waits, with its unit
  tag_gone : (C : List Own) (o : ℕ) (app : List ℕ) (size : ℕ) (t : Talk State) (m : Option Media)
      → (pushed (gone C o app size t m).made ≡ pushed t.made ++ listed m) × (((gone C o app size t m).state ≡ live window app (size_after m size)) ⊎ ((gone C o app size t m).stuck ≡ true))
  tag_gone C o app size t None = (sym (append-nil (pushed t.made)), inl refl)
  tag_gone C o app size t (Some u) = by_reply (reply_at o C)
    where
      t' : Talk State
      t' = calling d o (started d o t (publishing desk window app size (Some u))) (call.Push u)

      by_reply : (r : Option Reply) → (pushed (resumed d o t' r).made ≡ pushed t.made ++ listed (Some u)) × (((resumed d o t' r).state ≡ live window app (size_after (Some u) size)) ⊎ ((resumed d o t' r).stuck ≡ true))
      by_reply None = (pushed_more t.made (entry_of d o (call.Push u)), inr refl)
      by_reply (Some r) = (pushed_more t.made (entry_of d o (call.Push u)), inl (told_live app size (Some u) r))

  begins_all : (a b c : List Media) → a ≡ b → Begins a (b ++ c)
  begins_all a b c e = (c, ap (λ l. l ++ c) e)

  -- WHAT IS PUBLISHED BEGINS THE UNITS, also where a call waits
  pub tags_begin : (w : Wish) (max from to : ℕ) (C : List Own) (app : List ℕ) (size : ℕ) (T : List Gave) (R : List (ℕ × Message)) (t : Talk State) → t.state ≡ live window app size → bare R ≡ sents 1 T → Follow w max from to T
      → Begins (pushed (walk d C t R).made) (pushed t.made ++ units_from size T)
  unfolding sents units_from
  tags_begin w max from to C app size [] [] t st b f = begins_all (pushed (walk d C t []).made) (pushed t.made) [] (walk_none C t)
  tags_begin w max from to C app size [] (r ∷ R) t st b f = absurd (bare_some r R b)
  tags_begin w max from to C app size (g ∷ T) [] t st b f = absurd (none_bare (sent_on 1 g.given) (sents 1 T) b)
  tags_begin w max from to C app size (g ∷ T) (r ∷ R) t st b f =
      let hb = head_bare (sent_on 1 g.given) (sents 1 T) r R b in
      by_stuck g.given hb.0 f.1 f.2 hb.1 (λ next u su. tags_begin w max g.at to C app next T R u su hb.1 f.3) (by_bool t.stuck)
    where
      by_stuck : (x : Given) → r.1 ≡ sent_on 1 x → MayGive w max x → EndsAt x T → bare R ≡ sents 1 T
          → ((next : ℕ) (u : Talk State) → u.state ≡ live window app next → Begins (pushed (walk d C u R).made) (pushed u.made ++ units_from next T)) → (t.stuck ≡ true) ⊎ (t.stuck ≡ false)
          → Begins (pushed (walk d C t (r ∷ R)).made) (pushed t.made ++ (listed (tag_unit size x) ++ units_from (size_after (tag_unit size x) size) T))
      by_stuck x rx may ends br ih (inl q) =
          begins_all (pushed (walk d C t (r ∷ R)).made) (pushed t.made) (listed (tag_unit size x) ++ units_from (size_after (tag_unit size x) size) T) (ap (λ (u : Talk State). pushed u.made) (stuck_walk C t (r ∷ R) q))
      by_stuck (Send tag) rx may ends br ih (inr q) =
          let m = unit_from tag.kind tag.time tag.body size in
          let u = gone C r.0 app size t m in
          let o : one d C t r ≡ u = one_open C t r (sent_on 1 (Send tag)) (live window app size) (publishing desk window app size m) q st rx (live_media desk window tag.time tag.kind size app tag.body may.1) in
          let whole : walk d C t (r ∷ R) ≡ walk d C u R = walk_first C t r R ∙ ap (λ y. walk d C y R) o in
          let gone_on = tag_gone C r.0 app size t m in
          let all : pushed u.made ++ units_from (size_after m size) T ≡ pushed t.made ++ (listed m ++ units_from (size_after m size) T) =
          ap (λ l. l ++ units_from (size_after m size) T) gone_on.0 ∙ append_assoc (pushed t.made) (listed m) (units_from (size_after m size) T) in
          subst (λ (l : List Media). Begins (pushed (walk d C t (r ∷ R)).made) l) all
          (subst (λ (y : Talk State). Begins (pushed y.made) (pushed u.made ++ units_from (size_after m size) T)) (sym whole) (after m u gone_on.1))
        where
          after : (m : Option Media) (u : Talk State) → (u.state ≡ live window app (size_after m size)) ⊎ (u.stuck ≡ true) → Begins (pushed (walk d C u R).made) (pushed u.made ++ units_from (size_after m size) T)
          after m u (inl s) = ih (size_after m size) u s
          after m u (inr s) = begins_all (pushed (walk d C u R).made) (pushed u.made) (units_from (size_after m size) T) (ap (λ (y : Talk State). pushed y.made) (stuck_walk C u R s))
      by_stuck Finish rx may ends br ih (inr q) =
          let v : Step State = record { state = idle window app []; says = []; makes = Some call.End } in
          let u = goes d C r.0 (started d r.0 t v) v.makes in
          let o : one d C t r ≡ u = one_open C t r (delete_stream 1) (live window app size) v q st rx (live_delete desk window size app) in
          let none : R ≡ [] = no_more R (br ∙ ap (sents 1) ends) in
          begins_all (pushed (walk d C t (r ∷ R)).made) (pushed t.made) (units_from size T)
          (ap (λ (y : Talk State). pushed y.made) (walk_first C t r R ∙ ap (λ y. walk d C y R) o ∙ ap (walk d C u) none) ∙ walk_none C u ∙ finish_made C r.0 t v refl)

  -- ---- it publishes nothing

  silent_made : (C : List Own) (o : ℕ) (t : Talk State) (v : Step State) → Silent desk v → EverySaid Q t.said → EverySaid Q (goes d C o (started d o t v) v.makes).said
  silent_made C o t v s h =
      subst (λ c. EverySaid Q (goes d C o (started d o t v) c).said) (sym s.makes) (said_join Q t.said (o, v.says) h (subst (Every Q) (sym s.says) tt))

  -- WHERE NOTHING IS PUBLISHED nothing more is said
  pub idle_walk : (w : Wish) (max from to id : ℕ) (C : List Own) (app : List ℕ) (T : List Gave) (R : List (ℕ × Message)) (t : Talk State) → t.state ≡ idle window app (1 ∷ []) → pattern id < 2 ^ 64 → bare R ≡ sents id T
      → Follow w max from to T → EverySaid Q t.said → EverySaid Q (walk d C t R).said
  unfolding sents walk
  idle_walk w max from to id C app T [] t st p b f h = h
  idle_walk w max from to id C app [] (r ∷ R) t st p b f h = absurd (bare_some r R b)
  idle_walk w max from to id C app (g ∷ T) (r ∷ R) t st p b f h =
      let hb = head_bare (sent_on id g.given) (sents id T) r R b in
      by_stuck g.given hb.0 f.1 f.2 hb.1 (λ u su hu. idle_walk w max g.at to id C app T R u su p hb.1 f.3 hu) (by_bool t.stuck)
    where
      by_stuck : (x : Given) → r.1 ≡ sent_on id x → MayGive w max x → EndsAt x T → bare R ≡ sents id T → ((u : Talk State) → u.state ≡ idle window app (1 ∷ []) → EverySaid Q u.said → EverySaid Q (walk d C u R).said)
          → (t.stuck ≡ true) ⊎ (t.stuck ≡ false) → EverySaid Q (walk d C t (r ∷ R)).said
      by_stuck x rx may ends br ih (inl q) = subst (λ (u : Talk State). EverySaid Q u.said) (sym (stuck_walk C t (r ∷ R) q)) h
      by_stuck (Send tag) rx may ends br ih (inr q) =
          let v : Step State = record { state = idle window app (1 ∷ []); says = []; makes = None } in
          let u = started d r.0 t v in
          let o : one d C t r ≡ u = one_open C t r (sent_on id (Send tag)) (idle window app (1 ∷ [])) v q st rx (idle_media desk window id tag.time tag.kind app (1 ∷ []) tag.body may.1) in
          subst (λ (y : Talk State). EverySaid Q (walk d C y R).said) (sym o) (ih u refl (said_join Q t.said (r.0, []) h tt))
      by_stuck Finish rx may ends br ih (inr q) =
          let v : Step State = does desk (idle window app (1 ∷ [])) (delete_stream id) in
          let u = goes d C r.0 (started d r.0 t v) v.makes in
          let o : one d C t r ≡ u = one_open C t r (delete_stream id) (idle window app (1 ∷ [])) v q st rx refl in
          let none : R ≡ [] = none_left id R (br ∙ ap (sents id) ends) in
          subst (λ (y : Talk State). EverySaid Q (walk d C y R).said) (sym o) (subst (λ (l : List (ℕ × Message)). EverySaid Q (walk d C u l).said) (sym none) (silent_made C r.0 t v (idle_delete desk window id app p) h))

  -- ---- the three commands

  -- what comes of them: all that is said has this property, or the units of the tags are published, if no call waits,
  -- and the first of them if one does
  abbrev pub Outcome : ℕ → List Gave → Talk State → Type 0
  Outcome id T t = EverySaid Q t.said ⊎ ((id ≡ 1) × (t.stuck ≡ false → pushed t.made ≡ units T) × Begins (pushed t.made) (units T))

  abbrev asked_state : List ℕ → State
  asked_state app = with_phase (idle window app (1 ∷ [])) (phase.Asked role.Publish 1)

  abbrev denied : Why → List ℕ → Told State
  denied w app = record { state = idle window app (1 ∷ []); says = dialog.answers 1 (answer.PublishRefused w) ∷ [] }

  abbrev begun : List ℕ → Told State
  begun app = record { state = live window app 0; says = dialog.answers 1 answer.PublishStart ∷ [] }

  answered_so : (app : List ℕ) (r : Reply) → (told (asked_state app) r ≡ begun app) ⊎ ((w : Why) × (told (asked_state app) r ≡ denied w app))
  unfolding told dialog.told
  answered_so app (reply.Began n) = inl refl
  answered_so app (reply.InUse by) = inr (why.InUse, refl)
  answered_so app (reply.Pushed n) = inr (why.InUse, refl)
  answered_so app (reply.NotPublisher n) = inr (why.InUse, refl)
  answered_so app (reply.Ended n) = inr (why.InUse, refl)
  answered_so app (reply.Joined player from) = inr (why.InUse, refl)
  answered_so app reply.Full = inr (why.InUse, refl)
  answered_so app reply.NotPlayer = inr (why.InUse, refl)
  answered_so app (reply.Sent from n item) = inr (why.InUse, refl)
  answered_so app (reply.Skip from to) = inr (why.InUse, refl)
  answered_so app (reply.NotYet end) = inr (why.InUse, refl)
  answered_so app (reply.Left player) = inr (why.InUse, refl)
  answered_so app (reply.Counts a b c e f) = inr (why.InUse, refl)
  answered_so app (reply.NoSlot slots) = inr (why.Full, refl)

  -- a Begin publishes nothing, with a name or without one
  begin_none : (b : Bool) (name : List ℕ) → unit_of (if b then call.BeginAs name else call.Begin) ≡ []
  begin_none true name = refl
  begin_none false name = refl

  module _ (refused : (w : Why) → Q (dialog.answers 1 (answer.PublishRefused w))) (w : Wish) (max from to : ℕ) (C : List Own) (app name : List ℕ) (T : List Gave) (f : Follow w max from to T) where
    abbrev publish : ℕ → Message
    publish id = record { kind = 20; stream = id; time = 0; body = Rattle.amf0_value.specs.Encoding.items_spelling (Rattle.client_owed.specs.Client.asks Rattle.client_owed.specs.declared.types.Wish.TheVariants.Push name) }

    -- nothing is published
    idle_outcome : (id : ℕ) (R : List (ℕ × Message)) (u : Talk State) → u.state ≡ idle window app (1 ∷ []) → pattern id < 2 ^ 64 → bare R ≡ sents id T → EverySaid Q u.said → Outcome id T (walk d C u R)
    idle_outcome id R u st p b h = inl (idle_walk w max from to id C app T R u st p b f h)

    told_outcome : (R : List (ℕ × Message)) (o : ℕ) (t : Talk State) (r : Told State) → pattern 1 < 2 ^ 64 → bare R ≡ sents 1 T → EverySaid Q t.said → pushed t.made ≡ [] → (r ≡ begun app) ⊎ ((w : Why) × (r ≡ denied w app))
        → Outcome 1 T (walk d C (told_of d o t r) R)
    told_outcome R o t r p b h m (inl e) =
        subst (λ (y : Told State). Outcome 1 T (walk d C (told_of d o t y) R)) (sym e)
        (inr (
          refl,
          (λ q. tags_walk w max from to C app 0 T R (told_of d o t (begun app)) refl b f q ∙ ap (λ l. l ++ units T) m),
          subst (λ (l : List Media). Begins (pushed (walk d C (told_of d o t (begun app)) R).made) (l ++ units T)) m (tags_begin w max from to C app 0 T R (told_of d o t (begun app)) refl b f),
        ))
    told_outcome R o t r p b h m (inr (v, e)) =
        subst (λ (y : Told State). Outcome 1 T (walk d C (told_of d o t y) R)) (sym e)
        (idle_outcome 1 R (told_of d o t (denied v app)) refl p b (said_join Q t.said (o, (denied v app).says) h (refused v, tt)))

    grant_outcome : (R : List (ℕ × Message)) (o : ℕ) (t : Talk State) (g : Grant) → pattern 1 < 2 ^ 64 → bare R ≡ sents 1 T → EverySaid Q t.said → pushed t.made ≡ []
        → Outcome 1 T (walk d C (goes d C o (started d o t (asking desk window app (name_in name) g)) (asking desk window app (name_in name) g).makes) R)
    grant_outcome R o t grant.NoName p b h m = idle_outcome 1 R (started d o t (asking desk window app (name_in name) grant.NoName)) refl p b (said_join Q t.said (o, (asking desk window app (name_in name) grant.NoName).says) h (refused why.NoName, tt))
    grant_outcome R o t grant.Refused p b h m = idle_outcome 1 R (started d o t (asking desk window app (name_in name) grant.Refused)) refl p b (said_join Q t.said (o, (asking desk window app (name_in name) grant.Refused).says) h (refused why.Refused, tt))
    grant_outcome R o t (grant.Place place) p b h m = by_reply (reply_at o C)
      where
        begin : Call
        begin = dialog.call_of (act.Begin place (name_in name))

        t' : Talk State
        t' = calling d o (started d o t (asking desk window app (name_in name) (grant.Place place))) begin

        made : pushed t'.made ≡ []
        made =
            pushed_more t.made (entry_of d o begin) ∙ ap (λ l. pushed t.made ++ l) (begin_none (nat_le (length (name_in name)) 64) (name_in name))
            ∙ append-nil (pushed t.made) ∙ m

        by_reply : (r : Option Reply) → Outcome 1 T (walk d C (resumed d o t' r) R)
        by_reply None = inl (subst (λ (u : Talk State). EverySaid Q u.said) (sym (stuck_walk C t' R refl)) (said_join Q t.said (o, []) h tt))
        by_reply (Some r) = told_outcome R o t' (told (asked_state app) r) p b (said_join Q t.said (o, []) h tt) made (answered_so app r)

    ask_outcome : (id : ℕ) (r : ℕ × Message) (R : List (ℕ × Message)) (t : Talk State) → length name < 2 ^ 16 → pattern id < 2 ^ 64 → t.state ≡ idle window app (1 ∷ []) → t.stuck ≡ false → r.1 ≡ publish id → bare R ≡ sents id T
        → EverySaid Q t.said → pushed t.made ≡ [] → Outcome id T (walk d C t (r ∷ R))
    ask_outcome id r R t l p st q rx b h m = by_id (cases_eq 1 id)
      where
        by_id : ((1 ≡ id) ⊎ (1 ≡ id → ⊥)) → Outcome id T (walk d C t (r ∷ R))
        by_id (inr ne) =
            let v : Step State = record { state = idle window app (1 ∷ []); says = []; makes = None } in
            let u = started d r.0 t v in
            let o : one d C t r ≡ u = one_open C t r (publish id) (idle window app (1 ∷ [])) v q st rx (ask_passed desk window id app name l ne) in
            subst (λ (y : Talk State). Outcome id T y) (sym (walk_first C t r R ∙ ap (λ y. walk d C y R) o)) (idle_outcome id R u refl p b (said_join Q t.said (r.0, []) h tt))
        by_id (inl e) =
            let v = asking desk window app (name_in name) (desk (ask_of desk app name)) in
            let u = goes d C r.0 (started d r.0 t v) v.makes in
            let rx1 : r.1 ≡ publish 1 = rx ∙ ap publish (sym e) in
            let b1 : bare R ≡ sents 1 T = b ∙ ap (λ (i : ℕ). sents i T) (sym e) in
            let p1 : pattern 1 < 2 ^ 64 = subst (λ (i : ℕ). pattern i < 2 ^ 64) (sym e) p in
            let o : one d C t r ≡ u = one_open C t r (publish 1) (idle window app (1 ∷ [])) v q st rx1 (ask_does desk window app name l) in
            subst (λ (i : ℕ). Outcome i T (walk d C t (r ∷ R))) e (subst (λ (y : Talk State). Outcome 1 T y) (sym (walk_first C t r R ∙ ap (λ y. walk d C y R) o)) (grant_outcome R r.0 t (desk (ask_of desk app name)) p1 b1 h m))

  -- THE WHOLE DIALOGUE over the messages of a client that has started
  pub push_walk : Every Q (dialog.connected window (pattern 1)) → Q (dialog.answers 0 (answer.Created (pattern 2) 1)) → ((w : Why) → Q (dialog.answers 1 (answer.PublishRefused w)))
      → (k : Asked) (max from to id : ℕ) (C : List Own) (T : List Gave) (L : List (ℕ × Message)) → length (tc_url k) < 2 ^ 16 → length k.name < 2 ^ 16 → pattern id < 2 ^ 64 → k.wish ≡ Rattle.client_owed.specs.declared.types.Wish.TheVariants.Push
      → Follow k.wish max from to T → bare L ≡ connect k ∷ create_stream ∷ ask k id ∷ sents id T → Outcome id T (walk d C (talking.fresh d) L)
  unfolding pushed
  push_walk yes1 yes2 refused k max from to id C T [] a n p w f b = absurd (none_bare (connect k) (create_stream ∷ ask k id ∷ sents id T) b)
  push_walk yes1 yes2 refused k max from to id C T (l1 ∷ []) a n p w f b = absurd (none_bare create_stream (ask k id ∷ sents id T) (head_bare (connect k) (create_stream ∷ ask k id ∷ sents id T) l1 [] b).1)
  push_walk yes1 yes2 refused k max from to id C T (l1 ∷ l2 ∷ []) a n p w f b =
      absurd (none_bare (ask k id) (sents id T) (head_bare create_stream (ask k id ∷ sents id T) l2 [] (head_bare (connect k) (create_stream ∷ ask k id ∷ sents id T) l1 (l2 ∷ []) b).1).1)
  push_walk yes1 yes2 refused k max from to id C T (l1 ∷ l2 ∷ l3 ∷ R) a n p w f b =
      let app = app_in k.app in
      let b1 = head_bare (connect k) (create_stream ∷ ask k id ∷ sents id T) l1 (l2 ∷ l3 ∷ R) b in
      let b2 = head_bare create_stream (ask k id ∷ sents id T) l2 (l3 ∷ R) b1.1 in
      let b3 = head_bare (ask k id) (sents id T) l3 R b2.1 in
      let v1 : Step State = record { state = idle window app []; says = dialog.connected window (pattern 1); makes = None } in
      let t1 = started d l1.0 (talking.fresh d) v1 in
      let o1 : one d C (talking.fresh d) l1 ≡ t1 = one_open C (talking.fresh d) l1 (connect k) (fresh window) v1 refl refl b1.0 (connect_does desk window k a) in
      let v2 : Step State = record { state = idle window app (1 ∷ []); says = dialog.answers 0 (answer.Created (pattern 2) 1) ∷ []; makes = None } in
      let t2 = started d l2.0 t1 v2 in
      let o2 : one d C t1 l2 ≡ t2 = one_open C t1 l2 create_stream (idle window app []) v2 refl refl b2.0 (create_does desk window app) in
      let x3 : l3.1 ≡ record { kind = 20; stream = id; time = 0; body = Rattle.amf0_value.specs.Encoding.items_spelling (Rattle.client_owed.specs.Client.asks Rattle.client_owed.specs.declared.types.Wish.TheVariants.Push k.name) } =
      b3.0 ∙ ap (λ (q : Wish). Rattle.client_owed.specs.Client.command id (Rattle.client_owed.specs.Client.asks q k.name)) w in
      let go : walk d C (talking.fresh d) (l1 ∷ l2 ∷ l3 ∷ R) ≡ walk d C t2 (l3 ∷ R) =
      walk_first C (talking.fresh d) l1 (l2 ∷ l3 ∷ R) ∙ ap (λ y. walk d C y (l2 ∷ l3 ∷ R)) o1 ∙ walk_first C t1 l2 (l3 ∷ R) ∙ ap (λ y. walk d C y (l3 ∷ R)) o2 in
      subst (λ (y : Talk State). Outcome id T y) (sym go) (ask_outcome refused k.wish max from to C app k.name T f id l3 R t2 n p refl refl x3 b3.1 (yes1, ((yes2, tt), tt)) refl)

  -- ---- the three commands publish nothing

  abbrev connecting : Asked → Step State
  connecting k = record { state = idle window (app_in k.app) []; says = dialog.connected window (pattern 1); makes = None }

  abbrev creating : List ℕ → Step State
  creating app = record { state = idle window app (1 ∷ []); says = dialog.answers 0 (answer.Created (pattern 2) 1) ∷ []; makes = None }

  -- the talk after the first, and after the second
  abbrev once : Asked → ℕ × Message → Talk State
  once k l = started d l.0 (talking.fresh d) (connecting k)

  abbrev twice : Asked → ℕ × Message → ℕ × Message → Talk State
  twice k l m = started d m.0 (once k l) (creating (app_in k.app))

  first_does : (k : Asked) (C : List Own) (l : ℕ × Message) → length (tc_url k) < 2 ^ 16 → l.1 ≡ connect k → one d C (talking.fresh d) l ≡ once k l
  first_does k C l a e = one_open C (talking.fresh d) l (connect k) (fresh window) (connecting k) refl refl e (connect_does desk window k a)

  second_does : (k : Asked) (C : List Own) (l m : ℕ × Message) → m.1 ≡ create_stream → one d C (once k l) m ≡ twice k l m
  second_does k C l m e = one_open C (once k l) m create_stream (idle window (app_in k.app) []) (creating (app_in k.app)) refl refl e (create_does desk window (app_in k.app))

  asked_none : (C : List Own) (o : ℕ) (app name : List ℕ) (t : Talk State) (g : Grant) → pushed t.made ≡ [] → pushed (goes d C o (started d o t (asking desk window app name g)) (asking desk window app name g).makes).made ≡ []
  asked_none C o app name t grant.NoName m = m
  asked_none C o app name t grant.Refused m = m
  asked_none C o app name t (grant.Place place) m = by_reply (reply_at o C)
    where
      begin : Call
      begin = dialog.call_of (act.Begin place name)

      t' : Talk State
      t' = calling d o (started d o t (asking desk window app name (grant.Place place))) begin

      made : pushed t'.made ≡ []
      made = pushed_more t.made (entry_of d o begin) ∙ ap (λ l. pushed t.made ++ l) (begin_none (nat_le (length name) 64) name) ∙ append-nil (pushed t.made) ∙ m

      by_reply : (r : Option Reply) → pushed (resumed d o t' r).made ≡ []
      by_reply None = made
      by_reply (Some r) = made

  abbrev asks_on : ℕ → List ℕ → Message
  asks_on id name = record { kind = 20; stream = id; time = 0; body = Rattle.amf0_value.specs.Encoding.items_spelling (Rattle.client_owed.specs.Client.asks Rattle.client_owed.specs.declared.types.Wish.TheVariants.Push name) }

  third_none : (id : ℕ) (C : List Own) (app name : List ℕ) (t : Talk State) (l : ℕ × Message) → length name < 2 ^ 16 → t.state ≡ idle window app (1 ∷ []) → t.stuck ≡ false → l.1 ≡ asks_on id name → pushed t.made ≡ []
      → pushed (one d C t l).made ≡ []
  third_none id C app name t l n st q e m = by_id (cases_eq 1 id)
    where
      by_id : ((1 ≡ id) ⊎ (1 ≡ id → ⊥)) → pushed (one d C t l).made ≡ []
      by_id (inr ne) =
          let v : Step State = record { state = idle window app (1 ∷ []); says = []; makes = None } in
          ap (λ (u : Talk State). pushed u.made) (one_open C t l (asks_on id name) (idle window app (1 ∷ [])) v q st e (ask_passed desk window id app name n ne)) ∙ m
      by_id (inl i) =
          let v = asking desk window app (name_in name) (desk (ask_of desk app name)) in
          ap (λ (u : Talk State). pushed u.made) (one_open C t l (asks_on 1 name) (idle window app (1 ∷ [])) v q st (e ∙ ap (λ (x : ℕ). asks_on x name) (sym i)) (ask_does desk window app name n))
          ∙ asked_none C l.0 app (name_in name) t (desk (ask_of desk app name)) m

  first_none : (k : Asked) (l : ℕ × Message) → pushed (once k l).made ≡ []
  unfolding pushed
  first_none k l = refl

  second_none : (k : Asked) (l m : ℕ × Message) → pushed (twice k l m).made ≡ []
  unfolding pushed
  second_none k l m = refl

  fresh_none : pushed (talking.fresh d).made ≡ []
  unfolding pushed
  fresh_none = refl

  pub commands_none : (k : Asked) (id : ℕ) (C : List Own) (L : List (ℕ × Message)) (more : List Message) → length (tc_url k) < 2 ^ 16 → length k.name < 2 ^ 16 → k.wish ≡ Rattle.client_owed.specs.declared.types.Wish.TheVariants.Push
      → bare L ++ more ≡ connect k ∷ create_stream ∷ ask k id ∷ [] → pushed (walk d C (talking.fresh d) L).made ≡ []
  unfolding bare
  commands_none k id C [] more a n w e = walk_none C (talking.fresh d) ∙ fresh_none
  commands_none k id C (l1 ∷ []) more a n w e =
      let h1 = heads l1.1 (connect k) more (create_stream ∷ ask k id ∷ []) e in
      ap (λ (u : Talk State). pushed u.made) (walk_first C (talking.fresh d) l1 [] ∙ ap (λ u. walk d C u []) (first_does k C l1 a h1.0)) ∙ walk_none C (once k l1) ∙ first_none k l1
  commands_none k id C (l1 ∷ l2 ∷ []) more a n w e =
      let h1 = heads l1.1 (connect k) (l2.1 ∷ more) (create_stream ∷ ask k id ∷ []) e in
      let h2 = heads l2.1 create_stream more (ask k id ∷ []) h1.1 in
      ap (λ (u : Talk State). pushed u.made)
      (walk_first C (talking.fresh d) l1 (l2 ∷ []) ∙ ap (λ u. walk d C u (l2 ∷ [])) (first_does k C l1 a h1.0) ∙ walk_first C (once k l1) l2 [] ∙ ap (λ u. walk d C u []) (second_does k C l1 l2 h2.0))
      ∙ walk_none C (twice k l1 l2) ∙ second_none k l1 l2
  commands_none k id C (l1 ∷ l2 ∷ l3 ∷ []) more a n w e =
      let h1 = heads l1.1 (connect k) (l2.1 ∷ l3.1 ∷ more) (create_stream ∷ ask k id ∷ []) e in
      let h2 = heads l2.1 create_stream (l3.1 ∷ more) (ask k id ∷ []) h1.1 in
      let h3 = heads l3.1 (ask k id) more [] h2.1 in
      let x3 : l3.1 ≡ asks_on id k.name = h3.0 ∙ ap (λ (q : Wish). Rattle.client_owed.specs.Client.command id (Rattle.client_owed.specs.Client.asks q k.name)) w in
      ap (λ (u : Talk State). pushed u.made)
      (walk_first C (talking.fresh d) l1 (l2 ∷ l3 ∷ []) ∙ ap (λ u. walk d C u (l2 ∷ l3 ∷ [])) (first_does k C l1 a h1.0) ∙ walk_first C (once k l1) l2 (l3 ∷ []) ∙ ap (λ u. walk d C u (l3 ∷ [])) (second_does k C l1 l2 h2.0)
      ∙ walk_first C (twice k l1 l2) l3 [])
      ∙ walk_none C (one d C (twice k l1 l2) l3) ∙ third_none id C (app_in k.app) k.name (twice k l1 l2) l3 n refl refl x3 (second_none k l1 l2)
  commands_none k id C (l1 ∷ l2 ∷ l3 ∷ l4 ∷ R) more a n w e =
      let h1 = heads l1.1 (connect k) (l2.1 ∷ l3.1 ∷ l4.1 ∷ (bare R ++ more)) (create_stream ∷ ask k id ∷ []) e in
      let h2 = heads l2.1 create_stream (l3.1 ∷ l4.1 ∷ (bare R ++ more)) (ask k id ∷ []) h1.1 in
      let h3 = heads l3.1 (ask k id) (l4.1 ∷ (bare R ++ more)) [] h2.1 in
      absurd (never l4.1 (bare R ++ more) h3.1)
