-- What a session says where it grants what its client asks, and which calls it makes
use Rattle.std.proofs.Common.{◌≡◌, ◌⊎◌, inl, inr, ℕ, ◌+◌, ◌<◌, ◌≤◌, ◌^◌, Bool, true, false, ◌==◌, ◌&&◌, not, nat_le, if◌then◌else◌, List, [], ◌∷◌, ◌++◌, length}
use Rattle.std.proofs.Common.{Option, Some, None, Result, Ok, Err, option_map, refl, sym, ap, ◌∙◌, subst, arith, append_assoc, append-nil}
use Rattle.std.specs.Prelude.{codes}
use Rattle.std.proofs.lemmas.Bool.Decides.{nat_tests}
use Rattle.av_unit.specs.Classes.{unit_from}
use Rattle.av_unit.specs.Media.{Media}
use Rattle.ack_window.specs.Controls.{control_in, message_of}
use Rattle.ack_window.specs.declared.control.BadControl.{BadControl}
use Rattle.ack_window.specs.declared.control.Control.{Control}
use Rattle.amf0_value.specs.Encoding.{items_spelling}
use Rattle.amf0_value.specs.Pattern.{pattern}
use Rattle.amf0_value.specs.declared.walk.Brief.TheVariants as brief
use Rattle.chunk_wire.specs.declared.message.Message.{Message}
use Rattle.client_law.proofs.Alike.{idles, said_join}
use Rattle.client_law.proofs.Push.{pattern_low}
use Rattle.client_law.proofs.Steps.{by_heard, command_does, heard_delete}
use Rattle.client_law.specs.Loud.{Every, EverySaid, asked_by, bare, is_loud, keep, loud}
use Rattle.client_owed.specs.Client.{ask, asks, connect, connects, create_stream, delete_stream, tc_url}
use Rattle.client_owed.specs.Owed.{MayGive, sent_on}
use Rattle.client_owed.specs.declared.types.Asked.{Asked}
use Rattle.client_owed.specs.declared.types.Given.{Given}
use Rattle.client_owed.specs.declared.types.Given.TheVariants.{Finish, Send}
use Rattle.client_owed.specs.declared.types.Phase.TheVariants as client_phase
use Rattle.client_owed.specs.declared.types.Wish.{Wish}
use Rattle.client_owed.specs.declared.types.Wish.TheVariants as wish
use Rattle.command_dialog.specs.Dialog as dialog
use Rattle.command_dialog.specs.Meaning as means
use Rattle.command_dialog.specs.Meaning.{meaning}
use Rattle.command_dialog.specs.State.{State}
use Rattle.command_dialog.specs.Words.{app_in, key_in, name_in}
use Rattle.command_dialog.specs.declared.types.Act.TheVariants as act
use Rattle.command_dialog.specs.declared.types.Ask.{Ask}
use Rattle.command_dialog.specs.declared.types.DialogFail.{DialogFail}
use Rattle.command_dialog.specs.declared.types.Grant.{Grant}
use Rattle.command_dialog.specs.declared.types.Grant.TheVariants as grant
use Rattle.command_dialog.specs.declared.types.Meant.{Meant}
use Rattle.command_dialog.specs.declared.types.Meant.TheVariants as meant
use Rattle.command_dialog.specs.declared.types.Phase.{Phase}
use Rattle.command_dialog.specs.declared.types.Phase.TheVariants as phase
use Rattle.command_dialog.specs.declared.types.Role.{Role}
use Rattle.command_dialog.specs.declared.types.Role.TheVariants as role
use Rattle.flv_tags.specs.Layout.{is_kind}
use Rattle.refusal_law.specs.Refusals.{AreClosed, AreGranted, AreOpened, HasBegun, HasJoined, IsGranted, OpensFor, opens, role_of}
use Rattle.refusal_law.proofs.Calm.{Strict, connected_strict, control_read, control_strict, created_strict, play_starts, pongs_strict, publish_starts}
use Rattle.refusal_law.proofs.Heeding.{SmallFree, creating, heard_connect, heard_create, heard_play, heard_publish}
use Rattle.relay_session.specs.Session.{does, does_by, session, told}
use Rattle.rtmp_command.specs.Heard.{heard_in}
use Rattle.rtmp_command.specs.declared.heard.Heard.{Heard}
use Rattle.session_owed.specs.Dialogue.{Dialogue, Step}
use Rattle.session_owed.specs.Talk.{Own, Talk, calling, does_at, entry_of, goes, hand_bytes, is_at, is_take, makes, one, reply_at, resumed, started, walk}
use Rattle.stream_model.specs.declared.calls.Call.{Call}
use Rattle.stream_model.specs.declared.calls.Call.TheVariants as call
use Rattle.stream_model.specs.declared.calls.Entry.{Entry}
use Rattle.stream_model.specs.declared.replies.Reply.{Reply}
use Rattle.stream_model.specs.declared.replies.Reply.TheVariants as reply

-- no play or publish waits to be granted
abbrev pub NotAsked : Phase → Type 0
NotAsked phase.Idle = Unit {0}
NotAsked (phase.Asked r id) = ⊥
NotAsked (phase.Publishes id size) = Unit {0}
NotAsked (phase.Plays p) = Unit {0}

-- a call by which none begins
abbrev pub Continues : Option Call → Type 0
Continues None = Unit {0}
Continues (Some c) = opens c ≡ false

-- ---- what is told

-- where none waits nothing is told
told_unasked : (s : State) (r : Reply) → NotAsked s.phase → ((told s r).says ≡ []) × NotAsked (told s r).state.phase
unfolding told dialog.told
told_unasked s r h = by_phase s.phase h
  where
    by_phase : (p : Phase) → NotAsked p → (dialog.told_in p r ≡ []) × NotAsked (dialog.phase_after p r)
    by_phase phase.Idle h = (refl, tt)
    by_phase (phase.Asked q id) h = absurd h
    by_phase (phase.Publishes id size) h = (refl, tt)
    by_phase (phase.Plays p) h = (refl, tt)

-- the reply by which a role begins
abbrev pub IsGood : Role → Reply → Type 0
IsGood role.Publish r = HasBegun r
IsGood role.Play r = HasJoined r

-- where one begins, its start is told
publish_good : (id : ℕ) (r : Reply) → HasBegun r → Every Strict (dialog.told_publish id r) × NotAsked (dialog.publishes_after id r)
publish_good id (reply.Began n) h = ((publish_starts id, tt), tt)
publish_good id (reply.NoSlot slots) h = absurd h
publish_good id (reply.InUse by) h = absurd h
publish_good id (reply.Pushed n) h = absurd h
publish_good id (reply.NotPublisher live) h = absurd h
publish_good id (reply.Ended n) h = absurd h
publish_good id (reply.Joined player from) h = absurd h
publish_good id reply.Full h = absurd h
publish_good id reply.NotPlayer h = absurd h
publish_good id (reply.Sent from n item) h = absurd h
publish_good id (reply.Skip from to) h = absurd h
publish_good id (reply.NotYet end) h = absurd h
publish_good id (reply.Left player) h = absurd h
publish_good id (reply.Counts began pushed ended joined skips) h = absurd h

play_good : (id : ℕ) (r : Reply) → HasJoined r → Every Strict (dialog.told_play id r) × NotAsked (dialog.plays_after id r)
play_good id (reply.Joined player from) h = (
  (
    control_strict (Rattle.ack_window.specs.declared.control.Control.TheVariants.User 0 id),
    (play_starts id, tt),
  ),
  tt,
)
play_good id (reply.Began n) h = absurd h
play_good id (reply.NoSlot slots) h = absurd h
play_good id (reply.InUse by) h = absurd h
play_good id (reply.Pushed n) h = absurd h
play_good id (reply.NotPublisher live) h = absurd h
play_good id (reply.Ended n) h = absurd h
play_good id reply.Full h = absurd h
play_good id reply.NotPlayer h = absurd h
play_good id (reply.Sent from n item) h = absurd h
play_good id (reply.Skip from to) h = absurd h
play_good id (reply.NotYet end) h = absurd h
play_good id (reply.Left player) h = absurd h
play_good id (reply.Counts began pushed ended joined skips) h = absurd h

pub told_good : (s : State) (r : Reply) (q : Role) (id : ℕ) → s.phase ≡ phase.Asked q id → IsGood q r
    → Every Strict (told s r).says × NotAsked (told s r).state.phase
unfolding told dialog.told
told_good s r q id e h = subst (λ (p : Phase). Every Strict (dialog.told_in p r) × NotAsked (dialog.phase_after p r)) (sym e) (by_role q h)
  where
    by_role : (q : Role) → IsGood q r → Every Strict (dialog.told_in (phase.Asked q id) r) × NotAsked (dialog.phase_after (phase.Asked q id) r)
    by_role role.Publish h = publish_good id r h
    by_role role.Play h = play_good id r h

-- ---- a message

module _ (desk : Ask → Grant) (k : Asked) where
  -- it is connected to what the client named, or to nothing yet
  abbrev pub IsApp : Option (List ℕ) → Type 0
  IsApp o = (a : List ℕ) → o ≡ Some a → a ≡ app_in k.app

  -- what a step leaves, where nothing is begun by it
  pub record IsMeek (s : State) (v : Step State) : Type 0 where
    pub says : Every Strict v.says
    pub app : IsApp s.app → IsApp v.state.app
    pub unasked : NotAsked s.phase → NotAsked v.state.phase
    pub makes : Continues v.makes
    pub idle : s.phase ≡ phase.Idle → (v.state.phase ≡ phase.Idle) × (v.makes ≡ None)

  -- it leaves the phase, and makes no call
  still : (s t : State) (says : List Message) → Every Strict says → (IsApp s.app → IsApp t.app) → t.phase ≡ s.phase
      → IsMeek s (record { state = t; says = says; makes = None })
  still s t says q a e = record { says = q; app = a; unasked = subst NotAsked (sym e); makes = tt; idle = λ f. (e ∙ f, refl) }

  -- a step by what a message means
  abbrev by_meaning : State → Message → Result Meant DialogFail → Step State
  by_meaning s m r = record {
    state = (dialog.does_by desk s m r).state;
    says = (dialog.does_by desk s m r).says;
    makes = option_map dialog.call_of (dialog.does_by desk s m r).makes;
  }

  passed_meek : (s : State) (m : Message) → IsMeek s (by_meaning s m (Ok meant.Passed))
  unfolding dialog.says dialog.after dialog.makes
  passed_meek s m = still s s [] tt (λ a. a) refl

  refused_meek : (s : State) (m : Message) (e : DialogFail) → IsMeek s (by_meaning s m (Err e))
  refused_meek s m e = still s s [] tt (λ a. a) refl

  connect_meek : (s : State) (m : Message) (o : Option (List ℕ)) → s.app ≡ o → IsMeek s (by_meaning s m (Ok (means.connects o (pattern 1) (Some k.app))))
  unfolding dialog.says dialog.after dialog.makes
  connect_meek s m None e = still s (Rattle.command_dialog.specs.State.with_app s (app_in k.app)) (dialog.connected s.window (pattern 1))
      (connected_strict s.window) (λ h a f. let g : app_in k.app ≡ a = cc in sym g) refl
  connect_meek s m (Some a) e = still s s [] tt (λ a. a) refl

  create_meek : (s : State) (m : Message) (o : Option ℕ) → ((id : ℕ) → o ≡ Some id → id ≤ 16) → IsMeek s (by_meaning s m (means.creates (pattern 2) o))
  unfolding dialog.says dialog.after dialog.makes
  create_meek s m None f = still s s [] tt (λ a. a) refl
  create_meek s m (Some id) f =
      still s (Rattle.command_dialog.specs.State.with_ids s (s.ids ++ id ∷ []))
      (dialog.answers 0 (Rattle.rtmp_command.specs.declared.answer.Answer.TheVariants.Created (pattern 2) id) ∷ [])
      (created_strict id (pattern_low id (omega (arith, f id refl))), tt) (λ a. a) refl

  -- what the phase says of a unit, or of the end of a role
  abbrev Moves : Phase → Phase → Option Call → Type 0
  Moves p q o = (NotAsked p → NotAsked q) × Continues o × (p ≡ phase.Idle → (q ≡ phase.Idle) × (o ≡ None))

  moved : (s t : State) (o : Option Call) → t.app ≡ s.app → Moves s.phase t.phase o → IsMeek s (record { state = t; says = []; makes = o })
  moved s t o a v = record { says = tt; app = subst IsApp (sym a); unasked = v.0; makes = v.1; idle = v.2 }

  unit_moves : (id size : ℕ) (u : Option Media) → Moves (phase.Publishes id size) (dialog.sized u (phase.Publishes id size))
      (option_map dialog.call_of (option_map act.Push u))
  unit_moves id size None = (λ h. tt, tt, λ e. absurd cc)
  unit_moves id size (Some u) = (λ h. tt, refl, λ e. absurd cc)

  media_moves : (p : Phase) (m : Message) → Moves p (dialog.sized (dialog.published_in p m) p)
      (option_map dialog.call_of (option_map act.Push (dialog.published_in p m)))
  media_moves phase.Idle m = (λ h. h, tt, λ e. (refl, refl))
  media_moves (phase.Asked r id) m = (λ h. h, tt, λ e. absurd cc)
  media_moves (phase.Publishes id size) m = unit_moves id size (unit_from m.kind m.time m.body size)
  media_moves (phase.Plays p) m = (λ h. h, tt, λ e. absurd cc)

  media_meek : (s : State) (m : Message) (b : Bool) → IsMeek s (by_meaning s m (if b then Ok meant.Media else Ok meant.Passed))
  unfolding dialog.says dialog.after dialog.makes
  media_meek s m true = moved s (Rattle.command_dialog.specs.State.with_phase s (dialog.sized (dialog.published_in s.phase m) s.phase))
      (option_map dialog.call_of (option_map act.Push (dialog.published_in s.phase m))) refl (media_moves s.phase m)
  media_meek s m false = passed_meek s m

  publishes_moves : (id n size : ℕ) (b : Bool) → Moves (phase.Publishes n size) (if b then phase.Idle else phase.Publishes n size)
      (option_map dialog.call_of (if b then Some act.End else None))
  publishes_moves id n size true = (λ h. tt, refl, λ e. absurd cc)
  publishes_moves id n size false = (λ h. tt, tt, λ e. absurd cc)

  plays_moves : (p : Rattle.command_dialog.specs.declared.types.Playing.Playing) (b : Bool)
      → Moves (phase.Plays p) (if b then phase.Idle else phase.Plays p) (option_map dialog.call_of (if b then Some (act.Leave p.player) else None))
  plays_moves p true = (λ h. tt, refl, λ e. absurd cc)
  plays_moves p false = (λ h. tt, tt, λ e. absurd cc)

  close_moves : (id : ℕ) (p : Phase) → Moves p (dialog.phase_without id p) (option_map dialog.call_of (dialog.ends id p))
  close_moves id phase.Idle = (λ h. h, tt, λ e. (refl, refl))
  close_moves id (phase.Asked r n) = (λ h. h, tt, λ e. absurd cc)
  close_moves id (phase.Publishes n size) = publishes_moves id n size (n == id)
  close_moves id (phase.Plays p) = plays_moves p (p.id == id)

  closes_meek : (s : State) (m : Message) (o : Option ℕ) → IsMeek s (by_meaning s m (Ok (means.closes_some o)))
  unfolding dialog.says dialog.after dialog.makes
  closes_meek s m None = passed_meek s m
  closes_meek s m (Some id) =
      moved s (Rattle.command_dialog.specs.State.with_phase (Rattle.command_dialog.specs.State.with_ids s (dialog.without id s.ids))
      (dialog.phase_without id s.phase)) (option_map dialog.call_of (dialog.ends id s.phase)) refl (close_moves id s.phase)

  create_after : SmallFree desk → (s : State) (m : Message) (o : Option (List ℕ)) → IsMeek s (by_meaning s m (means.after_connect s 0 creating o))
  create_after free s m None = passed_meek s m
  create_after free s m (Some app) = create_meek s m (means.least_free s.ids) (λ id e. (free s.ids id e).1)

  delete_after : (s : State) (m : Message) (bits : ℕ) (o : Option (List ℕ))
      → IsMeek s (by_meaning s m (means.after_connect s 0 (record
      { name = codes "deleteStream"; transaction = pattern 4; app = None; fourth = brief.Number bits }) o))
  delete_after s m bits None = passed_meek s m
  delete_after s m bits (Some app) = closes_meek s m (means.closed_in bits s.ids)

  -- A MESSAGE by which nothing is begun
  abbrev pub IsOther : Message → Type 0
  IsOther m = (s : State) → IsMeek s (does desk s m)

  command_other : (stream : ℕ) (body : List ℕ) (h : Heard) → heard_in body ≡ Ok h
      → ((s : State) → IsMeek s (by_meaning s (record { kind = 20; stream = stream; time = 0; body = body }) (means.commands s stream h)))
      → IsOther (record { kind = 20; stream = stream; time = 0; body = body })
  unfolding by_heard
  command_other stream body h e w = λ s.
      subst (IsMeek s) (sym (command_does desk s stream body ∙ ap (by_heard desk s (record { kind = 20; stream = stream; time = 0; body = body })) e)) (w s)

  connect_other : length (tc_url k) < 2 ^ 16 → IsOther (connect k)
  connect_other l = command_other 0 (items_spelling (connects k)) _ (heard_connect k l) (λ s. connect_meek s (connect k) s.app refl)

  create_other : SmallFree desk → IsOther create_stream
  create_other free = command_other 0 create_stream.body creating heard_create (λ s. create_after free s create_stream s.app)

  delete_other : (id : ℕ) → pattern id < 2 ^ 64 → IsOther (delete_stream id)
  delete_other id low = command_other 0 (delete_stream id).body _ (heard_delete id low) (λ s. delete_after s (delete_stream id) (pattern id) s.app)

  pub control_other : (c : Control) → IsOther (message_of c)
  unfolding does
  control_other c = λ s.
      let m = message_of c in
      let r = control_read c in
      subst (λ (q : Result (Option Control) BadControl). IsMeek s (does_by desk s m q)) (sym r.1)
      (still s s (Rattle.relay_session.specs.Session.pongs (Rattle.ack_window.specs.Controls.ping_answer_of r.0)) (pongs_strict r.0) (λ a. a) refl)

  abbrev media : ℕ → ℕ → ℕ → List ℕ → Message
  media stream time kind body = record { kind = kind; stream = stream; time = time; body = body }

  other_8 : (stream time : ℕ) (body : List ℕ) → IsOther (media stream time 8 body)
  unfolding does control_in meaning dialog.does
  other_8 stream time body = λ s. media_meek s (media stream time 8 body) (means.publishes_on stream s.phase)

  other_9 : (stream time : ℕ) (body : List ℕ) → IsOther (media stream time 9 body)
  unfolding does control_in meaning dialog.does
  other_9 stream time body = λ s. media_meek s (media stream time 9 body) (means.publishes_on stream s.phase)

  other_18 : (stream time : ℕ) (body : List ℕ) → IsOther (media stream time 18 body)
  unfolding does control_in meaning dialog.does
  other_18 stream time body = λ s. media_meek s (media stream time 18 body) (means.publishes_on stream s.phase)

  kinds : (kind : ℕ) → is_kind kind ≡ true → (kind ≡ 8) ⊎ ((kind ≡ 9) ⊎ (kind ≡ 18))
  kinds kind e = grind (arith, nat_tests)

  tag_other : (stream time kind : ℕ) (body : List ℕ) → is_kind kind ≡ true → IsOther (media stream time kind body)
  tag_other stream time kind body e = by_kind (kinds kind e)
    where
      by_kind : (kind ≡ 8) ⊎ ((kind ≡ 9) ⊎ (kind ≡ 18)) → IsOther (media stream time kind body)
      by_kind (inl q) = subst (λ (n : ℕ). IsOther (media stream time n body)) (sym q) (other_8 stream time body)
      by_kind (inr (inl q)) = subst (λ (n : ℕ). IsOther (media stream time n body)) (sym q) (other_9 stream time body)
      by_kind (inr (inr q)) = subst (λ (n : ℕ). IsOther (media stream time n body)) (sym q) (other_18 stream time body)

  pub given_other : (w : Wish) (max id : ℕ) (g : Given) → id < 2 ^ 32 → MayGive w max g → IsOther (sent_on id g)
  given_other w max id (Send t) s m = tag_other id t.time t.kind t.body m.1
  given_other w max id Finish s m = delete_other id (pattern_low id (omega (arith, s)))

  -- ---- the one that asks

  -- it makes the call that begins the role
  pub record IsBegun (w : Wish) (s : State) (v : Step State) : Type 0 where
    pub id : ℕ
    pub opening : Call
    pub says : v.says ≡ []
    pub app : v.state.app ≡ s.app
    pub waits : v.state.phase ≡ phase.Asked (role_of w) id
    pub makes : v.makes ≡ Some opening
    pub opens_for : OpensFor w opening
    pub good : (r : Reply) → IsGranted opening r → IsGood (role_of w) r

  abbrev asking_step : State → Role → ℕ → List ℕ → Grant → Step State
  asking_step s r id name g = record {
    state = Rattle.command_dialog.specs.State.with_phase s (dialog.asked r id (Some g));
    says = dialog.refused_by r id (Some g);
    makes = option_map dialog.call_of (dialog.calls_by r name (Some g));
  }

  begin_is : (s : State) (id place : ℕ) (name : List ℕ) (b : Bool) → nat_le (length name) 64 ≡ b
      → IsBegun wish.Push s (asking_step s role.Publish id name (grant.Place place))
  begin_is s id place name true e = record {
    id = id;
    opening = call.BeginAs name;
    says = refl;
    app = refl;
    waits = refl;
    makes = ap (λ (t : Bool). Some (if t then call.BeginAs name else call.Begin)) e;
    opens_for = tt;
    good = λ r h. h;
  }
  begin_is s id place name false e = record {
    id = id;
    opening = call.Begin;
    says = refl;
    app = refl;
    waits = refl;
    makes = ap (λ (t : Bool). Some (if t then call.BeginAs name else call.Begin)) e;
    opens_for = tt;
    good = λ r h. h;
  }

  join_is : (s : State) (id place : ℕ) (name : List ℕ) (b : Bool) → nat_le (length name) 64 ≡ b
      → IsBegun wish.Pull s (asking_step s role.Play id name (grant.Place place))
  join_is s id place name true e = record {
    id = id;
    opening = call.JoinAs name;
    says = refl;
    app = refl;
    waits = refl;
    makes = ap (λ (t : Bool). Some (if t then call.JoinAs name else call.Join)) e;
    opens_for = tt;
    good = λ r h. h;
  }
  join_is s id place name false e = record {
    id = id;
    opening = call.Join;
    says = refl;
    app = refl;
    waits = refl;
    makes = ap (λ (t : Bool). Some (if t then call.JoinAs name else call.Join)) e;
    opens_for = tt;
    good = λ r h. h;
  }

  opening_is : (w : Wish) (s : State) (id place : ℕ) (name : List ℕ) (g : Grant) → g ≡ grant.Place place → IsBegun w s (asking_step s (role_of w) id name g)
  opening_is wish.Push s id place name g e = subst (λ (x : Grant). IsBegun wish.Push s (asking_step s role.Publish id name x)) (sym e)
      (begin_is s id place name (nat_le (length name) 64) refl)
  opening_is wish.Pull s id place name g e = subst (λ (x : Grant). IsBegun wish.Pull s (asking_step s role.Play id name x)) (sym e)
      (join_is s id place name (nat_le (length name) 64) refl)

  -- it is passed over, or that
  abbrev IsAsked : Wish → State → Step State → Type 0
  IsAsked w s v = IsMeek s v ⊎ IsBegun w s v

  abbrev pub ask_of : Wish → List ℕ → Ask
  ask_of w app = record { role = role_of w; app = app; name = name_in k.name; key = key_in k.name }

  idle_asks : (w : Wish) (s : State) (m : Message) (id place : ℕ) (app : List ℕ) (p : Phase) → p ≡ phase.Idle → desk (ask_of w app) ≡ grant.Place place
      → IsBegun w s (by_meaning s m (Ok (means.asks_while p (role_of w) id app k.name)))
  unfolding dialog.says dialog.after dialog.makes
  idle_asks w s m id place app p e g =
      subst (λ (x : Phase). IsBegun w s (by_meaning s m (Ok (means.asks_while x (role_of w) id app k.name)))) (sym e)
      (opening_is w s id place (name_in k.name) (desk (ask_of w app)) g)

  asks_if : (w : Wish) (s : State) (m : Message) (id place : ℕ) (app : List ℕ) (b : Bool) → s.phase ≡ phase.Idle → desk (ask_of w app) ≡ grant.Place place
      → IsAsked w s (by_meaning s m (Ok (if b then means.asks_while s.phase (role_of w) id app k.name else meant.Passed)))
  asks_if w s m id place app true e g = inr (idle_asks w s m id place app s.phase e g)
  asks_if w s m id place app false e g = inl (passed_meek s m)

  abbrev pub Grants : Wish → ℕ → Type 0
  Grants w place = desk (ask_of w (app_in k.app)) ≡ grant.Place place

  granted_at : (w : Wish) (place : ℕ) (s : State) (app : List ℕ) → Grants w place → IsApp s.app → s.app ≡ Some app → desk (ask_of w app) ≡ grant.Place place
  granted_at w place s app g a e = ap (λ (x : List ℕ). desk (ask_of w x)) (a app e) ∙ g

  publish_after : (s : State) (m : Message) (id place : ℕ) (o : Option (List ℕ)) → s.app ≡ o → s.phase ≡ phase.Idle → IsApp s.app → Grants wish.Push place
      → IsAsked wish.Push s (by_meaning s m (means.after_connect s id
      (record { name = codes "publish"; transaction = pattern 3; app = None; fourth = brief.Text k.name }) o))
  publish_after s m id place None e i a g = inl (passed_meek s m)
  publish_after s m id place (Some app) e i a g = asks_if wish.Push s m id place app (means.is_open id s.ids) i (granted_at wish.Push place s app g a e)

  play_after : (s : State) (m : Message) (id place : ℕ) (o : Option (List ℕ)) → s.app ≡ o → s.phase ≡ phase.Idle → IsApp s.app → Grants wish.Pull place
      → IsAsked wish.Pull s (by_meaning s m (means.after_connect s id
      (record { name = codes "play"; transaction = pattern 3; app = None; fourth = brief.Text k.name }) o))
  play_after s m id place None e i a g = inl (passed_meek s m)
  play_after s m id place (Some app) e i a g = asks_if wish.Pull s m id place app (means.is_open id s.ids) i (granted_at wish.Pull place s app g a e)

  asks_so : (w : Wish) (id place : ℕ) (s : State) → length k.name < 2 ^ 16 → s.phase ≡ phase.Idle → IsApp s.app → Grants w place
      → IsAsked w s (does desk s (record { kind = 20; stream = id; time = 0; body = items_spelling (asks w k.name) }))
  unfolding by_heard
  asks_so wish.Push id place s l i a g =
      subst (IsAsked wish.Push s) (sym (command_does desk s id (items_spelling (asks wish.Push k.name))
      ∙ ap (by_heard desk s (record { kind = 20; stream = id; time = 0; body = items_spelling (asks wish.Push k.name) })) (heard_publish k.name l)))
      (publish_after s (record { kind = 20; stream = id; time = 0; body = items_spelling (asks wish.Push k.name) }) id place s.app refl i a g)
  asks_so wish.Pull id place s l i a g =
      subst (IsAsked wish.Pull s) (sym (command_does desk s id (items_spelling (asks wish.Pull k.name))
      ∙ ap (by_heard desk s (record { kind = 20; stream = id; time = 0; body = items_spelling (asks wish.Pull k.name) })) (heard_play k.name l)))
      (play_after s (record { kind = 20; stream = id; time = 0; body = items_spelling (asks wish.Pull k.name) }) id place s.app refl i a g)

  ask_so : (id place : ℕ) (s : State) → length k.name < 2 ^ 16 → s.phase ≡ phase.Idle → IsApp s.app → Grants k.wish place
      → IsAsked k.wish s (does desk s (ask k id))
  ask_so id place s l i a g = asks_so k.wish id place s l i a g

  -- ---- all that a client sends

  abbrev pub Planned : Bool → List Message → Type 0
  Planned asked [] = Unit {0}
  Planned true (m ∷ l) = IsOther m × Planned true l
  Planned false (m ∷ l) = (IsOther m × Planned false l) ⊎ ((id : ℕ) × (m ≡ ask k id) × Planned true l)

  planned_others : (b : Bool) (l : List Message) → Every IsOther l → Planned b l
  planned_others b [] h = tt
  planned_others true (m ∷ l) h = (h.0, planned_others true l h.1)
  planned_others false (m ∷ l) h = inl (h.0, planned_others false l h.1)

  pub planned_front : (b : Bool) (l r : List Message) → Planned b (l ++ r) → Planned b l
  planned_front b [] r h = tt
  planned_front true (m ∷ l) r h = (h.0, planned_front true l r h.1)
  planned_front false (m ∷ l) r (inl h) = inl (h.0, planned_front false l r h.1)
  planned_front false (m ∷ l) r (inr h) = inr (h.0, h.1, planned_front true l r h.2)

  pub planned_all : (free : SmallFree desk) (short : length (tc_url k) < 2 ^ 16) (p : Rattle.client_owed.specs.declared.types.Phase.Phase) (S : List Message)
      → Every IsOther S
      → Planned false (asked_by k p ++ S)
  planned_all free short client_phase.Connecting S h = inl (connect_other short, planned_others false S h)
  planned_all free short client_phase.Creating S h = inl (connect_other short, inl (create_other free, planned_others false S h))
  planned_all free short (client_phase.Asking id) S h = inl (connect_other short, inl (create_other free, inr (id, refl, planned_others true S h)))
  planned_all free short (client_phase.Started id) S h = inl (connect_other short, inl (create_other free, inr (id, refl, planned_others true S h)))

  -- a control message
  quiet_other : (m : Message) → is_loud m ≡ false → IsOther m
  quiet_other m q = λ s.
      let i = idles Strict desk pongs_strict s m q in
      record {
        says = i.says;
        app = λ a. subst (λ (t : State). IsApp t.app) (sym i.state) a;
        unasked = λ h. subst (λ (t : State). NotAsked t.phase) (sym i.state) h;
        makes = subst Continues (sym i.makes) tt;
        idle = λ e. (ap (λ (t : State). t.phase) i.state ∙ e, i.makes);
      }

  every_map : (P Q : Message → Type 0) (l : List Message) → ((m : Message) → P m → Q m) → Every P l → Every Q l
  every_map P Q [] f h = tt
  every_map P Q (m ∷ l) f h = (f m h.0, every_map P Q l f h.1)

  closed_more : (es : List Entry) (e : Entry) → AreClosed es → opens e.call ≡ false → AreClosed (es ++ e ∷ [])
  closed_more [] e h c = (c, tt)
  closed_more (x ∷ es) e h c = (h.0, closed_more es e h.1 c)

  not_true : true ≡ false → ⊥
  not_true e = cc

  -- whatever is told leaves none waiting
  told_leaves : (s : State) (r : Reply) → NotAsked (told s r).state.phase
  unfolding told dialog.told
  told_leaves s r = by_phase s.phase
    where
      after_publish : (id : ℕ) (r : Reply) → NotAsked (dialog.publishes_after id r)
      after_publish id (reply.Began n) = tt
      after_publish id (reply.NoSlot slots) = tt
      after_publish id (reply.InUse by) = tt
      after_publish id (reply.Pushed n) = tt
      after_publish id (reply.NotPublisher live) = tt
      after_publish id (reply.Ended n) = tt
      after_publish id (reply.Joined player from) = tt
      after_publish id reply.Full = tt
      after_publish id reply.NotPlayer = tt
      after_publish id (reply.Sent from n item) = tt
      after_publish id (reply.Skip from to) = tt
      after_publish id (reply.NotYet end) = tt
      after_publish id (reply.Left player) = tt
      after_publish id (reply.Counts began pushed ended joined skips) = tt

      after_play : (id : ℕ) (r : Reply) → NotAsked (dialog.plays_after id r)
      after_play id (reply.Began n) = tt
      after_play id (reply.NoSlot slots) = tt
      after_play id (reply.InUse by) = tt
      after_play id (reply.Pushed n) = tt
      after_play id (reply.NotPublisher live) = tt
      after_play id (reply.Ended n) = tt
      after_play id (reply.Joined player from) = tt
      after_play id reply.Full = tt
      after_play id reply.NotPlayer = tt
      after_play id (reply.Sent from n item) = tt
      after_play id (reply.Skip from to) = tt
      after_play id (reply.NotYet end) = tt
      after_play id (reply.Left player) = tt
      after_play id (reply.Counts began pushed ended joined skips) = tt

      by_phase : (p : Phase) → NotAsked (dialog.phase_after p r)
      by_phase phase.Idle = tt
      by_phase (phase.Asked role.Publish id) = after_publish id r
      by_phase (phase.Asked role.Play id) = after_play id r
      by_phase (phase.Publishes id size) = tt
      by_phase (phase.Plays p) = tt

  module _ (who window : ℕ) (C : List Own) (all : List Entry) (place : ℕ) (grants : Grants k.wish place) (short : length k.name < 2 ^ 16) (Q : Message → Type 0)
      (strict_is : (m : Message) → Strict m → Q m)
      (tells : (s : State) (id n : ℕ) (c : Call) (r : Reply) (more : List Entry) → s.phase ≡ phase.Asked (role_of k.wish) id
      → ((x : Reply) → IsGranted c x → IsGood (role_of k.wish) x) → reply_at n C ≡ Some r
      → record { who = who; at = hand_bytes + n; call = c } ∷ more ≡ all → Every Q (told s r).says) where
    abbrev d : Dialogue State
    d = session who window desk

    -- nothing was asked of the stream
    record Before (t : Talk State) : Type 0 where
      pub phase_is : t.state.phase ≡ phase.Idle
      pub app : IsApp t.state.app
      pub made : t.made ≡ []
      pub free : t.stuck ≡ false
      pub said : EverySaid Q t.said

    -- the role was asked for, by the first call
    record After (t : Talk State) : Type 0 where
      pub first : Entry
      pub more : List Entry
      pub made : t.made ≡ first ∷ more
      pub opening : OpensFor k.wish first.call
      pub closed : AreClosed more
      pub unasked : t.stuck ≡ false → NotAsked t.state.phase
      pub said : EverySaid Q t.said

    abbrev Story : Bool → Talk State → Type 0
    Story false t = Before t
    Story true t = Before t ⊎ After t

    so : (l : List Message) → Every Strict l → Every Q l
    so l h = every_map Strict Q l strict_is h

    -- ---- a message by which nothing is begun

    goes_after : (n : ℕ) (t : Talk State) (o : Option Call) → Continues o → t.stuck ≡ false → After t → After (goes d C n t o)
    goes_after n t None q s a = a
    goes_after n t (Some c) q s a = by_reply (reply_at n C)
      where
        e : Entry
        e = entry_of d n c

        made : t.made ++ e ∷ [] ≡ a.first ∷ (a.more ++ e ∷ [])
        made = ap (λ (l : List Entry). l ++ e ∷ []) a.made

        by_reply : (o : Option Reply) → After (resumed d n (calling d n t c) o)
        by_reply None = record {
          first = a.first;
          more = a.more ++ e ∷ [];
          made = made;
          opening = a.opening;
          closed = closed_more a.more e a.closed q;
          unasked = λ f. absurd (not_true f);
          said = a.said;
        }
        by_reply (Some r) =
            let u = told_unasked t.state r (a.unasked s) in
            record {
              first = a.first;
              more = a.more ++ e ∷ [];
              made = made;
              opening = a.opening;
              closed = closed_more a.more e a.closed q;
              unasked = λ f. u.1;
              said = said_join Q t.said (n, (told t.state r).says) a.said (subst (Every Q) (sym u.0) tt);
            }

    after_other : (t : Talk State) (m : ℕ × Message) → IsOther m.1 → After t → After (one d C t m)
    unfolding one
    after_other t m o a = by_stuck t.stuck refl
      where
        v : Step State
        v = does desk t.state m.1

        by_stuck : (b : Bool) → t.stuck ≡ b → After (if b then t else does_at d C m.0 t v)
        by_stuck true e = a
        by_stuck false e =
            let i = o t.state in
            goes_after m.0 (started d m.0 t v) v.makes i.makes refl
            (record {
              first = a.first;
              more = a.more;
              made = a.made;
              opening = a.opening;
              closed = a.closed;
              unasked = λ f. i.unasked (a.unasked e);
              said = said_join Q t.said (m.0, v.says) a.said (so v.says i.says);
            })

    meek_before : (n : ℕ) (t : Talk State) (v : Step State) → IsMeek t.state v → Before t → Before (does_at d C n t v)
    meek_before n t v i b =
        let e = i.idle b.phase_is in
        subst (λ (o : Option Call). Before (goes d C n (started d n t v) o)) (sym e.1)
        (record { phase_is = e.0; app = i.app b.app; made = b.made; free = refl; said = said_join Q t.said (n, v.says) b.said (so v.says i.says) })

    open_one : (P : Talk State → Type 0) (t : Talk State) (m : ℕ × Message) → t.stuck ≡ false → P (does_at d C m.0 t (does desk t.state m.1)) → P (one d C t m)
    unfolding one
    open_one P t m e h = subst (λ (b : Bool). P (if b then t else does_at d C m.0 t (does desk t.state m.1))) (sym e) h

    before_other : (t : Talk State) (m : ℕ × Message) → IsOther m.1 → Before t → Before (one d C t m)
    before_other t m o b = open_one Before t m b.free (meek_before m.0 t (does desk t.state m.1) (o t.state) b)

    -- ---- the one that asks

    begun_after : (n : ℕ) (t : Talk State) (v : Step State) (b : Before t) (i : IsBegun k.wish t.state v) (o : Option Reply) → reply_at n C ≡ o
        → ((more : List Entry) × ((resumed d n (calling d n (started d n t v) i.opening) o).made ++ more ≡ all))
        → After (resumed d n (calling d n (started d n t v) i.opening) o)
    begun_after n t v b i None e f = record {
      first = entry_of d n i.opening;
      more = [];
      made = ap (λ (l : List Entry). l ++ entry_of d n i.opening ∷ []) b.made;
      opening = i.opens_for;
      closed = tt;
      unasked = λ g. absurd (not_true g);
      said = said_join Q t.said (n, v.says) b.said (subst (Every Q) (sym i.says) tt);
    }
    begun_after n t v b i (Some r) e f =
        let x = entry_of d n i.opening in
        let whole : x ∷ f.0 ≡ all = ap (λ (l : List Entry). (l ++ x ∷ []) ++ f.0) (sym b.made) ∙ f.1 in
        record {
          first = x;
          more = [];
          made = ap (λ (l : List Entry). l ++ x ∷ []) b.made;
          opening = i.opens_for;
          closed = tt;
          unasked = λ g. told_leaves v.state r;
          said = said_join Q (t.said ++ (n, v.says) ∷ []) (n, (told v.state r).says) (said_join Q t.said (n, v.says) b.said (subst (Every Q) (sym i.says) tt))
              (tells v.state i.id n i.opening r f.0 i.waits i.good e whole);
        }

    asked_story : (n : ℕ) (t : Talk State) (v : Step State) → Before t → IsAsked k.wish t.state v
        → ((more : List Entry) × ((does_at d C n t v).made ++ more ≡ all))
        → Story true (does_at d C n t v)
    asked_story n t v b (inl i) f = inl (meek_before n t v i b)
    asked_story n t v b (inr i) f =
        let g = subst (λ (o : Option Call). (more : List Entry) × ((goes d C n (started d n t v) o).made ++ more ≡ all)) i.makes f in
        inr (subst (λ (o : Option Call). After (goes d C n (started d n t v) o)) (sym i.makes) (begun_after n t v b i (reply_at n C) refl g))

    before_ask : (t : Talk State) (m : ℕ × Message) (id : ℕ) → m.1 ≡ ask k id → Before t → ((more : List Entry) × ((one d C t m).made ++ more ≡ all))
        → Story true (one d C t m)
    unfolding one
    before_ask t m id e b f =
        let v = does desk t.state m.1 in
        let g = subst (λ (s : Bool). (more : List Entry) × ((if s then t else does_at d C m.0 t v).made ++ more ≡ all)) b.free f in
        open_one (Story true) t m b.free
        (asked_story m.0 t v b (subst (λ (x : Message). IsAsked k.wish t.state (does desk t.state x)) (sym e)
        (ask_so id place t.state short b.phase_is b.app grants)) g)

    -- ---- the calls that were made stay

    goes_made : (n : ℕ) (t : Talk State) (o : Option Call) → (more : List Entry) × ((goes d C n t o).made ≡ t.made ++ more)
    goes_made n t None = ([], sym (append-nil t.made))
    goes_made n t (Some c) = by_reply (reply_at n C)
      where
        by_reply : (o : Option Reply) → (more : List Entry) × ((resumed d n (calling d n t c) o).made ≡ t.made ++ more)
        by_reply None = (entry_of d n c ∷ [], refl)
        by_reply (Some r) = (entry_of d n c ∷ [], refl)

    one_made : (t : Talk State) (m : ℕ × Message) → (more : List Entry) × ((one d C t m).made ≡ t.made ++ more)
    unfolding one
    one_made t m = by_stuck t.stuck
      where
        v : Step State
        v = does desk t.state m.1

        by_stuck : (b : Bool) → (more : List Entry) × ((if b then t else does_at d C m.0 t v).made ≡ t.made ++ more)
        by_stuck true = ([], sym (append-nil t.made))
        by_stuck false = goes_made m.0 (started d m.0 t v) v.makes

    walk_made : (t : Talk State) (ms : List (ℕ × Message)) → (more : List Entry) × ((walk d C t ms).made ≡ t.made ++ more)
    unfolding walk
    walk_made t [] = ([], sym (append-nil t.made))
    walk_made t (m ∷ ms) =
        let a = one_made t m in
        let b = walk_made (one d C t m) ms in
        (a.0 ++ b.0, b.1 ∙ ap (λ (l : List Entry). l ++ b.0) a.1 ∙ append_assoc t.made a.0 b.0)

    -- ---- all of it

    abbrev Ending : List (ℕ × Message) → Talk State → Type 0
    Ending ms t = (b : Bool) × Story b (walk d C t ms)

    loud_story : (b : Bool) (t : Talk State) (m : ℕ × Message) (rest : List Message) → Planned b (m.1 ∷ rest) → Story b t
        → ((more : List Entry) × ((one d C t m).made ++ more ≡ all)) → (c : Bool) × Planned c rest × Story c (one d C t m)
    loud_story true t m rest p (inl b) f = (true, p.1, inl (before_other t m p.0 b))
    loud_story true t m rest p (inr a) f = (true, p.1, inr (after_other t m p.0 a))
    loud_story false t m rest (inl p) b f = (false, p.1, before_other t m p.0 b)
    loud_story false t m rest (inr p) b f = (true, p.2, before_ask t m p.0 p.1 b f)

    quiet_story : (b : Bool) (t : Talk State) (m : ℕ × Message) → is_loud m.1 ≡ false → Story b t → Story b (one d C t m)
    quiet_story false t m q b = before_other t m (quiet_other m.1 q) b
    quiet_story true t m q (inl b) = inl (before_other t m (quiet_other m.1 q) b)
    quiet_story true t m q (inr a) = inr (after_other t m (quiet_other m.1 q) a)

    walk_story : (b : Bool) (t : Talk State) (ms : List (ℕ × Message)) → Planned b (loud (bare ms)) → (walk d C t ms).made ≡ all → Story b t → Ending ms t
    unfolding walk loud bare
    walk_story b t [] p e s = (b, s)
    walk_story b t (m ∷ ms) p e s = by_kind (λ c u q f r. walk_story c u ms q f r) (is_loud m.1) refl p
      where
        u : Talk State
        u = one d C t m

        left : (more : List Entry) × (u.made ++ more ≡ all)
        left = let w = walk_made u ms in (w.0, sym w.1 ∙ e)

        by_kind : ((c : Bool) (x : Talk State) → Planned c (loud (bare ms)) → (walk d C x ms).made ≡ all → Story c x → Ending ms x) → (l : Bool)
            → is_loud m.1 ≡ l
            → Planned b (keep l m.1 (loud (bare ms))) → Ending ms u
        by_kind ih true q p = let n = loud_story b t m (loud (bare ms)) p s left in ih n.0 u n.1 e n.2
        by_kind ih false q p = ih b u p e (quiet_story b t m q s)

    abbrev pub Ended : Talk State → Type 0
    Ended t = EverySaid Q t.said × AreOpened k.wish t.made

    ended : (b : Bool) (t : Talk State) → Story b t → Ended t
    ended false t b = (b.said, subst (AreOpened k.wish) (sym b.made) tt)
    ended true t (inl b) = (b.said, subst (AreOpened k.wish) (sym b.made) tt)
    ended true t (inr a) = (a.said, subst (AreOpened k.wish) (sym a.made) (a.opening, a.closed))

    pub talk_ends : (ms : List (ℕ × Message)) → Planned false (loud (bare ms)) → (walk d C (Rattle.session_owed.specs.Talk.fresh d) ms).made ≡ all
        → Ended (walk d C (Rattle.session_owed.specs.Talk.fresh d) ms)
    talk_ends ms p e =
        let f = Rattle.session_owed.specs.Talk.fresh d in
        let s = walk_story false f ms p e (record { phase_is = refl; app = λ a g. absurd cc; made = refl; free = refl; said = tt }) in
        ended s.0 (walk d C f ms) s.1

-- ---- the reply to the first call

and_false : (b : Bool) → (b && false) ≡ false
and_false true = refl
and_false false = refl

pub first_granted : (C : List Own) (rest : List Entry) (e : Entry) (more : List Entry) (n : ℕ) (r : Reply) → makes C ++ rest ≡ e ∷ more → e.at ≡ hand_bytes + n
    → reply_at n C ≡ Some r → AreGranted C → IsGranted e.call r
unfolding makes reply_at
first_granted [] rest e more n r f at q g = absurd cc
first_granted (c ∷ C) rest e more n r f at q g = by_take (λ f q. first_granted C rest e more n r f at q g.1) (is_take c.0.call) refl f q
  where
    by_take : (makes C ++ rest ≡ e ∷ more → reply_at n C ≡ Some r → IsGranted e.call r) → (b : Bool) → is_take c.0.call ≡ b
        → (if b then makes C else c.0 ∷ makes C) ++ rest ≡ e ∷ more → (if is_at n c && not b then Some c.1 else reply_at n C) ≡ Some r → IsGranted e.call r
    by_take ih true t f q = ih f (sym (ap (λ (x : Bool). if x then Some c.1 else reply_at n C) (and_false (is_at n c))) ∙ q)
    by_take ih false t f q =
        let same : c.0 ≡ e = cc in
        let here : is_at n c ≡ true = grind (arith, nat_tests, ap (λ (x : Entry). x.at) same, at) in
        let first : Some c.1 ≡ Some r = sym (ap (λ (x : Bool). if x && true then Some c.1 else reply_at n C) here) ∙ q in
        let said : c.1 ≡ r = cc in
        subst (λ (x : Reply). IsGranted e.call x) said (subst (λ (x : Entry). IsGranted x.call c.1) same g.0)
