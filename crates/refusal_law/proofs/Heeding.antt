-- What a session does at a message of a client, wherever it stands: no such message ends it, but a createStream where all message
-- streams are open, and what it says ends no client but by a refusal
use Rattle.std.proofs.Common.{◌≡◌, ◌⊎◌, inl, inr, ℕ, ◌<◌, ◌≤◌, ◌^◌, Bool, true, false, if◌then◌else◌, List, [], length, Option, Some, None, Result, Ok}
use Rattle.std.proofs.Common.{refl, sym, ap, ◌∙◌, subst, arith}
use Rattle.std.specs.Prelude.{codes}
use Rattle.std.proofs.lemmas.Bool.Decides.{nat_tests}
use Rattle.ack_window.specs.Controls.{control_in, message_of}
use Rattle.ack_window.specs.declared.control.BadControl.{BadControl}
use Rattle.ack_window.specs.declared.control.Control.{Control}
use Rattle.amf0_value.specs.Encoding.{items_spelling}
use Rattle.amf0_value.specs.Pattern.{pattern}
use Rattle.amf0_value.specs.declared.walk.Brief.TheVariants as brief
use Rattle.chunk_wire.specs.declared.message.Message.{Message}
use Rattle.client_law.proofs.Push.{pattern_low}
use Rattle.client_law.proofs.Steps.{by_heard, command_does, connect_read, heard_delete, hears, items_read, patterns_low}
use Rattle.client_law.specs.Loud.{Every}
use Rattle.client_owed.specs.Client.{ask, asks, connect, connects, create_stream, creates, delete_stream, tc_url}
use Rattle.client_owed.specs.Owed.{MayGive, sent_on}
use Rattle.client_owed.specs.declared.types.Asked.{Asked}
use Rattle.client_owed.specs.declared.types.Given.{Given}
use Rattle.client_owed.specs.declared.types.Given.TheVariants.{Finish, Send}
use Rattle.client_owed.specs.declared.types.Wish.{Wish}
use Rattle.client_owed.specs.declared.types.Wish.TheVariants as wish
use Rattle.command_dialog.specs.Dialog as dialog
use Rattle.command_dialog.specs.Meaning as means
use Rattle.command_dialog.specs.Meaning.{meaning}
use Rattle.command_dialog.specs.State.{State}
use Rattle.command_dialog.specs.declared.types.Ask.{Ask}
use Rattle.command_dialog.specs.declared.types.DialogFail.{DialogFail}
use Rattle.command_dialog.specs.declared.types.Grant.{Grant}
use Rattle.command_dialog.specs.declared.types.Meant.{Meant}
use Rattle.command_dialog.specs.declared.types.Meant.TheVariants as meant
use Rattle.command_dialog.specs.declared.types.Phase.{Phase}
use Rattle.command_dialog.specs.declared.types.Phase.TheVariants as phase
use Rattle.command_dialog.specs.declared.types.Role.{Role}
use Rattle.command_dialog.specs.declared.types.Role.TheVariants as role
use Rattle.flv_tags.specs.Layout.{is_kind}
use Rattle.refusal_law.specs.Refusals.{IsWant}
use Rattle.refusal_law.proofs.Calm.{Calm, connected_calm, control_read, created_calm, grants_calm, pongs_calm, refuses_calm}
use Rattle.relay_session.specs.Session.{does, does_by, ended_by, refused, refused_by}
use Rattle.relay_session.specs.declared.end.End.{End}
use Rattle.rtmp_command.specs.Heard.{heard_from, heard_in}
use Rattle.rtmp_command.specs.declared.answer.Why.TheVariants as why
use Rattle.rtmp_command.specs.declared.heard.Heard.{Heard}

-- ---- the commands of a client, as they are heard

abbrev pub creating : Heard
creating = record { name = codes "createStream"; transaction = pattern 2; app = None; fourth = brief.Other }

pub heard_connect : (k : Asked) → length (tc_url k) < 2 ^ 16 → heard_in (connect k).body ≡ hears (codes "connect") (pattern 1) (Some k.app) brief.Other
unfolding heard_in
heard_connect k l = ap heard_from (connect_read k l)

pub heard_create : heard_in create_stream.body ≡ Ok creating
unfolding heard_in
heard_create = ap heard_from (items_read creates (omega arith, (tt, (tt, tt))) (tt, (patterns_low.1, (tt, tt))) (omega arith))

pub heard_publish : (name : List ℕ) → length name < 2 ^ 16 → heard_in (items_spelling (asks wish.Push name))
    ≡ hears (codes "publish") (pattern 3) None (brief.Text name)
unfolding heard_in
heard_publish name l =
    ap heard_from (items_read (asks wish.Push name) (omega arith, (tt, (tt, (l, (omega arith, tt))))) (tt, (patterns_low.2, (tt, (tt, (tt, tt)))))
    (omega arith))

pub heard_play : (name : List ℕ) → length name < 2 ^ 16 → heard_in (items_spelling (asks wish.Pull name))
    ≡ hears (codes "play") (pattern 3) None (brief.Text name)
unfolding heard_in
heard_play name l = ap heard_from (items_read (asks wish.Pull name) (omega arith, (tt, (tt, (l, tt)))) (tt, (patterns_low.2, (tt, (tt, tt)))) (omega arith))

pub not_some : (e : End) → None ≡ Some e → ⊥
not_some e f = cc

module _ (desk : Ask → Grant) where
  -- a message at which a session isn't ended, and what it says is calm
  pub record IsHeeded (m : Message) : Type 0 where
    pub says : (s : State) → Every Calm (does desk s m).says
    pub heeds : (at : ℕ) (s : State) (e : End) → refused at s m ≡ Some e → IsWant e

  -- the same of what a message means
  record IsWell (s : State) (m : Message) (r : Result Meant DialogFail) : Type 0 where
    pub says : Every Calm (dialog.does_by desk s m r).says
    pub ends : (at : ℕ) → ended_by at r ≡ None

  passed_well : (s : State) (m : Message) → IsWell s m (Ok meant.Passed)
  unfolding dialog.says
  passed_well s m = record { says = tt; ends = λ at. refl }

  media_well : (s : State) (m : Message) (b : Bool) → IsWell s m (if b then Ok meant.Media else Ok meant.Passed)
  unfolding dialog.says
  media_well s m true = record { says = tt; ends = λ at. refl }
  media_well s m false = record { says = tt; ends = λ at. refl }

  connect_well : (s : State) (m : Message) (app : List ℕ) (o : Option (List ℕ)) → IsWell s m (Ok (means.connects o (pattern 1) (Some app)))
  unfolding dialog.says
  connect_well s m app None = record { says = connected_calm s.window; ends = λ at. refl }
  connect_well s m app (Some a) = record { says = tt; ends = λ at. refl }

  while_well : (s : State) (m : Message) (r : Role) (id : ℕ) (app text : List ℕ) (p : Phase) → IsWell s m (Ok (means.asks_while p r id app text))
  unfolding dialog.says
  while_well s m r id app text phase.Idle = record { says = grants_calm r id (desk _); ends = λ at. refl }
  while_well s m r id app text (phase.Asked q n) = record { says = refuses_calm r id why.RoleActive; ends = λ at. refl }
  while_well s m r id app text (phase.Publishes n size) = record { says = refuses_calm r id why.RoleActive; ends = λ at. refl }
  while_well s m r id app text (phase.Plays p) = record { says = refuses_calm r id why.RoleActive; ends = λ at. refl }

  asks_well : (s : State) (m : Message) (r : Role) (id : ℕ) (app text : List ℕ) (b : Bool)
      → IsWell s m (Ok (if b then means.asks_while s.phase r id app text else meant.Passed))
  asks_well s m r id app text true = while_well s m r id app text s.phase
  asks_well s m r id app text false = passed_well s m

  closes_well : (s : State) (m : Message) (o : Option ℕ) → IsWell s m (Ok (means.closes_some o))
  unfolding dialog.says
  closes_well s m None = record { says = tt; ends = λ at. refl }
  closes_well s m (Some id) = record { says = tt; ends = λ at. refl }

  -- behind a connect, or before it
  publish_well : (s : State) (m : Message) (id : ℕ) (text : List ℕ) (o : Option (List ℕ))
      → IsWell s m (means.after_connect s id (record { name = codes "publish"; transaction = pattern 3; app = None; fourth = brief.Text text }) o)
  publish_well s m id text None = passed_well s m
  publish_well s m id text (Some app) = asks_well s m role.Publish id app text (means.is_open id s.ids)

  play_well : (s : State) (m : Message) (id : ℕ) (text : List ℕ) (o : Option (List ℕ))
      → IsWell s m (means.after_connect s id (record { name = codes "play"; transaction = pattern 3; app = None; fourth = brief.Text text }) o)
  play_well s m id text None = passed_well s m
  play_well s m id text (Some app) = asks_well s m role.Play id app text (means.is_open id s.ids)

  delete_well : (s : State) (m : Message) (bits : ℕ) (o : Option (List ℕ))
      → IsWell s m (means.after_connect s 0 (record { name = codes "deleteStream"; transaction = pattern 4; app = None; fourth = brief.Number bits }) o)
  delete_well s m bits None = passed_well s m
  delete_well s m bits (Some app) = closes_well s m (means.closed_in bits s.ids)

  -- a command that is heard so
  command_heeded : (stream : ℕ) (body : List ℕ) (h : Heard) → heard_in body ≡ Ok h
      → ((s : State) → IsWell s (record { kind = 20; stream = stream; time = 0; body = body }) (means.commands s stream h))
      → IsHeeded (record { kind = 20; stream = stream; time = 0; body = body })
  unfolding refused control_in meaning by_heard
  command_heeded stream body h e w =
      let m : Message = record { kind = 20; stream = stream; time = 0; body = body } in
      record {
        says = λ s. subst (λ (t : Rattle.session_owed.specs.Dialogue.Step State). Every Calm t.says)
            (sym (command_does desk s stream body ∙ ap (by_heard desk s m) e)) (w s).says;
        heeds = λ at s x f. absurd (not_some x (sym (ap (λ r. ended_by at (means.commands_by s stream r)) e ∙ (w s).ends at) ∙ f));
      }

  pub connect_heeded : (k : Asked) → length (tc_url k) < 2 ^ 16 → IsHeeded (connect k)
  connect_heeded k l = command_heeded 0 (items_spelling (connects k)) _ (heard_connect k l) (λ s. connect_well s (connect k) k.app s.app)

  asks_heeded : (w : Wish) (name : List ℕ) (id : ℕ) → length name < 2 ^ 16
      → IsHeeded (record { kind = 20; stream = id; time = 0; body = items_spelling (asks w name) })
  asks_heeded wish.Push name id l =
      command_heeded id (items_spelling (asks wish.Push name)) _ (heard_publish name l) (λ s. publish_well s _ id name s.app)
  asks_heeded wish.Pull name id l =
      command_heeded id (items_spelling (asks wish.Pull name)) _ (heard_play name l) (λ s. play_well s _ id name s.app)

  pub ask_heeded : (k : Asked) (id : ℕ) → length k.name < 2 ^ 16 → IsHeeded (ask k id)
  ask_heeded k id l = asks_heeded k.wish k.name id l

  delete_heeded : (id : ℕ) → pattern id < 2 ^ 64 → IsHeeded (delete_stream id)
  delete_heeded id low = command_heeded 0 (delete_stream id).body _ (heard_delete id low) (λ s. delete_well s (delete_stream id) (pattern id) s.app)

  -- ---- control messages

  pub control_heeded : (c : Control) → IsHeeded (message_of c)
  unfolding does refused
  control_heeded c =
      let m = message_of c in
      let r = control_read c in
      record {
        says = λ s. subst (λ (q : Result (Option Control) BadControl). Every Calm (does_by desk s m q).says) (sym r.1) (pongs_calm r.0);
        heeds = λ at s x f. absurd (not_some x (sym (ap (refused_by at s m) r.1) ∙ f));
      }

  -- ---- tags

  abbrev media : ℕ → ℕ → ℕ → List ℕ → Message
  media stream time kind body = record { kind = kind; stream = stream; time = time; body = body }

  heeded_8 : (stream time : ℕ) (body : List ℕ) → IsHeeded (media stream time 8 body)
  unfolding does refused control_in meaning dialog.does
  heeded_8 stream time body = record {
    says = λ s. (media_well s (media stream time 8 body) (means.publishes_on stream s.phase)).says;
    heeds = λ at s x f. absurd (not_some x (sym ((media_well s (media stream time 8 body) (means.publishes_on stream s.phase)).ends at) ∙ f));
  }

  heeded_9 : (stream time : ℕ) (body : List ℕ) → IsHeeded (media stream time 9 body)
  unfolding does refused control_in meaning dialog.does
  heeded_9 stream time body = record {
    says = λ s. (media_well s (media stream time 9 body) (means.publishes_on stream s.phase)).says;
    heeds = λ at s x f. absurd (not_some x (sym ((media_well s (media stream time 9 body) (means.publishes_on stream s.phase)).ends at) ∙ f));
  }

  heeded_18 : (stream time : ℕ) (body : List ℕ) → IsHeeded (media stream time 18 body)
  unfolding does refused control_in meaning dialog.does
  heeded_18 stream time body = record {
    says = λ s. (media_well s (media stream time 18 body) (means.publishes_on stream s.phase)).says;
    heeds = λ at s x f. absurd (not_some x (sym ((media_well s (media stream time 18 body) (means.publishes_on stream s.phase)).ends at) ∙ f));
  }

  kinds : (kind : ℕ) → is_kind kind ≡ true → (kind ≡ 8) ⊎ ((kind ≡ 9) ⊎ (kind ≡ 18))
  kinds kind e = grind (arith, nat_tests)

  tag_heeded : (stream time kind : ℕ) (body : List ℕ) → is_kind kind ≡ true → IsHeeded (media stream time kind body)
  tag_heeded stream time kind body e = by_kind (kinds kind e)
    where
      by_kind : (kind ≡ 8) ⊎ ((kind ≡ 9) ⊎ (kind ≡ 18)) → IsHeeded (media stream time kind body)
      by_kind (inl q) = subst (λ (n : ℕ). IsHeeded (media stream time n body)) (sym q) (heeded_8 stream time body)
      by_kind (inr (inl q)) = subst (λ (n : ℕ). IsHeeded (media stream time n body)) (sym q) (heeded_9 stream time body)
      by_kind (inr (inr q)) = subst (λ (n : ℕ). IsHeeded (media stream time n body)) (sym q) (heeded_18 stream time body)

  pub given_heeded : (w : Wish) (max id : ℕ) (g : Given) → id < 2 ^ 32 → MayGive w max g → IsHeeded (sent_on id g)
  given_heeded w max id (Send t) s m = tag_heeded id t.time t.kind t.body m.1
  given_heeded w max id Finish s m = delete_heeded id (pattern_low id (omega (arith, s)))

  -- ---- createStream

  -- the message streams that are open are those of a list in which a free one is small
  abbrev pub SmallFree : Type 0
  SmallFree = (ids : List ℕ) (id : ℕ) → means.least_free ids ≡ Some id → (1 ≤ id) × (id ≤ 16) × (means.is_open id ids ≡ false)

  free_says : (s : State) (m : Message) (o : Option ℕ) → ((id : ℕ) → o ≡ Some id → id ≤ 16)
      → Every Calm (dialog.does_by desk s m (means.creates (pattern 2) o)).says
  unfolding dialog.says
  free_says s m None f = tt
  free_says s m (Some id) f = (created_calm id (pattern_low id (omega (arith, f id refl))), tt)

  create_after : (free : SmallFree) (s : State) (m : Message) (o : Option (List ℕ))
      → Every Calm (dialog.does_by desk s m (means.after_connect s 0 creating o)).says
  create_after free s m None = (passed_well s m).says
  create_after free s m (Some app) = free_says s m (means.least_free s.ids) (λ id e. (free s.ids id e).1)

  pub create_says : SmallFree → (s : State) → Every Calm (does desk s create_stream).says
  unfolding by_heard
  create_says free s =
      subst (λ (t : Rattle.session_owed.specs.Dialogue.Step State). Every Calm t.says)
      (sym (command_does desk s 0 create_stream.body ∙ ap (by_heard desk s create_stream) heard_create))
      (create_after free s create_stream s.app)

  -- where none is open one is free
  none_open : (s : State) (at : ℕ) (o : Option (List ℕ)) → s.ids ≡ [] → ended_by at (means.after_connect s 0 creating o) ≡ None
  unfolding means.free_from
  none_open s at None e = refl
  none_open s at (Some app) e = ap (λ (ids : List ℕ). ended_by at (means.creates (pattern 2) (means.least_free ids))) e

  pub create_heeds : (at : ℕ) (s : State) → s.ids ≡ [] → refused at s create_stream ≡ None
  unfolding refused control_in meaning
  create_heeds at s e = ap (λ r. ended_by at (means.commands_by s 0 r)) heard_create ∙ none_open s at s.app e
