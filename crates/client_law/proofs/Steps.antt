-- What the messages of a client do in a session
use Rattle.std.proofs.Common.{◌≡◌, ◌≢◌, ℕ, ◌<◌, ◌≤◌, ◌^◌, ◌⊎◌, inl, inr, Bool, true, false, ◌==◌, if◌then◌else◌, List, [], ◌∷◌, ◌++◌, length, Option, Some, None, Result, Ok, option_map, refl, sym, ap, ◌∙◌, subst, arith, append-nil, append_assoc, length-append}
use Rattle.std.specs.Prelude.{codes}
use Rattle.std.specs.Int.Count.{count_leading_zeros}
use Rattle.std.proofs.lemmas.Bool.{ne_eqb}
use Rattle.std.proofs.lemmas.Bool.Decides.{nat_tests}
use Rattle.av_unit.specs.Classes.{unit_from}
use Rattle.av_unit.specs.Media.{Media}
use Rattle.client_law.specs.Loud.{size_after}
use Rattle.amf0_value.specs.Tree.{Items, item, no_items}
use Rattle.amf0_value.specs.Pattern.{pattern}
use Rattle.amf0_value.specs.Encoding.{items_spelling, spelling, ItemsHaveNumbers}
use Rattle.amf0_value.specs.Reader.{values_in}
use Rattle.amf0_value.specs.Spelling.{ItemsHaveLengths, ItemsSpelled, Spelled, items_depth}
use Rattle.amf0_value.specs.declared.walk.Brief.TheVariants as brief
use Rattle.amf0_value.proofs.Again.{values_are}
use Rattle.amf0_value.proofs.Encoded.{encoded}
use Rattle.rtmp_command.specs.declared.heard.Heard.{Heard}
use Rattle.rtmp_command.specs.declared.command.CommandFail.{CommandFail}
use Rattle.rtmp_command.specs.declared.answer.Answer.TheVariants as answer
use Rattle.rtmp_command.specs.Heard.{heard_from, heard_in}
use Rattle.chunk_wire.specs.declared.message.Message.{Message}
use Rattle.ack_window.specs.Controls.{control_in}
use Rattle.flv_tags.specs.Layout.{is_kind}
use Rattle.command_dialog.specs.declared.types.Ask.{Ask}
use Rattle.command_dialog.specs.declared.types.Grant.{Grant}
use Rattle.command_dialog.specs.declared.types.Act.TheVariants as act
use Rattle.command_dialog.specs.declared.types.Role.TheVariants as role
use Rattle.command_dialog.specs.declared.types.Phase.TheVariants as phase
use Rattle.command_dialog.specs.State.{State, fresh, playing_in, with_phase}
use Rattle.command_dialog.specs.Words.{app_in, key_in, name_in}
use Rattle.command_dialog.specs.Meaning.{closed_in, commands_by, free_from, is_open, meaning}
use Rattle.command_dialog.specs.Dialog as dialog
use Rattle.stream_model.specs.declared.calls.Call.TheVariants as call
use Rattle.session_owed.specs.Dialogue.{Step}
use Rattle.relay_session.specs.Session.{does}
use Rattle.client_owed.specs.declared.types.Wish.TheVariants as wish
use Rattle.client_owed.specs.declared.types.Asked.{Asked}
use Rattle.client_law.specs.Laws.{IsNamed}
use Rattle.client_owed.specs.Client.{asks, connect, connects, tc_url, creates, deletes, create_stream, delete_stream}

-- ---- values are read as they were spelled

items_encoded : (vs : Items) (rest : List ℕ) → ItemsHaveLengths vs → ItemsHaveNumbers vs → ItemsSpelled vs (items_spelling vs ++ rest) rest
items_encoded no_items rest l h = refl
items_encoded (item v vs) rest l h =
    (items_spelling vs ++ rest, subst (λ (y : List ℕ). Spelled v y (items_spelling vs ++ rest)) (sym (append_assoc (spelling v) (items_spelling vs) rest)) (encoded v (items_spelling vs ++ rest) l.0 h.0), items_encoded vs rest l.1 h.1)

pub items_read : (vs : Items) → ItemsHaveLengths vs → ItemsHaveNumbers vs → items_depth vs ≤ 32 → values_in (items_spelling vs) ≡ Ok vs
items_read vs l h d = values_are vs (items_spelling vs) (subst (λ b. ItemsSpelled vs b []) (append-nil (items_spelling vs)) (items_encoded vs [] l h)) d

abbrev pub hears : List ℕ → ℕ → Option (List ℕ) → Rattle.amf0_value.specs.declared.walk.Brief.Brief → Result Heard CommandFail
hears name transaction app fourth = Ok (record { name = name; transaction = transaction; app = app; fourth = fourth })

pub patterns_low : (pattern 1 < 2 ^ 64) × (pattern 2 < 2 ^ 64) × (pattern 3 < 2 ^ 64) × (pattern 4 < 2 ^ 64)
unfolding pattern count_leading_zeros
patterns_low = (omega arith, omega arith, omega arith, omega arith)

-- the longest text of a connect is its address
pub url_short : (k : Asked) → IsNamed k → length (tc_url k) < 2 ^ 16
url_short k h = omega (arith, h.address, h.app, length-append k.address (0x2F ∷ k.app))

app_short : (k : Asked) → length (tc_url k) < 2 ^ 16 → length k.app < 2 ^ 16
app_short k l = omega (arith, l, length-append k.address (0x2F ∷ k.app))

pub connect_read : (k : Asked) → length (tc_url k) < 2 ^ 16 → values_in (connect k).body ≡ Ok (connects k)
connect_read k l =
    items_read (connects k) (omega arith, (tt, (((omega arith, omega arith), app_short k l, ((omega arith, omega arith), omega arith, ((omega arith, omega arith), l, tt))), tt)))
    (tt, (patterns_low.0, ((tt, (tt, (tt, tt))), tt))) (omega arith)

heard_connect : (k : Asked) → length (tc_url k) < 2 ^ 16 → heard_in (connect k).body ≡ hears (codes "connect") (pattern 1) (Some k.app) brief.Other
unfolding heard_in
heard_connect k l = ap heard_from (connect_read k l)

heard_create : heard_in create_stream.body ≡ hears (codes "createStream") (pattern 2) None brief.Other
unfolding heard_in
heard_create = ap heard_from (items_read creates (omega arith, (tt, (tt, tt))) (tt, (patterns_low.1, (tt, tt))) (omega arith))

heard_publish : (name : List ℕ) → length name < 2 ^ 16 → heard_in (items_spelling (asks wish.Push name)) ≡ hears (codes "publish") (pattern 3) None (brief.Text name)
unfolding heard_in
heard_publish name l = ap heard_from (items_read (asks wish.Push name) (omega arith, (tt, (tt, (l, (omega arith, tt))))) (tt, (patterns_low.2, (tt, (tt, (tt, tt))))) (omega arith))

pub heard_delete : (id : ℕ) → pattern id < 2 ^ 64 → heard_in (delete_stream id).body ≡ hears (codes "deleteStream") (pattern 4) None (brief.Number (pattern id))
unfolding heard_in
heard_delete id h = ap heard_from (items_read (deletes id) (omega arith, (tt, (tt, (tt, tt)))) (tt, (patterns_low.3, (tt, (h, tt)))) (omega arith))

-- ---- where a session stands

-- connected, with these message streams open
abbrev pub idle : ℕ → List ℕ → List ℕ → State
idle window app ids = record { window = window; app = Some app; ids = ids; phase = phase.Idle }

-- it publishes on the first
abbrev pub live : ℕ → List ℕ → ℕ → State
live window app size = record { window = window; app = Some app; ids = 1 ∷ []; phase = phase.Publishes 1 size }

-- it has pushed a unit, or nothing
abbrev pub live_after : ℕ → List ℕ → ℕ → Option Media → State
live_after window app size o = with_phase (live window app size) (dialog.sized o (phase.Publishes 1 size))

pub live_is : (window : ℕ) (app : List ℕ) (size : ℕ) (o : Option Media) → live_after window app size o ≡ live window app (size_after o size)
live_is window app size None = refl
live_is window app size (Some u) = refl

abbrev pub stepped : State → List Message → Option Rattle.stream_model.specs.declared.calls.Call.Call → Step State
stepped s says makes = record { state = s; says = says; makes = makes }

module _ (desk : Ask → Grant) where
  -- a command by what is heard
  unfoldable pub by_heard : State → Message → Result Heard CommandFail → Step State
  by_heard s m r = record {
    state = (dialog.does_by desk s m (commands_by s m.stream r)).state;
    says = (dialog.does_by desk s m (commands_by s m.stream r)).says;
    makes = option_map dialog.call_of (dialog.does_by desk s m (commands_by s m.stream r)).makes;
  }

  pub command_does : (s : State) (stream : ℕ) (body : List ℕ) → does desk s (record { kind = 20; stream = stream; time = 0; body = body }) ≡ by_heard s (record { kind = 20; stream = stream; time = 0; body = body }) (heard_in body)
  unfolding does control_in meaning by_heard dialog.does
  command_does s stream body = refl

  pub connect_does : (window : ℕ) (k : Asked) → length (tc_url k) < 2 ^ 16 → does desk (fresh window) (connect k) ≡ stepped (idle window (app_in k.app) []) (dialog.connected window (pattern 1)) None
  unfolding by_heard dialog.after dialog.says dialog.makes
  connect_does window k l = command_does (fresh window) 0 (connect k).body ∙ ap (by_heard (fresh window) (connect k)) (heard_connect k l)

  pub create_does : (window : ℕ) (app : List ℕ) → does desk (idle window app []) create_stream ≡ stepped (idle window app (1 ∷ [])) (dialog.answers 0 (answer.Created (pattern 2) 1) ∷ []) None
  unfolding by_heard dialog.after dialog.says dialog.makes free_from
  create_does window app = command_does (idle window app []) 0 create_stream.body ∙ ap (by_heard (idle window app []) create_stream) heard_create

  -- what is asked for
  abbrev pub ask_of : List ℕ → List ℕ → Ask
  ask_of app name = record { role = role.Publish; app = app; name = name_in name; key = key_in name }

  abbrev pub asking : ℕ → List ℕ → List ℕ → Grant → Step State
  asking window app name g = stepped (with_phase (idle window app (1 ∷ [])) (dialog.asked role.Publish 1 (Some g))) (dialog.refused_by role.Publish 1 (Some g)) (option_map dialog.call_of (dialog.calls_by role.Publish name (Some g)))

  abbrev publish_on : ℕ → List ℕ → Message
  publish_on id name = record { kind = 20; stream = id; time = 0; body = items_spelling (asks wish.Push name) }

  pub ask_does : (window : ℕ) (app name : List ℕ) → length name < 2 ^ 16 → does desk (idle window app (1 ∷ [])) (publish_on 1 name) ≡ asking window app (name_in name) (desk (ask_of app name))
  unfolding by_heard dialog.after dialog.says dialog.makes
  ask_does window app name l = command_does (idle window app (1 ∷ [])) 1 (publish_on 1 name).body ∙ ap (by_heard (idle window app (1 ∷ [])) (publish_on 1 name)) (heard_publish name l)

  pub ask_passed : (window id : ℕ) (app name : List ℕ) → length name < 2 ^ 16 → 1 ≢ id → does desk (idle window app (1 ∷ [])) (publish_on id name) ≡ stepped (idle window app (1 ∷ [])) [] None
  unfolding by_heard dialog.after dialog.says dialog.makes
  ask_passed window id app name l ne =
      command_does (idle window app (1 ∷ [])) id (publish_on id name).body ∙ ap (by_heard (idle window app (1 ∷ [])) (publish_on id name)) (heard_publish name l) ∙ rw (ne_eqb 1 id ne) refl

  -- ---- media

  kinds : (kind : ℕ) → is_kind kind ≡ true → (kind ≡ 8) ⊎ ((kind ≡ 9) ⊎ (kind ≡ 18))
  kinds kind e = grind (arith, nat_tests)

  abbrev media : ℕ → ℕ → ℕ → List ℕ → Message
  media stream time kind body = record { kind = kind; stream = stream; time = time; body = body }

  idle_8 : (window stream time : ℕ) (app ids body : List ℕ) → does desk (idle window app ids) (media stream time 8 body) ≡ stepped (idle window app ids) [] None
  unfolding does control_in meaning dialog.does dialog.after dialog.says dialog.makes
  idle_8 window stream time app ids body = refl

  idle_9 : (window stream time : ℕ) (app ids body : List ℕ) → does desk (idle window app ids) (media stream time 9 body) ≡ stepped (idle window app ids) [] None
  unfolding does control_in meaning dialog.does dialog.after dialog.says dialog.makes
  idle_9 window stream time app ids body = refl

  idle_18 : (window stream time : ℕ) (app ids body : List ℕ) → does desk (idle window app ids) (media stream time 18 body) ≡ stepped (idle window app ids) [] None
  unfolding does control_in meaning dialog.does dialog.after dialog.says dialog.makes
  idle_18 window stream time app ids body = refl

  pub idle_media : (window stream time kind : ℕ) (app ids body : List ℕ) → is_kind kind ≡ true → does desk (idle window app ids) (media stream time kind body) ≡ stepped (idle window app ids) [] None
  idle_media window stream time kind app ids body e = by_kind (kinds kind e)
    where
      by_kind : (kind ≡ 8) ⊎ ((kind ≡ 9) ⊎ (kind ≡ 18)) → does desk (idle window app ids) (media stream time kind body) ≡ stepped (idle window app ids) [] None
      by_kind (inl q) = subst (λ n. does desk (idle window app ids) (media stream time n body) ≡ stepped (idle window app ids) [] None) (sym q) (idle_8 window stream time app ids body)
      by_kind (inr (inl q)) = subst (λ n. does desk (idle window app ids) (media stream time n body) ≡ stepped (idle window app ids) [] None) (sym q) (idle_9 window stream time app ids body)
      by_kind (inr (inr q)) = subst (λ n. does desk (idle window app ids) (media stream time n body) ≡ stepped (idle window app ids) [] None) (sym q) (idle_18 window stream time app ids body)

  abbrev pub pushes : Option Media → Option Rattle.stream_model.specs.declared.calls.Call.Call
  pushes o = option_map dialog.call_of (option_map act.Push o)

  -- the message is pushed as the unit that it is, if it is one
  abbrev pub publishing : ℕ → List ℕ → ℕ → Option Media → Step State
  publishing window app size o = stepped (live_after window app size o) [] (pushes o)

  live_8 : (window time size : ℕ) (app body : List ℕ) → does desk (live window app size) (media 1 time 8 body) ≡ publishing window app size (unit_from 8 time body size)
  unfolding does control_in meaning dialog.does dialog.after dialog.says dialog.makes
  live_8 window time size app body = refl

  live_9 : (window time size : ℕ) (app body : List ℕ) → does desk (live window app size) (media 1 time 9 body) ≡ publishing window app size (unit_from 9 time body size)
  unfolding does control_in meaning dialog.does dialog.after dialog.says dialog.makes
  live_9 window time size app body = refl

  live_18 : (window time size : ℕ) (app body : List ℕ) → does desk (live window app size) (media 1 time 18 body) ≡ publishing window app size (unit_from 18 time body size)
  unfolding does control_in meaning dialog.does dialog.after dialog.says dialog.makes
  live_18 window time size app body = refl

  pub live_media : (window time kind size : ℕ) (app body : List ℕ) → is_kind kind ≡ true → does desk (live window app size) (media 1 time kind body) ≡ publishing window app size (unit_from kind time body size)
  live_media window time kind size app body e = by_kind (kinds kind e)
    where
      by_kind : (kind ≡ 8) ⊎ ((kind ≡ 9) ⊎ (kind ≡ 18)) → does desk (live window app size) (media 1 time kind body) ≡ publishing window app size (unit_from kind time body size)
      by_kind (inl q) = subst (λ n. does desk (live window app size) (media 1 time n body) ≡ publishing window app size (unit_from n time body size)) (sym q) (live_8 window time size app body)
      by_kind (inr (inl q)) = subst (λ n. does desk (live window app size) (media 1 time n body) ≡ publishing window app size (unit_from n time body size)) (sym q) (live_9 window time size app body)
      by_kind (inr (inr q)) = subst (λ n. does desk (live window app size) (media 1 time n body) ≡ publishing window app size (unit_from n time body size)) (sym q) (live_18 window time size app body)

  -- ---- the end of it

  pub live_delete : (window size : ℕ) (app : List ℕ) → does desk (live window app size) (delete_stream 1) ≡ stepped (idle window app []) [] (Some call.End)
  unfolding by_heard dialog.after dialog.says dialog.makes pattern count_leading_zeros
  live_delete window size app = command_does (live window app size) 0 (delete_stream 1).body ∙ ap (by_heard (live window app size) (delete_stream 1)) (heard_delete 1 patterns_low.0)

  -- where no role is active it says nothing, makes no call, and leaves it so
  pub record Silent (s : Step State) : Type 0 where
    pub says : s.says ≡ []
    pub makes : s.makes ≡ None
    pub idles : playing_in s.state.phase ≡ None

  -- it closes the message stream, or none
  closes_if : ℕ → List ℕ → Message → Bool → Step State
  closes_if window app m b = record {
    state = (dialog.does_by desk (idle window app (1 ∷ [])) m (Ok (Rattle.command_dialog.specs.Meaning.closes_some (if b then Some 1 else None)))).state;
    says = (dialog.does_by desk (idle window app (1 ∷ [])) m (Ok (Rattle.command_dialog.specs.Meaning.closes_some (if b then Some 1 else None)))).says;
    makes = option_map dialog.call_of (dialog.does_by desk (idle window app (1 ∷ [])) m (Ok (Rattle.command_dialog.specs.Meaning.closes_some (if b then Some 1 else None)))).makes;
  }

  silent_if : (window : ℕ) (app : List ℕ) (m : Message) (b : Bool) → Silent (closes_if window app m b)
  unfolding closes_if dialog.after dialog.says dialog.makes
  silent_if window app m true = record { says = refl; makes = refl; idles = refl }
  silent_if window app m false = record { says = refl; makes = refl; idles = refl }

  delete_closes : (window id : ℕ) (app : List ℕ) → pattern id < 2 ^ 64 → does desk (idle window app (1 ∷ [])) (delete_stream id) ≡ closes_if window app (delete_stream id) (pattern 1 == pattern id)
  unfolding by_heard closes_if
  delete_closes window id app h = command_does (idle window app (1 ∷ [])) 0 (delete_stream id).body ∙ ap (by_heard (idle window app (1 ∷ [])) (delete_stream id)) (heard_delete id h)

  pub idle_delete : (window id : ℕ) (app : List ℕ) → pattern id < 2 ^ 64 → Silent (does desk (idle window app (1 ∷ [])) (delete_stream id))
  idle_delete window id app h = subst Silent (sym (delete_closes window id app h)) (silent_if window app (delete_stream id) (pattern 1 == pattern id))
