-- Before it has a place, no call waits and no role is active
use Rattle.std.proofs.Common.{◌≡◌, ℕ, Bool, true, false, List, Option, Some, None, Result, Ok, Err, refl, sym, ap, subst, option_map, if◌then◌else◌}
use Rattle.std.specs.Prelude.{◌==◌, ◌&&◌, codes}
use Rattle.chunk_wire.specs.declared.message.Message.{Message}
use Rattle.ack_window.specs.Controls.{control_in}
use Rattle.ack_window.specs.declared.control.Control.{Control}
use Rattle.ack_window.specs.declared.control.BadControl.{BadControl}
use Rattle.amf0_value.specs.declared.walk.Brief.{Brief}
use Rattle.amf0_value.specs.declared.walk.Brief.TheVariants as brief
use Rattle.rtmp_command.specs.Heard.{heard_in}
use Rattle.rtmp_command.specs.declared.heard.Heard.{Heard}
use Rattle.rtmp_command.specs.declared.command.CommandFail.{CommandFail}
use Rattle.command_dialog.specs.declared.types.Switch.{Switch}
use Rattle.command_dialog.specs.declared.types.Switch.TheVariants as switch
use Rattle.command_dialog.specs.declared.types.Act.{Act}
use Rattle.command_dialog.specs.declared.types.Act.TheVariants as act
use Rattle.command_dialog.specs.declared.types.Ask.{Ask}
use Rattle.command_dialog.specs.declared.types.Grant.{Grant}
use Rattle.command_dialog.specs.declared.types.Grant.TheVariants as grant
use Rattle.command_dialog.specs.declared.types.Meant.{Meant}
use Rattle.command_dialog.specs.declared.types.Meant.TheVariants as meant
use Rattle.command_dialog.specs.declared.types.Role.{Role}
use Rattle.command_dialog.specs.declared.types.Role.TheVariants as role
use Rattle.command_dialog.specs.declared.types.Phase.{Phase}
use Rattle.command_dialog.specs.declared.types.Phase.TheVariants as phase
use Rattle.command_dialog.specs.declared.types.DialogFail.{DialogFail}
use Rattle.command_dialog.specs.Dialog.{after, asked, calls_by, does_by, ends, granted, makes, phase_without, published_in}
use Rattle.command_dialog.specs.Dialog as dialog
use Rattle.command_dialog.specs.Meaning.{after_connect, asks, asks_by, closed_in, closes, closes_some, commands_by, connects, creates, is_media, is_open, least_free, meaning, turns}
use Rattle.command_dialog.specs.Words.{is_text}
use Rattle.command_dialog.specs.State.{State}
use Rattle.av_unit.specs.Media.{Media}
use Rattle.relay_session.specs.Keeping.{IsIdle}
use Rattle.relay_session.specs.Places.{IsGrantThere, IsOffered, IsThere}
use Rattle.relay_session.specs.Session.{does, does_by as does_with, entry_by, place_by, place_in, place_after}

-- ---- where no role is active, no message turns a switch or is published

abbrev Calm : Result Meant DialogFail → Type 0
Calm (Err e) = Unit {0}
Calm (Ok meant.Passed) = Unit {0}
Calm (Ok (meant.Connects transaction app)) = Unit {0}
Calm (Ok (meant.Creates transaction id)) = Unit {0}
Calm (Ok (meant.Busy r id)) = Unit {0}
Calm (Ok (meant.Asks a id)) = Unit {0}
Calm (Ok (meant.Closes id)) = Unit {0}
Calm (Ok (meant.Turns p)) = ⊥
Calm (Ok meant.Media) = ⊥

calm_if : (b : Bool) (x y : Result Meant DialogFail) → Calm x → Calm y → Calm (if b then x else y)
calm_if true x y p q = p
calm_if false x y p q = q

calm_seven : (a b c d e f g : Bool) (p q r s t u v w : Result Meant DialogFail) → Calm p → Calm q → Calm r → Calm s → Calm t → Calm u → Calm v → Calm w
    → Calm (if a then p else (if b then q else (if c then r else (if d then s else (if e then t else (if f then u else (if g then v else w)))))))
calm_seven true b c d e f g p q r s t u v w cp cq cr cs ct cu cv cw = cp
calm_seven false true c d e f g p q r s t u v w cp cq cr cs ct cu cv cw = cq
calm_seven false false true d e f g p q r s t u v w cp cq cr cs ct cu cv cw = cr
calm_seven false false false true e f g p q r s t u v w cp cq cr cs ct cu cv cw = cs
calm_seven false false false false true f g p q r s t u v w cp cq cr cs ct cu cv cw = ct
calm_seven false false false false false true g p q r s t u v w cp cq cr cs ct cu cv cw = cu
calm_seven false false false false false false true p q r s t u v w cp cq cr cs ct cu cv cw = cv
calm_seven false false false false false false false p q r s t u v w cp cq cr cs ct cu cv cw = cw

calm_connects : (a : Option (List ℕ)) (t : ℕ) (b : Option (List ℕ)) → Calm (Ok (connects a t b))
calm_connects None t (Some app) = tt
calm_connects None t None = tt
calm_connects (Some x) t b = tt

calm_creates : (t : ℕ) (o : Option ℕ) → Calm (creates t o)
calm_creates t None = tt
calm_creates t (Some id) = tt

calm_asks_by : (r : Role) (id : ℕ) (app : List ℕ) (f : Brief) → Calm (Ok (asks_by phase.Idle r id app f))
calm_asks_by r id app (brief.Text text) = tt
calm_asks_by r id app (brief.Number bits) = tt
calm_asks_by r id app (brief.Boolean b) = tt
calm_asks_by r id app brief.Other = tt

calm_open : (b : Bool) (x : Meant) → Calm (Ok x) → Calm (Ok (if b then x else meant.Passed))
calm_open true x c = c
calm_open false x c = tt

calm_closes_some : (o : Option ℕ) → Calm (Ok (closes_some o))
calm_closes_some None = tt
calm_closes_some (Some id) = tt

calm_closes : (ids : List ℕ) (f : Brief) → Calm (Ok (closes ids f))
calm_closes ids (brief.Number bits) = calm_closes_some (closed_in bits ids)
calm_closes ids (brief.Text text) = tt
calm_closes ids (brief.Boolean b) = tt
calm_closes ids brief.Other = tt

calm_turns : (stream : ℕ) (w : Switch) (f : Brief) → Calm (Ok (turns phase.Idle stream w f))
calm_turns stream w f = tt

module _ (window : ℕ) (ids : List ℕ) where
  abbrev idle : Option (List ℕ) → State
  idle app = record { window = window; app = app; ids = ids; phase = phase.Idle }

  calm_after : (o : Option (List ℕ)) (stream : ℕ) (h : Heard) (app : Option (List ℕ)) → Calm (after_connect (idle o) stream h app)
  calm_after o stream h None = tt
  calm_after o stream h (Some app) =
      let n = h.name in
      let p = Ok (asks phase.Idle ids role.Publish stream app h.fourth) in
      let q = Ok (asks phase.Idle ids role.Play stream app h.fourth) in
      calm_seven (is_text n (codes "createStream")) (is_text n (codes "publish")) (is_text n (codes "play")) (is_text n (codes "deleteStream")) (is_text n (codes "receiveAudio")) (is_text n (codes "receiveVideo")) (is_text n (codes "pause"))
      (creates h.transaction (least_free ids)) p q (Ok (closes ids h.fourth)) (Ok (turns phase.Idle stream switch.Audio h.fourth)) (Ok (turns phase.Idle stream switch.Video h.fourth)) (Ok (turns phase.Idle stream switch.Pause h.fourth))
      (Ok meant.Passed) (calm_creates h.transaction (least_free ids)) (calm_open (is_open stream ids) (asks_by phase.Idle role.Publish stream app h.fourth) (calm_asks_by role.Publish stream app h.fourth))
      (calm_open (is_open stream ids) (asks_by phase.Idle role.Play stream app h.fourth) (calm_asks_by role.Play stream app h.fourth)) (calm_closes ids h.fourth) (calm_turns stream switch.Audio h.fourth)
      (calm_turns stream switch.Video h.fourth) (calm_turns stream switch.Pause h.fourth) tt

  calm_commands : (o : Option (List ℕ)) (stream : ℕ) (r : Result Heard CommandFail) → Calm (commands_by (idle o) stream r)
  calm_commands o stream (Ok h) =
      calm_if (is_text h.name (codes "connect")) (Ok (connects o h.transaction h.app)) (after_connect (idle o) stream h o) (calm_connects o h.transaction h.app) (calm_after o stream h o)
  calm_commands o stream (Err e) = tt

  calm_media : (b : Bool) → Calm (if b && false then Ok meant.Media else Ok meant.Passed)
  calm_media true = tt
  calm_media false = tt

  calm_idle : (o : Option (List ℕ)) (m : Message) → Calm (meaning (idle o) m)
  unfolding meaning
  calm_idle o m =
      calm_if (m.kind == 20) (commands_by (idle o) m.stream (heard_in m.body)) (if is_media m.kind && false then Ok meant.Media else Ok meant.Passed)
      (calm_commands o m.stream (heard_in m.body)) (calm_media (is_media m.kind))

calm : (s : State) (m : Message) → s.phase ≡ phase.Idle → Calm (meaning s m)
calm s m e = subst (λ (p : Phase). Calm (meaning (record { window = s.window; app = s.app; ids = s.ids; phase = p }) m)) (sym e) (calm_idle s.window s.ids s.app m)

-- ---- what a message makes then

some_none : {X : Type 0} (x : X) → Some x ≡ None → ⊥
some_none x e = cc

place_none : (place : Option ℕ) (a : Option Act) → place_after place a ≡ None → place ≡ None
place_none place None e = e
place_none place (Some (act.Begin p name)) e = absurd (some_none p e)
place_none place (Some (act.Join p name)) e = absurd (some_none p e)
place_none place (Some (act.Push unit)) e = e
place_none place (Some act.End) e = e
place_none place (Some (act.Leave player)) e = e

pub record IsStill (a : Option Act) (s : State) : Type 0 where
  pub makes : a ≡ None
  pub phase : s.phase ≡ phase.Idle

asked_still : (place : Option ℕ) (r : Role) (id : ℕ) (name : List ℕ) (g : Option Grant) → place_after place (calls_by r name g) ≡ None → (calls_by r name g ≡ None) × (asked r id g ≡ phase.Idle)
asked_still place role.Publish id name (Some (grant.Place p)) e = absurd (some_none p e)
asked_still place role.Play id name (Some (grant.Place p)) e = absurd (some_none p e)
asked_still place role.Publish id name (Some grant.NoName) e = (refl, refl)
asked_still place role.Publish id name (Some grant.Refused) e = (refl, refl)
asked_still place role.Publish id name None e = (refl, refl)
asked_still place role.Play id name (Some grant.NoName) e = (refl, refl)
asked_still place role.Play id name (Some grant.Refused) e = (refl, refl)
asked_still place role.Play id name None e = (refl, refl)

still_by : (desk : Ask → Grant) (s : State) (m : Message) (place : Option ℕ) (w : Result Meant DialogFail) → (place ≡ None → s.phase ≡ phase.Idle) → (s.phase ≡ phase.Idle → Calm w)
    → place_after place (does_by desk s m w).makes ≡ None → IsStill (does_by desk s m w).makes (does_by desk s m w).state
unfolding makes after
still_by desk s m place (Err e) f c p = record { makes = refl; phase = f p }
still_by desk s m place (Ok meant.Passed) f c p = record { makes = refl; phase = f p }
still_by desk s m place (Ok (meant.Connects transaction app)) f c p = record { makes = refl; phase = f p }
still_by desk s m place (Ok (meant.Creates transaction id)) f c p = record { makes = refl; phase = f p }
still_by desk s m place (Ok (meant.Busy r id)) f c p = record { makes = refl; phase = f p }
still_by desk s m place (Ok (meant.Asks a id)) f c p = let q = asked_still place a.role id a.name (Some (desk a)) p in record { makes = q.0; phase = q.1 }
still_by desk s m place (Ok (meant.Closes id)) f c p =
    let i = f (place_none place (ends id s.phase) p) in
    record { makes = ap (ends id) i; phase = ap (phase_without id) i }
still_by desk s m place (Ok (meant.Turns q)) f c p = absurd (c (f p))
still_by desk s m place (Ok meant.Media) f c p = absurd (c (f (place_none place _ p)))

still : (desk : Ask → Grant) (s : State) (m : Message) (place : Option ℕ) → (place ≡ None → s.phase ≡ phase.Idle) → place_after place (dialog.does desk s m).makes ≡ None → IsStill (dialog.does desk s m).makes (dialog.does desk s m).state
unfolding dialog.does
still desk s m place f p = still_by desk s m place (meaning s m) f (calm s m) p

idle_in : (desk : Ask → Grant) (s : State) (m : Message) (place : Option ℕ) (who n : ℕ) (w : Result (Option Control) BadControl) → (place ≡ None → s.phase ≡ phase.Idle) → place_in desk s m place w ≡ None
    → IsIdle (entry_by who n (does_with desk s m w).makes) (does_with desk s m w).state
idle_in desk s m place who n (Ok None) f p = let i = still desk s m place f p in record { kept = ap (λ (a : Option Act). entry_by who n (option_map dialog.call_of a)) i.makes; phase = i.phase }
idle_in desk s m place who n (Ok (Some control)) f p = record { kept = refl; phase = f p }
idle_in desk s m place who n (Err e) f p = record { kept = refl; phase = f p }

pub idle_after : (desk : Ask → Grant) (s : State) (m : Message) (place : Option ℕ) (who n : ℕ) → (place ≡ None → s.phase ≡ phase.Idle) → place_by desk s place m ≡ None → IsIdle (entry_by who n (does desk s m).makes) (does desk s m).state
unfolding does place_by
idle_after desk s m place who n f p = idle_in desk s m place who n (control_in m) f p

-- ---- the place is one that the desk grants, or the one before

asked_there : (place : Option ℕ) (count : ℕ) (r : Role) (name : List ℕ) (g : Grant) → IsGrantThere count g → IsThere count place → IsThere count (place_after place (calls_by r name (Some g)))
asked_there place count role.Publish name (grant.Place p) i t = i
asked_there place count role.Play name (grant.Place p) i t = i
asked_there place count role.Publish name grant.NoName i t = t
asked_there place count role.Publish name grant.Refused i t = t
asked_there place count role.Play name grant.NoName i t = t
asked_there place count role.Play name grant.Refused i t = t

if_place : (place : Option ℕ) (b : Bool) (a : Act) → place_after place (Some a) ≡ place → place_after place (if b then Some a else None) ≡ place
if_place place true a e = e
if_place place false a e = refl

ends_place : (place : Option ℕ) (id : ℕ) (p : Phase) → place_after place (ends id p) ≡ place
ends_place place id (phase.Publishes n size) = if_place place (n == id) act.End refl
ends_place place id (phase.Plays p) = if_place place (p.id == id) (act.Leave p.player) refl
ends_place place id phase.Idle = refl
ends_place place id (phase.Asked r n) = refl

push_place : (place : Option ℕ) (o : Option Media) → place_after place (option_map act.Push o) ≡ place
push_place place None = refl
push_place place (Some u) = refl

there_by : (desk : Ask → Grant) (s : State) (m : Message) (place : Option ℕ) (count : ℕ) (w : Result Meant DialogFail) → IsOffered desk count → IsThere count place → IsThere count (place_after place (does_by desk s m w).makes)
unfolding makes
there_by desk s m place count (Err e) o t = t
there_by desk s m place count (Ok meant.Passed) o t = t
there_by desk s m place count (Ok (meant.Connects transaction app)) o t = t
there_by desk s m place count (Ok (meant.Creates transaction id)) o t = t
there_by desk s m place count (Ok (meant.Busy r id)) o t = t
there_by desk s m place count (Ok (meant.Asks a id)) o t = asked_there place count a.role a.name (desk a) (o a) t
there_by desk s m place count (Ok (meant.Closes id)) o t = subst (IsThere count) (sym (ends_place place id s.phase)) t
there_by desk s m place count (Ok (meant.Turns p)) o t = t
there_by desk s m place count (Ok meant.Media) o t = subst (IsThere count) (sym (push_place place (published_in s.phase m))) t

there_command : (desk : Ask → Grant) (s : State) (m : Message) (place : Option ℕ) (count : ℕ) → IsOffered desk count → IsThere count place → IsThere count (place_after place (dialog.does desk s m).makes)
unfolding dialog.does
there_command desk s m place count o t = there_by desk s m place count (meaning s m) o t

there_in : (desk : Ask → Grant) (s : State) (m : Message) (place : Option ℕ) (count : ℕ) (w : Result (Option Control) BadControl) → IsOffered desk count → IsThere count place → IsThere count (place_in desk s m place w)
there_in desk s m place count (Ok None) o t = there_command desk s m place count o t
there_in desk s m place count (Ok (Some control)) o t = t
there_in desk s m place count (Err e) o t = t

pub place_there : (desk : Ask → Grant) (s : State) (m : Message) (place : Option ℕ) (count : ℕ) → IsOffered desk count → IsThere count place → IsThere count (place_by desk s place m)
unfolding place_by
place_there desk s m place count o t = there_in desk s m place count (control_in m) o t
