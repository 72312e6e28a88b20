-- Control messages change nothing in the dialogue of a session
use Rattle.std.proofs.Common.{◌≡◌, ℕ, Bool, true, false, ◌==◌, ◌&&◌, nat_lt, if◌then◌else◌, List, [], ◌∷◌, ◌++◌, Option, Some, None, Result, Ok, Err, option_map, refl, sym, ap, ◌∙◌, subst, arith}
use Rattle.std.proofs.lemmas.Bool.Decides.{nat_tests}
use Rattle.chunk_wire.specs.declared.message.Message.{Message}
use Rattle.ack_window.specs.declared.control.Control.{Control}
use Rattle.ack_window.specs.declared.control.BadControl.{BadControl}
use Rattle.ack_window.specs.Controls.{control_in, ping_answer_of}
use Rattle.stream_model.specs.declared.calls.Call.{Call}
use Rattle.stream_model.specs.declared.replies.Reply.{Reply}
use Rattle.command_dialog.specs.declared.types.Ask.{Ask}
use Rattle.command_dialog.specs.declared.types.Grant.{Grant}
use Rattle.command_dialog.specs.declared.types.Meant.{Meant}
use Rattle.command_dialog.specs.declared.types.Meant.TheVariants as meant
use Rattle.command_dialog.specs.declared.types.DialogFail.{DialogFail}
use Rattle.command_dialog.specs.State.{State}
use Rattle.command_dialog.specs.Meaning.{commands_by, is_media, meaning, publishes_on}
use Rattle.command_dialog.specs.Dialog as dialog
use Rattle.rtmp_command.specs.Heard.{heard_in}
use Rattle.session_owed.specs.Dialogue.{Dialogue, Step, Told}
use Rattle.session_owed.specs.Talk.{Own, Talk, calling, does_at, fresh, goes, one, reply_at, resumed, started, told_of, walk}
use Rattle.relay_session.specs.Session.{commands, does, does_by, pongs, session}
use Rattle.client_law.specs.Loud.{Every, EverySaid, bare, is_loud, keep, loud, loud_placed}

-- ---- of lists

pub every_join : (Q : Message → Type 0) (a b : List Message) → Every Q a → Every Q b → Every Q (a ++ b)
every_join Q [] b x y = y
every_join Q (m ∷ a) b x y = (x.0, every_join Q a b x.1 y)

pub said_join : (Q : Message → Type 0) (es : List (ℕ × List Message)) (e : ℕ × List Message) → EverySaid Q es → Every Q e.1 → EverySaid Q (es ++ e ∷ [])
said_join Q [] e x y = (y, tt)
said_join Q (d ∷ es) e x y = (x.0, said_join Q es e x.1 y)

pub said_split : (Q : Message → Type 0) (es : List (ℕ × List Message)) (e : ℕ × List Message) → EverySaid Q (es ++ e ∷ []) → EverySaid Q es × Every Q e.1
said_split Q [] e x = (tt, x.0)
said_split Q (d ∷ es) e x =
    let r = said_split Q es e x.1 in
    ((x.0, r.0), r.1)

bare_keep : (b : Bool) (m : ℕ × Message) (l : List (ℕ × Message)) → bare (keep b m l) ≡ keep b m.1 (bare l)
unfolding bare
bare_keep true m l = refl
bare_keep false m l = refl

pub bare_loud : (ms : List (ℕ × Message)) → bare (loud_placed ms) ≡ loud (bare ms)
unfolding bare loud loud_placed
bare_loud [] = refl
bare_loud (m ∷ ms) = bare_keep (is_loud m.1) m (loud_placed ms) ∙ ap (keep (is_loud m.1) m.1) (bare_loud ms)

-- ---- a control message

-- it leaves the state, and makes no call
pub record Idles (Q : Message → Type 0) (s : State) (t : Step State) : Type 0 where
  pub state : t.state ≡ s
  pub makes : t.makes ≡ None
  pub says : Every Q t.says

pub not_command : (kind : ℕ) → nat_lt 6 kind ≡ false → (kind == 20) ≡ false
not_command kind e = grind (arith, nat_tests)

not_media : (kind : ℕ) → nat_lt 6 kind ≡ false → is_media kind ≡ false
not_media kind e = grind (arith, nat_tests)

passed : (s : State) (m : Message) → is_loud m ≡ false → meaning s m ≡ Ok meant.Passed
unfolding meaning
passed s m e =
    ap (λ b. if b then commands_by s m.stream (heard_in m.body) else (if is_media m.kind && publishes_on m.stream s.phase then Ok meant.Media else Ok meant.Passed)) (not_command m.kind e)
    ∙ ap (λ b. if b && publishes_on m.stream s.phase then Ok meant.Media else Ok meant.Passed) (not_media m.kind e)

module _ (Q : Message → Type 0) (desk : Ask → Grant) (pong : (c : Control) → Every Q (pongs (ping_answer_of c))) where
  idle_meaning : (s : State) (m : Message) (r : Result Meant DialogFail) → r ≡ Ok meant.Passed → (dialog.does_by desk s m r).state ≡ s
  unfolding dialog.after
  idle_meaning s m r e = ap (λ q. (dialog.does_by desk s m q).state) e

  idle_makes : (s : State) (m : Message) (r : Result Meant DialogFail) → r ≡ Ok meant.Passed → (dialog.does_by desk s m r).makes ≡ None
  unfolding dialog.makes
  idle_makes s m r e = ap (λ q. (dialog.does_by desk s m q).makes) e

  idle_says : (s : State) (m : Message) (r : Result Meant DialogFail) → r ≡ Ok meant.Passed → (dialog.does_by desk s m r).says ≡ []
  unfolding dialog.says
  idle_says s m r e = ap (λ q. (dialog.does_by desk s m q).says) e

  idle_commands : (s : State) (m : Message) → is_loud m ≡ false → Idles Q s (commands desk s m)
  unfolding dialog.does
  idle_commands s m e = record {
    state = idle_meaning s m (meaning s m) (passed s m e);
    makes = ap (option_map dialog.call_of) (idle_makes s m (meaning s m) (passed s m e));
    says = subst (Every Q) (sym (idle_says s m (meaning s m) (passed s m e))) tt;
  }

  idle_by : (s : State) (m : Message) (r : Result (Option Control) BadControl) → is_loud m ≡ false → Idles Q s (does_by desk s m r)
  idle_by s m (Ok None) e = idle_commands s m e
  idle_by s m (Ok (Some c)) e = record { state = refl; makes = refl; says = pong c }
  idle_by s m (Err b) e = record { state = refl; makes = refl; says = tt }

  pub idles : (s : State) (m : Message) → is_loud m ≡ false → Idles Q s (does desk s m)
  unfolding does
  idles s m e = idle_by s m (control_in m) e

  -- ---- two dialogues that have done the same

  pub record Alike (t u : Talk State) : Type 0 where
    pub state : t.state ≡ u.state
    pub made : t.made ≡ u.made
    pub stuck : t.stuck ≡ u.stuck
    pub said : EverySaid Q u.said → EverySaid Q t.said

  module _ (who window : ℕ) where
    abbrev pub d : Dialogue State
    d = session who window desk

    same_started : (o : ℕ) (t u : Talk State) (s : Step State) → Alike t u → Alike (started d o t s) (started d o u s)
    same_started o t u s a = record {
      state = refl;
      made = a.made;
      stuck = refl;
      said = λ h. said_join Q t.said (o, s.says) (a.said (said_split Q u.said (o, s.says) h).0) (said_split Q u.said (o, s.says) h).1;
    }

    same_calling : (o : ℕ) (t u : Talk State) (c : Call) → Alike t u → Alike (calling d o t c) (calling d o u c)
    same_calling o t u c a = record { state = a.state; made = ap (λ l. l ++ Rattle.session_owed.specs.Talk.entry_of d o c ∷ []) a.made; stuck = refl; said = a.said }

    same_told : (o : ℕ) (t u : Talk State) (r : Told State) → Alike t u → Alike (told_of d o t r) (told_of d o u r)
    same_told o t u r a = record {
      state = refl;
      made = a.made;
      stuck = refl;
      said = λ h. said_join Q t.said (o, r.says) (a.said (said_split Q u.said (o, r.says) h).0) (said_split Q u.said (o, r.says) h).1;
    }

    same_resumed : (o : ℕ) (t u : Talk State) (r : Option Reply) → Alike t u → Alike (resumed d o t r) (resumed d o u r)
    same_resumed o t u None a = a
    same_resumed o t u (Some r) a = subst (λ v. Alike (told_of d o t (d.told v r)) (told_of d o u (d.told u.state r))) (sym a.state) (same_told o t u (d.told u.state r) a)

    same_goes : (C : List Own) (o : ℕ) (t u : Talk State) (c : Option Call) → Alike t u → Alike (goes d C o t c) (goes d C o u c)
    same_goes C o t u None a = a
    same_goes C o t u (Some c) a = same_resumed o (calling d o t c) (calling d o u c) (reply_at o C) (same_calling o t u c a)

    same_if : (b : Bool) (t u t' u' : Talk State) → Alike t u → Alike t' u' → Alike (if b then t else t') (if b then u else u')
    same_if true t u t' u' a a' = a
    same_if false t u t' u' a a' = a'

    -- a message that is loud does the same in both
    alike_one : (C : List Own) (t u : Talk State) (m : ℕ × Message) → Alike t u → Alike (one d C t m) (one d C u m)
    unfolding one
    alike_one C t u m a =
        let s = d.does u.state m.1 in
        let w : Alike (does_at d C m.0 t s) (does_at d C m.0 u s) = same_goes C m.0 (started d m.0 t s) (started d m.0 u s) s.makes (same_started m.0 t u s a) in
        let v : Alike (does_at d C m.0 t (d.does t.state m.1)) (does_at d C m.0 u s) = subst (λ q. Alike (does_at d C m.0 t (d.does q m.1)) (does_at d C m.0 u s)) (sym a.state) w in
        subst (λ b. Alike (if b then t else does_at d C m.0 t (d.does t.state m.1)) (if u.stuck then u else does_at d C m.0 u s)) (sym a.stuck) (same_if u.stuck t u (does_at d C m.0 t (d.does t.state m.1)) (does_at d C m.0 u s) a v)

    -- one that isn't does nothing
    quiet_goes : (C : List Own) (o : ℕ) (t u : Talk State) (s : Step State) → Idles Q t.state s → Alike t u → u.stuck ≡ false → Alike (does_at d C o t s) u
    quiet_goes C o t u s i a f =
        let w : Alike (started d o t s) u = record { state = i.state ∙ a.state; made = a.made; stuck = sym f; said = λ h. said_join Q t.said (o, s.says) (a.said h) i.says } in
        subst (λ c. Alike (goes d C o (started d o t s) c) u) (sym i.makes) w

    quiet_if : (b : Bool) (C : List Own) (o : ℕ) (t u : Talk State) (s : Step State) → t.stuck ≡ b → Idles Q t.state s → Alike t u → Alike (if b then t else does_at d C o t s) u
    quiet_if true C o t u s e i a = a
    quiet_if false C o t u s e i a = quiet_goes C o t u s i a (sym a.stuck ∙ e)

    alike_quiet : (C : List Own) (t u : Talk State) (m : ℕ × Message) → is_loud m.1 ≡ false → Alike t u → Alike (one d C t m) u
    unfolding one
    alike_quiet C t u m q a = quiet_if t.stuck C m.0 t u (d.does t.state m.1) refl (idles t.state m.1 q) a

    -- THE DIALOGUE over all messages and over those that are loud
    pub alike_walk : (C : List Own) (t u : Talk State) (ms : List (ℕ × Message)) → Alike t u → Alike (walk d C t ms) (walk d C u (loud_placed ms))
    unfolding walk loud_placed
    alike_walk C t u [] a = a
    alike_walk C t u (m ∷ ms) a = by_kind (λ v w b. alike_walk C v w ms b) (is_loud m.1) refl
      where
        by_kind : ((v w : Talk State) → Alike v w → Alike (walk d C v ms) (walk d C w (loud_placed ms))) → (b : Bool) → is_loud m.1 ≡ b → Alike (walk d C (one d C t m) ms) (walk d C u (keep b m (loud_placed ms)))
        by_kind ih true e = ih (one d C t m) (one d C u m) (alike_one C t u m a)
        by_kind ih false e = ih (one d C t m) u (alike_quiet C t u m e a)
