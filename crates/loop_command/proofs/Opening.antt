-- A SESSION PUBLISHES BETWEEN A BEGIN OF ITS OWN AND ITS END
use Rattle.std.proofs.Common.{◌≡◌, ℕ, Bool, true, false, ◌==◌, nat_le, if◌then◌else◌, List, [], ◌∷◌, ◌++◌, length, reverse, Option, Some, None, option_map, Result, Ok, Err, refl, sym, ap, ◌∙◌, subst, append-nil}
use Rattle.std.proofs.lemmas.List.{reverse-append}
use Rattle.av_unit.specs.Classes.{unit_from}
use Rattle.av_unit.specs.Media.{Media}
use Rattle.ack_window.specs.Controls.{control_in}
use Rattle.ack_window.specs.declared.control.BadControl.{BadControl}
use Rattle.ack_window.specs.declared.control.Control.{Control}
use Rattle.chunk_wire.specs.declared.message.Message.{Message}
use Rattle.command_dialog.specs.Dialog as dialog
use Rattle.command_dialog.specs.Meaning.{meaning}
use Rattle.command_dialog.specs.State.{State}
use Rattle.command_dialog.specs.declared.types.Ask.{Ask}
use Rattle.command_dialog.specs.declared.types.DialogFail.{DialogFail}
use Rattle.command_dialog.specs.declared.types.Grant.{Grant}
use Rattle.command_dialog.specs.declared.types.Grant.TheVariants as grant
use Rattle.command_dialog.specs.declared.types.Act.{Act}
use Rattle.command_dialog.specs.declared.types.Act.TheVariants as act
use Rattle.command_dialog.specs.declared.types.Meant.{Meant}
use Rattle.command_dialog.specs.declared.types.Meant.TheVariants as meant
use Rattle.command_dialog.specs.declared.types.Phase.{Phase}
use Rattle.command_dialog.specs.declared.types.Phase.TheVariants as phase
use Rattle.command_dialog.specs.declared.types.Role.{Role}
use Rattle.command_dialog.specs.declared.types.Role.TheVariants as role
use Rattle.relay_session.specs.Session.{commands, does, does_by, session, told}
use Rattle.session_owed.specs.Dialogue.{Dialogue, Step}
use Rattle.session_owed.specs.Talk.{Own, Talk, calling, does_at, entry_of, fresh, goes, makes, one, reply_at, resumed, started, talk, walk}
use Rattle.stream_model.specs.declared.calls.Call.{Call}
use Rattle.stream_model.specs.declared.calls.Call.TheVariants as call
use Rattle.stream_model.specs.declared.calls.Entry.{Entry}
use Rattle.stream_model.specs.declared.replies.Reply.{Reply}
use Rattle.stream_model.specs.declared.replies.Reply.TheVariants as reply_is

-- ---- of calls, the newest first

abbrev pub open_after : Call → Bool → Bool
open_after call.Begin o = true
open_after (call.BeginAs name) o = true
open_after call.End o = false
open_after (call.Push u) o = o
open_after call.Join o = o
open_after (call.JoinAs name) o = o
open_after (call.Take player want) o = o
open_after (call.Leave player) o = o
open_after call.Count o = o

-- whether the last Begin has no End behind it
abbrev pub is_open : List Entry → Bool
is_open [] = false
is_open (e ∷ es) = open_after e.call (is_open es)

abbrev pub Fits : Call → Bool → Type 0
Fits (call.Push u) o = o ≡ true
Fits call.Begin o = Unit {0}
Fits (call.BeginAs name) o = Unit {0}
Fits call.End o = Unit {0}
Fits call.Join o = Unit {0}
Fits (call.JoinAs name) o = Unit {0}
Fits (call.Take player want) o = Unit {0}
Fits (call.Leave player) o = Unit {0}
Fits call.Count o = Unit {0}

-- each Push is behind a Begin that no End has closed
abbrev pub AreOpen : List Entry → Type 0
AreOpen [] = Unit {0}
AreOpen (e ∷ es) = Fits e.call (is_open es) × AreOpen es

-- ---- of one message

-- where it may publish, or will if its call is granted, it has begun
abbrev OpenFor : Phase → Bool → Type 0
OpenFor (phase.Publishes id size) o = o ≡ true
OpenFor (phase.Asked role.Publish id) o = o ≡ true
OpenFor (phase.Asked role.Play id) o = Unit {0}
OpenFor (phase.Plays p) o = Unit {0}
OpenFor phase.Idle o = Unit {0}

abbrev GoesTo : Option Call → Phase → Bool → Type 0
GoesTo None p o = OpenFor p o
GoesTo (Some c) p o = Fits c o × OpenFor p (open_after c o)

begin_open : (b : Bool) (name : List ℕ) (id : ℕ) (o : Bool) → GoesTo (Some (if b then call.BeginAs name else call.Begin)) (phase.Asked role.Publish id) o
begin_open true name id o = (tt, refl)
begin_open false name id o = (tt, refl)

join_open : (b : Bool) (name : List ℕ) (id : ℕ) (o : Bool) → GoesTo (Some (if b then call.JoinAs name else call.Join)) (phase.Asked role.Play id) o
join_open true name id o = (tt, tt)
join_open false name id o = (tt, tt)

asks_open : (r : Role) (name : List ℕ) (id : ℕ) (g : Option Grant) (o : Bool) → GoesTo (option_map dialog.call_of (dialog.calls_by r name g)) (dialog.asked r id g) o
asks_open role.Publish name id None o = tt
asks_open role.Publish name id (Some grant.NoName) o = tt
asks_open role.Publish name id (Some grant.Refused) o = tt
asks_open role.Publish name id (Some (grant.Place place)) o = begin_open (nat_le (length name) 64) name id o
asks_open role.Play name id None o = tt
asks_open role.Play name id (Some grant.NoName) o = tt
asks_open role.Play name id (Some grant.Refused) o = tt
asks_open role.Play name id (Some (grant.Place place)) o = join_open (nat_le (length name) 64) name id o

closes_open : (id : ℕ) (p : Phase) (o : Bool) → OpenFor p o → GoesTo (option_map dialog.call_of (dialog.ends id p)) (dialog.phase_without id p) o
closes_open id phase.Idle o h = h
closes_open id (phase.Asked r n) o h = h
closes_open id (phase.Publishes n size) o h = by_test (n == id)
  where
    by_test : (b : Bool) → GoesTo (option_map dialog.call_of (if b then Some act.End else None)) (if b then phase.Idle else phase.Publishes n size) o
    by_test true = (tt, tt)
    by_test false = h
closes_open id (phase.Plays p) o h = by_test (p.id == id)
  where
    by_test : (b : Bool) → GoesTo (option_map dialog.call_of (if b then Some (act.Leave p.player) else None)) (if b then phase.Idle else phase.Plays p) o
    by_test true = (tt, tt)
    by_test false = tt

media_open : (m : Message) (p : Phase) (o : Bool) → OpenFor p o
    → GoesTo (option_map dialog.call_of (option_map act.Push (dialog.published_in p m))) (dialog.sized (dialog.published_in p m) p) o
media_open m phase.Idle o h = h
media_open m (phase.Asked r id) o h = h
media_open m (phase.Plays p) o h = h
media_open m (phase.Publishes id size) o h = by_unit (unit_from m.kind m.time m.body size)
  where
    by_unit : (u : Option Media) → GoesTo (option_map dialog.call_of (option_map act.Push u)) (dialog.sized u (phase.Publishes id size)) o
    by_unit None = h
    by_unit (Some u) = (h, h)

stepped_open : (s : State) (m : Message) (g : Option Grant) (x : Meant) (o : Bool) → OpenFor s.phase o
    → GoesTo (option_map dialog.call_of (dialog.makes s m g x)) (dialog.after s m g x).phase o
unfolding dialog.makes dialog.after
stepped_open s m g meant.Passed o h = h
stepped_open s m g (meant.Connects transaction app) o h = h
stepped_open s m g (meant.Creates transaction id) o h = h
stepped_open s m g (meant.Busy r id) o h = h
stepped_open s m g (meant.Asks a id) o h = asks_open a.role a.name id g o
stepped_open s m g (meant.Closes id) o h = closes_open id s.phase o h
stepped_open s m g (meant.Turns p) o h = tt
stepped_open s m g meant.Media o h = media_open m s.phase o h

-- ---- of a reply

publishes_open : (id : ℕ) (r : Reply) (o : Bool) → o ≡ true → OpenFor (dialog.publishes_after id r) o
publishes_open id (reply_is.Began n) o h = h
publishes_open id (reply_is.InUse by) o h = tt
publishes_open id (reply_is.Pushed n) o h = tt
publishes_open id (reply_is.NotPublisher live) o h = tt
publishes_open id (reply_is.Ended n) o h = tt
publishes_open id (reply_is.Joined player from) o h = tt
publishes_open id reply_is.Full o h = tt
publishes_open id (reply_is.NoSlot slots) o h = tt
publishes_open id reply_is.NotPlayer o h = tt
publishes_open id (reply_is.Sent from n i) o h = tt
publishes_open id (reply_is.Skip from to) o h = tt
publishes_open id (reply_is.NotYet end) o h = tt
publishes_open id (reply_is.Left player) o h = tt
publishes_open id (reply_is.Counts began pushed ended joined skips) o h = tt

plays_open : (id : ℕ) (r : Reply) (o : Bool) → OpenFor (dialog.plays_after id r) o
plays_open id (reply_is.Joined player from) o = tt
plays_open id (reply_is.Began n) o = tt
plays_open id (reply_is.InUse by) o = tt
plays_open id (reply_is.Pushed n) o = tt
plays_open id (reply_is.NotPublisher live) o = tt
plays_open id (reply_is.Ended n) o = tt
plays_open id reply_is.Full o = tt
plays_open id (reply_is.NoSlot slots) o = tt
plays_open id reply_is.NotPlayer o = tt
plays_open id (reply_is.Sent from n i) o = tt
plays_open id (reply_is.Skip from to) o = tt
plays_open id (reply_is.NotYet end) o = tt
plays_open id (reply_is.Left player) o = tt
plays_open id (reply_is.Counts began pushed ended joined skips) o = tt

phase_open : (p : Phase) (r : Reply) (o : Bool) → OpenFor p o → OpenFor (dialog.phase_after p r) o
phase_open (phase.Asked role.Publish id) r o h = publishes_open id r o h
phase_open (phase.Asked role.Play id) r o h = plays_open id r o
phase_open (phase.Publishes id size) r o h = h
phase_open (phase.Plays p) r o h = h
phase_open phase.Idle r o h = h

told_open : (s : State) (r : Reply) (o : Bool) → OpenFor s.phase o → OpenFor (told s r).state.phase o
unfolding told dialog.told
told_open s r o h = phase_open s.phase r o h

-- ---- of a session

newest : (es : List Entry) (e : Entry) → reverse (es ++ e ∷ []) ≡ e ∷ reverse es
newest es e = reverse-append es (e ∷ [])

module _ (who window : ℕ) (desk : Ask → Grant) (C : List Own) where
  abbrev d : Dialogue State
  d = session who window desk

  commands_open : (s : State) (m : Message) (o : Bool) → OpenFor s.phase o → GoesTo (commands desk s m).makes (commands desk s m).state.phase o
  unfolding dialog.does
  commands_open s m o h = by_meaning (meaning s m)
    where
      by_meaning : (r : Result Meant DialogFail) → GoesTo (option_map dialog.call_of (dialog.does_by desk s m r).makes) (dialog.does_by desk s m r).state.phase o
      by_meaning (Ok x) = stepped_open s m (dialog.granted desk x) x o h
      by_meaning (Err e) = h

  does_open : (s : State) (m : Message) (o : Bool) → OpenFor s.phase o → GoesTo (does desk s m).makes (does desk s m).state.phase o
  unfolding does
  does_open s m o h = by_control (control_in m)
    where
      by_control : (r : Result (Option Control) BadControl) → GoesTo (does_by desk s m r).makes (does_by desk s m r).state.phase o
      by_control (Ok None) = commands_open s m o h
      by_control (Ok (Some c)) = h
      by_control (Err e) = h

  -- it may publish where it has begun, and has published there alone
  record Open (t : Talk State) : Type 0 where
    now : OpenFor t.state.phase (is_open (reverse t.made))
    made : AreOpen (reverse t.made)

  goes_open : (n : ℕ) (t : Talk State) (s : Step State) → GoesTo s.makes s.state.phase (is_open (reverse t.made)) → AreOpen (reverse t.made)
      → Open (goes d C n (started d n t s) s.makes)
  goes_open n t s g a = by_call s.makes g
    where
      by_call : (c : Option Call) → GoesTo c s.state.phase (is_open (reverse t.made)) → Open (goes d C n (started d n t s) c)
      by_call None g = record { now = g; made = a }
      by_call (Some c) g = by_reply (reply_at n C)
        where
          e : Entry
          e = entry_of d n c

          now : OpenFor s.state.phase (is_open (reverse (t.made ++ e ∷ [])))
          now = subst (λ (l : List Entry). OpenFor s.state.phase (is_open l)) (sym (newest t.made e)) g.1

          made : AreOpen (reverse (t.made ++ e ∷ []))
          made = subst AreOpen (sym (newest t.made e)) (g.0, a)

          by_reply : (r : Option Reply) → Open (resumed d n (calling d n (started d n t s) c) r)
          by_reply None = record { now = now; made = made }
          by_reply (Some r) = record { now = told_open s.state r (is_open (reverse (t.made ++ e ∷ []))) now; made = made }

  one_open : (t : Talk State) (m : ℕ × Message) → Open t → Open (one d C t m)
  unfolding one
  one_open t m h = by_stuck t.stuck
    where
      by_stuck : (b : Bool) → Open (if b then t else does_at d C m.0 t (d.does t.state m.1))
      by_stuck true = h
      by_stuck false = goes_open m.0 t (d.does t.state m.1) (does_open t.state m.1 (is_open (reverse t.made)) h.now) h.made

  walk_open : (t : Talk State) (ms : List (ℕ × Message)) → Open t → Open (walk d C t ms)
  unfolding walk
  walk_open t [] h = h
  walk_open t (m ∷ ms) h = walk_open (one d C t m) ms (one_open t m h)

  -- ITS CALLS, of which none waits
  pub calls_open : (ms : List (ℕ × Message)) → (talk d C ms).made ≡ makes C ++ [] → AreOpen (reverse (makes C))
  calls_open ms e =
      subst (λ (l : List Entry). AreOpen (reverse l)) (e ∙ append-nil (makes C)) (walk_open (fresh d) ms (record { now = tt; made = tt })).made
