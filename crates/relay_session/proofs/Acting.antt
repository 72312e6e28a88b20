-- A session asks for nothing but what it was granted: by its seat's calls and by its dialogue
use Rattle.std.proofs.Common.{◌≡◌, ℕ, nat_eq, if◌then◌else◌, ◌&&◌, Bool, true, false, List, ◌∷◌, reverse, refl, sym, ap, ◌∙◌, subst, arith, Option, Some, None, Result, Ok, Err}
use Rattle.std.specs.Prelude.{codes, ◌==◌, option_map}
use Rattle.std.proofs.lemmas.Bool.Decides.{nat_tests}
use Rattle.ack_window.specs.declared.control.Control.{Control}
use Rattle.ack_window.specs.declared.control.BadControl.{BadControl}
use Rattle.ack_window.specs.Controls.{control_in}
use Rattle.amf0_value.specs.declared.walk.Brief.{Brief}
use Rattle.amf0_value.specs.declared.walk.Brief.TheVariants as brief
use Rattle.av_unit.specs.Classes.{unit_from}
use Rattle.av_unit.specs.Media.{Media}
use Rattle.chunk_wire.specs.declared.message.Message.{Message}
use Rattle.rtmp_command.specs.declared.heard.Heard.{Heard as HeardCommand}
use Rattle.rtmp_command.specs.declared.command.CommandFail.{CommandFail}
use Rattle.rtmp_command.specs.Heard.{heard_in}
use Rattle.command_dialog.specs.declared.types.Ask.{Ask}
use Rattle.command_dialog.specs.declared.types.Grant.{Grant}
use Rattle.command_dialog.specs.declared.types.Grant.TheVariants as grant
use Rattle.command_dialog.specs.declared.types.Act.{Act}
use Rattle.command_dialog.specs.declared.types.Act.TheVariants as act
use Rattle.command_dialog.specs.declared.types.Meant.{Meant}
use Rattle.command_dialog.specs.declared.types.Meant.TheVariants as meant
use Rattle.command_dialog.specs.declared.types.Role.{Role}
use Rattle.command_dialog.specs.declared.types.Role.TheVariants as role
use Rattle.command_dialog.specs.declared.types.Phase.{Phase}
use Rattle.command_dialog.specs.declared.types.Phase.TheVariants as phase
use Rattle.command_dialog.specs.declared.types.Playing.{Playing}
use Rattle.command_dialog.specs.declared.types.Switch.{Switch}
use Rattle.command_dialog.specs.declared.types.Switch.TheVariants as switch
use Rattle.command_dialog.specs.declared.types.DialogFail.{DialogFail}
use Rattle.command_dialog.specs.Dialog.{after, asked, call_of, calls_by, does_by, ends, makes, phase_after, phase_without, plays_after, published_in, publishes_after, sized}
use Rattle.command_dialog.specs.Dialog as dialog
use Rattle.command_dialog.specs.Meaning.{after_connect, asks_by, asks_while, closed_in, closes, closes_some, commands_by, connects, creates, is_media, is_open, least_free, meaning, publishes_on, turned, turns}
use Rattle.command_dialog.specs.Words.{is_text}
use Rattle.command_dialog.specs.State.{State, playing_in}
use Rattle.stream_model.specs.declared.calls.Call.{Call}
use Rattle.stream_model.specs.declared.calls.Call.TheVariants as call
use Rattle.stream_model.specs.declared.calls.Entry.{Entry}
use Rattle.stream_model.specs.declared.calls.Shape.{Shape}
use Rattle.stream_model.specs.declared.calls.StreamLimits.{StreamLimits}
use Rattle.stream_model.specs.declared.replies.Reply.{Reply}
use Rattle.stream_model.specs.declared.replies.Reply.TheVariants as reply
use Rattle.stream_model.specs.Answer.{is_who, reply_to}
use Rattle.stream_model.specs.History.{History, holder, publisher}
use Rattle.stream_model.specs.Pool.{PoolSlot, found, reply_in, reply_nowhere, slot_for, slots_of}
use Rattle.stream_model.specs.Shape.{reply_by}
use Rattle.stream_model.specs.Spell.{reply_of}
use Rattle.stream_model.specs.declared.replies.Taken.{Taken}
use Rattle.stream_model.specs.declared.replies.Taken.TheVariants as taken
use Rattle.stream_registry.specs.Told.{Step}
use Rattle.relay_session.specs.Acting.{HasGrant, IsHolders, IsRole, Suits, SuitsIf, WaitsSo, granted_in}
use Rattle.relay_session.specs.SeatOwn.{Acts, ActsSo}
use Rattle.relay_session.specs.SeatState.{IsGranted, IsNoted, Makes, SeatState, active_after, active_at, active_then, is_over, place_of, stays}
use Rattle.relay_session.specs.SeatVisits.{Visit, calls_at}
use Rattle.relay_session.specs.Session.{does, does_by as does_with, entry_by, place_by, place_in, place_after}
use Rattle.relay_session.specs.declared.end.End.{End}
use Rattle.relay_session.specs.declared.seat_answers.Active.{Active}
use Rattle.relay_session.specs.declared.seat_answers.Active.TheVariants as active
use Rattle.relay_session.specs.declared.seat_answers.Made.{Made}
use Rattle.relay_session.specs.declared.seat_answers.Made.TheVariants as made
use Rattle.relay_session.proofs.SeatStanding.{calls_here, granted_more}

-- ---- a seat's call

-- what it was granted at a place is what its calls there say
pub granted_at : {Q : Type 0} (spot : Option (ℕ × Q)) (a : Active) (visits : List Visit) (place : ℕ) → HasGrant spot a visits → IsGranted (active_at spot a place) (calls_at place visits)
granted_at None a visits place g = tt
granted_at (Some p) a visits place g = by (nat_eq p.0 place) refl
  where
    by : (b : Bool) → nat_eq p.0 place ≡ b → IsGranted (if nat_eq p.0 place then a else active.Nothing) (calls_at place visits)
    by true e =
        let same : p.0 ≡ place = grind (arith, nat_tests, e) in
        subst (λ (t : Bool). IsGranted (if t then a else active.Nothing) (calls_at place visits)) (sym e) (subst (λ (k : ℕ). IsGranted a (calls_at k visits)) same g)
    by false e = subst (λ (t : Bool). IsGranted (if t then a else active.Nothing) (calls_at place visits)) (sym e) tt

-- a call that its holder alone makes
pub acts_so : (a : Active) (c : Call) (calls : List Step) → IsHolders a c → IsGranted a calls → ActsSo calls c
acts_so a (call.Push unit) calls h g = subst (λ (x : Active). IsGranted x calls) h g
acts_so a call.End calls h g = subst (λ (x : Active). IsGranted x calls) h g
acts_so a (call.Take player want) calls h g = subst (λ (x : Active). IsGranted x calls) h g
acts_so a (call.Leave player) calls h g = subst (λ (x : Active). IsGranted x calls) h g
acts_so a call.Begin calls h g = tt
acts_so a (call.BeginAs name) calls h g = tt
acts_so a call.Join calls h g = tt
acts_so a (call.JoinAs name) calls h g = tt
acts_so a call.Count calls h g = tt

pub acts_more : (place : ℕ) (e : Entry) (r : Reply) (visits : List Visit) → ActsSo (calls_at place visits) e.call → ((q : ℕ) → Acts (calls_at q visits)) → (q : ℕ) → Acts (calls_at q ((place, (e, r)) ∷ visits))
acts_more place e r visits s h q = by (nat_eq place q) refl
  where
    by : (b : Bool) → nat_eq place q ≡ b → Acts (if nat_eq place q then (e, r) ∷ calls_at q visits else calls_at q visits)
    by true t =
        let same : place ≡ q = grind (arith, nat_tests, t) in
        subst (λ (b : Bool). Acts (if b then (e, r) ∷ calls_at q visits else calls_at q visits)) (sym t) (subst (λ (k : ℕ). ActsSo (calls_at k visits) e.call) same s, h q)
    by false t = subst (λ (b : Bool). Acts (if b then (e, r) ∷ calls_at q visits else calls_at q visits)) (sym t) (h q)

over_nothing : (r : Reply) (a : Active) → is_over r ≡ true → active_after r a ≡ active.Nothing
over_nothing (reply.InUse by) a o = refl
over_nothing reply.Full a o = refl
over_nothing (reply.NoSlot slots) a o = refl
over_nothing (reply.Ended n) a o = refl
over_nothing (reply.Left player) a o = refl
over_nothing (reply.Began n) a o = absurd (cc)
over_nothing (reply.Joined player from) a o = absurd (cc)
over_nothing (reply.Pushed n) a o = absurd (cc)
over_nothing (reply.NotPublisher live) a o = absurd (cc)
over_nothing reply.NotPlayer a o = absurd (cc)
over_nothing (reply.Sent from n item) a o = absurd (cc)
over_nothing (reply.Skip from to) a o = absurd (cc)
over_nothing (reply.NotYet end) a o = absurd (cc)
over_nothing (reply.Counts began pushed ended joined skips) a o = absurd (cc)

over_where : (b : Bool) (place : ℕ) → None ≡ (if b then None else Some place) → b ≡ true
over_where true place e = refl
over_where false place e = absurd (cc)

there_where : (b : Bool) (p place : ℕ) → Some p ≡ (if b then None else Some place) → p ≡ place
there_where true p place e = absurd (cc)
there_where false p place e = let s : p ≡ place = cc in s

-- where it is after a call, if it is anywhere
still_there : (m : Made) (p place : ℕ) → Some p ≡ stays place m → p ≡ place
still_there (made.Answer r) p place e = there_where (is_over r) p place e
still_there (made.Busy f) p place e = there_where false p place e
still_there (made.Worn f) p place e = there_where false p place e
still_there (made.OutOfMemory f) p place e = there_where false p place e

gone_nothing : (m : Made) (place : ℕ) (a : Active) → None ≡ stays place m → active_then m a ≡ active.Nothing
gone_nothing (made.Answer r) place a e = over_nothing r a (over_where (is_over r) place e)
gone_nothing (made.Busy f) place a e = absurd (cc)
gone_nothing (made.Worn f) place a e = absurd (cc)
gone_nothing (made.OutOfMemory f) place a e = absurd (cc)

at_here : (p place : ℕ) (a : Active) → p ≡ place → (if nat_eq p place then a else active.Nothing) ≡ a
at_here p place a e = let t : nat_eq p place ≡ true = grind (arith, nat_tests) in rw t refl

module _ {Q : Type 0} where
  -- what it is granted at the place of its call
  pub active_here : (spot : Option (ℕ × Q)) (m : Made) (a b : Active) (place : ℕ) → place_of spot ≡ stays place m → b ≡ active_then m a → active_at spot b place ≡ active_then m a
  active_here None m a b place at is = sym (gone_nothing m place a at)
  active_here (Some p) m a b place at is = at_here p.0 place b (still_there m p.0 place at) ∙ is

  -- its calls, and what it was granted
  pub record Owns (s : SeatState Q) : Type 0 where
    pub acts : (q : ℕ) → Acts (calls_at q s.visits)
    pub granted : HasGrant s.spot s.active s.visits

  granted_there : (spot : Option (ℕ × Q)) (m : Made) (b : Active) (place : ℕ) (visits : List Visit) → place_of spot ≡ stays place m → IsGranted b (calls_at place visits) → HasGrant spot b visits
  granted_there None m b place visits at g = tt
  granted_there (Some p) m b place visits at g = subst (λ (k : ℕ). IsGranted b (calls_at k visits)) (sym (still_there m p.0 place at)) g

  owns_unmade : (s s' : SeatState Q) (place : ℕ) (m : Made) → place_of s'.spot ≡ stays place m → s'.active ≡ active_at s.spot s.active place → s'.visits ≡ s.visits → Owns s → Owns s'
  owns_unmade s s' place m at is same o = record {
    acts = λ q. subst (λ (v : List Visit). Acts (calls_at q v)) (sym same) (o.acts q);
    granted = granted_there s'.spot m s'.active place s'.visits at
        (subst (λ (v : List Visit). IsGranted s'.active (calls_at place v)) (sym same) (subst (λ (b : Active). IsGranted b (calls_at place s.visits)) (sym is) (granted_at s.spot s.active s.visits place o.granted)));
  }

  pub owns_called : (s s' : SeatState Q) (place : ℕ) (e : Entry) (m : Made) → place_of s'.spot ≡ stays place m → s'.active ≡ active_then m (active_at s.spot s.active place) → Makes place e m s.visits s'.visits
      → IsHolders (active_at s.spot s.active place) e.call → Owns s → Owns s'
  owns_called s s' place e (made.Answer r) at is k h o =
      let a = active_at s.spot s.active place in
      let g : IsGranted a (calls_at place s.visits) = granted_at s.spot s.active s.visits place o.granted in
      record {
        acts = λ q. subst (λ (v : List Visit). Acts (calls_at q v)) (sym k) (acts_more place e r s.visits (acts_so a e.call (calls_at place s.visits) h g) o.acts q);
        granted = granted_there s'.spot (made.Answer r) s'.active place s'.visits at
            (subst (λ (v : List Visit). IsGranted s'.active (calls_at place v)) (sym k) (subst (λ (b : Active). IsGranted b (calls_at place ((place, (e, r)) ∷ s.visits))) (sym is)
            (subst (λ (l : List Step). IsGranted (active_after r a) l) (sym (calls_here place (e, r) s.visits)) (granted_more r e a (calls_at place s.visits) g))));
      }
  owns_called s s' place e (made.Busy f) at is k h o = owns_unmade s s' place (made.Busy f) at is k.1 o
  owns_called s s' place e (made.Worn f) at is k h o = owns_unmade s s' place (made.Worn f) at is k.1 o
  owns_called s s' place e (made.OutOfMemory f) at is k h o = owns_unmade s s' place (made.OutOfMemory f) at is k.1 o

-- ---- replies that change nothing of what was granted

abbrev pub Steady : Call → Type 0
Steady (call.Push unit) = Unit {0}
Steady (call.Take player want) = Unit {0}
Steady call.End = ⊥
Steady (call.Leave player) = ⊥
Steady call.Begin = ⊥
Steady (call.BeginAs name) = ⊥
Steady call.Join = ⊥
Steady (call.JoinAs name) = ⊥
Steady call.Count = ⊥

abbrev pub Keeps : Reply → Type 0
Keeps r = (a : Active) → active_after r a ≡ a

keeps_if : (b : Bool) (x y : Reply) → Keeps x → Keeps y → Keeps (if b then x else y)
keeps_if true x y h k = h
keeps_if false x y h k = k

keeps_taken : (t : Taken) → Keeps (reply_of t)
keeps_taken (taken.Sent from n item) = λ a. refl
keeps_taken (taken.Skip from to) = λ a. refl
keeps_taken (taken.NotYet end) = λ a. refl

keeps_to : (limits : StreamLimits) (past : History) (who : ℕ) (c : Call) → Steady c → Keeps (reply_to limits past who c)
keeps_to limits past who (call.Push unit) s = keeps_if (is_who (publisher past) who) _ _ (λ a. refl) (λ a. refl)
keeps_to limits past who (call.Take player want) s = keeps_if (is_who (holder past player) who) _ _ (keeps_taken _) (λ a. refl)
keeps_to limits past who call.End s = absurd s
keeps_to limits past who (call.Leave player) s = absurd s
keeps_to limits past who call.Begin s = absurd s
keeps_to limits past who (call.BeginAs name) s = absurd s
keeps_to limits past who call.Join s = absurd s
keeps_to limits past who (call.JoinAs name) s = absurd s
keeps_to limits past who call.Count s = absurd s

keeps_nowhere : (n : ℕ) (past : History) (c : Call) → Steady c → Keeps (reply_nowhere n past c)
keeps_nowhere n past (call.Push unit) s = λ a. refl
keeps_nowhere n past (call.Take player want) s = λ a. refl
keeps_nowhere n past call.End s = absurd s
keeps_nowhere n past (call.Leave player) s = absurd s
keeps_nowhere n past call.Begin s = absurd s
keeps_nowhere n past (call.BeginAs name) s = absurd s
keeps_nowhere n past call.Join s = absurd s
keeps_nowhere n past (call.JoinAs name) s = absurd s
keeps_nowhere n past call.Count s = absurd s

keeps_in : (slots : List PoolSlot) (past : History) (e : Entry) (o : Option ℕ) → Steady e.call → Keeps (reply_in slots past e o)
keeps_in slots past e None s = keeps_nowhere _ past e.call s
keeps_in slots past e (Some i) s = keeps_to (found slots e.call i).stream.limits (found slots e.call i).stream.past e.who e.call s

keeps_by : (limits : StreamLimits) (slots : Option ℕ) (past : History) (e : Entry) → Steady e.call → Keeps (reply_by limits slots past e)
keeps_by limits None past e s = keeps_to limits past e.who e.call s
keeps_by limits (Some n) past e s = keeps_in (slots_of limits n past) past e (slot_for (slots_of limits n past) e.who e.call) s

abbrev pub KeepsBy : Made → Type 0
KeepsBy (made.Answer r) = Keeps r
KeepsBy (made.Busy e) = Unit {0}
KeepsBy (made.Worn e) = Unit {0}
KeepsBy (made.OutOfMemory e) = Unit {0}

pub keeps_noted : (limits : Shape) (root known : List Step) (e : Entry) (m : Made) (known' : List Step) → IsNoted limits root known e m known' → Steady e.call → KeepsBy m
keeps_noted limits root known e (made.Answer r) known' n s = subst Keeps (sym n.reply_is) (keeps_by limits.limits limits.slots (reverse n.before) e s)
keeps_noted limits root known e (made.Busy f) known' n s = tt
keeps_noted limits root known e (made.Worn f) known' n s = tt
keeps_noted limits root known e (made.OutOfMemory f) known' n s = tt

-- ---- a switch turns the play that is granted

abbrev PlayerOf : Phase → Playing → Type 0
PlayerOf (phase.Plays p) q = q.player ≡ p.player
PlayerOf phase.Idle q = ⊥
PlayerOf (phase.Asked r id) q = ⊥
PlayerOf (phase.Publishes id size) q = ⊥

abbrev Turning : Phase → Result Meant DialogFail → Type 0
Turning p (Err e) = Unit {0}
Turning p (Ok meant.Passed) = Unit {0}
Turning p (Ok (meant.Connects transaction app)) = Unit {0}
Turning p (Ok (meant.Creates transaction id)) = Unit {0}
Turning p (Ok (meant.Busy r id)) = Unit {0}
Turning p (Ok (meant.Asks a id)) = Unit {0}
Turning p (Ok (meant.Closes id)) = Unit {0}
Turning p (Ok (meant.Turns q)) = PlayerOf p q
Turning p (Ok meant.Media) = Unit {0}

module _ (p : Phase) where
  turning_if : (b : Bool) (x y : Result Meant DialogFail) → Turning p x → Turning p y → Turning p (if b then x else y)
  turning_if true x y h k = h
  turning_if false x y h k = k

  turning_open : (b : Bool) (x : Meant) → Turning p (Ok x) → Turning p (Ok (if b then x else meant.Passed))
  turning_open true x h = h
  turning_open false x h = tt

  turning_connects : (a : Option (List ℕ)) (t : ℕ) (b : Option (List ℕ)) → Turning p (Ok (connects a t b))
  turning_connects None t (Some app) = tt
  turning_connects None t None = tt
  turning_connects (Some x) t b = tt

  turning_creates : (t : ℕ) (o : Option ℕ) → Turning p (creates t o)
  turning_creates t None = tt
  turning_creates t (Some id) = tt

  turning_closes_some : (o : Option ℕ) → Turning p (Ok (closes_some o))
  turning_closes_some None = tt
  turning_closes_some (Some id) = tt

  turning_closes : (ids : List ℕ) (f : Brief) → Turning p (Ok (closes ids f))
  turning_closes ids (brief.Number bits) = turning_closes_some (closed_in bits ids)
  turning_closes ids (brief.Text text) = tt
  turning_closes ids (brief.Boolean b) = tt
  turning_closes ids brief.Other = tt

  turning_while : (now : Phase) (r : Role) (id : ℕ) (app text : List ℕ) → Turning p (Ok (asks_while now r id app text))
  turning_while phase.Idle r id app text = tt
  turning_while (phase.Asked q n) r id app text = tt
  turning_while (phase.Publishes n size) r id app text = tt
  turning_while (phase.Plays q) r id app text = tt

  turning_asks_by : (now : Phase) (r : Role) (id : ℕ) (app : List ℕ) (f : Brief) → Turning p (Ok (asks_by now r id app f))
  turning_asks_by now r id app (brief.Text text) = turning_while now r id app text
  turning_asks_by now r id app (brief.Number bits) = tt
  turning_asks_by now r id app (brief.Boolean b) = tt
  turning_asks_by now r id app brief.Other = tt

same_player : (w : Switch) (b : Bool) (p : Playing) → (turned w b p).player ≡ p.player
same_player switch.Audio b p = refl
same_player switch.Video b p = refl
same_player switch.Pause b p = refl

turning_turns : (p : Phase) (stream : ℕ) (w : Switch) (f : Brief) → Turning p (Ok (turns p stream w f))
turning_turns (phase.Plays p) stream w (brief.Boolean b) = turning_open (phase.Plays p) (p.id == stream) (meant.Turns (turned w b p)) (same_player w b p)
turning_turns (phase.Plays p) stream w (brief.Number bits) = tt
turning_turns (phase.Plays p) stream w (brief.Text text) = tt
turning_turns (phase.Plays p) stream w brief.Other = tt
turning_turns phase.Idle stream w f = tt
turning_turns (phase.Asked r id) stream w f = tt
turning_turns (phase.Publishes id size) stream w f = tt

turning_after : (s : State) (stream : ℕ) (h : HeardCommand) (app : Option (List ℕ)) → Turning s.phase (after_connect s stream h app)
turning_after s stream h None = tt
turning_after s stream h (Some app) =
    let p = s.phase in
    turning_if p (is_text h.name (codes "createStream")) _ _ (turning_creates p h.transaction (least_free s.ids))
    (turning_if p (is_text h.name (codes "publish")) _ _ (turning_open p (is_open stream s.ids) (asks_by p role.Publish stream app h.fourth) (turning_asks_by p p role.Publish stream app h.fourth))
    (turning_if p (is_text h.name (codes "play")) _ _ (turning_open p (is_open stream s.ids) (asks_by p role.Play stream app h.fourth) (turning_asks_by p p role.Play stream app h.fourth))
    (turning_if p (is_text h.name (codes "deleteStream")) _ _ (turning_closes p s.ids h.fourth)
    (turning_if p (is_text h.name (codes "receiveAudio")) _ _ (turning_turns p stream switch.Audio h.fourth)
    (turning_if p (is_text h.name (codes "receiveVideo")) _ _ (turning_turns p stream switch.Video h.fourth)
    (turning_if p (is_text h.name (codes "pause")) _ _ (turning_turns p stream switch.Pause h.fourth) tt))))))

turning_commands : (s : State) (stream : ℕ) (r : Result HeardCommand CommandFail) → Turning s.phase (commands_by s stream r)
turning_commands s stream (Ok h) = turning_if s.phase (is_text h.name (codes "connect")) _ _ (turning_connects s.phase s.app h.transaction h.app) (turning_after s stream h s.app)
turning_commands s stream (Err e) = tt

turning_meant : (s : State) (m : Message) → Turning s.phase (meaning s m)
unfolding meaning
turning_meant s m =
    turning_if s.phase (m.kind == 20) _ _ (turning_commands s m.stream (heard_in m.body)) (turning_if s.phase (is_media m.kind && publishes_on m.stream s.phase) (Ok meant.Media) (Ok meant.Passed) tt tt)

-- ---- what a message does

module _ {Q : Type 0} (spot : Option (ℕ × Q)) (a : Active) (place : Option ℕ) (who n : ℕ) where
  -- what was granted where the calls are then, in this phase, with this act
  record Goes (o : Option Act) (p : Phase) : Type 0 where
    role : IsRole p (granted_in (place_after place o) spot a)
    suits : SuitsIf p (entry_by who n (option_map call_of o))
    waits : WaitsSo (granted_in (place_after place o) spot a) (entry_by who n (option_map call_of o))

  goes_none : (p : Phase) → IsRole p (granted_in place spot a) → Goes None p
  goes_none p r = record { role = r; suits = tt; waits = tt }

  begins_free : (g : Active) (b : Bool) (name : List ℕ) → IsHolders g (if b then call.BeginAs name else call.Begin)
  begins_free g true name = tt
  begins_free g false name = tt

  joins_free : (g : Active) (b : Bool) (name : List ℕ) → IsHolders g (if b then call.JoinAs name else call.Join)
  joins_free g true name = tt
  joins_free g false name = tt

  goes_asks : (r : Role) (id : ℕ) (name : List ℕ) (g : Option Grant) → Goes (calls_by r name g) (asked r id g)
  goes_asks role.Publish id name (Some (grant.Place p)) = record { role = tt; suits = tt; waits = begins_free _ _ name }
  goes_asks role.Play id name (Some (grant.Place p)) = record { role = tt; suits = tt; waits = joins_free _ _ name }
  goes_asks role.Publish id name (Some grant.NoName) = goes_none phase.Idle tt
  goes_asks role.Play id name (Some grant.NoName) = goes_none phase.Idle tt
  goes_asks role.Publish id name (Some grant.Refused) = goes_none phase.Idle tt
  goes_asks role.Play id name (Some grant.Refused) = goes_none phase.Idle tt
  goes_asks role.Publish id name None = goes_none phase.Idle tt
  goes_asks role.Play id name None = goes_none phase.Idle tt

  goes_end : (b : Bool) (k size : ℕ) → granted_in place spot a ≡ active.Publishes → Goes (if b then Some act.End else None) (if b then phase.Idle else phase.Publishes k size)
  goes_end true k size h = record { role = tt; suits = tt; waits = h }
  goes_end false k size h = goes_none (phase.Publishes k size) h

  goes_leave : (b : Bool) (p : Playing) → granted_in place spot a ≡ active.Plays p.player → Goes (if b then Some (act.Leave p.player) else None) (if b then phase.Idle else phase.Plays p)
  goes_leave true p h = record { role = tt; suits = tt; waits = h }
  goes_leave false p h = goes_none (phase.Plays p) h

  goes_ends : (id : ℕ) (p : Phase) → IsRole p (granted_in place spot a) → Goes (ends id p) (phase_without id p)
  goes_ends id (phase.Publishes k size) h = goes_end (k == id) k size h
  goes_ends id (phase.Plays p) h = goes_leave (p.id == id) p h
  goes_ends id phase.Idle h = goes_none phase.Idle tt
  goes_ends id (phase.Asked r k) h = goes_none (phase.Asked r k) tt

  goes_turns : (p : Phase) (q : Playing) → PlayerOf p q → IsRole p (granted_in place spot a) → Goes None (phase.Plays q)
  goes_turns (phase.Plays p) q k h = goes_none (phase.Plays q) (h ∙ ap active.Plays (sym k))
  goes_turns phase.Idle q k h = absurd k
  goes_turns (phase.Asked r id) q k h = absurd k
  goes_turns (phase.Publishes id size) q k h = absurd k

  goes_push : (id size : ℕ) (o : Option Media) → granted_in place spot a ≡ active.Publishes → Goes (option_map act.Push o) (sized o (phase.Publishes id size))
  goes_push id size None h = goes_none (phase.Publishes id size) h
  goes_push id size (Some u) h = record { role = h; suits = refl; waits = h }

  goes_media : (p : Phase) (m : Message) → IsRole p (granted_in place spot a) → Goes (option_map act.Push (published_in p m)) (sized (published_in p m) p)
  goes_media (phase.Publishes id size) m h = goes_push id size (unit_from m.kind m.time m.body size) h
  goes_media phase.Idle m h = goes_none phase.Idle tt
  goes_media (phase.Asked r id) m h = goes_none (phase.Asked r id) tt
  goes_media (phase.Plays p) m h = goes_none (phase.Plays p) h

  goes_by : (desk : Ask → Grant) (s : State) (m : Message) (w : Result Meant DialogFail) → Turning s.phase w → IsRole s.phase (granted_in place spot a) → Goes (does_by desk s m w).makes (does_by desk s m w).state.phase
  unfolding makes after
  goes_by desk s m (Err e) t h = goes_none s.phase h
  goes_by desk s m (Ok meant.Passed) t h = goes_none s.phase h
  goes_by desk s m (Ok (meant.Connects transaction app)) t h = goes_none s.phase h
  goes_by desk s m (Ok (meant.Creates transaction id)) t h = goes_none s.phase h
  goes_by desk s m (Ok (meant.Busy r id)) t h = goes_none s.phase h
  goes_by desk s m (Ok (meant.Asks k id)) t h = goes_asks k.role id k.name (Some (desk k))
  goes_by desk s m (Ok (meant.Closes id)) t h = goes_ends id s.phase h
  goes_by desk s m (Ok (meant.Turns q)) t h = goes_turns s.phase q t h
  goes_by desk s m (Ok meant.Media) t h = goes_media s.phase m h

  goes_command : (desk : Ask → Grant) (s : State) (m : Message) → IsRole s.phase (granted_in place spot a) → Goes (dialog.does desk s m).makes (dialog.does desk s m).state.phase
  unfolding dialog.does
  goes_command desk s m h = goes_by desk s m (meaning s m) (turning_meant s m) h

  -- what a message leaves: the role that was granted, and the call that waits
  pub record IsMeant (p : Phase) (at : Option ℕ) (kept : Option Entry) : Type 0 where
    pub role : IsRole p (granted_in at spot a)
    pub suits : SuitsIf p kept
    pub waits : WaitsSo (granted_in at spot a) kept

  meant_in : (desk : Ask → Grant) (s : State) (m : Message) (w : Result (Option Control) BadControl) → IsRole s.phase (granted_in place spot a)
      → IsMeant (does_with desk s m w).state.phase (place_in desk s m place w) (entry_by who n (does_with desk s m w).makes)
  meant_in desk s m (Ok None) h = let g = goes_command desk s m h in record { role = g.role; suits = g.suits; waits = g.waits }
  meant_in desk s m (Ok (Some control)) h = record { role = h; suits = tt; waits = tt }
  meant_in desk s m (Err e) h = record { role = h; suits = tt; waits = tt }

  pub meant_by : (desk : Ask → Grant) (s : State) (m : Message) → IsRole s.phase (granted_in place spot a) → IsMeant (does desk s m).state.phase (place_by desk s place m) (entry_by who n (does desk s m).makes)
  unfolding does place_by
  meant_by desk s m h = meant_in desk s m (control_in m) h

-- ---- what a reply does

role_begun : (id : ℕ) (r : Reply) (a : Active) → IsRole (publishes_after id r) (active_after r a)
role_begun id (reply.Began n) a = refl
role_begun id (reply.InUse by) a = tt
role_begun id (reply.Pushed n) a = tt
role_begun id (reply.NotPublisher live) a = tt
role_begun id (reply.Ended n) a = tt
role_begun id (reply.Joined player from) a = tt
role_begun id reply.Full a = tt
role_begun id (reply.NoSlot slots) a = tt
role_begun id reply.NotPlayer a = tt
role_begun id (reply.Sent from n item) a = tt
role_begun id (reply.Skip from to) a = tt
role_begun id (reply.NotYet end) a = tt
role_begun id (reply.Left player) a = tt
role_begun id (reply.Counts began pushed ended joined skips) a = tt

role_joined : (id : ℕ) (r : Reply) (a : Active) → IsRole (plays_after id r) (active_after r a)
role_joined id (reply.Joined player from) a = refl
role_joined id (reply.Began n) a = tt
role_joined id (reply.InUse by) a = tt
role_joined id (reply.Pushed n) a = tt
role_joined id (reply.NotPublisher live) a = tt
role_joined id (reply.Ended n) a = tt
role_joined id reply.Full a = tt
role_joined id (reply.NoSlot slots) a = tt
role_joined id reply.NotPlayer a = tt
role_joined id (reply.Sent from n item) a = tt
role_joined id (reply.Skip from to) a = tt
role_joined id (reply.NotYet end) a = tt
role_joined id (reply.Left player) a = tt
role_joined id (reply.Counts began pushed ended joined skips) a = tt

push_is_steady : (c : Call) → Suits (phase.Publishes 0 0) c → Steady c
push_is_steady (call.Push unit) h = tt
push_is_steady call.End h = absurd (cc)
push_is_steady (call.Take player want) h = absurd (cc)
push_is_steady (call.Leave player) h = absurd (cc)
push_is_steady call.Begin h = absurd (cc)
push_is_steady (call.BeginAs name) h = absurd (cc)
push_is_steady call.Join h = absurd (cc)
push_is_steady (call.JoinAs name) h = absurd (cc)
push_is_steady call.Count h = absurd (cc)

-- of the call that waited
pub role_told : (p : Phase) (r : Reply) (c : Call) (a : Active) → Suits p c → (Steady c → Keeps r) → IsRole p a → IsRole (phase_after p r) (active_after r a)
role_told (phase.Asked role.Publish id) r c a s k h = role_begun id r a
role_told (phase.Asked role.Play id) r c a s k h = role_joined id r a
role_told phase.Idle r c a s k h = tt
role_told (phase.Publishes id size) r c a s k h = k (push_is_steady c s) a ∙ h
role_told (phase.Plays p) r c a s k h = absurd s

-- ---- a Take

pub holds_play : (p : Phase) (a : Active) (q : Playing) → playing_in p ≡ Some q → IsRole p a → a ≡ active.Plays q.player
holds_play (phase.Plays p) a q e h = let s : p ≡ q = cc in h ∙ ap (λ (x : Playing). active.Plays x.player) s
holds_play phase.Idle a q e h = absurd (cc)
holds_play (phase.Asked r id) a q e h = absurd (cc)
holds_play (phase.Publishes id size) a q e h = absurd (cc)
