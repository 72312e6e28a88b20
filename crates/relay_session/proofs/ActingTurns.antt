-- A session asks for nothing but what it was granted, through each of its turns and its close
use Rattle.std.proofs.Common.{inl, inr, ◌≡◌, ◌||◌, not, ℕ, nat_eq, if◌then◌else◌, Bool, true, false, List, [], ◌∷◌, ◌++◌, length, ap, sym, refl, ◌∙◌, subst, Option, Some, None}
use Rattle.std.specs.Option.{is_some}
use Rattle.chunk_wire.specs.declared.message.Message.{Message}
use Rattle.command_dialog.specs.Dialog as dialog
use Rattle.command_dialog.specs.Dialog.{phase_after}
use Rattle.command_dialog.specs.State.{State, playing_in}
use Rattle.command_dialog.specs.declared.types.Ask.{Ask}
use Rattle.command_dialog.specs.declared.types.Grant.{Grant}
use Rattle.command_dialog.specs.declared.types.Phase.{Phase}
use Rattle.command_dialog.specs.declared.types.Phase.TheVariants as phase
use Rattle.command_dialog.specs.declared.types.Playing.{Playing}
use Rattle.relay_outside.specs.Heard.{Came, CameBytes, CameEnd, CameNotYet, CameFailed}
use Rattle.relay_outside.specs.declared.link.Said.{Said}
use Rattle.relay_outside.specs.declared.link.Said.TheVariants as said
use Rattle.session_owed.specs.Dialogue.{Dialogue}
use Rattle.session_owed.specs.Standing.{Past}
use Rattle.session_owed.specs.Talk.{Talk, fresh, talk}
use Rattle.session_owed.proofs.Walking.{walk_stays}
use Rattle.stream_model.specs.declared.calls.Call.{Call}
use Rattle.stream_model.specs.declared.calls.Call.TheVariants as call
use Rattle.stream_model.specs.declared.calls.Entry.{Entry}
use Rattle.stream_model.specs.declared.replies.Reply.{Reply}
use Rattle.stream_registry.specs.Told.{Step}
use Rattle.relay_session.specs.Acting.{ActsBy, Acting, HasGrant, HasRole, IsHolders, IsRole, SuitsIf, WaitsSo, WaitsThere, granted_in}
use Rattle.relay_session.specs.Feeding.{Firm, Heard, IsCalled}
use Rattle.relay_session.specs.Keeping.{IsSound, StandsBefore, past_of}
use Rattle.relay_session.specs.Owing.{pending}
use Rattle.relay_session.specs.SeatOwn.{Acts}
use Rattle.relay_session.specs.SeatState.{IsGranted, KeptMade, KeptOrMade, LastMade, LeavesFrom, Makes, SeatState, active_after, active_at, active_then, last_of, left_at, place_of, stays}
use Rattle.relay_session.specs.SeatVisits.{Visit, calls_at}
use Rattle.relay_session.specs.Session.{does, entry_by, place_by, session, told}
use Rattle.relay_session.specs.SessionState.{ended_by}
use Rattle.relay_session.specs.Turns.{AfterCall, AfterKept, CallAsked, CalledBy, CameAs, EmptyBy, Fed, FedAs, FedBy, Gone, Input, InputBy, IsEnded, IsFilled, KeptBy, Life, Loudly, Quietly, QuitBy, SendBy, Sent, SentAs, StandsOn, Stopping, TakeMade, Taken, TakenBy, answer, is_held_back, is_hungry, is_nil, life, take_entry, takes, takes_if}
use Rattle.relay_session.specs.declared.core_fields.Core.{Core}
use Rattle.relay_session.specs.declared.end.End.{End}
use Rattle.relay_session.specs.declared.end.End.TheVariants as end
use Rattle.relay_session.specs.declared.seat_answers.Active.{Active}
use Rattle.relay_session.specs.declared.seat_answers.Active.TheVariants as active
use Rattle.relay_session.specs.declared.seat_answers.Leaving.{Leaving}
use Rattle.relay_session.specs.declared.seat_answers.Leaving.TheVariants as leaving
use Rattle.relay_session.specs.declared.seat_answers.Made.{Made}
use Rattle.relay_session.specs.declared.seat_answers.Made.TheVariants as made
use Rattle.relay_session.specs.declared.turn.Turn.{Turn}
use Rattle.relay_session.specs.declared.turn.Turn.TheVariants.{Moved, Idle, Ended}
use Rattle.relay_session.proofs.Acting.{IsMeant, KeepsBy, Owns, Steady, active_here, acts_more, acts_so, holds_play, meant_by, owns_called, role_told}
use Rattle.relay_session.proofs.SeatStanding.{calls_here, granted_more}

-- ---- where the dialogue stands after a reply

told_phase : (s : State) (r : Reply) → (told s r).state.phase ≡ phase_after s.phase r
unfolding told dialog.told
told_phase s r = refl

module _ (desk : Ask → Grant) (v m : Core) (e : Entry) (r : Reply) (was : StandsBefore desk v) (now : StandsBefore desk m) (c : IsCalled v e r m) where
  same_dialogue : session m.who m.window desk ≡ session v.who v.window desk
  same_dialogue = ap (λ (w : ℕ). session w m.window desk) (ap (λ (f : Firm). f.who) c.firm) ∙ ap (λ (w : ℕ). session v.who w desk) (ap (λ (f : Firm). f.window) c.firm)

  now_is : m.dialog ≡ (talk (session v.who v.window desk) ((past_of v).calls ++ (e, r) ∷ []) (past_of v).ms).state
  now_is = now.state
      ∙ (ap (λ (d : Dialogue State). (talk d (past_of m).calls (past_of m).ms).state) same_dialogue ∙ ap (λ (p : Past). (talk (session v.who v.window desk) p.calls p.ms).state) c.past)

  -- to the call that waited
  heard_reply : v.kept ≡ Some e → m.dialog ≡ (told v.dialog r).state
  heard_reply k =
      now_is ∙ (ap (λ (x : Talk State). x.state) ((was.talks.waits e k).answer r) ∙ ap (λ (s : State). (told s r).state) (sym was.state))

  -- to a Take
  heard_take : v.kept ≡ None → m.dialog ≡ v.dialog
  heard_take k =
      let d = session v.who v.window desk in
      let free : (talk d v.calls v.reader.given).stuck ≡ false = was.talks.stuck ∙ ap (λ (o : Option Entry). is_some o) k in
      now_is ∙ (ap (λ (x : Talk State). x.state) (walk_stays d v.calls (e, r) (fresh d) v.reader.given free) ∙ sym was.state)

-- ---- where it takes

takes_paused : (b : Bool) (q p : Playing) → (if b then Some q else None) ≡ Some p → Some q ≡ Some p
takes_paused true q p e = e
takes_paused false q p e = absurd (cc)

takes_some : (nothing held waits : Bool) (o : Option Playing) (p : Playing) → takes_if nothing held waits o ≡ Some p → (o ≡ Some p) × (waits ≡ false)
takes_some nothing held waits None p e = absurd (cc)
takes_some false held waits (Some q) p e = absurd (cc)
takes_some true true waits (Some q) p e = absurd (cc)
takes_some true false true (Some q) p e = absurd (cc)
takes_some true false false (Some q) p e = (takes_paused (not q.paused) q p e, refl)

free_if : (k : Option Entry) → is_some k ≡ false → k ≡ None
free_if None e = refl
free_if (Some x) e = absurd (cc)

-- ---- what was granted, at the place of the calls

waits_none : (g : Active) (k : Option Entry) → k ≡ None → WaitsSo g k
waits_none g k e = subst (WaitsSo g) (sym e) tt

suits_none : (p : Phase) (k : Option Entry) → k ≡ None → SuitsIf p k
suits_none p k e = subst (SuitsIf p) (sym e) tt

module _ {Q : Type 0} where
  waits_there : (spot : Option (ℕ × Q)) (g : Active) (k : Option Entry) → WaitsSo g k → WaitsThere spot g k
  waits_there None g k w = tt
  waits_there (Some p) g k w = w

  granted_place : (place : Option ℕ) (p : ℕ) (spot : Option (ℕ × Q)) (a : Active) → place ≡ Some p → granted_in place spot a ≡ active_at spot a p
  granted_place place p spot a e = ap (λ (o : Option ℕ). granted_in o spot a) e

  granted_nowhere : (place : Option ℕ) (spot : Option (ℕ × Q)) (a : Active) → spot ≡ None → granted_in place spot a ≡ active.Nothing
  granted_nowhere None spot a e = refl
  granted_nowhere (Some p) spot a e = ap (λ (o : Option (ℕ × Q)). active_at o a p) e

  -- of one that lives
  record FitsAt (desk : Ask → Grant) (c : Core) (s : SeatState Q) : Type 0 where
    acts : (q : ℕ) → Acts (calls_at q s.visits)
    granted : HasGrant s.spot s.active s.visits
    role : HasRole c s
    stands : StandsBefore desk c

  acting_of : (desk : Ask → Grant) (c : Core) (s : SeatState Q) → FitsAt desk c s → Acting c s
  acting_of desk c s f = record { acts = f.acts; granted = f.granted; waits = waits_there s.spot (granted_in c.place s.spot s.active) c.kept f.role.waits }

  acting_same : (c d : Core) (s : SeatState Q) → d.kept ≡ c.kept → d.place ≡ c.place → Acting c s → Acting d s
  acting_same c d s k p a = record {
    acts = a.acts;
    granted = a.granted;
    waits = subst (λ (o : Option ℕ). WaitsThere s.spot (granted_in o s.spot s.active) d.kept) (sym p) (subst (λ (x : Option Entry). WaitsThere s.spot (granted_in c.place s.spot s.active) x) (sym k) a.waits);
  }

  fits_same : (desk : Ask → Grant) (c d : Core) (s : SeatState Q) → d.kept ≡ c.kept → d.place ≡ c.place → d.dialog ≡ c.dialog → StandsBefore desk d → FitsAt desk c s → FitsAt desk d s
  fits_same desk c d s k p e st f = record {
    acts = f.acts;
    granted = f.granted;
    role = record {
      role = subst (λ (o : Option ℕ). IsRole d.dialog.phase (granted_in o s.spot s.active)) (sym p) (subst (λ (x : State). IsRole x.phase (granted_in c.place s.spot s.active)) (sym e) f.role.role);
      suits = subst (λ (x : Option Entry). SuitsIf d.dialog.phase x) (sym k) (subst (λ (x : State). SuitsIf x.phase c.kept) (sym e) f.role.suits);
      waits = subst (λ (o : Option ℕ). WaitsSo (granted_in o s.spot s.active) d.kept) (sym p) (subst (λ (x : Option Entry). WaitsSo (granted_in c.place s.spot s.active) x) (sym k) f.role.waits);
    };
    stands = st;
  }

  -- as a turn's answer says
  abbrev LeftSo : Turn → Core → SeatState Q → Type 0
  LeftSo Moved c s = Acting c s × HasRole c s
  LeftSo Idle c s = Acting c s × HasRole c s
  LeftSo (Ended e) c s = Acting c s

  left_on : (desk : Ask → Grant) (moved : Bool) (a : Turn) (c : Core) (s : SeatState Q) → a ≡ answer moved → FitsAt desk c s → LeftSo a c s
  left_on desk true a c s e f = subst (λ (b : Turn). LeftSo b c s) (sym e) (acting_of desk c s f, f.role)
  left_on desk false a c s e f = subst (λ (b : Turn). LeftSo b c s) (sym e) (acting_of desk c s f, f.role)

  left_end : (e : End) (a : Turn) (c : Core) (s : SeatState Q) → a ≡ Ended e → Acting c s → LeftSo a c s
  left_end e a c s is k = subst (λ (b : Turn). LeftSo b c s) (sym is) k

  pub left_by : (a : Turn) (c : Core) (s : SeatState Q) → LeftSo a c s → ActsBy (ended_by a) c s
  left_by Moved c s l = l
  left_by Idle c s l = l
  left_by (Ended e) c s l = l

  -- ---- a call of its seat

  pub record IsStep (s : SeatState Q) (place : ℕ) (e : Entry) (m : Made) (s' : SeatState Q) : Type 0 where
    pub spot : place_of s'.spot ≡ stays place m
    pub active : s'.active ≡ active_then m (active_at s.spot s.active place)
    pub makes : Makes place e m s.visits s'.visits
    pub steady : Steady e.call → KeepsBy m

  module _ (desk : Ask → Grant) (v w : Core) (s t : SeatState Q) (place : ℕ) (e : Entry) (m : Made) (at : v.place ≡ Some place) (i : IsStep s place e m t)
      (held : IsHolders (active_at s.spot s.active place) e.call) (f : FitsAt desk v s) where
    owns : Owns t
    owns = owns_called s t place e m i.spot i.active i.makes held (record { acts = f.acts; granted = f.granted })

    now_granted : active_at t.spot t.active place ≡ active_then m (active_at s.spot s.active place)
    now_granted = active_here t.spot m (active_at s.spot s.active place) t.active place i.spot i.active

    -- it was made, and none waits
    acting_made : w.kept ≡ None → Acting w t
    acting_made k = record { acts = owns.acts; granted = owns.granted; waits = waits_there t.spot (granted_in w.place t.spot t.active) w.kept (waits_none (granted_in w.place t.spot t.active) w.kept k) }

    fits_made : w.kept ≡ None → w.place ≡ v.place → IsRole w.dialog.phase (active_then m (active_at s.spot s.active place)) → StandsBefore desk w → FitsAt desk w t
    fits_made k p r st =
        let g : granted_in w.place t.spot t.active ≡ active_then m (active_at s.spot s.active place) = granted_place w.place place t.spot t.active (p ∙ at) ∙ now_granted in
        record {
          acts = owns.acts;
          granted = owns.granted;
          role = record {
            role = subst (IsRole w.dialog.phase) (sym g) r;
            suits = suits_none w.dialog.phase w.kept k;
            waits = waits_none (granted_in w.place t.spot t.active) w.kept k;
          };
          stands = st;
        }

    -- it wasn't, and all is as it was
    fits_unmade : active_then m (active_at s.spot s.active place) ≡ active_at s.spot s.active place → w ≡ v → FitsAt desk w t
    fits_unmade still same =
        let g : granted_in v.place t.spot t.active ≡ granted_in v.place s.spot s.active = granted_place v.place place t.spot t.active at ∙ (now_granted ∙ (still ∙ sym (granted_place v.place place s.spot s.active at))) in
        let there : FitsAt desk v t = record {
          acts = owns.acts;
          granted = owns.granted;
          role = record {
            role = subst (IsRole v.dialog.phase) (sym g) f.role.role;
            suits = f.role.suits;
            waits = subst (λ (x : Active). WaitsSo x v.kept) (sym g) f.role.waits;
          };
          stands = f.stands;
        } in
        subst (λ (c : Core). FitsAt desk c t) (sym same) there

module _ {P Q : Type 0} (asks : P → SeatState Q → ℕ → Entry → Made → P → SeatState Q → Type 0)
    (steps : (port : P) (seat : SeatState Q) (place : ℕ) (e : Entry) (came : Made) (port' : P) (seat' : SeatState Q) → asks port seat place e came port' seat' → IsStep seat place e came seat') (desk : Ask → Grant) where
  abbrev Living : Type 0
  Living = Life P (SeatState Q)

  abbrev Fits : Living → Type 0
  Fits v = FitsAt desk v.parts v.seat

  abbrev Left : Turn → Living → Type 0
  Left a w = LeftSo a w.parts w.seat

  ended_left : (e : End) (v : Living) (a : Turn) (w : Living) → IsEnded e v a w → Acting v.parts v.seat → Left a w
  ended_left e v a w i h =
      left_end e a w.parts w.seat i.ended (acting_same v.parts w.parts w.seat (ap (λ (g : Gone). g.kept) i.gone) (ap (λ (g : Gone). g.place) i.gone) (subst (λ (s : SeatState Q). Acting v.parts s) (sym i.seat) h))

  fits_ended : (e : End) (v : Living) (a : Turn) (w : Living) → IsEnded e v a w → Fits v → Left a w
  fits_ended e v a w i f = ended_left e v a w i (acting_of desk v.parts v.seat f)

  -- ---- more is encoded

  filled_stands : (v c : Core) → IsFilled v c → StandsBefore desk v → StandsBefore desk c
  filled_stands v c f st = subst (λ (x : Core). StandsBefore desk x) (sym f.rest) (record {
    early = st.early;
    talks = st.talks;
    owes = ap (λ (l : List ℕ). v.sent ++ l) f.bytes ∙ st.owes;
    writer = f.writer ∙ st.writer;
    window = st.window;
    state = st.state;
  })

  fits_filled : (v : Living) (c : Core) → IsFilled v.parts c → Fits v → FitsAt desk c v.seat
  fits_filled v c k f =
      fits_same desk v.parts c v.seat (ap (λ (x : Core). x.kept) k.rest) (ap (λ (x : Core). x.place) k.rest) (ap (λ (x : Core). x.dialog) k.rest) (filled_stands v.parts c k f.stands) f

  -- ---- step 6

  take_left : (v : Living) (p : Playing) (place : ℕ) (moved : Bool) (came : Made) (a : Turn) (w : Living) → takes v.parts ≡ Some p → v.parts.place ≡ Some place
      → asks v.port v.seat place (take_entry v.parts p) came w.port w.seat → TakeMade v (take_entry v.parts p) moved came w a → Fits v → Left a w
  take_left v p place moved came a w e at k t f = by came k t
    where
      x : (playing_in v.parts.dialog.phase ≡ Some p) × (is_some v.parts.kept ≡ false)
      x = takes_some (is_nil (pending v.parts.outgoing)) (is_held_back v.parts.outbound) (is_some v.parts.kept) (playing_in v.parts.dialog.phase) p e

      free : v.parts.kept ≡ None
      free = free_if v.parts.kept x.1

      here : IsRole v.parts.dialog.phase (active_at v.seat.spot v.seat.active place)
      here = subst (IsRole v.parts.dialog.phase) (granted_place v.parts.place place v.seat.spot v.seat.active at) f.role.role

      held : active_at v.seat.spot v.seat.active place ≡ active.Plays p.player
      held = holds_play v.parts.dialog.phase (active_at v.seat.spot v.seat.active place) p x.0 here

      by : (m : Made) → asks v.port v.seat place (take_entry v.parts p) m w.port w.seat → TakeMade v (take_entry v.parts p) moved m w a → Left a w
      by (made.Answer r) k (c, u) =
          let i = steps v.port v.seat place (take_entry v.parts p) (made.Answer r) w.port w.seat k in
          let none : w.parts.kept ≡ None = ap (λ (z : Past). z.kept) c.past in
          elim u [
            | inl y ↦
                let st : StandsBefore desk w.parts = (y.2 desk).stands f.stands in
                let same : w.parts.dialog ≡ v.parts.dialog = heard_take desk v.parts w.parts (take_entry v.parts p) r f.stands st c free in
                let role : IsRole w.parts.dialog.phase (active_after r (active_at v.seat.spot v.seat.active place)) =
                subst (λ (z : State). IsRole z.phase (active_after r (active_at v.seat.spot v.seat.active place))) (sym same) (subst (IsRole v.parts.dialog.phase) (sym (i.steady tt (active_at v.seat.spot v.seat.active place))) here) in
                left_on desk _ a w.parts w.seat y.0
                (fits_made desk v.parts w.parts v.seat w.seat place (take_entry v.parts p) (made.Answer r) at i held f none (ap (λ (z : Firm). z.place) c.firm) role st)
            | inr y ↦ left_end end.OutOfMemory a w.parts w.seat y (acting_made desk v.parts w.parts v.seat w.seat place (take_entry v.parts p) (made.Answer r) at i held f none)
          ]
      by (made.Busy g) k y =
          left_on desk moved a w.parts w.seat y.1
          (fits_unmade desk v.parts w.parts v.seat w.seat place (take_entry v.parts p) (made.Busy g) at (steps v.port v.seat place (take_entry v.parts p) (made.Busy g) w.port w.seat k) held f refl y.0)
      by (made.Worn g) k y =
          left_end end.Worn a w.parts w.seat y.1 (acting_of desk w.parts w.seat
          (fits_unmade desk v.parts w.parts v.seat w.seat place (take_entry v.parts p) (made.Worn g) at (steps v.port v.seat place (take_entry v.parts p) (made.Worn g) w.port w.seat k) held f refl y.0))
      by (made.OutOfMemory g) k y =
          left_end end.OutOfMemory a w.parts w.seat y.1 (acting_of desk w.parts w.seat
          (fits_unmade desk v.parts w.parts v.seat w.seat place (take_entry v.parts p) (made.OutOfMemory g) at (steps v.port v.seat place (take_entry v.parts p) (made.OutOfMemory g) w.port w.seat k) held f refl y.0))

  taken_by_left : (o : Option Playing) (v : Living) (moved : Bool) (a : Turn) (w : Living) → takes v.parts ≡ o → TakenBy asks o v moved a w → Fits v → Left a w
  taken_by_left None v moved a w e t f = subst (λ (z : Living). Left a z) (sym t.1) (left_on desk moved a v.parts v.seat t.0 f)
  taken_by_left (Some p) v moved a w e t f = take_left v p t.place moved t.came a w e t.there t.asked t.taken f

  taken_left : (v : Living) (moved : Bool) (a : Turn) (w : Living) → Taken asks v moved a w → Fits v → Left a w
  taken_left v moved a w (inl t) f = taken_by_left (takes t.0) (life t.0 v.input v.port v.seat) moved a w refl t.2 (fits_filled v t.0 t.1 f)
  taken_left v moved a w (inr t) f = fits_ended _ v a w t f

  -- ---- a call that waited

  held_waiting : (v : Living) (e : Entry) (place : ℕ) → v.parts.kept ≡ Some e → v.parts.place ≡ Some place → Fits v → IsHolders (active_at v.seat.spot v.seat.active place) e.call
  held_waiting v e place k at f =
      subst (λ (g : Active). IsHolders g e.call) (granted_place v.parts.place place v.seat.spot v.seat.active at) (subst (WaitsSo (granted_in v.parts.place v.seat.spot v.seat.active)) k f.role.waits)

  answered_acting : (v m : Living) (e : Entry) (r : Reply) → v.parts.kept ≡ Some e → CallAsked asks v e (made.Answer r) m → Fits v → Acting m.parts m.seat
  answered_acting v m e r k c f =
      acting_made desk v.parts m.parts v.seat m.seat c.place e (made.Answer r) c.there (steps v.port v.seat c.place e (made.Answer r) m.port m.seat c.asked) (held_waiting v e c.place k c.there f) f (ap (λ (z : Past). z.kept) c.called.past)

  answered_fits : (v m : Living) (e : Entry) (r : Reply) → v.parts.kept ≡ Some e → CallAsked asks v e (made.Answer r) m → StandsOn v.parts m.parts → Fits v → Fits m
  answered_fits v m e r k c s f =
      let i = steps v.port v.seat c.place e (made.Answer r) m.port m.seat c.asked in
      let a = active_at v.seat.spot v.seat.active c.place in
      let st : StandsBefore desk m.parts = (s desk).stands f.stands in
      let heard : m.parts.dialog ≡ (told v.parts.dialog r).state = heard_reply desk v.parts m.parts e r f.stands st c.called k in
      let here : IsRole v.parts.dialog.phase a = subst (IsRole v.parts.dialog.phase) (granted_place v.parts.place c.place v.seat.spot v.seat.active c.there) f.role.role in
      let suits = subst (SuitsIf v.parts.dialog.phase) k f.role.suits in
      let next : IsRole (phase_after v.parts.dialog.phase r) (active_after r a) = role_told v.parts.dialog.phase r e.call a suits i.steady here in
      let role : IsRole m.parts.dialog.phase (active_after r a) =
      subst (λ (z : State). IsRole z.phase (active_after r a)) (sym heard) (subst (λ (z : Phase). IsRole z (active_after r a)) (sym (told_phase v.parts.dialog r)) next) in
      fits_made desk v.parts m.parts v.seat m.seat c.place e (made.Answer r) c.there i (held_waiting v e c.place k c.there f) f (ap (λ (z : Past). z.kept) c.called.past) (ap (λ (z : Firm). z.place) c.called.firm) role st

  busy_fits : (v m : Living) (e g : Entry) → v.parts.kept ≡ Some e → CallAsked asks v e (made.Busy g) m → Fits v → Fits m
  busy_fits v m e g k c f =
      fits_unmade desk v.parts m.parts v.seat m.seat c.place e (made.Busy g) c.there (steps v.port v.seat c.place e (made.Busy g) m.port m.seat c.asked) (held_waiting v e c.place k c.there f) f refl c.called

  worn_fits : (v m : Living) (e g : Entry) → v.parts.kept ≡ Some e → CallAsked asks v e (made.Worn g) m → Fits v → Fits m
  worn_fits v m e g k c f =
      fits_unmade desk v.parts m.parts v.seat m.seat c.place e (made.Worn g) c.there (steps v.port v.seat c.place e (made.Worn g) m.port m.seat c.asked) (held_waiting v e c.place k c.there f) f refl c.called

  memory_fits : (v m : Living) (e g : Entry) → v.parts.kept ≡ Some e → CallAsked asks v e (made.OutOfMemory g) m → Fits v → Fits m
  memory_fits v m e g k c f =
      fits_unmade desk v.parts m.parts v.seat m.seat c.place e (made.OutOfMemory g) c.there (steps v.port v.seat c.place e (made.OutOfMemory g) m.port m.seat c.asked) (held_waiting v e c.place k c.there f) f refl c.called

  after_left : (v m : Living) (e : Entry) (came : Made) (a : Turn) (w : Living) → v.parts.kept ≡ Some e → CallAsked asks v e came m → AfterCall asks v came m a w → Fits v → Left a w
  after_left v m e (made.Answer r) a w k c (inl t) f = taken_left m true a w t.1 (answered_fits v m e r k c t.2 f)
  after_left v m e (made.Answer r) a w k c (inr t) f = ended_left _ m a w t (answered_acting v m e r k c f)
  after_left v m e (made.Busy g) a w k c t f = taken_left m true a w t (busy_fits v m e g k c f)
  after_left v m e (made.Worn g) a w k c t f = fits_ended _ m a w t (worn_fits v m e g k c f)
  after_left v m e (made.OutOfMemory g) a w k c t f = fits_ended _ m a w t (memory_fits v m e g k c f)

  called_left : (o : Option Entry) (v : Living) (a : Turn) (w : Living) → v.parts.kept ≡ o → CalledBy asks o v a w → Fits v → Left a w
  called_left None v a w k t f = taken_left v true a w t f
  called_left (Some e) v a w k t f = after_left v t.1.0 e t.0 a w k t.1.1.0 t.1.1.1 f

  -- ---- step 5

  fits_heard : (v : Living) (c : Core) (n : ℕ) (m : Message) → c.kept ≡ entry_by v.parts.who n (does desk v.parts.dialog m).makes → c.place ≡ place_by desk v.parts.dialog v.parts.place m → c.dialog ≡ (does desk v.parts.dialog m).state
      → StandsBefore desk c → Fits v → FitsAt desk c v.seat
  fits_heard v c n m k p d st f =
      let g : IsMeant v.seat.spot v.seat.active v.parts.place v.parts.who n (does desk v.parts.dialog m).state.phase (place_by desk v.parts.dialog v.parts.place m) (entry_by v.parts.who n (does desk v.parts.dialog m).makes) =
      meant_by v.seat.spot v.seat.active v.parts.place v.parts.who n desk v.parts.dialog m f.role.role in
      let s = v.seat in
      record {
        acts = f.acts;
        granted = f.granted;
        role = record {
          role = subst (λ (o : Option ℕ). IsRole c.dialog.phase (granted_in o s.spot s.active)) (sym p) (subst (λ (z : State). IsRole z.phase (granted_in (place_by desk v.parts.dialog v.parts.place m) s.spot s.active)) (sym d) g.role);
          suits = subst (λ (z : Option Entry). SuitsIf c.dialog.phase z) (sym k) (subst (λ (z : State). SuitsIf z.phase (entry_by v.parts.who n (does desk v.parts.dialog m).makes)) (sym d) g.suits);
          waits = subst (λ (o : Option ℕ). WaitsSo (granted_in o s.spot s.active) c.kept) (sym p) (subst (λ (z : Option Entry). WaitsSo (granted_in (place_by desk v.parts.dialog v.parts.place m) s.spot s.active) z) (sym k) g.waits);
        };
        stands = st;
      }

  fed_as_left : (by : FedBy) (v : Living) (moved : Bool) (a : Turn) (w : Living) → FedAs asks desk by v moved a w → Fits v → Left a w
  fed_as_left Quietly v moved a w t f =
      taken_left (life t.0 [] v.port v.seat) (moved || not (is_nil v.input)) a w t.1.2
      (fits_same desk v.parts t.0 v.seat (ap (λ (x : Heard). x.kept) t.1.1) (ap (λ (x : Heard). x.place) t.1.1) (ap (λ (x : Heard). x.state) t.1.1) (t.1.3.stands f.stands) f)
  fed_as_left Loudly v moved a w t f =
      let m = t.1.1.1 in
      called_left t.0.kept (life t.0 t.1.0 v.port v.seat) a w refl t.1.1.2
      (fits_heard v t.0 (length t.0.x) m.0 (ap (λ (x : Heard). x.kept) m.1) (ap (λ (x : Heard). x.place) m.1) (ap (λ (x : Heard). x.state) m.1) (t.1.1.4.stands f.stands) f)
  fed_as_left (Stopping e) v moved a w t f =
      ended_left e (life t.0 v.input v.port v.seat) a w t.1.1 (acting_same v.parts t.0 v.seat t.1.0.kept t.1.0.place (acting_of desk v.parts v.seat f))

  fed_left : (v : Living) (moved : Bool) (a : Turn) (w : Living) → Fed asks desk v moved a w → Fits v → Left a w
  fed_left v moved a w t f = fed_as_left t.0 v moved a w t.1 f

  came_left : (came : Came) (v : Living) (moved : Bool) (a : Turn) (w : Living) → CameAs asks desk came v moved a w → Fits v → Left a w
  came_left (CameBytes b) v moved a w (inl t) f = fed_left (life v.parts b v.port v.seat) true a w t f
  came_left (CameBytes b) v moved a w (inr t) f = fits_ended _ v a w t f
  came_left CameNotYet v moved a w t f = taken_left v moved a w t f
  came_left CameEnd v moved a w t f = fits_ended _ v a w t f
  came_left CameFailed v moved a w t f = fits_ended _ v a w t f

  module _ {L : Type 0} (hears : L → ℕ → Came → L → Type 0) where
    empty_left : (b : Bool) (v : Living) (l : L) (moved : Bool) (a : Turn) (w : Living) (m : L) → EmptyBy asks desk hears b v l moved a w m → Fits v → Left a w
    empty_left true v l moved a w m t f = came_left t.0 v moved a w t.1.1 f
    empty_left false v l moved a w m t f = fed_left v moved a w t.0 f

    input_by_left : (b : Bool) (v : Living) (l : L) (moved : Bool) (a : Turn) (w : Living) (m : L) → InputBy asks desk hears b v l moved a w m → Fits v → Left a w
    input_by_left true v l moved a w m t f = empty_left (is_nil v.input) v l moved a w m t f
    input_by_left false v l moved a w m t f = taken_left v moved a w t.0 f

    input_left : (v : Living) (l : L) (moved : Bool) (a : Turn) (w : Living) (m : L) → Input asks desk hears v l moved a w m → Fits v → Left a w
    input_left v l moved a w m t f = input_by_left (is_hungry v.parts) v l moved a w m t f

    module _ (says : L → List ℕ → Said → L → Type 0) where
      -- ---- step 4

      sent_as_left : (q : Said) (v : Living) (l : L) (moved : Bool) (a : Turn) (w : Living) (m : L) → SentAs asks desk hears says q v l moved a w m → Fits v → Left a w
      sent_as_left (said.Took n) v l moved a w m t f =
          input_left (life t.0 v.input v.port v.seat) l true a w m t.1.1
          (fits_same desk v.parts t.0 v.seat (ap (λ (x : Past). x.kept) t.1.0.past) (ap (λ (x : Firm). x.place) t.1.0.firm) t.1.0.state ((t.1.2 desk).stands f.stands) f)
      sent_as_left said.NotYet v l moved a w m t f = input_left v l moved a w m t f
      sent_as_left said.Failed v l moved a w m t f = fits_ended _ v a w t.0 f
      sent_as_left said.OutOfMemory v l moved a w m t f = fits_ended _ v a w t.0 f

      send_left : (b : Bool) (v : Living) (l : L) (moved : Bool) (a : Turn) (w : Living) (m : L) → SendBy asks desk hears says b v l moved a w m → Fits v → Left a w
      send_left true v l moved a w m t f = input_left v l moved a w m t f
      send_left false v l moved a w m t f = sent_as_left t.0 v t.1.0 moved a w m t.1.1.1 f

      sent_left : (v : Living) (l : L) (moved : Bool) (a : Turn) (w : Living) (m : L) → Sent asks desk hears says v l moved a w m → Fits v → Left a w
      sent_left v l moved a w m (inl t) f = send_left (is_nil (pending t.0.outgoing)) (life t.0 v.input v.port v.seat) l moved a w m t.1.1 (fits_filled v t.0 t.1.0 f)
      sent_left v l moved a w m (inr t) f = fits_ended _ v a w t.0 f

      -- ---- steps 3 and 2

      quit_left : (quit : Bool) (v : Living) (l : L) (moved : Bool) (a : Turn) (w : Living) (m : L) → QuitBy asks desk hears says quit v l moved a w m → Fits v → Left a w
      quit_left true v l moved a w m t f = fits_ended _ v a w t.0 f
      quit_left false v l moved a w m t f = sent_left v l moved a w m t f

      after_kept_left : (quit : Bool) (v k : Living) (e : Entry) (came : Made) (l : L) (a : Turn) (w : Living) (m : L) → v.parts.kept ≡ Some e → CallAsked asks v e came k → AfterKept asks desk hears says quit v came k l a w m → Fits v → Left a w
      after_kept_left quit v k e (made.Answer r) l a w m w8 c (inl t) f = quit_left quit k l true a w m t.1 (answered_fits v k e r w8 c t.2 f)
      after_kept_left quit v k e (made.Answer r) l a w m w8 c (inr t) f = ended_left _ k a w t.0 (answered_acting v k e r w8 c f)
      after_kept_left quit v k e (made.Busy g) l a w m w8 c t f = subst (λ (z : Living). Left a z) (sym t.1) (left_on desk false a k.parts k.seat t.0 (busy_fits v k e g w8 c f))
      after_kept_left quit v k e (made.Worn g) l a w m w8 c t f = fits_ended _ k a w t.0 (worn_fits v k e g w8 c f)
      after_kept_left quit v k e (made.OutOfMemory g) l a w m w8 c t f = fits_ended _ k a w t.0 (memory_fits v k e g w8 c f)

      kept_left : (o : Option Entry) (quit : Bool) (v : Living) (l : L) (a : Turn) (w : Living) (m : L) → v.parts.kept ≡ o → KeptBy asks desk hears says o quit v l a w m → Fits v → Left a w
      kept_left None quit v l a w m k t f = quit_left quit v l false a w m t f
      kept_left (Some e) quit v l a w m k t f = after_kept_left quit v t.1.0 e t.0 l a w m k t.1.1.0 t.1.1.1 f

      -- A TURN of one that lives
      pub turn_acts : (quit : Bool) (v : Living) (l : L) (a : Turn) (w : Living) (m : L) → KeptBy asks desk hears says v.parts.kept quit v l a w m → StandsBefore desk v.parts → Acting v.parts v.seat × HasRole v.parts v.seat
          → ActsBy (ended_by a) w.parts w.seat
      turn_acts quit v l a w m t st h =
          left_by a w.parts w.seat (kept_left v.parts.kept quit v l a w m refl t (record { acts = h.0.acts; granted = h.0.granted; role = h.1; stands = st }))

-- ---- one that begins

pub begin_acts : {Q : Type 0} (c : Core) (s : SeatState Q) → c.place ≡ None → IsSound c → s.spot ≡ None → s.visits ≡ [] → ActsBy None c s
begin_acts c s p l at vis =
    let i = l.placed p in
    let g : granted_in c.place s.spot s.active ≡ active.Nothing = granted_nowhere c.place s.spot s.active at in (
      record {
        acts = λ q. subst (λ (v : List Visit). Acts (calls_at q v)) (sym vis) tt;
        granted = subst (λ (o : Option (ℕ × _)). HasGrant o s.active s.visits) (sym at) tt;
        waits = waits_there s.spot (granted_in c.place s.spot s.active) c.kept (waits_none (granted_in c.place s.spot s.active) c.kept i.kept);
      },
      record {
        role = subst (λ (z : Phase). IsRole z (granted_in c.place s.spot s.active)) (sym i.phase) tt;
        suits = suits_none c.dialog.phase c.kept i.kept;
        waits = waits_none (granted_in c.place s.spot s.active) c.kept i.kept;
      },
    )

-- ---- one that is closed

-- what its last holder makes, a holder of nothing may make
holders_any : (c : Call) (a : Active) → IsHolders active.Nothing c → IsHolders a c
holders_any (call.Push unit) a h = absurd (cc)
holders_any call.End a h = absurd (cc)
holders_any (call.Take player want) a h = absurd (cc)
holders_any (call.Leave player) a h = absurd (cc)
holders_any call.Begin a h = tt
holders_any (call.BeginAs name) a h = tt
holders_any call.Join a h = tt
holders_any (call.JoinAs name) a h = tt
holders_any call.Count a h = tt

module _ {Q : Type 0} where
  nowhere_is : (spot : Option (ℕ × Q)) → place_of spot ≡ None → spot ≡ None
  nowhere_is None e = refl
  nowhere_is (Some p) e = absurd (cc)

  -- the call that waits is its to make where its pass is
  holds_there : (place : Option ℕ) (p : ℕ × Q) (a : Active) (e : Entry) → IsHolders (granted_in place (Some p) a) e.call → IsHolders a e.call
  holds_there None p a e h = holders_any e.call a h
  holds_there (Some q) p a e h = by (nat_eq p.0 q) h
    where
      by : (b : Bool) → IsHolders (if b then a else active.Nothing) e.call → IsHolders a e.call
      by true k = k
      by false k = holders_any e.call a k

  granted_alike : (place : Option ℕ) (spot spot' : Option (ℕ × Q)) (a a' : Active) → place_of spot' ≡ place_of spot → a' ≡ a → granted_in place spot' a' ≡ granted_in place spot a
  granted_alike None spot spot' a a' e f = refl
  granted_alike (Some q) None None a a' e f = refl
  granted_alike (Some q) (Some p) None a a' e f = absurd (cc)
  granted_alike (Some q) None (Some p) a a' e f = absurd (cc)
  granted_alike (Some q) (Some p) (Some r) a a' e f = let s : r.0 ≡ p.0 = cc in ap (λ (k : ℕ). active_at (Some (k, r.1)) a' q) s ∙ ap (λ (x : Active). active_at (Some (p.0, r.1)) x q) f

-- the calls at a place and what they grant there
record AreThere (place : ℕ) (a : Active) (visits : List Visit) : Type 0 where
  acts : (q : ℕ) → Acts (calls_at q visits)
  granted : IsGranted a (calls_at place visits)

there_made : (place : ℕ) (e : Entry) (r : Reply) (a b : Active) (visits visits' : List Visit) → b ≡ active_after r a → visits' ≡ (place, (e, r)) ∷ visits → IsHolders a e.call → AreThere place a visits → AreThere place b visits'
there_made place e r a b visits visits' is made h o = record {
  acts = λ q. subst (λ (v : List Visit). Acts (calls_at q v)) (sym made) (acts_more place e r visits (acts_so a e.call (calls_at place visits) h o.granted) o.acts q);
  granted = subst (λ (v : List Visit). IsGranted b (calls_at place v)) (sym made) (subst (λ (x : Active). IsGranted x (calls_at place ((place, (e, r)) ∷ visits))) (sym is)
      (subst (λ (l : List Step). IsGranted (active_after r a) l) (sym (calls_here place (e, r) visits)) (granted_more r e a (calls_at place visits) o.granted)));
}

there_kept : (place : ℕ) (kept : Option Entry) (a : Active) (visits : List Visit) (b : Active) (visits' : List Visit) → WaitsSo a kept → KeptMade place kept a visits b visits' → AreThere place a visits → AreThere place b visits'
there_kept place None a visits b visits' w k o = subst (λ (x : Active). AreThere place x visits') (sym k.0) (subst (λ (v : List Visit). AreThere place a v) (sym k.1) o)
there_kept place (Some e) a visits b visits' w k o = there_made place e k.0 a b visits visits' k.1 k.2 w o

there_last : (place who fed : ℕ) (a : Active) (visits visits' : List Visit) → LastMade place who fed (last_of a) visits visits' → AreThere place a visits → (q : ℕ) → Acts (calls_at q visits')
there_last place who fed active.Nothing visits visits' k o q = subst (λ (v : List Visit). Acts (calls_at q v)) (sym k) (o.acts q)
there_last place who fed active.Publishes visits visits' k o q =
    subst (λ (v : List Visit). Acts (calls_at q v)) (sym k.1) (acts_more place (record { who = who; at = fed; call = call.End }) k.0 visits o.granted o.acts q)
there_last place who fed (active.Plays player) visits visits' k o q =
    subst (λ (v : List Visit). Acts (calls_at q v)) (sym k.1) (acts_more place (record { who = who; at = fed; call = call.Leave player }) k.0 visits o.granted o.acts q)

module _ {Q : Type 0} (c d : Core) (s s' : SeatState Q) (who fed : ℕ) (same : d.place ≡ c.place) (h : Acting c s) where
  -- it has left
  acting_left : s'.spot ≡ None → ((q : ℕ) → Acts (calls_at q s'.visits)) → Acting d s'
  acting_left at acts = record {
    acts = acts;
    granted = subst (λ (o : Option (ℕ × Q)). HasGrant o s'.active s'.visits) (sym at) tt;
    waits = subst (λ (o : Option (ℕ × Q)). WaitsThere o (granted_in d.place s'.spot s'.active) d.kept) (sym at) tt;
  }

  -- it is still there, and the call that waits was made or waits on
  acting_there : (p : ℕ × Q) → s.spot ≡ Some p → place_of s'.spot ≡ place_of s.spot → KeptOrMade p.0 c.kept s.active s.visits s'.active s'.visits d.kept → WaitsSo s.active c.kept → AreThere p.0 s.active s.visits → Acting d s'
  acting_there p is at (inl k) w o = record {
    acts = λ q. subst (λ (v : List Visit). Acts (calls_at q v)) (sym k.1) (h.acts q);
    granted = granted_by s'.spot (subst (λ (x : Option (ℕ × Q)). place_of s'.spot ≡ place_of x) is at)
        (subst (λ (x : Active). IsGranted x (calls_at p.0 s'.visits)) (sym k.0) (subst (λ (v : List Visit). IsGranted s.active (calls_at p.0 v)) (sym k.1) o.granted));
    waits = waits_on;
  }
    where
      granted_by : (spot : Option (ℕ × Q)) → place_of spot ≡ Some p.0 → IsGranted s'.active (calls_at p.0 s'.visits) → HasGrant spot s'.active s'.visits
      granted_by None e g = tt
      granted_by (Some r) e g = let z : r.0 ≡ p.0 = cc in subst (λ (k : ℕ). IsGranted s'.active (calls_at k s'.visits)) (sym z) g

      waits_on : WaitsThere s'.spot (granted_in d.place s'.spot s'.active) d.kept
      waits_on =
          let g : granted_in d.place s'.spot s'.active ≡ granted_in c.place s.spot s.active = ap (λ (z : Option ℕ). granted_in z s'.spot s'.active) same ∙ granted_alike c.place s.spot s'.spot s.active s'.active at k.0 in
          let w : WaitsSo (granted_in c.place s.spot s.active) c.kept = subst (λ (x : Option (ℕ × Q)). WaitsThere x (granted_in c.place s.spot s.active) c.kept) is h.waits in
          waits_there s'.spot (granted_in d.place s'.spot s'.active) d.kept (subst (λ (x : Active). WaitsSo x d.kept) (sym g) (subst (WaitsSo (granted_in c.place s.spot s.active)) (sym k.2) w))
  acting_there p is at (inr k) w o =
      let t = there_kept p.0 c.kept s.active s.visits s'.active s'.visits w k.0 o in
      record {
        acts = t.acts;
        granted = granted_by s'.spot (subst (λ (x : Option (ℕ × Q)). place_of s'.spot ≡ place_of x) is at) t.granted;
        waits = waits_there s'.spot (granted_in d.place s'.spot s'.active) d.kept (waits_none (granted_in d.place s'.spot s'.active) d.kept k.1);
      }
    where
      granted_by : (spot : Option (ℕ × Q)) → place_of spot ≡ Some p.0 → IsGranted s'.active (calls_at p.0 s'.visits) → HasGrant spot s'.active s'.visits
      granted_by None e g = tt
      granted_by (Some r) e g = let z : r.0 ≡ p.0 = cc in subst (λ (k : ℕ). IsGranted s'.active (calls_at k s'.visits)) (sym z) g

  kept_acts : (place : ℕ) (a b : Active) (visits visits' : List Visit) (kept kept' : Option Entry) → KeptOrMade place kept a visits b visits' kept' → WaitsSo a kept → AreThere place a visits → (q : ℕ) → Acts (calls_at q visits')
  kept_acts place a b visits visits' kept kept' (inl k) w o q = subst (λ (v : List Visit). Acts (calls_at q v)) (sym k.1) (o.acts q)
  kept_acts place a b visits visits' kept kept' (inr k) w o q = (there_kept place kept a visits b visits' w k.0 o).acts q

  by_spot : (o : Option (ℕ × Q)) (r : Leaving) → s.spot ≡ o → place_of s'.spot ≡ left_at r (place_of o) → LeavesFrom (place_of o) who fed c.kept s.active s.visits r d.kept s'.active s'.visits → Acting d s'
  by_spot None r is at l =
      let gone : place_of s'.spot ≡ None = at ∙ ap (λ (x : Leaving). left_at x None) l.0 in
      acting_left (nowhere_is s'.spot gone) (λ q. subst (λ (v : List Visit). Acts (calls_at q v)) (sym l.1) (h.acts q))
  by_spot (Some p) r is at l = there r at l
    where
      w : WaitsSo s.active c.kept
      w = any c.kept (subst (λ (x : Option (ℕ × Q)). WaitsThere x (granted_in c.place x s.active) c.kept) is h.waits)
        where
          any : (k : Option Entry) → WaitsSo (granted_in c.place (Some p) s.active) k → WaitsSo s.active k
          any None z = tt
          any (Some e) z = holds_there c.place p s.active e z

      o : AreThere p.0 s.active s.visits
      o = record { acts = h.acts; granted = subst (λ (x : Option (ℕ × Q)). HasGrant x s.active s.visits) is h.granted }

      there : (r : Leaving) → place_of s'.spot ≡ left_at r (Some p.0) → LeavesFrom (Some p.0) who fed c.kept s.active s.visits r d.kept s'.active s'.visits → Acting d s'
      there leaving.Done at l =
          acting_left (nowhere_is s'.spot at) (there_last p.0 who fed l.0.granted l.0.between s'.visits l.0.last_made (there_kept p.0 c.kept s.active s.visits l.0.granted l.0.between w l.0.kept_made o))
      there leaving.Worn at l = acting_left (nowhere_is s'.spot at) (kept_acts p.0 s.active l.0 s.visits s'.visits c.kept d.kept l.1 w o)
      there leaving.Busy at l = acting_there p is (at ∙ sym (ap place_of is)) l w o
      there leaving.OutOfMemory at l = acting_there p is (at ∙ sym (ap place_of is)) l w o

  pub closed_acts : (r : Leaving) → place_of s'.spot ≡ left_at r (place_of s.spot) → LeavesFrom (place_of s.spot) who fed c.kept s.active s.visits r d.kept s'.active s'.visits → Acting d s'
  closed_acts r at l = by_spot s.spot r refl at l
