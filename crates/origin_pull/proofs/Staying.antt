-- An edge at its port: where it is, and its calls there
use Rattle.std.proofs.Common.{◌≡◌, ℕ, Bool, true, false, if◌then◌else◌, List, [], ◌∷◌, ◌++◌, Option, Some, None, refl, sym, ap, ◌∙◌, subst, arith}
use Rattle.std.proofs.lemmas.Bool.{eq-eqb, false≢true}
use Rattle.stream_model.specs.declared.calls.Entry.{Entry}
use Rattle.stream_model.specs.declared.replies.Reply.{Reply}
use Rattle.stream_model.specs.declared.replies.Reply.TheVariants as reply
use Rattle.session_owed.specs.Talk.{Own}
use Rattle.relay_session.specs.SeatState.{Calls, HasFit, Makes, SeatState, active_after, active_at, active_then, is_over, place_of, stays}
use Rattle.relay_session.specs.SeatVisits.{Visit, calls_of}
use Rattle.relay_session.specs.declared.seat_answers.Active.{Active}
use Rattle.relay_session.specs.declared.seat_answers.Active.TheVariants as active
use Rattle.relay_session.specs.declared.seat_answers.Made.{Made}
use Rattle.relay_session.specs.declared.seat_answers.Made.TheVariants as made
use Rattle.relay_session.proofs.SeatStanding.{still_fits}
use Rattle.origin_pull.specs.Keeping.{AreHere, IsAt, IsHere, granted_by}
use Rattle.origin_pull.specs.declared.core_fields.Core.{Core}

pub others_at : {Q : Type 0} (fits later : ℕ → Q → Type 0) (count count' : ℕ) (c : Core) (s : SeatState Q) → count' ≡ count
    → ((q : ℕ) (p : Q) → fits q p → later q p) → IsAt fits count c s → IsAt later count' c s
others_at fits later count count' c s e more a = record {
  fit = still_fits fits later s.spot more a.fit;
  there = omega (arith, a.there, e);
  here = a.here;
  calls = a.calls;
  places = a.places;
  granted = a.granted;
}

-- it belongs there as long as its place and its calls are the same
pub same_at : {Q : Type 0} (fits : ℕ → Q → Type 0) (count : ℕ) (c d : Core) (s : SeatState Q) → d.place ≡ c.place → d.calls ≡ c.calls
    → IsAt fits count c s → IsAt fits count d s
same_at fits count c d s p e a = record {
  fit = a.fit;
  there = omega (arith, a.there, p);
  here = subst (λ (n : ℕ). IsHere n s.spot s.active) (sym p) a.here;
  calls = e ∙ a.calls;
  places = subst (λ (n : ℕ). AreHere n s.visits) (sym p) a.places;
  granted = a.granted ∙ ap (granted_by active.Nothing) (sym e);
}

-- ---- where it is after a call

-- where it has nothing more to do it is granted nothing
over_nothing : (r : Reply) (a : Active) → is_over r ≡ true → active_after r a ≡ active.Nothing
over_nothing (reply.InUse by) a e = refl
over_nothing reply.Full a e = refl
over_nothing (reply.NoSlot slots) a e = refl
over_nothing (reply.Ended n) a e = refl
over_nothing (reply.Left player) a e = refl
over_nothing (reply.Began n) a e = absurd (false≢true e)
over_nothing (reply.Joined player from) a e = absurd (false≢true e)
over_nothing (reply.Pushed n) a e = absurd (false≢true e)
over_nothing (reply.NotPublisher live) a e = absurd (false≢true e)
over_nothing reply.NotPlayer a e = absurd (false≢true e)
over_nothing (reply.Sent from n item) a e = absurd (false≢true e)
over_nothing (reply.Skip from to) a e = absurd (false≢true e)
over_nothing (reply.NotYet end) a e = absurd (false≢true e)
over_nothing (reply.Counts began pushed ended joined skips) a e = absurd (false≢true e)

-- one call more, if it was answered
granted_more : (a : Active) (C : List Own) (o : Own) → granted_by a (C ++ o ∷ []) ≡ active_after o.1 (granted_by a C)
granted_more a [] o = refl
granted_more a (c ∷ C) o = granted_more (active_after c.1 a) C o

granted_then : (r : Made) (e : Entry) (C D : List Own) (a b : Active) → Calls e r C D → a ≡ granted_by active.Nothing C → b ≡ active_then r a
    → b ≡ granted_by active.Nothing D
granted_then (made.Answer r) e C D a b k g f = f ∙ ap (active_after r) g ∙ sym (granted_more active.Nothing C (e, r)) ∙ ap (granted_by active.Nothing) (sym k)
granted_then (made.Busy x) e C D a b k g f = f ∙ g ∙ ap (granted_by active.Nothing) (sym k)
granted_then (made.Worn x) e C D a b k g f = f ∙ g ∙ ap (granted_by active.Nothing) (sym k)
granted_then (made.OutOfMemory x) e C D a b k g f = f ∙ g ∙ ap (granted_by active.Nothing) (sym k)

places_then : (r : Made) (place : ℕ) (e : Entry) (V W : List Visit) → Makes place e r V W → AreHere place V → AreHere place W
places_then (made.Answer r) place e V W m h = subst (AreHere place) (sym m) (refl, h)
places_then (made.Busy x) place e V W m h = subst (AreHere place) (sym m.1) h
places_then (made.Worn x) place e V W m h = subst (AreHere place) (sym m.1) h
places_then (made.OutOfMemory x) place e V W m h = subst (AreHere place) (sym m.1) h

calls_then : (r : Made) (e : Entry) (C D E F : List Own) → C ≡ E → Calls e r C D → Calls e r E F → D ≡ F
calls_then (made.Answer r) e C D E F same k l = k ∙ ap (λ (x : List Own). x ++ (e, r) ∷ []) same ∙ sym l
calls_then (made.Busy x) e C D E F same k l = k ∙ same ∙ sym l
calls_then (made.Worn x) e C D E F same k l = k ∙ same ∙ sym l
calls_then (made.OutOfMemory x) e C D E F same k l = k ∙ same ∙ sym l

module _ {Q : Type 0} where
  here_some : (spot : Option (ℕ × Q)) (place : ℕ) (a : Active) → place_of spot ≡ Some place → IsHere place spot a
  here_some None place a e = absurd (cc)
  here_some (Some p) place a e = cc

  here_none : (spot : Option (ℕ × Q)) (place : ℕ) (a : Active) → place_of spot ≡ None → a ≡ active.Nothing → IsHere place spot a
  here_none None place a e n = n
  here_none (Some p) place a e n = absurd (cc)

  here_by : (b : Bool) (spot : Option (ℕ × Q)) (place : ℕ) (a : Active) → place_of spot ≡ (if b then None else Some place)
      → (b ≡ true → a ≡ active.Nothing) → IsHere place spot a
  here_by true spot place a e n = here_none spot place a e (n refl)
  here_by false spot place a e n = here_some spot place a e

  here_then : (r : Made) (spot : Option (ℕ × Q)) (place : ℕ) (a b : Active) → place_of spot ≡ stays place r → b ≡ active_then r a → IsHere place spot b
  here_then (made.Answer r) spot place a b e f = here_by (is_over r) spot place b e (λ o. f ∙ over_nothing r a o)
  here_then (made.Busy x) spot place a b e f = here_some spot place b e
  here_then (made.Worn x) spot place a b e f = here_some spot place b e
  here_then (made.OutOfMemory x) spot place a b e f = here_some spot place b e

  -- what it is granted there is what it was granted
  granted_here : (spot : Option (ℕ × Q)) (place : ℕ) (a : Active) → IsHere place spot a → active_at spot a place ≡ a
  granted_here None place a h = sym h
  granted_here (Some p) place a h = ap (λ (b : Bool). if b then a else active.Nothing) (eq-eqb p.0 place h)

  -- a call was made, or came back
  pub made_at : (fits later : ℕ → Q → Type 0) (count count' : ℕ) (c d : Core) (s t : SeatState Q) (e : Entry) (r : Made) → HasFit later t.spot
      → count' ≡ count → place_of t.spot ≡ stays c.place r
      → t.active ≡ active_then r (active_at s.spot s.active c.place) → Makes c.place e r s.visits t.visits
      → Calls e r (calls_of s.visits) (calls_of t.visits) → d.place ≡ c.place → Calls e r c.calls d.calls
      → IsAt fits count c s → IsAt later count' d t
  made_at fits later count count' c d s t e r fit fixed spot act makes calls p k a =
      let was : active_at s.spot s.active c.place ≡ s.active = granted_here s.spot c.place s.active a.here in
      record {
        fit = fit;
        there = omega (arith, a.there, fixed, p);
        here = subst (λ (n : ℕ). IsHere n t.spot t.active) (sym p) (here_then r t.spot c.place (active_at s.spot s.active c.place) t.active spot act);
        calls = calls_then r e c.calls d.calls (calls_of s.visits) (calls_of t.visits) a.calls k calls;
        places = subst (λ (n : ℕ). AreHere n t.visits) (sym p) (places_then r c.place e s.visits t.visits makes a.places);
        granted = granted_then r e c.calls d.calls s.active t.active k a.granted (act ∙ ap (active_then r) was);
      }
