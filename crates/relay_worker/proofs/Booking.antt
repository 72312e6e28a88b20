-- What a worker's books say, step by step
use Rattle.std.proofs.Common.{◌≡◌, ◌≢◌, inl, inr, ℕ, zero, suc, ◌+◌, ◌^◌, ◌<◌, Bool, true, false, ◌&&◌, ◌||◌, nat_lt, List, [], ◌∷◌, ◌++◌, length, map, slice_get, Option, Some, None, get_or, count_by, is_some, if◌then◌else◌, refl, sym, ap, ◌∙◌, subst, arith, append_assoc, append-nil}
use Rattle.std.specs.Prelude.{All, drop}
use Rattle.std.proofs.lemmas.List.{length_push, map_push, reverse-append}
use Rattle.std.proofs.lemmas.List.Elements.{All-cons, All-nil, All-push}
use Rattle.std.proofs.lemmas.List.Quantifiers.{all_pairs_push}
use Rattle.slab.specs.Slab.{Slab, get, slab_len, Updates}
use Rattle.chunk_reader.specs.Sound.{IsRead}
use Rattle.command_dialog.specs.declared.types.Ask.{Ask}
use Rattle.command_dialog.specs.declared.types.Grant.{Grant}
use Rattle.relay_outside.specs.Doors.{DoorTold, Returned, IsNewDoor, IsNewLink, Knocks, returned, with_one}
use Rattle.relay_outside.specs.Heard.{Came, HearStep}
use Rattle.relay_outside.specs.Said.{SayStep}
use Rattle.relay_outside.specs.Told.{LinkCounts, LinkTold}
use Rattle.relay_outside.specs.declared.door.Knock.{Knock}
use Rattle.relay_outside.specs.declared.door.Knock.TheVariants as knock
use Rattle.relay_outside.specs.declared.link.Said.{Said}
use Rattle.media_recorder.specs.declared.turn.RecTurn.{RecTurn}
use Rattle.session_owed.specs.Owed.{count_of, out}
use Rattle.ack_window.specs.Outbound.{new_out}
use Rattle.session_owed.specs.Standing.{Past}
use Rattle.session_owed.specs.Talk.{Own, hand_bytes}
use Rattle.session_owed.specs.Talks.{Talks}
use Rattle.stream_model.specs.declared.calls.Call.{Call}
use Rattle.stream_model.specs.declared.calls.Entry.{Entry}
use Rattle.stream_model.specs.declared.calls.Shape.{Shape}
use Rattle.stream_model.specs.declared.replies.Reply.{Reply}
use Rattle.stream_registry.specs.Names.{PortRules}
use Rattle.stream_registry.specs.Splits.{Kin}
use Rattle.stream_registry.specs.Told.{Step, Histories}
use Rattle.turn_gate.specs.declared.view.Branch.{Branch}
use Rattle.turn_gate.specs.Histories.{Begins}
use Rattle.relay_session.specs.Acting.{Acting, ActsBy, HasGrant}
use Rattle.relay_session.specs.Decided.{IsDecided}
use Rattle.relay_session.specs.Onward.{GoesOn}
use Rattle.relay_session.specs.Places.{Asked, AskedAlone}
use Rattle.relay_session.specs.Session.{session}
use Rattle.relay_session.specs.SeatState.{AllMade, GoOn, IsActive, IsGranted, IsMade, IsNoted, KeptMade, KeptOrMade, LastMade, LeavesFrom, Leaves, Makes, SeatState, active_at, active_then, is_over, known, last_of, left_at, place_of, stays}
use Rattle.relay_session.specs.SeatVisits.{AllStand, Visit, calls_at, calls_of}
use Rattle.relay_session.specs.SessionState.{SessionState, StandsBy, end_or_quit, ended_by, gone_but_kept, life_at}
use Rattle.relay_session.specs.Turns.{EndedBy, Gone}
use Rattle.relay_session.specs.declared.core_fields.Core.{Core}
use Rattle.relay_session.specs.declared.end.End.{End}
use Rattle.relay_session.specs.declared.end.End.TheVariants as end
use Rattle.relay_session.specs.declared.seat_answers.Active.{Active}
use Rattle.relay_session.specs.declared.seat_answers.Active.TheVariants as active
use Rattle.relay_session.specs.declared.seat_answers.Leaving.{Leaving}
use Rattle.relay_session.specs.declared.seat_answers.Leaving.TheVariants as leaving
use Rattle.relay_session.specs.declared.seat_answers.Made.{Made}
use Rattle.relay_session.specs.declared.seat_answers.Made.TheVariants as made
use Rattle.relay_session.specs.declared.turn.Turn.{Turn}
use Rattle.relay_session.specs.declared.turn.Turn.TheVariants as turn
use Rattle.relay_session.proofs.Acting.{granted_at}
use Rattle.relay_session.proofs.SeatStanding.{active_more, all_later, all_more, begins_same, others_later}
use Rattle.relay_worker.specs.Benches.{IsNamed, IsSound, WorkerState}
use Rattle.relay_worker.specs.Books.{Account, Accounted, HasGone, HasStopped, IsCause, IsEndedBy, IsParting, IsBackAfter, IsWaited, LeavesBy, Lives, Owns, OwesBy, RunsBy, Settled, TiesBy, WaitsOrMade, Works}
use Rattle.relay_worker.specs.Rounds.{Admits, AdmitsIf, ClosesAt, ClosesBy, ClosesIf, GoesIf, IsAdmitted, IsGone, IsLeft, IsTurned, Recorded, RecordsAt, RecordsIf, Rounds, TurnsAt, TurnsBy, TurnsIf, Walks, asks_door, begun, has_left}
use Rattle.relay_worker.specs.Running.{IsReadied}
use Rattle.relay_worker.specs.Turned.{Asks as WireAsks, Hears as WireHears, Says as WireSays}
use Rattle.relay_worker.specs.Turned.{Alive, ComesBy, HasRunOut, IsRunning, TakesOne, Wire, alive, wire}
use Rattle.relay_worker.specs.Sessions.{Closes, IsNewSession, TakesTurn, is_spent, is_worn, lacks_memory, wears_out}
use Rattle.relay_worker.specs.declared.bench.Bench.{Bench}
use Rattle.relay_worker.specs.declared.bench.Seated.{Seated}
use Rattle.relay_worker.specs.declared.bench.Terms.{Terms}
use Rattle.relay_worker.specs.declared.recorder.Recorder.{Recorder}
use Rattle.relay_worker.specs.declared.round.Round.{Round}
use Rattle.relay_worker.proofs.Mapping.{mapped}
use Rattle.relay_worker.proofs.Moving.{moves_turned}
use Rattle.relay_worker.proofs.Numbered.{each_none, each_push}
use Rattle.relay_worker.proofs.Slabs.{gone_cases, put_cases}
use Rattle.relay_worker.proofs.Sounding.{Single, named_more, single_gone, single_more, single_put}
use Rattle.relay_worker.proofs.Turning.{Deciding, Firmly, Tied, leaves}

-- ---- what it asks for

-- whether it lives or has ended
acting_of : {Q : Type 0} (o : Option End) (c : Core) (s : SeatState Q) → ActsBy o c s → Acting c s
acting_of None c s a = a.0
acting_of (Some e) c s a = a

-- ---- what is granted at a place

module _ {Q : Type 0} where
  -- it is where it stays
  granted_here : (spot : Option (ℕ × Q)) (o : Option ℕ) (a : Active) (visits : List Visit) → place_of spot ≡ o → ((q : ℕ) (pass : Q) → o ≡ Some q → IsGranted a (calls_at q visits)) → HasGrant spot a visits
  granted_here None o a visits at g = tt
  granted_here (Some p) o a visits at g = g p.0 p.1 (sym at)

  nothing_granted : (spot : Option (ℕ × Q)) (visits : List Visit) → IsActive spot active.Nothing visits
  nothing_granted None visits = refl
  nothing_granted (Some p) visits = tt

  pub active_of : (spot : Option (ℕ × Q)) (place : ℕ) (a : Active) (visits : List Visit) → place_of spot ≡ Some place → HasGrant spot a visits → IsActive spot a visits
  active_of None place a visits at g = absurd (let n : None ≡ Some place = at in cc)
  active_of (Some p) place a visits at g = g

  pub granted_of : (spot : Option (ℕ × Q)) (a : Active) (visits : List Visit) → IsActive spot a visits → HasGrant spot a visits
  granted_of None a visits g = tt
  granted_of (Some p) a visits g = g

  pub nowhere : (spot : Option (ℕ × Q)) → place_of spot ≡ None → spot ≡ None
  nowhere None at = refl
  nowhere (Some p) at = absurd (let n : Some p.0 ≡ None = at in cc)

stays_at : (b : Bool) (place q : ℕ) → (if b then None else Some place) ≡ Some q → q ≡ place
stays_at true place q e = absurd (let n : None ≡ Some q = e in cc)
stays_at false place q e = let n : Some place ≡ Some q = e in cc

-- ---- a session's calls at a port

module _ {P Q : Type 0} (rules : P → PortRules) (root : P → Histories) (seen : Q → List Step) where
  -- its calls stand there, and it is granted what they say
  pub record Holds (x : P) (s : SeatState Q) : Type 0 where
    pub calls : AllStand (rules x).limits (known root seen x s) s.visits
    pub granted : HasGrant s.spot s.active s.visits

  limits_on : (x y : P) (h : Histories) (visits : List Visit) → rules y ≡ rules x → AllStand (rules x).limits h visits → AllStand (rules y).limits h visits
  limits_on x y h visits same a = subst (λ (r : PortRules). AllStand r.limits h visits) (sym same) a

  -- others have made calls
  pub calls_on : (x y : P) (s : SeatState Q) → rules y ≡ rules x → GoOn (root x) (root y) → AllStand (rules x).limits (known root seen x s) s.visits → AllStand (rules y).limits (known root seen y s) s.visits
  calls_on x y s same g c =
      let still : SeatState Q = record { spot = s.spot; active = active.Nothing; visits = s.visits } in
      (others_later (rules x) (rules y) seen (root x) (root y) still same g (record { calls = c; granted = nothing_granted s.spot s.visits })).calls

  -- no call was made
  unmade : (x y : P) (s t : SeatState Q) (place : ℕ) → rules y ≡ rules x → GoOn (known root seen x s) (known root seen y t) → place_of t.spot ≡ Some place → t.active ≡ active_at s.spot s.active place → t.visits ≡ s.visits
      → Holds x s → Holds y t
  unmade x y s t place same on at act vis h = record {
    calls = limits_on x y (known root seen y t) t.visits same (subst (λ (v : List Visit). AllStand (rules x).limits (known root seen y t) v) (sym vis) (all_later (rules x).limits (known root seen x s) (known root seen y t) s.visits on h.calls));
    granted = granted_here t.spot (Some place) t.active t.visits at (λ q pass e.
        let is : q ≡ place = stays_at false place q e in
        subst (λ (n : ℕ). IsGranted t.active (calls_at n t.visits)) (sym is)
        (subst (λ (v : List Visit). IsGranted t.active (calls_at place v)) (sym vis)
        (subst (λ (a : Active). IsGranted a (calls_at place s.visits)) (sym act) (granted_at s.spot s.active s.visits place h.granted))));
  }

  called : (x y : P) (s t : SeatState Q) (place : ℕ) (e : Entry) (r : Made) → rules y ≡ rules x → GoOn (known root seen x s) (known root seen y t) → place_of t.spot ≡ stays place r → t.active ≡ active_then r (active_at s.spot s.active place)
      → Makes place e r s.visits t.visits → IsNoted ((rules x).limits place) (root x place) (known root seen x s place) e r (known root seen y t place) → Holds x s → Holds y t
  called x y s t place e (made.Answer r) same on at act vis n h = record {
    calls = limits_on x y (known root seen y t) t.visits same (subst (λ (v : List Visit). AllStand (rules x).limits (known root seen y t) v) (sym vis)
        (all_more (rules x).limits (known root seen x s) (known root seen y t) place (root x place) (e, r) s.visits on n h.calls));
    granted = granted_here t.spot (stays place (made.Answer r)) t.active t.visits at (λ q pass is.
        let before : IsActive (Some (place, pass)) (active_at s.spot s.active place) s.visits = granted_at s.spot s.active s.visits place h.granted in
        subst (λ (m : ℕ). IsGranted t.active (calls_at m t.visits)) (sym (stays_at (is_over r) place q is))
        (subst (λ (v : List Visit). IsGranted t.active (calls_at place v)) (sym vis)
        (subst (λ (a : Active). IsGranted a (calls_at place ((place, (e, r)) ∷ s.visits))) (sym act) (active_more place pass pass r e (active_at s.spot s.active place) s.visits before))));
  }
  called x y s t place e (made.Busy f) same on at act vis n h = unmade x y s t place same on at act vis.1 h
  called x y s t place e (made.Worn f) same on at act vis n h = unmade x y s t place same on at act vis.1 h
  called x y s t place e (made.OutOfMemory f) same on at act vis n h = unmade x y s t place same on at act vis.1 h

  abbrev pub On : P → SeatState Q → P → SeatState Q → Type 0
  On x s y t = Holds x s → Holds y t

  pub on_stays : (x : P) (s : SeatState Q) → On x s x s
  on_stays x s h = h

  pub on_chain : (x : P) (s : SeatState Q) (y : P) (t : SeatState Q) (z : P) (u : SeatState Q) → On x s y t → On y t z u → On x s z u
  on_chain x s y t z u a b h = b (a h)

  pub on_asked : (fits : P → ℕ → Q → Type 0) (count : Q → ℕ) (wants : Entry → Type 0) (busies : P → ℕ) (x : P) (s : SeatState Q) (place : ℕ) (e : Entry) (r : Made) (y : P) (t : SeatState Q)
      → Asked fits rules root seen count wants busies x s place e r y t → On x s y t
  on_asked fits count wants busies x s place e r y t a h = called x y s t place e r a.fixed a.knows a.spot a.active a.makes a.noted h

  pub on_alone : (fits : P → ℕ → Q → Type 0) (count : Q → ℕ) (wants : Entry → Type 0) (busies : P → ℕ) (adds : List Step → List Step → List Step → Type 0) (kin : P → Kin) (branches : Q → List Branch) (x : P) (s : SeatState Q) (place : ℕ) (e : Entry) (r : Made) (y : P) (t : SeatState Q)
      → AskedAlone fits rules root seen count wants busies adds kin branches x s place e r y t → On x s y t
  on_alone fits count wants busies adds kin branches x s place e r y t a = on_asked fits count wants busies x s place e r y t a.asked

-- ---- the calls by which a session leaves

-- one call more
made_more : (place : ℕ) (e : Entry) (r : Reply) (visits visits' : List Visit) → IsMade place e r visits visits' → calls_of visits' ≡ calls_of visits ++ (e, r) ∷ []
made_more place e r visits visits' m = ap calls_of m ∙ reverse-append ((e, r) ∷ []) (map (λ (v : Visit). v.1) visits)

-- these calls and those made since, by which it is leaving
pub record Since (waited : Option Entry) (calls : List Own) (visits : List Visit) (kept : Option Entry) : Type 0 where
  pub left : List Own
  pub calls_are : calls_of visits ≡ calls ++ left
  pub leaving : WaitsOrMade waited kept left

-- these calls and those by which it has left
pub record Went (waited : Option Entry) (calls : List Own) (visits : List Visit) : Type 0 where
  pub left : List Own
  pub calls_are : calls_of visits ≡ calls ++ left
  pub left_by : LeavesBy waited left

abbrev pub LeftAs : Bool → Option Entry → List Own → List Visit → Option Entry → Type 0
LeftAs true waited calls visits kept = Went waited calls visits
LeftAs false waited calls visits kept = Since waited calls visits kept

is_waited : (waited kept : Option Entry) (left : List Own) → WaitsOrMade waited kept left → IsWaited waited left
is_waited waited kept left (inl t) = inl t.0
is_waited waited kept left (inr t) = t.0

since_same : (waited : Option Entry) (calls : List Own) (visits visits' : List Visit) (kept kept' : Option Entry) → visits' ≡ visits → kept' ≡ kept → Since waited calls visits kept → Since waited calls visits' kept'
since_same waited calls visits visits' kept kept' v k s = record {
  left = s.left;
  calls_are = ap calls_of v ∙ s.calls_are;
  leaving = subst (λ (o : Option Entry). WaitsOrMade waited o s.left) (sym k) s.leaving;
}

-- the call that waited
since_made : (waited : Option Entry) (calls left : List Own) (place : ℕ) (e : Entry) (r : Reply) (visits visits' : List Visit) → calls_of visits ≡ calls ++ left → WaitsOrMade waited (Some e) left → IsMade place e r visits visits' → Since waited calls visits' None
since_made waited calls left place e r visits visits' are (inl t) m = record {
  left = (e, r) ∷ [];
  calls_are = made_more place e r visits visits' m ∙ ap (λ (l : List Own). l ++ (e, r) ∷ []) (are ∙ (ap (λ (l : List Own). calls ++ l) t.0 ∙ append-nil calls));
  leaving = inr (inr (e, (r, (sym t.1, refl))), refl);
}
since_made waited calls left place e r visits visits' are (inr t) m = absurd (let n : Some e ≡ None = t.1 in cc)

since_kept : (waited kept : Option Entry) (calls : List Own) (place : ℕ) (a : Active) (visits : List Visit) (a' : Active) (visits' : List Visit) → KeptMade place kept a visits a' visits' → Since waited calls visits kept → Since waited calls visits' None
since_kept waited None calls place a visits a' visits' t s = since_same waited calls visits visits' None None t.1 refl s
since_kept waited (Some e) calls place a visits a' visits' t s = since_made waited calls s.left place e t.0 visits visits' s.calls_are s.leaving t.2

since_or : (waited kept : Option Entry) (calls : List Own) (place : ℕ) (a : Active) (visits : List Visit) (a' : Active) (visits' : List Visit) (kept' : Option Entry) → KeptOrMade place kept a visits a' visits' kept' → Since waited calls visits kept
    → Since waited calls visits' kept'
since_or waited kept calls place a visits a' visits' kept' (inl t) s = since_same waited calls visits visits' kept kept' t.1 t.2 s
since_or waited kept calls place a visits a' visits' kept' (inr t) s = subst (λ (k : Option Entry). Since waited calls visits' k) (sym t.1) (since_kept waited kept calls place a visits a' visits' t.0 s)

-- it has left
went_so : (waited kept : Option Entry) (calls : List Own) (visits : List Visit) → Since waited calls visits kept → Went waited calls visits
went_so waited kept calls visits s = record {
  left = s.left;
  calls_are = s.calls_are;
  left_by = record { first = s.left; last = []; calls_are = sym (append-nil s.left); first_is = is_waited waited kept s.left s.leaving; last_is = inl refl };
}

-- with one call more
went_more : (waited kept : Option Entry) (calls : List Own) (place : ℕ) (e : Entry) (r : Reply) (visits visits' : List Visit) → IsParting e.call → IsMade place e r visits visits' → Since waited calls visits kept → Went waited calls visits'
went_more waited kept calls place e r visits visits' p m s = record {
  left = s.left ++ (e, r) ∷ [];
  calls_are = made_more place e r visits visits' m ∙ (ap (λ (l : List Own). l ++ (e, r) ∷ []) s.calls_are ∙ append_assoc calls s.left ((e, r) ∷ []));
  left_by = record { first = s.left; last = (e, r) ∷ []; calls_are = refl; first_is = is_waited waited kept s.left s.leaving; last_is = inr ((e, r), (p, refl)) };
}

went_last : (waited kept : Option Entry) (calls : List Own) (place who fed : ℕ) (a : Active) (visits visits' : List Visit) → LastMade place who fed (last_of a) visits visits' → Since waited calls visits kept → Went waited calls visits'
went_last waited kept calls place who fed active.Nothing visits visits' t s = went_so waited kept calls visits' (since_same waited calls visits visits' kept kept t refl s)
went_last waited kept calls place who fed active.Publishes visits visits' t s = went_more waited kept calls place _ t.0 visits visits' (inl refl) t.1 s
went_last waited kept calls place who fed (active.Plays player) visits visits' t s = went_more waited kept calls place _ t.0 visits visits' (inr (player, refl)) t.1 s

left_by : (r : Leaving) (waited kept : Option Entry) (calls : List Own) (who place fed : ℕ) (a : Active) (visits : List Visit) (kept' : Option Entry) (a' : Active) (visits' : List Visit) → Leaves place who fed kept a visits r kept' a' visits'
    → Since waited calls visits kept → LeftAs (has_left r) waited calls visits' kept'
left_by leaving.Done waited kept calls who place fed a visits kept' a' visits' t s =
    let m = t.0 in
    went_last waited None calls place who fed m.granted m.between visits' m.last_made (since_kept waited kept calls place a visits m.granted m.between m.kept_made s)
left_by leaving.Worn waited kept calls who place fed a visits kept' a' visits' t s = went_so waited kept' calls visits' (since_or waited kept calls place a visits t.0 visits' kept' t.1 s)
left_by leaving.Busy waited kept calls who place fed a visits kept' a' visits' t s = since_or waited kept calls place a visits a' visits' kept' t s
left_by leaving.OutOfMemory waited kept calls who place fed a visits kept' a' visits' t s = since_or waited kept calls place a visits a' visits' kept' t s

pub left_from : (o : Option ℕ) (r : Leaving) (waited kept : Option Entry) (calls : List Own) (who fed : ℕ) (a : Active) (visits : List Visit) (kept' : Option Entry) (a' : Active) (visits' : List Visit) → LeavesFrom o who fed kept a visits r kept' a' visits'
    → Since waited calls visits kept → LeftAs (has_left r) waited calls visits' kept'
left_from None r waited kept calls who fed a visits kept' a' visits' t s =
    subst (λ (q : Leaving). LeftAs (has_left q) waited calls visits' kept') (sym t.0) (went_so waited kept' calls visits' (since_same waited calls visits visits' kept kept' t.1 t.2 s))
left_from (Some place) r waited kept calls who fed a visits kept' a' visits' t s = left_by r waited kept calls who place fed a visits kept' a' visits' t s

-- after further calls of its own
pub record Grows (who : ℕ) (visits : List Visit) (kept : Option Entry) (visits' : List Visit) (kept' : Option Entry) : Type 0 where
  pub owns : Owns who visits kept → Owns who visits' kept'

grows_same : (who : ℕ) (visits : List Visit) (kept : Option Entry) (visits' : List Visit) (kept' : Option Entry) → visits' ≡ visits → kept' ≡ kept → Grows who visits kept visits' kept'
grows_same who visits kept visits' kept' v k = record {
  owns = λ o. subst (λ (l : List Visit). Owns who l kept') (sym v) (subst (λ (e : Option Entry). Owns who visits e) (sym k) o);
}

grows_then : (who : ℕ) (u : List Visit) (i : Option Entry) (v : List Visit) (j : Option Entry) (w : List Visit) (k : Option Entry) → Grows who u i v j → Grows who v j w k → Grows who u i w k
grows_then who u i v j w k a b = record { owns = λ o. b.owns (a.owns o) }

-- one call
grows_made : (who place : ℕ) (e : Entry) (r : Reply) (visits visits' : List Visit) (kept : Option Entry) → (Owns who visits kept → e.who ≡ who) → IsMade place e r visits visits' → Grows who visits kept visits' None
grows_made who place e r visits visits' kept named m = record {
  owns = λ o. subst (λ (l : List Visit). Owns who l None) (sym m) (record {
    made = All-cons (λ (v : Visit). v.1.0.who ≡ who) (place, (e, r)) visits (named o) o.made;
    waits = λ f is. absurd (let n : None ≡ Some f = is in cc);
  });
}

-- the call that waited
grows_kept : (who place : ℕ) (kept : Option Entry) (a : Active) (visits : List Visit) (a' : Active) (visits' : List Visit) → KeptMade place kept a visits a' visits' → Grows who visits kept visits' None
grows_kept who place None a visits a' visits' t = grows_same who visits None visits' None t.1 refl
grows_kept who place (Some e) a visits a' visits' t = grows_made who place e t.0 visits visits' (Some e) (λ o. o.waits e refl) t.2

-- the last one
grows_last : (who place fed : ℕ) (o : Option Call) (visits visits' : List Visit) → LastMade place who fed o visits visits' → Grows who visits None visits' None
grows_last who place fed None visits visits' t = grows_same who visits None visits' None t refl
grows_last who place fed (Some c) visits visits' t = grows_made who place (record { who = who; at = fed; call = c }) t.0 visits visits' None (λ o. refl) t.1

grows_or : (who place : ℕ) (kept : Option Entry) (a : Active) (visits : List Visit) (a' : Active) (visits' : List Visit) (kept' : Option Entry) → KeptOrMade place kept a visits a' visits' kept' → Grows who visits kept visits' kept'
grows_or who place kept a visits a' visits' kept' (inl t) = grows_same who visits kept visits' kept' t.1 t.2
grows_or who place kept a visits a' visits' kept' (inr t) = subst (λ (k : Option Entry). Grows who visits kept visits' k) (sym t.1) (grows_kept who place kept a visits a' visits' t.0)

grows_all : (who place fed : ℕ) (kept : Option Entry) (a : Active) (visits visits' : List Visit) → AllMade place who fed kept a visits visits' → Grows who visits kept visits' None
grows_all who place fed kept a visits visits' t =
    grows_then who visits kept t.between None visits' None (grows_kept who place kept a visits t.granted t.between t.kept_made) (grows_last who place fed (last_of t.granted) t.between visits' t.last_made)

grows_by : (r : Leaving) (who place fed : ℕ) (kept : Option Entry) (a : Active) (visits : List Visit) (kept' : Option Entry) (a' : Active) (visits' : List Visit) → Leaves place who fed kept a visits r kept' a' visits' → Grows who visits kept visits' kept'
grows_by leaving.Done who place fed kept a visits kept' a' visits' t = subst (λ (k : Option Entry). Grows who visits kept visits' k) (sym t.1) (grows_all who place fed kept a visits visits' t.0)
grows_by leaving.Worn who place fed kept a visits kept' a' visits' t = grows_or who place kept a visits t.0 visits' kept' t.1
grows_by leaving.Busy who place fed kept a visits kept' a' visits' t = grows_or who place kept a visits a' visits' kept' t
grows_by leaving.OutOfMemory who place fed kept a visits kept' a' visits' t = grows_or who place kept a visits a' visits' kept' t

pub grows_from : (o : Option ℕ) (who fed : ℕ) (kept : Option Entry) (a : Active) (visits : List Visit) (r : Leaving) (kept' : Option Entry) (a' : Active) (visits' : List Visit) → LeavesFrom o who fed kept a visits r kept' a' visits' → Grows who visits kept visits' kept'
grows_from None who fed kept a visits r kept' a' visits' t = grows_same who visits kept visits' kept' t.1 t.2
grows_from (Some place) who fed kept a visits r kept' a' visits' t = grows_by r who place fed kept a visits kept' a' visits' t

-- ---- a close

module _ {P Q : Type 0} (fits : P → ℕ → Q → Type 0) (rules : P → PortRules) (root : P → Histories) (seen : Q → List Step) (count : Q → ℕ) (wants : Entry → Type 0) (busies : P → ℕ) where
  -- one that is nowhere
  pub holds_nowhere : (x y : P) (s t : SeatState Q) → rules y ≡ rules x → GoOn (root x) (root y) → s.spot ≡ None → t.spot ≡ None → t.visits ≡ s.visits → Holds rules root seen x s → Holds rules root seen y t
  holds_nowhere x y s t same g from at vis h =
      let here : (u : SeatState Q) (p : P) → u.spot ≡ None → known root seen p u ≡ root p = λ u p e. ap (λ (o : Option (ℕ × Q)). known root seen p (record { spot = o; active = u.active; visits = u.visits })) e in
      let before : AllStand (rules x).limits (root x) s.visits = subst (λ (h : Histories). AllStand (rules x).limits h s.visits) (here s x from) h.calls in
      record {
        calls = subst (λ (h : Histories). AllStand (rules y).limits h t.visits) (sym (here t y at))
            (limits_on rules root seen x y (root y) t.visits same
            (subst (λ (v : List Visit). AllStand (rules x).limits (root y) v) (sym vis) (all_later (rules x).limits (root x) (root y) s.visits g before)));
        granted = subst (λ (o : Option (ℕ × Q)). HasGrant o t.active t.visits) (sym at) tt;
      }

  module _ (adds : List Step → List Step → List Step → Type 0) (kin : P → Kin) (branches : Q → List Branch) where
    holds_closed : (o : Option ℕ) (x y : P) (s t : SessionState Q) (answer : Leaving) → place_of s.seat.spot ≡ o → Closes fits rules root seen count wants busies adds kin branches x s answer y t → Holds rules root seen x s.seat → Holds rules root seen y t.seat
    holds_closed None x y s t answer at c h =
        let l : LeavesFrom None s.parts.who s.parts.fed s.parts.kept s.seat.active s.seat.visits answer t.parts.kept t.seat.active t.seat.visits =
        subst (λ (p : Option ℕ). LeavesFrom p s.parts.who s.parts.fed s.parts.kept s.seat.active s.seat.visits answer t.parts.kept t.seat.active t.seat.visits) at c.leaves in
        holds_nowhere x y s.seat t.seat c.fixed c.roots (nowhere s.seat.spot at) (nowhere t.seat.spot (c.spot ∙ (ap (λ (r : Leaving). left_at r (place_of s.seat.spot)) l.0))) l.1 h
    holds_closed (Some place) x y s t answer at c h =
        let after = c.stands (record { calls = h.calls; granted = active_of s.seat.spot place s.seat.active s.seat.visits at h.granted }) in
        record { calls = after.calls; granted = granted_of t.seat.spot t.seat.active t.seat.visits after.granted }

-- it has left
pub left_nowhere : (r : Leaving) (o : Option ℕ) → has_left r ≡ true → left_at r o ≡ None
left_nowhere leaving.Done o e = refl
left_nowhere leaving.Worn o e = refl
left_nowhere leaving.Busy o e = absurd (let n : false ≡ true = e in cc)
left_nowhere leaving.OutOfMemory o e = absurd (let n : false ≡ true = e in cc)

-- ---- a link and its account

-- what a link told, or what its session knows where it tells nothing
told_of : Option LinkTold → LinkCounts → List ℕ → List ℕ → Returned
told_of None counts gave sent = record { gave = gave; took = sent; counts = counts }
told_of (Some t) counts gave sent = record { gave = t.gave; took = t.took; counts = counts }

record IsTold (Decided : List ℕ → ℕ → End → Type 0) (e : End) (x sent : List ℕ) (r : Returned) : Type 0 where
  fed : Begins x r.gave
  cause : IsCause Decided r.counts r.gave (length x) e
  took : r.took ≡ sent

is_told_of : (Decided : List ℕ → ℕ → End → Type 0) (o : Option LinkTold) (counts : LinkCounts) (e : End) (x sent : List ℕ) → (k : IsEndedBy Decided e o counts x sent) → IsTold Decided e x sent (told_of o counts k.y sent)
unfolding told_of
is_told_of Decided None counts e x sent k = record { fed = k.fed; cause = k.cause; took = refl }
is_told_of Decided (Some t) counts e x sent k =
    let p = k.told_is t refl in
    record { fed = subst (Begins x) (sym p.0) k.fed; cause = subst (λ (y : List ℕ). IsCause Decided counts y (length x) e) (sym p.0) k.cause; took = p.1 }

-- whether it told them
tells_of : Option LinkTold → Bool
tells_of None = false
tells_of (Some t) = true

-- so the door tells it
returned_of : (o : Option LinkTold) (counts : LinkCounts) (gave sent : List ℕ) → tells_of o ≡ true → returned o counts ≡ Some (told_of o counts gave sent)
unfolding told_of tells_of
returned_of None counts gave sent e = absurd (let n : false ≡ true = e in cc)
returned_of (Some t) counts gave sent e = refl

-- a door that tells the links it has back was given none that doesn't tell
one_telling : (back : Option (List Returned)) (o : Option LinkTold) (counts : LinkCounts) (accounts : List Account) (a : Account) → a.tells ≡ tells_of o
    → ((list : List Returned) → back ≡ Some list → All (λ (b : Account). b.tells ≡ true) accounts) → (list : List Returned) → with_one back (returned o counts) ≡ Some list → All (λ (b : Account). b.tells ≡ true) (accounts ++ a ∷ [])
unfolding tells_of
one_telling None o counts accounts a tells was list is = absurd (let n : None ≡ Some list = is in cc)
one_telling (Some xs) None counts accounts a tells was list is = absurd (let n : None ≡ Some list = is in cc)
one_telling (Some xs) (Some t) counts accounts a tells was list is = All-push (λ (b : Account). b.tells ≡ true) accounts a (was xs refl) tells

-- the door has one link more back
one_back : (back : Option (List Returned)) (o : Option LinkTold) (counts : LinkCounts) (x sent : List ℕ) (accounts : List Account) (a : Account) → a.link ≡ told_of o counts x sent
    → ((list : List Returned) → back ≡ Some list → list ≡ map (λ (b : Account). b.link) accounts) → (list : List Returned) → with_one back (returned o counts) ≡ Some list → list ≡ map (λ (b : Account). b.link) (accounts ++ a ∷ [])
unfolding told_of
one_back None o counts x sent accounts a link was list is = absurd (let n : None ≡ Some list = is in cc)
one_back (Some xs) None counts x sent accounts a link was list is = absurd (let n : None ≡ Some list = is in cc)
one_back (Some xs) (Some t) counts x sent accounts a link was list is =
    let r : Returned = record { gave = t.gave; took = t.took; counts = counts } in
    let same : xs ++ r ∷ [] ≡ list = let n : Some (xs ++ r ∷ []) ≡ Some list = is in cc in
    sym same ∙ (ap (λ (l : List Returned). l ++ r ∷ []) (was xs refl) ∙ (ap (λ (b : Returned). map (λ (c : Account). c.link) accounts ++ b ∷ []) (sym link) ∙ sym (map_push (λ (c : Account). c.link) accounts a)))

-- ---- how it came there

abbrev Comes : (Ask → Grant) → Option End → Core → List Visit → List ℕ → Wire → Type 0
Comes desk o c visits input l = ComesBy desk c.who c.window c.reader.max o (alive c input visits) l

runs_by : (told : Option LinkTold) (counts : LinkCounts) (desk : Ask → Grant) (o : Option End) (c : Core) (visits : List Visit) (input : List ℕ) → Comes desk o c visits input (wire told counts) → RunsBy told counts desk o c input visits
runs_by told counts desk None c visits input r = r
runs_by told counts desk (Some e) c visits input r = tt

runs_living : (told : Option LinkTold) (counts : LinkCounts) (desk : Ask → Grant) (o : Option End) (c : Core) (visits : List Visit) (input : List ℕ) → o ≡ None → RunsBy told counts desk o c input visits
    → IsRunning desk c.who c.window c.reader.max (alive c input visits) (wire told counts)
runs_living told counts desk None c visits input n r = r
runs_living told counts desk (Some e) c visits input n r = absurd (let f : Some e ≡ None = n in cc)

-- by one turn more
comes_turned : (desk : Ask → Grant) (who window max : ℕ) (v : Alive) (l : Wire) (a : Turn) (w : Alive) (m : Wire) → IsRunning desk who window max v l → TakesOne desk v l a w m → ComesBy desk who window max (ended_by a) w m
comes_turned desk who window max v l turn.Moved w m r t = record { first = r.first; first_link = r.first_link; fresh = r.fresh; turns = turn.Moved ∷ r.turns; ran = (v, (l, (r.ran, refl, t))) }
comes_turned desk who window max v l turn.Idle w m r t = record { first = r.first; first_link = r.first_link; fresh = r.fresh; turns = turn.Idle ∷ r.turns; ran = (v, (l, (r.ran, refl, t))) }
comes_turned desk who window max v l (turn.Ended e) w m r t = record { before = v; before_link = l; running = r; last = t }

-- a turn keeps its name and its limits
comes_firm : (desk : Ask → Grant) (c d : Core) (o : Option End) (w : Alive) (m : Wire) → Firmly c d → ComesBy desk c.who c.window c.reader.max o w m → ComesBy desk d.who d.window d.reader.max o w m
comes_firm desk c d o w m f k =
    subst (λ (n : ℕ). ComesBy desk n d.window d.reader.max o w m) (sym f.who)
    (subst (λ (n : ℕ). ComesBy desk c.who n d.reader.max o w m) (sym f.window) (subst (λ (n : ℕ). ComesBy desk c.who c.window n o w m) (sym f.max) k))

-- one that lives, and wasn't told to end
unquit : (desk : Ask → Grant) (o : Option End) (q : Bool) (v : Alive) (l : Wire) (a : Turn) (w : Alive) (m : Wire) → o ≡ None → q ≡ false → EndedBy WireAsks desk WireHears WireSays o q v l a w m → TakesOne desk v l a w m
unquit desk None false v l a w m n q t = t
unquit desk None true v l a w m n q t = absurd (let f : true ≡ false = q in cc)
unquit desk (Some e) q v l a w m n p t = absurd (let f : Some e ≡ None = n in cc)

-- ---- what a session has sent

owes_by : (told : Option LinkTold) (counts : LinkCounts) (desk : Ask → Grant) (o : Option End) (c : Core) (visits : List Visit) (input : List ℕ) → calls_of visits ≡ c.calls → StandsBy o desk c → Tied desk o told counts c input
    → Comes desk o c visits input (wire told counts) → OwesBy told counts desk o c visits
owes_by told counts desk None c visits input e s t r = (s, e)
owes_by told counts desk (Some q) c visits input e s t r = record {
  waited = c.kept;
  gone = record {
    sent = record { ms = s.ms; read = s.read; talks = s.talks; owed = (s.more, s.owes) };
    ran = record { last = alive c input visits; came = r; gone = refl; waits = refl };
    ending = record { y = t.y; fed = t.fed; cause = t.cause s; told_is = t.told_is };
  };
  left = [];
  calls_are = e ∙ sym (append-nil c.calls);
  leaving = inl (refl, refl);
}

-- one that lives is tied to its link
ties_by : (told : Option LinkTold) (counts : LinkCounts) (desk : Ask → Grant) (o : Option End) (c : Core) (input : List ℕ) → Tied desk o told counts c input → TiesBy o told c.x input c.sent
ties_by told counts desk None c input t = t
ties_by told counts desk (Some e) c input t = tt

-- one that lives
owes_living : (told : Option LinkTold) (counts : LinkCounts) (desk : Ask → Grant) (o : Option End) (c : Core) (visits : List Visit) → o ≡ None → OwesBy told counts desk o c visits → StandsBy o desk c
owes_living told counts desk None c visits n w = w.0
owes_living told counts desk (Some e) c visits n w = absurd (let f : Some e ≡ None = n in cc)

owes_over : (told : Option LinkTold) (counts : LinkCounts) (desk : Ask → Grant) (o : Option End) (e : End) (c : Core) (visits : List Visit) → o ≡ Some e → OwesBy told counts desk o c visits → HasStopped told counts desk e c visits
owes_over told counts desk o e c visits is k = subst (λ (q : Option End). OwesBy told counts desk q c visits) is k

pub or_first : (a b : Bool) → (a || b) ≡ false → a ≡ false
or_first true b e = e
or_first false b e = refl

pub or_last : (a b : Bool) → (a || b) ≡ false → b ≡ false
or_last true b e = absurd (let n : true ≡ false = e in cc)
or_last false b e = e

and_first : (a b : Bool) → (a && b) ≡ true → a ≡ true
and_first true b e = refl
and_first false b e = e

-- a turn by which no session lacked memory
unspent_by : (a : Turn) → is_spent a ≡ false → ended_by a ≢ Some end.OutOfMemory
unspent_by turn.Moved e = λ is. let n : None ≡ Some end.OutOfMemory = is in cc
unspent_by turn.Idle e = λ is. let n : None ≡ Some end.OutOfMemory = is in cc
unspent_by (turn.Ended q) e = λ is.
    let n : q ≡ end.OutOfMemory = let m : Some q ≡ Some end.OutOfMemory = is in cc in
    let f : false ≡ true = sym e ∙ ap lacks_memory n in cc

-- and one by which none found a history full
unfilled_by : (a : Turn) → is_worn a ≡ false → ended_by a ≢ Some end.Worn
unfilled_by turn.Moved e = λ is. let n : None ≡ Some end.Worn = is in cc
unfilled_by turn.Idle e = λ is. let n : None ≡ Some end.Worn = is in cc
unfilled_by (turn.Ended q) e = λ is.
    let n : q ≡ end.Worn = let m : Some q ≡ Some end.Worn = is in cc in
    let f : false ≡ true = sym e ∙ ap wears_out n in cc

-- a link place is free
pub has_room : (n m : ℕ) (b : Bool) → (nat_lt n m && b) ≡ true → n < m
has_room n m b e = let f : nat_lt n m ≡ true = and_first (nat_lt n m) b e in grind arith

-- what each step keeps, a walk keeps
pub walked : {B : Type 0} (step : ℕ → B → B → Type 0) (K : B → Type 0) → ((key : ℕ) (b b' : B) → step key b b' → K b → K b') → (n : ℕ) (b b' : B) → Walks step n b b' → K b → K b'
walked step K one zero b b' e k = subst K (sym e) k
walked step K one (suc n) b b' t k = one n t.0 b' t.1.1 (walked step K one n b t.0 t.1.0 k)

-- ---- a session that is there

module _ {P Q L : Type 0} (rules : P → PortRules) (root : P → Histories) (seen : Q → List Step) (told : L → Option LinkTold) (counts : L → LinkCounts) (desk : Ask → Grant) (t : Terms) where
  abbrev Here : P → List Account → Seated P L Q → Type 0
  Here x accounts s = Lives rules root seen told counts desk t x accounts s

  holds_of : (x : P) (accounts : List Account) (s : Seated P L Q) → Here x accounts s → Holds rules root seen x s.session.seat
  holds_of x accounts s w = record { calls = w.calls; granted = (acting_of s.session.ended s.session.parts s.session.seat w.acts).granted }

  -- others have made calls
  lives_on : (x y : P) (accounts : List Account) (s : Seated P L Q) → rules y ≡ rules x → GoOn (root x) (root y) → Here x accounts s → Here y accounts s
  lives_on x y accounts s same g w = record {
    window = w.window;
    max = w.max;
    owes = w.owes;
    runs = w.runs;
    calls = calls_on rules root seen x y s.session.seat same g w.calls;
    acts = w.acts;
    own = w.own;
    ties = w.ties;
    fresh = w.fresh;
    unasked = w.unasked;
  }

  -- one account more, of another session
  lives_more : (x : P) (accounts : List Account) (a : Account) (s : Seated P L Q) → a.who ≢ s.session.parts.who → Here x accounts s → Here x (accounts ++ a ∷ []) s
  lives_more x accounts a s other w = record {
    window = w.window;
    max = w.max;
    owes = w.owes;
    runs = w.runs;
    calls = w.calls;
    acts = w.acts;
    own = w.own;
    ties = w.ties;
    fresh = All-push (λ (b : Account). b.who ≢ s.session.parts.who) accounts a w.fresh other;
    unasked = w.unasked;
  }

  -- a new one
  lives_new : (x : P) (had : ℕ) (accounts : List Account) (s : Seated P L Q) → IsNewSession t had s.session → IsNewLink (told s.link) (counts s.link) → All (λ (a : Account). IsNamed t.number had a.who) accounts → Here x accounts s
  lives_new x had accounts s n l named =
      let none : s.session.seat.visits ≡ [] = n.nowhere.1 in
      let stands = n.stands desk in
      record {
        window = n.window;
        max = n.max;
        owes = subst (λ (o : Option End). OwesBy (told s.link) (counts s.link) desk o s.session.parts s.session.seat.visits) (sym n.lives)
            (subst (λ (o : Option End). StandsBy o desk s.session.parts) n.lives stands, ap calls_of none ∙ sym (ap (λ (p : Past). p.calls) n.past));
        runs = subst (λ (o : Option End). RunsBy (told s.link) (counts s.link) desk o s.session.parts s.session.input s.session.seat.visits) (sym n.lives) (record {
          first = alive s.session.parts s.session.input s.session.seat.visits;
          first_link = wire (told s.link) (counts s.link);
          fresh = record {
            named = refl;
            window_is = refl;
            max_is = refl;
            past = n.past;
            outbound = n.outbound ∙ ap new_out (sym n.window);
            outgoing = n.outgoing;
            blank = (n.input, none, n.nowhere.2);
            link = l;
          };
          turns = [];
          ran = (refl, refl);
        });
        calls = subst (λ (v : List Visit). AllStand (rules x).limits (known root seen x s.session.seat) v) (sym none) (record { at_each = λ q. tt });
        acts = n.acts;
        own = record {
          made = subst (λ (v : List Visit). All (λ (w : Visit). w.1.0.who ≡ s.session.parts.who) v) (sym none) (All-nil (λ (w : Visit). w.1.0.who ≡ s.session.parts.who));
          waits = λ e is. absurd (let k : s.session.parts.kept ≡ None = ap (λ (p : Past). p.kept) n.past in let m : None ≡ Some e = sym k ∙ is in cc);
        };
        ties = subst (λ (o : Option End). TiesBy o (told s.link) s.session.parts.x s.session.input s.session.parts.sent) (sym n.lives) (λ u is.
            let b = l.blank u is in
            let x_is : s.session.parts.x ≡ [] = ap (λ (p : Past). p.x) n.past in
            let sent_is : s.session.parts.sent ≡ [] = ap (λ (p : Past). p.sent) n.past in
            (b.0 ∙ sym (ap (λ (y : List ℕ). y ++ s.session.input) x_is ∙ n.input), b.1 ∙ sym sent_is));
        fresh = λ i d le e. let m = (named i d le).to in let w = n.who in omega (arith, m, w, e);
        unasked = λ o. n.quit;
      }

  -- ---- its turn

  module _ (fits : P → ℕ → Q → Type 0) (count : Q → ℕ) (wants : Entry → Type 0) (busies : P → ℕ) (adds : List Step → List Step → List Step → Type 0) (kin : P → Kin) (branches : Q → List Branch) (goes : P → SeatState Q → P → SeatState Q → Type 0)
      (hears : L → ℕ → Came → L → Type 0) (hears_mean : (l : L) (room : ℕ) (answer : Came) (m : L) → 0 < room → hears l room answer m → HearStep room (told l) (told m) (counts l) (counts m) answer)
      (says : L → List ℕ → Said → L → Type 0) (says_mean : (l : L) (piece : List ℕ) (answer : Said) (m : L) → 0 < length piece → says l piece answer m → SayStep piece (told l) (told m) (counts l) (counts m) answer) (decided : Deciding) where
    abbrev Asks : P → SeatState Q → ℕ → Entry → Made → P → SeatState Q → Type 0
    Asks = AskedAlone fits rules root seen count wants busies adds kin branches

    lives_turned : (x y : P) (accounts : List Account) (s s' : Seated P L Q) (a : Turn) → s.session.ended ≡ None → TakesTurn Asks goes desk hears says x s a y s' → Here x accounts s → Here y accounts s'
    lives_turned x y accounts s s' a n u w =
        let l = leaves told counts (λ (z : SeatState Q). z.visits) s.session.quit desk decided Asks (λ z v place e r z' v' k. k.asked.makes) hears hears_mean says says_mean s.session.ended (life_at s.session x) s.link a (life_at s'.session y) s'.link n u.turn in
        let h = moves_turned (On rules root seen) (on_stays rules root seen) (on_chain rules root seen) Asks (on_alone rules root seen fits count wants busies adds kin branches) desk hears says s.session.ended s.session.quit
        (life_at s.session x) s.link a (life_at s'.session y) s'.link u.turn (holds_of x accounts s w) in
        let stood = owes_living (told s.link) (counts s.link) desk s.session.ended s.session.parts s.session.seat.visits n w.owes in
        let tied : Tied desk s'.session.ended (told s'.link) (counts s'.link) s'.session.parts s'.session.input =
        subst (λ (o : Option End). Tied desk o (told s'.link) (counts s'.link) s'.session.parts s'.session.input) (sym u.ended)
        (l.ties (w.unasked n) (subst (λ (o : Option End). TiesBy o (told s.link) s.session.parts.x s.session.input s.session.parts.sent) n w.ties)) in
        let before = alive s.session.parts s.session.input s.session.seat.visits in
        let after = alive s'.session.parts s'.session.input s'.session.seat.visits in
        let before_link = wire (told s.link) (counts s.link) in
        let after_link = wire (told s'.link) (counts s'.link) in
        let step = unquit desk s.session.ended s.session.quit before before_link a after after_link n (w.unasked n)
        (mapped told counts (λ (z : SeatState Q). z.visits) desk Asks (λ z v place e r z' v' k. k.asked.makes) hears hears_mean says says_mean s.session.ended s.session.quit
        (life_at s.session x) s.link a (life_at s'.session y) s'.link u.turn) in
        let came : Comes desk s'.session.ended s'.session.parts s'.session.seat.visits s'.session.input after_link =
        subst (λ (o : Option End). Comes desk o s'.session.parts s'.session.seat.visits s'.session.input after_link) (sym u.ended)
        (comes_firm desk s.session.parts s'.session.parts (ended_by a) after after_link l.firm
        (comes_turned desk s.session.parts.who s.session.parts.window s.session.parts.reader.max before before_link a after after_link
        (runs_living (told s.link) (counts s.link) desk s.session.ended s.session.parts s.session.seat.visits s.session.input n w.runs) step)) in
        record {
          window = l.firm.window ∙ w.window;
          max = l.firm.max ∙ w.max;
          owes = owes_by (told s'.link) (counts s'.link) desk s'.session.ended s'.session.parts s'.session.seat.visits s'.session.input (sym u.calls)
              (u.stands stood) tied came;
          runs = runs_by (told s'.link) (counts s'.link) desk s'.session.ended s'.session.parts s'.session.seat.visits s'.session.input came;
          calls = h.calls;
          acts = u.acts stood w.acts;
          own = l.owns w.own;
          ties = ties_by (told s'.link) (counts s'.link) desk s'.session.ended s'.session.parts s'.session.input tied;
          fresh = subst (λ (who : ℕ). All (λ (b : Account). b.who ≢ who) accounts) (sym u.who) w.fresh;
          unasked = λ o. u.quit ∙ w.unasked n;
        }

  -- ---- its close

  module _ (fits : P → ℕ → Q → Type 0) (count : Q → ℕ) (wants : Entry → Type 0) (busies : P → ℕ) (adds : List Step → List Step → List Step → Type 0) (kin : P → Kin) (branches : Q → List Branch) where
    abbrev Close : P → SessionState Q → Leaving → P → SessionState Q → Type 0
    Close = Closes fits rules root seen count wants busies adds kin branches

    -- what a close leaves of it
    record IsLeaving (left : Bool) (y : P) (e : End) (accounts : List Account) (link : L) (now : SessionState Q) : Type 0 where
      window : now.parts.window ≡ t.limits.window
      max : now.parts.reader.max ≡ t.limits.max_message
      waited : Option Entry
      gone : HasGone (told link) (counts link) desk e waited (gone_but_kept now.parts)
      stand : AllStand (rules y).limits (known root seen y now.seat) now.seat.visits
      acts : Acting now.parts now.seat
      calls : LeftAs left waited now.parts.calls now.seat.visits now.parts.kept
      own : Owns now.parts.who now.seat.visits now.parts.kept
      fresh : All (λ (a : Account). a.who ≢ now.parts.who) accounts

    leaving_of : (x y : P) (e : End) (accounts : List Account) (s : Seated P L Q) (answer : Leaving) (now : SessionState Q) → s.session.ended ≡ Some e → Close x s.session answer y now → Here x accounts s → IsLeaving (has_left answer) y e accounts s.link now
    leaving_of x y e accounts s answer now is c w =
        let who_is : now.parts.who ≡ s.session.parts.who = ap (λ (g : Gone). g.who) (ap gone_but_kept c.parts) in
        let grown = grows_from (place_of s.session.seat.spot) s.session.parts.who s.session.parts.fed s.session.parts.kept s.session.seat.active s.session.seat.visits answer now.parts.kept now.seat.active now.seat.visits c.leaves in
        let stopped = owes_over (told s.link) (counts s.link) desk s.session.ended e s.session.parts s.session.seat.visits is w.owes in
        record {
          window = ap (λ (g : Gone). g.window) (ap gone_but_kept c.parts) ∙ w.window;
          max = ap (λ (g : Gone). g.max) (ap gone_but_kept c.parts) ∙ w.max;
          waited = stopped.waited;
          gone = subst (HasGone (told s.link) (counts s.link) desk e stopped.waited) (sym (ap gone_but_kept c.parts)) stopped.gone;
          stand = (holds_closed fits rules root seen count wants busies adds kin branches (place_of s.session.seat.spot) x y s.session now answer refl c (holds_of x accounts s w)).calls;
          acts = c.acts (acting_of s.session.ended s.session.parts s.session.seat w.acts);
          calls = subst (λ (l : List Own). LeftAs (has_left answer) stopped.waited l now.seat.visits now.parts.kept) (sym (ap (λ (g : Gone). g.calls) (ap gone_but_kept c.parts)))
              (left_from (place_of s.session.seat.spot) answer stopped.waited s.session.parts.kept s.session.parts.calls s.session.parts.who s.session.parts.fed s.session.seat.active s.session.seat.visits now.parts.kept now.seat.active now.seat.visits c.leaves
              (record { left = stopped.left; calls_are = stopped.calls_are; leaving = stopped.leaving }));
          own = subst (λ (n : ℕ). Owns n now.seat.visits now.parts.kept) (sym who_is) (grown.owns w.own);
          fresh = subst (λ (n : ℕ). All (λ (a : Account). a.who ≢ n) accounts) (sym who_is) w.fresh;
        }

    -- it is still there
    lives_left : (y : P) (e : End) (accounts : List Account) (s' : Seated P L Q) → s'.session.ended ≡ Some e → IsLeaving false y e accounts s'.link s'.session → Here y accounts s'
    lives_left y e accounts s' is l = record {
      window = l.window;
      max = l.max;
      owes = subst (λ (o : Option End). OwesBy (told s'.link) (counts s'.link) desk o s'.session.parts s'.session.seat.visits) (sym is)
          (record { waited = l.waited; gone = l.gone; left = l.calls.left; calls_are = l.calls.calls_are; leaving = l.calls.leaving });
      runs = subst (λ (o : Option End). RunsBy (told s'.link) (counts s'.link) desk o s'.session.parts s'.session.input s'.session.seat.visits) (sym is) tt;
      calls = l.stand;
      acts = subst (λ (o : Option End). ActsBy o s'.session.parts s'.session.seat) (sym is) l.acts;
      own = l.own;
      ties = subst (λ (o : Option End). TiesBy o (told s'.link) s'.session.parts.x s'.session.input s'.session.parts.sent) (sym is) tt;
      fresh = l.fresh;
      unasked = λ o. absurd (let n : Some e ≡ None = sym is ∙ o in cc);
    }

    abbrev account_of : End → List ℕ → SessionState Q → L → Account
    account_of e y now link = record { who = now.parts.who; end = e; link = told_of (told link) (counts link) y now.parts.sent; tells = tells_of (told link) }

    -- it has left, and this is its account
    accounted_of : (y : P) (e : End) (accounts : List Account) (link : L) (now : SessionState Q) → now.seat.spot ≡ None → (l : IsLeaving true y e accounts link now) → Accounted desk t (rules y).limits (root y) (account_of e l.gone.ending.y now link)
    accounted_of y e accounts link now away l =
        let sent = l.gone.sent in
        let by : ℕ → ℕ → List ℕ → ℕ → End → Type 0 = λ window max. IsDecided now.parts.who window desk sent.ms now.parts.calls max in
        let i = is_told_of (by now.parts.window now.parts.reader.max) (told link) (counts link) e now.parts.x now.parts.sent l.gone.ending in
        let link_is = told_of (told link) (counts link) l.gone.ending.y now.parts.sent in
        let here : known root seen y now.seat ≡ root y = ap (λ (o : Option (ℕ × Q)). known root seen y (record { spot = o; active = now.seat.active; visits = now.seat.visits })) away in
        record {
          x = now.parts.x;
          fed = i.fed;
          ms = sent.ms;
          read = subst (λ (m : ℕ). IsRead m (drop hand_bytes now.parts.x) sent.ms) l.max sent.read;
          visits = now.seat.visits;
          stand = subst (λ (h : Histories). AllStand (rules y).limits h now.seat.visits) here l.stand;
          own = l.own.made;
          acts = l.acts.acts;
          calls = now.parts.calls;
          waited = l.waited;
          talks = subst (λ (k : ℕ). Talks (session now.parts.who k desk) (count_of (session now.parts.who k desk) now.parts.x) sent.ms now.parts.calls l.waited) l.window sent.talks;
          left = l.calls.left;
          calls_are = l.calls.calls_are;
          left_by = l.calls.left_by;
          owed = subst (λ (b : List ℕ). Begins b (out (session now.parts.who t.limits.window desk) now.parts.x sent.ms now.parts.calls)) (sym i.took)
              (subst (λ (k : ℕ). Begins now.parts.sent (out (session now.parts.who k desk) now.parts.x sent.ms now.parts.calls)) l.window sent.owed);
          cause = subst (λ (m : ℕ). IsCause (by t.limits.window m) link_is.counts link_is.gave (length now.parts.x) e) l.max
              (subst (λ (k : ℕ). IsCause (by k now.parts.reader.max) link_is.counts link_is.gave (length now.parts.x) e) l.window i.cause);
          ran = λ tells.
              let r = l.gone.ran in
              record {
                last = r.last;
                link = wire (told link) (counts link);
                came = subst (λ (m : ℕ). HasRunOut desk now.parts.who t.limits.window m e r.last (wire (told link) (counts link))) l.max
                    (subst (λ (k : ℕ). HasRunOut desk now.parts.who k now.parts.reader.max e r.last (wire (told link) (counts link))) l.window r.came);
                fed = ap (λ (g : Gone). g.x) r.gone;
                called = ap (λ (g : Gone). g.calls) r.gone;
                waits = r.waits;
                told = returned_of (told link) (counts link) l.gone.ending.y now.parts.sent tells;
              };
        }

accounted_on : (desk : Ask → Grant) (t : Terms) (limits limits' : ℕ → Shape) (h h' : Histories) (a : Account) → limits' ≡ limits → GoOn h h' → Accounted desk t limits h a → Accounted desk t limits' h' a
accounted_on desk t limits limits' h h' a same g w = record {
  x = w.x;
  fed = w.fed;
  ms = w.ms;
  read = w.read;
  visits = w.visits;
  stand = subst (λ (l : ℕ → Shape). AllStand l h' w.visits) (sym same) (all_later limits h h' w.visits g w.stand);
  own = w.own;
  acts = w.acts;
  calls = w.calls;
  waited = w.waited;
  talks = w.talks;
  left = w.left;
  calls_are = w.calls_are;
  left_by = w.left_by;
  owed = w.owed;
  cause = w.cause;
  ran = w.ran;
}

-- what is left of the books, where the histories went on
pub settled_later : (desk : Ask → Grant) (t : Terms) (limits : ℕ → Shape) (h h' : Histories) (door : DoorTold) (refused worn : Bool) → GoOn h h' → Settled desk t limits h door refused worn → Settled desk t limits h' door refused worn
settled_later desk t limits h h' door refused worn g w = record {
  accounts = w.accounts;
  back_is = w.back_is;
  telling = w.telling;
  accounted = λ i d le. accounted_on desk t limits limits h h' (get_or w.accounts i d) refl g (w.accounted i d le);
  named = w.named;
  apart = w.apart;
  counted = w.counted;
  few = w.few;
  spared = w.spared;
  unworn = w.unworn;
}

-- ---- the whole

-- a list of accounts at a port whose histories went on
all_on : (desk : Ask → Grant) (t : Terms) (r r' : PortRules) (h h' : Histories) (accounts : List Account) → r' ≡ r → GoOn h h' → All (Accounted desk t r.limits h) accounts → All (Accounted desk t r'.limits h') accounts
all_on desk t r r' h h' accounts same g all i d le = accounted_on desk t r.limits r'.limits h h' (get_or accounts i d) (ap (λ (x : PortRules). x.limits) same) g (all i d le)

module _ {P D Q L : Type 0} (rules : P → PortRules) (root : P → Histories) (seen : Q → List Step) (told : L → Option LinkTold) (counts : L → LinkCounts) (doors : D → DoorTold) (desk : Ask → Grant) (t : Terms) where
  abbrev Keeps : Bench P D Q L → Type 0
  Keeps b = Works rules root seen told counts doors desk t b

  -- the books, and that each session has a name of its own, which it was given
  pub record Kept (b : Bench P D Q L) : Type 0 where
    pub works : Keeps b
    pub named : (key : ℕ) (s : Seated P L Q) → get b.sessions key ≡ Some s → IsNamed t.number b.had s.session.parts.who
    pub single : Single b.sessions

  -- the port alone, or what the books say nothing of
  kept_same : (b b' : Bench P D Q L) → b'.sessions ≡ b.sessions → (doors b'.door).back ≡ (doors b.door).back → b'.had ≡ b.had → (b'.refused ≡ false → b.refused ≡ false) → b'.worn ≡ b.worn → rules b'.port ≡ rules b.port → GoOn (root b.port) (root b'.port) → Kept b → Kept b'
  kept_same b b' same back had spared worn fixed g k =
      let w = k.works in
      record {
        works = record {
          accounts = w.accounts;
          back_is = λ list is. w.back_is list (sym back ∙ is);
          telling = λ list is. w.telling list (sym back ∙ is);
          accounted = all_on desk t (rules b.port) (rules b'.port) (root b.port) (root b'.port) w.accounts fixed g w.accounted;
          named = subst (λ (n : ℕ). All (λ (a : Account). IsNamed t.number n a.who) w.accounts) (sym had) w.named;
          apart = w.apart;
          lives = λ key s at. lives_on rules root seen told counts desk t b.port b'.port w.accounts s fixed g (w.lives key s (sym (ap (λ (l : Slab (Seated P L Q)). get l key) same) ∙ at));
          counted = λ r. ap (λ (l : Slab (Seated P L Q)). slab_len l + length w.accounts) same ∙ (w.counted (spared r) ∙ sym had);
          few = λ r. w.few (spared r);
          near = λ r key s at. w.near (spared r) key s (sym (ap (λ (l : Slab (Seated P L Q)). get l key) same) ∙ at);
          spared = λ r. w.spared (spared r);
          unspent = λ r key s at. w.unspent (spared r) key s (sym (ap (λ (l : Slab (Seated P L Q)). get l key) same) ∙ at);
          unworn = λ r. w.unworn (sym worn ∙ r);
          unfilled = λ r key s at. w.unfilled (sym worn ∙ r) key s (sym (ap (λ (l : Slab (Seated P L Q)). get l key) same) ∙ at);
        };
        named = λ key s at. subst (λ (n : ℕ). IsNamed t.number n s.session.parts.who) (sym had) (k.named key s (sym (ap (λ (l : Slab (Seated P L Q)). get l key) same) ∙ at));
        single = subst Single (sym same) k.single;
      }

  -- a link came
  kept_more : (b b' : Bench P D Q L) (key : ℕ) (s' : Seated P L Q) → IsNewSession t b.had s'.session → IsNewLink (told s'.link) (counts s'.link) → Updates b.sessions b'.sessions key (Some s') → slab_len b'.sessions ≡ slab_len b.sessions + 1
      → (doors b'.door).back ≡ (doors b.door).back → b'.had ≡ b.had + 1 → b'.refused ≡ b.refused → b'.worn ≡ b.worn → b'.port ≡ b.port → slab_len b.sessions < t.links → Kept b → Kept b'
  kept_more b b' key s' n l u len back had refused worn port room k =
      let w = k.works in
      let at_port : (s : Seated P L Q) → Lives rules root seen told counts desk t b.port w.accounts s → Lives rules root seen told counts desk t b'.port w.accounts s = λ s. subst (λ (p : P). Lives rules root seen told counts desk t p w.accounts s) (sym port) in
      record {
        works = record {
          accounts = w.accounts;
          back_is = λ list is. w.back_is list (sym back ∙ is);
          telling = λ list is. w.telling list (sym back ∙ is);
          accounted = subst (λ (p : P). All (Accounted desk t (rules p).limits (root p)) w.accounts) (sym port) w.accounted;
          named = λ i d le. subst (λ (m : ℕ). IsNamed t.number m (get_or w.accounts i d).who) (sym had) (named_more t.number b.had (get_or w.accounts i d).who (w.named i d le));
          apart = w.apart;
          lives = λ j s at. elim (put_cases b.sessions b'.sessions key s' u j s at) [
            | inl e ↦ at_port s (subst (λ (x : Seated P L Q). Lives rules root seen told counts desk t b.port w.accounts x) (sym e.1) (lives_new rules root seen told counts desk t b.port b.had w.accounts s' n l w.named))
            | inr e ↦ at_port s (w.lives j s e.1)
          ];
          counted = λ r. let c = w.counted (sym refused ∙ r) in omega (arith, c, len, had);
          few = λ r. w.few (sym refused ∙ r);
          near = λ r j s at. elim (put_cases b.sessions b'.sessions key s' u j s at) [
            | inl e ↦ subst (λ (x : Seated P L Q). IsBackAfter t (length w.accounts) x.session.parts.who) (sym e.1) (let c = w.counted (sym refused ∙ r) in let m = n.who in omega (arith, c, m, room))
            | inr e ↦ w.near (sym refused ∙ r) j s e.1
          ];
          spared = λ r. w.spared (sym refused ∙ r);
          unspent = λ r j s at. elim (put_cases b.sessions b'.sessions key s' u j s at) [
            | inl e ↦ λ is. let m : None ≡ Some end.OutOfMemory = sym n.lives ∙ (ap (λ (x : Seated P L Q). x.session.ended) (sym e.1) ∙ is) in cc
            | inr e ↦ w.unspent (sym refused ∙ r) j s e.1
          ];
          unworn = λ r. w.unworn (sym worn ∙ r);
          unfilled = λ r j s at. elim (put_cases b.sessions b'.sessions key s' u j s at) [
            | inl e ↦ λ is. let m : None ≡ Some end.Worn = sym n.lives ∙ (ap (λ (x : Seated P L Q). x.session.ended) (sym e.1) ∙ is) in cc
            | inr e ↦ w.unfilled (sym worn ∙ r) j s e.1
          ];
        };
        named = λ j s at. subst (λ (m : ℕ). IsNamed t.number m s.session.parts.who) (sym had) (elim (put_cases b.sessions b'.sessions key s' u j s at) [
          | inl e ↦ subst (λ (x : Seated P L Q). IsNamed t.number (b.had + 1) x.session.parts.who) (sym e.1) (record { from = let m = n.who in omega (arith, m); to = let m = n.who in omega (arith, m) })
          | inr e ↦ named_more t.number b.had s.session.parts.who (k.named j s e.1)
        ]);
        single = single_more t.number b.had b.sessions b'.sessions key s' u n.who k.named k.single;
      }

  -- a session at its key is another, of the same name
  kept_put : (b b' : Bench P D Q L) (key : ℕ) (s s' : Seated P L Q) → get b.sessions key ≡ Some s → Updates b.sessions b'.sessions key (Some s') → slab_len b'.sessions ≡ slab_len b.sessions → (doors b'.door).back ≡ (doors b.door).back → b'.had ≡ b.had
      → (b'.refused ≡ false → b.refused ≡ false) → (b'.worn ≡ false → b.worn ≡ false) → rules b'.port ≡ rules b.port → GoOn (root b.port) (root b'.port) → s'.session.parts.who ≡ s.session.parts.who → (k : Kept b) → Lives rules root seen told counts desk t b'.port k.works.accounts s'
      → (b'.refused ≡ false → s'.session.ended ≢ Some end.OutOfMemory) → (b'.worn ≡ false → s'.session.ended ≢ Some end.Worn) → Kept b'
  kept_put b b' key s s' here u len back had spared worn fixed g who k there unspent unfilled =
      let w = k.works in
      record {
        works = record {
          accounts = w.accounts;
          back_is = λ list is. w.back_is list (sym back ∙ is);
          telling = λ list is. w.telling list (sym back ∙ is);
          accounted = all_on desk t (rules b.port) (rules b'.port) (root b.port) (root b'.port) w.accounts fixed g w.accounted;
          named = subst (λ (n : ℕ). All (λ (a : Account). IsNamed t.number n a.who) w.accounts) (sym had) w.named;
          apart = w.apart;
          lives = λ j x at. elim (put_cases b.sessions b'.sessions key s' u j x at) [
            | inl e ↦ subst (λ (y : Seated P L Q). Lives rules root seen told counts desk t b'.port w.accounts y) (sym e.1) there
            | inr e ↦ lives_on rules root seen told counts desk t b.port b'.port w.accounts x fixed g (w.lives j x e.1)
          ];
          counted = λ r. ap (λ (n : ℕ). n + length w.accounts) len ∙ (w.counted (spared r) ∙ sym had);
          few = λ r. w.few (spared r);
          near = λ r j x at. elim (put_cases b.sessions b'.sessions key s' u j x at) [
            | inl e ↦ subst (λ (y : Seated P L Q). IsBackAfter t (length w.accounts) y.session.parts.who) (sym e.1) (subst (IsBackAfter t (length w.accounts)) (sym who) (w.near (spared r) key s here))
            | inr e ↦ w.near (spared r) j x e.1
          ];
          spared = λ r. w.spared (spared r);
          unspent = λ r j x at. elim (put_cases b.sessions b'.sessions key s' u j x at) [
            | inl e ↦ subst (λ (y : Seated P L Q). y.session.ended ≢ Some end.OutOfMemory) (sym e.1) (unspent r)
            | inr e ↦ w.unspent (spared r) j x e.1
          ];
          unworn = λ r. w.unworn (worn r);
          unfilled = λ r j x at. elim (put_cases b.sessions b'.sessions key s' u j x at) [
            | inl e ↦ subst (λ (y : Seated P L Q). y.session.ended ≢ Some end.Worn) (sym e.1) (unfilled r)
            | inr e ↦ w.unfilled (worn r) j x e.1
          ];
        };
        named = λ j x at. subst (λ (n : ℕ). IsNamed t.number n x.session.parts.who) (sym had) (elim (put_cases b.sessions b'.sessions key s' u j x at) [
          | inl e ↦ subst (λ (y : Seated P L Q). IsNamed t.number b.had y.session.parts.who) (sym e.1) (subst (IsNamed t.number b.had) (sym who) (k.named key s here))
          | inr e ↦ k.named j x e.1
        ]);
        single = single_put b.sessions b'.sessions key s s' here u who k.single;
      }

  -- the sessions that are left where one is gone
  module _ (b b' : Bench P D Q L) (key : ℕ) (s : Seated P L Q) (here : get b.sessions key ≡ Some s) (u : Updates b.sessions b'.sessions key None) (fixed : rules b'.port ≡ rules b.port) (g : GoOn (root b.port) (root b'.port)) (had : b'.had ≡ b.had) (worn : b'.worn ≡ b.worn) (k : Kept b) where
    lives_else : (j : ℕ) (x : Seated P L Q) → get b'.sessions j ≡ Some x → Lives rules root seen told counts desk t b'.port k.works.accounts x
    lives_else j x at = lives_on rules root seen told counts desk t b.port b'.port k.works.accounts x fixed g (k.works.lives j x (gone_cases b.sessions b'.sessions key u j x at).1)

    named_else : (j : ℕ) (x : Seated P L Q) → get b'.sessions j ≡ Some x → IsNamed t.number b'.had x.session.parts.who
    named_else j x at = subst (λ (n : ℕ). IsNamed t.number n x.session.parts.who) (sym had) (k.named j x (gone_cases b.sessions b'.sessions key u j x at).1)

    -- another has another name
    name_else : (j : ℕ) (x : Seated P L Q) → get b'.sessions j ≡ Some x → s.session.parts.who ≢ x.session.parts.who
    name_else j x at e =
        let c = gone_cases b.sessions b'.sessions key u j x at in
        c.0 (sym (k.single key j s x here c.1 e))

    -- its link is dropped
    kept_dropped : (doors b'.door).back ≡ (doors b.door).back → b'.refused ≡ true → Kept b'
    kept_dropped back refused =
        let w = k.works in
        record {
          works = record {
            accounts = w.accounts;
            back_is = λ list is. w.back_is list (sym back ∙ is);
            telling = λ list is. w.telling list (sym back ∙ is);
            accounted = all_on desk t (rules b.port) (rules b'.port) (root b.port) (root b'.port) w.accounts fixed g w.accounted;
            named = subst (λ (n : ℕ). All (λ (a : Account). IsNamed t.number n a.who) w.accounts) (sym had) w.named;
            apart = w.apart;
            lives = lives_else;
            counted = λ r. absurd (let n : true ≡ false = sym refused ∙ r in cc);
            few = λ r. absurd (let n : true ≡ false = sym refused ∙ r in cc);
            near = λ r. absurd (let n : true ≡ false = sym refused ∙ r in cc);
            spared = λ r. absurd (let n : true ≡ false = sym refused ∙ r in cc);
            unspent = λ r. absurd (let n : true ≡ false = sym refused ∙ r in cc);
            unworn = λ r. w.unworn (sym worn ∙ r);
            unfilled = λ r j y at. w.unfilled (sym worn ∙ r) j y (gone_cases b.sessions b'.sessions key u j y at).1;
          };
          named = named_else;
          single = single_gone b.sessions b'.sessions key u k.single;
        }

    -- its link is handed back, and this is its account
    kept_back : (a : Account) (x sent : List ℕ) → a.who ≡ s.session.parts.who → a.link ≡ told_of (told s.link) (counts s.link) x sent → a.tells ≡ tells_of (told s.link) → Accounted desk t (rules b'.port).limits (root b'.port) a → slab_len b'.sessions + 1 ≡ slab_len b.sessions
        → (doors b'.door).back ≡ with_one (doors b.door).back (returned (told s.link) (counts s.link)) → (b'.refused ≡ false → b.refused ≡ false) → All (λ (c : Account). c.who ≢ a.who) k.works.accounts
        → s.session.ended ≡ Some a.end → Kept b'
    kept_back a x sent who link tells good len back spared fresh ended =
        let w = k.works in
        let name : IsNamed t.number b.had a.who = subst (IsNamed t.number b.had) (sym who) (k.named key s here) in
        record {
          works = record {
            accounts = w.accounts ++ a ∷ [];
            back_is = λ list is. one_back (doors b.door).back (told s.link) (counts s.link) x sent w.accounts a link w.back_is list (sym back ∙ is);
            telling = λ list is. one_telling (doors b.door).back (told s.link) (counts s.link) w.accounts a tells w.telling list (sym back ∙ is);
            accounted = All-push (Accounted desk t (rules b'.port).limits (root b'.port)) w.accounts a (all_on desk t (rules b.port) (rules b'.port) (root b.port) (root b'.port) w.accounts fixed g w.accounted) good;
            named = subst (λ (n : ℕ). All (λ (c : Account). IsNamed t.number n c.who) (w.accounts ++ a ∷ [])) (sym had) (All-push (λ (c : Account). IsNamed t.number b.had c.who) w.accounts a w.named name);
            apart = all_pairs_push (λ (c d : Account). c.who ≢ d.who) w.accounts a w.apart (λ i d le. fresh i d le);
            lives = λ j y at. lives_more rules root seen told counts desk t b'.port w.accounts a y (subst (λ (n : ℕ). n ≢ y.session.parts.who) (sym who) (name_else j y at)) (lives_else j y at);
            counted = λ r. let c = w.counted (spared r) in let p = length_push w.accounts a in omega (arith, c, p, len, had);
            few = λ r. each_push (λ i (c : Account). IsBackAfter t i c.who) w.accounts a (w.few (spared r)) (subst (IsBackAfter t (length w.accounts)) (sym who) (w.near (spared r) key s here));
            near = λ r j y at. let c = w.near (spared r) j y (gone_cases b.sessions b'.sessions key u j y at).1 in let p = length_push w.accounts a in omega (arith, c, p);
            spared = λ r. All-push (λ (c : Account). c.end ≢ end.OutOfMemory) w.accounts a (w.spared (spared r))
                (λ is. w.unspent (spared r) key s here (ended ∙ ap (λ (e : End). Some e) is));
            unspent = λ r j y at. w.unspent (spared r) j y (gone_cases b.sessions b'.sessions key u j y at).1;
            unworn = λ r. All-push (λ (c : Account). c.end ≢ end.Worn) w.accounts a (w.unworn (sym worn ∙ r))
                (λ is. w.unfilled (sym worn ∙ r) key s here (ended ∙ ap (λ (e : End). Some e) is));
            unfilled = λ r j y at. w.unfilled (sym worn ∙ r) j y (gone_cases b.sessions b'.sessions key u j y at).1;
          };
          named = named_else;
          single = single_gone b.sessions b'.sessions key u k.single;
        }

  -- ---- the first books, and the last

  pub first_books : (b : Bench P D Q L) → IsNewDoor (doors b.door) → b.sessions.slots ≡ [] → b.had ≡ 0 → Keeps b
  first_books b d empty had = record {
    accounts = [];
    back_is = λ list is. d.blank list is;
    telling = λ list is i x le. absurd (omega (arith, le));
    accounted = λ i x le. absurd (omega (arith, le));
    named = λ i x le. absurd (omega (arith, le));
    apart = λ i j x lt le. absurd (omega (arith, le));
    lives = λ key s at. absurd (let n : None ≡ Some s = sym (ap (λ (l : List (Option (Seated P L Q))). get_or l key None) empty) ∙ at in cc);
    counted = λ r. let z : slab_len b.sessions ≡ 0 = ap (count_by is_some) empty in omega (arith, z, had);
    few = λ r. each_none (λ i (c : Account). IsBackAfter t i c.who);
    near = λ r key s at. absurd (let n : None ≡ Some s = sym (ap (λ (l : List (Option (Seated P L Q))). get_or l key None) empty) ∙ at in cc);
    spared = λ r i x le. absurd (omega (arith, le));
    unspent = λ r key s at. absurd (let n : None ≡ Some s = sym (ap (λ (l : List (Option (Seated P L Q))). get_or l key None) empty) ∙ at in cc);
    unworn = λ r i x le. absurd (omega (arith, le));
    unfilled = λ r key s at. absurd (let n : None ≡ Some s = sym (ap (λ (l : List (Option (Seated P L Q))). get_or l key None) empty) ∙ at in cc);
  }

  pub settles : (fits : P → ℕ → Q → Type 0) (b : Bench P D Q L) → IsSound fits rules doors t b → slab_len b.sessions ≡ 0 → Keeps b → Settled desk t (rules b.port).limits (root b.port) (doors b.door) b.refused b.worn
  settles fits b s none w = record {
    accounts = w.accounts;
    back_is = w.back_is;
    telling = w.telling;
    accounted = w.accounted;
    named = subst (λ (n : ℕ). All (λ (a : Account). IsNamed t.number n a.who) w.accounts) (sym s.given) w.named;
    apart = w.apart;
    counted = λ r. let c = w.counted r in let e = s.given in omega (arith, c, none, e);
    few = w.few;
    spared = w.spared;
    unworn = w.unworn;
  }

  -- the recorders alone have made calls
  pub readied_works : (fits : P → ℕ → Q → Type 0) (b b' : Bench P D Q L) → IsSound fits rules doors t b → IsReadied b b' → rules b'.port ≡ rules b.port → GoOn (root b.port) (root b'.port) → Keeps b → Keeps b'
  readied_works fits b b' s i fixed g works =
      (kept_same b b' (ap (λ (x : Bench P D Q L). x.sessions) i.same) (ap (λ (x : Bench P D Q L). (doors x.door).back) i.same) (ap (λ (x : Bench P D Q L). x.had) i.same) i.refused (ap (λ (x : Bench P D Q L). x.worn) i.same) fixed g
      (record { works = works; named = λ key u at. (s.seated key u at).named; single = s.single })).works

  -- ---- the door

  kept_admitted : (link : L) (b b' : Bench P D Q L) → IsNewLink (told link) (counts link) → (doors b'.door).back ≡ (doors b.door).back → IsAdmitted t link b b' → slab_len b.sessions < t.links → Kept b → Kept b'
  kept_admitted link b b' new back a room k =
      kept_more b b' a.key (record { session = a.came; link = link; over = false; asked = None; due = true; stream = None; pushes = 0 }) a.new new a.there a.count back (ap (λ (x : Bench P D Q L). x.had) a.same) (ap (λ (x : Bench P D Q L). x.refused) a.same) (ap (λ (x : Bench P D Q L). x.worn) a.same) (ap (λ (x : Bench P D Q L). x.port) a.same) room k

  kept_at : (b b' : Bench P D Q L) → b'.sessions ≡ b.sessions → (doors b'.door).back ≡ (doors b.door).back → b'.had ≡ b.had → b'.refused ≡ b.refused → b'.worn ≡ b.worn → b'.port ≡ b.port → Kept b → Kept b'
  kept_at b b' same back had refused worn port k =
      kept_same b b' same back had (λ r. sym refused ∙ r) worn (ap rules port) (subst (λ (p : P). GoOn (root b.port) (root p)) (sym port) (record { at_each = λ q. begins_same (root b.port q) (root b.port q) refl })) k

  kept_door : (b b' : Bench P D Q L) (c : Bool) → (doors b'.door).back ≡ (doors b.door).back → b' ≡ record b { door = b'.door; closed = c } → Kept b → Kept b'
  kept_door b b' c back same k = kept_at b b' (ap (λ (x : Bench P D Q L). x.sessions) same) back (ap (λ (x : Bench P D Q L). x.had) same) (ap (λ (x : Bench P D Q L). x.refused) same) (ap (λ (x : Bench P D Q L). x.worn) same) (ap (λ (x : Bench P D Q L). x.port) same) k

  kept_admits : (n : Knock L) (b b' : Bench P D Q L) → Knocks told counts (doors b.door) (doors b'.door) n → Admits t n b b' → slab_len b.sessions < t.links → Kept b → Kept b'
  kept_admits (knock.Link link) b b' d a room k = kept_admitted link b b' d.2 (ap (λ (x : DoorTold). x.back) d.1) a room k
  kept_admits knock.NotYet b b' d a room k = kept_door b b' b.closed (ap (λ (x : DoorTold). x.back) d.1) a k
  kept_admits knock.Closed b b' d a room k = kept_door b b' true (ap (λ (x : DoorTold). x.back) d) a k
  kept_admits knock.Failed b b' d a room k = kept_door b b' b.closed (ap (λ (x : DoorTold). x.back) d.1) a k

  kept_admits_if : (asked : Bool) (b b' : Bench P D Q L) → AdmitsIf told counts doors t asked b b' → (asked ≡ true → slab_len b.sessions < t.links) → Kept b → Kept b'
  kept_admits_if false b b' a room k = subst Kept (sym a) k
  kept_admits_if true b b' a room k = kept_admits a.0 b b' a.1.0 a.1.1 (room refl) k

  -- ---- turns and closes

  module _ (fits : P → ℕ → Q → Type 0) (count : Q → ℕ) (wants : Entry → Type 0) (busies : P → ℕ) (adds : List Step → List Step → List Step → Type 0) (kin : P → Kin) (branches : Q → List Branch) where
    module _ (hears : L → ℕ → Came → L → Type 0) (hears_mean : (l : L) (room : ℕ) (answer : Came) (m : L) → 0 < room → hears l room answer m → HearStep room (told l) (told m) (counts l) (counts m) answer)
        (says : L → List ℕ → Said → L → Type 0) (says_mean : (l : L) (piece : List ℕ) (answer : Said) (m : L) → 0 < length piece → says l piece answer m → SayStep piece (told l) (told m) (counts l) (counts m) answer) (decided : Deciding) (refused : P → ℕ) (ready : L → Bool → Type 0) where
      abbrev Turned : P → Seated P L Q → Turn → P → Seated P L Q → Type 0
      Turned = TakesTurn (AskedAlone fits rules root seen count wants busies adds kin branches) (GoesOn fits rules root seen busies) desk hears says

      kept_turned : (key : ℕ) (s : Seated P L Q) (b b' : Bench P D Q L) → get b.sessions key ≡ Some s → s.session.ended ≡ None → IsTurned Turned refused key s b b' → Kept b → Kept b'
      kept_turned key s b b' here n i k =
          kept_put b b' key s i.now here i.there i.count (ap (λ (x : Bench P D Q L). (doors x.door).back) i.same) (ap (λ (x : Bench P D Q L). x.had) i.same)
          (λ r. or_first b.refused _ (sym (ap (λ (x : Bench P D Q L). x.refused) i.same) ∙ r)) (λ r. or_first b.worn _ (sym (ap (λ (x : Bench P D Q L). x.worn) i.same) ∙ r)) i.turn.goes_on.fixed i.turn.goes_on.roots i.turn.who k
          (lives_turned rules root seen told counts desk t fits count wants busies adds kin branches (GoesOn fits rules root seen busies) hears hears_mean says says_mean decided b.port b'.port k.works.accounts s i.now i.answer n i.turn (k.works.lives key s here))
          (λ r. subst (λ (o : Option End). o ≢ Some end.OutOfMemory) (sym i.turn.ended) (unspent_by i.answer (or_last b.refused _ (sym (ap (λ (x : Bench P D Q L). x.refused) i.same) ∙ r))))
          (λ r. subst (λ (o : Option End). o ≢ Some end.Worn) (sym i.turn.ended) (unfilled_by i.answer (or_last b.worn _ (sym (ap (λ (x : Bench P D Q L). x.worn) i.same) ∙ r))))

      kept_turns_by : (o : Option End) (key : ℕ) (s : Seated P L Q) (b b' : Bench P D Q L) → get b.sessions key ≡ Some s → s.session.ended ≡ o → TurnsBy Turned refused ready o key s b b' → Kept b → Kept b'
      kept_turns_by None key s b b' here n (inl i) k = kept_turned key s b b' here n i k
      kept_turns_by None key s b b' here n (inr i) k = subst Kept (sym i.same) k
      kept_turns_by (Some e) key s b b' here n i k = subst Kept (sym i) k

      kept_turns_if : (o : Option (Seated P L Q)) (key : ℕ) (b b' : Bench P D Q L) → get b.sessions key ≡ o → TurnsIf Turned refused ready o key b b' → Kept b → Kept b'
      kept_turns_if None key b b' here i k = subst Kept (sym i) k
      kept_turns_if (Some s) key b b' here i k = kept_turns_by s.session.ended key s b b' here refl i k

      pub kept_turns_at : (key : ℕ) (b b' : Bench P D Q L) → TurnsAt Turned refused ready key b b' → Kept b → Kept b'
      kept_turns_at key b b' i k = kept_turns_if (get b.sessions key) key b b' refl i k

    abbrev Ends : P → SessionState Q → Leaving → P → SessionState Q → Type 0
    Ends = Closes fits rules root seen count wants busies adds kin branches

    kept_gone : (key : ℕ) (s : Seated P L Q) (e : End) (answer : Leaving) (now : SessionState Q) (b b' : Bench P D Q L) → get b.sessions key ≡ Some s → s.session.ended ≡ Some e → has_left answer ≡ true → Ends b.port s.session answer b'.port now
        → IsGone told counts doors key s b b' → Kept b → Kept b'
    kept_gone key s e answer now b b' here n left c i k =
        let w = k.works in
        let l = subst (λ (x : Bool). IsLeaving rules root seen told counts desk t fits count wants busies adds kin branches x b'.port e w.accounts s.link now) left
        (leaving_of rules root seen told counts desk t fits count wants busies adds kin branches b.port b'.port e w.accounts s answer now n c (w.lives key s here)) in
        let away = nowhere now.seat.spot (c.spot ∙ left_nowhere answer (place_of s.session.seat.spot) left) in
        elim i.back [
          | inl h ↦ kept_back b b' key s here i.gone c.fixed c.roots (ap (λ (x : Bench P D Q L). x.had) h.1) (ap (λ (x : Bench P D Q L). x.worn) h.1) k (record { who = now.parts.who; end = e; link = told_of (told s.link) (counts s.link) l.gone.ending.y now.parts.sent; tells = tells_of (told s.link) }) l.gone.ending.y now.parts.sent
              (ap (λ (g : Gone). g.who) (ap gone_but_kept c.parts)) refl refl (accounted_of rules root seen told counts desk t fits count wants busies adds kin branches b'.port e w.accounts s.link now away l) i.count (ap (λ (x : DoorTold). x.back) h.0)
              (λ r. sym (ap (λ (x : Bench P D Q L). x.refused) h.1) ∙ r) l.fresh n
          | inr h ↦ kept_dropped b b' key s here i.gone c.fixed c.roots (ap (λ (x : Bench P D Q L). x.had) h.1) (ap (λ (x : Bench P D Q L). x.worn) h.1) k (ap (λ (x : DoorTold). x.back) h.0) (ap (λ (x : Bench P D Q L). x.refused) h.1)
        ]

    kept_left : (key : ℕ) (s : Seated P L Q) (e : End) (answer : Leaving) (now : SessionState Q) (b b' : Bench P D Q L) → get b.sessions key ≡ Some s → s.session.ended ≡ Some e → has_left answer ≡ false → Ends b.port s.session answer b'.port now
        → IsLeft told counts doors key s now b b' → Kept b → Kept b'
    kept_left key s e answer now b b' here n stays c i k =
        let w = k.works in
        let l = subst (λ (x : Bool). IsLeaving rules root seen told counts desk t fits count wants busies adds kin branches x b'.port e w.accounts s.link now) stays
        (leaving_of rules root seen told counts desk t fits count wants busies adds kin branches b.port b'.port e w.accounts s answer now n c (w.lives key s here)) in
        kept_put b b' key s (record s { session = now; over = true }) here i.there i.count (ap (λ (x : Bench P D Q L). (doors x.door).back) i.same) (ap (λ (x : Bench P D Q L). x.had) i.same)
        (λ r. sym (ap (λ (x : Bench P D Q L). x.refused) i.same) ∙ r) (λ r. sym (ap (λ (x : Bench P D Q L). x.worn) i.same) ∙ r) c.fixed c.roots (ap (λ (g : Gone). g.who) (ap gone_but_kept c.parts)) k
        (lives_left rules root seen told counts desk t fits count wants busies adds kin branches b'.port e w.accounts (record s { session = now; over = true }) (c.ended ∙ ap (λ (o : Option End). Some (end_or_quit o)) n) l)
        (λ r. subst (λ (o : Option End). o ≢ Some end.OutOfMemory) (n ∙ sym (c.ended ∙ ap (λ (o : Option End). Some (end_or_quit o)) n))
        (w.unspent (sym (ap (λ (x : Bench P D Q L). x.refused) i.same) ∙ r) key s here))
        (λ r. subst (λ (o : Option End). o ≢ Some end.Worn) (n ∙ sym (c.ended ∙ ap (λ (o : Option End). Some (end_or_quit o)) n))
        (w.unfilled (sym (ap (λ (x : Bench P D Q L). x.worn) i.same) ∙ r) key s here))

    kept_goes : (x : Bool) (key : ℕ) (s : Seated P L Q) (e : End) (answer : Leaving) (now : SessionState Q) (b b' : Bench P D Q L) → has_left answer ≡ x → get b.sessions key ≡ Some s → s.session.ended ≡ Some e → Ends b.port s.session answer b'.port now
        → GoesIf told counts doors x key s now b b' → Kept b → Kept b'
    kept_goes true key s e answer now b b' is here n c i k = kept_gone key s e answer now b b' here n is c i k
    kept_goes false key s e answer now b b' is here n c i k = kept_left key s e answer now b b' here n is c i k

    kept_closes_by : (o : Option End) (key : ℕ) (s : Seated P L Q) (b b' : Bench P D Q L) → get b.sessions key ≡ Some s → s.session.ended ≡ o → ClosesBy told counts doors Ends o key s b b' → Kept b → Kept b'
    kept_closes_by None key s b b' here n i k = subst Kept (sym i) k
    kept_closes_by (Some e) key s b b' here n i k = kept_goes (has_left i.answer) key s e i.answer i.now b b' refl here n i.close i.goes k

    kept_closes_if : (o : Option (Seated P L Q)) (key : ℕ) (b b' : Bench P D Q L) → get b.sessions key ≡ o → ClosesIf told counts doors Ends o key b b' → Kept b → Kept b'
    kept_closes_if None key b b' here i k = subst Kept (sym i) k
    kept_closes_if (Some s) key b b' here i k = kept_closes_by s.session.ended key s b b' here refl i k

    pub kept_closes_at : (key : ℕ) (b b' : Bench P D Q L) → ClosesAt told counts doors Ends key b b' → Kept b → Kept b'
    kept_closes_at key b b' i k = kept_closes_if (get b.sessions key) key b b' refl i k

    -- ---- recorders, and a round

    module _ {K : Type 0} (files : P → Recorder P K Q → RecTurn → P → Recorder P K Q → Type 0) (serves : (x : P) (r : Recorder P K Q) (a : RecTurn) (y : P) (r' : Recorder P K Q) → files x r a y r' → (rules y ≡ rules x) × GoOn (root x) (root y)) where
      kept_recorded : (r r' : Recorder P K Q) (b b' : Bench P D Q L) → Recorded files r b r' b' → Kept b → Kept b'
      kept_recorded r r' b b' i k =
          let g = serves b.port r i.answer b'.port r' i.turn in
          kept_same b b' (ap (λ (x : Bench P D Q L). x.sessions) i.same) (ap (λ (x : Bench P D Q L). (doors x.door).back) i.same) (ap (λ (x : Bench P D Q L). x.had) i.same)
          (λ e. or_first b.refused _ (sym (ap (λ (x : Bench P D Q L). x.refused) i.same) ∙ e)) (ap (λ (x : Bench P D Q L). x.worn) i.same) g.0 g.1 k

      kept_records_if : (o : Option (Recorder P K Q)) (i : ℕ) (x x' : Bench P D Q L × List (Recorder P K Q)) → RecordsIf files o i x x' → Kept x.0 → Kept x'.0
      kept_records_if None i x x' e k = subst (λ (y : Bench P D Q L × List (Recorder P K Q)). Kept y.0) (sym e) k
      kept_records_if (Some r) i x x' e k = kept_recorded r e.now x.0 x'.0 e.turn k

      kept_records_at : (i : ℕ) (x x' : Bench P D Q L × List (Recorder P K Q)) → RecordsAt files i x x' → Kept x.0 → Kept x'.0
      kept_records_at i x x' e k = kept_records_if (slice_get x.1 i) i x x' e k

      module _ (hears : L → ℕ → Came → L → Type 0) (hears_mean : (l : L) (room : ℕ) (answer : Came) (m : L) → 0 < room → hears l room answer m → HearStep room (told l) (told m) (counts l) (counts m) answer)
          (says : L → List ℕ → Said → L → Type 0) (says_mean : (l : L) (piece : List ℕ) (answer : Said) (m : L) → 0 < length piece → says l piece answer m → SayStep piece (told l) (told m) (counts l) (counts m) answer) (decided : Deciding) (refused : P → ℕ) (ready : L → Bool → Type 0) where
        abbrev OneRound : WorkerState P D K Q L → Round → WorkerState P D K Q L → Type 0
        OneRound = Rounds told counts doors (Turned hears hears_mean says says_mean decided refused ready) refused ready Ends files

        kept_round : (w w' : WorkerState P D K Q L) (answer : Round) → w.terms ≡ t → OneRound w answer w' → Kept w.bench → Kept w'.bench
        kept_round w w' answer terms r k =
            let begins = kept_at w.bench (begun w.bench) refl refl refl refl refl refl k in
            let admitted = kept_admits_if (asks_door w.terms w.bench) (begun w.bench) r.admitted (subst (λ (u : Terms). AdmitsIf told counts doors u (asks_door w.terms w.bench) (begun w.bench) r.admitted) terms r.admits)
            (λ e. subst (λ (u : Terms). slab_len w.bench.sessions < u.links) terms (has_room (slab_len w.bench.sessions) w.terms.links (nat_lt w.bench.had (2 ^ 40)) e)) begins in
            let turned = walked (TurnsAt (Turned hears hears_mean says says_mean decided refused ready) refused ready) Kept (kept_turns_at hears hears_mean says says_mean decided refused ready) r.turns.last r.admitted r.turned r.turns.walk admitted in
            let closed = walked (ClosesAt told counts doors Ends) Kept kept_closes_at r.closings.last r.turned r.closed r.closings.walk turned in
            walked (RecordsAt files) (λ (x : Bench P D Q L × List (Recorder P K Q)). Kept x.0) kept_records_at (length w.recorders) (r.closed, w.recorders) (w'.bench, w'.recorders) r.records closed

        -- WHAT A ROUND KEEPS
        pub round_works : (fits' : P → ℕ → Q → Type 0) (w w' : WorkerState P D K Q L) (answer : Round) → w.terms ≡ t → IsSound fits' rules doors t w.bench → OneRound w answer w' → Keeps w.bench → Keeps w'.bench
        round_works fits' w w' answer terms s r works =
            (kept_round w w' answer terms r (record { works = works; named = λ key u at. (s.seated key u at).named; single = s.single })).works
