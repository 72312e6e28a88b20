-- The calls of a session in the streams' histories, as these go on
use Rattle.std.proofs.Common.{◌≡◌, ◌≢◌, ℕ, if◌then◌else◌, Bool, true, false, nat_eq, List, [], ◌∷◌, ◌++◌, refl, sym, ap, ◌∙◌, subst, inl, inr, arith, append_assoc, append-nil, Option, Some, None}
use Rattle.std.specs.Prelude.{reverse}
use Rattle.std.proofs.lemmas.List.{reverse-append}
use Rattle.std.proofs.lemmas.Bool.{cases_eq}
use Rattle.std.proofs.lemmas.Bool.Decides.{nat_tests}
use Rattle.stream_model.specs.declared.calls.Shape.{Shape}
use Rattle.stream_model.specs.declared.calls.Entry.{Entry}
use Rattle.stream_model.specs.declared.replies.Reply.{Reply}
use Rattle.stream_model.specs.declared.replies.Reply.TheVariants as reply
use Rattle.stream_model.specs.History.{History}
use Rattle.turn_gate.specs.Histories.{Begins}
use Rattle.stream_registry.specs.Names.{PortRules}
use Rattle.stream_registry.specs.Told.{Step, Histories, Keeps}
use Rattle.stream_registry.specs.Placed.{Placed}
use Rattle.relay_session.specs.declared.seat_answers.Active.{Active}
use Rattle.relay_session.specs.declared.seat_answers.Active.TheVariants as active
use Rattle.relay_session.specs.declared.seat_answers.Leaving.{Leaving}
use Rattle.relay_session.specs.declared.seat_answers.Leaving.TheVariants as leaving
use Rattle.relay_session.specs.SeatVisits.{Visit, calls_at, StandIn, Stand, AllStand}
use Rattle.relay_session.specs.SeatState.{SeatState, IsStanding, HasFit, IsElsewhere, Finishes, Leaves, LeavesFrom, last_of, place_of, GoOn, Noted, active_after, plays, publishes, IsGranted, IsActive, known_if}

-- ---- histories

pub begins_same : {E : Type 0} (xs ys : List E) → ys ≡ xs → Begins xs ys
begins_same xs ys e = ([], append-nil xs ∙ sym e)

pub begins_trans : {E : Type 0} (xs ys zs : List E) → Begins xs ys → Begins ys zs → Begins xs zs
begins_trans {E} xs ys zs b c = (b.0 ++ c.0, sym (append_assoc xs b.0 c.0) ∙ (ap (λ (l : List E). l ++ c.0) b.1 ∙ c.1))

pub go_on_trans : (f g h : Histories) → GoOn f g → GoOn g h → GoOn f h
go_on_trans f g h a b = record { at_each = λ q. begins_trans (f q) (g q) (h q) (a.at_each q) (b.at_each q) }

pub go_on_same : (f g : Histories) → ((q : ℕ) → g q ≡ f q) → GoOn f g
go_on_same f g e = record { at_each = λ q. begins_same (f q) (g q) (e q) }

-- one goes on, and the others stay
pub one_goes_on : (f g : Histories) (place : ℕ) → Begins (f place) (g place) → ((q : ℕ) → q ≢ place → g q ≡ f q) → GoOn f g
one_goes_on f g place b same = record {
  at_each = λ q. elim (cases_eq q place) [
    | inl e ↦ subst (λ (p : ℕ). Begins (f p) (g p)) (sym e) b
    | inr d ↦ begins_same (f q) (g q) (same q d)
  ];
}

-- ---- what is known of a place

pub known_here : {Q : Type 0} (seen : Q → List Step) (root : Histories) (place : ℕ) (pass : Q) → known_if seen root (Some (place, pass)) place ≡ seen pass
known_here seen root place pass = let t : nat_eq place place ≡ true = grind (arith, nat_tests) in rw t refl

pub known_else : {Q : Type 0} (seen : Q → List Step) (root : Histories) (place : ℕ) (pass : Q) (q : ℕ) → q ≢ place → known_if seen root (Some (place, pass)) q ≡ root q
known_else seen root place pass q d = let t : nat_eq place q ≡ false = grind (arith, nat_tests) in rw t refl

-- it has left
pub detached : {Q : Type 0} (seen : Q → List Step) (root root' : Histories) (place : ℕ) (pass : Q) → Begins (seen pass) (root' place) → ((q : ℕ) → q ≢ place → root' q ≡ root q) → GoOn (known_if seen root (Some (place, pass))) root'
detached seen root root' place pass b same =
    one_goes_on (known_if seen root (Some (place, pass))) root' place
    (subst (λ (h : List Step). Begins h (root' place)) (sym (known_here seen root place pass)) b)
    (λ q d. same q d ∙ sym (known_else seen root place pass q d))

-- it has come
pub attached : {Q : Type 0} (seen : Q → List Step) (root root' : Histories) (place : ℕ) (pass : Q) → seen pass ≡ root place → ((q : ℕ) → root' q ≡ root q) → (q : ℕ) → known_if seen root' (Some (place, pass)) q ≡ root q
attached seen root root' place pass e same q = elim (cases_eq q place) [
  | inl i ↦ subst (λ (p : ℕ). known_if seen root' (Some (place, pass)) p ≡ root p) (sym i) (known_here seen root' place pass ∙ e)
  | inr d ↦ known_else seen root' place pass q d ∙ same q
]

-- it has seen more
pub called : {Q : Type 0} (seen : Q → List Step) (root root' : Histories) (place : ℕ) (pass pass' : Q) → Begins (seen pass) (seen pass') → ((q : ℕ) → q ≢ place → root' q ≡ root q)
    → GoOn (known_if seen root (Some (place, pass))) (known_if seen root' (Some (place, pass')))
called seen root root' place pass pass' b same =
    one_goes_on (known_if seen root (Some (place, pass))) (known_if seen root' (Some (place, pass'))) place
    (subst (λ (h : List Step). Begins h (known_if seen root' (Some (place, pass')) place)) (sym (known_here seen root place pass))
    (subst (λ (h : List Step). Begins (seen pass) h) (sym (known_here seen root' place pass')) b))
    (λ q d. known_else seen root' place pass' q d ∙ (same q d ∙ sym (known_else seen root place pass q d)))

-- ---- calls in a history

stand_on : (limits : Shape) (calls : List Step) (past more : History) → StandIn limits calls past → StandIn limits calls (more ++ past)
stand_on limits [] past more s = tt
stand_on limits (m ∷ ms) past [] s = s
stand_on limits (m ∷ ms) past (x ∷ more) s = inr (stand_on limits (m ∷ ms) past more s)

stand_later : (limits : Shape) (calls seen seen' : List Step) → Begins seen seen' → Stand limits calls seen → Stand limits calls seen'
stand_later limits calls seen seen' b s =
    subst (λ (h : List Step). StandIn limits calls (reverse h)) b.1 (subst (λ (p : History). StandIn limits calls p) (sym (reverse-append seen b.0)) (stand_on limits calls (reverse seen) (reverse b.0) s))

stand_more : (limits : Shape) (root known known' : List Step) (step : Step) (calls : List Step) → Noted limits root known step known' → Stand limits calls known → Stand limits (step ∷ calls) known'
stand_more limits root known known' step calls n s =
    let is : reverse (n.before ++ step ∷ []) ≡ step ∷ reverse n.before = reverse-append n.before (step ∷ []) in
    let here : Stand limits (step ∷ calls) (n.before ++ step ∷ []) =
    subst (λ (h : History). StandIn limits (step ∷ calls) h) (sym is) (inl (refl, n.reply_is, stand_later limits calls known n.before n.known_first s)) in
    stand_later limits (step ∷ calls) (n.before ++ step ∷ []) known' n.within here

pub calls_here : (place : ℕ) (step : Step) (vs : List Visit) → calls_at place ((place, step) ∷ vs) ≡ step ∷ calls_at place vs
calls_here place step vs = let t : nat_eq place place ≡ true = grind (arith, nat_tests) in rw t refl

calls_else : (place q : ℕ) (step : Step) (vs : List Visit) → q ≢ place → calls_at q ((place, step) ∷ vs) ≡ calls_at q vs
calls_else place q step vs d = let t : nat_eq place q ≡ false = grind (arith, nat_tests) in rw t refl

-- the same calls, in histories that went on
pub all_later : (limits : ℕ → Shape) (h h' : Histories) (visits : List Visit) → GoOn h h' → AllStand limits h visits → AllStand limits h' visits
all_later limits h h' visits g s = record { at_each = λ q. stand_later (limits q) (calls_at q visits) (h q) (h' q) (g.at_each q) (s.at_each q) }

-- one call more
pub all_more : (limits : ℕ → Shape) (h h' : Histories) (place : ℕ) (root : List Step) (step : Step) (visits : List Visit) → GoOn h h' → Noted (limits place) root (h place) step (h' place) → AllStand limits h visits
    → AllStand limits h' ((place, step) ∷ visits)
all_more limits h h' place root step visits g n s = record {
  at_each = λ q. elim (cases_eq q place) [
    | inl e ↦ subst (λ (p : ℕ). Stand (limits p) (calls_at p ((place, step) ∷ visits)) (h' p)) (sym e)
        (subst (λ (c : List Step). Stand (limits place) c (h' place)) (sym (calls_here place step visits)) (stand_more (limits place) root (h place) (h' place) step (calls_at place visits) n (s.at_each place)))
    | inr d ↦ subst (λ (c : List Step). Stand (limits q) c (h' q)) (sym (calls_else place q step visits d)) (stand_later (limits q) (calls_at q visits) (h q) (h' q) (g.at_each q) (s.at_each q))
  ];
}

-- what the port says of a call
pub noted : (limits limits' : Shape) (root seen : List Step) (mine : List ℕ) (step : Step) (seen' : List Step) (mine' : List ℕ) → limits' ≡ limits → Placed limits root seen mine step seen' mine' → Keeps limits' seen'
    → Noted limits root seen step seen'
noted limits limits' root seen mine step seen' mine' same p k =
    record {
      before = p.before;
      root_first = p.root_first;
      known_first = p.pass_first;
      reply_is = p.reply_is;
      within = begins_same (p.before ++ step ∷ []) seen' p.seen_is;
      lawful = subst (λ (l : Shape). Keeps l (p.before ++ step ∷ [])) same (subst (λ (h : List Step). Keeps limits' h) p.seen_is k);
    }

-- the same, where more is known
pub noted_later : (limits : Shape) (root known : List Step) (step : Step) (known' known'' : List Step) → Begins known' known'' → Noted limits root known step known' → Noted limits root known step known''
noted_later limits root known step known' known'' b n =
    record { before = n.before; root_first = n.root_first; known_first = n.known_first; reply_is = n.reply_is; within = begins_trans (n.before ++ step ∷ []) known' known'' n.within b; lawful = n.lawful }

-- ---- what was granted

alike : (a : Active) (calls calls' : List Step) → publishes calls' ≡ publishes calls → ((p : ℕ) → plays p calls' ≡ plays p calls) → IsGranted a calls → IsGranted a calls'
alike active.Nothing calls calls' e f g = tt
alike active.Publishes calls calls' e f g = e ∙ g
alike (active.Plays p) calls calls' e f g = f p ∙ g

given : (player from : ℕ) (e : Entry) (calls : List Step) → plays player ((e, reply.Joined player from) ∷ calls) ≡ true
given player from e calls = let t : nat_eq player player ≡ true = grind (arith, nat_tests) in rw t refl

pub granted_more : (r : Reply) (e : Entry) (a : Active) (calls : List Step) → IsGranted a calls → IsGranted (active_after r a) ((e, r) ∷ calls)
granted_more (reply.Began n) e a calls g = refl
granted_more (reply.Joined player from) e a calls g = given player from e calls
granted_more (reply.InUse by) e a calls g = tt
granted_more reply.Full e a calls g = tt
granted_more (reply.NoSlot slots) e a calls g = tt
granted_more (reply.Ended n) e a calls g = tt
granted_more (reply.Left player) e a calls g = tt
granted_more (reply.Pushed n) e a calls g = alike a calls ((e, reply.Pushed n) ∷ calls) refl (λ p. refl) g
granted_more (reply.NotPublisher live) e a calls g = alike a calls ((e, reply.NotPublisher live) ∷ calls) refl (λ p. refl) g
granted_more reply.NotPlayer e a calls g = alike a calls ((e, reply.NotPlayer) ∷ calls) refl (λ p. refl) g
granted_more (reply.Sent from n item) e a calls g = alike a calls ((e, reply.Sent from n item) ∷ calls) refl (λ p. refl) g
granted_more (reply.Skip from to) e a calls g = alike a calls ((e, reply.Skip from to) ∷ calls) refl (λ p. refl) g
granted_more (reply.NotYet end) e a calls g = alike a calls ((e, reply.NotYet end) ∷ calls) refl (λ p. refl) g
granted_more (reply.Counts began pushed ended joined skips) e a calls g = alike a calls ((e, reply.Counts began pushed ended joined skips) ∷ calls) refl (λ p. refl) g

pub active_more : {Q : Type 0} (place : ℕ) (pass pass' : Q) (r : Reply) (e : Entry) (a : Active) (visits : List Visit) → IsActive (Some (place, pass)) a visits → IsActive (Some (place, pass')) (active_after r a) ((place, (e, r)) ∷ visits)
active_more place pass pass' r e a visits g = subst (λ (c : List Step). IsGranted (active_after r a) c) (sym (calls_here place (e, r) visits)) (granted_more r e a (calls_at place visits) g)

-- ---- where it stands

pub stands_nowhere : {Q : Type 0} (limits limits' : ℕ → Shape) (h h' : Histories) (s s' : SeatState Q) → limits' ≡ limits → GoOn h h' → s'.spot ≡ None → s'.active ≡ active.Nothing → s'.visits ≡ s.visits → IsStanding limits h s → IsStanding limits' h' s'
stands_nowhere {Q} limits limits' h h' s s' same g none nothing visits st =
    record {
      calls = subst (λ (l : ℕ → Shape). AllStand l h' s'.visits) (sym same) (subst (λ (v : List Visit). AllStand limits h' v) (sym visits) (all_later limits h h' s.visits g st.calls));
      granted = subst (λ (o : Option (ℕ × Q)). IsActive o s'.active s'.visits) (sym none) nothing;
    }

limits_of : (r r' : PortRules) → r' ≡ r → r'.limits ≡ r.limits
limits_of r r' e = ap (λ (x : PortRules). x.limits) e

module _ {Q : Type 0} where
  -- it is at this place
  here_is : (spot : Option (ℕ × Q)) (here place : ℕ) (pass : Q) → spot ≡ Some (here, pass) → place_of spot ≡ Some place → here ≡ place
  here_is spot here place pass is at =
      let p : Some here ≡ Some place = subst (λ (o : Option (ℕ × Q)). place_of o ≡ Some place) is at in
      let e : here ≡ place = cc in e

  pub fit_at : (fits : ℕ → Q → Type 0) (spot : Option (ℕ × Q)) (here place : ℕ) (pass : Q) → spot ≡ Some (here, pass) → place_of spot ≡ Some place → HasFit fits spot → fits place pass
  fit_at fits spot here place pass is at f = subst (λ (p : ℕ). fits p pass) (here_is spot here place pass is at) (subst (λ (o : Option (ℕ × Q)). HasFit fits o) is f)

  known_at : (seen : Q → List Step) (root : Histories) (spot : Option (ℕ × Q)) (here place : ℕ) (pass : Q) → spot ≡ Some (here, pass) → here ≡ place → known_if seen root spot place ≡ seen pass
  known_at seen root spot here place pass is e =
      subst (λ (p : ℕ). known_if seen root spot p ≡ seen pass) e (subst (λ (o : Option (ℕ × Q)). known_if seen root o here ≡ seen pass) (sym is) (known_here seen root here pass))

  -- a call was made
  pub ask_noted : (seen : Q → List Step) (root root' : Histories) (spot : Option (ℕ × Q)) (here place : ℕ) (pass pass' : Q) (limits had has : Shape) (mine mine' : List ℕ) (step : Step) → spot ≡ Some (here, pass) → place_of spot ≡ Some place
      → had ≡ limits → has ≡ had → Placed had (root place) (seen pass) mine step (seen pass') mine' → Keeps has (seen pass') → Noted limits (root place) (known_if seen root spot place) step (known_if seen root' (Some (here, pass')) place)
  ask_noted seen root root' spot here place pass pass' limits had has mine mine' step is at l m p k =
      let e = here_is spot here place pass is at in
      let n : Noted limits (root place) (seen pass) step (seen pass') = subst (λ (x : Shape). Noted x (root place) (seen pass) step (seen pass')) l (noted had has (root place) (seen pass) mine step (seen pass') mine' m p k) in
      let known : known_if seen root spot place ≡ seen pass = known_at seen root spot here place pass is e in
      let known' : known_if seen root' (Some (here, pass')) place ≡ seen pass' = known_at seen root' (Some (here, pass')) here place pass' refl e in
      subst (λ (h : List Step). Noted limits (root place) h step (known_if seen root' (Some (here, pass')) place)) (sym known) (subst (λ (h : List Step). Noted limits (root place) (seen pass) step h) (sym known') n)

  -- whether or not it was made, more is known
  pub ask_knows : (seen : Q → List Step) (root root' : Histories) (spot : Option (ℕ × Q)) (here place : ℕ) (pass pass' : Q) → spot ≡ Some (here, pass) → place_of spot ≡ Some place → Begins (seen pass) (seen pass')
      → ((q : ℕ) → q ≢ place → root' q ≡ root q) → GoOn (known_if seen root spot) (known_if seen root' (Some (here, pass')))
  ask_knows seen root root' spot here place pass pass' is at b others =
      let e = here_is spot here place pass is at in
      let same : (q : ℕ) → q ≢ here → root' q ≡ root q = subst (λ (p : ℕ). (q : ℕ) → q ≢ p → root' q ≡ root q) (sym e) others in
      subst (λ (o : Option (ℕ × Q)). GoOn (known_if seen root o) (known_if seen root' (Some (here, pass')))) (sym is) (called seen root root' here pass pass' b same)

  pub stands_more : (rules rules' : PortRules) (h h' : Histories) (s s' : SeatState Q) (here place : ℕ) (pass pass' : Q) (root : List Step) (entry : Entry) (r : Reply) → rules' ≡ rules → s.spot ≡ Some (here, pass) → place_of s.spot ≡ Some place
      → GoOn h h' → Noted (rules.limits place) root (h place) (entry, r) (h' place) → s'.spot ≡ Some (here, pass') → s'.active ≡ active_after r s.active → s'.visits ≡ (place, (entry, r)) ∷ s.visits
      → IsStanding rules.limits h s → IsStanding rules'.limits h' s'
  stands_more rules rules' h h' s s' here place pass pass' root entry r same is at g n is' active visits st =
      let e = here_is s.spot here place pass is at in
      let before : IsActive (Some (here, pass)) s.active s.visits = subst (λ (o : Option (ℕ × Q)). IsActive o s.active s.visits) is st.granted in
      let more : IsActive (Some (here, pass')) (active_after r s.active) ((place, (entry, r)) ∷ s.visits) =
      subst (λ (p : ℕ). IsActive (Some (here, pass')) (active_after r s.active) ((p, (entry, r)) ∷ s.visits)) e (active_more here pass pass' r entry s.active s.visits before) in
      record {
        calls = subst (λ (l : ℕ → Shape). AllStand l h' s'.visits) (sym (limits_of rules rules' same))
            (subst (λ (v : List Visit). AllStand rules.limits h' v) (sym visits) (all_more rules.limits h h' place root (entry, r) s.visits g n st.calls));
        granted = subst (λ (o : Option (ℕ × Q)). IsActive o s'.active s'.visits) (sym is')
            (subst (λ (a : Active). IsActive (Some (here, pass')) a s'.visits) (sym active) (subst (λ (v : List Visit). IsActive (Some (here, pass')) (active_after r s.active) v) (sym visits) more));
      }

  pub stands_same : (rules rules' : PortRules) (h h' : Histories) (s s' : SeatState Q) (here : ℕ) (pass pass' : Q) → rules' ≡ rules → s.spot ≡ Some (here, pass) → GoOn h h' → s'.spot ≡ Some (here, pass') → s'.active ≡ s.active → s'.visits ≡ s.visits
      → IsStanding rules.limits h s → IsStanding rules'.limits h' s'
  stands_same rules rules' h h' s s' here pass pass' same is g is' active visits st =
      let before : IsActive (Some (here, pass')) s.active s.visits = subst (λ (o : Option (ℕ × Q)). IsActive o s.active s.visits) is st.granted in
      record {
        calls = subst (λ (l : ℕ → Shape). AllStand l h' s'.visits) (sym (limits_of rules rules' same)) (subst (λ (v : List Visit). AllStand rules.limits h' v) (sym visits) (all_later rules.limits h h' s.visits g st.calls));
        granted = subst (λ (o : Option (ℕ × Q)). IsActive o s'.active s'.visits) (sym is')
            (subst (λ (a : Active). IsActive (Some (here, pass')) a s'.visits) (sym active) (subst (λ (v : List Visit). IsActive (Some (here, pass')) s.active v) (sym visits) before));
      }

  -- it has left
  pub rise_knows : (seen : Q → List Step) (root root' : Histories) (spot spot' : Option (ℕ × Q)) (here : ℕ) (pass : Q) → spot ≡ Some (here, pass) → spot' ≡ None → Begins (seen pass) (root' here) → ((q : ℕ) → q ≢ here → root' q ≡ root q)
      → GoOn (known_if seen root spot) (known_if seen root' spot')
  rise_knows seen root root' spot spot' here pass is none b same =
      subst (λ (o : Option (ℕ × Q)). GoOn (known_if seen root spot) (known_if seen root' o)) (sym none)
      (subst (λ (o : Option (ℕ × Q)). GoOn (known_if seen root o) root') (sym is) (detached seen root root' here pass b same))

  pub nowhere_knows : (seen : Q → List Step) (root root' : Histories) (spot spot' : Option (ℕ × Q)) → spot ≡ None → spot' ≡ None → ((q : ℕ) → root' q ≡ root q) → GoOn (known_if seen root spot) (known_if seen root' spot')
  nowhere_knows seen root root' spot spot' is none same =
      subst (λ (o : Option (ℕ × Q)). GoOn (known_if seen root spot) (known_if seen root' o)) (sym none)
      (subst (λ (o : Option (ℕ × Q)). GoOn (known_if seen root o) root') (sym is) (go_on_same root root' same))

  pub rise_stands : (rules rules' : PortRules) (h h' : Histories) (s s' : SeatState Q) → rules' ≡ rules → GoOn h h' → s'.spot ≡ None → s'.active ≡ active.Nothing → s'.visits ≡ s.visits → IsStanding rules.limits h s → IsStanding rules'.limits h' s'
  rise_stands rules rules' h h' s s' same g none nothing visits st = stands_nowhere rules.limits rules'.limits h h' s s' (limits_of rules rules' same) g none nothing visits st

  -- it has come
  pub enter_knows : (seen : Q → List Step) (root root' : Histories) (spot : Option (ℕ × Q)) (place : ℕ) (pass : Q) → spot ≡ None → seen pass ≡ root place → ((q : ℕ) → root' q ≡ root q) → GoOn (known_if seen root spot) (known_if seen root' (Some (place, pass)))
  enter_knows seen root root' spot place pass none e same =
      subst (λ (o : Option (ℕ × Q)). GoOn (known_if seen root o) (known_if seen root' (Some (place, pass)))) (sym none)
      (go_on_same root (known_if seen root' (Some (place, pass))) (attached seen root root' place pass e same))

  -- where it is and isn't
  pub not_here : (spot : Option (ℕ × Q)) (place q : ℕ) → place_of spot ≡ Some place → IsElsewhere spot q → q ≢ place
  not_here None place q at away = absurd (cc at)
  not_here (Some p) place q at away = let e : p.0 ≡ place = cc in subst (λ (x : ℕ). q ≢ x) e away

  pub not_there : (over : Bool) (spot : Option (ℕ × Q)) (place q : ℕ) → place_of spot ≡ (if over then None else Some place) → q ≢ place → IsElsewhere spot q
  not_there over None place q at d = tt
  not_there true (Some p) place q at d = absurd (cc at)
  not_there false (Some p) place q at d = let e : p.0 ≡ place = cc in subst (λ (x : ℕ). q ≢ x) (sym e) d

-- ---- how it leaves

-- no call was kept
pub leave_none : (o : Option ℕ) (place who fed : ℕ) (kept kept' : Option Entry) (a a' : Active) (visits visits' : List Visit) (r : Leaving) → o ≡ Some place → kept ≡ None → kept' ≡ None → Finishes place who fed (last_of a) a visits r a' visits'
    → LeavesFrom o who fed kept a visits r kept' a' visits'
leave_none o place who fed kept kept' a a' visits visits' r is none none' f =
    subst (λ (x : Option ℕ). LeavesFrom x who fed kept a visits r kept' a' visits') (sym is)
    (subst (λ (k : Option Entry). Leaves place who fed k a visits r kept' a' visits') (sym none) (from r f))
  where
    from : (r : Leaving) → Finishes place who fed (last_of a) a visits r a' visits' → Leaves place who fed None a visits r kept' a' visits'
    from leaving.Done f = (record { granted = a; between = visits; kept_made = (refl, refl); last_made = f }, none')
    from leaving.Worn f = (a, inl (refl, f, none'))
    from leaving.Busy f = inl (f.0, f.1, none')
    from leaving.OutOfMemory f = inl (f.0, f.1, none')

-- the kept call was made
pub leave_some : (o : Option ℕ) (place who fed : ℕ) (kept kept' : Option Entry) (e : Entry) (answer : Reply) (a b a' : Active) (visits between visits' : List Visit) (r : Leaving) → o ≡ Some place → kept ≡ Some e → kept' ≡ None → b ≡ active_after answer a
    → between ≡ (place, (e, answer)) ∷ visits → Finishes place who fed (last_of b) b between r a' visits' → LeavesFrom o who fed kept a visits r kept' a' visits'
leave_some o place who fed kept kept' e answer a b a' visits between visits' r is some none' at more f =
    subst (λ (x : Option ℕ). LeavesFrom x who fed kept a visits r kept' a' visits') (sym is)
    (subst (λ (k : Option Entry). Leaves place who fed k a visits r kept' a' visits') (sym some) (from r f))
  where
    from : (r : Leaving) → Finishes place who fed (last_of b) b between r a' visits' → Leaves place who fed (Some e) a visits r kept' a' visits'
    from leaving.Done f = (record { granted = b; between = between; kept_made = (answer, at, more); last_made = f }, none')
    from leaving.Worn f = (b, inr ((answer, at, f ∙ more), none'))
    from leaving.Busy f = inr ((answer, f.0 ∙ at, f.1 ∙ more), none')
    from leaving.OutOfMemory f = inr ((answer, f.0 ∙ at, f.1 ∙ more), none')

-- the history was full
pub leave_worn : (o : Option ℕ) (place who fed : ℕ) (kept kept' : Option Entry) (a a' : Active) (visits visits' : List Visit) → o ≡ Some place → kept' ≡ kept → visits' ≡ visits → LeavesFrom o who fed kept a visits leaving.Worn kept' a' visits'
leave_worn o place who fed kept kept' a a' visits visits' is same visits-same =
    subst (λ (x : Option ℕ). LeavesFrom x who fed kept a visits leaving.Worn kept' a' visits') (sym is) (a, inl (refl, visits-same, same))

-- others have made calls at the same port
others_known : {Q : Type 0} (seen : Q → List Step) (root root' : Histories) (spot : Option (ℕ × Q)) → GoOn root root' → GoOn (known_if seen root spot) (known_if seen root' spot)
others_known seen root root' None g = g
others_known seen root root' (Some p) g = record { at_each = λ q. more q (nat_eq p.0 q) }
  where
    more : (q : ℕ) (b : Bool) → Begins (if b then seen p.1 else root q) (if b then seen p.1 else root' q)
    more q true = begins_same (seen p.1) (seen p.1) refl
    more q false = g.at_each q

pub others_later : {Q : Type 0} (rules rules' : PortRules) (seen : Q → List Step) (root root' : Histories) (s : SeatState Q) → rules' ≡ rules → GoOn root root' → IsStanding rules.limits (known_if seen root s.spot) s → IsStanding rules'.limits (known_if seen root' s.spot) s
others_later rules rules' seen root root' s same g st =
    record {
      calls = subst (λ (l : ℕ → Shape). AllStand l (known_if seen root' s.spot) s.visits) (sym (limits_of rules rules' same))
          (all_later rules.limits (known_if seen root s.spot) (known_if seen root' s.spot) s.visits (others_known seen root root' s.spot g) st.calls);
      granted = st.granted;
    }

pub still_fits : {Q : Type 0} (fits fits' : ℕ → Q → Type 0) (spot : Option (ℕ × Q)) → ((q : ℕ) (p : Q) → fits q p → fits' q p) → HasFit fits spot → HasFit fits' spot
still_fits fits fits' None more f = tt
still_fits fits fits' (Some p) more f = more p.0 p.1 f
