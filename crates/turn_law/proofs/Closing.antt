-- How a session is closed on one thread: the calls by which it leaves are a function of what it was
use Rattle.std.proofs.Common.{inl, ◌≡◌, ◌≢◌, ◌≤◌, ℕ, nat_eq, if◌then◌else◌, Bool, true, List, [], ◌∷◌, ◌++◌, length, reverse, Option, Some, None, refl, sym, ap}
use Rattle.std.proofs.Common.{◌∙◌, subst, arith, append-nil, append_assoc, length-append}
use Rattle.std.specs.Prelude.{map}
use Rattle.std.specs.Option.{unwrap_or}
use Rattle.std.proofs.lemmas.Bool.Decides.{nat_tests}
use Rattle.std.proofs.lemmas.List.{append_cancel_left, reverse-append}
use Rattle.stream_model.specs.History.{History}
use Rattle.stream_model.specs.Shape.{IsLawfulBy, IsShapeLawful, reply_by, shape_reply}
use Rattle.stream_model.specs.declared.calls.Call.{Call}
use Rattle.stream_model.specs.declared.calls.Entry.{Entry}
use Rattle.stream_model.specs.declared.calls.Shape.{Shape}
use Rattle.stream_model.specs.declared.calls.StreamLimits.{StreamLimits}
use Rattle.stream_model.specs.declared.replies.Reply.{Reply}
use Rattle.stream_registry.specs.Books.{SoleState, SeenState, FitsSole, journal_at, sole_rules}
use Rattle.stream_registry.specs.Names.{PortRules}
use Rattle.stream_registry.specs.Told.{Keeps, Step}
use Rattle.turn_gate.specs.Histories.{Begins}
use Rattle.relay_session.specs.Alone.{GrowsFrom, ReachesBy, visited}
use Rattle.relay_session.specs.SeatState.{AllMade, IsWornAt, LastMade, LeaveFails, LeavesFrom, SeatState, active_after, active_at, known_if, last_of, left_at}
use Rattle.relay_session.specs.SeatState.{place_of}
use Rattle.relay_session.specs.SeatVisits.{Visit, calls_of}
use Rattle.relay_session.specs.declared.seat_answers.Active.{Active}
use Rattle.relay_session.specs.declared.seat_answers.Active.TheVariants as active
use Rattle.relay_session.specs.declared.seat_answers.Leaving.{Leaving}
use Rattle.relay_session.specs.declared.seat_answers.Leaving.TheVariants as leaving
use Rattle.turn_law.specs.Twins.{Closes, HasRoom, Parting, SamePort, SoleAdds, SoleLife, known_in}
use Rattle.turn_law.proofs.Calls.{grown_same}

-- ---- replies by the rules

lawful_by : (limits : StreamLimits) (o : Option ℕ) (e : Entry) (r : Reply) (past : History) → IsLawfulBy limits o ((e, r) ∷ past)
    → (r ≡ reply_by limits o past e) × IsLawfulBy limits o past
lawful_by limits None e r past h = (h.0, h.1)
lawful_by limits (Some n) e r past h = (h.0, h.1)

lawful_last : (l : Shape) (e : Entry) (r : Reply) (past : History) → IsShapeLawful l ((e, r) ∷ past) → (r ≡ shape_reply l past e) × IsShapeLawful l past
lawful_last l e r past h = lawful_by l.limits l.slots e r past h

-- ---- the calls

-- after a past, the newest first: the call that waits, and then the one that ends what is granted
abbrev kept_step : Shape → History → Option Entry → List Step
kept_step l past None = []
kept_step l past (Some e) = (e, shape_reply l past e) ∷ []

abbrev kept_past : Shape → History → Option Entry → History
kept_past l past None = past
kept_past l past (Some e) = (e, shape_reply l past e) ∷ past

abbrev kept_grant : Shape → History → Option Entry → Active → Active
kept_grant l past None a = a
kept_grant l past (Some e) a = active_after (shape_reply l past e) a

abbrev leave_entry : ℕ → ℕ → Call → Entry
leave_entry who fed c = record { who = who; at = fed; call = c }

abbrev last_step : Shape → History → ℕ → ℕ → Option Call → List Step
last_step l past who fed None = []
last_step l past who fed (Some c) = (leave_entry who fed c, shape_reply l past (leave_entry who fed c)) ∷ []

abbrev leave_steps : Shape → List Step → ℕ → ℕ → Option Entry → Active → List Step
leave_steps l h who fed kept a = kept_step l (reverse h) kept ++ last_step l (kept_past l (reverse h) kept) who fed (last_of (kept_grant l (reverse h) kept a))

visited_calls : (place : ℕ) (steps : List Step) (vs : List Visit) → calls_of (visited place steps vs) ≡ calls_of vs ++ steps
visited_calls place [] vs = sym (append-nil (calls_of vs))
visited_calls place (s ∷ ss) vs =
    visited_calls place ss ((place, s) ∷ vs) ∙ (ap (λ (l : List Step). l ++ ss) (reverse-append (s ∷ []) (map (λ (v : Visit). v.1) vs))
    ∙ append_assoc (calls_of vs) (s ∷ []) ss)

-- the calls between visits are these
steps_are : (place : ℕ) (steps more : List Step) (vs vs' : List Visit) → vs' ≡ visited place steps vs → vs' ≡ visited place more vs → steps ≡ more
steps_are place steps more vs vs' e f =
    append_cancel_left (calls_of vs) steps more (sym (visited_calls place steps vs) ∙ (ap calls_of (sym e ∙ f) ∙ visited_calls place more vs))

begins_whole : (xs ys : List Step) → Begins xs ys → length ys ≤ length xs → xs ≡ ys
begins_whole xs ys b le = sym (append-nil xs) ∙ (ap (λ (l : List Step). xs ++ l) (sym (none b.0 (omega (arith, le, ap length b.1, length-append xs b.0))))
    ∙ b.1)
  where
    none : (l : List Step) → length l ≡ 0 → l ≡ []
    none [] e = refl
    none (s ∷ l) e = absurd (omega (arith, e))

-- calls that reach to the end of a history keep the rules
keeps_steps : (l : Shape) (h known h' known' : List Step) (s : Step) (ss : List Step) → known' ≡ h' → h' ≡ h ++ s ∷ ss
    → ReachesBy l h known (s ∷ ss) known' → Keeps l (h ++ s ∷ ss)
keeps_steps l h known h' known' s ss e is r =
    let within : Begins r.upto h' = subst (λ (x : List Step). Begins r.upto x) e r.within in
    let full : r.upto ≡ h' = begins_whole r.upto h' within (omega (arith, r.long (length h) (inl (omega arith)), ap length is, length-append h (s ∷ ss))) in
    subst (λ (x : List Step). Keeps l x) (full ∙ is) r.lawful

module _ (l : Shape) (h known h' known' : List Step) (e : known' ≡ h') where
  -- one call
  one_lawful : (a : Entry) (r : Reply) → h' ≡ h ++ (a, r) ∷ [] → ReachesBy l h known ((a, r) ∷ []) known' → r ≡ shape_reply l (reverse h) a
  one_lawful a r is reach =
      let k = keeps_steps l h known h' known' (a, r) [] e is reach in
      (lawful_last l a r (reverse h) (subst (λ (x : History). IsShapeLawful l x) (reverse-append h ((a, r) ∷ [])) k.rules)).0

  -- two
  two_lawful : (a b : Entry) (r q : Reply) → h' ≡ h ++ (a, r) ∷ (b, q) ∷ [] → ReachesBy l h known ((a, r) ∷ (b, q) ∷ []) known'
      → (r ≡ shape_reply l (reverse h) a) × (q ≡ shape_reply l ((a, r) ∷ reverse h) b)
  two_lawful a b r q is reach =
      let k = keeps_steps l h known h' known' (a, r) ((b, q) ∷ []) e is reach in
      let last = lawful_last l b q ((a, r) ∷ reverse h) (subst (λ (x : History). IsShapeLawful l x) (reverse-append h ((a, r) ∷ (b, q) ∷ [])) k.rules) in
      ((lawful_last l a r (reverse h) last.1).0, last.0)

  module _ (who fed place : ℕ) (vs vs' : List Visit) (steps : List Step) (v : vs' ≡ visited place steps vs) (g : h' ≡ h ++ steps)
      (reach : ReachesBy l h known steps known') where
    with_steps : (more : List Step) → steps ≡ more → (h' ≡ h ++ more) × ReachesBy l h known more known'
    with_steps more s = (g ∙ ap (λ (x : List Step). h ++ x) s, subst (λ (x : List Step). ReachesBy l h known x known') s reach)

    -- where no call waited
    last_alone : (c : Option Call) → LastMade place who fed c vs vs' → steps ≡ last_step l (reverse h) who fed c
    last_alone None m = steps_are place steps [] vs vs' v m
    last_alone (Some c) m =
        let s : steps ≡ (leave_entry who fed c, m.0) ∷ [] = steps_are place steps ((leave_entry who fed c, m.0) ∷ []) vs vs' v m.1 in
        let w = with_steps ((leave_entry who fed c, m.0) ∷ []) s in
        s ∙ ap (λ (r : Reply). (leave_entry who fed c, r) ∷ []) (one_lawful (leave_entry who fed c) m.0 w.0 w.1)

    -- behind the one that waited
    last_after : (k : Entry) (r : Reply) (c : Option Call) (us : List Visit) → us ≡ (place, (k, r)) ∷ vs → LastMade place who fed c us vs'
        → (r ≡ shape_reply l (reverse h) k) × (steps ≡ (k, r) ∷ last_step l ((k, r) ∷ reverse h) who fed c)
    last_after k r None us u m =
        let s : steps ≡ (k, r) ∷ [] = steps_are place steps ((k, r) ∷ []) vs vs' v (m ∙ u) in
        let w = with_steps ((k, r) ∷ []) s in
        (one_lawful k r w.0 w.1, s)
    last_after k r (Some c) us u m =
        let b : Entry = leave_entry who fed c in
        let s : steps ≡ (k, r) ∷ (b, m.0) ∷ [] = steps_are place steps ((k, r) ∷ (b, m.0) ∷ []) vs vs' v (m.1
        ∙ ap (λ (x : List Visit). (place, (b, m.0)) ∷ x) u) in
        let w = with_steps ((k, r) ∷ (b, m.0) ∷ []) s in
        let both = two_lawful k b r m.0 w.0 w.1 in
        (both.0, s ∙ ap (λ (q : Reply). (k, r) ∷ (b, q) ∷ []) both.1)

    last_of_same : (a b : Active) (us : List Visit) → b ≡ a → us ≡ vs → LastMade place who fed (last_of b) us vs' → LastMade place who fed (last_of a) vs vs'
    last_of_same a b us e u m = subst (λ (x : Active). LastMade place who fed (last_of x) vs vs') e
        (subst (λ (x : List Visit). LastMade place who fed (last_of b) x vs') u m)

    -- THE CALLS BY WHICH IT LEFT
    left_by : (kept : Option Entry) (a : Active) → AllMade place who fed kept a vs vs' → steps ≡ leave_steps l h who fed kept a
    left_by None a m = last_alone (last_of a) (last_of_same a m.granted m.between m.kept_made.0 m.kept_made.1 m.last_made)
    left_by (Some k) a m =
        let r : Reply = m.kept_made.0 in
        let last : LastMade place who fed (last_of (active_after r a)) m.between vs' =
        subst (λ (x : Active). LastMade place who fed (last_of x) m.between vs') m.kept_made.1 m.last_made in
        let both = last_after k r (last_of (active_after r a)) m.between m.kept_made.2 last in
        both.1 ∙ ap (λ (z : Reply). (k, z) ∷ last_step l ((k, z) ∷ reverse h) who fed (last_of (active_after z a))) both.0

-- ---- a close

nowhere : (spot : Option (ℕ × SeenState)) → place_of spot ≡ None → spot ≡ None
nowhere None e = refl
nowhere (Some p) e = absurd (cc)

all_known : (port : SoleState) (seat : SeatState SeenState) → place_of seat.spot ≡ None → (q : ℕ) → known_in port seat q ≡ journal_at port.books q
all_known port seat e q = ap (λ (z : Option (ℕ × SeenState)). known_if (λ (p : SeenState). p.seen) (journal_at port.books) z q) (nowhere seat.spot e)

worn_not : (port : SoleState) (place : ℕ) → IsWornAt (FitsSole port) (λ (p : SeenState). length p.seen) (Some place) → HasRoom port → ⊥
worn_not port place w r =
    let seen : Begins w.0.seen (journal_at port.books place) = w.1.seen in
    omega (arith, w.2, r place, ap length seen.1, length-append w.0.seen seen.0)

-- all calls were made, where it was somewhere and the history has room
module _ (v : SoleLife) (port : SoleState) (kept : Option Entry) (seat : SeatState SeenState) (room : HasRoom port) (away : place_of seat.spot ≡ None) where
  all_made : (place : ℕ) (r : Leaving) → LeavesFrom (Some place) v.parts.who v.parts.fed v.parts.kept v.seat.active v.seat.visits r kept seat.active seat.visits
      → LeaveFails (FitsSole port) (λ (p : SeenState). length p.seen) (λ (_ : Entry). Unit {0}) (Some place) v.parts.who v.parts.fed v.parts.kept 0 0 r
      → place_of seat.spot ≡ left_at r (Some place)
      → AllMade place v.parts.who v.parts.fed v.parts.kept v.seat.active v.seat.visits seat.visits
  all_made place leaving.Done l f s = l.0
  all_made place leaving.Worn l f s = absurd (worn_not port place f room)
  all_made place leaving.Busy l f s = (let t : None ≡ Some place = sym away ∙ s in absurd (cc))
  all_made place leaving.OutOfMemory l f s = (let t : None ≡ Some place = sym away ∙ s in absurd (cc))

-- what came to the histories, by where it was
abbrev LeftSo : SoleLife → SoleState → Option ℕ → Type 0
LeftSo v port None = (q : ℕ) → journal_at port.books q ≡ journal_at v.port.books q ++ []
LeftSo v port (Some place) =
    (journal_at port.books place ≡ journal_at v.port.books place ++ leave_steps ((sole_rules v.port.rules).limits place) (journal_at v.port.books place)
    v.parts.who v.parts.fed v.parts.kept v.seat.active)
    × ((q : ℕ) → q ≢ place → journal_at port.books q ≡ journal_at v.port.books q ++ [])

left_so : (v : SoleLife) (port : SoleState) (kept : Option Entry) (seat : SeatState SeenState) → HasRoom port → place_of seat.spot ≡ None
    → (o : Option ℕ) (r : Leaving)
    → LeavesFrom o v.parts.who v.parts.fed v.parts.kept v.seat.active v.seat.visits r kept seat.active seat.visits
    → LeaveFails (FitsSole port) (λ (p : SeenState). length p.seen) (λ (_ : Entry). Unit {0}) o v.parts.who v.parts.fed v.parts.kept 0 0 r
    → place_of seat.spot ≡ left_at r o
    → GrowsFrom SoleAdds (sole_rules v.port.rules).limits (journal_at v.port.books) (known_in v.port v.seat) o v.seat.visits seat.visits
    (journal_at port.books) (known_in port seat) → LeftSo v port o
left_so v port kept seat room away None r l f s g = g.1
left_so v port kept seat room away (Some place) r l f s g =
    let m = all_made v port kept seat room away place r l f s in
    let h : List Step = journal_at v.port.books place in
    let steps = left_by ((sole_rules v.port.rules).limits place) h (known_in v.port v.seat place) (journal_at port.books place) (known_in port seat place)
    (all_known port seat away place)
    v.parts.who v.parts.fed place v.seat.visits seat.visits g.steps g.visits_are g.grows.here g.reaches v.parts.kept v.seat.active m in
    (g.grows.here ∙ ap (λ (x : List Step). h ++ x) steps, g.grows.elsewhere)

leave_steps_same : (l l' : Shape) (h h' : List Step) (who who' fed fed' : ℕ) (kept kept' : Option Entry) (a a' : Active) → l' ≡ l → h' ≡ h → who' ≡ who
    → fed' ≡ fed → kept' ≡ kept → a' ≡ a
    → leave_steps l' h' who' fed' kept' a' ≡ leave_steps l h who fed kept a
leave_steps_same l l' h h' who who' fed fed' kept kept' a a' p q w f k e =
    ap (λ (z : Shape). leave_steps z h' who' fed' kept' a') p
    ∙ (ap (λ (z : List Step). leave_steps l z who' fed' kept' a') q
    ∙ (ap (λ (z : ℕ). leave_steps l h z fed' kept' a') w
    ∙ (ap (λ (z : ℕ). leave_steps l h who z kept' a') f
    ∙ (ap (λ (z : Option Entry). leave_steps l h who fed z a') k
    ∙ ap (λ (z : Active). leave_steps l h who fed kept z) e))))

-- what is granted where it is
active_here : (spot : Option (ℕ × SeenState)) (a : Active) (place : ℕ) → place_of spot ≡ Some place → active_at spot a place ≡ a
active_here None a place e = absurd (cc)
active_here (Some p) a place e =
    let same : p.0 ≡ place = ap (λ (o : Option ℕ). unwrap_or o 0) e in
    let t : nat_eq p.0 place ≡ true = grind (arith, nat_tests, same) in
    ap (λ (b : Bool). if b then a else active.Nothing) t

left_same : (v v' : SoleLife) (port port' : SoleState) (o : Option ℕ) → place_of v.seat.spot ≡ o → Parting v v'
    → sole_rules port.rules ≡ sole_rules v.port.rules → sole_rules port'.rules ≡ sole_rules v'.port.rules
    → LeftSo v port o → LeftSo v' port' o → SamePort port port'
left_same v v' port port' None e h f f' a b = record {
  rules = f' ∙ (h.port.rules ∙ sym f);
  journals = λ q. b q ∙ (ap (λ (l : List Step). l ++ []) (h.port.journals q) ∙ sym (a q));
}
left_same v v' port port' (Some place) e h f f' a b =
    let limits : (sole_rules v'.port.rules).limits place ≡ (sole_rules v.port.rules).limits place = ap (λ (r : PortRules). r.limits place) h.port.rules in
    let granted : v'.seat.active ≡ v.seat.active =
    sym (active_here v'.seat.spot v'.seat.active place (h.seat.spot ∙ e)) ∙ (h.seat.granted place ∙ active_here v.seat.spot v.seat.active place e) in
    let x : List Step = leave_steps ((sole_rules v.port.rules).limits place) (journal_at v.port.books place) v.parts.who v.parts.fed v.parts.kept
    v.seat.active in
    let x' : List Step = leave_steps ((sole_rules v'.port.rules).limits place) (journal_at v'.port.books place) v'.parts.who v'.parts.fed v'.parts.kept
    v'.seat.active in
    let steps : x' ≡ x = leave_steps_same ((sole_rules v.port.rules).limits place) ((sole_rules v'.port.rules).limits place)
    (journal_at v.port.books place) (journal_at v'.port.books place)
    v.parts.who v'.parts.who v.parts.fed v'.parts.fed v.parts.kept v'.parts.kept v.seat.active v'.seat.active limits (h.port.journals place) h.who h.fed
    h.kept granted in
    grown_same v.port v'.port port port' place place x x' refl steps h.port f a.0 a.1 f' b.0 b.1

-- TWO CLOSES OF SESSIONS THAT ENDED ALIKE
pub closed_same : (v v' : SoleLife) (port port' : SoleState) (kept kept' : Option Entry) (seat seat' : SeatState SeenState) → Parting v v'
    → Closes v port kept seat → Closes v' port' kept' seat'
    → HasRoom port → HasRoom port' → SamePort port port'
closed_same v v' port port' kept kept' seat seat' h c c' room room' =
    let o : Option ℕ = place_of v.seat.spot in
    left_same v v' port port' o refl h c.fixed c'.fixed (left_so v port kept seat room c.away o c.leaving c.leaves c.fails c.left c.grows)
    (subst (λ (z : Option ℕ). LeftSo v' port' z) h.seat.spot
    (left_so v' port' kept' seat' room' c'.away (place_of v'.seat.spot) c'.leaving c'.leaves c'.fails c'.left c'.grows))
