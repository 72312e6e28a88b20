-- What a worker keeps, step by step
use Rattle.std.proofs.Common.{◌≡◌, ◌≢◌, ◌⊎◌, inl, inr, ℕ, zero, suc, ◌+◌, ◌^◌, ◌<◌, ◌≤◌, Bool, true, false, List, [], ◌∷◌, ◌++◌, ◌||◌, nat_le, length, take, drop, slice_get, slice_set, Option, Some, None, is_some, get_or, count_by, refl, sym, ap, ◌∙◌, subst, arith}
use Rattle.std.specs.Prelude.{All}
use Rattle.std.proofs.lemmas.List.Elements.{All-weaker}
use Rattle.std.proofs.lemmas.List.{append-nil, drop_all, take_all}
use Rattle.slab.specs.Slab.{Slab, get, slab_len, Updates}
use Rattle.command_dialog.specs.declared.types.Ask.{Ask}
use Rattle.command_dialog.specs.declared.types.Grant.{Grant}
use Rattle.relay_outside.specs.Doors.{DoorTold}
use Rattle.media_recorder.specs.Ports.{FitsIf, Serves}
use Rattle.relay_outside.specs.Told.{LinkTold, LinkCounts}
use Rattle.stream_registry.specs.Told.{Histories}
use Rattle.stream_registry.specs.Names.{PortRules, places}
use Rattle.session_owed.specs.Standing.{Past}
use Rattle.session_owed.specs.Talk.{Own}
use Rattle.relay_session.specs.Places.{IsAt, IsOffered, IsThere}
use Rattle.relay_session.specs.SeatState.{HasFit}
use Rattle.relay_session.specs.declared.end.End.{End}
use Rattle.relay_session.specs.declared.seat_answers.Leaving.{Leaving}
use Rattle.relay_session.specs.declared.turn.Turn.{Turn}
use Rattle.relay_session.proofs.SeatStanding.{go_on_same, go_on_trans, one_goes_on}
use Rattle.relay_session.specs.SeatVisits.{Visit, calls_of}
use Rattle.relay_session.specs.SessionState.{SessionState}
use Rattle.relay_worker.specs.Benches.{AreFiled, IsFiled, IsNamed, IsSeated, IsSound, WorkerState, who_of}
use Rattle.media_recorder.specs.Joined.{joined_from}
use Rattle.media_recorder.specs.Says.{Says}
use Rattle.media_recorder.specs.declared.turn.RecEnd.{RecEnd}
use Rattle.media_recorder.specs.declared.turn.RecTurn.{RecTurn}
use Rattle.media_recorder.specs.declared.turn.RecTurn.TheVariants as turn
use Rattle.stream_registry.specs.Told.{Step}
use Rattle.relay_worker.specs.Filed.{form_of, is_ready, state_of}
use Rattle.relay_worker.specs.declared.recorder.RecordingForm.{RecordingForm}
use Rattle.relay_worker.specs.Rounds.{AlwaysReady, ClosesAt, ClosesBy, ClosesIf, GoesIf, HandsBack, IsClosed, IsGone, IsLeft, IsPassed, IsTurned, Recorded, RecordsAt, RecordsIf, Rounds, TurnsAt, TurnsBy, TurnsIf, Walks}
use Rattle.relay_worker.specs.Running.{GoesAhead, HasRun, IsReadied, KeepsOn, Label, label_of}
use Rattle.relay_worker.specs.Sessions.{IsNewSession}
use Rattle.relay_worker.specs.declared.bench.Bench.{Bench}
use Rattle.relay_worker.specs.declared.bench.Seated.{Seated}
use Rattle.relay_worker.specs.declared.bench.Terms.{Terms}
use Rattle.relay_worker.specs.declared.recorder.Recorder.{Recorder}
use Rattle.relay_worker.specs.declared.round.Round.{Round}
use Rattle.relay_worker.proofs.Slabs.{gone_cases, put_cases}

no_calls : (c : List Own) (visits : List Visit) → c ≡ [] → visits ≡ [] → c ≡ calls_of visits
no_calls c visits a b = a ∙ sym (ap calls_of b)

pub named_more : (number had who : ℕ) → IsNamed number had who → IsNamed number (had + 1) who
named_more number had who n = record { from = n.from; to = let t = n.to in omega arith }

module _ {Q : Type 0} where
  pub fit_on : (fits fits' : ℕ → Q → Type 0) (spot : Option (ℕ × Q)) → ((q : ℕ) (p : Q) → fits q p → fits' q p) → HasFit fits spot → HasFit fits' spot
  fit_on fits fits' None on f = tt
  fit_on fits fits' (Some p) on f = on p.0 p.1 f

  file_on : (fits fits' : Q → Type 0) (pass : Option Q) → ((p : Q) → fits p → fits' p) → FitsIf fits pass → FitsIf fits' pass
  file_on fits fits' None on f = tt
  file_on fits fits' (Some p) on f = on p f

module _ {P Q : Type 0} (fits : P → ℕ → Q → Type 0) (rules : P → PortRules) where
  -- a port after others' calls
  pub record Goes (x y : P) : Type 0 where
    pub fixed : rules y ≡ rules x
    pub passes : (q : ℕ) (p : Q) → fits x q p → fits y q p

module _ {P Q L : Type 0} (fits : P → ℕ → Q → Type 0) (rules : P → PortRules) where
  pub at_on : (x y : P) (number had : ℕ) (s : Seated P L Q) → Goes fits rules x y → IsSeated (fits x) (places (rules x)) number had s → IsSeated (fits y) (places (rules y)) number had s
  at_on x y number had s g i =
      let same : places (rules y) ≡ places (rules x) = ap places g.fixed in
      record {
        fit = fit_on (fits x) (fits y) s.session.seat.spot g.passes i.fit;
        at = λ n. let a = i.at n in record {
          fit = fit_on (fits x) (fits y) s.session.seat.spot g.passes a.fit;
          there = subst (λ (k : ℕ). IsThere k s.session.parts.place) (sym same) a.there;
          calls = a.calls;
        };
        over = i.over;
        named = i.named;
      }

  -- ---- the sessions after a change at one key

  pub seated_put : (x y : P) (number had : ℕ) (old new : Slab (Seated P L Q)) (key : ℕ) (s' : Seated P L Q) → Goes fits rules x y → Updates old new key (Some s')
      → IsSeated (fits y) (places (rules y)) number had s'
      → ((k : ℕ) (s : Seated P L Q) → get old k ≡ Some s → IsSeated (fits x) (places (rules x)) number had s)
      → (k : ℕ) (s : Seated P L Q) → get new k ≡ Some s → IsSeated (fits y) (places (rules y)) number had s
  seated_put x y number had old new key s' g u i was k s at =
      elim (put_cases old new key s' u k s at) [
        | inl e ↦ subst (λ (t : Seated P L Q). IsSeated (fits y) (places (rules y)) number had t) (sym e.1) i
        | inr d ↦ at_on x y number had s g (was k s d.1)
      ]

  pub seated_gone : (x y : P) (number had : ℕ) (old new : Slab (Seated P L Q)) (key : ℕ) → Goes fits rules x y → Updates old new key None
      → ((k : ℕ) (s : Seated P L Q) → get old k ≡ Some s → IsSeated (fits x) (places (rules x)) number had s)
      → (k : ℕ) (s : Seated P L Q) → get new k ≡ Some s → IsSeated (fits y) (places (rules y)) number had s
  seated_gone x y number had old new key g u was k s at = at_on x y number had s g (was k s (gone_cases old new key u k s at).1)

  seated_had : (x : P) (number had : ℕ) (s : Seated P L Q) → IsSeated (fits x) (places (rules x)) number had s → IsSeated (fits x) (places (rules x)) number (had + 1) s
  seated_had x number had s i = record { fit = i.fit; at = i.at; over = i.over; named = named_more number had s.session.parts.who i.named }

  -- a new session, which is nowhere
  pub seated_new : (x : P) (t : Terms) (had : ℕ) (s : Seated P L Q) → IsNewSession t had s.session → s.over ≡ false → IsSeated (fits x) (places (rules x)) t.number (had + 1) s
  seated_new x t had s n o =
      let fit : HasFit (fits x) s.session.seat.spot = subst (HasFit (fits x)) (sym n.nowhere.0) tt in
      record {
        fit = fit;
        at = λ e. record {
          fit = fit;
          there = subst (IsThere (places (rules x))) (sym n.nowhere.2) tt;
          calls = no_calls s.session.parts.calls s.session.seat.visits (ap (λ (p : Past). p.calls) n.past) n.nowhere.1;
        };
        over = o ∙ sym (ap is_some n.lives);
        named = record { from = let w = n.who in omega arith; to = let w = n.who in omega arith };
      }

  pub seated_more : (x : P) (t : Terms) (had : ℕ) (old new : Slab (Seated P L Q)) (key : ℕ) (s' : Seated P L Q) → IsNewSession t had s'.session → s'.over ≡ false
      → Updates old new key (Some s')
      → ((k : ℕ) (s : Seated P L Q) → get old k ≡ Some s → IsSeated (fits x) (places (rules x)) t.number had s)
      → (k : ℕ) (s : Seated P L Q) → get new k ≡ Some s → IsSeated (fits x) (places (rules x)) t.number (had + 1) s
  seated_more x t had old new key s' n o u was k s at =
      elim (put_cases old new key s' u k s at) [
        | inl e ↦ subst (λ (y : Seated P L Q). IsSeated (fits x) (places (rules x)) t.number (had + 1) y) (sym e.1) (seated_new x t had s' n o)
        | inr d ↦ seated_had x t.number had s (was k s d.1)
      ]

pub filed_on : {P K Q : Type 0} (fits : P → ℕ → Q → Type 0) (rules : P → PortRules) (x y : P) (rs : List (Recorder P K Q)) → Goes fits rules x y → AreFiled fits rules x rs → All (IsFiled (fits y) (length (rules y).names)) rs
filed_on fits rules x y rs g all =
    let same : length (rules x).names ≡ length (rules y).names = sym (ap (λ (r : PortRules). length r.names) g.fixed) in
    All-weaker (IsFiled (fits x) (length (rules x).names)) (IsFiled (fits y) (length (rules y).names)) (λ r f. record {
      there = subst (λ (k : ℕ). (state_of r).seat.place < k) same f.there;
      fit = file_on (fits x (state_of r).seat.place) (fits y (state_of r).seat.place) (state_of r).seat.pass (g.passes (state_of r).seat.place) f.fit;
    }) rs all

-- ---- each session has a name of its own

module _ {P Q L : Type 0} where
  abbrev pub Single : Slab (Seated P L Q) → Type 0
  Single sessions = (j k : ℕ) (s u : Seated P L Q) → get sessions j ≡ Some s → get sessions k ≡ Some u → s.session.parts.who ≡ u.session.parts.who → j ≡ k

  pub single_put : (old new : Slab (Seated P L Q)) (key : ℕ) (s s' : Seated P L Q) → get old key ≡ Some s → Updates old new key (Some s') → s'.session.parts.who ≡ s.session.parts.who → Single old → Single new
  single_put old new key s s' here u who was i j t x ti xj same =
      elim (put_cases old new key s' u i t ti) [
        | inl e ↦ elim (put_cases old new key s' u j x xj) [
          | inl f ↦ e.0 ∙ sym f.0
          | inr f ↦ e.0 ∙ was key j s x here f.1 (sym who ∙ (ap (λ (y : Seated P L Q). y.session.parts.who) (sym e.1) ∙ same))
        ]
        | inr e ↦ elim (put_cases old new key s' u j x xj) [
          | inl f ↦ was i key t s e.1 here (same ∙ (ap (λ (y : Seated P L Q). y.session.parts.who) f.1 ∙ who)) ∙ sym f.0
          | inr f ↦ was i j t x e.1 f.1 same
        ]
      ]

  pub single_gone : (old new : Slab (Seated P L Q)) (key : ℕ) → Updates old new key None → Single old → Single new
  single_gone old new key u was i j t x ti xj same = was i j t x (gone_cases old new key u i t ti).1 (gone_cases old new key u j x xj).1 same

  pub single_more : (number had : ℕ) (old new : Slab (Seated P L Q)) (key : ℕ) (s' : Seated P L Q) → Updates old new key (Some s') → s'.session.parts.who ≡ who_of number had
      → ((k : ℕ) (s : Seated P L Q) → get old k ≡ Some s → IsNamed number had s.session.parts.who) → Single old → Single new
  single_more number had old new key s' u who named was i j t x ti xj same =
      let unlike : (k : ℕ) (y : Seated P L Q) → get old k ≡ Some y → y.session.parts.who ≡ s'.session.parts.who → ⊥ = λ k y at e. let l = (named k y at).to in omega (arith, e, who) in
      elim (put_cases old new key s' u i t ti) [
        | inl f ↦ elim (put_cases old new key s' u j x xj) [
          | inl h ↦ f.0 ∙ sym h.0
          | inr h ↦ absurd (unlike j x h.1 (sym same ∙ ap (λ (y : Seated P L Q). y.session.parts.who) f.1))
        ]
        | inr f ↦ elim (put_cases old new key s' u j x xj) [
          | inl h ↦ absurd (unlike i t f.1 (same ∙ ap (λ (y : Seated P L Q). y.session.parts.who) h.1))
          | inr h ↦ was i j t x f.1 h.1 same
        ]
      ]

-- ---- the whole

module _ {P D Q L : Type 0} (fits : P → ℕ → Q → Type 0) (rules : P → PortRules) (doors : D → DoorTold) where
  -- a session is put back where it was
  pub sound_put : (t : Terms) (b b' : Bench P D Q L) (key : ℕ) (s s' : Seated P L Q) → IsSound fits rules doors t b → get b.sessions key ≡ Some s
      → Updates b.sessions b'.sessions key (Some s') → slab_len b'.sessions ≡ slab_len b.sessions → b'.sessions.capacity ≡ b.sessions.capacity
      → Goes fits rules b.port b'.port → IsSeated (fits b'.port) (places (rules b'.port)) t.number b.had s' → s'.session.parts.who ≡ s.session.parts.who
      → b'.door ≡ b.door → b'.had ≡ b.had → b'.closed ≡ b.closed → IsSound fits rules doors t b'
  sound_put t b b' key s s' w here u len cap g i who door had closed = record {
    number = w.number;
    short = w.short;
    few = let f = w.few in omega (arith, had);
    given = ap (λ (d : D). (doors d).given) door ∙ (w.given ∙ sym had);
    closed = ap (λ (d : D). (doors d).closed) door ∙ (w.closed ∙ sym closed);
    most = let m = w.most in omega (arith, len);
    room = let r = w.room in omega (arith, cap);
    seated = λ k y at. subst (λ (h : ℕ). IsSeated (fits b'.port) (places (rules b'.port)) t.number h y) (sym had)
        (seated_put fits rules b.port b'.port t.number b.had b.sessions b'.sessions key s' g u i w.seated k y at);
    single = single_put b.sessions b'.sessions key s s' here u who w.single;
  }

  -- a session is gone, and its link went to the door
  pub sound_gone : (t : Terms) (b b' : Bench P D Q L) (key : ℕ) → IsSound fits rules doors t b → Updates b.sessions b'.sessions key None
      → slab_len b'.sessions + 1 ≡ slab_len b.sessions → b'.sessions.capacity ≡ b.sessions.capacity → Goes fits rules b.port b'.port
      → (doors b'.door).given ≡ (doors b.door).given → (doors b'.door).closed ≡ (doors b.door).closed → b'.had ≡ b.had → b'.closed ≡ b.closed → IsSound fits rules doors t b'
  sound_gone t b b' key w u len cap g given shut had closed = record {
    number = w.number;
    short = w.short;
    few = let f = w.few in omega (arith, had);
    given = given ∙ (w.given ∙ sym had);
    closed = shut ∙ (w.closed ∙ sym closed);
    most = let m = w.most in omega (arith, len);
    room = let r = w.room in omega (arith, cap);
    seated = λ k y at. subst (λ (h : ℕ). IsSeated (fits b'.port) (places (rules b'.port)) t.number h y) (sym had)
        (seated_gone fits rules b.port b'.port t.number b.had b.sessions b'.sessions key g u w.seated k y at);
    single = single_gone b.sessions b'.sessions key u w.single;
  }

  -- a link came
  pub sound_more : (t : Terms) (b b' : Bench P D Q L) (key : ℕ) (s' : Seated P L Q) → IsSound fits rules doors t b → slab_len b.sessions < t.links → b.had < 2 ^ 40
      → IsNewSession t b.had s'.session → s'.over ≡ false → Updates b.sessions b'.sessions key (Some s') → slab_len b'.sessions ≡ slab_len b.sessions + 1
      → b'.sessions.capacity ≡ b.sessions.capacity → b'.port ≡ b.port
      → (doors b'.door).given ≡ (doors b.door).given + 1 → (doors b'.door).closed ≡ (doors b.door).closed → b'.had ≡ b.had + 1 → b'.closed ≡ b.closed → IsSound fits rules doors t b'
  sound_more t b b' key s' w place more n o u len cap port given shut had closed = record {
    number = w.number;
    short = w.short;
    few = omega (arith, had, more);
    given = given ∙ (ap (λ (h : ℕ). h + 1) w.given ∙ sym had);
    closed = shut ∙ (w.closed ∙ sym closed);
    most = omega (arith, len, place);
    room = let r = w.room in omega (arith, cap);
    seated = λ k y at. subst (λ (h : ℕ). IsSeated (fits b'.port) (places (rules b'.port)) t.number h y) (sym had)
        (subst (λ (x : P). IsSeated (fits x) (places (rules x)) t.number (b.had + 1) y) (sym port)
        (seated_more fits rules b.port t b.had b.sessions b'.sessions key s' n o u w.seated k y at));
    single = single_more t.number b.had b.sessions b'.sessions key s' u n.who (λ k y at. (w.seated k y at).named) w.single;
  }

  -- the door or the port alone
  pub sound_same : (t : Terms) (b b' : Bench P D Q L) → IsSound fits rules doors t b → b'.sessions ≡ b.sessions → Goes fits rules b.port b'.port
      → (doors b'.door).given ≡ (doors b.door).given → (doors b'.door).closed ≡ b'.closed → b'.had ≡ b.had → IsSound fits rules doors t b'
  sound_same t b b' w same g given closed had = record {
    number = w.number;
    short = w.short;
    few = let f = w.few in omega (arith, had);
    given = given ∙ (w.given ∙ sym had);
    closed = closed;
    most = let m = w.most in subst (λ (l : Slab (Seated P L Q)). slab_len l ≤ t.links) (sym same) m;
    room = subst (λ (l : Slab (Seated P L Q)). t.links ≤ l.capacity) (sym same) w.room;
    seated = λ k y at. subst (λ (h : ℕ). IsSeated (fits b'.port) (places (rules b'.port)) t.number h y) (sym had)
        (at_on fits rules b.port b'.port t.number b.had y g (w.seated k y (ap (λ (l : Slab (Seated P L Q)). get l k) (sym same) ∙ at)));
    single = subst (λ (l : Slab (Seated P L Q)). (j k : ℕ) (s u : Seated P L Q) → get l j ≡ Some s → get l k ≡ Some u → s.session.parts.who ≡ u.session.parts.who → j ≡ k) (sym same) w.single;
  }

  -- a new worker
  pub sound_new : (t : Terms) (b : Bench P D Q L) → t.number < 2 ^ 20 → t.limits.max_message ≤ 4194304 → b.sessions.slots ≡ [] → t.links ≤ b.sessions.capacity → b.had ≡ 0 → b.closed ≡ false
      → (doors b.door).given ≡ 0 → (doors b.door).closed ≡ false → IsSound fits rules doors t b
  sound_new t b number short empty room had closed given shut =
      let none : (k : ℕ) (y : Seated P L Q) → get b.sessions k ≡ Some y → ⊥ = λ k y at. let n : None ≡ Some y = sym (ap (λ (l : List (Option (Seated P L Q))). get_or l k None) empty) ∙ at in cc in
      record {
        number = number;
        short = short;
        few = omega (arith, had);
        given = given ∙ sym had;
        closed = shut ∙ sym closed;
        most = let z : slab_len b.sessions ≡ 0 = ap (count_by is_some) empty in omega (arith, z);
        room = room;
        seated = λ k y at. absurd (none k y at);
        single = λ j k s u at by same. absurd (none j s at);
      }

-- ---- a port that goes ahead

module _ {P Q : Type 0} (fits : P → ℕ → Q → Type 0) (rules : P → PortRules) (root : P → Histories) where
  pub ahead_refl : (x : P) → GoesAhead fits rules root x x
  ahead_refl x = record { fixed = refl; roots = go_on_same (root x) (root x) (λ q. refl); passes = λ q p f. f }

  pub ahead_trans : (x y z : P) → GoesAhead fits rules root x y → GoesAhead fits rules root y z → GoesAhead fits rules root x z
  ahead_trans x y z a b = record { fixed = b.fixed ∙ a.fixed; roots = go_on_trans (root x) (root y) (root z) a.roots b.roots; passes = λ q p f. b.passes q p (a.passes q p f) }

  pub ahead_serves : (busies : P → ℕ) (place : ℕ) (x y : P) → Serves rules root busies fits place x y → GoesAhead fits rules root x y
  ahead_serves busies place x y s = record { fixed = s.fixed; roots = one_goes_on (root x) (root y) place s.here s.others; passes = s.still_fit }

  pub goes_of : (x y : P) → GoesAhead fits rules root x y → Goes fits rules x y
  goes_of x y a = record { fixed = a.fixed; passes = a.passes }

-- ---- whether a session has ended

module _ {X : Type 0} where
  pub lives_if : (o : Option X) (b : Bool) → b ≡ is_some o → b ≡ false → o ≡ None
  lives_if None b e f = refl
  lives_if (Some x) b e f = absurd (let n : true ≡ false = sym e ∙ f in cc)

  pub over_if : (o : Option X) (b : Bool) → b ≡ is_some o → b ≡ true → o ≢ None
  over_if None b e f = absurd (let n : false ≡ true = sym e ∙ f in cc)
  over_if (Some x) b e f = λ n. absurd (let m : Some x ≡ None = n in cc)

-- ---- the step at a key

module _ {P D Q L : Type 0} (takes : P → Seated P L Q → Turn → P → Seated P L Q → Type 0) (busies : P → ℕ) (ready : L → Bool → Type 0) where
  turns_by_over : (o : Option End) (key : ℕ) (s : Seated P L Q) (b : Bench P D Q L) → o ≢ None → TurnsBy takes busies ready o key s b b
  turns_by_over None key s b n = absurd (n refl)
  turns_by_over (Some e) key s b n = refl

  pub turns_over : (key : ℕ) (s : Seated P L Q) (b : Bench P D Q L) → get b.sessions key ≡ Some s → s.session.ended ≢ None → TurnsAt takes busies ready key b b
  turns_over key s b at n = subst (λ (o : Option (Seated P L Q)). TurnsIf takes busies ready o key b b) (sym at) (turns_by_over s.session.ended key s b n)

  pub turns_lives : (key : ℕ) (s : Seated P L Q) (b b' : Bench P D Q L) → get b.sessions key ≡ Some s → s.session.ended ≡ None → IsTurned takes busies key s b b' → TurnsAt takes busies ready key b b'
  turns_lives key s b b' at n t = subst (λ (o : Option (Seated P L Q)). TurnsIf takes busies ready o key b b') (sym at) (subst (λ (o : Option End). TurnsBy takes busies ready o key s b b') (sym n) (inl t))

  -- one that isn't due
  pub turns_passed : (key : ℕ) (s : Seated P L Q) (b : Bench P D Q L) → get b.sessions key ≡ Some s → s.session.ended ≡ None → s.due ≡ false → ready s.link false → TurnsAt takes busies ready key b b
  turns_passed key s b at n due link =
      subst (λ (o : Option (Seated P L Q)). TurnsIf takes busies ready o key b b) (sym at) (subst (λ (o : Option End). TurnsBy takes busies ready o key s b b) (sym n) (inr (record { undue = due; unready = link; same = refl })))

  turned_by : (key : ℕ) (s : Seated P L Q) (b b' : Bench P D Q L) → AlwaysReady ready → IsTurned takes busies key s b b' ⊎ IsPassed takes busies ready s b b' → IsTurned takes busies key s b b'
  turned_by key s b b' always (inl t) = t
  turned_by key s b b' always (inr p) = absurd (let n : false ≡ true = always s.link false p.unready in cc)

  -- where links are always ready, each that lives takes a turn
  pub turns_always : AlwaysReady ready → (key : ℕ) (s : Seated P L Q) (b b' : Bench P D Q L) → get b.sessions key ≡ Some s → s.session.ended ≡ None → TurnsAt takes busies ready key b b' → IsTurned takes busies key s b b'
  turns_always always key s b b' at n t =
      turned_by key s b b' always (subst (λ (o : Option End). TurnsBy takes busies ready o key s b b') n (subst (λ (o : Option (Seated P L Q)). TurnsIf takes busies ready o key b b') at t))

module _ {P D Q L : Type 0} (told : L → Option LinkTold) (counts : L → LinkCounts) (doors : D → DoorTold) (closes : P → SessionState Q → Leaving → P → SessionState Q → Type 0) where
  closes_by_over : (o : Option End) (key : ℕ) (s : Seated P L Q) (b b' : Bench P D Q L) → o ≢ None → IsClosed told counts doors closes key s b b' → ClosesBy told counts doors closes o key s b b'
  closes_by_over None key s b b' n c = absurd (n refl)
  closes_by_over (Some e) key s b b' n c = c

  pub closes_over : (key : ℕ) (s : Seated P L Q) (b b' : Bench P D Q L) → get b.sessions key ≡ Some s → s.session.ended ≢ None → IsClosed told counts doors closes key s b b' → ClosesAt told counts doors closes key b b'
  closes_over key s b b' at n c = subst (λ (o : Option (Seated P L Q)). ClosesIf told counts doors closes o key b b') (sym at) (closes_by_over s.session.ended key s b b' n c)

  pub closes_lives : (key : ℕ) (s : Seated P L Q) (b : Bench P D Q L) → get b.sessions key ≡ Some s → s.session.ended ≡ None → ClosesAt told counts doors closes key b b
  closes_lives key s b at n = subst (λ (o : Option (Seated P L Q)). ClosesIf told counts doors closes o key b b) (sym at) (subst (λ (o : Option End). ClosesBy told counts doors closes o key s b b) (sym n) refl)

module _ {P Q L : Type 0} where
  pub seated_turned : (fits : P → ℕ → Q → Type 0) (rules : P → PortRules) (y : P) (number had : ℕ) (s s' : Seated P L Q) → IsNamed number had s.session.parts.who → s'.session.parts.who ≡ s.session.parts.who
      → IsAt (fits y) (places (rules y)) s'.session.parts s'.session.seat → s'.over ≡ is_some s'.session.ended → IsSeated (fits y) (places (rules y)) number had s'
  seated_turned fits rules y number had s s' named who at over = record { fit = at.fit; at = λ n. at; over = over; named = subst (IsNamed number had) (sym who) named }

  -- one that was closed and is still there
  pub seated_left : (fits : P → ℕ → Q → Type 0) (rules : P → PortRules) (y : P) (number had : ℕ) (s s' : Seated P L Q) → IsNamed number had s.session.parts.who → s'.session.parts.who ≡ s.session.parts.who
      → HasFit (fits y) s'.session.seat.spot → s'.over ≡ true → is_some s'.session.ended ≡ true → IsSeated (fits y) (places (rules y)) number had s'
  seated_left fits rules y number had s s' named who fit over ended = record {
    fit = fit;
    at = λ n. absurd (let e : is_some s'.session.ended ≡ false = ap is_some n in let f : true ≡ false = sym ended ∙ e in cc);
    over = over ∙ sym ended;
    named = subst (IsNamed number had) (sym who) named;
  }

-- two looks at one key
module _ {P Q L : Type 0} where
  pub some_same : (s u : Seated P L Q) → Some s ≡ Some u → s ≡ u
  some_same s u e = cc

  pub living_at : (o : Option (Seated P L Q)) (s u : Seated P L Q) → Some s ≡ o → Some u ≡ o → s.over ≡ is_some s.session.ended → s.over ≡ false → u.session.ended ≡ None
  living_at o s u a b over is = subst (λ (x : Seated P L Q). x.session.ended ≡ None) (some_same s u (a ∙ sym b)) (lives_if s.session.ended s.over over is)

  pub ended_at : (o : Option (Seated P L Q)) (s u : Seated P L Q) → Some s ≡ o → Some u ≡ o → s.over ≡ is_some s.session.ended → s.over ≡ true → u.session.ended ≢ None
  ended_at o s u a b over is = subst (λ (x : Seated P L Q). x.session.ended ≢ None) (some_same s u (a ∙ sym b)) (over_if s.session.ended s.over over is)

pub offered_on : (desk : Ask → Grant) (n m : ℕ) → m ≡ n → IsOffered desk n → IsOffered desk m
offered_on desk n m e o = subst (IsOffered desk) (sym e) o

-- one step more
pub walks_more : {B : Type 0} (step : ℕ → B → B → Type 0) (key : ℕ) (b m b' : B) → Walks step key b m → step key m b' → Walks step (key + 1) b b'
walks_more {B} step key b m b' w s = let e : suc key ≡ key + 1 = omega arith in subst (λ (n : ℕ). Walks step n b b') e (m, (w, s))

-- ---- a close

module _ {P D Q L : Type 0} (told : L → Option LinkTold) (counts : L → LinkCounts) (doors : D → DoorTold) where
  pub is_gone : (key : ℕ) (s : Seated P L Q) (b b' : Bench P D Q L) (mid : Slab (Seated P L Q)) (link : L) → Updates b.sessions mid key None → slab_len mid + 1 ≡ slab_len b.sessions → b'.sessions ≡ mid
      → link ≡ s.link → HandsBack told counts doors link b b' → IsGone told counts doors key s b b'
  is_gone key s b b' mid link u len same at h = record {
    gone = subst (λ (l : Slab (Seated P L Q)). Updates b.sessions l key None) (sym same) u;
    count = subst (λ (l : Slab (Seated P L Q)). slab_len l + 1 ≡ slab_len b.sessions) (sym same) len;
    back = subst (λ (l : L). HandsBack told counts doors l b b') at h;
  }

  pub goes_left : (key : ℕ) (s : Seated P L Q) (now : SessionState Q) (b b' : Bench P D Q L) (x y : Bool) → x ≡ y → x ≡ true → IsGone told counts doors key s b b' → GoesIf told counts doors y key s now b b'
  goes_left key s now b b' x y e f g = subst (λ (z : Bool). GoesIf told counts doors z key s now b b') (sym f ∙ e) g

  pub goes_stays : (key : ℕ) (s : Seated P L Q) (now : SessionState Q) (b b' : Bench P D Q L) (x y : Bool) → x ≡ y → x ≡ false → IsLeft told counts doors key s now b b' → GoesIf told counts doors y key s now b b'
  goes_stays key s now b b' x y e f g = subst (λ (z : Bool). GoesIf told counts doors z key s now b b') (sym f ∙ e) g

  pub sound_back : (fits : P → ℕ → Q → Type 0) (rules : P → PortRules) (t : Terms) (b b' : Bench P D Q L) (key : ℕ) (s : Seated P L Q) → IsSound fits rules doors t b → IsGone told counts doors key s b b'
      → b'.sessions.capacity ≡ b.sessions.capacity → Goes fits rules b.port b'.port → IsSound fits rules doors t b'
  sound_back fits rules t b b' key s w gone cap g =
      elim gone.back [
        | inl h ↦ sound_gone fits rules doors t b b' key w gone.gone gone.count cap g (ap (λ (d : DoorTold). d.given) h.0) (ap (λ (d : DoorTold). d.closed) h.0) (ap (λ (x : Bench P D Q L). x.had) h.1) (ap (λ (x : Bench P D Q L). x.closed) h.1)
        | inr h ↦ sound_gone fits rules doors t b b' key w gone.gone gone.count cap g (ap (λ (d : DoorTold). d.given) h.0) (ap (λ (d : DoorTold). d.closed) h.0) (ap (λ (x : Bench P D Q L). x.had) h.1) (ap (λ (x : Bench P D Q L). x.closed) h.1)
      ]

module _ {P Q L : Type 0} where
  pub over_same : (o : Option (Seated P L Q)) (s u n : Seated P L Q) → Some s ≡ o → Some u ≡ o → s.over ≡ true → n ≡ record u { session = n.session } → n.over ≡ true
  over_same o s u n a b over is = ap (λ (x : Seated P L Q). x.over) is ∙ (ap (λ (x : Seated P L Q). x.over) (some_same u s (b ∙ sym a)) ∙ over)

  pub left_is : (u n : Seated P L Q) → n ≡ record u { session = n.session } → n.over ≡ true → n ≡ record u { session = n.session; over = true }
  left_is u n is over = is ∙ ap (λ (x : Bool). record u { session = n.session; over = x }) (sym (ap (λ (x : Seated P L Q). x.over) is) ∙ over)

-- ---- recorders

pub get_at : {X : Type 0} (xs : List X) (i : ℕ) (d : X) → i < length xs → slice_get xs i ≡ Some (get_or xs i d)
get_at [] i d le = absurd (omega (arith, le))
get_at (x ∷ xs) zero d le = refl
get_at (x ∷ xs) (suc i) d le = get_at xs i d (omega (arith, le))

abbrev label : ℕ → ℕ → RecordingForm → ℕ → Label
label who place form longest = record { who = who; place = place; form = form; longest = longest }

pub label_same : {P K Q : Type 0} (r r' : Recorder P K Q) → (state_of r').seat.who ≡ (state_of r).seat.who
    → (state_of r').seat.place ≡ (state_of r).seat.place → form_of r' ≡ form_of r → (state_of r').tape.longest ≡ (state_of r).tape.longest → label_of r' ≡ label_of r
label_same r r' who place form longest =
    ap (λ (n : ℕ). label n (state_of r').seat.place (form_of r') (state_of r').tape.longest) who
    ∙ (ap (λ (n : ℕ). label (state_of r).seat.who n (form_of r') (state_of r').tape.longest) place
    ∙ (ap (λ (f : RecordingForm). label (state_of r).seat.who (state_of r).seat.place f (state_of r').tape.longest) form
    ∙ ap (label (state_of r).seat.who (state_of r).seat.place (form_of r)) longest))

module _ {P D K Q L : Type 0} (files : P → Recorder P K Q → RecTurn → P → Recorder P K Q → Type 0) where
  pub recorded_at : (i : ℕ) (r now : Recorder P K Q) (b b' : Bench P D Q L) (rs : List (Recorder P K Q)) → slice_get rs i ≡ Some r → Recorded files r b now b' → RecordsAt files i (b, rs) (b', slice_set rs i now)
  recorded_at i r now b b' rs at t = subst (λ (o : Option (Recorder P K Q)). RecordsIf files o i (b, rs) (b', slice_set rs i now)) (sym at) (record { now = now; turn = t; there = refl })

-- ---- a whole worker

pub kept : {X : Type 0} (len : ℕ) (new old : List X) → length new ≡ length old → len ≡ length old → take len (new ++ drop (length new) old) ≡ new
kept len new old a b = search (arith, drop_all, append-nil, take_all)

module _ {P D K Q L : Type 0} where
  pub keeps_at : (fits : P → ℕ → Q → Type 0) (rules : P → PortRules) (root : P → Histories) (w v w' : WorkerState P D K Q L) → w ≡ v → KeepsOn fits rules root w w' → KeepsOn fits rules root v w'
  keeps_at fits rules root w v w' e k = subst (λ (x : WorkerState P D K Q L). KeepsOn fits rules root x w') e k

  pub keeps_trans : (fits : P → ℕ → Q → Type 0) (rules : P → PortRules) (root : P → Histories) (u v w : WorkerState P D K Q L) → KeepsOn fits rules root u v → KeepsOn fits rules root v w → KeepsOn fits rules root u w
  keeps_trans fits rules root u v w a b = record { terms = b.terms ∙ a.terms; port = ahead_trans fits rules root u.bench.port v.bench.port w.bench.port a.port b.port; labels = b.labels ∙ a.labels }

  pub rounds_at : (told : L → Option LinkTold) (counts : L → LinkCounts) (doors : D → DoorTold) (takes : P → Seated P L Q → Turn → P → Seated P L Q → Type 0) (busies : P → ℕ) (ready : L → Bool → Type 0) (closes : P → SessionState Q → Leaving → P → SessionState Q → Type 0)
      (files : P → Recorder P K Q → RecTurn → P → Recorder P K Q → Type 0) (w v w' : WorkerState P D K Q L) (a : Round) → w ≡ v → Rounds told counts doors takes busies ready closes files w a w' → Rounds told counts doors takes busies ready closes files v a w'
  rounds_at told counts doors takes busies ready closes files w v w' a e r = subst (λ (x : WorkerState P D K Q L). Rounds told counts doors takes busies ready closes files x a w') e r

  pub records_at : (step : ℕ → Bench P D Q L × List (Recorder P K Q) → Bench P D Q L × List (Recorder P K Q) → Type 0) (b b' : Bench P D Q L) (old items new xs : List (Recorder P K Q)) → old ≡ items → xs ≡ new
      → Walks step (length old) (b, old) (b', new) → Walks step (length items) (b, items) (b', xs)
  records_at step b b' old items new xs e f w =
      subst (λ (l : List (Recorder P K Q)). Walks step (length l) (b, l) (b', xs)) e (subst (λ (l : List (Recorder P K Q)). Walks step (length old) (b, old) (b', l)) (sym f) w)

  -- a round that leaves none, and a door that is done
  pub has_run : (told : L → Option LinkTold) (counts : L → LinkCounts) (doors : D → DoorTold) (takes : P → Seated P L Q → Turn → P → Seated P L Q → Type 0) (busies : P → ℕ) (ready : L → Bool → Type 0) (closes : P → SessionState Q → Leaving → P → SessionState Q → Type 0)
      (files : P → Recorder P K Q → RecTurn → P → Recorder P K Q → Type 0) (fits : P → ℕ → Q → Type 0) (rules : P → PortRules) (w w' : WorkerState P D K Q L) (a : Round) → Rounds told counts doors takes busies ready closes files w a w'
      → IsSound fits rules doors w'.terms w'.bench → a.closed ≡ true → a.live ≡ 0 → HasRun doors w'
  has_run told counts doors takes busies ready closes files fits rules w w' a r s closed live = record {
    none = ap (λ (x : Round). x.live) (sym r.answers) ∙ live;
    done = done_if (doors w'.bench.door).closed (doors w'.bench.door).given (let f = s.few in let g = s.given in omega arith) (ap (λ (x : Round). x.closed) (sym r.answers) ∙ closed);
  }
    where
      done_if : (c : Bool) (n : ℕ) → n ≤ 2 ^ 40 → (c || nat_le (2 ^ 40) n) ≡ true → (c ≡ true) ⊎ (n ≡ 2 ^ 40)
      done_if true n le e = inl refl
      done_if false n le e = inr (let f : 2 ^ 40 ≤ n = grind arith in omega (arith, f, le))

-- ---- recorders that get ready

module _ {P D Q L : Type 0} where
  pub readied_same : (b : Bench P D Q L) → IsReadied b b
  readied_same b = record { same = refl; refused = λ r. r }

  pub readied_then : (a b c : Bench P D Q L) → IsReadied a b → IsReadied b c → IsReadied a c
  readied_then a b c x y = record {
    same = y.same ∙ ap (λ (z : Bench P D Q L). record z { port = c.port; refused = c.refused }) x.same;
    refused = λ r. x.refused (y.refused r);
  }

-- where it is one of two
pub or_not : (a b : Bool) → (a || b) ≡ false → a ≡ false
or_not true b e = e
or_not false b e = refl

pub or_true : (a b : Bool) → b ≡ true → (a || b) ≡ true
or_true true b e = refl
or_true false b e = e

-- the answer of its last turn, by which it has ended
pub ended_says : {P K Q : Type 0} (mine : Q → List ℕ) (root : List Step) (busies busies' : ℕ) (answer : RecTurn) (r : Recorder P K Q) (e : RecEnd) → answer ≡ turn.Ended e
    → Says mine root busies busies' answer (state_of r) → is_ready r ≡ true
ended_says mine root busies busies' answer r e is says =
    let end : (state_of r).end ≡ Some e = subst (λ (a : RecTurn). Says mine root busies busies' a (state_of r)) is says in
    or_true (is_some (joined_from (state_of r).seat.calls)) (is_some (state_of r).end) (ap is_some end)

pub joined_says : {P K Q : Type 0} (r : Recorder P K Q) → is_some (joined_from (state_of r).seat.calls) ≡ true → is_ready r ≡ true
joined_says r e = ap (λ (b : Bool). b || is_some (state_of r).end) e
