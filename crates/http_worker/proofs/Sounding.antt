-- What a worker keeps, step by step
use Rattle.std.proofs.Common.{◌≡◌, ◌≢◌, ◌⊎◌, inl, inr, ℕ, ◌+◌, ◌^◌, ◌<◌, ◌≤◌, Bool, true, false, List, [], ◌||◌, nat_le, Option, Some, None}
use Rattle.std.proofs.Common.{is_some, get_or, count_by, refl, sym, ap, ◌∙◌, subst, arith}
use Rattle.slab.specs.Slab.{Slab, get, slab_len, Updates}
use Rattle.relay_outside.specs.Doors.{DoorTold}
use Rattle.relay_outside.specs.Told.{LinkTold, LinkCounts}
use Rattle.stream_registry.specs.Names.{PortRules, places}
use Rattle.stream_registry.specs.Told.{Histories}
use Rattle.relay_session.specs.SeatState.{HasFit}
use Rattle.relay_session.specs.SeatVisits.{Visit, calls_of}
use Rattle.relay_session.specs.declared.seat_answers.Leaving.{Leaving}
use Rattle.relay_worker.specs.declared.round.Round.{Round}
use Rattle.relay_worker.proofs.Sounding.{Goes, ahead_trans, fit_on, lives_if, over_if}
use Rattle.session_owed.specs.Talk.{Own}
use Rattle.http_flv.specs.Keeping.{IsAt, IsThere}
use Rattle.http_flv.specs.PlayerState.{PlayerState}
use Rattle.http_flv.specs.declared.end.HttpEnd.{HttpEnd}
use Rattle.http_flv.specs.declared.turn.HttpTurn.{HttpTurn}
use Rattle.http_flv.proofs.Standing.{others_at}
use Rattle.http_worker.specs.Benches.{IsNamed, IsSeated, IsSound, WorkerState, who_of}
use Rattle.http_worker.specs.Players.{IsNewPlayer}
use Rattle.http_worker.specs.Rounds.{ClosesAt, ClosesBy, ClosesIf, GoesIf, HandsBack, IsClosed, IsGone, IsLeft, IsPassed, IsTurned, Rounds, TurnsAt, TurnsBy, TurnsIf}
use Rattle.http_worker.specs.Running.{HasRun, KeepsOn}
use Rattle.http_worker.specs.declared.bench.Bench.{Bench}
use Rattle.http_worker.specs.declared.bench.Seated.{Seated}
use Rattle.http_worker.specs.declared.bench.Terms.{Terms}
use Rattle.http_worker.proofs.Slabs.{Each, each_gone, each_put, single_gone, single_more, single_put}

no_calls : (c : List Own) (visits : List Visit) → c ≡ [] → visits ≡ [] → c ≡ calls_of visits
no_calls c visits a b = a ∙ sym (ap calls_of b)

pub named_more : (had who : ℕ) → IsNamed had who → IsNamed (had + 1) who
named_more had who n = record { from = n.from; to = let t = n.to in omega arith }

pub named_new : (had who : ℕ) → who ≡ who_of had → IsNamed (had + 1) who
named_new had who e = record { from = omega (arith, e); to = omega (arith, e) }

abbrev pub name : {P Q L : Type 0} → Seated P L Q → ℕ
name s = s.player.parts.who

module _ {P Q L : Type 0} (fits : P → ℕ → Q → Type 0) (rules : P → PortRules) where
  abbrev pub SeatedAt : P → ℕ → Seated P L Q → Type 0
  SeatedAt x had s = IsSeated (fits x) (places (rules x)) had s

  -- others have made calls
  seated_on : (x y : P) (had : ℕ) (s : Seated P L Q) → Goes fits rules x y → SeatedAt x had s → SeatedAt y had s
  seated_on x y had s g i = record {
    fit = fit_on (fits x) (fits y) s.player.seat.spot g.passes i.fit;
    at = λ n. others_at (fits x) (fits y) (places (rules x)) (places (rules y)) s.player.parts s.player.seat (ap places g.fixed) g.passes (i.at n);
    over = i.over;
    named = i.named;
  }

  seated_had : (x : P) (had : ℕ) (s : Seated P L Q) → SeatedAt x had s → SeatedAt x (had + 1) s
  seated_had x had s i = record { fit = i.fit; at = i.at; over = i.over; named = named_more had (name s) i.named }

  -- a new player, which is nowhere
  seated_new : (x : P) (t : Terms) (had : ℕ) (s : Seated P L Q) → IsNewPlayer t had s.player → s.over ≡ false → SeatedAt x (had + 1) s
  seated_new x t had s n o =
      let fit : HasFit (fits x) s.player.seat.spot = subst (HasFit (fits x)) (sym n.nowhere.0) tt in
      record {
        fit = fit;
        at = λ e. record {
          fit = fit;
          there = subst (IsThere (places (rules x))) (sym n.stage.0) tt;
          calls = no_calls s.player.parts.calls s.player.seat.visits n.empty.2 n.nowhere.1;
        };
        over = o ∙ sym (ap is_some n.lives);
        named = named_new had (name s) n.who;
      }

  pub seated_turned : (y : P) (had : ℕ) (s s' : Seated P L Q) → IsNamed had (name s) → name s' ≡ name s
      → IsAt (fits y) (places (rules y)) s'.player.parts s'.player.seat → s'.over ≡ is_some s'.player.ended → SeatedAt y had s'
  seated_turned y had s s' named who at over = record { fit = at.fit; at = λ n. at; over = over; named = subst (IsNamed had) (sym who) named }

  -- one that was closed and is still there
  pub seated_left : (y : P) (had : ℕ) (s s' : Seated P L Q) → IsNamed had (name s) → name s' ≡ name s → HasFit (fits y) s'.player.seat.spot → s'.over ≡ true
      → is_some s'.player.ended ≡ true → SeatedAt y had s'
  seated_left y had s s' named who fit over ended = record {
    fit = fit;
    at = λ n. absurd (let e : is_some s'.player.ended ≡ false = ap is_some n in let f : true ≡ false = sym ended ∙ e in cc);
    over = over ∙ sym ended;
    named = subst (IsNamed had) (sym who) named;
  }

-- ---- the whole

module _ {P D Q L : Type 0} (fits : P → ℕ → Q → Type 0) (rules : P → PortRules) (doors : D → DoorTold) where
  seated_as : (x : P) (had had' : ℕ) (slab : Slab (Seated P L Q)) → had' ≡ had → Each (SeatedAt fits rules x had) slab → Each (SeatedAt fits rules x had') slab
  seated_as x had had' slab e was = subst (λ (h : ℕ). Each (SeatedAt fits rules x h) slab) (sym e) was

  -- a player is put back where it was
  pub sound_put : (t : Terms) (b b' : Bench P D Q L) (key : ℕ) (s s' : Seated P L Q) → IsSound fits rules doors t b → get b.players key ≡ Some s
      → Updates b.players b'.players key (Some s') → slab_len b'.players ≡ slab_len b.players → b'.players.capacity ≡ b.players.capacity
      → Goes fits rules b.port b'.port → SeatedAt fits rules b'.port b.had s' → name s' ≡ name s → b'.door ≡ b.door → b'.had ≡ b.had → b'.closed ≡ b.closed
      → IsSound fits rules doors t b'
  sound_put t b b' key s s' w here u len cap g i who door had closed = record {
    short = w.short;
    few = let f = w.few in omega (arith, had);
    given = ap (λ (d : D). (doors d).given) door ∙ (w.given ∙ sym had);
    closed = ap (λ (d : D). (doors d).closed) door ∙ (w.closed ∙ sym closed);
    most = let m = w.most in omega (arith, len);
    room = let r = w.room in omega (arith, cap);
    seated = seated_as b'.port b.had b'.had b'.players had
        (each_put (SeatedAt fits rules b.port b.had) (SeatedAt fits rules b'.port b.had) b.players b'.players key s' u
        (λ x i. seated_on fits rules b.port b'.port b.had x g i) i w.seated);
    single = single_put name b.players b'.players key s s' here u who w.single;
  }

  -- a player is gone, and its link went to the door
  sound_gone : (t : Terms) (b b' : Bench P D Q L) (key : ℕ) → IsSound fits rules doors t b → Updates b.players b'.players key None
      → slab_len b'.players + 1 ≡ slab_len b.players → b'.players.capacity ≡ b.players.capacity → Goes fits rules b.port b'.port
      → (doors b'.door).given ≡ (doors b.door).given → (doors b'.door).closed ≡ (doors b.door).closed → b'.had ≡ b.had → b'.closed ≡ b.closed
      → IsSound fits rules doors t b'
  sound_gone t b b' key w u len cap g given shut had closed = record {
    short = w.short;
    few = let f = w.few in omega (arith, had);
    given = given ∙ (w.given ∙ sym had);
    closed = shut ∙ (w.closed ∙ sym closed);
    most = let m = w.most in omega (arith, len);
    room = let r = w.room in omega (arith, cap);
    seated = seated_as b'.port b.had b'.had b'.players had
        (each_gone (SeatedAt fits rules b.port b.had) (SeatedAt fits rules b'.port b.had) b.players b'.players key u
        (λ x i. seated_on fits rules b.port b'.port b.had x g i) w.seated);
    single = single_gone name b.players b'.players key u w.single;
  }

  -- a link came
  pub sound_more : (t : Terms) (b b' : Bench P D Q L) (key : ℕ) (s' : Seated P L Q) → IsSound fits rules doors t b → slab_len b.players < t.links
      → b.had < 2 ^ 40
      → IsNewPlayer t b.had s'.player → s'.over ≡ false → Updates b.players b'.players key (Some s') → slab_len b'.players ≡ slab_len b.players + 1
      → b'.players.capacity ≡ b.players.capacity → b'.port ≡ b.port
      → (doors b'.door).given ≡ (doors b.door).given + 1 → (doors b'.door).closed ≡ (doors b.door).closed → b'.had ≡ b.had + 1 → b'.closed ≡ b.closed
      → IsSound fits rules doors t b'
  sound_more t b b' key s' w place more n o u len cap port given shut had closed = record {
    short = w.short;
    few = omega (arith, had, more);
    given = given ∙ (ap (λ (h : ℕ). h + 1) w.given ∙ sym had);
    closed = shut ∙ (w.closed ∙ sym closed);
    most = omega (arith, len, place);
    room = let r = w.room in omega (arith, cap);
    seated = subst (λ (x : P). Each (SeatedAt fits rules x b'.had) b'.players) (sym port) (seated_as b.port (b.had + 1) b'.had b'.players had
        (each_put (SeatedAt fits rules b.port b.had) (SeatedAt fits rules b.port (b.had + 1)) b.players b'.players key s' u
        (λ x i. seated_had fits rules b.port b.had x i) (seated_new fits rules b.port t b.had s' n o) w.seated));
    single = single_more name b.players b'.players key s' u (λ k y at e. let l = (w.seated k y at).named.to in let m = n.who in omega (arith, e, m, l))
        w.single;
  }

  -- a new worker
  pub sound_new : (t : Terms) (b : Bench P D Q L) → t.limits.max_message ≤ 4194304 → b.players.slots ≡ [] → t.links ≤ b.players.capacity → b.had ≡ 0
      → b.closed ≡ false
      → (doors b.door).given ≡ 0 → (doors b.door).closed ≡ false → IsSound fits rules doors t b
  sound_new t b short empty room had closed given shut =
      let none : (k : ℕ) (y : Seated P L Q) → get b.players k ≡ Some y → ⊥ = λ k y at. let n : None ≡ Some y =
      sym (ap (λ (l : List (Option (Seated P L Q))). get_or l k None) empty) ∙ at in cc in
      record {
        short = short;
        few = omega (arith, had);
        given = given ∙ sym had;
        closed = shut ∙ sym closed;
        most = let z : slab_len b.players ≡ 0 = ap (count_by is_some) empty in omega (arith, z);
        room = room;
        seated = λ k y at. absurd (none k y at);
        single = λ j k s u at by same. absurd (none j s at);
      }

-- ---- the step at a key

module _ {P D Q L : Type 0} (takes : P → Seated P L Q → HttpTurn → P → Seated P L Q → Type 0) (busies : P → ℕ) (ready : L → Bool → Type 0) where
  turns_by_over : (o : Option HttpEnd) (key : ℕ) (s : Seated P L Q) (b : Bench P D Q L) → o ≢ None → TurnsBy takes busies ready o key s b b
  turns_by_over None key s b n = absurd (n refl)
  turns_by_over (Some e) key s b n = refl

  pub turns_over : (key : ℕ) (s : Seated P L Q) (b : Bench P D Q L) → get b.players key ≡ Some s → s.player.ended ≢ None
      → TurnsAt takes busies ready key b b
  turns_over key s b at n = subst (λ (o : Option (Seated P L Q)). TurnsIf takes busies ready o key b b) (sym at) (turns_by_over s.player.ended key s b n)

  pub turns_lives : (key : ℕ) (s : Seated P L Q) (b b' : Bench P D Q L) → get b.players key ≡ Some s → s.player.ended ≡ None
      → IsTurned takes busies key s b b' → TurnsAt takes busies ready key b b'
  turns_lives key s b b' at n t = subst (λ (o : Option (Seated P L Q)). TurnsIf takes busies ready o key b b') (sym at)
      (subst (λ (o : Option HttpEnd). TurnsBy takes busies ready o key s b b') (sym n) (inl t))

  -- one that isn't due
  pub turns_passed : (key : ℕ) (s : Seated P L Q) (b : Bench P D Q L) → get b.players key ≡ Some s → s.player.ended ≡ None → s.due ≡ false
      → ready s.link false → TurnsAt takes busies ready key b b
  turns_passed key s b at n due link = subst (λ (o : Option (Seated P L Q)). TurnsIf takes busies ready o key b b) (sym at)
      (subst (λ (o : Option HttpEnd). TurnsBy takes busies ready o key s b b) (sym n) (inr (record { undue = due; unready = link; same = refl })))

module _ {P D Q L : Type 0} (told : L → Option LinkTold) (counts : L → LinkCounts) (doors : D → DoorTold) (closes : P → PlayerState Q → Leaving → P
    → PlayerState Q → Type 0) where
  closes_by_over : (o : Option HttpEnd) (key : ℕ) (s : Seated P L Q) (b b' : Bench P D Q L) → o ≢ None → IsClosed told counts doors closes key s b b'
      → ClosesBy told counts doors closes o key s b b'
  closes_by_over None key s b b' n c = absurd (n refl)
  closes_by_over (Some e) key s b b' n c = c

  pub closes_over : (key : ℕ) (s : Seated P L Q) (b b' : Bench P D Q L) → get b.players key ≡ Some s → s.player.ended ≢ None
      → IsClosed told counts doors closes key s b b' → ClosesAt told counts doors closes key b b'
  closes_over key s b b' at n c = subst (λ (o : Option (Seated P L Q)). ClosesIf told counts doors closes o key b b') (sym at)
      (closes_by_over s.player.ended key s b b' n c)

  pub closes_lives : (key : ℕ) (s : Seated P L Q) (b : Bench P D Q L) → get b.players key ≡ Some s → s.player.ended ≡ None
      → ClosesAt told counts doors closes key b b
  closes_lives key s b at n = subst (λ (o : Option (Seated P L Q)). ClosesIf told counts doors closes o key b b) (sym at)
      (subst (λ (o : Option HttpEnd). ClosesBy told counts doors closes o key s b b) (sym n) refl)

-- whether it has ended, at two looks at one key
module _ {P Q L : Type 0} where
  some_same : (s u : Seated P L Q) → Some s ≡ Some u → s ≡ u
  some_same s u e = cc

  pub living_at : (o : Option (Seated P L Q)) (s u : Seated P L Q) → Some s ≡ o → Some u ≡ o → s.over ≡ is_some s.player.ended → s.over ≡ false
      → u.player.ended ≡ None
  living_at o s u a b over is = subst (λ (x : Seated P L Q). x.player.ended ≡ None) (some_same s u (a ∙ sym b)) (lives_if s.player.ended s.over over is)

  pub ended_at : (o : Option (Seated P L Q)) (s u : Seated P L Q) → Some s ≡ o → Some u ≡ o → s.over ≡ is_some s.player.ended → s.over ≡ true
      → u.player.ended ≢ None
  ended_at o s u a b over is = subst (λ (x : Seated P L Q). x.player.ended ≢ None) (some_same s u (a ∙ sym b)) (over_if s.player.ended s.over over is)

  pub over_same : (o : Option (Seated P L Q)) (s u n : Seated P L Q) → Some s ≡ o → Some u ≡ o → s.over ≡ true → n ≡ record u { player = n.player }
      → n.over ≡ true
  over_same o s u n a b over is = ap (λ (x : Seated P L Q). x.over) is ∙ (ap (λ (x : Seated P L Q). x.over) (some_same u s (b ∙ sym a)) ∙ over)

  pub left_is : (u n : Seated P L Q) → n ≡ record u { player = n.player } → n.over ≡ true → n ≡ record u { player = n.player; over = true }
  left_is u n is over = is ∙ ap (λ (x : Bool). record u { player = n.player; over = x }) (sym (ap (λ (x : Seated P L Q). x.over) is) ∙ over)

-- ---- a close

module _ {P D Q L : Type 0} (told : L → Option LinkTold) (counts : L → LinkCounts) (doors : D → DoorTold) where
  pub is_gone : (key : ℕ) (s : Seated P L Q) (b b' : Bench P D Q L) (mid : Slab (Seated P L Q)) (link : L) → Updates b.players mid key None
      → slab_len mid + 1 ≡ slab_len b.players → b'.players ≡ mid
      → link ≡ s.link → HandsBack told counts doors link b b' → IsGone told counts doors key s b b'
  is_gone key s b b' mid link u len same at h = record {
    gone = subst (λ (l : Slab (Seated P L Q)). Updates b.players l key None) (sym same) u;
    count = subst (λ (l : Slab (Seated P L Q)). slab_len l + 1 ≡ slab_len b.players) (sym same) len;
    back = subst (λ (l : L). HandsBack told counts doors l b b') at h;
  }

  pub goes_left : (key : ℕ) (s : Seated P L Q) (now : PlayerState Q) (b b' : Bench P D Q L) (x y : Bool) → x ≡ y → x ≡ true
      → IsGone told counts doors key s b b' → GoesIf told counts doors y key s now b b'
  goes_left key s now b b' x y e f g = subst (λ (z : Bool). GoesIf told counts doors z key s now b b') (sym f ∙ e) g

  pub goes_stays : (key : ℕ) (s : Seated P L Q) (now : PlayerState Q) (b b' : Bench P D Q L) (x y : Bool) → x ≡ y → x ≡ false
      → IsLeft told counts doors key s now b b' → GoesIf told counts doors y key s now b b'
  goes_stays key s now b b' x y e f g = subst (λ (z : Bool). GoesIf told counts doors z key s now b b') (sym f ∙ e) g

  pub sound_back : (fits : P → ℕ → Q → Type 0) (rules : P → PortRules) (t : Terms) (b b' : Bench P D Q L) (key : ℕ) (s : Seated P L Q)
      → IsSound fits rules doors t b → IsGone told counts doors key s b b'
      → b'.players.capacity ≡ b.players.capacity → Goes fits rules b.port b'.port → IsSound fits rules doors t b'
  sound_back fits rules t b b' key s w gone cap g =
      elim gone.back [
        | inl h ↦ sound_gone fits rules doors t b b' key w gone.gone gone.count cap g (ap (λ (d : DoorTold). d.given) h.0)
            (ap (λ (d : DoorTold). d.closed) h.0) (ap (λ (x : Bench P D Q L). x.had) h.1) (ap (λ (x : Bench P D Q L). x.closed) h.1)
        | inr h ↦ sound_gone fits rules doors t b b' key w gone.gone gone.count cap g (ap (λ (d : DoorTold). d.given) h.0)
            (ap (λ (d : DoorTold). d.closed) h.0) (ap (λ (x : Bench P D Q L). x.had) h.1) (ap (λ (x : Bench P D Q L). x.closed) h.1)
      ]

-- ---- a whole worker

module _ {P D Q L : Type 0} where
  pub keeps_at : (fits : P → ℕ → Q → Type 0) (rules : P → PortRules) (root : P → Histories) (w v w' : WorkerState P D Q L) → w ≡ v
      → KeepsOn fits rules root w w' → KeepsOn fits rules root v w'
  keeps_at fits rules root w v w' e k = subst (λ (x : WorkerState P D Q L). KeepsOn fits rules root x w') e k

  pub keeps_trans : (fits : P → ℕ → Q → Type 0) (rules : P → PortRules) (root : P → Histories) (u v w : WorkerState P D Q L) → KeepsOn fits rules root u v
      → KeepsOn fits rules root v w → KeepsOn fits rules root u w
  keeps_trans fits rules root u v w a b = record {
    terms = b.terms ∙ a.terms;
    port = ahead_trans fits rules root u.bench.port v.bench.port w.bench.port
        a.port b.port;
  }

  pub rounds_at : (told : L → Option LinkTold) (counts : L → LinkCounts) (doors : D → DoorTold) (takes : P → Seated P L Q → HttpTurn → P → Seated P L Q
      → Type 0) (busies : P → ℕ) (ready : L → Bool → Type 0) (closes : P → PlayerState Q → Leaving → P → PlayerState Q → Type 0)
      (w v w' : WorkerState P D Q L) (a : Round) → w ≡ v → Rounds told counts doors takes busies ready closes w a w'
      → Rounds told counts doors takes busies ready closes v a w'
  rounds_at told counts doors takes busies ready closes w v w' a e r =
      subst (λ (x : WorkerState P D Q L). Rounds told counts doors takes busies ready closes x a w') e r

  -- a round that leaves none, and a door that is done
  pub has_run : (told : L → Option LinkTold) (counts : L → LinkCounts) (doors : D → DoorTold) (takes : P → Seated P L Q → HttpTurn → P → Seated P L Q
      → Type 0) (busies : P → ℕ) (ready : L → Bool → Type 0) (closes : P → PlayerState Q → Leaving → P → PlayerState Q → Type 0)
      (fits : P → ℕ → Q → Type 0) (rules : P → PortRules) (w w' : WorkerState P D Q L) (a : Round) → Rounds told counts doors takes busies ready closes w a w'
      → IsSound fits rules doors w'.terms w'.bench → a.closed ≡ true → a.live ≡ 0 → HasRun doors w'
  has_run told counts doors takes busies ready closes fits rules w w' a r s closed live = record {
    none = ap (λ (x : Round). x.live) (sym r.answers) ∙ live;
    done = done_if (doors w'.bench.door).closed (doors w'.bench.door).given (let f = s.few in let g = s.given in omega arith)
        (ap (λ (x : Round). x.closed) (sym r.answers) ∙ closed);
  }
    where
      done_if : (c : Bool) (n : ℕ) → n ≤ 2 ^ 40 → (c || nat_le (2 ^ 40) n) ≡ true → (c ≡ true) ⊎ (n ≡ 2 ^ 40)
      done_if true n le e = inl refl
      done_if false n le e = inr (let f : 2 ^ 40 ≤ n = grind arith in omega (arith, f, le))
