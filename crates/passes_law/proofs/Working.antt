-- No pass is lost in the rounds of a worker
use Rattle.std.proofs.Common.{◌≡◌, ◌≢◌, ◌<◌, ◌≤◌, ◌+◌, inl, inr, ℕ, zero, suc, Bool, true, false, List, [], ◌∷◌, ◌++◌, length, slice_get, slice_set, refl, sym, ap, ◌∙◌, subst, arith, append-nil, Option, Some, None}
use Rattle.std.specs.Prelude.{cond, count_by, is_some, slice_index_or}
use Rattle.std.proofs.lemmas.List.Sums.{sum_by-cons}
use Rattle.slab.specs.Slab.{Slab, Updates, get, slab_len}
use Rattle.turn_gate.specs.declared.view.Branch.{Branch}
use Rattle.turn_gate.specs.Branches.{Kindred}
use Rattle.turn_gate.proofs.Kindreds.{kindred_same, kindred_then}
use Rattle.command_dialog.specs.declared.types.Ask.{Ask}
use Rattle.command_dialog.specs.declared.types.Grant.{Grant}
use Rattle.relay_outside.specs.Doors.{DoorTold}
use Rattle.relay_outside.specs.Heard.{Came}
use Rattle.relay_outside.specs.Told.{LinkTold, LinkCounts}
use Rattle.relay_outside.specs.declared.door.Knock.{Knock}
use Rattle.relay_outside.specs.declared.door.Knock.TheVariants as knock
use Rattle.relay_outside.specs.declared.link.Said.{Said}
use Rattle.relay_outside.specs.declared.sink.Put.{Put}
use Rattle.media_recorder.specs.declared.turn.RecTurn.{RecTurn}
use Rattle.stream_model.specs.declared.calls.Entry.{Entry}
use Rattle.stream_registry.specs.Names.{PortRules}
use Rattle.stream_registry.specs.Splits.{Kin}
use Rattle.stream_registry.specs.Told.{Step, Histories}
use Rattle.relay_session.specs.Onward.{GoesOn}
use Rattle.relay_session.specs.Places.{AskedAlone}
use Rattle.relay_session.specs.SeatState.{left_at, place_of}
use Rattle.relay_session.specs.SessionState.{SessionState}
use Rattle.relay_session.specs.declared.end.End.{End}
use Rattle.relay_session.specs.declared.seat_answers.Leaving.{Leaving}
use Rattle.relay_session.specs.declared.seat_answers.Leaving.TheVariants as leaving
use Rattle.relay_session.specs.declared.turn.Turn.{Turn}
use Rattle.relay_worker.specs.Benches.{WorkerState}
use Rattle.relay_worker.specs.Coming.{ByRounds, RoundOn}
use Rattle.relay_worker.specs.Filed.{TakesTurn as FileTurn, state_of}
use Rattle.relay_worker.specs.Rounds.{Admits, AdmitsIf, ClosesAt, ClosesBy, ClosesIf, GoesIf, RecordsAt, RecordsIf, TurnsAt, TurnsBy, TurnsIf, Walks, asks_door, begun, has_left}
use Rattle.relay_worker.specs.Sessions.{Closes, TakesTurn}
use Rattle.relay_worker.specs.declared.bench.Bench.{Bench}
use Rattle.relay_worker.specs.declared.bench.Seated.{Seated}
use Rattle.relay_worker.specs.declared.bench.Terms.{Terms}
use Rattle.relay_worker.specs.declared.recorder.Recorder.{Recorder}
use Rattle.passes_law.specs.Passes.{KeepsPasses, branches_by, spot_of}
use Rattle.passes_law.specs.Workers.{KeepsAll, KeepsHeld, all_below, all_of, held, of_recorder, of_recorders, of_sessions, spot_at}
use Rattle.passes_law.proofs.Counting.{below_none, in_behind, in_below, in_front, in_listed, swap_in}
use Rattle.passes_law.proofs.Passing.{left_keeps, none_keeps}
use Rattle.passes_law.proofs.Turning.{keeps_ended, recorder_keeps}

-- what each step keeps, a walk keeps
pub walked : {B : Type 0} (step : ℕ → B → B → Type 0) (R : B → B → Type 0) → ((b : B) → R b b) → ((a b c : B) → R a b → R b c → R a c)
    → ((key : ℕ) (b c : B) → step key b c → R b c)
    → (n : ℕ) (b c : B) → Walks step n b c → R b c
walked step R same next one zero b c w = subst (R b) (sym w) (same b)
walked step R same next one (suc n) b c w = next b w.0 c (walked step R same next one n b w.0 w.1.0) (one n w.0 c w.1.1)

-- it has left, so it is nowhere
pub left_none : {Q : Type 0} (r : Leaving) (place : Option ℕ) (spot : Option (ℕ × Q)) → has_left r ≡ true → place_of spot ≡ left_at r place → spot ≡ None
left_none leaving.Done place None h e = refl
left_none leaving.Done place (Some p) h e = absurd (cc)
left_none leaving.Worn place None h e = refl
left_none leaving.Worn place (Some p) h e = absurd (cc)
left_none leaving.Busy place spot h e = absurd (cc)
left_none leaving.OutOfMemory place spot h e = absurd (cc)

-- a slab without values has none at any key
pub none_at : {T : Type 0} (slots : List (Option T)) (key : ℕ) → count_by is_some slots ≡ 0 → slice_index_or slots key None ≡ None
none_at [] key e = refl
none_at (None ∷ slots) zero e = refl
none_at (None ∷ slots) (suc key) e = none_at slots key (omega (arith, e))
none_at {T} (Some x ∷ slots) key e =
    absurd (let one : 1 + count_by is_some slots ≡ 0 = sym (sum_by-cons (λ (o : Option T). cond (is_some o) 1 0) (Some x) slots) ∙ e in omega (arith, one))

module _ {P K Q L : Type 0} (kin : P → Kin) (branches : Q → List Branch) where
  abbrev H : P → Slab (Seated P L Q) → List (Recorder P K Q) → ℕ → ℕ → List Branch
  H = held kin branches

  abbrev Held : P → Slab (Seated P L Q) → List (Recorder P K Q) → P → Slab (Seated P L Q) → List (Recorder P K Q) → Type 0
  Held = KeepsHeld kin branches

  held_same : (x y : P) (s t : Slab (Seated P L Q)) (rs us : List (Recorder P K Q)) → y ≡ x → t ≡ s → us ≡ rs → Held x s rs y t us
  held_same x y s t rs us e f h = record {
    last = 0;
    kindred = λ n q l. kindred_same (H x s rs n q) (H y t us n q)
        (ap (λ (p : P). H p t us n q) e ∙ (ap (λ (u : Slab (Seated P L Q)). H x u us n q) f ∙ ap (λ (u : List (Recorder P K Q)). H x s u n q) h));
  }

  held_then : (x y z : P) (s t u : Slab (Seated P L Q)) (xs ys zs : List (Recorder P K Q)) → Held x s xs y t ys → Held y t ys z u zs → Held x s xs z u zs
  held_then x y z s t u xs ys zs a b = record {
    last = a.last + b.last;
    kindred = λ n q l. kindred_then (H x s xs n q) (H y t ys n q) (H z u zs n q) (a.kindred n q (omega (arith, l))) (b.kindred n q (omega (arith, l)));
  }

  -- the session at a key, or none, is another
  seated : (x y : P) (s t : Slab (Seated P L Q)) (rs : List (Recorder P K Q)) (key : ℕ) (o p : Option (Seated P L Q)) → get s key ≡ o → Updates s t key p
      → KeepsPasses kin branches x (spot_at o) y (spot_at p) → Held x s rs y t rs
  seated x y s t rs key o p at u k = record {
    last = suc key;
    kindred = λ n q l.
        let f : ℕ → List Branch = λ j. branches_by branches (spot_at (get s j)) q in
        let g : ℕ → List Branch = λ j. branches_by branches (spot_at (get t j)) q in
        let r : List Branch = of_recorders branches rs q in
        let here : Kindred (kin x q ++ f key) (kin y q ++ g key) =
        subst (λ (w : Option (Seated P L Q)). Kindred (kin x q ++ branches_by branches (spot_at w) q) (kin y q ++ g key)) (sym at)
        (subst (λ (w : Option (Seated P L Q)). Kindred (kin x q ++ branches_by branches (spot_at o) q)
        (kin y q ++ branches_by branches (spot_at w) q)) (sym u.changed) (k.kindred q)) in
        swap_in (kin x q) (kin y q) (f key) (g key) (all_below f n ++ r) (all_below g n ++ r)
        (in_behind (f key) (g key) (all_below f n) (all_below g n) r
        (in_below f g key n (omega (arith, l)) (λ j d. ap (λ (w : Option (Seated P L Q)). branches_by branches (spot_at w) q) (u.others j d)))) here;
  }

  -- a recorder is another
  filed : (x y : P) (s : Slab (Seated P L Q)) (rs : List (Recorder P K Q)) (i : ℕ) (r r' : Recorder P K Q) → slice_get rs i ≡ Some r
      → KeepsPasses kin branches x (spot_of (state_of r).seat.place (state_of r).seat.pass) y (spot_of (state_of r').seat.place (state_of r').seat.pass)
      → Held x s rs y s (slice_set rs i r')
  filed x y s rs i r r' at k = record {
    last = 0;
    kindred = λ n q l.
        let f : Recorder P K Q → List Branch = of_recorder branches q in
        let a : List Branch = of_sessions branches s n q in
        swap_in (kin x q) (kin y q) (f r) (f r') (a ++ all_of f rs) (a ++ all_of f (slice_set rs i r'))
        (in_front (f r) (f r') (all_of f rs) (all_of f (slice_set rs i r')) a (in_listed f rs i r r' at)) (k.kindred q);
  }

  module _ {D : Type 0} where
    -- ---- of a bench

    module _ (rs : List (Recorder P K Q)) where
      abbrev On : Bench P D Q L → Bench P D Q L → Type 0
      On b c = Held b.port b.sessions rs c.port c.sessions rs

      on_same : (b c : Bench P D Q L) → c.port ≡ b.port → c.sessions ≡ b.sessions → On b c
      on_same b c e f = held_same b.port c.port b.sessions c.sessions rs rs e f refl

      on_refl : (b : Bench P D Q L) → On b b
      on_refl b = on_same b b refl refl

      on_is : (b c : Bench P D Q L) → c ≡ b → On b c
      on_is b c e = on_same b c (ap (λ (x : Bench P D Q L). x.port) e) (ap (λ (x : Bench P D Q L). x.sessions) e)

      on_then : (a b c : Bench P D Q L) → On a b → On b c → On a c
      on_then a b c x y = held_then a.port b.port c.port a.sessions b.sessions c.sessions rs rs rs x y

      -- ---- a link

      on_admits : (t : Terms) (k : Knock L) (b c : Bench P D Q L) → Admits t k b c → On b c
      on_admits t (knock.Link link) b c a =
          let port : c.port ≡ b.port = ap (λ (x : Bench P D Q L). x.port) a.same in
          let none : KeepsPasses kin branches b.port None c.port a.came.seat.spot =
          subst (λ (p : P). KeepsPasses kin branches b.port None p a.came.seat.spot) (sym port)
          (subst (λ (o : Option (ℕ × Q)). KeepsPasses kin branches b.port None b.port o) (sym a.new.nowhere.0) (none_keeps branches kin b.port None)) in
          seated b.port c.port b.sessions c.sessions rs a.key None (Some _) a.free a.there none
      on_admits t knock.NotYet b c a = on_same b c (ap (λ (x : Bench P D Q L). x.port) a) (ap (λ (x : Bench P D Q L). x.sessions) a)
      on_admits t knock.Closed b c a = on_same b c (ap (λ (x : Bench P D Q L). x.port) a) (ap (λ (x : Bench P D Q L). x.sessions) a)
      on_admits t knock.Failed b c a = on_same b c (ap (λ (x : Bench P D Q L). x.port) a) (ap (λ (x : Bench P D Q L). x.sessions) a)

      module _ (told : L → Option LinkTold) (counts : L → LinkCounts) (doors : D → DoorTold) where
        on_admits_if : (t : Terms) (asks : Bool) (b c : Bench P D Q L) → AdmitsIf told counts doors t asks b c → On b c
        on_admits_if t false b c a = on_is b c a
        on_admits_if t true b c a = on_admits t a.0 b c a.1.1

        -- ---- closes

        module _ (closes : P → SessionState Q → Leaving → P → SessionState Q → Type 0)
            (kept : (x : P) (s : SessionState Q) (r : Leaving) (y : P) (t : SessionState Q) → closes x s r y t
            → KeepsPasses kin branches x s.seat.spot y t.seat.spot)
            (leaves : (x : P) (s : SessionState Q) (r : Leaving) (y : P) (t : SessionState Q) → closes x s r y t → has_left r ≡ true → t.seat.spot ≡ None) where
          on_goes : (d : Bool) (r : Leaving) (key : ℕ) (s : Seated P L Q) (now : SessionState Q) (b c : Bench P D Q L) → has_left r ≡ d
              → get b.sessions key ≡ Some s
              → closes b.port s.session r c.port now → GoesIf told counts doors d key s now b c → On b c
          on_goes true r key s now b c is at k g =
              seated b.port c.port b.sessions c.sessions rs key (Some s) None at g.gone
              (subst (λ (o : Option (ℕ × Q)). KeepsPasses kin branches b.port s.session.seat.spot c.port o)
              (leaves b.port s.session r c.port now k is) (kept b.port s.session r c.port now k))
          on_goes false r key s now b c is at k g = seated b.port c.port b.sessions c.sessions rs key (Some s) (Some _) at g.there
              (kept b.port s.session r c.port now k)

          on_closes_by : (o : Option End) (key : ℕ) (s : Seated P L Q) (b c : Bench P D Q L) → get b.sessions key ≡ Some s
              → ClosesBy told counts doors closes o key s b c → On b c
          on_closes_by None key s b c at i = on_is b c i
          on_closes_by (Some e) key s b c at i = on_goes (has_left i.answer) i.answer key s i.now b c refl at i.close i.goes

          on_closes_if : (o : Option (Seated P L Q)) (key : ℕ) (b c : Bench P D Q L) → get b.sessions key ≡ o
              → ClosesIf told counts doors closes o key b c → On b c
          on_closes_if None key b c at i = on_is b c i
          on_closes_if (Some s) key b c at i = on_closes_by s.session.ended key s b c at i

          on_closes : (key : ℕ) (b c : Bench P D Q L) → ClosesAt told counts doors closes key b c → On b c
          on_closes key b c i = on_closes_if (get b.sessions key) key b c refl i

      -- ---- turns

      module _ (takes : P → Seated P L Q → Turn → P → Seated P L Q → Type 0) (busies : P → ℕ) (ready : L → Bool → Type 0)
          (kept : (x : P) (s : Seated P L Q) (a : Turn) (y : P) (t : Seated P L Q) → takes x s a y t
          → KeepsPasses kin branches x s.session.seat.spot y t.session.seat.spot) where
        on_turns_by : (o : Option End) (key : ℕ) (s : Seated P L Q) (b c : Bench P D Q L) → get b.sessions key ≡ Some s
            → TurnsBy takes busies ready o key s b c → On b c
        on_turns_by None key s b c at (inl i) = seated b.port c.port b.sessions c.sessions rs key (Some s) (Some i.now) at i.there
            (kept b.port s i.answer c.port i.now i.turn)
        on_turns_by None key s b c at (inr i) = on_is b c i.same
        on_turns_by (Some e) key s b c at i = on_is b c i

        on_turns_if : (o : Option (Seated P L Q)) (key : ℕ) (b c : Bench P D Q L) → get b.sessions key ≡ o → TurnsIf takes busies ready o key b c → On b c
        on_turns_if None key b c at i = on_is b c i
        on_turns_if (Some s) key b c at i = on_turns_by s.session.ended key s b c at i

        on_turns : (key : ℕ) (b c : Bench P D Q L) → TurnsAt takes busies ready key b c → On b c
        on_turns key b c i = on_turns_if (get b.sessions key) key b c refl i

    -- ---- recorders

    abbrev Both : Bench P D Q L × List (Recorder P K Q) → Bench P D Q L × List (Recorder P K Q) → Type 0
    Both x y = Held x.0.port x.0.sessions x.1 y.0.port y.0.sessions y.1

    both_then : (x y z : Bench P D Q L × List (Recorder P K Q)) → Both x y → Both y z → Both x z
    both_then x y z a b = held_then x.0.port y.0.port z.0.port x.0.sessions y.0.sessions z.0.sessions x.1 y.1 z.1 a b

    both_refl : (x : Bench P D Q L × List (Recorder P K Q)) → Both x x
    both_refl x = held_same x.0.port x.0.port x.0.sessions x.0.sessions x.1 x.1 refl refl refl

    module _ (files : P → Recorder P K Q → RecTurn → P → Recorder P K Q → Type 0)
        (kept : (x : P) (r : Recorder P K Q) (a : RecTurn) (y : P) (r' : Recorder P K Q) → files x r a y r'
        → KeepsPasses kin branches x (spot_of (state_of r).seat.place (state_of r).seat.pass) y
        (spot_of (state_of r').seat.place (state_of r').seat.pass)) where
      both_records_if : (o : Option (Recorder P K Q)) (i : ℕ) (x y : Bench P D Q L × List (Recorder P K Q)) → slice_get x.1 i ≡ o
          → RecordsIf files o i x y → Both x y
      both_records_if None i x y at e = subst (Both x) (sym e) (both_refl x)
      both_records_if (Some r) i x y at e =
          let same : y.0.sessions ≡ x.0.sessions = ap (λ (b : Bench P D Q L). b.sessions) e.turn.same in
          let one : Held x.0.port x.0.sessions x.1 y.0.port x.0.sessions (slice_set x.1 i e.now) =
          filed x.0.port y.0.port x.0.sessions x.1 i r e.now at (kept x.0.port r e.turn.answer y.0.port e.now e.turn.turn) in
          held_then x.0.port y.0.port y.0.port x.0.sessions x.0.sessions y.0.sessions x.1 (slice_set x.1 i e.now) y.1 one
          (held_same y.0.port y.0.port x.0.sessions y.0.sessions (slice_set x.1 i e.now) y.1 refl same e.there)

      both_records : (i : ℕ) (x y : Bench P D Q L × List (Recorder P K Q)) → RecordsAt files i x y → Both x y
      both_records i x y e = both_records_if (slice_get x.1 i) i x y refl e

    -- ---- a worker

    abbrev Over : WorkerState P D K Q L → WorkerState P D K Q L → Type 0
    Over = KeepsAll kin branches

    over_then : (u v w : WorkerState P D K Q L) → Over u v → Over v w → Over u w
    over_then u v w a b = held_then u.bench.port v.bench.port w.bench.port u.bench.sessions v.bench.sessions w.bench.sessions u.recorders v.recorders
        w.recorders a b

    over_refl : (w : WorkerState P D K Q L) → Over w w
    over_refl w = held_same w.bench.port w.bench.port w.bench.sessions w.bench.sessions w.recorders w.recorders refl refl refl

    -- none is left
    pub over_gone : (w v : WorkerState P D K Q L) → slab_len w.bench.sessions ≡ 0 → slab_len v.bench.sessions ≡ 0 → Over w v → (q : ℕ)
        → Kindred (kin w.bench.port q ++ of_recorders branches w.recorders q) (kin v.bench.port q ++ of_recorders branches v.recorders q)
    over_gone w v e f k q =
        subst (λ (l : List Branch). Kindred (kin w.bench.port q ++ (l ++ of_recorders branches w.recorders q))
        (kin v.bench.port q ++ of_recorders branches v.recorders q)) (none w.bench.sessions k.last e)
        (subst (λ (l : List Branch). Kindred (kin w.bench.port q ++
        (of_sessions branches w.bench.sessions k.last q ++ of_recorders branches w.recorders q))
        (kin v.bench.port q ++ (l ++ of_recorders branches v.recorders q)))
        (none v.bench.sessions k.last f) (k.kindred k.last q (omega arith)))
      where
        none : (s : Slab (Seated P L Q)) (n : ℕ) → slab_len s ≡ 0 → of_sessions branches s n q ≡ []
        none s n z = below_none (λ j. branches_by branches (spot_at (get s j)) q) n
            (λ j. ap (λ (o : Option (Seated P L Q)). branches_by branches (spot_at o) q) (none_at s.slots j z))

    module _ (fits : P → ℕ → Q → Type 0) (rules : P → PortRules) (root : P → Histories) (seen : Q → List Step) (mine : Q → List ℕ) (count : Q → ℕ)
        (wants : Entry → Type 0) (busies : P → ℕ)
        (adds : List Step → List Step → List Step → Type 0)
        (told : L → Option LinkTold) (counts : L → LinkCounts) (hears : L → ℕ → Came → L → Type 0) (says : L → List ℕ → Said → L → Type 0)
        (ready : L → Bool → Type 0)
        (doors : D → DoorTold) (takes : K → List ℕ → Put → K → Type 0) (holds : K → Option (List ℕ)) (desk : Ask → Grant) where
      abbrev Turns : P → Seated P L Q → Turn → P → Seated P L Q → Type 0
      Turns = TakesTurn (AskedAlone fits rules root seen count wants busies adds kin branches) (GoesOn fits rules root seen busies) desk hears says

      abbrev Ends : P → SessionState Q → Leaving → P → SessionState Q → Type 0
      Ends = Closes fits rules root seen count wants busies adds kin branches

      abbrev Files : P → Recorder P K Q → RecTurn → P → Recorder P K Q → Type 0
      Files = FileTurn fits rules root busies seen mine count adds kin branches takes holds

      turns_keep : (x : P) (s : Seated P L Q) (a : Turn) (y : P) (t : Seated P L Q) → Turns x s a y t
          → KeepsPasses kin branches x s.session.seat.spot y t.session.seat.spot
      turns_keep x s a y t k = keeps_ended fits rules root seen count wants busies adds kin branches desk hears says s.session.ended s.session.quit _
          s.link a _ t.link k.turn

      ends_keep : (x : P) (s : SessionState Q) (r : Leaving) (y : P) (t : SessionState Q) → Ends x s r y t
          → KeepsPasses kin branches x s.seat.spot y t.seat.spot
      ends_keep x s r y t k = left_keeps branches kin x y s.seat.spot t.seat.spot s.seat.visits t.seat.visits r k.spot k.splits

      ends_leave : (x : P) (s : SessionState Q) (r : Leaving) (y : P) (t : SessionState Q) → Ends x s r y t → has_left r ≡ true → t.seat.spot ≡ None
      ends_leave x s r y t k h = left_none r (place_of s.seat.spot) t.seat.spot h k.spot

      files_keep : (x : P) (r : Recorder P K Q) (a : RecTurn) (y : P) (r' : Recorder P K Q) → Files x r a y r'
          → KeepsPasses kin branches x (spot_of (state_of r).seat.place (state_of r).seat.pass) y (spot_of (state_of r').seat.place (state_of r').seat.pass)
      files_keep x r a y r' k = recorder_keeps rules adds root seen kin branches x y (state_of r).seat (state_of r').seat k.place k.alone

      over_round : (w v : WorkerState P D K Q L) → RoundOn fits rules root seen mine count wants busies adds kin branches told counts hears says ready
          doors takes holds desk w v → Over w v
      over_round w v r =
          let a = r.1 in
          let rs = w.recorders in
          let admitted : On rs w.bench a.admitted = on_admits_if rs told counts doors w.terms (asks_door w.terms w.bench) (begun w.bench) a.admitted a.admits in
          let turned : On rs a.admitted a.turned =
          walked (TurnsAt Turns busies ready) (On rs) (on_refl rs) (on_then rs) (on_turns rs Turns busies ready turns_keep) a.turns.last a.admitted
          a.turned a.turns.walk in
          let closed : On rs a.turned a.closed =
          walked (ClosesAt told counts doors Ends) (On rs) (on_refl rs) (on_then rs) (on_closes rs told counts doors Ends ends_keep ends_leave)
          a.closings.last a.turned a.closed a.closings.walk in
          let filed : Both (a.closed, rs) (v.bench, v.recorders) =
          walked (RecordsAt Files) Both both_refl both_then (both_records Files files_keep) (length rs) (a.closed, rs) (v.bench, v.recorders)
          a.records in
          both_then (w.bench, rs) (a.closed, rs) (v.bench, v.recorders)
          (on_then rs w.bench a.turned a.closed (on_then rs w.bench a.admitted a.turned admitted turned) closed) filed

      -- ITS ROUNDS
      pub over_rounds : (w v : WorkerState P D K Q L)
          → ByRounds fits rules root seen mine count wants busies adds kin branches told counts hears says ready doors takes holds desk w v → Over w v
      over_rounds w v b =
          walked (λ n. RoundOn fits rules root seen mine count wants busies adds kin branches told counts hears says ready doors takes holds desk)
          Over over_refl over_then (λ n. over_round) b.times w v b.rounds
