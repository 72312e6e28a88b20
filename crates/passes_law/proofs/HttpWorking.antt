-- No pass is lost in the rounds of a worker of HTTP players
use Rattle.std.proofs.Common.{◌≡◌, ◌+◌, inl, inr, ℕ, suc, Bool, true, false, List, ◌++◌, refl, sym, ap, ◌∙◌, subst, arith, append-nil}
use Rattle.std.proofs.Common.{Option, Some, None}
use Rattle.slab.specs.Slab.{Slab, Updates, get, slab_len}
use Rattle.turn_gate.specs.declared.view.Branch.{Branch}
use Rattle.turn_gate.specs.Branches.{Kindred}
use Rattle.turn_gate.proofs.Kindreds.{kindred_same, kindred_then}
use Rattle.command_dialog.specs.declared.types.Ask.{Ask}
use Rattle.command_dialog.specs.declared.types.Grant.{Grant}
use Rattle.relay_outside.specs.Doors.{DoorTold}
use Rattle.relay_outside.specs.Heard.{Came}
use Rattle.relay_outside.specs.Told.{LinkTold, LinkCounts}
use Rattle.relay_outside.specs.declared.door.Knock.{Knock}
use Rattle.relay_outside.specs.declared.door.Knock.TheVariants as knock
use Rattle.relay_outside.specs.declared.link.Said.{Said}
use Rattle.stream_model.specs.declared.calls.Entry.{Entry}
use Rattle.stream_registry.specs.Names.{PortRules}
use Rattle.stream_registry.specs.Splits.{Kin}
use Rattle.stream_registry.specs.Told.{Step, Histories}
use Rattle.relay_session.specs.SeatState.{place_of}
use Rattle.relay_session.specs.declared.seat_answers.Leaving.{Leaving}
use Rattle.relay_worker.specs.Rounds.{has_left}
use Rattle.http_flv.specs.PlayerState.{PlayerState}
use Rattle.http_flv.specs.declared.end.HttpEnd.{HttpEnd}
use Rattle.http_flv.specs.declared.turn.HttpTurn.{HttpTurn}
use Rattle.http_worker.specs.Benches.{WorkerState}
use Rattle.http_worker.specs.Coming.{ByRounds, RoundOn}
use Rattle.http_worker.specs.Players.{Closes, TakesTurn}
use Rattle.http_worker.specs.Rounds.{Admits, AdmitsIf, ClosesAt, ClosesBy, ClosesIf, GoesIf, TurnsAt, TurnsBy, TurnsIf, asks_door, begun}
use Rattle.http_worker.specs.declared.bench.Bench.{Bench}
use Rattle.http_worker.specs.declared.bench.Seated.{Seated}
use Rattle.http_worker.specs.declared.bench.Terms.{Terms}
use Rattle.passes_law.specs.Passes.{KeepsPasses, branches_by}
use Rattle.passes_law.specs.HttpWorkers.{KeepsAll, KeepsHeld, held, of_players, spot_at}
use Rattle.passes_law.specs.Workers.{all_below}
use Rattle.passes_law.proofs.Counting.{below_none, in_below, swap_in}
use Rattle.passes_law.proofs.Guests.{player_keeps}
use Rattle.passes_law.proofs.Passing.{left_keeps, none_keeps}
use Rattle.passes_law.proofs.Working.{left_none, none_at, walked}

module _ {P Q L : Type 0} (kin : P → Kin) (branches : Q → List Branch) where
  abbrev H : P → Slab (Seated P L Q) → ℕ → ℕ → List Branch
  H = held kin branches

  abbrev Held : P → Slab (Seated P L Q) → P → Slab (Seated P L Q) → Type 0
  Held = KeepsHeld kin branches

  held_same : (x y : P) (s t : Slab (Seated P L Q)) → y ≡ x → t ≡ s → Held x s y t
  held_same x y s t e f = record {
    last = 0;
    kindred = λ n q l. kindred_same (H x s n q) (H y t n q) (ap (λ (p : P). H p t n q) e ∙ ap (λ (u : Slab (Seated P L Q)). H x u n q) f);
  }

  held_then : (x y z : P) (s t u : Slab (Seated P L Q)) → Held x s y t → Held y t z u → Held x s z u
  held_then x y z s t u a b = record {
    last = a.last + b.last;
    kindred = λ n q l. kindred_then (H x s n q) (H y t n q) (H z u n q) (a.kindred n q (omega (arith, l))) (b.kindred n q (omega (arith, l)));
  }

  -- the player at a key, or none, is another
  seated : (x y : P) (s t : Slab (Seated P L Q)) (key : ℕ) (o p : Option (Seated P L Q)) → get s key ≡ o → Updates s t key p
      → KeepsPasses kin branches x (spot_at o) y (spot_at p) → Held x s y t
  seated x y s t key o p at u k = record {
    last = suc key;
    kindred = λ n q l.
        let f : ℕ → List Branch = λ j. branches_by branches (spot_at (get s j)) q in
        let g : ℕ → List Branch = λ j. branches_by branches (spot_at (get t j)) q in
        let here : Kindred (kin x q ++ f key) (kin y q ++ g key) =
        subst (λ (w : Option (Seated P L Q)). Kindred (kin x q ++ branches_by branches (spot_at w) q) (kin y q ++ g key)) (sym at)
        (subst (λ (w : Option (Seated P L Q)). Kindred (kin x q ++ branches_by branches (spot_at o) q)
        (kin y q ++ branches_by branches (spot_at w) q)) (sym u.changed) (k.kindred q)) in
        swap_in (kin x q) (kin y q) (f key) (g key) (all_below f n) (all_below g n)
        (in_below f g key n (omega (arith, l)) (λ j d. ap (λ (w : Option (Seated P L Q)). branches_by branches (spot_at w) q) (u.others j d))) here;
  }

  module _ {D : Type 0} where
    -- ---- of a bench

    abbrev On : Bench P D Q L → Bench P D Q L → Type 0
    On b c = Held b.port b.players c.port c.players

    on_same : (b c : Bench P D Q L) → c.port ≡ b.port → c.players ≡ b.players → On b c
    on_same b c e f = held_same b.port c.port b.players c.players e f

    on_refl : (b : Bench P D Q L) → On b b
    on_refl b = on_same b b refl refl

    on_is : (b c : Bench P D Q L) → c ≡ b → On b c
    on_is b c e = on_same b c (ap (λ (x : Bench P D Q L). x.port) e) (ap (λ (x : Bench P D Q L). x.players) e)

    on_then : (a b c : Bench P D Q L) → On a b → On b c → On a c
    on_then a b c x y = held_then a.port b.port c.port a.players b.players c.players x y

    -- ---- a link

    on_admits : (t : Terms) (k : Knock L) (b c : Bench P D Q L) → Admits t k b c → On b c
    on_admits t (knock.Link link) b c a =
        let port : c.port ≡ b.port = ap (λ (x : Bench P D Q L). x.port) a.same in
        let none : KeepsPasses kin branches b.port None c.port a.came.seat.spot =
        subst (λ (p : P). KeepsPasses kin branches b.port None p a.came.seat.spot) (sym port)
        (subst (λ (o : Option (ℕ × Q)). KeepsPasses kin branches b.port None b.port o) (sym a.new.nowhere.0) (none_keeps branches kin b.port None)) in
        seated b.port c.port b.players c.players a.key None (Some _) a.free a.there none
    on_admits t knock.NotYet b c a = on_same b c (ap (λ (x : Bench P D Q L). x.port) a) (ap (λ (x : Bench P D Q L). x.players) a)
    on_admits t knock.Closed b c a = on_same b c (ap (λ (x : Bench P D Q L). x.port) a) (ap (λ (x : Bench P D Q L). x.players) a)
    on_admits t knock.Failed b c a = on_same b c (ap (λ (x : Bench P D Q L). x.port) a) (ap (λ (x : Bench P D Q L). x.players) a)

    module _ (told : L → Option LinkTold) (counts : L → LinkCounts) (doors : D → DoorTold) where
      on_admits_if : (t : Terms) (asks : Bool) (b c : Bench P D Q L) → AdmitsIf told counts doors t asks b c → On b c
      on_admits_if t false b c a = on_is b c a
      on_admits_if t true b c a = on_admits t a.0 b c a.1.1

      -- ---- closes

      module _ (closes : P → PlayerState Q → Leaving → P → PlayerState Q → Type 0)
          (kept : (x : P) (s : PlayerState Q) (r : Leaving) (y : P) (t : PlayerState Q) → closes x s r y t
          → KeepsPasses kin branches x s.seat.spot y t.seat.spot)
          (leaves : (x : P) (s : PlayerState Q) (r : Leaving) (y : P) (t : PlayerState Q) → closes x s r y t → has_left r ≡ true → t.seat.spot ≡ None) where
        on_goes : (d : Bool) (r : Leaving) (key : ℕ) (s : Seated P L Q) (now : PlayerState Q) (b c : Bench P D Q L) → has_left r ≡ d
            → get b.players key ≡ Some s
            → closes b.port s.player r c.port now → GoesIf told counts doors d key s now b c → On b c
        on_goes true r key s now b c is at k g =
            seated b.port c.port b.players c.players key (Some s) None at g.gone
            (subst (λ (o : Option (ℕ × Q)). KeepsPasses kin branches b.port s.player.seat.spot c.port o)
            (leaves b.port s.player r c.port now k is) (kept b.port s.player r c.port now k))
        on_goes false r key s now b c is at k g = seated b.port c.port b.players c.players key (Some s) (Some _) at g.there
            (kept b.port s.player r c.port now k)

        on_closes_by : (o : Option HttpEnd) (key : ℕ) (s : Seated P L Q) (b c : Bench P D Q L) → get b.players key ≡ Some s
            → ClosesBy told counts doors closes o key s b c → On b c
        on_closes_by None key s b c at i = on_is b c i
        on_closes_by (Some e) key s b c at i = on_goes (has_left i.answer) i.answer key s i.now b c refl at i.close i.goes

        on_closes_if : (o : Option (Seated P L Q)) (key : ℕ) (b c : Bench P D Q L) → get b.players key ≡ o
            → ClosesIf told counts doors closes o key b c → On b c
        on_closes_if None key b c at i = on_is b c i
        on_closes_if (Some s) key b c at i = on_closes_by s.player.ended key s b c at i

        on_closes : (key : ℕ) (b c : Bench P D Q L) → ClosesAt told counts doors closes key b c → On b c
        on_closes key b c i = on_closes_if (get b.players key) key b c refl i

    -- ---- turns

    module _ (takes : P → Seated P L Q → HttpTurn → P → Seated P L Q → Type 0) (busies : P → ℕ) (ready : L → Bool → Type 0)
        (kept : (x : P) (s : Seated P L Q) (a : HttpTurn) (y : P) (t : Seated P L Q) → takes x s a y t
        → KeepsPasses kin branches x s.player.seat.spot y t.player.seat.spot) where
      on_turns_by : (o : Option HttpEnd) (key : ℕ) (s : Seated P L Q) (b c : Bench P D Q L) → get b.players key ≡ Some s
          → TurnsBy takes busies ready o key s b c → On b c
      on_turns_by None key s b c at (inl i) = seated b.port c.port b.players c.players key (Some s) (Some i.now) at i.there
          (kept b.port s i.answer c.port i.now i.turn)
      on_turns_by None key s b c at (inr i) = on_is b c i.same
      on_turns_by (Some e) key s b c at i = on_is b c i

      on_turns_if : (o : Option (Seated P L Q)) (key : ℕ) (b c : Bench P D Q L) → get b.players key ≡ o → TurnsIf takes busies ready o key b c → On b c
      on_turns_if None key b c at i = on_is b c i
      on_turns_if (Some s) key b c at i = on_turns_by s.player.ended key s b c at i

      on_turns : (key : ℕ) (b c : Bench P D Q L) → TurnsAt takes busies ready key b c → On b c
      on_turns key b c i = on_turns_if (get b.players key) key b c refl i

    -- ---- a worker

    abbrev Over : WorkerState P D Q L → WorkerState P D Q L → Type 0
    Over = KeepsAll kin branches

    over_then : (u v w : WorkerState P D Q L) → Over u v → Over v w → Over u w
    over_then u v w a b = on_then u.bench v.bench w.bench a b

    over_refl : (w : WorkerState P D Q L) → Over w w
    over_refl w = on_refl w.bench

    -- none is left
    pub http_gone : (w v : WorkerState P D Q L) → slab_len w.bench.players ≡ 0 → slab_len v.bench.players ≡ 0 → Over w v → (q : ℕ)
        → Kindred (kin w.bench.port q) (kin v.bench.port q)
    http_gone w v e f k q =
        subst (λ (l : List Branch). Kindred l (kin v.bench.port q)) (none (kin w.bench.port q) w.bench.players k.last e)
        (subst (λ (l : List Branch). Kindred (H w.bench.port w.bench.players k.last q) l) (none (kin v.bench.port q) v.bench.players k.last f)
        (k.kindred k.last q (omega arith)))
      where
        none : (l : List Branch) (s : Slab (Seated P L Q)) (n : ℕ) → slab_len s ≡ 0 → l ++ of_players branches s n q ≡ l
        none l s n z = ap (λ (x : List Branch). l ++ x) (below_none (λ j. branches_by branches (spot_at (get s j)) q) n
            (λ j. ap (λ (o : Option (Seated P L Q)). branches_by branches (spot_at o) q) (none_at s.slots j z))) ∙ append-nil l

    module _ (fits : P → ℕ → Q → Type 0) (rules : P → PortRules) (root : P → Histories) (seen : Q → List Step) (count : Q → ℕ)
        (wants : Entry → Type 0) (busies : P → ℕ)
        (adds : List Step → List Step → List Step → Type 0)
        (told : L → Option LinkTold) (counts : L → LinkCounts) (hears : L → ℕ → Came → L → Type 0) (says : L → List ℕ → Said → L → Type 0)
        (ready : L → Bool → Type 0) (doors : D → DoorTold) (desk : Ask → Grant) where
      abbrev Turns : P → Seated P L Q → HttpTurn → P → Seated P L Q → Type 0
      Turns = TakesTurn fits rules root seen count wants busies adds kin branches desk counts hears says

      abbrev Ends : P → PlayerState Q → Leaving → P → PlayerState Q → Type 0
      Ends = Closes fits rules root seen count wants busies adds kin branches

      turns_keep : (x : P) (s : Seated P L Q) (a : HttpTurn) (y : P) (t : Seated P L Q) → Turns x s a y t
          → KeepsPasses kin branches x s.player.seat.spot y t.player.seat.spot
      turns_keep x s a y t k = player_keeps fits rules root seen count wants busies adds kin branches desk hears says s.player.ended _ s.link a _ t.link k.turn

      ends_keep : (x : P) (s : PlayerState Q) (r : Leaving) (y : P) (t : PlayerState Q) → Ends x s r y t
          → KeepsPasses kin branches x s.seat.spot y t.seat.spot
      ends_keep x s r y t k = left_keeps branches kin x y s.seat.spot t.seat.spot s.seat.visits t.seat.visits r k.spot k.splits

      ends_leave : (x : P) (s : PlayerState Q) (r : Leaving) (y : P) (t : PlayerState Q) → Ends x s r y t → has_left r ≡ true → t.seat.spot ≡ None
      ends_leave x s r y t k h = left_none r (place_of s.seat.spot) t.seat.spot h k.spot

      over_round : (w v : WorkerState P D Q L)
          → RoundOn fits rules root seen count wants busies adds kin branches told counts hears says ready doors desk w v → Over w v
      over_round w v r =
          let a = r.1 in
          let admitted : On w.bench a.admitted = on_admits_if told counts doors w.terms (asks_door w.terms w.bench) (begun w.bench) a.admitted a.admits in
          let turned : On a.admitted a.turned =
          walked (TurnsAt Turns busies ready) On on_refl on_then (on_turns Turns busies ready turns_keep) a.turns.last a.admitted a.turned a.turns.walk in
          let closed : On a.turned v.bench =
          walked (ClosesAt told counts doors Ends) On on_refl on_then (on_closes told counts doors Ends ends_keep ends_leave)
          a.closings.last a.turned v.bench a.closings.walk in
          on_then w.bench a.turned v.bench (on_then w.bench a.admitted a.turned admitted turned) closed

      -- ITS ROUNDS
      pub http_rounds : (w v : WorkerState P D Q L)
          → ByRounds fits rules root seen count wants busies adds kin branches told counts hears says ready doors desk w v → Over w v
      http_rounds w v b =
          walked (λ n. RoundOn fits rules root seen count wants busies adds kin branches told counts hears says ready doors desk)
          Over over_refl over_then (λ n. over_round) b.times w v b.rounds
