-- What a worker's books say, step by step
use Rattle.std.proofs.Common.{◌≡◌, ◌≢◌, inl, inr, ℕ, ◌+◌, ◌^◌, ◌<◌, Bool, true, false, nat_lt, List, [], ◌∷◌, ◌++◌, length, map, Option, Some, None}
use Rattle.std.proofs.Common.{get_or, count_by, is_some, refl, sym, ap, ◌∙◌, subst, arith, append-nil}
use Rattle.std.specs.Prelude.{All}
use Rattle.std.proofs.lemmas.List.{length_push, map_push}
use Rattle.std.proofs.lemmas.List.Elements.{All-nil, All-push}
use Rattle.std.proofs.lemmas.List.Quantifiers.{all_pairs_push}
use Rattle.slab.specs.Slab.{Slab, get, slab_len, Updates}
use Rattle.command_dialog.specs.declared.types.Ask.{Ask}
use Rattle.command_dialog.specs.declared.types.Grant.{Grant}
use Rattle.relay_outside.specs.Doors.{DoorTold, Returned, IsNewDoor, IsNewLink, Knocks, returned, with_one}
use Rattle.relay_outside.specs.Heard.{Came, HearStep}
use Rattle.relay_outside.specs.Said.{SayStep}
use Rattle.relay_outside.specs.Told.{LinkCounts, LinkTold}
use Rattle.relay_outside.specs.declared.door.Knock.{Knock}
use Rattle.relay_outside.specs.declared.door.Knock.TheVariants as knock
use Rattle.relay_outside.specs.declared.link.Said.{Said}
use Rattle.session_owed.specs.Talk.{Own}
use Rattle.stream_model.specs.declared.calls.Entry.{Entry}
use Rattle.stream_model.specs.declared.calls.Shape.{Shape}
use Rattle.stream_registry.specs.Names.{PortRules}
use Rattle.stream_registry.specs.Splits.{Kin}
use Rattle.stream_registry.specs.Told.{Step, Histories}
use Rattle.turn_gate.specs.declared.view.Branch.{Branch}
use Rattle.relay_session.specs.Acting.{HasGrant}
use Rattle.relay_session.specs.SeatState.{GoOn, LeavesFrom, SeatState, known, left_at, place_of}
use Rattle.relay_session.specs.SeatVisits.{AllStand, Visit, calls_of}
use Rattle.relay_session.specs.declared.seat_answers.Leaving.{Leaving}
use Rattle.relay_session.proofs.SeatStanding.{all_later}
use Rattle.relay_worker.specs.Books.{Owns}
use Rattle.relay_worker.specs.Rounds.{has_left}
use Rattle.relay_worker.specs.declared.round.Round.{Round}
use Rattle.relay_worker.proofs.Booking.{Holds, LeftAs, active_of, calls_on, granted_of, grows_from, has_room, holds_nowhere, left_from, left_nowhere}
use Rattle.relay_worker.proofs.Booking.{nowhere, or_first, or_last, walked}
use Rattle.relay_worker.proofs.Numbered.{each_none, each_push}
use Rattle.relay_worker.proofs.Slabs.{gone_cases}
use Rattle.http_flv.specs.Keeping.{IsOver}
use Rattle.http_flv.specs.Out.{IsOwed}
use Rattle.http_flv.specs.PlayerState.{Lasting, PlayerState, StandsBy, end_or_closed, ended_by, life_at}
use Rattle.http_flv.specs.Turns.{OverBy}
use Rattle.http_flv.specs.declared.core_fields.Core.{Core}
use Rattle.http_flv.specs.declared.end.HttpEnd.{HttpEnd}
use Rattle.http_flv.specs.declared.end.HttpEnd.TheVariants as end
use Rattle.http_flv.specs.declared.stage.Stage.{Stage}
use Rattle.http_flv.specs.declared.turn.HttpTurn.{HttpTurn}
use Rattle.http_flv.specs.declared.turn.HttpTurn.TheVariants as turn
use Rattle.http_worker.specs.Benches.{IsNamed, IsSound, WorkerState}
use Rattle.http_worker.specs.Books.{Account, Accounted, AsksAt, HasStopped, IsBackAfter, IsLive, IsServed, Lives, LivesBy, SentBy, Settled, Ties, Works}
use Rattle.http_worker.specs.Players.{Closes, IsNewPlayer, TakesTurn, is_spent, is_worn, lacks_memory, wears_out}
use Rattle.http_worker.specs.Rounds.{Admits, AdmitsIf, ClosesAt, ClosesBy, ClosesIf, GoesIf, IsAdmitted, IsGone, IsLeft, IsTurned, Rounds, TurnsAt}
use Rattle.http_worker.specs.Rounds.{TurnsBy, TurnsIf, asks_door, begun}
use Rattle.http_worker.specs.declared.bench.Bench.{Bench}
use Rattle.http_worker.specs.declared.bench.Seated.{Seated}
use Rattle.http_worker.specs.declared.bench.Terms.{Terms}
use Rattle.http_worker.proofs.Slabs.{Each, Single, each_gone, each_put, single_gone, single_more, single_put}
use Rattle.http_worker.proofs.Sounding.{name, named_more, named_new}
use Rattle.http_worker.proofs.Turning.{Alive, LeftBy, turned}

-- ---- a link and its account

-- what a link told, or what its player knows where it tells nothing
told_of : Option LinkTold → LinkCounts → List ℕ → List ℕ → Returned
told_of None counts gave sent = record { gave = gave; took = sent; counts = counts }
told_of (Some t) counts gave sent = record { gave = t.gave; took = t.took; counts = counts }

-- the door has one link more back
one_back : (back : Option (List Returned)) (o : Option LinkTold) (counts : LinkCounts) (gave sent : List ℕ) (accounts : List Account) (a : Account)
    → a.link ≡ told_of o counts gave sent
    → ((list : List Returned) → back ≡ Some list → list ≡ map (λ (b : Account). b.link) accounts) → (list : List Returned)
    → with_one back (returned o counts) ≡ Some list → list ≡ map (λ (b : Account). b.link) (accounts ++ a ∷ [])
unfolding told_of
one_back None o counts gave sent accounts a link was list is = absurd (let n : None ≡ Some list = is in cc)
one_back (Some xs) None counts gave sent accounts a link was list is = absurd (let n : None ≡ Some list = is in cc)
one_back (Some xs) (Some t) counts gave sent accounts a link was list is =
    let r : Returned = record { gave = t.gave; took = t.took; counts = counts } in
    let same : xs ++ r ∷ [] ≡ list = let n : Some (xs ++ r ∷ []) ≡ Some list = is in cc in
    sym same ∙ (ap (λ (l : List Returned). l ++ r ∷ []) (was xs refl) ∙ (ap (λ (b : Returned). map (λ (c : Account). c.link) accounts ++ b ∷ [])
    (sym link) ∙ sym (map_push (λ (c : Account). c.link) accounts a)))

-- what a link told, by which its player was served
served_by : (desk : Ask → Grant) (who : ℕ) (e : HttpEnd) (o : Option LinkTold) (counts : LinkCounts) (gave sent x later : List ℕ) (calls : List Own)
    (waited : Option Entry) → Ties o gave sent → IsServed desk who e counts gave sent x later calls waited
    → IsServed desk who e (told_of o counts gave sent).counts (told_of o counts gave sent).gave (told_of o counts gave sent).took x later calls waited
unfolding told_of
served_by desk who e None counts gave sent x later calls waited t s = s
served_by desk who e (Some u) counts gave sent x later calls waited t s =
    let p = t u refl in
    subst (λ (g : List ℕ). IsServed desk who e counts g u.took x later calls waited) (sym p.0)
    (subst (λ (k : List ℕ). IsServed desk who e counts gave k x later calls waited) (sym p.1) s)

-- ---- what a player has sent

record IsSentOf (desk : Ask → Grant) (e : HttpEnd) (c : Core) : Type 0 where
  out : List ℕ
  owed : IsOwed desk c.x c.calls out
  sent : SentBy e out c.sent

begins_so : (desk : Ask → Grant) (e : HttpEnd) (c : Core) → (o : IsOver desk c) → SentBy e (c.sent ++ o.more) c.sent → IsSentOf desk e c
begins_so desk e c o s = record { out = c.sent ++ o.more; owed = record { verdict = o.verdict; read = o.read; owes = o.owes }; sent = s }

sent_of : (desk : Ask → Grant) (e : HttpEnd) (c : Core) → OverBy desk c e → IsSentOf desk e c
sent_of desk (end.Answered code) c o =
    record { out = c.sent; owed = record { verdict = o.verdict; read = o.read; owes = o.owes }; sent = (refl, (o.refusal, (o.code_is, o.sent_is))) }
sent_of desk end.PeerClosed c o = begins_so desk end.PeerClosed c o (o.more, refl)
sent_of desk end.LinkFault c o = begins_so desk end.LinkFault c o (o.more, refl)
sent_of desk end.Worn c o = begins_so desk end.Worn c o (o.more, refl)
sent_of desk end.OutOfMemory c o = begins_so desk end.OutOfMemory c o (o.more, refl)
sent_of desk end.Closed c o = begins_so desk end.Closed c o (o.more, refl)

-- a turn by which no player lacked memory
unspent_by : (a : HttpTurn) → is_spent a ≡ false → ended_by a ≢ Some end.OutOfMemory
unspent_by turn.Moved e = λ is. let n : None ≡ Some end.OutOfMemory = is in cc
unspent_by turn.Idle e = λ is. let n : None ≡ Some end.OutOfMemory = is in cc
unspent_by (turn.Ended q) e = λ is.
    let n : q ≡ end.OutOfMemory = let m : Some q ≡ Some end.OutOfMemory = is in cc in
    let f : false ≡ true = sym e ∙ ap lacks_memory n in cc

-- and one by which none found a history full
unfilled_by : (a : HttpTurn) → is_worn a ≡ false → ended_by a ≢ Some end.Worn
unfilled_by turn.Moved e = λ is. let n : None ≡ Some end.Worn = is in cc
unfilled_by turn.Idle e = λ is. let n : None ≡ Some end.Worn = is in cc
unfilled_by (turn.Ended q) e = λ is.
    let n : q ≡ end.Worn = let m : Some q ≡ Some end.Worn = is in cc in
    let f : false ≡ true = sym e ∙ ap wears_out n in cc

-- ---- a player that is there

module _ {P Q L : Type 0} (rules : P → PortRules) (root : P → Histories) (seen : Q → List Step) (told : L → Option LinkTold) (counts : L → LinkCounts)
    (desk : Ask → Grant) (t : Terms) where
  abbrev Here : P → List Account → Seated P L Q → Type 0
  Here x accounts s = Lives rules root seen told counts desk t x accounts s

  holds_of : (x : P) (accounts : List Account) (s : Seated P L Q) → Here x accounts s → Holds rules root seen x s.player.seat
  holds_of x accounts s w = record { calls = w.calls; granted = w.granted }

  -- others have made calls
  lives_on : (x y : P) (accounts : List Account) (s : Seated P L Q) → rules y ≡ rules x → GoOn (root x) (root y) → Here x accounts s → Here y accounts s
  lives_on x y accounts s same g w =
      record {
        longest = w.longest;
        by = w.by;
        calls = calls_on rules root seen x y s.player.seat same g w.calls;
        granted = w.granted;
        own = w.own;
        fresh = w.fresh;
      }

  -- one account more, of another player
  lives_more : (x : P) (accounts : List Account) (a : Account) (s : Seated P L Q) → a.who ≢ name s → Here x accounts s → Here x (accounts ++ a ∷ []) s
  lives_more x accounts a s other w =
      record {
        longest = w.longest;
        by = w.by;
        calls = w.calls;
        granted = w.granted;
        own = w.own;
        fresh = All-push (λ (b : Account). b.who ≢ name s) accounts a w.fresh other;
      }

  live_new : (had : ℕ) (s : Seated P L Q) → IsNewPlayer t had s.player → IsNewLink (told s.link) (counts s.link)
      → IsLive (told s.link) desk s.player.parts s.player.seat.visits
  live_new had s n l =
      let c = s.player.parts in
      record {
        stands = subst (λ (o : Option HttpEnd). StandsBy o desk c) n.lives (n.stands desk);
        asks = subst (λ (q : Stage). AsksAt desk q c.who c.x c.later c.calls c.kept) (sym n.stage.0) (record {
          none = n.empty.1;
          no_call = n.empty.2;
          no_wait = n.stage.1;
        });
        calls = ap calls_of n.nowhere.1 ∙ sym n.empty.2;
        ties = λ u is. let b = l.blank u is in (b.0 ∙ sym (ap (λ (y : List ℕ). y ++ c.later) n.empty.0 ∙ n.empty.1), b.1 ∙ sym n.empty.3);
      }

  -- a new one
  lives_new : (x : P) (had : ℕ) (accounts : List Account) (s : Seated P L Q) → IsNewPlayer t had s.player → IsNewLink (told s.link) (counts s.link)
      → All (λ (a : Account). IsNamed had a.who) accounts → Here x accounts s
  lives_new x had accounts s n l named =
      let none : s.player.seat.visits ≡ [] = n.nowhere.1 in
      record {
        longest = n.longest;
        by = subst (λ (o : Option HttpEnd). LivesBy (told s.link) (counts s.link) desk o s.player.parts s.player.seat.visits) (sym n.lives)
            (live_new had s n l);
        calls = subst (λ (v : List Visit). AllStand (rules x).limits (known root seen x s.player.seat) v) (sym none) (record { at_each = λ q. tt });
        granted = subst (λ (o : Option (ℕ × Q)). HasGrant o s.player.seat.active s.player.seat.visits) (sym n.nowhere.0) tt;
        own = record {
          made = subst (λ (v : List Visit). All (λ (w : Visit). w.1.0.who ≡ name s) v) (sym none) (All-nil (λ (w : Visit). w.1.0.who ≡ name s));
          waits = λ e is. absurd (let m : None ≡ Some e = sym n.stage.1 ∙ is in cc);
        };
        fresh = λ i d le e. let m = (named i d le).to in let w = n.who in omega (arith, m, w, e);
      }

  -- ---- its turn

  -- by how it was answered
  lives_by : (o : Option HttpEnd) (link : L) (c : Core) (x : P) (s : SeatState Q) → c.calls ≡ calls_of s.visits → StandsBy o desk c
      → LeftBy rules root seen told counts desk o link c x s → LivesBy (told link) (counts link) desk o c s.visits
  lives_by None link c x s calls stands k = record { stands = stands; asks = k.asks; calls = sym calls; ties = k.ties }
  lives_by (Some e) link c x s calls stands k =
      let s' = sent_of desk e c stands in
      record {
        gave = k.gave;
        ties = k.ties;
        waited = c.kept;
        served = record { came = k.came; asked = k.asked; out = s'.out; owed = s'.owed; sent = s'.sent; cause = k.cause };
        left = [];
        calls_are = sym calls ∙ sym (append-nil c.calls);
        leaving = inl (refl, refl);
      }

  left_holds : (o : Option HttpEnd) (link : L) (c : Core) (x : P) (s : SeatState Q) → LeftBy rules root seen told counts desk o link c x s
      → Holds rules root seen x s × Owns c.who s.visits c.kept
  left_holds None link c x s k = (k.holds, k.owns)
  left_holds (Some e) link c x s k = (k.holds, k.owns)

  -- one that lives
  live_of : (o : Option HttpEnd) (link : L) (c : Core) (visits : List Visit) → o ≡ None → LivesBy (told link) (counts link) desk o c visits
      → IsLive (told link) desk c visits
  live_of None link c visits n k = k
  live_of (Some e) link c visits n k = absurd (let f : Some e ≡ None = n in cc)

  stopped_of : (o : Option HttpEnd) (e : HttpEnd) (link : L) (c : Core) (visits : List Visit) → o ≡ Some e
      → LivesBy (told link) (counts link) desk o c visits → HasStopped (told link) (counts link) desk e c visits
  stopped_of o e link c visits is k = subst (λ (q : Option HttpEnd). LivesBy (told link) (counts link) desk q c visits) is k

  module _ (fits : P → ℕ → Q → Type 0) (count : Q → ℕ) (wants : Entry → Type 0) (busies : P → ℕ)
      (adds : List Step → List Step → List Step → Type 0) (kin : P → Kin) (branches : Q → List Branch) where
    module _ (hears : L → ℕ → Came → L → Type 0) (hears_mean : (l : L) (room : ℕ) (answer : Came) (m : L) → 0 < room → hears l room answer m
        → HearStep room (told l) (told m) (counts l) (counts m) answer)
        (says : L → List ℕ → Said → L → Type 0) (says_mean : (l : L) (piece : List ℕ) (answer : Said) (m : L) → 0 < length piece → says l piece answer m
        → SayStep piece (told l) (told m) (counts l) (counts m) answer) where
      lives_turned : (x y : P) (accounts : List Account) (s s' : Seated P L Q) (a : HttpTurn) → s.player.ended ≡ None
          → TakesTurn fits rules root seen count wants busies adds kin branches desk counts hears says x s a y s' → Here x accounts s → Here y accounts s'
      lives_turned x y accounts s s' a n u w =
          let live = live_of s.player.ended s.link s.player.parts s.player.seat.visits n w.by in
          let alive : Alive rules root seen told counts desk s.link s.player.parts x s.player.seat = record {
            asks = live.asks;
            ties = live.ties;
            holds = holds_of x accounts s w;
            owns = w.own;
          } in
          let c = s'.player.parts in
          let left : LeftBy rules root seen told counts desk s'.player.ended s'.link c y s'.player.seat =
          subst (λ (o : Option HttpEnd). LeftBy rules root seen told counts desk o s'.link c y s'.player.seat) (sym u.ended)
          (turned rules root seen told counts desk fits count wants busies adds kin branches hears hears_mean says says_mean s.player.ended (life_at s.player x) s.link a
          (life_at s'.player y) s'.link n u.turn alive) in
          let h = left_holds s'.player.ended s'.link c y s'.player.seat left in
          let stands = u.stands (subst (λ (o : Option HttpEnd). StandsBy o desk s.player.parts) (sym n) live.stands) in
          record {
            longest = ap (λ (k : Lasting). k.longest) u.lasts ∙ w.longest;
            by = lives_by s'.player.ended s'.link c y s'.player.seat u.calls stands left;
            calls = h.0.calls;
            granted = h.0.granted;
            own = h.1;
            fresh = subst (λ (who : ℕ). All (λ (b : Account). b.who ≢ who) accounts) (sym (ap (λ (k : Lasting). k.who) u.lasts)) w.fresh;
          }

    -- ---- its close

    abbrev Close : P → PlayerState Q → Leaving → P → PlayerState Q → Type 0
    Close = Closes fits rules root seen count wants busies adds kin branches

    holds_closed : (o : Option ℕ) (x y : P) (s s' : PlayerState Q) (answer : Leaving) → place_of s.seat.spot ≡ o → Close x s answer y s'
        → Holds rules root seen x s.seat → Holds rules root seen y s'.seat
    holds_closed None x y s s' answer at c h =
        let l : LeavesFrom None s.parts.who s.parts.fed s.parts.kept s.seat.active s.seat.visits answer s'.parts.kept s'.seat.active s'.seat.visits =
        subst (λ (p : Option ℕ). LeavesFrom p s.parts.who s.parts.fed s.parts.kept s.seat.active s.seat.visits answer s'.parts.kept s'.seat.active
        s'.seat.visits) at c.leaves in
        holds_nowhere fits rules root seen count wants busies x y s.seat s'.seat c.fixed c.roots (nowhere s.seat.spot at)
        (nowhere s'.seat.spot (c.spot ∙ (ap (λ (r : Leaving). left_at r (place_of s.seat.spot)) l.0))) l.1 h
    holds_closed (Some place) x y s s' answer at c h =
        let after = c.stands (record { calls = h.calls; granted = active_of s.seat.spot place s.seat.active s.seat.visits at h.granted }) in
        record { calls = after.calls; granted = granted_of s'.seat.spot s'.seat.active s'.seat.visits after.granted }

    -- what a close leaves of it
    record IsLeaving (left : Bool) (y : P) (e : HttpEnd) (accounts : List Account) (link : L) (now : PlayerState Q) : Type 0 where
      longest : now.parts.longest ≡ t.limits.max_message
      gave : List ℕ
      ties : Ties (told link) gave now.parts.sent
      waited : Option Entry
      served : IsServed desk now.parts.who e (counts link) gave now.parts.sent now.parts.x now.parts.later now.parts.calls waited
      holds : Holds rules root seen y now.seat
      calls : LeftAs left waited now.parts.calls now.seat.visits now.parts.kept
      own : Owns now.parts.who now.seat.visits now.parts.kept
      fresh : All (λ (a : Account). a.who ≢ now.parts.who) accounts

    leaving_of : (x y : P) (e : HttpEnd) (accounts : List Account) (s : Seated P L Q) (answer : Leaving) (now : PlayerState Q) → s.player.ended ≡ Some e
        → Close x s.player answer y now → Here x accounts s → IsLeaving (has_left answer) y e accounts s.link now
    leaving_of x y e accounts s answer now is c w =
        let who_is : now.parts.who ≡ name s = ap (λ (k : Core). k.who) c.parts in
        let grown = grows_from (place_of s.player.seat.spot) (name s) s.player.parts.fed s.player.parts.kept s.player.seat.active s.player.seat.visits
        answer now.parts.kept now.seat.active now.seat.visits c.leaves in
        let stopped = stopped_of s.player.ended e s.link s.player.parts s.player.seat.visits is w.by in
        record {
          longest = ap (λ (k : Core). k.longest) c.parts ∙ w.longest;
          gave = stopped.gave;
          ties = subst (λ (k : Core). Ties (told s.link) stopped.gave k.sent) (sym c.parts) stopped.ties;
          waited = stopped.waited;
          served = subst (λ (k : Core). IsServed desk k.who e (counts s.link) stopped.gave k.sent k.x k.later k.calls stopped.waited)
              (sym c.parts) stopped.served;
          holds = holds_closed (place_of s.player.seat.spot) x y s.player now answer refl c (holds_of x accounts s w);
          calls = subst (λ (l : List Own). LeftAs (has_left answer) stopped.waited l now.seat.visits now.parts.kept) (sym (ap (λ (k : Core). k.calls) c.parts))
              (left_from (place_of s.player.seat.spot) answer stopped.waited s.player.parts.kept s.player.parts.calls (name s) s.player.parts.fed
              s.player.seat.active s.player.seat.visits now.parts.kept now.seat.active now.seat.visits c.leaves
              (record { left = stopped.left; calls_are = stopped.calls_are; leaving = stopped.leaving }));
          own = subst (λ (n : ℕ). Owns n now.seat.visits now.parts.kept) (sym who_is) (grown.owns w.own);
          fresh = subst (λ (n : ℕ). All (λ (a : Account). a.who ≢ n) accounts) (sym who_is) w.fresh;
        }

    -- it is still there
    lives_left : (y : P) (e : HttpEnd) (accounts : List Account) (s' : Seated P L Q) → s'.player.ended ≡ Some e
        → IsLeaving false y e accounts s'.link s'.player → Here y accounts s'
    lives_left y e accounts s' is l = record {
      longest = l.longest;
      by = subst (λ (o : Option HttpEnd). LivesBy (told s'.link) (counts s'.link) desk o s'.player.parts s'.player.seat.visits) (sym is)
          (record {
            gave = l.gave;
            ties = l.ties;
            waited = l.waited;
            served = l.served;
            left = l.calls.left;
            calls_are = l.calls.calls_are;
            leaving = l.calls.leaving;
          });
      calls = l.holds.calls;
      granted = l.holds.granted;
      own = l.own;
      fresh = l.fresh;
    }

    abbrev account_of : HttpEnd → List ℕ → PlayerState Q → L → Account
    account_of e gave now link = record { who = now.parts.who; end = e; link = told_of (told link) (counts link) gave now.parts.sent }

    -- it has left, and this is its account
    accounted_of : (y : P) (e : HttpEnd) (accounts : List Account) (link : L) (now : PlayerState Q) → now.seat.spot ≡ None
        → (l : IsLeaving true y e accounts link now) → Accounted desk (rules y).limits (root y) (account_of e l.gave now link)
    accounted_of y e accounts link now away l =
        let here : known root seen y now.seat ≡ root y = ap (λ (o : Option (ℕ × Q)). known root seen y (record {
          spot = o;
          active = now.seat.active;
          visits = now.seat.visits;
        })) away in
        record {
          x = now.parts.x;
          later = now.parts.later;
          visits = now.seat.visits;
          stand = subst (λ (h : Histories). AllStand (rules y).limits h now.seat.visits) here l.holds.calls;
          own = l.own.made;
          calls = now.parts.calls;
          waited = l.waited;
          served = served_by desk now.parts.who e (told link) (counts link) l.gave now.parts.sent now.parts.x now.parts.later now.parts.calls l.waited
              l.ties l.served;
          left = l.calls.left;
          calls_are = l.calls.calls_are;
          left_by = l.calls.left_by;
        }

accounted_on : (desk : Ask → Grant) (limits limits' : ℕ → Shape) (h h' : Histories) (a : Account) → limits' ≡ limits → GoOn h h' → Accounted desk limits h a
    → Accounted desk limits' h' a
accounted_on desk limits limits' h h' a same g w = record {
  x = w.x;
  later = w.later;
  visits = w.visits;
  stand = subst (λ (l : ℕ → Shape). AllStand l h' w.visits) (sym same) (all_later limits h h' w.visits g w.stand);
  own = w.own;
  calls = w.calls;
  waited = w.waited;
  served = w.served;
  left = w.left;
  calls_are = w.calls_are;
  left_by = w.left_by;
}

-- what is left of the books, where the histories went on
pub settled_later : (desk : Ask → Grant) (t : Terms) (limits : ℕ → Shape) (h h' : Histories) (door : DoorTold) (refused worn : Bool) → GoOn h h'
    → Settled desk t limits h door refused worn → Settled desk t limits h' door refused worn
settled_later desk t limits h h' door refused worn g w = record {
  accounts = w.accounts;
  back_is = w.back_is;
  accounted = λ i d le. accounted_on desk limits limits h h' (get_or w.accounts i d) refl g (w.accounted i d le);
  named = w.named;
  apart = w.apart;
  counted = w.counted;
  few = w.few;
  spared = w.spared;
  unworn = w.unworn;
}

-- ---- the whole

-- a list of accounts at a port whose histories went on
all_on : (desk : Ask → Grant) (r r' : PortRules) (h h' : Histories) (accounts : List Account) → r' ≡ r → GoOn h h'
    → All (Accounted desk r.limits h) accounts → All (Accounted desk r'.limits h') accounts
all_on desk r r' h h' accounts same g all i d le = accounted_on desk r.limits r'.limits h h' (get_or accounts i d) (ap (λ (x : PortRules). x.limits) same) g
    (all i d le)

module _ {P D Q L : Type 0} (rules : P → PortRules) (root : P → Histories) (seen : Q → List Step) (told : L → Option LinkTold) (counts : L → LinkCounts)
    (doors : D → DoorTold) (desk : Ask → Grant) (t : Terms) where
  abbrev Keeps : Bench P D Q L → Type 0
  Keeps b = Works rules root seen told counts doors desk t b

  abbrev There : P → List Account → Seated P L Q → Type 0
  There x accounts s = Lives rules root seen told counts desk t x accounts s

  abbrev Unspent : Seated P L Q → Type 0
  Unspent s = s.player.ended ≢ Some end.OutOfMemory

  abbrev Unfilled : Seated P L Q → Type 0
  Unfilled s = s.player.ended ≢ Some end.Worn

  abbrev Near : ℕ → Seated P L Q → Type 0
  Near back s = IsBackAfter t back (name s)

  -- the books, and that each player has a name of its own, which it was given
  pub record Kept (b : Bench P D Q L) : Type 0 where
    pub works : Keeps b
    pub named : Each (λ s. IsNamed b.had (name s)) b.players
    pub single : Single name b.players

  -- the port alone, or what the books say nothing of
  kept_same : (b b' : Bench P D Q L) → b'.players ≡ b.players → (doors b'.door).back ≡ (doors b.door).back → b'.had ≡ b.had → b'.refused ≡ b.refused
      → b'.worn ≡ b.worn → b'.port ≡ b.port → Kept b → Kept b'
  kept_same b b' same back had refused worn port k =
      let w = k.works in
      record {
        works = record {
          accounts = w.accounts;
          back_is = λ list is. w.back_is list (sym back ∙ is);
          accounted = subst (λ (p : P). All (Accounted desk (rules p).limits (root p)) w.accounts) (sym port) w.accounted;
          named = subst (λ (n : ℕ). All (λ (a : Account). IsNamed n a.who) w.accounts) (sym had) w.named;
          apart = w.apart;
          lives = subst (λ (p : P). Each (There p w.accounts) b'.players) (sym port) (subst (λ (l : Slab (Seated P L Q)). Each (There b.port w.accounts) l)
              (sym same) w.lives);
          counted = λ r. ap (λ (l : Slab (Seated P L Q)). slab_len l + length w.accounts) same ∙ (w.counted (sym refused ∙ r) ∙ sym had);
          few = λ r. w.few (sym refused ∙ r);
          near = λ r. subst (λ (l : Slab (Seated P L Q)). Each (Near (length w.accounts)) l) (sym same) (w.near (sym refused ∙ r));
          spared = λ r. w.spared (sym refused ∙ r);
          unspent = λ r. subst (λ (l : Slab (Seated P L Q)). Each Unspent l) (sym same) (w.unspent (sym refused ∙ r));
          unworn = λ r. w.unworn (sym worn ∙ r);
          unfilled = λ r. subst (λ (l : Slab (Seated P L Q)). Each Unfilled l) (sym same) (w.unfilled (sym worn ∙ r));
        };
        named = subst (λ (n : ℕ). Each (λ (s : Seated P L Q). IsNamed n (name s)) b'.players) (sym had)
            (subst (λ (l : Slab (Seated P L Q)). Each (λ (s : Seated P L Q). IsNamed b.had (name s)) l) (sym same) k.named);
        single = subst (λ (l : Slab (Seated P L Q)). Single name l) (sym same) k.single;
      }

  -- a link came
  kept_more : (b b' : Bench P D Q L) (key : ℕ) (s' : Seated P L Q) → IsNewPlayer t b.had s'.player → IsNewLink (told s'.link) (counts s'.link)
      → Updates b.players b'.players key (Some s') → slab_len b'.players ≡ slab_len b.players + 1
      → (doors b'.door).back ≡ (doors b.door).back → b'.had ≡ b.had + 1 → b'.refused ≡ b.refused → b'.worn ≡ b.worn → b'.port ≡ b.port
      → slab_len b.players < t.links → Kept b → Kept b'
  kept_more b b' key s' n l u len back had refused worn port room k =
      let w = k.works in
      record {
        works = record {
          accounts = w.accounts;
          back_is = λ list is. w.back_is list (sym back ∙ is);
          accounted = subst (λ (p : P). All (Accounted desk (rules p).limits (root p)) w.accounts) (sym port) w.accounted;
          named = λ i d le. subst (λ (m : ℕ). IsNamed m (get_or w.accounts i d).who) (sym had) (named_more b.had (get_or w.accounts i d).who (w.named i d le));
          apart = w.apart;
          lives = subst (λ (p : P). Each (There p w.accounts) b'.players) (sym port)
              (each_put (There b.port w.accounts) (There b.port w.accounts) b.players b'.players key s' u (λ x i. i)
              (lives_new rules root seen told counts desk t b.port b.had w.accounts s' n l w.named) w.lives);
          counted = λ r. let c = w.counted (sym refused ∙ r) in omega (arith, c, len, had);
          few = λ r. w.few (sym refused ∙ r);
          near = λ r. each_put (Near (length w.accounts)) (Near (length w.accounts)) b.players b'.players key s' u (λ x i. i)
              (let c = w.counted (sym refused ∙ r) in let m = n.who in omega (arith, c, m, room)) (w.near (sym refused ∙ r));
          spared = λ r. w.spared (sym refused ∙ r);
          unspent = λ r. each_put Unspent Unspent b.players b'.players key s' u (λ x i. i) (λ is. let m : None ≡ Some end.OutOfMemory = sym n.lives ∙ is in
              cc) (w.unspent (sym refused ∙ r));
          unworn = λ r. w.unworn (sym worn ∙ r);
          unfilled = λ r. each_put Unfilled Unfilled b.players b'.players key s' u (λ x i. i) (λ is. let m : None ≡ Some end.Worn = sym n.lives ∙ is in cc)
              (w.unfilled (sym worn ∙ r));
        };
        named = subst (λ (m : ℕ). Each (λ (s : Seated P L Q). IsNamed m (name s)) b'.players) (sym had)
            (each_put (λ (s : Seated P L Q). IsNamed b.had (name s)) (λ (s : Seated P L Q). IsNamed (b.had + 1) (name s)) b.players b'.players key s' u
            (λ x i. named_more b.had (name x) i) (named_new b.had (name s') n.who) k.named);
        single = single_more name b.players b'.players key s' u (λ j y at e. let m = (k.named j y at).to in let v = n.who in omega (arith, e, m, v)) k.single;
      }

  -- a player at its key is another, of the same name
  kept_put : (b b' : Bench P D Q L) (key : ℕ) (s s' : Seated P L Q) → get b.players key ≡ Some s → Updates b.players b'.players key (Some s')
      → slab_len b'.players ≡ slab_len b.players → (doors b'.door).back ≡ (doors b.door).back → b'.had ≡ b.had
      → (b'.refused ≡ false → b.refused ≡ false) → (b'.worn ≡ false → b.worn ≡ false) → rules b'.port ≡ rules b.port → GoOn (root b.port) (root b'.port)
      → name s' ≡ name s → (k : Kept b) → There b'.port k.works.accounts s'
      → (b'.refused ≡ false → Unspent s') → (b'.worn ≡ false → Unfilled s') → Kept b'
  kept_put b b' key s s' here u len back had spared worn fixed g who k there unspent unfilled =
      let w = k.works in
      record {
        works = record {
          accounts = w.accounts;
          back_is = λ list is. w.back_is list (sym back ∙ is);
          accounted = all_on desk (rules b.port) (rules b'.port) (root b.port) (root b'.port) w.accounts fixed g w.accounted;
          named = subst (λ (n : ℕ). All (λ (a : Account). IsNamed n a.who) w.accounts) (sym had) w.named;
          apart = w.apart;
          lives = each_put (There b.port w.accounts) (There b'.port w.accounts) b.players b'.players key s' u
              (λ x i. lives_on rules root seen told counts desk t b.port b'.port w.accounts x fixed g i) there w.lives;
          counted = λ r. ap (λ (n : ℕ). n + length w.accounts) len ∙ (w.counted (spared r) ∙ sym had);
          few = λ r. w.few (spared r);
          near = λ r. each_put (Near (length w.accounts)) (Near (length w.accounts)) b.players b'.players key s' u (λ x i. i)
              (subst (IsBackAfter t (length w.accounts)) (sym who) (w.near (spared r) key s here)) (w.near (spared r));
          spared = λ r. w.spared (spared r);
          unspent = λ r. each_put Unspent Unspent b.players b'.players key s' u (λ x i. i) (unspent r) (w.unspent (spared r));
          unworn = λ r. w.unworn (worn r);
          unfilled = λ r. each_put Unfilled Unfilled b.players b'.players key s' u (λ x i. i) (unfilled r) (w.unfilled (worn r));
        };
        named = subst (λ (n : ℕ). Each (λ (x : Seated P L Q). IsNamed n (name x)) b'.players) (sym had)
            (each_put (λ (x : Seated P L Q). IsNamed b.had (name x)) (λ (x : Seated P L Q). IsNamed b.had (name x)) b.players b'.players key s' u (λ x i. i)
            (subst (IsNamed b.had) (sym who) (k.named key s here)) k.named);
        single = single_put name b.players b'.players key s s' here u who k.single;
      }

  -- the players that are left where one is gone
  module _ (b b' : Bench P D Q L) (key : ℕ) (s : Seated P L Q) (here : get b.players key ≡ Some s) (u : Updates b.players b'.players key None)
      (fixed : rules b'.port ≡ rules b.port) (g : GoOn (root b.port) (root b'.port)) (had : b'.had ≡ b.had) (worn : b'.worn ≡ b.worn) (k : Kept b) where
    lives_else : Each (There b'.port k.works.accounts) b'.players
    lives_else = each_gone (There b.port k.works.accounts) (There b'.port k.works.accounts) b.players b'.players key u
        (λ x i. lives_on rules root seen told counts desk t b.port b'.port k.works.accounts x fixed g i) k.works.lives

    named_else : Each (λ (x : Seated P L Q). IsNamed b'.had (name x)) b'.players
    named_else = each_gone (λ (x : Seated P L Q). IsNamed b.had (name x)) (λ (x : Seated P L Q). IsNamed b'.had (name x)) b.players b'.players key u
        (λ x i. subst (λ (n : ℕ). IsNamed n (name x)) (sym had) i) k.named

    -- another has another name
    name_else : (j : ℕ) (x : Seated P L Q) → get b'.players j ≡ Some x → name s ≢ name x
    name_else j x at e =
        let c = gone_cases b.players b'.players key u j x at in
        c.0 (sym (k.single key j s x here c.1 e))

    -- its link is dropped
    kept_dropped : (doors b'.door).back ≡ (doors b.door).back → b'.refused ≡ true → Kept b'
    kept_dropped back refused =
        let w = k.works in
        record {
          works = record {
            accounts = w.accounts;
            back_is = λ list is. w.back_is list (sym back ∙ is);
            accounted = all_on desk (rules b.port) (rules b'.port) (root b.port) (root b'.port) w.accounts fixed g w.accounted;
            named = subst (λ (n : ℕ). All (λ (a : Account). IsNamed n a.who) w.accounts) (sym had) w.named;
            apart = w.apart;
            lives = lives_else;
            counted = λ r. absurd (let n : true ≡ false = sym refused ∙ r in cc);
            few = λ r. absurd (let n : true ≡ false = sym refused ∙ r in cc);
            near = λ r. absurd (let n : true ≡ false = sym refused ∙ r in cc);
            spared = λ r. absurd (let n : true ≡ false = sym refused ∙ r in cc);
            unspent = λ r. absurd (let n : true ≡ false = sym refused ∙ r in cc);
            unworn = λ r. w.unworn (sym worn ∙ r);
            unfilled = λ r. each_gone Unfilled Unfilled b.players b'.players key u (λ x i. i) (w.unfilled (sym worn ∙ r));
          };
          named = named_else;
          single = single_gone name b.players b'.players key u k.single;
        }

    -- its link is handed back, and this is its account
    kept_back : (a : Account) (gave sent : List ℕ) → a.who ≡ name s → a.link ≡ told_of (told s.link) (counts s.link) gave sent
        → Accounted desk (rules b'.port).limits (root b'.port) a → slab_len b'.players + 1 ≡ slab_len b.players
        → (doors b'.door).back ≡ with_one (doors b.door).back (returned (told s.link) (counts s.link)) → (b'.refused ≡ false → b.refused ≡ false)
        → All (λ (c : Account). c.who ≢ a.who) k.works.accounts
        → s.player.ended ≡ Some a.end → Kept b'
    kept_back a gave sent who link good len back spared fresh ended =
        let w = k.works in
        let named_it : IsNamed b.had a.who = subst (IsNamed b.had) (sym who) (k.named key s here) in
        record {
          works = record {
            accounts = w.accounts ++ a ∷ [];
            back_is = λ list is. one_back (doors b.door).back (told s.link) (counts s.link) gave sent w.accounts a link w.back_is list (sym back ∙ is);
            accounted = All-push (Accounted desk (rules b'.port).limits (root b'.port)) w.accounts a (all_on desk (rules b.port) (rules b'.port)
                (root b.port) (root b'.port) w.accounts fixed g w.accounted) good;
            named = subst (λ (n : ℕ). All (λ (c : Account). IsNamed n c.who) (w.accounts ++ a ∷ [])) (sym had)
                (All-push (λ (c : Account). IsNamed b.had c.who) w.accounts a w.named named_it);
            apart = all_pairs_push (λ (c d : Account). c.who ≢ d.who) w.accounts a w.apart (λ i d le. fresh i d le);
            lives = λ j y at. lives_more rules root seen told counts desk t b'.port w.accounts a y (subst (λ (n : ℕ). n ≢ name y) (sym who)
                (name_else j y at)) (lives_else j y at);
            counted = λ r. let c = w.counted (spared r) in let p = length_push w.accounts a in omega (arith, c, p, len, had);
            few = λ r. each_push (λ i (c : Account). IsBackAfter t i c.who) w.accounts a (w.few (spared r)) (subst (IsBackAfter t (length w.accounts))
                (sym who) (w.near (spared r) key s here));
            near = λ r j y at. let c = w.near (spared r) j y (gone_cases b.players b'.players key u j y at).1 in let p = length_push w.accounts a in
                omega (arith, c, p);
            spared = λ r. All-push (λ (c : Account). c.end ≢ end.OutOfMemory) w.accounts a (w.spared (spared r))
                (λ is. w.unspent (spared r) key s here (ended ∙ ap (λ (e : HttpEnd). Some e) is));
            unspent = λ r. each_gone Unspent Unspent b.players b'.players key u (λ x i. i) (w.unspent (spared r));
            unworn = λ r. All-push (λ (c : Account). c.end ≢ end.Worn) w.accounts a (w.unworn (sym worn ∙ r))
                (λ is. w.unfilled (sym worn ∙ r) key s here (ended ∙ ap (λ (e : HttpEnd). Some e) is));
            unfilled = λ r. each_gone Unfilled Unfilled b.players b'.players key u (λ x i. i) (w.unfilled (sym worn ∙ r));
          };
          named = named_else;
          single = single_gone name b.players b'.players key u k.single;
        }

  -- ---- the first books, and the last

  pub first_books : (b : Bench P D Q L) → IsNewDoor (doors b.door) → b.players.slots ≡ [] → b.had ≡ 0 → Keeps b
  first_books b d empty had = record {
    accounts = [];
    back_is = λ list is. d.blank list is;
    accounted = λ i x le. absurd (omega (arith, le));
    named = λ i x le. absurd (omega (arith, le));
    apart = λ i j x lt le. absurd (omega (arith, le));
    lives = λ key s at. absurd (let n : None ≡ Some s = sym (ap (λ (l : List (Option (Seated P L Q))). get_or l key None) empty) ∙ at in cc);
    counted = λ r. let z : slab_len b.players ≡ 0 = ap (count_by is_some) empty in omega (arith, z, had);
    few = λ r. each_none (λ i (c : Account). IsBackAfter t i c.who);
    near = λ r key s at. absurd (let n : None ≡ Some s = sym (ap (λ (l : List (Option (Seated P L Q))). get_or l key None) empty) ∙ at in cc);
    spared = λ r i x le. absurd (omega (arith, le));
    unspent = λ r key s at. absurd (let n : None ≡ Some s = sym (ap (λ (l : List (Option (Seated P L Q))). get_or l key None) empty) ∙ at in cc);
    unworn = λ r i x le. absurd (omega (arith, le));
    unfilled = λ r key s at. absurd (let n : None ≡ Some s = sym (ap (λ (l : List (Option (Seated P L Q))). get_or l key None) empty) ∙ at in cc);
  }

  pub settles : (fits : P → ℕ → Q → Type 0) (b : Bench P D Q L) → IsSound fits rules doors t b → slab_len b.players ≡ 0 → Keeps b
      → Settled desk t (rules b.port).limits (root b.port) (doors b.door) b.refused b.worn
  settles fits b s none w = record {
    accounts = w.accounts;
    back_is = w.back_is;
    accounted = w.accounted;
    named = subst (λ (n : ℕ). All (λ (a : Account). IsNamed n a.who) w.accounts) (sym s.given) w.named;
    apart = w.apart;
    counted = λ r. let c = w.counted r in let e = s.given in omega (arith, c, none, e);
    few = w.few;
    spared = w.spared;
    unworn = w.unworn;
  }

  -- ---- the door

  kept_door : (b b' : Bench P D Q L) (c : Bool) → (doors b'.door).back ≡ (doors b.door).back → b' ≡ record b { door = b'.door; closed = c } → Kept b → Kept b'
  kept_door b b' c back same k = kept_same b b' (ap (λ (x : Bench P D Q L). x.players) same) back (ap (λ (x : Bench P D Q L). x.had) same)
      (ap (λ (x : Bench P D Q L). x.refused) same) (ap (λ (x : Bench P D Q L). x.worn) same) (ap (λ (x : Bench P D Q L). x.port) same) k

  kept_admitted : (link : L) (b b' : Bench P D Q L) → IsNewLink (told link) (counts link) → (doors b'.door).back ≡ (doors b.door).back
      → IsAdmitted t link b b' → slab_len b.players < t.links → Kept b → Kept b'
  kept_admitted link b b' new back a room k =
      kept_more b b' a.key (record { player = a.came; link = link; over = false; asked = None; due = true; stream = None; pushes = 0 }) a.new new a.there a.count back
      (ap (λ (x : Bench P D Q L). x.had) a.same) (ap (λ (x : Bench P D Q L). x.refused) a.same) (ap (λ (x : Bench P D Q L). x.worn) a.same)
      (ap (λ (x : Bench P D Q L). x.port) a.same) room k

  kept_admits : (n : Knock L) (b b' : Bench P D Q L) → Knocks told counts (doors b.door) (doors b'.door) n → Admits t n b b' → slab_len b.players < t.links
      → Kept b → Kept b'
  kept_admits (knock.Link link) b b' d a room k = kept_admitted link b b' d.2 (ap (λ (x : DoorTold). x.back) d.1) a room k
  kept_admits knock.NotYet b b' d a room k = kept_door b b' b.closed (ap (λ (x : DoorTold). x.back) d.1) a k
  kept_admits knock.Closed b b' d a room k = kept_door b b' true (ap (λ (x : DoorTold). x.back) d) a k
  kept_admits knock.Failed b b' d a room k = kept_door b b' b.closed (ap (λ (x : DoorTold). x.back) d.1) a k

  kept_admits_if : (asked : Bool) (b b' : Bench P D Q L) → AdmitsIf told counts doors t asked b b' → (asked ≡ true → slab_len b.players < t.links) → Kept b
      → Kept b'
  kept_admits_if false b b' a room k = subst Kept (sym a) k
  kept_admits_if true b b' a room k = kept_admits a.0 b b' a.1.0 a.1.1 (room refl) k

  -- ---- turns and closes

  module _ (fits : P → ℕ → Q → Type 0) (count : Q → ℕ) (wants : Entry → Type 0) (busies : P → ℕ)
      (adds : List Step → List Step → List Step → Type 0) (kin : P → Kin) (branches : Q → List Branch) where
    module _ (hears : L → ℕ → Came → L → Type 0) (hears_mean : (l : L) (room : ℕ) (answer : Came) (m : L) → 0 < room → hears l room answer m
        → HearStep room (told l) (told m) (counts l) (counts m) answer)
        (says : L → List ℕ → Said → L → Type 0) (says_mean : (l : L) (piece : List ℕ) (answer : Said) (m : L) → 0 < length piece → says l piece answer m
        → SayStep piece (told l) (told m) (counts l) (counts m) answer) (refused : P → ℕ) (ready : L → Bool → Type 0) where
      abbrev Turned : P → Seated P L Q → HttpTurn → P → Seated P L Q → Type 0
      Turned = TakesTurn fits rules root seen count wants busies adds kin branches desk counts hears says

      kept_turned : (key : ℕ) (s : Seated P L Q) (b b' : Bench P D Q L) → get b.players key ≡ Some s → s.player.ended ≡ None
          → IsTurned Turned refused key s b b' → Kept b → Kept b'
      kept_turned key s b b' here n i k =
          kept_put b b' key s i.now here i.there i.count (ap (λ (x : Bench P D Q L). (doors x.door).back) i.same) (ap (λ (x : Bench P D Q L). x.had) i.same)
          (λ r. or_first b.refused _ (sym (ap (λ (x : Bench P D Q L). x.refused) i.same) ∙ r))
          (λ r. or_first b.worn _ (sym (ap (λ (x : Bench P D Q L). x.worn) i.same) ∙ r)) i.turn.goes_on.fixed i.turn.goes_on.roots
          (ap (λ (l : Lasting). l.who) i.turn.lasts) k
          (lives_turned rules root seen told counts desk t fits count wants busies adds kin branches hears hears_mean says says_mean b.port b'.port k.works.accounts s i.now
          i.answer n i.turn (k.works.lives key s here))
          (λ r. subst (λ (o : Option HttpEnd). o ≢ Some end.OutOfMemory) (sym i.turn.ended)
          (unspent_by i.answer (or_last b.refused _ (sym (ap (λ (x : Bench P D Q L). x.refused) i.same) ∙ r))))
          (λ r. subst (λ (o : Option HttpEnd). o ≢ Some end.Worn) (sym i.turn.ended)
          (unfilled_by i.answer (or_last b.worn _ (sym (ap (λ (x : Bench P D Q L). x.worn) i.same) ∙ r))))

      kept_turns_by : (o : Option HttpEnd) (key : ℕ) (s : Seated P L Q) (b b' : Bench P D Q L) → get b.players key ≡ Some s → s.player.ended ≡ o
          → TurnsBy Turned refused ready o key s b b' → Kept b → Kept b'
      kept_turns_by None key s b b' here n (inl i) k = kept_turned key s b b' here n i k
      kept_turns_by None key s b b' here n (inr i) k = subst Kept (sym i.same) k
      kept_turns_by (Some e) key s b b' here n i k = subst Kept (sym i) k

      kept_turns_if : (o : Option (Seated P L Q)) (key : ℕ) (b b' : Bench P D Q L) → get b.players key ≡ o
          → TurnsIf Turned refused ready o key b b' → Kept b → Kept b'
      kept_turns_if None key b b' here i k = subst Kept (sym i) k
      kept_turns_if (Some s) key b b' here i k = kept_turns_by s.player.ended key s b b' here refl i k

      kept_turns_at : (key : ℕ) (b b' : Bench P D Q L) → TurnsAt Turned refused ready key b b' → Kept b → Kept b'
      kept_turns_at key b b' i k = kept_turns_if (get b.players key) key b b' refl i k

    abbrev Ends : P → PlayerState Q → Leaving → P → PlayerState Q → Type 0
    Ends = Closes fits rules root seen count wants busies adds kin branches

    kept_gone : (key : ℕ) (s : Seated P L Q) (e : HttpEnd) (answer : Leaving) (now : PlayerState Q) (b b' : Bench P D Q L) → get b.players key ≡ Some s
        → s.player.ended ≡ Some e → has_left answer ≡ true → Ends b.port s.player answer b'.port now
        → IsGone told counts doors key s b b' → Kept b → Kept b'
    kept_gone key s e answer now b b' here n left c i k =
        let w = k.works in
        let l = subst (λ (x : Bool). IsLeaving rules root seen told counts desk t fits count wants busies adds kin branches x b'.port e w.accounts s.link now) left
        (leaving_of rules root seen told counts desk t fits count wants busies adds kin branches b.port b'.port e w.accounts s answer now n c (w.lives key s here)) in
        let away = nowhere now.seat.spot (c.spot ∙ left_nowhere answer (place_of s.player.seat.spot) left) in
        elim i.back [
          | inl h ↦ kept_back b b' key s here i.gone c.fixed c.roots (ap (λ (x : Bench P D Q L). x.had) h.1) (ap (λ (x : Bench P D Q L). x.worn) h.1) k
              (record { who = now.parts.who; end = e; link = told_of (told s.link) (counts s.link) l.gave now.parts.sent }) l.gave now.parts.sent
              (ap (λ (q : Core). q.who) c.parts) refl (accounted_of rules root seen told counts desk t fits count wants busies adds kin branches b'.port e w.accounts s.link
              now away l) i.count (ap (λ (x : DoorTold). x.back) h.0)
              (λ r. sym (ap (λ (x : Bench P D Q L). x.refused) h.1) ∙ r) l.fresh n
          | inr h ↦ kept_dropped b b' key s here i.gone c.fixed c.roots (ap (λ (x : Bench P D Q L). x.had) h.1) (ap (λ (x : Bench P D Q L). x.worn) h.1) k
              (ap (λ (x : DoorTold). x.back) h.0) (ap (λ (x : Bench P D Q L). x.refused) h.1)
        ]

    kept_left : (key : ℕ) (s : Seated P L Q) (e : HttpEnd) (answer : Leaving) (now : PlayerState Q) (b b' : Bench P D Q L) → get b.players key ≡ Some s
        → s.player.ended ≡ Some e → has_left answer ≡ false → Ends b.port s.player answer b'.port now
        → IsLeft told counts doors key s now b b' → Kept b → Kept b'
    kept_left key s e answer now b b' here n stays c i k =
        let w = k.works in
        let l = subst (λ (x : Bool). IsLeaving rules root seen told counts desk t fits count wants busies adds kin branches x b'.port e w.accounts s.link now) stays
        (leaving_of rules root seen told counts desk t fits count wants busies adds kin branches b.port b'.port e w.accounts s answer now n c (w.lives key s here)) in
        let ended : now.ended ≡ Some e = c.ended ∙ ap (λ (o : Option HttpEnd). Some (end_or_closed o)) n in
        kept_put b b' key s (record s { player = now; over = true }) here i.there i.count (ap (λ (x : Bench P D Q L). (doors x.door).back) i.same)
        (ap (λ (x : Bench P D Q L). x.had) i.same)
        (λ r. sym (ap (λ (x : Bench P D Q L). x.refused) i.same) ∙ r) (λ r. sym (ap (λ (x : Bench P D Q L). x.worn) i.same) ∙ r) c.fixed c.roots
        (ap (λ (q : Core). q.who) c.parts) k
        (lives_left rules root seen told counts desk t fits count wants busies adds kin branches b'.port e w.accounts (record s { player = now; over = true }) ended l)
        (λ r. subst (λ (o : Option HttpEnd). o ≢ Some end.OutOfMemory) (n ∙ sym ended) (w.unspent (sym (ap (λ (x : Bench P D Q L). x.refused) i.same) ∙ r)
        key s here))
        (λ r. subst (λ (o : Option HttpEnd). o ≢ Some end.Worn) (n ∙ sym ended) (w.unfilled (sym (ap (λ (x : Bench P D Q L). x.worn) i.same) ∙ r) key s here))

    kept_goes : (x : Bool) (key : ℕ) (s : Seated P L Q) (e : HttpEnd) (answer : Leaving) (now : PlayerState Q) (b b' : Bench P D Q L) → has_left answer ≡ x
        → get b.players key ≡ Some s → s.player.ended ≡ Some e → Ends b.port s.player answer b'.port now
        → GoesIf told counts doors x key s now b b' → Kept b → Kept b'
    kept_goes true key s e answer now b b' is here n c i k = kept_gone key s e answer now b b' here n is c i k
    kept_goes false key s e answer now b b' is here n c i k = kept_left key s e answer now b b' here n is c i k

    kept_closes_by : (o : Option HttpEnd) (key : ℕ) (s : Seated P L Q) (b b' : Bench P D Q L) → get b.players key ≡ Some s → s.player.ended ≡ o
        → ClosesBy told counts doors Ends o key s b b' → Kept b → Kept b'
    kept_closes_by None key s b b' here n i k = subst Kept (sym i) k
    kept_closes_by (Some e) key s b b' here n i k = kept_goes (has_left i.answer) key s e i.answer i.now b b' refl here n i.close i.goes k

    kept_closes_if : (o : Option (Seated P L Q)) (key : ℕ) (b b' : Bench P D Q L) → get b.players key ≡ o → ClosesIf told counts doors Ends o key b b'
        → Kept b → Kept b'
    kept_closes_if None key b b' here i k = subst Kept (sym i) k
    kept_closes_if (Some s) key b b' here i k = kept_closes_by s.player.ended key s b b' here refl i k

    kept_closes_at : (key : ℕ) (b b' : Bench P D Q L) → ClosesAt told counts doors Ends key b b' → Kept b → Kept b'
    kept_closes_at key b b' i k = kept_closes_if (get b.players key) key b b' refl i k

    -- ---- a round

    module _ (hears : L → ℕ → Came → L → Type 0) (hears_mean : (l : L) (room : ℕ) (answer : Came) (m : L) → 0 < room → hears l room answer m
        → HearStep room (told l) (told m) (counts l) (counts m) answer)
        (says : L → List ℕ → Said → L → Type 0) (says_mean : (l : L) (piece : List ℕ) (answer : Said) (m : L) → 0 < length piece → says l piece answer m
        → SayStep piece (told l) (told m) (counts l) (counts m) answer) (refused : P → ℕ) (ready : L → Bool → Type 0) where
      abbrev OneRound : WorkerState P D Q L → Round → WorkerState P D Q L → Type 0
      OneRound = Rounds told counts doors (Turned hears hears_mean says says_mean refused ready) refused ready Ends

      kept_round : (w w' : WorkerState P D Q L) (answer : Round) → w.terms ≡ t → OneRound w answer w' → Kept w.bench → Kept w'.bench
      kept_round w w' answer terms r k =
          let begins = kept_same w.bench (begun w.bench) refl refl refl refl refl refl k in
          let admitted = kept_admits_if (asks_door w.terms w.bench) (begun w.bench) r.admitted
          (subst (λ (u : Terms). AdmitsIf told counts doors u (asks_door w.terms w.bench) (begun w.bench) r.admitted) terms r.admits)
          (λ e. subst (λ (u : Terms). slab_len w.bench.players < u.links) terms (has_room (slab_len w.bench.players) w.terms.links
          (nat_lt w.bench.had (2 ^ 40)) e)) begins in
          let turns = walked (TurnsAt (Turned hears hears_mean says says_mean refused ready) refused ready) Kept
          (kept_turns_at hears hears_mean says says_mean refused ready) r.turns.last r.admitted r.turned r.turns.walk admitted in
          walked (ClosesAt told counts doors Ends) Kept kept_closes_at r.closings.last r.turned w'.bench r.closings.walk turns

      -- WHAT A ROUND KEEPS
      pub round_works : (fits' : P → ℕ → Q → Type 0) (w w' : WorkerState P D Q L) (answer : Round) → w.terms ≡ t → IsSound fits' rules doors t w.bench
          → OneRound w answer w' → Keeps w.bench → Keeps w'.bench
      round_works fits' w w' answer terms s r works =
          (kept_round w w' answer terms r (record { works = works; named = λ key u at. (s.seated key u at).named; single = s.single })).works
