-- What a run on one thread comes to: each session, each recorder and the histories, after each step
use Rattle.std.proofs.Common.{inl, inr, ◌≡◌, ◌≢◌, ◌≤◌, ◌⊎◌, ℕ, nat_eq, false, List, [], ◌∷◌, ◌++◌, length, reverse, All, Option, Some, None, refl, sym, ap, ◌∙◌}
use Rattle.std.proofs.Common.{subst, arith, append_assoc, append-nil, length-append}
use Rattle.std.specs.Prelude.{map}
use Rattle.std.proofs.lemmas.Bool.{cases_eq}
use Rattle.std.proofs.lemmas.Bool.Decides.{nat_tests}
use Rattle.std.proofs.lemmas.List.{reverse-append}
use Rattle.std.proofs.lemmas.List.Elements.{All-cons, All-head, All-nil, All-tail}
use Rattle.command_dialog.specs.declared.types.Ask.{Ask}
use Rattle.command_dialog.specs.declared.types.Grant.{Grant}
use Rattle.relay_outside.specs.MemLinks.{MemLinkState}
use Rattle.stream_model.specs.declared.calls.Call.{Call}
use Rattle.stream_model.specs.declared.calls.Entry.{Entry}
use Rattle.stream_model.specs.declared.calls.Shape.{Shape}
use Rattle.stream_model.specs.declared.replies.Reply.{Reply}
use Rattle.stream_registry.specs.Books.{SoleState, SeenState, journal_at, sole_rules}
use Rattle.stream_registry.specs.Told.{Histories, Keeps, Step}
use Rattle.turn_gate.specs.Histories.{Begins}
use Rattle.relay_session.proofs.SeatStanding.{calls_here}
use Rattle.relay_session.specs.Acting.{ActsBy}
use Rattle.relay_session.specs.Alone.{AddsNone, GrowsAs, GrowsFrom, ReachesBy, visited}
use Rattle.relay_session.specs.SeatOwn.{own}
use Rattle.relay_session.specs.SeatState.{IsMade, KeptMade, KeptOrMade, LastMade, LeavesFrom, last_of, place_of}
use Rattle.relay_session.specs.SeatVisits.{Visit, calls_at, calls_of}
use Rattle.relay_session.specs.declared.seat_answers.Active.{Active}
use Rattle.relay_session.specs.declared.seat_answers.Leaving.{Leaving}
use Rattle.relay_session.specs.declared.seat_answers.Leaving.TheVariants as leaving
use Rattle.session_owed.specs.Talk.{Own}
use Rattle.relay_session.proofs.Whole.{left_kept}
use Rattle.relay_session.specs.SeatState.{known_if}
use Rattle.relay_session.specs.SessionState.{IsWhole, SessionState, StandsFor, life_at}
use Rattle.relay_session.specs.declared.core_fields.Core.{Core}
use Rattle.relay_session.specs.declared.end.End.{End}
use Rattle.relay_session.specs.declared.turn.Turn.{Turn as TurnAnswer}
use Rattle.relay_session.specs.declared.turn.Turn.TheVariants.{Moved, Idle, Ended}
use Rattle.relay_replay.specs.Guests.{ConnState}
use Rattle.relay_replay.specs.Cast.{AfterTurn, IsClosed, SessionTurn, known_in}
use Rattle.relay_replay.specs.Served.{StandsIf}
use Rattle.relay_replay.specs.Whole.{Follows, IsFedBy, IsMadeBy}
use Rattle.relay_replay.specs.Streams.{SoleAdds, SoleAsks}
use Rattle.relay_replay.proofs.Following.{Bears, Done, FedAfter, Grown, Makes, Named, grown_same, limits_same, makes_none, makes_then, own_same, turn_done}
use Rattle.relay_replay.proofs.Serving.{closed_acts}
use Rattle.relay_replay.proofs.Taking.{turn_took}

-- ---- the calls by which a session leaves bear its name

made_bears : (n place : ℕ) (e : Entry) (r : Reply) (u v : List Visit) → e.who ≡ n → IsMade place e r u v → All (Bears n) u → All (Bears n) v
made_bears n place e r u v w k a = subst (All (Bears n)) (sym k) (All-cons (Bears n) (place, (e, r)) u w a)

kept_bears : (n place : ℕ) (kept : Option Entry) (a : Active) (u : List Visit) (b : Active) (v : List Visit) → Named n kept → KeptMade place kept a u b v
    → All (Bears n) u → All (Bears n) v
kept_bears n place None a u b v w k o = subst (All (Bears n)) (sym k.1) o
kept_bears n place (Some e) a u b v w k o = made_bears n place e k.0 u v w k.2 o

last_bears : (n place fed : ℕ) (c : Option Call) (u v : List Visit) → LastMade place n fed c u v → All (Bears n) u → All (Bears n) v
last_bears n place fed None u v k o = subst (All (Bears n)) (sym k) o
last_bears n place fed (Some c) u v k o = made_bears n place (record { who = n; at = fed; call = c }) k.0 u v refl k.1 o

or_bears : (n place : ℕ) (kept : Option Entry) (a : Active) (u : List Visit) (b : Active) (v : List Visit) (kept' : Option Entry) → Named n kept
    → KeptOrMade place kept a u b v kept' → All (Bears n) u → All (Bears n) v
or_bears n place kept a u b v kept' w (inl k) o = subst (All (Bears n)) (sym k.1) o
or_bears n place kept a u b v kept' w (inr k) o = kept_bears n place kept a u b v w k.0 o

left_bears : (n fed : ℕ) (o : Option ℕ) (kept : Option Entry) (a : Active) (u : List Visit) (r : Leaving) (kept' : Option Entry) (b : Active)
    (v : List Visit) → Named n kept → LeavesFrom o n fed kept a u r kept' b v → All (Bears n) u → All (Bears n) v
left_bears n fed None kept a u r kept' b v w k x = subst (All (Bears n)) (sym k.1) x
left_bears n fed (Some place) kept a u leaving.Done kept' b v w k x =
    last_bears n place fed (last_of k.0.granted) k.0.between v k.0.last_made (kept_bears n place kept a u k.0.granted k.0.between w k.0.kept_made x)
left_bears n fed (Some place) kept a u leaving.Worn kept' b v w k x = or_bears n place kept a u k.0 v kept' w k.1 x
left_bears n fed (Some place) kept a u leaving.Busy kept' b v w k x = or_bears n place kept a u b v kept' w k x
left_bears n fed (Some place) kept a u leaving.OutOfMemory kept' b v w k x = or_bears n place kept a u b v kept' w k x

-- ---- runs of calls at a place

calls_away : (place q : ℕ) (step : Step) (vs : List Visit) → q ≢ place → calls_at q ((place, step) ∷ vs) ≡ calls_at q vs
calls_away place q step vs d = let t : nat_eq place q ≡ false = grind (arith, nat_tests) in rw t refl

visited_away : (place q : ℕ) (steps : List Step) (vs : List Visit) → q ≢ place → calls_at q (visited place steps vs) ≡ calls_at q vs
visited_away place q [] vs d = refl
visited_away place q (s ∷ ss) vs d = visited_away place q ss ((place, s) ∷ vs) d ∙ calls_away place q s vs d

visited_bears : (n place : ℕ) (steps : List Step) (vs : List Visit) → All (Bears n) (visited place steps vs)
    → All (λ (s : Step). s.0.who ≡ n) steps × All (Bears n) vs
visited_bears n place [] vs a = (All-nil (λ (s : Step). s.0.who ≡ n), a)
visited_bears n place (s ∷ ss) vs a =
    let b = visited_bears n place ss ((place, s) ∷ vs) a in
    (All-cons (λ (x : Step). x.0.who ≡ n) s ss (All-head (Bears n) (place, s) vs b.1) b.0, All-tail (Bears n) (place, s) vs b.1)

visited_own : (n place : ℕ) (steps h : List Step) (vs : List Visit) → All (λ (s : Step). s.0.who ≡ n) steps → own n (reverse h) ≡ calls_at place vs
    → own n (reverse (h ++ steps)) ≡ calls_at place (visited place steps vs)
visited_own n place [] h vs a e = ap (λ (l : List Step). own n (reverse l)) (append-nil h) ∙ e
visited_own n place (s ∷ ss) h vs a e =
    let here : own n (reverse (h ++ s ∷ [])) ≡ calls_at place ((place, s) ∷ vs) =
    own_same n h s (All-head (λ (x : Step). x.0.who ≡ n) s ss a) ∙ (ap (λ (l : List Step). s ∷ l) e ∙ sym (calls_here place s vs)) in
    ap (λ (l : List Step). own n (reverse l)) (sym (append_assoc h (s ∷ []) ss))
    ∙ visited_own n place ss (h ++ s ∷ []) ((place, s) ∷ vs) (All-tail (λ (x : Step). x.0.who ≡ n) s ss a) here

visited_calls : (place : ℕ) (steps : List Step) (vs : List Visit) → calls_of (visited place steps vs) ≡ calls_of vs ++ steps
visited_calls place [] vs = sym (append-nil (calls_of vs))
visited_calls place (s ∷ ss) vs =
    visited_calls place ss ((place, s) ∷ vs) ∙ (ap (λ (l : List Step). l ++ ss) (reverse-append (s ∷ []) (map (λ (v : Visit). v.1) vs))
    ∙ append_assoc (calls_of vs) (s ∷ []) ss)

-- ---- what keeps the rules, where it reaches to the end of a history

pub begins_whole : (xs ys : List Step) → Begins xs ys → length ys ≤ length xs → xs ≡ ys
begins_whole xs ys b le = sym (append-nil xs) ∙ (ap (λ (l : List Step). xs ++ l) (sym (none b.0 (omega (arith, le, ap length b.1, length-append xs b.0))))
    ∙ b.1)
  where
    none : (l : List Step) → length l ≡ 0 → l ≡ []
    none [] e = refl
    none (s ∷ l) e = absurd (omega (arith, e))

-- ---- a close

module _ (n : ℕ) (x y : SoleState) (u v : List Visit) (known' : Histories) (same : sole_rules y.rules ≡ sole_rules x.rules) (end : (q : ℕ)
    → known' q ≡ journal_at y.books q) where
  -- calls at one place
  closes_at : (place : ℕ) (known : List Step) → GrowsAs SoleAdds ((sole_rules x.rules).limits place) (journal_at x.books) known place u v
      (journal_at y.books) (known' place) → All (Bears n) v → Makes n x u y v
  closes_at place known g a =
      let own_steps = (visited_bears n place g.steps u (subst (All (Bears n)) g.visits_are a)).0 in
      let else_same : (q : ℕ) → q ≢ place → journal_at y.books q ≡ journal_at x.books q = λ q d. g.grows.elsewhere q d ∙ append-nil (journal_at x.books q) in
      record {
        rules = same;
        lawful = λ l q. elim (cases_eq q place) [
          | inl i ↦ subst (λ (p : ℕ). Keeps ((sole_rules y.rules).limits p) (journal_at y.books p)) (sym i)
              (subst (λ (s : Shape). Keeps s (journal_at y.books place)) (sym (limits_same x y place same))
              (keeps_steps ((sole_rules x.rules).limits place) (journal_at x.books place) known (journal_at y.books place) (known' place) g.steps
              (end place) g.grows.here g.reaches (l place)))
          | inr d ↦ subst (λ (s : Shape). Keeps s (journal_at y.books q)) (sym (limits_same x y q same))
              (subst (λ (h : List Step). Keeps ((sole_rules x.rules).limits q) h) (sym (else_same q d)) (l q))
        ];
        calls = λ h q. elim (cases_eq q place) [
          | inl i ↦ subst (λ (p : ℕ). own n (reverse (journal_at y.books p)) ≡ calls_at p v) (sym i)
              (ap (λ (l : List Step). own n (reverse l)) g.grows.here
              ∙ (visited_own n place g.steps (journal_at x.books place) u own_steps (h place) ∙ ap (calls_at place) (sym g.visits_are)))
          | inr d ↦ ap (λ (l : List Step). own n (reverse l)) (else_same q d)
              ∙ (h q ∙ (sym (visited_away place q g.steps u d) ∙ ap (calls_at q) (sym g.visits_are)))
        ];
        grown = λ q. elim (cases_eq q place) [
          | inl i ↦ subst (λ (p : ℕ). Grown n (journal_at x.books p) (journal_at y.books p)) (sym i) (g.steps, (g.grows.here, own_steps))
          | inr d ↦ grown_same n (journal_at x.books q) (journal_at y.books q) (else_same q d)
        ];
      }
    where
      keeps_steps : (limits : Shape) (h known h' known' : List Step) (steps : List Step) → known' ≡ h' → h' ≡ h ++ steps
          → ReachesBy limits h known steps known' → Keeps limits h → Keeps limits h'
      keeps_steps limits h known h' known' [] e is r k = subst (λ (l : List Step). Keeps limits l) (sym (is ∙ append-nil h)) k
      keeps_steps limits h known h' known' (s ∷ ss) e is r k =
          let within : Begins r.upto h' = subst (λ (l : List Step). Begins r.upto l) e r.within in
          let full : r.upto ≡ h' = begins_whole r.upto h' within
          (omega (arith, r.long (length h) (inl (omega arith)), ap length is, length-append h (s ∷ ss))) in
          subst (λ (l : List Step). Keeps limits l) full r.lawful

  -- none, where it was nowhere
  closes_nowhere : v ≡ u → AddsNone SoleAdds (journal_at x.books) (journal_at y.books) → Makes n x u y v
  closes_nowhere e a =
      let j : (q : ℕ) → journal_at y.books q ≡ journal_at x.books q = λ q. a q ∙ append-nil (journal_at x.books q) in
      record {
        rules = same;
        lawful = λ l q. subst (λ (s : Shape). Keeps s (journal_at y.books q)) (sym (limits_same x y q same))
            (subst (λ (h : List Step). Keeps ((sole_rules x.rules).limits q) h) (sym (j q)) (l q));
        calls = λ h q. ap (λ (l : List Step). own n (reverse l)) (j q) ∙ (h q ∙ ap (calls_at q) (sym e));
        grown = λ q. grown_same n (journal_at x.books q) (journal_at y.books q) (j q);
      }

  closes_from : (o : Option ℕ) (known : Histories) → GrowsFrom SoleAdds (sole_rules x.rules).limits (journal_at x.books) known o u v (journal_at y.books)
      known' → All (Bears n) v → Makes n x u y v
  closes_from None known g a = closes_nowhere g.0 g.1
  closes_from (Some place) known g a = closes_at place (known place) g a

-- the calls of a session that was closed begin with those that it had made
closes_calls : (o : Option ℕ) (limits : ℕ → Shape) (h known h' known' : Histories) (u v : List Visit) → GrowsFrom SoleAdds limits h known o u v h' known'
    → Begins (calls_of u) (calls_of v)
closes_calls None limits h known h' known' u v g = ([], append-nil (calls_of u) ∙ sym (ap calls_of g.0))
closes_calls (Some place) limits h known h' known' u v g = (g.steps, sym (ap calls_of g.visits_are ∙ visited_calls place g.steps u))

-- ---- a session's turn

named_at : (n : ℕ) (k : Option Entry) → Named n k → (e : Entry) → k ≡ Some e → e.who ≡ n
named_at n k h e is = subst (Named n) is h

named_in : (n : ℕ) (k : Option Entry) → ((e : Entry) → k ≡ Some e → e.who ≡ n) → Named n k
named_in n None h = tt
named_in n (Some e) h = h e refl

-- the call that waits is the one that waits
pub whole_same : (desk : Ask → Grant) (c : Core) → IsWhole desk c → IsWhole desk (record c { kept = c.kept })
whole_same desk c w = record { ms = w.ms; read = w.read; more = w.more; owes = w.owes; talks = w.talks; units = w.units }

-- what a session's turn leaves of it, and of the histories
pub record Followed (desk : Ask → Grant) (given : List ℕ) (n : ℕ) (port : SoleState) (c : ConnState) (port' : SoleState) (d : ConnState) : Type 0 where
  pub follows : Follows desk (journal_at port'.books) given n d
  pub makes : Makes n port c.session.seat.visits port' d.session.seat.visits

abbrev conn : SessionState SeenState → MemLinkState → Option End → ConnState
conn s l o = record { session = s; link = l; ended = o }

conn_is : (d : ConnState) (s : SessionState SeenState) (o : Option End) → d.session ≡ s → d.ended ≡ o → conn s d.link o ≡ d
conn_is d s o a b = ap (λ (x : SessionState SeenState). conn x d.link o) (sym a) ∙ ap (λ (x : Option End). conn d.session d.link x) (sym b)

module _ (desk : Ask → Grant) (given : List ℕ) (n : ℕ) (port : SoleState) (c : ConnState) (f : Follows desk (journal_at port.books) given n c)
    (mid : SessionState SeenState) (between : SoleState) where
  -- it goes on
  followed_on : (a : TurnAnswer) (port' : SoleState) (d : ConnState) → FedAfter a d.link.gave mid.parts.x mid.input
      → (FedAfter a d.link.gave mid.parts.x mid.input → d.link.gave ≡ mid.parts.x ++ mid.input)
      → Done n given port c.session.seat.visits a (life_at mid between) d.link → StandsFor desk mid → IsWhole desk mid.parts
      → d.link.sent ≡ mid.parts.sent → ActsBy mid.ended mid.parts mid.seat → d.session ≡ mid → port' ≡ between → d.ended ≡ None
      → Followed desk given n port c port' d
  followed_on a port' d fed fed_is h st whole took acts e p o =
      let mine : Makes n port c.session.seat.visits between mid.seat.visits = h.makes in
      let new : Follows desk (journal_at between.books) given n (conn mid d.link None) = record {
        who = h.who;
        named = named_at n mid.parts.kept h.named;
        lines = sym h.all;
        fed = fed_is fed;
        stands = st;
        waited = mid.parts.kept;
        whole = whole_same desk mid.parts whole;
        took = took;
        acts = acts;
        made = h.made;
        own_all = h.own_all;
        calls = mine.calls f.calls;
      } in
      let at : Follows desk (journal_at between.books) given n d = subst (Follows desk (journal_at between.books) given n) (conn_is d mid None e o) new in
      record {
        follows = subst (λ (q : SoleState). Follows desk (journal_at q.books) given n d) (sym p) at;
        makes = subst (λ (q : SoleState). Makes n port c.session.seat.visits q d.session.seat.visits) (sym p)
            (subst (λ (s : SessionState SeenState). Makes n port c.session.seat.visits between s.seat.visits) (sym e) mine);
      }

  nowhere : (spot : Option (ℕ × SeenState)) → place_of spot ≡ None → spot ≡ None
  nowhere None e = refl
  nowhere (Some p) e = absurd (cc)

  -- it ended, and was closed
  followed_closed : (e : End) (port' : SoleState) (d : ConnState) → Done n given port c.session.seat.visits (Ended e) (life_at mid between) d.link
      → IsWhole desk mid.parts → d.link.sent ≡ mid.parts.sent → ActsBy mid.ended mid.parts mid.seat → d.ended ≡ Some e
      → IsClosed between mid port' d.session → Followed desk given n port c port' d
  followed_closed e port' d h whole took acts o cl =
      let s = d.session in
      let core : s.parts ≡ record mid.parts { kept = s.parts.kept } = cl.parts in
      let owns : All (Bears n) s.seat.visits = left_bears n mid.parts.fed (place_of mid.seat.spot) mid.parts.kept mid.seat.active mid.seat.visits
      cl.leaving s.parts.kept s.seat.active s.seat.visits h.named
      (subst (λ (w : ℕ). LeavesFrom (place_of mid.seat.spot) w mid.parts.fed mid.parts.kept mid.seat.active mid.seat.visits cl.leaving s.parts.kept
      s.seat.active s.seat.visits) h.who cl.leaves) h.own_all in
      let spot : s.seat.spot ≡ None = nowhere s.seat.spot cl.away in
      let end : (q : ℕ) → known_in port' s q ≡ journal_at port'.books q = λ q.
      ap (λ (z : Option (ℕ × SeenState)). known_if (λ (p : SeenState). p.seen) (journal_at port'.books) z q) spot in
      let closes : Makes n between mid.seat.visits port' s.seat.visits =
      closes_from n between port' mid.seat.visits s.seat.visits (known_in port' s) cl.fixed end (place_of mid.seat.spot) (known_in between mid) cl.grows owns in
      let all : Makes n port c.session.seat.visits port' s.seat.visits =
      makes_then n port between port' c.session.seat.visits mid.seat.visits s.seat.visits h.makes closes in
      let kept = left_kept (place_of mid.seat.spot) mid.parts.who mid.parts.fed mid.parts.kept mid.seat.active mid.seat.visits cl.leaving s.parts.kept
      s.seat.active s.seat.visits cl.leaves in
      record {
        follows = record {
          who = ap (λ (x : Core). x.who) core ∙ h.who;
          named = named_at n s.parts.kept (kept_named mid.parts.kept s.parts.kept kept h.named);
          lines = sym h.all;
          fed = subst (λ (z : Option End). IsFedBy z d.link.gave s.parts.x s.input) (sym o)
              (subst (λ (y : List ℕ). Begins y d.link.gave) (sym (ap (λ (x : Core). x.x) core)) h.fed);
          stands = subst (λ (z : Option End). StandsIf z desk s) (sym o) tt;
          waited = mid.parts.kept;
          whole = subst (λ (x : Core). IsWhole desk (record x { kept = mid.parts.kept })) (sym core) (whole_same desk mid.parts whole);
          took = took ∙ sym (ap (λ (x : Core). x.sent) core);
          acts = closed_acts between mid port' s cl acts;
          made = subst (λ (z : Option End). IsMadeBy z s.parts.calls (calls_of s.seat.visits)) (sym o)
              (subst (λ (l : List Own). Begins l (calls_of s.seat.visits)) (h.made ∙ sym (ap (λ (x : Core). x.calls) core))
              (closes_calls (place_of mid.seat.spot) (sole_rules between.rules).limits (journal_at between.books) (known_in between mid)
              (journal_at port'.books) (known_in port' s) mid.seat.visits s.seat.visits cl.grows));
          own_all = owns;
          calls = all.calls f.calls;
        };
        makes = all;
      }
    where
      kept_named : (k k' : Option Entry) → (k' ≡ k) ⊎ (k' ≡ None) → Named n k → Named n k'
      kept_named k k' (inl e) h = subst (Named n) (sym e) h
      kept_named k k' (inr e) h = subst (Named n) (sym e) tt

  followed_after : (a : TurnAnswer) (port' : SoleState) (d : ConnState) → AfterTurn a mid between d.session d.ended port'
      → Done n given port c.session.seat.visits a (life_at mid between) d.link → StandsFor desk mid → IsWhole desk mid.parts
      → d.link.sent ≡ mid.parts.sent → ActsBy mid.ended mid.parts mid.seat → Followed desk given n port c port' d
  followed_after Moved port' d t h st whole took acts = followed_on Moved port' d h.fed (λ x. x) h st whole took acts t.0 t.1 t.2
  followed_after Idle port' d t h st whole took acts = followed_on Idle port' d h.fed (λ x. x) h st whole took acts t.0 t.1 t.2
  followed_after (Ended e) port' d t h st whole took acts = followed_closed e port' d h whole took acts t.1 t.2

pub followed_turn : (e : Option End) (desk : Ask → Grant) (given : List ℕ) (n : ℕ) (port : SoleState) (c : ConnState) (port' : SoleState) (d : ConnState)
    → c.ended ≡ e → SessionTurn e desk port c port' d
    → Follows desk (journal_at port.books) given n c → Followed desk given n port c port' d
followed_turn (Some x) desk given n port c port' d e t f =
    let same : Followed desk given n port c port c = record { follows = f; makes = makes_none n port c.session.seat.visits } in
    subst (λ (q : SoleState). Followed desk given n port c q d) (sym t.1) (subst (λ (k : ConnState). Followed desk given n port c port k) (sym t.0) same)
followed_turn None desk given n port c port' d e t f =
    let was = subst (λ (o : Option End). StandsIf o desk c.session) e f.stands in
    let st = t.stands was in
    let fed = subst (λ (o : Option End). IsFedBy o c.link.gave c.session.parts.x c.session.input) e f.fed in
    let made = subst (λ (o : Option End). IsMadeBy o c.session.parts.calls (calls_of c.session.seat.visits)) e f.made in
    let took = turn_took SoleAsks desk c.session.ended c.session.quit (life_at c.session port) c.link t.answer (life_at t.mid t.between) d.link t.turn f.took in
    let done = turn_done n given port c.session.seat.visits desk c.session.ended c.session.quit (life_at c.session port) c.link t.answer
    (life_at t.mid t.between) d.link t.turn f.who (named_in n c.session.parts.kept f.named)
    (makes_none n port c.session.seat.visits) made f.own_all (sym f.lines) fed in
    followed_after desk given n port c f t.mid t.between t.answer port' d t.leads done st (t.whole st) took (t.acts was f.acts)
