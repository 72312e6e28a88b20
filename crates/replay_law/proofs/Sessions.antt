-- A turn of a session in two runs
use Rattle.std.proofs.Common.{◌≡◌, ◌≢◌, Option, Some, None, Bool, length, sym, ap, ◌∙◌, subst, arith, length-append}
use Rattle.command_dialog.specs.declared.types.Ask.{Ask}
use Rattle.command_dialog.specs.declared.types.Grant.{Grant}
use Rattle.relay_outside.specs.MemLinks.{MemHears, MemLinkState, MemSays}
use Rattle.stream_registry.specs.Books.{SoleState, SeenState, journal_at}
use Rattle.turn_gate.specs.Histories.{Begins}
use Rattle.relay_session.specs.SeatState.{GoOn}
use Rattle.relay_session.specs.SessionState.{SessionState, ended_by, life_at}
use Rattle.relay_session.specs.Turns.{EndedBy}
use Rattle.relay_session.specs.declared.end.End.{End}
use Rattle.relay_session.specs.declared.end.End.TheVariants as end
use Rattle.relay_session.specs.declared.turn.Turn.{Turn}
use Rattle.relay_session.specs.declared.turn.Turn.TheVariants.{Moved, Idle, Ended}
use Rattle.turn_law.specs.Twins.{Alike, Closes, HasRoom, IsPlain, LeftBy, SamePort, SameTurn, SoleAsks, SoleLife}
use Rattle.turn_law.proofs.Closing.{closed_same}
use Rattle.turn_law.proofs.Steps.{turn_both}
use Rattle.relay_replay.specs.Cast.{AfterTurn, HasMemory, IsClosed, SessionTurn, Turned}
use Rattle.relay_replay.specs.Guests.{ConnState}
use Rattle.replay_law.proofs.Alike.{LiveAlike, LiveBy, SameConn}

closes : (port : SoleState) (s : SessionState SeenState) (port' : SoleState) (s' : SessionState SeenState) → IsClosed port s port' s'
    → Closes (life_at s port) port' s'.parts.kept s'.seat
closes port s port' s' c = record {
  leaving = c.leaving;
  leaves = c.leaves;
  fails = c.cause;
  left = c.left;
  away = c.away;
  grows = c.grows;
  fixed = c.fixed;
}

after_memory : (a : Turn) (s : SessionState SeenState) (port : SoleState) (s' : SessionState SeenState) (o : Option End) (port' : SoleState)
    → AfterTurn a s port s' o port' → a ≢ Ended end.OutOfMemory
after_memory Moved s port s' o port' t e = absurd (cc)
after_memory Idle s port s' o port' t e = absurd (cc)
after_memory (Ended x) s port s' o port' t e = subst HasMemory (ap (end_of x) e) t.0
  where
    end_of : End → Turn → End
    end_of d Moved = d
    end_of d Idle = d
    end_of d (Ended y) = y

-- ---- a history that has room had room before

room_before : (x y : SoleState) → GoOn (journal_at x.books) (journal_at y.books) → HasRoom y → HasRoom x
room_before x y g r = λ q. (let b : Begins (journal_at x.books q) (journal_at y.books q) = g.at_each q in
    omega (arith, r q, ap length b.1, length-append (journal_at x.books q) b.0))

after_room : (a : Turn) (s : SessionState SeenState) (port : SoleState) (s' : SessionState SeenState) (o : Option End) (port' : SoleState)
    → AfterTurn a s port s' o port' → HasRoom port' → HasRoom port
after_room Moved s port s' o port' t r = subst HasRoom t.1 r
after_room Idle s port s' o port' t r = subst HasRoom t.1 r
after_room (Ended x) s port s' o port' t r = room_before port port' t.2.roots r

pub session_room : (desk : Ask → Grant) (e : Option End) (port : SoleState) (c : ConnState) (next : SoleState) (d : ConnState)
    → SessionTurn e desk port c next d → HasRoom next → HasRoom port
session_room desk None port c next d t r =
    room_before port t.between t.roots (after_room t.answer t.mid t.between d.session d.ended next t.leads r)
session_room desk (Some e) port c next d t r = subst HasRoom t.1 r

-- ---- what two turns leave

pub record Followed (desk : Ask → Grant) (next next' : SoleState) (d d' : ConnState) : Type 0 where
  pub port : SamePort next next'
  pub conn : SameConn desk d d'

module _ (desk : Ask → Grant) (mid mid' : SessionState SeenState) (between between' next next' : SoleState) (d d' : ConnState) (link : d'.link ≡ d.link)
    (quit : mid'.quit ≡ mid.quit) (room : HasRoom next) (room' : HasRoom next') where
  -- it goes on
  goes_on : (mid.ended ≡ None) × (mid'.ended ≡ None) → (d.session ≡ mid) × (next ≡ between) × (d.ended ≡ None)
      → (d'.session ≡ mid') × (next' ≡ between') × (d'.ended ≡ None)
      → Alike desk (life_at mid between) (life_at mid' between') → Followed desk next next' d d'
  goes_on live t t' h =
      let same : LiveAlike desk mid mid' = record {
        core = h.core;
        input = h.input;
        seat = h.seat;
        quit = quit;
        live = live;
        stands = (h.first, h.second);
      } in
      let now : LiveAlike desk d.session d'.session =
      subst (λ (s : SessionState SeenState). LiveAlike desk s d'.session) (sym t.0)
      (subst (λ (s : SessionState SeenState). LiveAlike desk mid s) (sym t'.0) same) in
      record {
        port = subst (λ (x : SoleState). SamePort x next') (sym t.1) (subst (λ (x : SoleState). SamePort between x) (sym t'.1) h.port);
        conn = record {
          link = link;
          ended = t'.2 ∙ sym t.2;
          live = subst (λ (o : Option End). LiveBy o desk d.session d'.session) (sym t.2) now;
        };
      }

  after_same : (a : Turn) → (mid.ended ≡ ended_by a) × (mid'.ended ≡ ended_by a) → AfterTurn a mid between d.session d.ended next
      → AfterTurn a mid' between' d'.session d'.ended next'
      → LeftBy a desk (life_at mid between) (life_at mid' between') → Followed desk next next' d d'
  after_same Moved live t t' h = goes_on live t t' h
  after_same Idle live t t' h = goes_on live t t' h
  after_same (Ended e) live t t' h = record {
    port = closed_same (life_at mid between) (life_at mid' between') next next' d.session.parts.kept d'.session.parts.kept d.session.seat
        d'.session.seat h (closes between mid next d.session t.2) (closes between' mid' next' d'.session t'.2) room room';
    conn = record { link = link; ended = t'.1 ∙ sym t.1; live = subst (λ (o : Option End). LiveBy o desk d.session d'.session) (sym t.1) tt };
  }

plain_of : (desk : Ask → Grant) (port : SoleState) (c : ConnState) (next : SoleState) (d : ConnState) (t : Turned desk port c next d)
    → HasRoom next → IsPlain t.answer (life_at t.mid t.between)
plain_of desk port c next d t room = record {
  memory = after_memory t.answer t.mid t.between d.session d.ended next t.leads;
  room = after_room t.answer t.mid t.between d.session d.ended next t.leads room;
}

module _ (desk : Ask → Grant) (port port' : SoleState) (c c' : ConnState) (next next' : SoleState) (d d' : ConnState) (ports : SamePort port port')
    (room : HasRoom next) (room' : HasRoom next') where
  turned_same : (t : Turned desk port c next d) (t' : Turned desk port' c' next' d') → c'.link ≡ c.link → LiveAlike desk c.session c'.session
      → Followed desk next next' d d'
  turned_same t t' link h =
      let v : SoleLife = life_at c.session port in
      let v' : SoleLife = life_at c'.session port' in
      let w : SoleLife = life_at t.mid t.between in
      let w' : SoleLife = life_at t'.mid t'.between in
      let u : EndedBy SoleAsks desk MemHears MemSays None c.session.quit v c.link t.answer w d.link =
      subst (λ (o : Option End). EndedBy SoleAsks desk MemHears MemSays o c.session.quit v c.link t.answer w d.link) h.live.0 t.turn in
      let u' : EndedBy SoleAsks desk MemHears MemSays None c.session.quit v' c.link t'.answer w' d'.link =
      subst (λ (l : MemLinkState). EndedBy SoleAsks desk MemHears MemSays None c.session.quit v' l t'.answer w' d'.link) link
      (subst (λ (q : Bool). EndedBy SoleAsks desk MemHears MemSays None q v' c'.link t'.answer w' d'.link) h.quit
      (subst (λ (o : Option End). EndedBy SoleAsks desk MemHears MemSays o c'.session.quit v' c'.link t'.answer w' d'.link) h.live.1 t'.turn)) in
      let alike : Alike desk v v' = record { core = h.core; input = h.input; seat = h.seat; port = ports; first = h.stands.0; second = h.stands.1 } in
      let r : SameTurn desk t.answer w d.link t'.answer w' d'.link =
      turn_both desk t.answer w t'.answer w' (plain_of desk port c next d t room) (plain_of desk port' c' next' d' t' room') d.link d'.link
      c.session.quit v v' c.link u u' alike in
      let quit : t'.mid.quit ≡ t.mid.quit = t'.quit ∙ (h.quit ∙ sym t.quit) in
      let live : t'.mid.ended ≡ ended_by t.answer = t'.ended ∙ ap ended_by r.turn.answer in
      after_same desk t.mid t'.mid t.between t'.between next next' d d' r.link quit room room' t.answer (t.ended, live) t.leads
      (subst (λ (a : Turn). AfterTurn a t'.mid t'.between d'.session d'.ended next') r.turn.answer t'.leads) r.turn.left

  -- A TURN of two that are alike
  pub session_same : (e e' : Option End) → e' ≡ e → c.ended ≡ e → SessionTurn e desk port c next d → SessionTurn e' desk port' c' next' d'
      → SameConn desk c c' → Followed desk next next' d d'
  session_same None None i o t t' h = turned_same t t' h.link (subst (λ (x : Option End). LiveBy x desk c.session c'.session) o h.live)
  session_same (Some e) (Some e') i o t t' h = record {
    port = subst (λ (x : SoleState). SamePort x next') (sym t.1) (subst (λ (x : SoleState). SamePort port x) (sym t'.1) ports);
    conn = subst (λ (x : ConnState). SameConn desk x d') (sym t.0) (subst (λ (x : ConnState). SameConn desk c x) (sym t'.0) h);
  }
  session_same None (Some e') i o t t' h = absurd (cc)
  session_same (Some e) None i o t t' h = absurd (cc)
