-- A turn of a session, and what its link took comes to the client
use Rattle.std.proofs.Common.{◌≡◌, ℕ, ◌+◌, ◌++◌, ◌≤◌, true, length, Option, None, Err, refl, sym, ap, ◌∙◌, subst}
use Rattle.std.specs.List.{concat}
use Rattle.relay_outside.specs.MemLinks.{MemHears, MemLinkState, MemSays}
use Rattle.stream_model.specs.declared.calls.Entry.{Entry}
use Rattle.stream_registry.specs.Books.{FitsSole, SeenState, SoleState, journal_at, sole_rules}
use Rattle.stream_registry.specs.Names.{places}
use Rattle.relay_session.specs.Onward.{GoesOn}
use Rattle.relay_session.specs.Places.{IsAt}
use Rattle.relay_session.specs.SeatState.{SeatState}
use Rattle.relay_session.specs.SessionState.{IsUnsent, Publishes, Rises, SessionState, StandsBy, StandsFor, ended_by, lasting_of, life_at}
use Rattle.relay_session.specs.Turns.{EndedBy, IsEnded, KeptBy}
use Rattle.relay_session.specs.declared.end.End.{End}
use Rattle.relay_session.specs.declared.end.End.TheVariants.{Quit}
use Rattle.relay_session.specs.declared.turn.Turn.{Turn}
use Rattle.relay_session.specs.declared.turn.Turn.TheVariants.{Ended}
use Rattle.loop_command.specs.Course.{Asks, Passes, SessionTurned}
use Rattle.loop_command.specs.Desk.{granted, rules}
use Rattle.loop_command.specs.Lines.{ArePassed, GoesAhead, Served, Serves, StaysHome, Works, most_passed}
use Rattle.loop_command.specs.Rounds.{IsStill, LastsBy, TurnsSession}
use Rattle.loop_command.specs.Sides.{SessionSide}
use Rattle.loop_command.specs.declared.line.Line.{Line}
use Rattle.loop_command.specs.declared.stop.Stop.{Stop}
use Rattle.loop_command.specs.declared.stop.Stop.TheVariants.{Refused, Source, Sink, Memory, Unfinished}
use Rattle.loop_command.proofs.Home.{asked_home, heard_home}
use Rattle.loop_command.proofs.Links.{Keeps, handed_on, still_passed, took_same}
use Rattle.loop_command.proofs.Sessions.{ended_side, serves_at, serves_turned, tied_before}
use Rattle.loop_command.proofs.Ties.{not_both, turned_lives}

abbrev pub IsTurn : SessionState SeenState → SoleState → MemLinkState → Turn → SessionState SeenState → SoleState → MemLinkState → Type 0
IsTurn v p l a w q m = EndedBy Asks granted MemHears MemSays v.ended v.quit (life_at v p) l a (life_at w q) m

abbrev IsOn : SoleState → SeatState SeenState → SoleState → SeatState SeenState → Type 0
IsOn = GoesOn FitsSole (λ (s : SoleState). sole_rules s.rules) (λ (s : SoleState). journal_at s.books) (λ (p : SeenState). p.seen) (λ (s : SoleState). 0)

-- what the turn leaves of one that lives
record Kept (who : ℕ) (p q : SoleState) (w : SessionState SeenState) (l link : MemLinkState) : Type 0 where
  pub serves : Serves who q w link
  pub keeps : Keeps l link
  pub ahead : GoesAhead p q

lasts : (who : ℕ) (p q : SoleState) (v w : SessionState SeenState) (l link : MemLinkState) (a : Turn) → IsTurn v p l a w q link → IsOn p v.seat q w.seat
    → w.ended ≡ ended_by a → ended_by a ≡ None → w.quit ≡ v.quit → Works l → lasting_of w.parts ≡ lasting_of v.parts
    → (StandsFor granted v → StandsFor granted w) → (StandsFor granted v → Publishes granted w.parts) → (StandsFor granted v → Rises granted w.parts)
    → IsAt (FitsSole q) (places (sole_rules q.rules)) w.parts w.seat → Serves who p v l
    → Kept who p q w l link
lasts who p q v w l link a turn on ended lives quit works la stands units rises at s =
    let h = l.handed in
    let z = l.gave ++ concat l.pieces in
    let o = turned_lives Asks granted h z StaysHome heard_home asked_home ⊥ v.ended v.quit (life_at v p) (life_at w q) l a link s.lives
    (λ e. not_both v.quit e s.goes_on) lives turn (record { tied = tied_before who p v l s; home = s.home; works = works }) in
    record {
      serves = serves_turned who p q v w l link h z (ended ∙ lives) quit (stands s.stands) (units s.stands) (rises s.stands) at la on.stands o.home o.tied s;
      keeps = record { handed = o.tied.handed; stream = o.tied.stream; works = λ x. o.works };
      ahead = record { rules = on.fixed; roots = on.roots; passes = on.passes; others = λ x. o.home.none };
    }

-- the line then
abbrev pub served_line : Line → SessionState SeenState → MemLinkState → MemLinkState → ℕ → Line
served_line l w far near back = record { client = l.client; near = near; session = w; far = far; forth = l.forth; back = back }

pub was_served : (who : ℕ) (p q : SoleState) (l : Line) (w : SessionState SeenState) (link far near : MemLinkState) (back : ℕ) (a : Turn)
    → IsTurn l.session p l.far a w q link → IsOn p l.session.seat q w.seat → w.ended ≡ ended_by a → ended_by a ≡ None → w.quit ≡ l.session.quit
    → lasting_of w.parts ≡ lasting_of l.session.parts → (StandsFor granted l.session → StandsFor granted w)
    → (StandsFor granted l.session → Publishes granted w.parts) → (StandsFor granted l.session → Rises granted w.parts)
    → IsAt (FitsSole q) (places (sole_rules q.rules)) w.parts w.seat → Passes link l.near far near → back ≡ l.back + length link.sent → back ≤ most_passed
    → Serves who p l.session l.far → ArePassed l
    → Served who p q (served_line l w far near back)
was_served who p q l w link far near back a turn on ended lives quit la stands units rises at passes count few s passed =
    let t = lasts who p q l.session w l.far link a turn on ended lives quit passed.back.works la stands units rises at s in
    record {
      serves = serves_at who q w link far (ap (λ (m : MemLinkState). m.gave) passes.handed) (took_same link far passes.handed) t.serves;
      passed = record {
        forth = still_passed l.near l.far link far near l.forth passed.forth t.keeps passes;
        back = handed_on l.far link l.near far near l.back back passed.back t.keeps passes count few;
      };
      ahead = t.ahead;
    }

pub turned_so : (p q : SoleState) (l : Line) (w : SessionState SeenState) (link far near : MemLinkState) (back : ℕ) (a : Turn)
    → IsTurn l.session p l.far a w q link → w.ended ≡ ended_by a → ended_by a ≡ None → w.quit ≡ l.session.quit → Passes link l.near far near
    → SessionTurned p q l (served_line l w far near back)
turned_so p q l w link far near back a turn ended lives quit passes =
    record { answer = a; link = link; turn = turn; lives = lives; ended = ended ∙ lives; quit = quit; passed = passes; forth = refl; client = refl }

-- one that has ended in it
pub session_stops : (stop : Stop) (p q : SoleState) (l m : Line) (w : SessionState SeenState) (link : MemLinkState) (a : Turn) → LastsBy (Err stop) a
    → IsTurn l.session p l.far a w q link → w.ended ≡ ended_by a → (StandsFor granted l.session → StandsFor granted w)
    → lasting_of w.parts ≡ lasting_of l.session.parts → TurnsSession (Err stop) p q l m
session_stops Unfinished p q l m w link a h t ended stands lasting = record {
  cause = h.0;
  why = h.2;
  new = w;
  port = q;
  link = link;
  turn = subst (λ (b : Turn). IsTurn l.session p l.far b w q link) h.1 t;
  ended = ended ∙ ap ended_by h.1;
  stands = stands;
  lasts = lasting;
}
session_stops (Refused at) p q l m w link a h t ended stands lasting = absurd h
session_stops Source p q l m w link a h t ended stands lasting = absurd h
session_stops Sink p q l m w link a h t ended stands lasting = absurd h
session_stops Memory p q l m w link a h t ended stands lasting = tt

pub session_wants : (stop : Stop) (p q : SoleState) (l m : Line) → stop ≡ Memory → TurnsSession (Err stop) p q l m
session_wants stop p q l m e = subst (λ (s : Stop). TurnsSession (Err s) p q l m) (sym e) tt

-- ---- one that was told to end

-- its answer, and what it leaves
pub record Quitting (who : ℕ) (p q : SoleState) (v : SessionState SeenState) (l m : MemLinkState) (a : Turn) : Type 0 where
  pub answer : a ≡ Ended Quit
  pub port : q ≡ p
  pub link : m ≡ l
  pub side : SessionSide who m v.parts.x v.parts.calls (journal_at p.books 0)

quit_turn : (p q : SoleState) (v w : SessionState SeenState) (l m : MemLinkState) (a : Turn) → v.ended ≡ None → v.parts.kept ≡ None
    → IsTurn (record v { quit = true }) p l a w q m → IsEnded Quit (life_at v p) a (life_at w q) × (m ≡ l)
quit_turn p q v w l m a lives none t =
    let x : KeptBy Asks granted MemHears MemSays v.parts.kept true (life_at v p) l a (life_at w q) m =
    subst (λ (o : Option End). EndedBy Asks granted MemHears MemSays o true (life_at v p) l a (life_at w q) m) lives t in
    subst (λ (o : Option Entry). KeptBy Asks granted MemHears MemSays o true (life_at v p) l a (life_at w q) m) none x

pub quits : (who : ℕ) (p q : SoleState) (v x w : SessionState SeenState) (l m : MemLinkState) (a : Turn) → sole_rules p.rules ≡ rules → IsStill v
    → x ≡ record v { quit = true } → IsTurn x p l a w q m → (StandsFor granted x → StandsFor granted w) → w.ended ≡ ended_by a
    → Serves who p v l → Quitting who p q v l m a
quits who p q v x w l m a r still e t stands ended s =
    let b = quit_turn p q v w l m a s.lives still.none (subst (λ (y : SessionState SeenState). IsTurn y p l a w q m) e t) in
    let stood : StandsFor granted w = stands (subst (StandsFor granted) (sym e) s.stands) in
    let over : StandsBy (ended_by a) granted w.parts = subst (λ (o : Option End). StandsBy o granted w.parts) ended stood in
    let quit : StandsBy (ended_by (Ended Quit)) granted w.parts = subst (λ (y : Turn). StandsBy (ended_by y) granted w.parts) b.0.ended over in
    let side = ended_side who p v w l r s still.none (subst (λ (o : Option End). IsUnsent o granted v.parts 0) s.lives (still.unsent s.stands)) quit b.0.gone in
    record {
      answer = b.0.ended;
      port = b.0.port;
      link = b.1;
      side = subst (λ (k : MemLinkState). SessionSide who k v.parts.x v.parts.calls (journal_at p.books 0)) (sym b.1) side;
    }
