-- One call on one thread: what it is answered, and what it leaves, is a function of where it was made
use Rattle.std.proofs.Common.{inl, inr, ◌≡◌, ◌≢◌, ◌^◌, ℕ, nat_eq, if◌then◌else◌, Bool, true, false, List, [], ◌∷◌, ◌++◌, length, reverse, Option, Some, None}
use Rattle.std.proofs.Common.{refl, sym, ap, ◌∙◌, subst, arith, append-nil, length-append}
use Rattle.std.proofs.lemmas.Bool.{cases_eq}
use Rattle.std.proofs.lemmas.Bool.Decides.{nat_tests}
use Rattle.stream_model.specs.Shape.{shape_reply}
use Rattle.stream_model.specs.declared.calls.Entry.{Entry}
use Rattle.stream_model.specs.declared.replies.Reply.{Reply}
use Rattle.stream_registry.specs.Books.{SoleState, SeenState, FitsSole, journal_at, sole_rules}
use Rattle.stream_registry.specs.Names.{PortRules}
use Rattle.stream_registry.specs.Told.{Step, risen}
use Rattle.turn_gate.specs.Histories.{Begins}
use Rattle.relay_session.proofs.SeatStanding.{begins_same, begins_trans}
use Rattle.relay_session.specs.SeatState.{HasCount, HasFit, SeatState, active_at, known_if, place_of}
use Rattle.relay_session.specs.declared.seat_answers.Active.{Active}
use Rattle.relay_session.specs.declared.seat_answers.Active.TheVariants as active
use Rattle.relay_session.specs.declared.seat_answers.Made.{Made}
use Rattle.relay_session.specs.declared.seat_answers.Made.TheVariants as made
use Rattle.turn_law.specs.Twins.{HasRoom, SamePort, SoleAsks}

-- ---- the reply

nil_of : (l : List Step) → length l ≡ 0 → l ≡ []
nil_of [] e = refl
nil_of (s ∷ l) e = absurd (omega (arith, e))

-- a history between one and that one with a call more behind it is that one
pub between_is : (h before : List Step) (s : Step) → Begins h before → Begins (before ++ s ∷ []) (h ++ s ∷ []) → before ≡ h
between_is h before s b c =
    let n : length (h ++ b.0) ≡ length before = ap length b.1 in
    let m : length ((before ++ s ∷ []) ++ c.0) ≡ length (h ++ s ∷ []) = ap length c.1 in
    let z : length b.0 ≡ 0 = omega (
      arith,
      n,
      m,
      length-append h b.0,
      length-append (before ++ s ∷ []) c.0,
      length-append before (s ∷ []),
      length-append h (s ∷ []),
    ) in
    sym b.1 ∙ (ap (λ (l : List Step). h ++ l) (nil_of b.0 z) ∙ append-nil h)

-- what is known of a place by a pass that fits begins its history
known_begins : (y : SoleState) (spot : Option (ℕ × SeenState)) (q : ℕ) → HasFit (FitsSole y) spot
    → Begins (known_if (λ (p : SeenState). p.seen) (journal_at y.books) spot q) (journal_at y.books q)
known_begins y None q f = begins_same (journal_at y.books q) (journal_at y.books q) refl
known_begins y (Some p) q f = by (nat_eq p.0 q) refl
  where
    by : (b : Bool) → nat_eq p.0 q ≡ b → Begins (if nat_eq p.0 q then p.1.seen else journal_at y.books q) (journal_at y.books q)
    by true e =
        let same : p.0 ≡ q = grind (arith, nat_tests, e) in
        subst (λ (t : Bool). Begins (if t then p.1.seen else journal_at y.books q) (journal_at y.books q)) (sym e)
        (subst (λ (k : ℕ). Begins p.1.seen (journal_at y.books k)) same f.seen)
    by false e = subst (λ (t : Bool). Begins (if t then p.1.seen else journal_at y.books q) (journal_at y.books q)) (sym e)
        (begins_same (journal_at y.books q) (journal_at y.books q) refl)

-- what the rules answer to a call at a place, after all that was made there
abbrev pub reply_by : SoleState → ℕ → Entry → Reply
reply_by x place e = shape_reply ((sole_rules x.rules).limits place) (reverse (journal_at x.books place)) e

pub reply_is : (x : SoleState) (a : SeatState SeenState) (place : ℕ) (e : Entry) (r : Reply) (y : SoleState) (b : SeatState SeenState)
    → SoleAsks x a place e (made.Answer r) y b → r ≡ reply_by x place e
reply_is x a place e r y b k =
    let n = k.asked.noted in
    let h : List Step = journal_at x.books place in
    let known' : List Step = known_if (λ (p : SeenState). p.seen) (journal_at y.books) b.spot place in
    let within : Begins (n.before ++ (e, r) ∷ []) (h ++ (e, r) ∷ []) = subst (λ (t : List Step). Begins (n.before ++ (e, r) ∷ []) t) k.grows.here
    (begins_trans (n.before ++ (e, r) ∷ []) known' (journal_at y.books place) n.within (known_begins y b.spot place k.fit)) in
    n.reply_is ∙ ap (λ (t : List Step). shape_reply ((sole_rules x.rules).limits place) (reverse t) e) (between_is h n.before (e, r) n.root_first within)

pub reply_same : (x x' : SoleState) (place place' : ℕ) (e e' : Entry) → place' ≡ place → e' ≡ e → SamePort x x' → reply_by x' place' e' ≡ reply_by x place e
reply_same x x' place place' e e' pe ee p =
    ap (λ (n : ℕ). reply_by x' n e') pe
    ∙ (ap (λ (z : Entry). reply_by x' place z) ee
    ∙ (ap (λ (r : PortRules). shape_reply (r.limits place) (reverse (journal_at x'.books place)) e) p.rules
    ∙ ap (λ (h : List Step). shape_reply ((sole_rules x.rules).limits place) (reverse h) e) (p.journals place)))

-- ---- why it would not be made

busy_not : (x : SoleState) (a : SeatState SeenState) (place : ℕ) (e f : Entry) (y : SoleState) (b : SeatState SeenState)
    → SoleAsks x a place e (made.Busy f) y b → ⊥
busy_not x a place e f y b k = let t : 0 ≡ risen 0 = k.asked.tries in omega (arith, t)

count_not : (y : SoleState) (spot : Option (ℕ × SeenState)) → HasCount (λ (p : SeenState). length p.seen) spot (2 ^ 62) → HasFit (FitsSole y) spot
    → HasRoom y → ⊥
count_not y None c f r = c
count_not y (Some p) c f r =
    let full : length p.1.seen ≡ 2 ^ 62 = c in
    let seen : Begins p.1.seen (journal_at y.books p.0) = f.seen in
    omega (arith, full, r p.0, ap length seen.1, length-append p.1.seen seen.0)

-- what excludes that it wasn't made: there was room, and it is known that no memory was wanting
abbrev pub Excludes : Made → SoleState → Type 0
Excludes (made.Answer r) y = Unit {0}
Excludes (made.Busy f) y = Unit {0}
Excludes (made.Worn f) y = HasRoom y
Excludes (made.OutOfMemory f) y = ⊥

pub answered : (x : SoleState) (a : SeatState SeenState) (place : ℕ) (e : Entry) (came : Made) (y : SoleState) (b : SeatState SeenState)
    → SoleAsks x a place e came y b → Excludes came y → came ≡ made.Answer (reply_by x place e)
answered x a place e (made.Answer r) y b k n = ap made.Answer (reply_is x a place e r y b k)
answered x a place e (made.Busy f) y b k n = absurd (busy_not x a place e f y b k)
answered x a place e (made.Worn f) y b k n = absurd (count_not y b.spot k.asked.fails k.fit n)
answered x a place e (made.OutOfMemory f) y b k n = absurd n

-- ---- what it leaves

-- calls came to one place of both
pub grown_same : (x x' y y' : SoleState) (place place' : ℕ) (steps steps' : List Step) → place' ≡ place → steps' ≡ steps → SamePort x x'
    → sole_rules y.rules ≡ sole_rules x.rules → journal_at y.books place ≡ journal_at x.books place ++ steps
    → ((q : ℕ) → q ≢ place → journal_at y.books q ≡ journal_at x.books q ++ [])
    → sole_rules y'.rules ≡ sole_rules x'.rules → journal_at y'.books place' ≡ journal_at x'.books place' ++ steps'
    → ((q : ℕ) → q ≢ place' → journal_at y'.books q ≡ journal_at x'.books q ++ []) → SamePort y y'
grown_same x x' y y' place place' steps steps' pe se p f h o f' h' o' = record {
  rules = f' ∙ (p.rules ∙ sym f);
  journals = λ q. elim (cases_eq q place) [
    | inl i ↦ subst (λ (n : ℕ). journal_at y'.books n ≡ journal_at y.books n) (sym i)
        (subst (λ (n : ℕ). journal_at y'.books n ≡ journal_at x'.books n ++ steps') pe h'
        ∙ (ap (λ (l : List Step). l ++ steps') (p.journals place) ∙ (ap (λ (l : List Step). journal_at x.books place ++ l) se ∙ sym h)))
    | inr d ↦ o' q (λ i. d (i ∙ pe)) ∙ (append-nil (journal_at x'.books q) ∙ (p.journals q ∙ (sym (append-nil (journal_at x.books q)) ∙ sym (o q d))))
  ];
}

pub active_same : (s t : Option (ℕ × SeenState)) (a b : Active) (q : ℕ) → place_of t ≡ place_of s → b ≡ a → active_at t b q ≡ active_at s a q
active_same None None a b q e f = refl
active_same None (Some p) a b q e f = absurd (cc)
active_same (Some p) None a b q e f = absurd (cc)
active_same (Some p) (Some r) a b q e f =
    ap (λ (o : Option ℕ). if nat_eq (place_or o) q then b else active.Nothing) e ∙ ap (λ (x : Active). if nat_eq p.0 q then x else active.Nothing) f
  where
    place_or : Option ℕ → ℕ
    place_or None = 0
    place_or (Some n) = n
