use Rattle.relay_replay.specs.Streams.{SoleAsks}
-- What a turn of a session does to the streams' histories and to its link
use Rattle.std.proofs.Common.{inl, inr, ◌≡◌, ◌≢◌, ◌||◌, not, ℕ, nat_eq, if◌then◌else◌, Bool, true, false, List, [], ◌∷◌, ◌++◌, length, reverse, take, drop, All}
use Rattle.std.proofs.Common.{Option, Some, None, refl, sym, ap, ◌∙◌, subst, arith, append_assoc, append-nil, length-append}
use Rattle.std.specs.List.{concat}
use Rattle.std.proofs.lemmas.Bool.{cases_eq}
use Rattle.std.proofs.lemmas.Bool.Decides.{eqb_tells, nat_tests}
use Rattle.std.proofs.lemmas.List.{reverse-append, take-append-drop}
use Rattle.std.proofs.lemmas.List.Elements.{All-append, All-cons, All-head, All-nil, All-tail}
use Rattle.command_dialog.specs.declared.types.Ask.{Ask}
use Rattle.command_dialog.specs.declared.types.Grant.{Grant}
use Rattle.command_dialog.specs.declared.types.Playing.{Playing}
use Rattle.relay_outside.specs.Heard.{Came, CameBytes, CameEnd, CameNotYet, CameFailed}
use Rattle.relay_outside.specs.MemLinkLaws.{first_bytes-front}
use Rattle.relay_outside.specs.MemLinks.{MemLinkState, MemHears, MemSays}
use Rattle.relay_outside.specs.declared.link.Said.{Said}
use Rattle.relay_outside.specs.declared.link.Said.TheVariants as said
use Rattle.session_owed.specs.Standing.{Past}
use Rattle.stream_model.specs.declared.calls.Call.{Call}
use Rattle.stream_model.specs.declared.calls.Entry.{Entry}
use Rattle.stream_model.specs.declared.calls.Shape.{Shape}
use Rattle.stream_model.specs.declared.replies.Reply.{Reply}
use Rattle.stream_registry.specs.Books.{SoleState, SeenState, FitsSole, journal_at, sole_rules}
use Rattle.stream_registry.specs.Names.{PortRules}
use Rattle.stream_registry.specs.Told.{Keeps, Step}
use Rattle.turn_gate.specs.Histories.{Begins}
use Rattle.relay_session.specs.Feeding.{Firm, Fixed, Heard}
use Rattle.relay_session.specs.Owing.{pending}
use Rattle.relay_session.specs.SeatOwn.{own}
use Rattle.relay_session.specs.SeatState.{HasFit, Makes as SeatMakes, Noted, SeatState, known_if}
use Rattle.relay_session.specs.SeatVisits.{Visit, calls_at, calls_of}
use Rattle.relay_session.specs.Session.{does, entry_by}
use Rattle.relay_session.specs.Turns.{AfterCall, AfterKept, CallAsked, CallMade, CalledBy, CameAs, EmptyBy, EndedBy, Fed, FedAs, FedBy, Gone, Input, InputBy}
use Rattle.relay_session.specs.Turns.{IsEnded, KeptBy, Life, Loudly, Quietly, QuitBy, SendBy, Sent, SentAs, Stopping, TakeMade, Taken, TakenBy, answer}
use Rattle.relay_session.specs.Turns.{is_hungry, is_nil, life, take_entry, takes}
use Rattle.relay_session.specs.declared.core_fields.Core.{Core}
use Rattle.relay_session.specs.declared.end.End.{End}
use Rattle.relay_session.specs.declared.seat_answers.Made.{Made}
use Rattle.relay_session.specs.declared.seat_answers.Made.TheVariants as made
use Rattle.relay_session.specs.declared.turn.Turn.{Turn}
use Rattle.relay_session.specs.declared.turn.Turn.TheVariants.{Moved, Idle, Ended}
use Rattle.relay_session.proofs.SeatStanding.{begins_same, begins_trans, calls_here}

-- ---- the calls of a name

pub own_same : (who : ℕ) (h : List Step) (s : Step) → s.0.who ≡ who → own who (reverse (h ++ s ∷ [])) ≡ s ∷ own who (reverse h)
own_same who h s e = elim (eqb_tells s.0.who who) [
  | inl t ↦ ap (own who) (reverse-append h (s ∷ [])) ∙ ap (λ (b : Bool). if b then s ∷ own who (reverse h) else own who (reverse h)) t.0
  | inr t ↦ absurd (t.1 e)
]

pub own_other : (who : ℕ) (h : List Step) (s : Step) → s.0.who ≢ who → own who (reverse (h ++ s ∷ [])) ≡ own who (reverse h)
own_other who h s d = elim (eqb_tells s.0.who who) [
  | inl t ↦ absurd (d t.1)
  | inr t ↦ ap (own who) (reverse-append h (s ∷ [])) ∙ ap (λ (b : Bool). if b then s ∷ own who (reverse h) else own who (reverse h)) t.0
]

-- calls of this name were put behind a history
abbrev pub Grown : ℕ → List Step → List Step → Type 0
Grown n h h' = (steps : List Step) × ((h' ≡ h ++ steps) × All (λ (s : Step). s.0.who ≡ n) steps)

pub grown_same : (n : ℕ) (h h' : List Step) → h' ≡ h → Grown n h h'
grown_same n h h' e = ([], (e ∙ sym (append-nil h), All-nil (λ (s : Step). s.0.who ≡ n)))

pub grown_one : (n : ℕ) (h h' : List Step) (s : Step) → s.0.who ≡ n → h' ≡ h ++ s ∷ [] → Grown n h h'
grown_one n h h' s e is = (s ∷ [], (is, All-cons (λ (x : Step). x.0.who ≡ n) s [] e (All-nil (λ (x : Step). x.0.who ≡ n))))

pub grown_then : (n : ℕ) (h i j : List Step) → Grown n h i → Grown n i j → Grown n h j
grown_then n h i j a b =
    (a.0 ++ b.0, (b.1.0 ∙ (ap (λ (l : List Step). l ++ b.0) a.1.0 ∙ append_assoc h a.0 b.0), All-append (λ (s : Step). s.0.who ≡ n) a.0 b.0 a.1.1 b.1.1))

-- those of another name are the same
others_in : (k n : ℕ) (steps h : List Step) → k ≢ n → All (λ (s : Step). s.0.who ≡ n) steps → own k (reverse (h ++ steps)) ≡ own k (reverse h)
others_in k n [] h d a = ap (λ (l : List Step). own k (reverse l)) (append-nil h)
others_in k n (s ∷ ss) h d a =
    let is : s.0.who ≡ n = All-head (λ (x : Step). x.0.who ≡ n) s ss a in
    ap (λ (l : List Step). own k (reverse l)) (sym (append_assoc h (s ∷ []) ss))
    ∙ (others_in k n ss (h ++ s ∷ []) d (All-tail (λ (x : Step). x.0.who ≡ n) s ss a) ∙ own_other k h s (λ e. d (sym e ∙ is)))

pub grown_others : (k n : ℕ) (h h' : List Step) → k ≢ n → Grown n h h' → own k (reverse h') ≡ own k (reverse h)
grown_others k n h h' d g = ap (λ (l : List Step). own k (reverse l)) g.1.0 ∙ others_in k n g.0 h d g.1.1

pub grown_all : (X : ℕ → Type 0) (n : ℕ) (h h' : List Step) → X n → Grown n h h' → All (λ (s : Step). X s.0.who) h → All (λ (s : Step). X s.0.who) h'
grown_all X n h h' x g a = subst (All (λ (s : Step). X s.0.who)) (sym g.1.0) (All-append (λ (s : Step). X s.0.who) h g.0 a (all_in g.0 g.1.1))
  where
    all_in : (steps : List Step) → All (λ (s : Step). s.0.who ≡ n) steps → All (λ (s : Step). X s.0.who) steps
    all_in [] b = All-nil (λ (s : Step). X s.0.who)
    all_in (s ∷ ss) b = All-cons (λ (y : Step). X y.0.who) s ss (subst X (sym (All-head (λ (y : Step). y.0.who ≡ n) s ss b)) x)
        (all_in ss (All-tail (λ (y : Step). y.0.who ≡ n) s ss b))

-- ---- what is lawful

abbrev pub Lawful : SoleState → Type 0
Lawful x = (q : ℕ) → Keeps ((sole_rules x.rules).limits q) (journal_at x.books q)

pub limits_same : (x y : SoleState) (q : ℕ) → sole_rules y.rules ≡ sole_rules x.rules → (sole_rules y.rules).limits q ≡ (sole_rules x.rules).limits q
limits_same x y q e = ap (λ (r : PortRules). r.limits q) e

keeps_on : (l l' : Shape) (h h' : List Step) → l' ≡ l → h' ≡ h → Keeps l h → Keeps l' h'
keeps_on l l' h h' a b k = subst (λ (s : Shape). Keeps s h') (sym a) (subst (λ (x : List Step). Keeps l x) (sym b) k)

nil_of : (l : List Step) → length l ≡ 0 → l ≡ []
nil_of [] e = refl
nil_of (s ∷ l) e = absurd (omega (arith, e))

-- a history between one and that one with a call more behind it is that one
between_is : (h before : List Step) (s : Step) → Begins h before → Begins (before ++ s ∷ []) (h ++ s ∷ []) → before ≡ h
between_is h before s b c =
    let n : length (h ++ b.0) ≡ length before = ap length b.1 in
    let m : length ((before ++ s ∷ []) ++ c.0) ≡ length (h ++ s ∷ []) = ap length c.1 in
    let z : length b.0 ≡ 0 = omega (
      arith,
      n,
      m,
      length-append h b.0,
      length-append (before ++ s ∷ []) c.0,
      length-append before (s ∷ []),
      length-append h (s ∷ []),
    ) in
    sym b.1 ∙ (ap (λ (l : List Step). h ++ l) (nil_of b.0 z) ∙ append-nil h)

-- what is known of a place by a pass that fits begins its history
known_begins : (y : SoleState) (spot : Option (ℕ × SeenState)) (q : ℕ) → HasFit (FitsSole y) spot
    → Begins (known_if (λ (p : SeenState). p.seen) (journal_at y.books) spot q) (journal_at y.books q)
known_begins y None q f = begins_same (journal_at y.books q) (journal_at y.books q) refl
known_begins y (Some p) q f = by (nat_eq p.0 q) refl
  where
    by : (b : Bool) → nat_eq p.0 q ≡ b → Begins (if nat_eq p.0 q then p.1.seen else journal_at y.books q) (journal_at y.books q)
    by true e =
        let same : p.0 ≡ q = grind (arith, nat_tests, e) in
        subst (λ (t : Bool). Begins (if t then p.1.seen else journal_at y.books q) (journal_at y.books q)) (sym e)
        (subst (λ (k : ℕ). Begins p.1.seen (journal_at y.books k)) same f.seen)
    by false e = subst (λ (t : Bool). Begins (if t then p.1.seen else journal_at y.books q) (journal_at y.books q)) (sym e)
        (begins_same (journal_at y.books q) (journal_at y.books q) refl)

-- ---- one call

calls_else : (place q : ℕ) (step : Step) (vs : List Visit) → q ≢ place → calls_at q ((place, step) ∷ vs) ≡ calls_at q vs
calls_else place q step vs d = let t : nat_eq place q ≡ false = grind (arith, nat_tests) in rw t refl

-- all calls of this name are those of the seat
abbrev pub AreCalls : ℕ → SoleState → List Visit → Type 0
AreCalls n x visits = (q : ℕ) → own n (reverse (journal_at x.books q)) ≡ calls_at q visits

-- the holder of this name has made calls, and nobody else
pub record Makes (n : ℕ) (x : SoleState) (visits : List Visit) (y : SoleState) (visits' : List Visit) : Type 0 where
  pub rules : sole_rules y.rules ≡ sole_rules x.rules
  pub lawful : Lawful x → Lawful y
  pub calls : AreCalls n x visits → AreCalls n y visits'
  pub grown : (q : ℕ) → Grown n (journal_at x.books q) (journal_at y.books q)

pub makes_none : (n : ℕ) (x : SoleState) (visits : List Visit) → Makes n x visits x visits
makes_none n x visits = record { rules = refl; lawful = λ l. l; calls = λ h. h; grown = λ q. grown_same n (journal_at x.books q) (journal_at x.books q) refl }

pub makes_then : (n : ℕ) (x y z : SoleState) (u v w : List Visit) → Makes n x u y v → Makes n y v z w → Makes n x u z w
makes_then n x y z u v w a b = record {
  rules = b.rules ∙ a.rules;
  lawful = λ l. b.lawful (a.lawful l);
  calls = λ h. b.calls (a.calls h);
  grown = λ q. grown_then n (journal_at x.books q) (journal_at y.books q) (journal_at z.books q) (a.grown q) (b.grown q);
}

-- no call was made
makes_still : (n : ℕ) (x y : SoleState) (u v : List Visit) → sole_rules y.rules ≡ sole_rules x.rules → v ≡ u
    → ((q : ℕ) → journal_at y.books q ≡ journal_at x.books q) → Makes n x u y v
makes_still n x y u v same e j = record {
  rules = same;
  lawful = λ l q. keeps_on ((sole_rules x.rules).limits q) ((sole_rules y.rules).limits q) (journal_at x.books q) (journal_at y.books q)
      (limits_same x y q same) (j q) (l q);
  calls = λ h q. ap (λ (t : List Step). own n (reverse t)) (j q) ∙ (h q ∙ ap (calls_at q) (sym e));
  grown = λ q. grown_same n (journal_at x.books q) (journal_at y.books q) (j q);
}

-- one was
makes_one : (n : ℕ) (x y : SoleState) (u v : List Visit) (place : ℕ) (s : Step) → sole_rules y.rules ≡ sole_rules x.rules → v ≡ (place, s) ∷ u
    → s.0.who ≡ n → journal_at y.books place ≡ journal_at x.books place ++ s ∷ []
    → ((q : ℕ) → q ≢ place → journal_at y.books q ≡ journal_at x.books q) → Keeps ((sole_rules x.rules).limits place) (journal_at x.books place ++ s ∷ [])
    → Makes n x u y v
makes_one n x y u v place s same e who here away k = record {
  rules = same;
  lawful = λ l q. elim (cases_eq q place) [
    | inl i ↦ subst (λ (p : ℕ). Keeps ((sole_rules y.rules).limits p) (journal_at y.books p)) (sym i)
        (keeps_on ((sole_rules x.rules).limits place) ((sole_rules y.rules).limits place) (journal_at x.books place ++ s ∷ []) (journal_at y.books place)
        (limits_same x y place same) here k)
    | inr d ↦ keeps_on ((sole_rules x.rules).limits q) ((sole_rules y.rules).limits q) (journal_at x.books q) (journal_at y.books q)
        (limits_same x y q same) (away q d) (l q)
  ];
  calls = λ h q. elim (cases_eq q place) [
    | inl i ↦ subst (λ (p : ℕ). own n (reverse (journal_at y.books p)) ≡ calls_at p v) (sym i)
        (ap (λ (t : List Step). own n (reverse t)) here ∙ (own_same n (journal_at x.books place) s who
        ∙ (ap (λ (t : List Step). s ∷ t) (h place) ∙ (sym (calls_here place s u) ∙ ap (calls_at place) (sym e)))))
    | inr d ↦ ap (λ (t : List Step). own n (reverse t)) (away q d) ∙ (h q ∙ (sym (calls_else place q s u d) ∙ ap (calls_at q) (sym e)))
  ];
  grown = λ q. elim (cases_eq q place) [
    | inl i ↦ subst (λ (p : ℕ). Grown n (journal_at x.books p) (journal_at y.books p)) (sym i)
        (grown_one n (journal_at x.books place) (journal_at y.books place) s who here)
    | inr d ↦ grown_same n (journal_at x.books q) (journal_at y.books q) (away q d)
  ];
}

-- what stands behind a history with nothing put behind it
stays_same : (h h' : List Step) → h' ≡ h ++ [] → h' ≡ h
stays_same h h' e = e ∙ append-nil h

noted_keeps : (limits : Shape) (y : SoleState) (h known : List Step) (place : ℕ) (s : Step) (spot : Option (ℕ × SeenState)) → HasFit (FitsSole y) spot
    → journal_at y.books place ≡ h ++ s ∷ []
    → Noted limits h known s (known_if (λ (p : SeenState). p.seen) (journal_at y.books) spot place) → Keeps limits (h ++ s ∷ [])
noted_keeps limits y h known place s spot f here n =
    let within : Begins (n.before ++ s ∷ []) (h ++ s ∷ []) = subst (λ (t : List Step). Begins (n.before ++ s ∷ []) t) here
    (begins_trans (n.before ++ s ∷ []) (known_if (λ (p : SeenState). p.seen) (journal_at y.books) spot place) (journal_at y.books place) n.within
    (known_begins y spot place f)) in
    subst (λ (t : List Step). Keeps limits (t ++ s ∷ [])) (between_is h n.before s n.root_first within) n.lawful

unmade : (x y : SoleState) (place : ℕ) → journal_at y.books place ≡ journal_at x.books place ++ []
    → ((q : ℕ) → q ≢ place → journal_at y.books q ≡ journal_at x.books q ++ [])
    → (q : ℕ) → journal_at y.books q ≡ journal_at x.books q
unmade x y place h o q = elim (cases_eq q place) [
  | inl i ↦ subst (λ (p : ℕ). journal_at y.books p ≡ journal_at x.books p) (sym i) (stays_same (journal_at x.books place) (journal_at y.books place) h)
  | inr d ↦ stays_same (journal_at x.books q) (journal_at y.books q) (o q d)
]

makes_asked : (n : ℕ) (x : SoleState) (a : SeatState SeenState) (place : ℕ) (e : Entry) (r : Made) (y : SoleState) (b : SeatState SeenState) → e.who ≡ n
    → SoleAsks x a place e r y b → Makes n x a.visits y b.visits
makes_asked n x a place e (made.Answer r) y b who k =
    makes_one n x y a.visits b.visits place (e, r) k.asked.fixed k.asked.makes who k.grows.here
    (λ q d. stays_same (journal_at x.books q) (journal_at y.books q) (k.grows.elsewhere q d))
    (noted_keeps ((sole_rules x.rules).limits place) y (journal_at x.books place) _ place (e, r) b.spot k.fit k.grows.here k.asked.noted)
makes_asked n x a place e (made.Busy f) y b who k = makes_still n x y a.visits b.visits k.asked.fixed k.asked.makes.1
    (unmade x y place k.grows.here k.grows.elsewhere)
makes_asked n x a place e (made.Worn f) y b who k = makes_still n x y a.visits b.visits k.asked.fixed k.asked.makes.1
    (unmade x y place k.grows.here k.grows.elsewhere)
makes_asked n x a place e (made.OutOfMemory f) y b who k = makes_still n x y a.visits b.visits k.asked.fixed k.asked.makes.1
    (unmade x y place k.grows.here k.grows.elsewhere)

-- ---- a turn, from this port and these visits on, of a session of this name to which these bytes were given

-- the call that waits bears the name
abbrev pub Named : ℕ → Option Entry → Type 0
Named n None = Unit {0}
Named n (Some e) = e.who ≡ n

-- by the turn's answer: all that the link gave was fed or is yet to be, and of one that ended what was fed begins it
abbrev pub FedAfter : Turn → List ℕ → List ℕ → List ℕ → Type 0
FedAfter Moved gave x input = gave ≡ x ++ input
FedAfter Idle gave x input = gave ≡ x ++ input
FedAfter (Ended e) gave x input = Begins x gave

-- a call of this name
abbrev pub Bears : ℕ → Visit → Type 0
Bears n v = v.1.0.who ≡ n

bears_more : (n place : ℕ) (e : Entry) (r : Made) (u v : List Visit) → e.who ≡ n → SeatMakes place e r u v → All (Bears n) u → All (Bears n) v
bears_more n place e (made.Answer x) u v w k a = subst (All (Bears n)) (sym k) (All-cons (Bears n) (place, (e, x)) u w a)
bears_more n place e (made.Busy f) u v w k a = subst (All (Bears n)) (sym k.1) a
bears_more n place e (made.Worn f) u v w k a = subst (All (Bears n)) (sym k.1) a
bears_more n place e (made.OutOfMemory f) u v w k a = subst (All (Bears n)) (sym k.1) a

-- one call more
made_more : (u v : List Visit) (calls calls' : List Step) (e : Entry) (r : Reply) → calls_of v ≡ calls_of u ++ (e, r) ∷ [] → calls_of u ≡ calls
    → calls' ≡ calls ++ (e, r) ∷ [] → calls_of v ≡ calls'
made_more u v calls calls' e r k h c = k ∙ (ap (λ (l : List Step). l ++ (e, r) ∷ []) h ∙ sym c)

named_by : (n at : ℕ) (who : ℕ) (c : Option Call) → who ≡ n → Named n (entry_by who at c)
named_by n at who None e = tt
named_by n at who (Some c) e = e

named_none : (n : ℕ) (k : Option Entry) → k ≡ None → Named n k
named_none n k e = subst (Named n) (sym e) tt

module _ (n : ℕ) (given : List ℕ) (from : SoleState) (visits : List Visit) where
  abbrev Living : Type 0
  Living = Life SoleState (SeatState SeenState)

  record At (v : Living) (l : MemLinkState) : Type 0 where
    who : v.parts.who ≡ n
    named : Named n v.parts.kept
    makes : Makes n from visits v.port v.seat.visits
    made : calls_of v.seat.visits ≡ v.parts.calls
    own_all : All (Bears n) v.seat.visits
    all : l.gave ++ concat l.pieces ≡ given
    fed : l.gave ≡ v.parts.x ++ v.input

  pub record Done (a : Turn) (w : Living) (l : MemLinkState) : Type 0 where
    pub who : w.parts.who ≡ n
    pub named : Named n w.parts.kept
    pub makes : Makes n from visits w.port w.seat.visits
    pub made : calls_of w.seat.visits ≡ w.parts.calls
    pub own_all : All (Bears n) w.seat.visits
    pub all : l.gave ++ concat l.pieces ≡ given
    pub fed : FedAfter a l.gave w.parts.x w.input

  -- it goes on, or it ends
  done_on : (moved : Bool) (a : Turn) (w : Living) (l : MemLinkState) → a ≡ answer moved → At w l → Done a w l
  done_on true a w l e h = subst (λ (b : Turn). Done b w l) (sym e)
      (record { who = h.who; named = h.named; makes = h.makes; made = h.made; own_all = h.own_all; all = h.all; fed = h.fed })
  done_on false a w l e h = subst (λ (b : Turn). Done b w l) (sym e)
      (record { who = h.who; named = h.named; makes = h.makes; made = h.made; own_all = h.own_all; all = h.all; fed = h.fed })

  done_idle : (a : Turn) (w : Living) (l : MemLinkState) → a ≡ Idle → At w l → Done a w l
  done_idle a w l e h = done_on false a w l e h

  done_stop : (e : End) (a : Turn) (w : Living) (l : MemLinkState) → a ≡ Ended e → At w l → Done a w l
  done_stop e a w l is h = subst (λ (b : Turn). Done b w l) (sym is)
      (record { who = h.who; named = h.named; makes = h.makes; made = h.made; own_all = h.own_all; all = h.all; fed = (w.input, sym h.fed) })

  done_ended : (e : End) (v : Living) (a : Turn) (w : Living) (l : MemLinkState) → IsEnded e v a w → At v l → Done a w l
  done_ended e v a w l i h =
      let port : Makes n from visits w.port v.seat.visits = subst (λ (p : SoleState). Makes n from visits p v.seat.visits) (sym i.port) h.makes in
      let begins : Begins w.parts.x l.gave = (v.input, ap (λ (g : Gone). g.x ++ v.input) i.gone ∙ sym h.fed) in
      record {
        who = ap (λ (g : Gone). g.who) i.gone ∙ h.who;
        named = subst (Named n) (sym (ap (λ (g : Gone). g.kept) i.gone)) h.named;
        makes = subst (λ (s : SeatState SeenState). Makes n from visits w.port s.visits) (sym i.seat) port;
        made = ap (λ (s : SeatState SeenState). calls_of s.visits) i.seat ∙ (h.made ∙ sym (ap (λ (g : Gone). g.calls) i.gone));
        own_all = subst (λ (s : SeatState SeenState). All (Bears n) s.visits) (sym i.seat) h.own_all;
        all = h.all;
        fed = subst (λ (b : Turn). FedAfter b l.gave w.parts.x w.input) (sym i.ended) begins;
      }

  -- what changes nothing of that
  at_same : (v : Living) (c : Core) (input : List ℕ) (l : MemLinkState) → c.who ≡ v.parts.who → c.kept ≡ v.parts.kept → c.calls ≡ v.parts.calls
      → c.x ++ input ≡ v.parts.x ++ v.input → At v l → At (life c input v.port v.seat) l
  at_same v c input l w k m x h = record {
    who = w ∙ h.who;
    named = subst (Named n) (sym k) h.named;
    makes = h.makes;
    made = h.made
        ∙ sym m;
    own_all = h.own_all;
    all = h.all;
    fed = h.fed ∙ sym x;
  }

  at_asked : (v w : Living) (place : ℕ) (e : Entry) (r : Made) (l : MemLinkState) → e.who ≡ n → SoleAsks v.port v.seat place e r w.port w.seat
      → w.parts.who ≡ v.parts.who → Named n w.parts.kept → w.parts.x ≡ v.parts.x
      → calls_of w.seat.visits ≡ w.parts.calls → w.input ≡ v.input → At v l → At w l
  at_asked v w place e r l named k who kept x m i h = record {
    who = who ∙ h.who;
    named = kept;
    makes = makes_then n from v.port w.port visits v.seat.visits w.seat.visits h.makes (makes_asked n v.port v.seat place e r w.port w.seat named k);
    made = m;
    own_all = bears_more n place e r v.seat.visits w.seat.visits named k.asked.makes h.own_all;
    all = h.all;
    fed = h.fed ∙ (ap (λ (y : List ℕ). y ++ v.input) (sym x) ∙ ap (λ (y : List ℕ). w.parts.x ++ y) (sym i));
  }

  -- ---- step 6

  at_made : (v w : Living) (place : ℕ) (e : Entry) (moved : Bool) (came : Made) (a : Turn) (l : MemLinkState) → e.who ≡ n
      → SoleAsks v.port v.seat place e came w.port w.seat → w.input ≡ v.input → TakeMade v e moved came w a → At v l → Done a w l
  at_made v w place e moved (made.Answer r) a l named k i (c, u) h =
      let now : At w l = at_asked v w place e (made.Answer r) l named k (ap (λ (f : Firm). f.who) c.firm)
      (named_none n w.parts.kept (ap (λ (p : Past). p.kept) c.past)) (ap (λ (p : Past). p.x) c.past)
      (made_more v.seat.visits w.seat.visits v.parts.calls w.parts.calls e r k.asked.calls h.made (ap (λ (p : Past). p.calls) c.past)) i h in
      elim u [
        | inl t ↦ done_on _ a w l t.0 now
        | inr t ↦ done_stop _ a w l t now
      ]
  at_made v w place e moved (made.Busy f) a l named k i t h =
      done_on moved a w l t.1 (at_asked v w place e (made.Busy f) l named k (ap (λ (c : Core). c.who) t.0)
      (subst (λ (c : Core). Named n c.kept) (sym t.0) h.named) (ap (λ (c : Core). c.x) t.0) (k.asked.calls
      ∙ (h.made ∙ sym (ap (λ (c : Core). c.calls) t.0))) i h)
  at_made v w place e moved (made.Worn f) a l named k i t h =
      done_stop _ a w l t.1 (at_asked v w place e (made.Worn f) l named k (ap (λ (c : Core). c.who) t.0)
      (subst (λ (c : Core). Named n c.kept) (sym t.0) h.named) (ap (λ (c : Core). c.x) t.0) (k.asked.calls
      ∙ (h.made ∙ sym (ap (λ (c : Core). c.calls) t.0))) i h)
  at_made v w place e moved (made.OutOfMemory f) a l named k i t h =
      done_stop _ a w l t.1 (at_asked v w place e (made.OutOfMemory f) l named k (ap (λ (c : Core). c.who) t.0)
      (subst (λ (c : Core). Named n c.kept) (sym t.0) h.named) (ap (λ (c : Core). c.x) t.0) (k.asked.calls
      ∙ (h.made ∙ sym (ap (λ (c : Core). c.calls) t.0))) i h)

  taken_by_done : (o : Option Playing) (v : Living) (moved : Bool) (a : Turn) (w : Living) (l : MemLinkState) → TakenBy SoleAsks o v moved a w → At v l
      → Done a w l
  taken_by_done None v moved a w l t h = subst (λ (k : Living). Done a k l) (sym t.1) (done_on moved a v l t.0 h)
  taken_by_done (Some p) v moved a w l t h = at_made v w t.place (take_entry v.parts p) moved t.came a l h.who t.asked t.input t.taken h

  taken_done : (v : Living) (moved : Bool) (a : Turn) (w : Living) (l : MemLinkState) → Taken SoleAsks v moved a w → At v l → Done a w l
  taken_done v moved a w l (inl t) h =
      taken_by_done (takes t.0) (life t.0 v.input v.port v.seat) moved a w l t.2
      (at_same v t.0 v.input l (ap (λ (c : Core). c.who) t.1.rest) (ap (λ (c : Core). c.kept) t.1.rest) (ap (λ (c : Core). c.calls) t.1.rest)
      (ap (λ (c : Core). c.x ++ v.input) t.1.rest) h)
  taken_done v moved a w l (inr t) h = done_ended _ v a w l t h

  -- ---- a call that waited

  at_call : (v w : Living) (place : ℕ) (e : Entry) (came : Made) (l : MemLinkState) → v.parts.kept ≡ Some e
      → SoleAsks v.port v.seat place e came w.port w.seat → w.input ≡ v.input → CallMade v e came w → At v l → At w l
  at_call v w place e (made.Answer r) l k s i c h =
      at_asked v w place e (made.Answer r) l (subst (Named n) k h.named) s (ap (λ (f : Firm). f.who) c.firm)
      (named_none n w.parts.kept (ap (λ (p : Past). p.kept) c.past)) (ap (λ (p : Past). p.x) c.past)
      (made_more v.seat.visits w.seat.visits v.parts.calls w.parts.calls e r s.asked.calls h.made (ap (λ (p : Past). p.calls) c.past)) i h
  at_call v w place e (made.Busy f) l k s i t h =
      at_asked v w place e (made.Busy f) l (subst (Named n) k h.named) s (ap (λ (c : Core). c.who) t)
      (subst (λ (c : Core). Named n c.kept) (sym t) h.named) (ap (λ (c : Core). c.x) t) (s.asked.calls ∙ (h.made ∙ sym (ap (λ (c : Core). c.calls) t))) i h
  at_call v w place e (made.Worn f) l k s i t h =
      at_asked v w place e (made.Worn f) l (subst (Named n) k h.named) s (ap (λ (c : Core). c.who) t)
      (subst (λ (c : Core). Named n c.kept) (sym t) h.named) (ap (λ (c : Core). c.x) t) (s.asked.calls ∙ (h.made ∙ sym (ap (λ (c : Core). c.calls) t))) i h
  at_call v w place e (made.OutOfMemory f) l k s i t h =
      at_asked v w place e (made.OutOfMemory f) l (subst (Named n) k h.named) s (ap (λ (c : Core). c.who) t)
      (subst (λ (c : Core). Named n c.kept) (sym t) h.named) (ap (λ (c : Core). c.x) t) (s.asked.calls ∙ (h.made ∙ sym (ap (λ (c : Core). c.calls) t))) i h

  at_called : (v w : Living) (e : Entry) (came : Made) (l : MemLinkState) → v.parts.kept ≡ Some e → CallAsked SoleAsks v e came w → At v l → At w l
  at_called v w e came l k c h = at_call v w c.place e came l k c.asked c.input c.called h

  after_done : (v m : Living) (came : Made) (a : Turn) (w : Living) (l : MemLinkState) → AfterCall SoleAsks v came m a w → At m l → Done a w l
  after_done v m (made.Answer r) a w l (inl t) h = taken_done m true a w l t.1 h
  after_done v m (made.Answer r) a w l (inr t) h = done_ended _ m a w l t h
  after_done v m (made.Busy f) a w l t h = taken_done m true a w l t h
  after_done v m (made.Worn f) a w l t h = done_ended _ m a w l t h
  after_done v m (made.OutOfMemory f) a w l t h = done_ended _ m a w l t h

  called_done : (o : Option Entry) (v : Living) (a : Turn) (w : Living) (l : MemLinkState) → v.parts.kept ≡ o → CalledBy SoleAsks o v a w → At v l → Done a w l
  called_done None v a w l k t h = taken_done v true a w l t h
  called_done (Some e) v a w l k t h = after_done v t.1.0 t.0 a w l t.1.1.1 (at_called v t.1.0 e t.0 l k t.1.1.0 h)

  module _ (desk : Ask → Grant) where
    -- ---- step 5

    fed_as_done : (by : FedBy) (v : Living) (moved : Bool) (a : Turn) (w : Living) (l : MemLinkState) → FedAs SoleAsks desk by v moved a w → At v l → Done a w l
    fed_as_done Quietly v moved a w l t h =
        let f = t.1.0 in
        taken_done (life t.0 [] v.port v.seat) (moved || not (is_nil v.input)) a w l t.1.2
        (at_same v t.0 [] l (ap (λ (k : Fixed). k.who) f.fixed) (ap (λ (x : Heard). x.kept) t.1.1) (ap (λ (k : Fixed). k.calls) f.fixed)
        (fed_same v.parts.x f.fed v.input [] t.0.x f.x f.split) h)
      where
        fed_same : (x fed input left y : List ℕ) → y ≡ x ++ fed → fed ++ left ≡ input → y ++ left ≡ x ++ input
        fed_same x fed input left y e s = ap (λ (z : List ℕ). z ++ left) e ∙ (append_assoc x fed left ∙ ap (λ (z : List ℕ). x ++ z) s)
    fed_as_done Loudly v moved a w l t h =
        let f = t.1.1.0 in
        let m = t.1.1.1 in
        let c : Core = t.0 in
        called_done c.kept (life c t.1.0 v.port v.seat) a w l refl t.1.1.2
        (record {
          who = ap (λ (k : Fixed). k.who) f.fixed ∙ h.who;
          named = subst (Named n) (sym (ap (λ (x : Heard). x.kept) m.1)) (named_by n (length c.x) v.parts.who (does desk v.parts.dialog m.0).makes h.who);
          makes = h.makes;
          made = h.made ∙ sym (ap (λ (k : Fixed). k.calls) f.fixed);
          own_all = h.own_all;
          all = h.all;
          fed = h.fed ∙ sym (fed_same v.parts.x f.fed v.input t.1.0 c.x f.x f.split);
        })
      where
        fed_same : (x fed input left y : List ℕ) → y ≡ x ++ fed → fed ++ left ≡ input → y ++ left ≡ x ++ input
        fed_same x fed input left y e s = ap (λ (z : List ℕ). z ++ left) e ∙ (append_assoc x fed left ∙ ap (λ (z : List ℕ). x ++ z) s)
    fed_as_done (Stopping e) v moved a w l t h =
        let s = t.1.0 in
        let same : t.0.x ++ s.left ≡ v.parts.x ++ v.input = ap (λ (z : List ℕ). z ++ s.left) s.x
        ∙ (append_assoc v.parts.x s.fed s.left ∙ ap (λ (z : List ℕ). v.parts.x ++ z) s.split) in
        let i = t.1.1 in
        done_ended e (life t.0 s.left v.port v.seat) a w l (record { ended = i.ended; gone = i.gone; port = i.port; seat = i.seat })
        (at_same v t.0 s.left l (ap (λ (k : Fixed). k.who) s.fixed) s.kept (ap (λ (k : Fixed). k.calls) s.fixed) same h)

    fed_done : (v : Living) (moved : Bool) (a : Turn) (w : Living) (l : MemLinkState) → Fed SoleAsks desk v moved a w → At v l → Done a w l
    fed_done v moved a w l t h = fed_as_done t.0 v moved a w l t.1 h

    -- what came is behind all that was fed
    at_bytes : (v : Living) (l m : MemLinkState) (b : List ℕ) → v.input ≡ [] → MemHears l 4096 (CameBytes b) m → At v l → At (life v.parts b v.port v.seat) m
    at_bytes v l m b none s h =
        let front = first_bytes-front 4096 l.pieces b (omega arith) s.1 in
        let gave : m.gave ≡ l.gave ++ b = ap (λ (k : MemLinkState). k.gave) s.2 in
        let rest : concat m.pieces ≡ drop (length b) (concat l.pieces) = ap (λ (k : MemLinkState). concat k.pieces) s.2 ∙ front.others in
        let whole : b ++ concat m.pieces ≡ concat l.pieces = ap (λ (z : List ℕ). z ++ concat m.pieces) front.first
        ∙ (ap (λ (z : List ℕ). take (length b) (concat l.pieces) ++ z) rest ∙ take-append-drop (length b) (concat l.pieces)) in
        record {
          who = h.who;
          named = h.named;
          makes = h.makes;
          made = h.made;
          own_all = h.own_all;
          all = ap (λ (z : List ℕ). z ++ concat m.pieces) gave ∙ (append_assoc l.gave b (concat m.pieces) ∙ (ap (λ (z : List ℕ). l.gave ++ z) whole ∙ h.all));
          fed = gave ∙ (ap (λ (z : List ℕ). z ++ b) (h.fed ∙ (ap (λ (z : List ℕ). v.parts.x ++ z) none ∙ append-nil v.parts.x)));
        }

    -- the link gave nothing
    at_link : (v : Living) (l m : MemLinkState) → m.gave ≡ l.gave → concat m.pieces ≡ concat l.pieces → At v l → At v m
    at_link v l m g p h = record {
      who = h.who;
      named = h.named;
      makes = h.makes;
      made = h.made;
      own_all = h.own_all;
      all = ap (λ (z : List ℕ). z ++ concat m.pieces) g ∙ (ap (λ (z : List ℕ). l.gave ++ z) p ∙ h.all);
      fed = g ∙ h.fed;
    }

    came_done : (came : Came) (v : Living) (l m : MemLinkState) (moved : Bool) (a : Turn) (w : Living) → v.input ≡ [] → MemHears l 4096 came m
        → CameAs SoleAsks desk came v moved a w → At v l → Done a w m
    came_done (CameBytes b) v l m moved a w none s (inl t) h = fed_done (life v.parts b v.port v.seat) true a w m t (at_bytes v l m b none s h)
    came_done (CameBytes b) v l m moved a w none s (inr t) h =
        done_ended _ (life v.parts b v.port v.seat) a w m (record { ended = t.ended; gone = t.gone; port = t.port; seat = t.seat }) (at_bytes v l m b none s h)
    came_done CameNotYet v l m moved a w none s t h =
        taken_done v moved a w m t (at_link v l m (ap (λ (k : MemLinkState). k.gave) s.3) (ap (λ (k : MemLinkState). concat k.pieces) s.3 ∙ sym s.1) h)
    came_done CameEnd v l m moved a w none s t h =
        done_ended _ v a w m t (at_link v l m (ap (λ (k : MemLinkState). k.gave) s.3) (ap (λ (k : MemLinkState). concat k.pieces) s.3 ∙ sym s.1) h)
    came_done CameFailed v l m moved a w none s t h =
        done_ended _ v a w m t (at_link v l m (ap (λ (k : MemLinkState). k.gave) s.1) (ap (λ (k : MemLinkState). concat k.pieces) s.1) h)

    nil_in : (l : List ℕ) → is_nil l ≡ true → l ≡ []
    nil_in [] e = refl
    nil_in (b ∷ l) e = absurd (cc)

    to_link : (a : Turn) (w : Living) (l m : MemLinkState) → m ≡ l → Done a w l → Done a w m
    to_link a w l m e h = subst (λ (k : MemLinkState). Done a w k) (sym e) h

    empty_done : (b : Bool) (v : Living) (l : MemLinkState) (moved : Bool) (a : Turn) (w : Living) (m : MemLinkState) → is_nil v.input ≡ b
        → EmptyBy SoleAsks desk MemHears b v l moved a w m → At v l → Done a w m
    empty_done true v l moved a w m e t h = came_done t.0 v l m moved a w (nil_in v.input e) t.1.0 t.1.1 h
    empty_done false v l moved a w m e t h = to_link a w l m t.1 (fed_done v moved a w l t.0 h)

    input_by_done : (b : Bool) (v : Living) (l : MemLinkState) (moved : Bool) (a : Turn) (w : Living) (m : MemLinkState)
        → InputBy SoleAsks desk MemHears b v l moved a w m → At v l → Done a w m
    input_by_done true v l moved a w m t h = empty_done (is_nil v.input) v l moved a w m refl t h
    input_by_done false v l moved a w m t h = to_link a w l m t.1 (taken_done v moved a w l t.0 h)

    input_done : (v : Living) (l : MemLinkState) (moved : Bool) (a : Turn) (w : Living) (m : MemLinkState) → Input SoleAsks desk MemHears v l moved a w m
        → At v l → Done a w m
    input_done v l moved a w m t h = input_by_done (is_hungry v.parts) v l moved a w m t h

    -- ---- step 4

    sent_as_done : (q : Said) (v : Living) (l k : MemLinkState) (moved : Bool) (a : Turn) (w : Living) (m : MemLinkState)
        → MemSays l (take 16384 (pending v.parts.outgoing)) q k
        → SentAs SoleAsks desk MemHears MemSays q v k moved a w m → At v l → Done a w m
    sent_as_done (said.Took b) v l k moved a w m s t h =
        let i = t.1.0 in
        input_done (life t.0 v.input v.port v.seat) k true a w m t.1.1
        (at_link (life t.0 v.input v.port v.seat) l k (ap (λ (z : MemLinkState). z.gave) s.3) (ap (λ (z : MemLinkState). concat z.pieces) s.3)
        (at_same v t.0 v.input l (ap (λ (f : Firm). f.who) i.firm) (ap (λ (p : Past). p.kept) i.past) (ap (λ (p : Past). p.calls) i.past)
        (ap (λ (p : Past). p.x ++ v.input) i.past) h))
    sent_as_done said.NotYet v l k moved a w m s t h =
        input_done v k moved a w m t (at_link v l k (ap (λ (z : MemLinkState). z.gave) s.2) (ap (λ (z : MemLinkState). concat z.pieces) s.2) h)
    sent_as_done said.Failed v l k moved a w m s t h =
        to_link a w k m t.1 (done_ended _ v a w k t.0 (at_link v l k (ap (λ (z : MemLinkState). z.gave) s.1)
        (ap (λ (z : MemLinkState). concat z.pieces) s.1) h))
    sent_as_done said.OutOfMemory v l k moved a w m s t h =
        to_link a w k m t.1 (done_ended _ v a w k t.0 (at_link v l k (ap (λ (z : MemLinkState). z.gave) s.2)
        (ap (λ (z : MemLinkState). concat z.pieces) s.2) h))

    send_done : (b : Bool) (v : Living) (l : MemLinkState) (moved : Bool) (a : Turn) (w : Living) (m : MemLinkState)
        → SendBy SoleAsks desk MemHears MemSays b v l moved a w m → At v l → Done a w m
    send_done true v l moved a w m t h = input_done v l moved a w m t h
    send_done false v l moved a w m t h = sent_as_done t.0 v l t.1.0 moved a w m t.1.1.0 t.1.1.1 h

    sent_done : (v : Living) (l : MemLinkState) (moved : Bool) (a : Turn) (w : Living) (m : MemLinkState)
        → Sent SoleAsks desk MemHears MemSays v l moved a w m → At v l → Done a w m
    sent_done v l moved a w m (inl t) h =
        send_done (is_nil (pending t.0.outgoing)) (life t.0 v.input v.port v.seat) l moved a w m t.1.1
        (at_same v t.0 v.input l (ap (λ (c : Core). c.who) t.1.0.rest) (ap (λ (c : Core). c.kept) t.1.0.rest) (ap (λ (c : Core). c.calls) t.1.0.rest)
        (ap (λ (c : Core). c.x ++ v.input) t.1.0.rest) h)
    sent_done v l moved a w m (inr t) h = to_link a w l m t.1 (done_ended _ v a w l t.0 h)

    -- ---- steps 3, 2 and 1

    quit_done : (quit : Bool) (v : Living) (l : MemLinkState) (moved : Bool) (a : Turn) (w : Living) (m : MemLinkState)
        → QuitBy SoleAsks desk MemHears MemSays quit v l moved a w m → At v l → Done a w m
    quit_done true v l moved a w m t h = to_link a w l m t.1 (done_ended _ v a w l t.0 h)
    quit_done false v l moved a w m t h = sent_done v l moved a w m t h

    after_kept_done : (quit : Bool) (v k : Living) (came : Made) (l : MemLinkState) (a : Turn) (w : Living) (m : MemLinkState)
        → AfterKept SoleAsks desk MemHears MemSays quit v came k l a w m → At k l → Done a w m
    after_kept_done quit v k (made.Answer r) l a w m (inl t) h = quit_done quit k l true a w m t.1 h
    after_kept_done quit v k (made.Answer r) l a w m (inr t) h = to_link a w l m t.1 (done_ended _ k a w l t.0 h)
    after_kept_done quit v k (made.Busy f) l a w m t h = to_link a w l m t.2 (subst (λ (z : Living). Done a z l) (sym t.1) (done_idle a k l t.0 h))
    after_kept_done quit v k (made.Worn f) l a w m t h = to_link a w l m t.1 (done_ended _ k a w l t.0 h)
    after_kept_done quit v k (made.OutOfMemory f) l a w m t h = to_link a w l m t.1 (done_ended _ k a w l t.0 h)

    kept_done : (o : Option Entry) (quit : Bool) (v : Living) (l : MemLinkState) (a : Turn) (w : Living) (m : MemLinkState) → v.parts.kept ≡ o
        → KeptBy SoleAsks desk MemHears MemSays o quit v l a w m → At v l → Done a w m
    kept_done None quit v l a w m k t h = quit_done quit v l false a w m t h
    kept_done (Some e) quit v l a w m k t h = after_kept_done quit v t.1.0 t.0 l a w m t.1.1.1 (at_called v t.1.0 e t.0 l k t.1.1.0 h)

    -- AFTER A TURN, of one that lives
    pub turn_done : (o : Option End) (quit : Bool) (v : Living) (l : MemLinkState) (a : Turn) (w : Living) (m : MemLinkState)
        → EndedBy SoleAsks desk MemHears MemSays o quit v l a w m
        → v.parts.who ≡ n → Named n v.parts.kept → Makes n from visits v.port v.seat.visits → calls_of v.seat.visits ≡ v.parts.calls
        → All (Bears n) v.seat.visits → l.gave ++ concat l.pieces ≡ given → l.gave ≡ v.parts.x ++ v.input → Done a w m
    turn_done None quit v l a w m t who named makes made owns all fed =
        kept_done v.parts.kept quit v l a w m refl t (record { who = who; named = named; makes = makes; made = made; own_all = owns; all = all; fed = fed })
    turn_done (Some e) quit v l a w m t who named makes made owns all fed =
        to_link a w l m t.2 (subst (λ (z : Living). Done a z l) (sym t.1)
        (done_stop e a v l t.0 (record { who = who; named = named; makes = makes; made = made; own_all = owns; all = all; fed = fed })))
