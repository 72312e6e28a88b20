-- A session over a link in memory, at the one stream
use Rattle.std.proofs.Common.{◌≡◌, ◌≢◌, ℕ, ◌+◌, ◌≤◌, Bool, true, false, nat_eq, if◌then◌else◌, List, [], ◌∷◌, ◌++◌, length, map, reverse, Option, Some, None}
use Rattle.std.proofs.Common.{refl, sym, ap, ◌∙◌, subst, arith, append-nil, length-append}
use Rattle.std.specs.Prelude.{drop}
use Rattle.std.proofs.lemmas.Bool.Decides.{nat_tests}
use Rattle.std.proofs.lemmas.List.{reverse-reverse}
use Rattle.chunk_reader.proofs.Once.{one_reading}
use Rattle.chunk_reader.proofs.Reading.{reads_nothing}
use Rattle.chunk_reader.specs.Sound.{IsRead}
use Rattle.chunk_wire.specs.declared.message.Message.{Message}
use Rattle.command_dialog.specs.State.{State}
use Rattle.session_owed.specs.Dialogue.{Dialogue}
use Rattle.relay_outside.specs.MemLinks.{MemLinkState}
use Rattle.session_owed.specs.Owed.{count_of, out}
use Rattle.session_owed.specs.Published.{published, pushed_by, pushed_in}
use Rattle.session_owed.specs.Standing.{Past, new_past}
use Rattle.session_owed.specs.Talk.{Own, hand_bytes, talk}
use Rattle.session_owed.specs.Talks.{Rise, Talks}
use Rattle.stream_model.specs.declared.calls.Call.TheVariants.{Count}
use Rattle.stream_model.specs.declared.calls.Entry.{Entry}
use Rattle.stream_model.specs.declared.calls.Shape.{Shape}
use Rattle.stream_model.specs.declared.replies.Reply.{Reply}
use Rattle.stream_registry.specs.Books.{FitsSole, SeenState, SoleState, journal_at, sole_rules}
use Rattle.stream_registry.specs.Names.{PortRules, places}
use Rattle.stream_registry.specs.Placed.{Placed}
use Rattle.stream_registry.specs.Told.{Keeps, Step}
use Rattle.turn_gate.specs.Histories.{Begins}
use Rattle.relay_session.proofs.SeatStanding.{all_later, begins_same, go_on_same, go_on_trans, one_goes_on, others_later, still_fits}
use Rattle.relay_session.specs.Keeping.{IsOver, past_of}
use Rattle.relay_session.specs.Places.{IsAt}
use Rattle.relay_session.specs.SeatState.{GoOn, HasFit, SeatState, StandsAt, known_if, place_of}
use Rattle.relay_session.specs.SeatVisits.{AllStand, Stand, Visit, calls_at, calls_of}
use Rattle.relay_session.specs.Session.{session}
use Rattle.relay_session.specs.SessionState.{IsUnsent, Lasting, Publishes, Rises, SessionState, StandsBy, lasting_of}
use Rattle.std.specs.List.{concat}
use Rattle.relay_session.specs.Turns.{Gone, gone_of}
use Rattle.relay_session.specs.declared.core_fields.Core.{Core}
use Rattle.relay_session.specs.declared.end.End.{End}
use Rattle.relay_session.specs.declared.end.End.TheVariants as end
use Rattle.loop_command.specs.Desk.{dialogue, granted, max_message, rules, shape}
use Rattle.loop_command.specs.Lines.{GoesAhead, HasCounted, Serves, StaysHome, Tied}
use Rattle.loop_command.specs.Looped.{StandIn}
use Rattle.loop_command.specs.Newly.{IsNewSession}
use Rattle.loop_command.specs.Sides.{SessionSide}
use Rattle.loop_command.proofs.Back.{all_here, none_in}

-- ---- while the other session makes its calls

abbrev Spot : Type 0
Spot = Option (ℕ × SeenState)

pub fit_on : (p q : SoleState) (spot : Spot) → ((place : ℕ) (pass : SeenState) → FitsSole p place pass → FitsSole q place pass) → HasFit (FitsSole p) spot
    → HasFit (FitsSole q) spot
fit_on p q spot f h = still_fits (FitsSole p) (FitsSole q) spot f h

abbrev At : SoleState → SeatState SeenState → Type 0
At p s = StandsAt (λ (q : SoleState). sole_rules q.rules) (λ (q : SoleState). journal_at q.books) (λ (q : SeenState). q.seen) p s

visits_on : (p q : SoleState) (s : SeatState SeenState) → GoesAhead p q → At p s → At q s
visits_on p q s g a = others_later (sole_rules p.rules) (sole_rules q.rules) (λ (x : SeenState). x.seen) (journal_at p.books) (journal_at q.books) s
    g.rules g.roots a

pub serves_on : (who : ℕ) (p q : SoleState) (s : SessionState SeenState) (m : MemLinkState) → GoesAhead p q → Serves who p s m → Serves who q s m
serves_on who p q s m g v = record {
  lives = v.lives;
  goes_on = v.goes_on;
  who_is = v.who_is;
  window_is = v.window_is;
  max = v.max;
  stands = v.stands;
  publishes = v.publishes;
  rises = v.rises;
  at = record {
    fit = fit_on p q s.seat.spot g.passes v.at.fit;
    there =
        subst (λ (n : ℕ). Rattle.relay_session.specs.Places.IsThere n s.parts.place) (sym (ap places g.rules)) v.at.there;
    calls = v.at.calls;
  };
  home = record { place = v.home.place; spot = v.home.spot; none = g.others v.home.none };
  visits = visits_on p q s.seat g v.visits;
  gave = v.gave;
  took = v.took;
}

-- and its link is another that gave and took the same
pub serves_at : (who : ℕ) (p : SoleState) (s : SessionState SeenState) (l m : MemLinkState) → m.gave ≡ l.gave → m.handed ++ m.sent ≡ l.handed ++ l.sent
    → Serves who p s l → Serves who p s m
serves_at who p s l m gave took v = record {
  lives = v.lives;
  goes_on = v.goes_on;
  who_is = v.who_is;
  window_is = v.window_is;
  max = v.max;
  stands = v.stands;
  publishes = v.publishes;
  rises = v.rises;
  at = v.at;
  home = v.home;
  visits = v.visits;
  gave = gave ∙ v.gave;
  took = took ∙ v.took;
}

-- ---- a new one

none_read : (max : ℕ) (x : List ℕ) → x ≡ [] → IsRead max (drop hand_bytes x) []
none_read max x e = subst (λ (l : List ℕ). IsRead max (drop hand_bytes l) []) (sym e) (record { s = _; r = []; reads = reads_nothing max })

pub new_publishes : (c : Core) → past_of c ≡ new_past → Publishes granted c
unfolding Rattle.session_owed.specs.Published.pushed_by Rattle.session_owed.specs.Published.pushed Rattle.session_owed.specs.Talk.walk
new_publishes c e =
    let calls : c.calls ≡ [] = ap (λ (p : Past). p.calls) e in
    let kept : c.kept ≡ None = ap (λ (p : Past). p.kept) e in
    record {
      ms = [];
      read = none_read c.reader.max c.x (ap (λ (p : Past). p.x) e);
      units = ap (λ (C : List Own). pushed_by C ++ pushed_in c.kept) calls ∙ ap (λ (k : Option Entry). pushed_in k) kept;
    }

pub new_rises : (c : Core) → past_of c ≡ new_past → Rises granted c
new_rises c e =
    let d = Rattle.relay_session.specs.Session.session c.who c.window granted in
    record {
      ms = [];
      read = none_read c.reader.max c.x (ap (λ (p : Past). p.x) e);
      rise = subst (λ (C : List Own). Rise d (talk d C []).states hand_bytes (hand_bytes + count_of d c.x) C) (sym (ap (λ (p : Past). p.calls) e))
          (omega arith);
    }

-- ---- one that has ended, since it was told to

-- its calls stand in the history of the place
pub one_place : (s : SeatState SeenState) (p : SoleState) (C : List Own) → ((q : ℕ) → q ≢ 0 → journal_at p.books q ≡ []) → sole_rules p.rules ≡ rules
    → C ≡ calls_of s.visits → At p s → HasFit (FitsSole p) s.spot → StandIn C (journal_at p.books 0)
one_place s p C one r e a fit =
    let journal = journal_at p.books in
    let all : AllStand (sole_rules p.rules).limits journal s.visits =
    all_later (sole_rules p.rules).limits (known_if (λ (x : SeenState). x.seen) journal s.spot) journal s.visits (to_journal s.spot fit) a.calls in
    let here : calls_at 0 s.visits ≡ map (λ (v : Visit). v.1) s.visits = all_here s.visits (λ q n. none_at q n (all.at_each q)) in
    let calls : reverse C ≡ calls_at 0 s.visits = ap reverse e ∙ reverse-reverse (map (λ (v : Visit). v.1) s.visits) ∙ sym here in
    subst (λ (l : List Step). Stand shape l (journal 0)) (sym calls)
    (subst (λ (x : PortRules). Stand (x.limits 0) (calls_at 0 s.visits) (journal 0)) r (all.at_each 0))
  where
    to_journal : (spot : Spot) → HasFit (FitsSole p) spot → GoOn (known_if (λ (x : SeenState). x.seen) (journal_at p.books) spot) (journal_at p.books)
    to_journal None f = record { at_each = λ q. begins_same (journal_at p.books q) (journal_at p.books q) refl }
    to_journal (Some x) f = record { at_each = λ q. by_test q (nat_eq x.0 q) refl }
      where
        by_test : (q : ℕ) (b : Bool) → nat_eq x.0 q ≡ b → Begins (if b then x.1.seen else journal_at p.books q) (journal_at p.books q)
        by_test q true t = subst (λ (n : ℕ). Begins x.1.seen (journal_at p.books n)) (grind (arith, nat_tests, t)) f.seen
        by_test q false t = begins_same (journal_at p.books q) (journal_at p.books q) refl

    none_at : (q : ℕ) → q ≢ 0 → Stand ((sole_rules p.rules).limits q) (calls_at q s.visits) (journal_at p.books q) → calls_at q s.visits ≡ []
    none_at q n h = none_in ((sole_rules p.rules).limits q) (calls_at q s.visits)
        (subst (λ (l : List Step). Rattle.relay_session.specs.SeatVisits.StandIn ((sole_rules p.rules).limits q) (calls_at q s.visits) (reverse l)) (one q n) h)

-- the messages that the same bytes read as
same_read : (max max' : ℕ) (x x' : List ℕ) (ms ns : List (ℕ × Message)) → max' ≡ max → x' ≡ x → IsRead max' (drop hand_bytes x') ms
    → IsRead max (drop hand_bytes x) ns → ms ≡ ns
same_read max max' x x' ms ns m e r q =
    let r' : IsRead max (drop hand_bytes x) ms = subst (λ (l : List ℕ). IsRead max (drop hand_bytes l) ms) e
    (subst (λ (n : ℕ). IsRead n (drop hand_bytes x') ms) m r) in
    (one_reading max (drop hand_bytes x) ms ns r'.s q.s r'.r q.r r'.reads q.reads).messages_same

none_long : (l : List ℕ) → 0 ≡ length l → l ≡ []
none_long [] e = refl
none_long (x ∷ l) e = absurd (omega (arith, e))

-- A SESSION THAT HAS ENDED since it was told to, where nothing was pending and no call waited
pub ended_side : (who : ℕ) (p : SoleState) (v w : SessionState SeenState) (m : MemLinkState) → sole_rules p.rules ≡ rules → Serves who p v m
    → v.parts.kept ≡ None → IsUnsent None granted v.parts 0
    → IsOver granted end.Quit w.parts → gone_of w.parts ≡ gone_of v.parts → SessionSide who m v.parts.x v.parts.calls (journal_at p.books 0)
ended_side who p v w m r s kept unsent over gone =
    let c = v.parts in
    let u = w.parts in
    let is : session c.who c.window granted ≡ dialogue who = ap (λ (a : ℕ). session a c.window granted) s.who_is
    ∙ ap (λ (b : ℕ). session who b granted) s.window_is in
    let is' : session u.who u.window granted ≡ dialogue who = ap (λ (g : Gone). session g.who g.window granted) gone ∙ is in
    let x : u.x ≡ c.x = ap (λ (g : Gone). g.x) gone in
    let calls : u.calls ≡ c.calls = ap (λ (g : Gone). g.calls) gone in
    let max : u.reader.max ≡ max_message = ap (λ (g : Gone). g.max) gone ∙ s.max in
    let read : IsRead max_message (drop hand_bytes c.x) over.ms =
    subst (λ (l : List ℕ). IsRead max_message (drop hand_bytes l) over.ms) x (subst (λ (n : ℕ). IsRead n (drop hand_bytes u.x) over.ms) max over.read) in
    let owes = unsent.1.0 in
    let sent_is : c.sent ≡ out (session c.who c.window granted) c.x owes.ms c.calls =
    sym (append-nil c.sent) ∙ ap (λ (l : List ℕ). c.sent ++ l) (sym (none_long unsent.0 unsent.1.1)) ∙ owes.owes in
    let owed : c.sent ≡ out (dialogue who) c.x over.ms c.calls =
    sent_is ∙ ap (λ (l : List (ℕ × Message)). out (session c.who c.window granted) c.x l c.calls)
    (same_read max_message c.reader.max c.x c.x owes.ms over.ms s.max refl owes.read read)
    ∙ ap (λ (d : Dialogue State). out d c.x over.ms c.calls) is in
    let units : pushed_by c.calls ≡ published (session c.who c.window granted) over.ms c.calls =
    sym (append-nil (pushed_by c.calls)) ∙ ap (λ (k : Option Entry). pushed_by c.calls ++ pushed_in k) (sym kept) ∙ s.publishes.units
    ∙ ap (λ (l : List (ℕ × Message)). published (session c.who c.window granted) l c.calls)
    (same_read max_message c.reader.max c.x c.x s.publishes.ms over.ms s.max refl s.publishes.read read) in
    let talks : Talks (dialogue who) (count_of (dialogue who) u.x) over.ms u.calls u.kept =
    subst (λ (d : Dialogue State). Talks d (count_of d u.x) over.ms u.calls u.kept) is' over.talks in
    let none : u.kept ≡ None = ap (λ (g : Gone). g.kept) gone ∙ kept in
    let D = dialogue who in
    let rise : Rise (session c.who c.window granted) (talk (session c.who c.window granted) c.calls over.ms).states hand_bytes
    (hand_bytes + count_of (session c.who c.window granted) c.x) c.calls =
    subst (λ (l : List (ℕ × Message)). Rise (session c.who c.window granted) (talk (session c.who c.window granted) c.calls l).states hand_bytes
    (hand_bytes + count_of (session c.who c.window granted) c.x) c.calls)
    (same_read max_message c.reader.max c.x c.x s.rises.ms over.ms s.max refl s.rises.read read) s.rises.rise in
    let before : StandsBy None granted c = subst (λ (o : Option End). StandsBy o granted c) s.lives s.stands in
    record {
      rest = v.input;
      ms = over.ms;
      gave = s.gave;
      early = λ l. (before.early l).calls;
      read = read;
      owes = s.took ∙ owed;
      talks = subst (λ (l : List ℕ). Talks D (count_of D l) over.ms c.calls None) x
          (subst (λ (C : List Own). Talks D (count_of D u.x) over.ms C None) calls
          (subst (λ (k : Option Entry). Talks D (count_of D u.x) over.ms u.calls k) none talks));
      units = units ∙ ap (λ (d : Dialogue State). published d over.ms c.calls) is;
      rise = subst (λ (d : Dialogue State). Rise d (talk d c.calls over.ms).states hand_bytes (hand_bytes + count_of d c.x) c.calls) is rise;
      stand = one_place v.seat p c.calls s.home.none r s.at.calls s.visits s.at.fit;
    }

-- ---- a turn of one that lives

pub serves_turned : (who : ℕ) (p q : SoleState) (v w : SessionState SeenState) (l m : MemLinkState) (h z : List ℕ) → w.ended ≡ None → w.quit ≡ v.quit
    → StandsBy w.ended granted w.parts → Publishes granted w.parts → Rises granted w.parts
    → IsAt (FitsSole q) (places (sole_rules q.rules)) w.parts w.seat → lasting_of w.parts ≡ lasting_of v.parts → (At p v.seat → At q w.seat)
    → StaysHome w.parts.place q w.seat → Tied h z m w.parts.x w.input w.parts.sent → Serves who p v l → Serves who q w m
serves_turned who p q v w l m h z lives quit stands publishes rises at la on home tied s = record {
  lives = lives;
  goes_on = quit ∙ s.goes_on;
  who_is = ap (λ (x : Lasting). x.who) la ∙ s.who_is;
  window_is = ap (λ (x : Lasting). x.window) la ∙ s.window_is;
  max = ap (λ (x : Lasting). x.max) la ∙ s.max;
  stands = stands;
  publishes = publishes;
  rises = rises;
  at = at;
  home = home;
  visits = on s.visits;
  gave = tied.gave;
  took = tied.took;
}

-- what stood before it
pub tied_before : (who : ℕ) (p : SoleState) (s : SessionState SeenState) (l : MemLinkState) → Serves who p s l
    → Tied l.handed (l.gave ++ concat l.pieces) l s.parts.x s.input s.parts.sent
tied_before who p s l v = record { gave = v.gave; took = v.took; handed = refl; stream = refl }

-- ---- a new one

pub new_serves : (who : ℕ) (p : SoleState) (s : SessionState SeenState) (m : MemLinkState) → IsNewSession who s
    → ((q : ℕ) → q ≢ 0 → journal_at p.books q ≡ []) → m.gave ≡ [] → m.handed ≡ [] → m.sent ≡ [] → Serves who p s m
new_serves who p s m n empty gave handed sent = record {
  lives = n.lives;
  goes_on = n.goes_on;
  who_is = n.who_is;
  window_is = n.window_is;
  max = n.max;
  stands = n.stands;
  publishes = new_publishes s.parts n.past;
  rises = new_rises s.parts n.past;
  at = record {
    fit = subst (HasFit (FitsSole p)) (sym n.spot) tt;
    there = subst (λ (o : Option ℕ). Rattle.relay_session.specs.Places.IsThere (places (sole_rules p.rules)) o) (sym n.place) tt;
    calls = ap (λ (x : Past). x.calls) n.past ∙ sym (ap calls_of n.visits);
  };
  home = record {
    place = λ q e. absurd (let f : None ≡ Some q = sym n.place ∙ e in cc);
    spot = λ q e. absurd (let f : None ≡ Some q = sym (ap place_of n.spot) ∙ e in cc);
    none = empty;
  };
  visits = record {
    calls = subst (λ (l : List Visit). AllStand (sole_rules p.rules).limits (known_if (λ (x : SeenState). x.seen) (journal_at p.books) s.seat.spot) l)
        (sym n.visits) (record { at_each = λ q. tt });
    granted = subst (λ (o : Spot). Rattle.relay_session.specs.SeatState.IsActive o s.seat.active s.seat.visits) (sym n.spot) n.active;
  };
  gave = gave ∙ sym (ap (λ (l : List ℕ). l ++ s.input) (ap (λ (x : Past). x.x) n.past) ∙ n.input);
  took = ap (λ (l : List ℕ). l ++ m.sent) handed ∙ sent ∙ sym (ap (λ (x : Past). x.sent) n.past);
}

-- ---- the counts are asked for

whole_same : (a b c : List Step) → a ++ b ≡ c → length c ≤ length a → a ≡ c
whole_same a [] c e l = sym (append-nil a) ∙ e
whole_same a (x ∷ b) c e l = absurd (omega (arith, length-append a (x ∷ b), ap length e, l))

-- the pass has then seen the whole history
pub count_keeps : (limits limits' : Shape) (journal journal' seen seen' : List Step) (mine mine' : List ℕ) (step : Step)
    → Placed limits journal seen mine step seen' mine' → journal' ≡ journal ++ step ∷ [] → Begins seen' journal' → Keeps limits' seen' → limits' ≡ shape
    → Keeps shape journal'
count_keeps limits limits' journal journal' seen seen' mine mine' step p adds begins keeps is =
    let long : length journal' ≤ length seen' =
    omega (
      arith,
      ap length adds,
      length-append journal (step ∷ []),
      ap length p.seen_is,
      length-append p.before (step ∷ []),
      ap length p.root_first.1,
      length-append journal p.root_first.0,
    ) in
    let same : seen' ≡ journal' = whole_same seen' begins.0 journal' begins.1 long in
    subst (λ (s : Shape). Keeps s journal') is (subst (Keeps limits') same keeps)

pub has_counted : (p m q : SoleState) (entry : Entry) (reply : Reply) → journal_at q.books 0 ≡ journal_at m.books 0 ++ (entry, reply) ∷ []
    → journal_at m.books 0 ≡ journal_at p.books 0 → entry.call ≡ Count → HasCounted p q
has_counted p m q entry reply adds same asks =
    record { entry = entry; reply = reply; asks = asks; adds = adds ∙ ap (λ (l : List Step). l ++ (entry, reply) ∷ []) same }

pub count_ahead : (p a q : SoleState) → sole_rules a.rules ≡ sole_rules p.rules → ((n : ℕ) → journal_at a.books n ≡ journal_at p.books n)
    → ((n : ℕ) (x : SeenState) → FitsSole p n x → FitsSole a n x) → sole_rules q.rules ≡ sole_rules a.rules
    → Begins (journal_at a.books 0) (journal_at q.books 0) → ((n : ℕ) → n ≢ 0 → journal_at q.books n ≡ journal_at a.books n)
    → ((n : ℕ) (x : SeenState) → FitsSole a n x → FitsSole q n x) → GoesAhead p q
count_ahead p a q rules_a same fits_a rules_q here others fits_q = record {
  rules = rules_q ∙ rules_a;
  roots = go_on_trans (journal_at p.books) (journal_at a.books) (journal_at q.books) (go_on_same (journal_at p.books) (journal_at a.books) same)
      (one_goes_on (journal_at a.books) (journal_at q.books) 0 here others);
  passes = λ n x f. fits_q n x (fits_a n x f);
  others = λ h n e. others n e ∙ same n ∙ h n e;
}
