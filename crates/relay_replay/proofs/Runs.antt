-- A run on one thread, after each line
use Rattle.std.proofs.Common.{inl, inr, ◌≡◌, ◌≢◌, ◌<◌, ◌≤◌, ◌&&◌, ℕ, zero, suc, ◌+◌, ◌^◌, nat_eq, nat_lt, if◌then◌else◌, Bool, true, false, List, [], ◌∷◌, ◌++◌}
use Rattle.std.proofs.Common.{length, reverse, slice_get, slice_set, All, Option, Some, None, Result, Ok, Err, IfOk, refl, sym, ap, ◌∙◌, subst, arith}
use Rattle.std.proofs.Common.{append_assoc, append-nil, length-append}
use Rattle.std.specs.List.{concat}
use Rattle.std.specs.Option.{option_map}
use Rattle.std.proofs.lemmas.Bool.{cases_eq}
use Rattle.std.proofs.lemmas.Bool.Decides.{nat_tests}
use Rattle.std.proofs.lemmas.List.{reverse-append}
use Rattle.std.proofs.lemmas.List.Elements.{All-head, All-nil, All-tail, All-weaker}
use Rattle.std.proofs.lemmas.List.Folds.{concat-append}
use Rattle.std.proofs.lemmas.Option.{slice_get_within}
use Rattle.command_dialog.specs.declared.types.Ask.{Ask}
use Rattle.command_dialog.specs.declared.types.Grant.{Grant}
use Rattle.relay_base.specs.declared.limits.Limits.{Limits as AllLimits}
use Rattle.relay_outside.specs.MemLinks.{MemLinkState}
use Rattle.session_owed.specs.Standing.{Past}
use Rattle.stream_law.proofs.Shapes.{legal_by}
use Rattle.stream_model.specs.declared.calls.Call.{Call}
use Rattle.stream_model.specs.declared.calls.Shape.{Shape}
use Rattle.stream_model.specs.declared.calls.StreamLimits.{StreamLimits}
use Rattle.stream_model.specs.declared.replies.Reply.{Reply}
use Rattle.stream_model.specs.History.{History}
use Rattle.stream_model.specs.Shape.{IsLawfulBy, IsShapeLawful}
use Rattle.stream_registry.specs.declared.port.PortFail.{PortFail}
use Rattle.stream_registry.specs.Books.{FitsSole, SoleState, SeenState, journal_at, sole_rules}
use Rattle.stream_registry.specs.Placed.{answered}
use Rattle.stream_registry.specs.Told.{Histories, Keeps, Step}
use Rattle.relay_session.specs.SeatOwn.{Acts as Calls, AreAnswered, own}
use Rattle.relay_session.specs.SeatVisits.{calls_at, calls_of}
use Rattle.relay_session.specs.SessionState.{SessionState}
use Rattle.relay_session.specs.declared.end.End.{End}
use Rattle.media_recorder.specs.Alone.{ReachesIf}
use Rattle.media_recorder.specs.Ports.{FitsIf}
use Rattle.media_recorder.specs.Seats.{SeatState as RecSeat, calls_after, entry_of}
use Rattle.relay_script.specs.declared.replay.ReplayLine.{ReplayLine}
use Rattle.relay_script.specs.declared.replay.ReplayLine.TheVariants.{Nothing, Limits, Stream, Guard, Recorder, Session, Piece, Eof, Room, FailRecv, FailSend}
use Rattle.relay_script.specs.declared.replay.ReplayLine.TheVariants.{FailPut, Turn, Rec, All as Rounds, Quit, OpenApp, GuardOpen, OpenHttp, OpenEdge}
use Rattle.relay_replay.specs.declared.recording.Plan.{Plan}
use Rattle.relay_replay.specs.Guests.{ConnState}
use Rattle.relay_replay.specs.declared.guest.Answered.{Answered}
use Rattle.relay_replay.specs.declared.guest.Guest.{Guest}
use Rattle.relay_replay.specs.declared.guest.Guest.TheVariants as guest
use Rattle.relay_replay.specs.Cast.{CastState, GuestTurn, OneAsk, RecState, RecTurnOf, RecorderTurn, Round, SessionTurn, TurnOf}
use Rattle.relay_replay.specs.Plays.{IsNewSession, Plays, Told, told_guest, told_of}
use Rattle.relay_replay.specs.Recorded.{IsRecorded}
use Rattle.relay_replay.specs.Scenes.{Acts, AreNew, CastBy, Does, IsNewRecorder, IsOpen, SceneState, SettledIn, desk_of, is_acting, stand_of}
use Rattle.relay_replay.specs.Served.{StandsIf}
use Rattle.relay_replay.specs.Stand.{after, allows, count, is_setting}
use Rattle.relay_replay.specs.Whole.{AreSessions, Follows, IsFedBy, IsMadeBy, IsOurs, IsRun, IsSession, Records, RunOf, Runs, RunsIf}
use Rattle.relay_replay.specs.Whole.{SessionsAnswered, given_more, recorder_name}
use Rattle.relay_replay.proofs.Comes.{Followed, begins_whole, followed_turn, whole_same}
use Rattle.relay_replay.proofs.Following.{Bears, Grown, Lawful, grown_all, grown_one, grown_others, grown_same, limits_same, own_other, own_same}
use Rattle.relay_replay.proofs.Recorders.{are_recorded}
use Rattle.relay_replay.proofs.Serving.{SameDesk, acting_of, all_at, each_keep, same_desk, settled_keep, stand_desk, times_keep}

-- ---- one in a list

get_put : {A : Type 0} → (xs : List A) (n : ℕ) (x old : A) → slice_get xs n ≡ Some old → slice_get (slice_set xs n x) n ≡ Some x
get_put [] n x old e = absurd (cc)
get_put (y ∷ ys) zero x old e = refl
get_put (y ∷ ys) (suc n) x old e = get_put ys n x old e

get_away : {A : Type 0} → (xs : List A) (n m : ℕ) (x : A) → m ≢ n → slice_get (slice_set xs n x) m ≡ slice_get xs m
get_away [] n m x d = refl
get_away (y ∷ ys) zero zero x d = absurd (d refl)
get_away (y ∷ ys) zero (suc m) x d = refl
get_away (y ∷ ys) (suc n) zero x d = refl
get_away (y ∷ ys) (suc n) (suc m) x d = get_away ys n m x (λ e. d (ap suc e))

length_put : {A : Type 0} → (xs : List A) (n : ℕ) (x : A) → length (slice_set xs n x) ≡ length xs
length_put [] n x = refl
length_put (y ∷ ys) zero x = refl
length_put (y ∷ ys) (suc n) x = ap suc (length_put ys n x)

some_is : {A : Type 0} → (x y : A) → Some x ≡ Some y → x ≡ y
some_is x y e = let s : x ≡ y = cc in s

session_is : (x y : ConnState) → guest.Session x ≡ guest.Session y → x ≡ y
session_is x y e = let s : x ≡ y = cc in s

get_last : {A : Type 0} → (xs : List A) (x : A) → slice_get (xs ++ x ∷ []) (length xs) ≡ Some x
get_last [] x = refl
get_last (y ∷ ys) x = get_last ys x

get_first : {A : Type 0} → (xs : List A) (x : A) (m : ℕ) → m ≢ length xs → slice_get (xs ++ x ∷ []) m ≡ slice_get xs m
get_first [] x zero d = absurd (d refl)
get_first [] x (suc m) d = refl
get_first (y ∷ ys) x zero d = refl
get_first (y ∷ ys) x (suc m) d = get_first ys x m (λ e. d (ap suc e))

-- ---- sessions alone

-- where one was put for another, and where one more was opened
alone_put : (gs : List Guest) (n : ℕ) (old new : Guest) → slice_get gs n ≡ Some old → (IsSession new → IsSession old) → AreSessions (slice_set gs n new)
    → AreSessions gs
alone_put gs n old new there back all = λ m g e. elim (cases_eq m n) [
  | inl i ↦
      let is : old ≡ g = some_is old g (sym there ∙ subst (λ (p : ℕ). slice_get gs p ≡ Some g) i e) in
      subst IsSession is (back (all n new (get_put gs n new old there)))
  | inr x ↦ all m g (get_away gs n m new x ∙ e)
]

alone_first : (gs : List Guest) (g : Guest) → AreSessions (gs ++ g ∷ []) → AreSessions gs
alone_first gs g all = λ m x e.
    let within : m < length gs = slice_get_within gs m x e in
    all m x (get_first gs g m (λ i. absurd (omega (arith, i, within))) ∙ e)

-- a turn keeps the kind, and so does what a line says
turn_kind : (a : Answered) (desk : Ask → Grant) (port : SoleState) (g : Guest) (port' : SoleState) (h : Guest) → GuestTurn a desk port g port' h
    → IsSession h → IsSession g
turn_kind a desk port (guest.Session c) port' h t k = tt
turn_kind a desk port (guest.Player c) port' h t k = absurd (subst IsSession t.1 k)
turn_kind a desk port (guest.Edge c) port' h t k = absurd (subst IsSession t.1 k)

told_kind : (line : ReplayLine) (g : Guest) → IsSession (told_guest line g) → IsSession g
told_kind line (guest.Session c) k = tt
told_kind line (guest.Player c) k = k
told_kind line (guest.Edge c) k = k

-- ---- the names are apart

names_apart : (n m : ℕ) → n < 64 → recorder_name m ≢ n
names_apart n m le e = absurd (omega (arith, le, e, big))
  where
    big : 64 ≤ 2 ^ 60
    big = grind arith

recorders_apart : (m k : ℕ) → m ≢ k → recorder_name m ≢ recorder_name k
recorders_apart m k d e = d (omega (arith, e))

-- ---- what others did

follows_other : (desk : Ask → Grant) (h h' : Histories) (given : List ℕ) (n : ℕ) (s : ConnState)
    → ((q : ℕ) → own n (reverse (h' q)) ≡ own n (reverse (h q))) → Follows desk h given n s → Follows desk h' given n s
follows_other desk h h' given n s e f = record {
  who = f.who;
  named = f.named;
  lines = f.lines;
  fed = f.fed;
  stands = f.stands;
  waited = f.waited;
  whole = f.whole;
  took = f.took;
  acts = f.acts;
  made = f.made;
  own_all = f.own_all;
  calls = λ q. e q ∙ f.calls q;
}

records_other : (h h' : Histories) (m : ℕ) (r : RecState) → ((q : ℕ) → own (recorder_name m) (reverse (h' q)) ≡ own (recorder_name m) (reverse (h q)))
    → Records h m r → Records h' m r
records_other h h' m r e f = record { who = f.who; calls = λ q. e q ∙ f.calls q; recorded = f.recorded }

ours_in : (c d : CastState) (who : ℕ) → length d.sessions ≡ length c.sessions → length d.recorders ≡ length c.recorders → IsOurs c who → IsOurs d who
ours_in c d who a b (inl h) = inl (omega (arith, a, h))
ours_in c d who a b (inr h) = inr (h.0, (omega (arith, b, h.1.0), h.1.1))

-- ---- a session's turn

run_session : (desk : Ask → Grant) (given : ℕ → List ℕ) (n : ℕ) (c d : CastState) (old new : ConnState)
    → slice_get c.sessions n ≡ Some (guest.Session old) → SessionTurn old.ended desk c.port old d.port new
    → d.sessions ≡ slice_set c.sessions n (guest.Session new) → d.recorders ≡ c.recorders → IsRun desk given c → IsRun desk given d
run_session desk given n c d old new at_old turn changed files_same r =
    let k : Followed desk (given n) n c.port old d.port new =
    followed_turn old.ended desk (given n) n c.port old d.port new refl turn (r.sessions n old at_old) in
    let there : n < length c.sessions = slice_get_within c.sessions n (guest.Session old) at_old in
    let many : length d.sessions ≡ length c.sessions = ap length changed ∙ length_put c.sessions n (guest.Session new) in
    let files : length d.recorders ≡ length c.recorders = ap length files_same in
    let small : n < 64 = omega (arith, there, r.few) in
    let others : (m q : ℕ) → m ≢ n → own m (reverse (journal_at d.port.books q)) ≡ own m (reverse (journal_at c.port.books q)) =
    λ m q e. grown_others m n (journal_at c.port.books q) (journal_at d.port.books q) e (k.makes.grown q) in
    record {
      lawful = k.makes.lawful r.lawful;
      ours = λ q. All-weaker (λ (s : Step). IsOurs c s.0.who) (λ (s : Step). IsOurs d s.0.who) (λ s. ours_in c d s.0.who many files) (journal_at d.port.books q)
          (grown_all (IsOurs c) n (journal_at c.port.books q) (journal_at d.port.books q) (inl there) (k.makes.grown q) (r.ours q));
      few = omega (arith, many, r.few);
      unopened = λ m le. r.unopened m (omega (arith, many, le));
      sessions = λ m s e. elim (cases_eq m n) [
        | inl i ↦
            let at : slice_get d.sessions n ≡ Some (guest.Session new) = ap (λ (l : List Guest). slice_get l n) changed
            ∙ get_put c.sessions n (guest.Session new) (guest.Session old) at_old in
            let same : guest.Session new ≡ guest.Session s = some_is (guest.Session new) (guest.Session s) (sym at
            ∙ subst (λ (p : ℕ). slice_get d.sessions p ≡ Some (guest.Session s)) i e) in
            subst (λ (p : ℕ). Follows desk (journal_at d.port.books) (given p) p s) (sym i)
            (subst (Follows desk (journal_at d.port.books) (given n) n) (session_is new s same) k.follows)
        | inr x ↦
            let at : slice_get c.sessions m ≡ Some (guest.Session s) = sym (get_away c.sessions n m (guest.Session new) x)
            ∙ (sym (ap (λ (l : List Guest). slice_get l m) changed) ∙ e) in
            follows_other desk (journal_at c.port.books) (journal_at d.port.books) (given m) m s (λ q. others m q x) (r.sessions m s at)
      ];
      recorders = λ m s e. records_other (journal_at c.port.books) (journal_at d.port.books) m s (λ q. others (recorder_name m) q (names_apart n m small))
          (r.recorders m s (sym (ap (λ (l : List RecState). slice_get l m) files_same) ∙ e));
    }

run_guest : (desk : Ask → Grant) (given : ℕ → List ℕ) (n : ℕ) (c d : CastState) (a : Answered) (old new : Guest) → slice_get c.sessions n ≡ Some old
    → GuestTurn a desk c.port old d.port new
    → d.sessions ≡ slice_set c.sessions n new → d.recorders ≡ c.recorders → IsSession old → IsRun desk given c → IsRun desk given d
run_guest desk given n c d a (guest.Session old) new there t e files k r =
    run_session desk given n c d old t.0 there t.2.0 (e ∙ ap (λ (g : Guest). slice_set c.sessions n g) t.1) files r
run_guest desk given n c d a (guest.Player old) new there t e files k r = absurd k
run_guest desk given n c d a (guest.Edge old) new there t e files k r = absurd k

run_of : (desk : Ask → Grant) (given : ℕ → List ℕ) (n : ℕ) (c d : CastState) → TurnOf desk n c d → RunOf desk given c → RunOf desk given d
run_of desk given n c d u r = λ all.
    let t = u.1 in
    let alone : AreSessions c.sessions = alone_put c.sessions n t.old t.new t.there (turn_kind u.0 desk c.port t.old d.port t.new t.turn)
    (subst AreSessions t.sessions all) in
    run_guest desk given n c d u.0 t.old t.new t.there t.turn t.sessions t.recorders (alone n t.old t.there) (r alone)

-- ---- a recorder's turn

-- what it leaves of it, and of the histories
record RecFollowed (m : ℕ) (port : SoleState) (port' : SoleState) (d : RecState) : Type 0 where
  lawful : Lawful port → Lawful port'
  grown : (q : ℕ) → Grown (recorder_name m) (journal_at port.books q) (journal_at port'.books q)
  records : Records (journal_at port'.books) m d

at_if : (place q : ℕ) (a b : List Step) → q ≢ place → (if nat_eq q place then a else b) ≡ b
at_if place q a b d = let t : nat_eq q place ≡ false = grind (arith, nat_tests) in rw t refl

at_same : (place : ℕ) (a b : List Step) → (if nat_eq place place then a else b) ≡ a
at_same place a b = let t : nat_eq place place ≡ true = grind (arith, nat_tests) in rw t refl

-- no call came to any history
rec_still : (m : ℕ) (port port' : SoleState) (c d : RecState) → sole_rules port'.rules ≡ sole_rules port.rules
    → ((q : ℕ) → journal_at port'.books q ≡ journal_at port.books q) → d.recorder.seat.who ≡ c.recorder.seat.who
    → d.recorder.seat.place ≡ c.recorder.seat.place → d.recorder.seat.calls ≡ c.recorder.seat.calls → IsRecorded d → Records (journal_at port.books) m c
    → RecFollowed m port port' d
rec_still m port port' c d same j who place calls told f = record {
  lawful = λ l q. subst (λ (s : Shape). Keeps s (journal_at port'.books q)) (sym (limits_same port port' q same))
      (subst (λ (h : List Step). Keeps ((sole_rules port.rules).limits q) h) (sym (j q)) (l q));
  grown = λ q. grown_same (recorder_name m) (journal_at port.books q) (journal_at port'.books q) (j q);
  records = record {
    who = who ∙ f.who;
    calls = λ q. ap (λ (h : List Step). own (recorder_name m) (reverse h)) (j q) ∙ (f.calls q
        ∙ (ap (λ (p : ℕ). if nat_eq q p then reverse c.recorder.seat.calls else []) (sym place)
        ∙ ap (λ (l : List Step). if nat_eq q d.recorder.seat.place then reverse l else []) (sym calls)));
    recorded = told;
  };
}

-- a call came to that of its place
rec_one : (m : ℕ) (port port' : SoleState) (c d : RecState) (s : Step) → sole_rules port'.rules ≡ sole_rules port.rules
    → journal_at port'.books c.recorder.seat.place ≡ journal_at port.books c.recorder.seat.place ++ s ∷ []
    → ((q : ℕ) → q ≢ c.recorder.seat.place → journal_at port'.books q ≡ journal_at port.books q)
    → Keeps ((sole_rules port.rules).limits c.recorder.seat.place) (journal_at port'.books c.recorder.seat.place)
    → s.0.who ≡ recorder_name m → d.recorder.seat.who ≡ c.recorder.seat.who → d.recorder.seat.place ≡ c.recorder.seat.place
    → d.recorder.seat.calls ≡ c.recorder.seat.calls ++ s ∷ [] → IsRecorded d
    → Records (journal_at port.books) m c → RecFollowed m port port' d
rec_one m port port' c d s same here away keeps named who at calls told f =
    let place = c.recorder.seat.place in
    record {
      lawful = λ l q. elim (cases_eq q place) [
        | inl i ↦ subst (λ (p : ℕ). Keeps ((sole_rules port'.rules).limits p) (journal_at port'.books p)) (sym i)
            (subst (λ (z : Shape). Keeps z (journal_at port'.books place)) (sym (limits_same port port' place same)) keeps)
        | inr x ↦ subst (λ (z : Shape). Keeps z (journal_at port'.books q)) (sym (limits_same port port' q same))
            (subst (λ (h : List Step). Keeps ((sole_rules port.rules).limits q) h) (sym (away q x)) (l q))
      ];
      grown = λ q. elim (cases_eq q place) [
        | inl i ↦ subst (λ (p : ℕ). Grown (recorder_name m) (journal_at port.books p) (journal_at port'.books p)) (sym i)
            (grown_one (recorder_name m) (journal_at port.books place) (journal_at port'.books place) s named here)
        | inr x ↦ grown_same (recorder_name m) (journal_at port.books q) (journal_at port'.books q) (away q x)
      ];
      records = record {
        who = who ∙ f.who;
        calls = λ q. elim (cases_eq q place) [
          | inl i ↦ subst (λ (p : ℕ). own (recorder_name m) (reverse (journal_at port'.books p))
              ≡ (if nat_eq p d.recorder.seat.place then reverse d.recorder.seat.calls else [])) (sym i) (here_calls place)
          | inr x ↦ ap (λ (h : List Step). own (recorder_name m) (reverse h)) (away q x) ∙ (f.calls q ∙ (at_if place q (reverse c.recorder.seat.calls) [] x
              ∙ sym (ap (λ (p : ℕ). if nat_eq q p then reverse d.recorder.seat.calls else []) at ∙ at_if place q (reverse d.recorder.seat.calls) [] x)))
        ];
        recorded = told;
      };
    }
  where
    here_calls : (place : ℕ) → own (recorder_name m) (reverse (journal_at port'.books c.recorder.seat.place))
        ≡ (if nat_eq c.recorder.seat.place d.recorder.seat.place then reverse d.recorder.seat.calls else [])
    here_calls place =
        let p = c.recorder.seat.place in
        let before : own (recorder_name m) (reverse (journal_at port.books p)) ≡ reverse c.recorder.seat.calls = f.calls p
        ∙ at_same p (reverse c.recorder.seat.calls) [] in
        ap (λ (h : List Step). own (recorder_name m) (reverse h)) here
        ∙ (own_same (recorder_name m) (journal_at port.books p) s named
        ∙ (ap (λ (l : List Step). s ∷ l) before
        ∙ (sym (reverse-append c.recorder.seat.calls (s ∷ []))
        ∙ (ap (λ (l : List Step). reverse l) (sym calls)
        ∙ (sym (at_same p (reverse d.recorder.seat.calls) []) ∙ ap (λ (z : ℕ). if nat_eq p z then reverse d.recorder.seat.calls else []) (sym at))))))

rec_answered : (m : ℕ) (port port' : SoleState) (c d : RecState) (call : Call) (answer : Result Reply PortFail) → RecorderTurn port c port' d
    → journal_at port'.books c.recorder.seat.place ≡ journal_at port.books c.recorder.seat.place ++ answered (entry_of c.recorder.seat.who call) answer
    → d.recorder.seat.calls ≡ calls_after c.recorder.seat.calls (entry_of c.recorder.seat.who call) answer
    → IfOk answer (λ _. ReachesIf (λ (p : SeenState). p.seen) ((sole_rules port.rules).limits c.recorder.seat.place)
    (journal_at port.books c.recorder.seat.place) d.recorder.seat.pass)
    → IsRecorded d → Records (journal_at port.books) m c → RecFollowed m port port' d
rec_answered m port port' c d call (Err e) t here calls laws told f =
    rec_still m port port' c d t.served.fixed (λ q. stays q) t.label.0 t.label.1 calls told f
  where
    stays : (q : ℕ) → journal_at port'.books q ≡ journal_at port.books q
    stays q = elim (cases_eq q c.recorder.seat.place) [
      | inl i ↦ subst (λ (p : ℕ). journal_at port'.books p ≡ journal_at port.books p) (sym i) (here ∙ append-nil (journal_at port.books c.recorder.seat.place))
      | inr x ↦ t.served.others q x
    ]
rec_answered m port port' c d call (Ok r) t here calls laws told f =
    rec_one m port port' c d (entry_of c.recorder.seat.who call, r) t.served.fixed here t.served.others (reached d.recorder.seat.pass laws fits) f.who
    t.label.0 t.label.1 calls told f
  where
    fits : FitsIf (FitsSole port' c.recorder.seat.place) d.recorder.seat.pass
    fits = subst (λ (p : ℕ). FitsIf (FitsSole port' p) d.recorder.seat.pass) t.label.1 t.fits

    reached : (pass : Option SeenState) → ReachesIf (λ (p : SeenState). p.seen) ((sole_rules port.rules).limits c.recorder.seat.place)
        (journal_at port.books c.recorder.seat.place) pass
        → FitsIf (FitsSole port' c.recorder.seat.place) pass → Keeps ((sole_rules port.rules).limits c.recorder.seat.place)
        (journal_at port'.books c.recorder.seat.place)
    reached None l g = absurd l
    reached (Some p) l g =
        let full : p.seen ≡ journal_at port'.books c.recorder.seat.place = begins_whole p.seen (journal_at port'.books c.recorder.seat.place) g.seen
        (omega (arith, l.long, ap length here, length-append (journal_at port.books c.recorder.seat.place) ((entry_of c.recorder.seat.who call, r) ∷ []))) in
        subst (λ (h : List Step). Keeps ((sole_rules port.rules).limits c.recorder.seat.place) h) full l.lawful

rec_followed : (m : ℕ) (port port' : SoleState) (c d : RecState) → RecorderTurn port c port' d → Records (journal_at port.books) m c
    → RecFollowed m port port' d
rec_followed m port port' c d t f = by t.alone
  where
    told : IsRecorded d
    told = record { took = t.took f.recorded.took; text = t.text }

    by : OneAsk port port' c.recorder.seat d.recorder.seat → RecFollowed m port port' d
    by (inl e) = rec_still m port port' c d t.served.fixed (λ q. ap (λ (p : SoleState). journal_at p.books q) e.0) t.label.0 t.label.1
        (ap (λ (s : RecSeat SeenState). s.calls) e.1) told f
    by (inr k) = rec_answered m port port' c d k.0 k.1.0 t k.1.1.history k.1.1.calls k.1.1.laws told f

run_recorder : (desk : Ask → Grant) (given : ℕ → List ℕ) (m : ℕ) (c d : CastState) → RecTurnOf m c d → IsRun desk given c → IsRun desk given d
run_recorder desk given m c d t r =
    let k : RecFollowed m c.port d.port t.new = rec_followed m c.port d.port t.old t.new t.turn (r.recorders m t.old t.there) in
    let there : m < length c.recorders = slice_get_within c.recorders m t.old t.there in
    let many : length d.sessions ≡ length c.sessions = ap length t.sessions in
    let files : length d.recorders ≡ length c.recorders = ap length t.recorders ∙ length_put c.recorders m t.new in
    let others : (n q : ℕ) → n ≢ recorder_name m → own n (reverse (journal_at d.port.books q)) ≡ own n (reverse (journal_at c.port.books q)) =
    λ n q e. grown_others n (recorder_name m) (journal_at c.port.books q) (journal_at d.port.books q) e (k.grown q) in
    record {
      lawful = k.lawful r.lawful;
      ours = λ q. All-weaker (λ (s : Step). IsOurs c s.0.who) (λ (s : Step). IsOurs d s.0.who) (λ s. ours_in c d s.0.who many files) (journal_at d.port.books q)
          (grown_all (IsOurs c) (recorder_name m) (journal_at c.port.books q) (journal_at d.port.books q) (inr (m, (there, refl))) (k.grown q) (r.ours q));
      few = omega (arith, many, r.few);
      unopened = λ n le. r.unopened n (omega (arith, many, le));
      sessions = λ n s e.
          let at : slice_get c.sessions n ≡ Some (guest.Session s) = sym (ap (λ (l : List Guest). slice_get l n) t.sessions) ∙ e in
          let small : n < 64 = omega (arith, slice_get_within c.sessions n (guest.Session s) at, r.few) in
          follows_other desk (journal_at c.port.books) (journal_at d.port.books) (given n) n s (λ q. others n q (λ x. names_apart n m small (sym x)))
          (r.sessions n s at);
      recorders = λ j s e. elim (cases_eq j m) [
        | inl i ↦
            let at : slice_get d.recorders m ≡ Some t.new = ap (λ (l : List RecState). slice_get l m) t.recorders ∙ get_put c.recorders m t.new t.old t.there in
            let is : t.new ≡ s = some_is t.new s (sym at ∙ subst (λ (p : ℕ). slice_get d.recorders p ≡ Some s) i e) in
            subst (λ (p : ℕ). Records (journal_at d.port.books) p s) (sym i) (subst (Records (journal_at d.port.books) m) is k.records)
        | inr x ↦ records_other (journal_at c.port.books) (journal_at d.port.books) j s (λ q. others (recorder_name j) q (recorders_apart j m x))
            (r.recorders j s (sym (get_away c.recorders m j t.new x) ∙ (sym (ap (λ (l : List RecState). slice_get l j) t.recorders) ∙ e)))
      ];
    }

run_rec : (desk : Ask → Grant) (given : ℕ → List ℕ) (m : ℕ) (c d : CastState) → RecTurnOf m c d → RunOf desk given c → RunOf desk given d
run_rec desk given m c d t r = λ all. run_recorder desk given m c d t (r (subst AreSessions t.sessions all))

run_round : (desk : Ask → Grant) (given : ℕ → List ℕ) (c d : CastState) → Round desk c d → RunOf desk given c → RunOf desk given d
run_round desk given c d t r =
    each_keep (RunOf desk given) RecTurnOf (run_rec desk given) (length t.between.recorders) t.between d t.recorders
    (each_keep (RunOf desk given) (TurnOf desk) (run_of desk given) (length c.sessions) c t.between t.sessions r)

-- ---- lines about one session

abbrev given_told : ReplayLine → List ℕ → List ℕ
given_told (Piece n bytes) g = g ++ bytes
given_told _ g = g

follows_told : (line : ReplayLine) (desk : Ask → Grant) (h : Histories) (g : List ℕ) (n : ℕ) (c : ConnState) → Follows desk h g n c
    → Follows desk h (given_told line g) n (told_of line c)
follows_told (Piece k bytes) desk h g n c f = record {
  who = f.who;
  named = f.named;
  lines = ap (λ (l : List ℕ). l ++ bytes) f.lines ∙ (append_assoc c.link.gave (concat c.link.pieces) bytes
      ∙ ap (λ (l : List ℕ). c.link.gave ++ l) (sym (concat-append c.link.pieces (bytes ∷ [])
      ∙ ap (λ (l : List ℕ). concat c.link.pieces ++ l) (append-nil bytes))));
  fed = f.fed;
  stands = f.stands;
  waited = f.waited;
  whole = f.whole;
  took = f.took;
  acts = f.acts;
  made = f.made;
  own_all = f.own_all;
  calls = f.calls;
}
follows_told (Eof k) desk h g n c f = record {
  who = f.who;
  named = f.named;
  lines = f.lines;
  fed = f.fed;
  stands = f.stands;
  waited = f.waited;
  whole = f.whole;
  took = f.took;
  acts = f.acts;
  made = f.made;
  own_all = f.own_all;
  calls = f.calls;
}
follows_told (Room k left) desk h g n c f = record {
  who = f.who;
  named = f.named;
  lines = f.lines;
  fed = f.fed;
  stands = f.stands;
  waited = f.waited;
  whole = f.whole;
  took = f.took;
  acts = f.acts;
  made = f.made;
  own_all = f.own_all;
  calls = f.calls;
}
follows_told (FailRecv k) desk h g n c f = record {
  who = f.who;
  named = f.named;
  lines = f.lines;
  fed = f.fed;
  stands = f.stands;
  waited = f.waited;
  whole = f.whole;
  took = f.took;
  acts = f.acts;
  made = f.made;
  own_all = f.own_all;
  calls = f.calls;
}
follows_told (FailSend k) desk h g n c f = record {
  who = f.who;
  named = f.named;
  lines = f.lines;
  fed = f.fed;
  stands = f.stands;
  waited = f.waited;
  whole = f.whole;
  took = f.took;
  acts = f.acts;
  made = f.made;
  own_all = f.own_all;
  calls = f.calls;
}
follows_told (Quit k) desk h g n c f = record {
  who = f.who;
  named = f.named;
  lines = f.lines;
  fed = f.fed;
  stands = quit_stands c.ended c.session f.stands;
  waited = f.waited;
  whole = f.whole;
  took = f.took;
  acts = f.acts;
  made = f.made;
  own_all = f.own_all;
  calls = f.calls;
}
  where
    quit_stands : (e : Option End) (x : SessionState SeenState) → StandsIf e desk x → StandsIf e desk (record x { quit = true })
    quit_stands None x k = k
    quit_stands (Some e) x k = tt
follows_told Nothing desk h g n c f = f
follows_told (Limits a b i q w) desk h g n c f = f
follows_told (Stream app name) desk h g n c f = f
follows_told (Guard k side mode key) desk h g n c f = f
follows_told (OpenApp app k) desk h g n c f = f
follows_told (GuardOpen k side mode key) desk h g n c f = f
follows_told (Recorder k form) desk h g n c f = f
follows_told Session desk h g n c f = f
follows_told OpenHttp desk h g n c f = f
follows_told (OpenEdge k app name) desk h g n c f = f
follows_told (FailPut k) desk h g n c f = f
follows_told (Turn k m) desk h g n c f = f
follows_told (Rec k m) desk h g n c f = f
follows_told (Rounds m) desk h g n c f = f

-- what a line gives
record Gives (line : ReplayLine) (n : ℕ) (given given' : ℕ → List ℕ) : Type 0 where
  here : given' n ≡ given_told line (given n)
  away : (q : ℕ) → q ≢ n → given' q ≡ given q

gives_piece : (n : ℕ) (bytes : List ℕ) (given : ℕ → List ℕ) → Gives (Piece n bytes) n given (given_more (Piece n bytes) given)
gives_piece n bytes given = record {
  here = let t : nat_eq n n ≡ true = grind (arith, nat_tests) in rw t refl;
  away = λ q d. let t : nat_eq n q ≡ false = grind (arith, nat_tests) in rw t refl;
}

told_session : (line : ReplayLine) (desk : Ask → Grant) (n : ℕ) (given given' : ℕ → List ℕ) (c d : CastState) (old : ConnState)
    → slice_get c.sessions n ≡ Some (guest.Session old)
    → d.sessions ≡ slice_set c.sessions n (guest.Session (told_of line old)) → d.recorders ≡ c.recorders → d.port ≡ c.port → Gives line n given given'
    → IsRun desk given c → IsRun desk given' d
told_session line desk n given given' c d old at_old changed files_same port_same g r =
    let new = told_of line old in
    let there : n < length c.sessions = slice_get_within c.sessions n (guest.Session old) at_old in
    let many : length d.sessions ≡ length c.sessions = ap length changed ∙ length_put c.sessions n (guest.Session new) in
    let files : length d.recorders ≡ length c.recorders = ap length files_same in
    let j : (q : ℕ) → journal_at d.port.books q ≡ journal_at c.port.books q = λ q. ap (λ (p : SoleState). journal_at p.books q) port_same in
    let others : (m q : ℕ) → own m (reverse (journal_at d.port.books q))
    ≡ own m (reverse (journal_at c.port.books q)) = λ m q. ap (λ (h : List Step). own m (reverse h)) (j q) in
    record {
      lawful = λ q. subst (λ (p : SoleState). Keeps ((sole_rules p.rules).limits q) (journal_at p.books q)) (sym port_same) (r.lawful q);
      ours = λ q. subst (λ (h : List Step). All (λ (s : Step). IsOurs d s.0.who) h) (sym (j q))
          (All-weaker (λ (s : Step). IsOurs c s.0.who) (λ (s : Step). IsOurs d s.0.who) (λ s. ours_in c d s.0.who many files) (journal_at c.port.books q)
          (r.ours q));
      few = omega (arith, many, r.few);
      unopened = λ m le. g.away m (λ e. absurd (omega (arith, e, there, many, le))) ∙ r.unopened m (omega (arith, many, le));
      sessions = λ m s e. elim (cases_eq m n) [
        | inl i ↦
            let at : slice_get d.sessions n ≡ Some (guest.Session new) = ap (λ (l : List Guest). slice_get l n) changed
            ∙ get_put c.sessions n (guest.Session new) (guest.Session old) at_old in
            let is : new ≡ s = session_is new s (some_is (guest.Session new) (guest.Session s) (sym at
            ∙ subst (λ (p : ℕ). slice_get d.sessions p ≡ Some (guest.Session s)) i e)) in
            let f : Follows desk (journal_at c.port.books) (given_told line (given n)) n new =
            follows_told line desk (journal_at c.port.books) (given n) n old (r.sessions n old at_old) in
            let h : Follows desk (journal_at d.port.books) (given_told line (given n)) n new =
            follows_other desk (journal_at c.port.books) (journal_at d.port.books) (given_told line (given n)) n new (others n) f in
            subst (λ (p : ℕ). Follows desk (journal_at d.port.books) (given' p) p s) (sym i)
            (subst (λ (y : List ℕ). Follows desk (journal_at d.port.books) y n s) (sym g.here)
            (subst (Follows desk (journal_at d.port.books) (given_told line (given n)) n) is h))
        | inr x ↦
            let at : slice_get c.sessions m ≡ Some (guest.Session s) = sym (get_away c.sessions n m (guest.Session new) x)
            ∙ (sym (ap (λ (l : List Guest). slice_get l m) changed) ∙ e) in
            subst (λ (y : List ℕ). Follows desk (journal_at d.port.books) y m s) (sym (g.away m x))
            (follows_other desk (journal_at c.port.books) (journal_at d.port.books) (given m) m s (others m) (r.sessions m s at))
      ];
      recorders = λ m s e. records_other (journal_at c.port.books) (journal_at d.port.books) m s (others (recorder_name m))
          (r.recorders m s (sym (ap (λ (l : List RecState). slice_get l m) files_same) ∙ e));
    }

told_run : (line : ReplayLine) (desk : Ask → Grant) (n : ℕ) (given given' : ℕ → List ℕ) (c d : CastState) (old : Guest) → slice_get c.sessions n ≡ Some old
    → d.sessions ≡ slice_set c.sessions n (told_guest line old) → d.recorders ≡ c.recorders → d.port ≡ c.port → Gives line n given given' → IsSession old
    → IsRun desk given c → IsRun desk given' d
told_run line desk n given given' c d (guest.Session old) there e files port g k r = told_session line desk n given given' c d old there e files port g r
told_run line desk n given given' c d (guest.Player old) there e files port g k r = absurd k
told_run line desk n given given' c d (guest.Edge old) there e files port g k r = absurd k

run_told : (line : ReplayLine) (desk : Ask → Grant) (n : ℕ) (given given' : ℕ → List ℕ) (c d : CastState) → Gives line n given given' → Told line n c d
    → RunOf desk given c → RunOf desk given' d
run_told line desk n given given' c d g t r = λ all.
    let alone : AreSessions c.sessions = alone_put c.sessions n t.old (told_guest line t.old) t.there (told_kind line t.old)
    (subst AreSessions t.sessions all) in
    told_run line desk n given given' c d t.old t.there t.sessions t.recorders t.port g (alone n t.old t.there) (r alone)

-- ---- a new session

absent_in : (k : ℕ) (steps h : List Step) → All (λ (s : Step). s.0.who ≢ k) steps → own k (reverse (h ++ steps)) ≡ own k (reverse h)
absent_in k [] h a = ap (λ (l : List Step). own k (reverse l)) (append-nil h)
absent_in k (s ∷ ss) h a =
    ap (λ (l : List Step). own k (reverse l)) (sym (append_assoc h (s ∷ []) ss))
    ∙ (absent_in k ss (h ++ s ∷ []) (All-tail (λ (x : Step). x.0.who ≢ k) s ss a) ∙ own_other k h s (All-head (λ (x : Step). x.0.who ≢ k) s ss a))

not_ours : (c : CastState) (n who : ℕ) → n ≡ length c.sessions → n < 64 → IsOurs c who → who ≢ n
not_ours c n who e small (inl h) is = absurd (omega (arith, e, h, is))
not_ours c n who e small (inr h) is = names_apart n h.0 small (sym h.1.1 ∙ is)

absent : (desk : Ask → Grant) (given : ℕ → List ℕ) (c : CastState) (n q : ℕ) → IsRun desk given c → n ≡ length c.sessions → n < 64
    → own n (reverse (journal_at c.port.books q)) ≡ []
absent desk given c n q r e small =
    absent_in n (journal_at c.port.books q) [] (All-weaker (λ (s : Step). IsOurs c s.0.who) (λ (s : Step). s.0.who ≢ n)
    (λ s o. not_ours c n s.0.who e small o) (journal_at c.port.books q) (r.ours q))

new_follows : (limits : AllLimits) (desk : Ask → Grant) (h : Histories) (n : ℕ) (c : ConnState) → IsNewSession limits n c
    → ((q : ℕ) → own n (reverse (h q)) ≡ []) → Follows desk h [] n c
new_follows limits desk h n c w none = record {
  who = w.who_is;
  named = λ e is. absurd (let k : None ≡ Some e = sym (ap (λ (p : Past). p.kept) w.past) ∙ is in cc);
  lines = sym (ap (λ (l : MemLinkState). l.gave ++ concat l.pieces) w.link_is);
  fed = subst (λ (e : Option End). IsFedBy e c.link.gave c.session.parts.x c.session.input) (sym w.ended)
      (ap (λ (l : MemLinkState). l.gave) w.link_is ∙ sym (ap (λ (l : List ℕ). l ++ c.session.input) (ap (λ (p : Past). p.x) w.past) ∙ w.input));
  stands = subst (λ (e : Option End). StandsIf e desk c.session) (sym w.ended) (w.stands desk);
  waited = c.session.parts.kept;
  whole = whole_same desk c.session.parts (w.whole desk);
  took = ap (λ (l : MemLinkState). l.sent) w.link_is ∙ sym (ap (λ (p : Past). p.sent) w.past);
  acts = w.acts;
  made = subst (λ (e : Option End). IsMadeBy e c.session.parts.calls (calls_of c.session.seat.visits)) (sym w.ended)
      (ap calls_of w.nowhere.2 ∙ sym (ap (λ (p : Past). p.calls) w.past));
  own_all = subst (All (Bears n)) (sym w.nowhere.2) (All-nil (Bears n));
  calls = λ q. none q ∙ sym (ap (calls_at q) w.nowhere.2);
}

opens_session : (limits : AllLimits) (desk : Ask → Grant) (given : ℕ → List ℕ) (c d : CastState) → length c.sessions < 64 → Plays limits desk Session c d
    → IsRun desk given c → IsRun desk given d
opens_session limits desk given c d small t r =
    let n = length c.sessions in
    let many : length d.sessions ≡ length c.sessions + 1 = ap length t.sessions ∙ length-append c.sessions (guest.Session t.new ∷ []) in
    let j : (q : ℕ) → journal_at d.port.books q ≡ journal_at c.port.books q = λ q. ap (λ (p : SoleState). journal_at p.books q) t.port in
    let others : (m q : ℕ) → own m (reverse (journal_at d.port.books q))
    ≡ own m (reverse (journal_at c.port.books q)) = λ m q. ap (λ (h : List Step). own m (reverse h)) (j q) in
    let new : Follows desk (journal_at d.port.books) [] n t.new =
    new_follows limits desk (journal_at d.port.books) n t.new t.fresh (λ q. others n q ∙ absent desk given c n q r refl small) in
    record {
      lawful = λ q. subst (λ (p : SoleState). Keeps ((sole_rules p.rules).limits q) (journal_at p.books q)) (sym t.port) (r.lawful q);
      ours = λ q. subst (λ (h : List Step). All (λ (s : Step). IsOurs d s.0.who) h) (sym (j q))
          (All-weaker (λ (s : Step). IsOurs c s.0.who) (λ (s : Step). IsOurs d s.0.who) (λ s. more s.0.who many) (journal_at c.port.books q) (r.ours q));
      few = omega (arith, many, small);
      unopened = λ m le. r.unopened m (omega (arith, many, le));
      sessions = λ m s e. elim (cases_eq m n) [
        | inl i ↦
            let at : slice_get d.sessions n ≡ Some (guest.Session t.new) = ap (λ (l : List Guest). slice_get l n) t.sessions
            ∙ get_last c.sessions (guest.Session t.new) in
            let is : t.new ≡ s = session_is t.new s (some_is (guest.Session t.new) (guest.Session s) (sym at
            ∙ subst (λ (p : ℕ). slice_get d.sessions p ≡ Some (guest.Session s)) i e)) in
            subst (λ (p : ℕ). Follows desk (journal_at d.port.books) (given p) p s) (sym i)
            (subst (λ (y : List ℕ). Follows desk (journal_at d.port.books) y n s) (sym (r.unopened n (omega arith)))
            (subst (Follows desk (journal_at d.port.books) [] n) is new))
        | inr x ↦
            let at : slice_get c.sessions m ≡ Some (guest.Session s) = sym (get_first c.sessions (guest.Session t.new) m x)
            ∙ (sym (ap (λ (l : List Guest). slice_get l m) t.sessions) ∙ e) in
            follows_other desk (journal_at c.port.books) (journal_at d.port.books) (given m) m s (others m) (r.sessions m s at)
      ];
      recorders = λ m s e. records_other (journal_at c.port.books) (journal_at d.port.books) m s (others (recorder_name m))
          (r.recorders m s (sym (ap (λ (l : List RecState). slice_get l m) t.recorders) ∙ e));
    }
  where
    more : (who : ℕ) → length d.sessions ≡ length c.sessions + 1 → IsOurs c who → IsOurs d who
    more who many (inl h) = inl (omega (arith, many, h))
    more who many (inr h) = inr (h.0, (omega (arith, ap length t.recorders, h.1.0), h.1.1))

run_opens : (limits : AllLimits) (desk : Ask → Grant) (given : ℕ → List ℕ) (c d : CastState) → length c.sessions < 64 → Plays limits desk Session c d
    → RunOf desk given c → RunOf desk given d
run_opens limits desk given c d small t r = λ all. opens_session limits desk given c d small t
    (r (alone_first c.sessions (guest.Session t.new) (subst AreSessions t.sessions all)))

-- what isn't a session was opened
run_away : (desk : Ask → Grant) (given : ℕ → List ℕ) (c d : CastState) (g : Guest) → (IsSession g → ⊥) → d.sessions ≡ c.sessions ++ g ∷ [] → RunOf desk given d
run_away desk given c d g away e = λ all. absurd (away (subst AreSessions e all (length c.sessions) g (get_last c.sessions g)))

-- ---- a put that is to fail

failing_run : (desk : Ask → Grant) (given : ℕ → List ℕ) (limits : AllLimits) (n : ℕ) (c d : CastState) → Plays limits desk (FailPut n) c d
    → IsRun desk given c → IsRun desk given d
failing_run desk given limits n c d t r =
    let new : RecState = record t.old { file = record t.old.file { put_fails = true } } in
    let was = r.recorders n t.old t.there in
    let many : length d.sessions ≡ length c.sessions = ap length t.sessions in
    let files : length d.recorders ≡ length c.recorders = ap length t.recorders ∙ length_put c.recorders n new in
    let j : (q : ℕ) → journal_at d.port.books q ≡ journal_at c.port.books q = λ q. ap (λ (p : SoleState). journal_at p.books q) t.port in
    let others : (m q : ℕ) → own m (reverse (journal_at d.port.books q))
    ≡ own m (reverse (journal_at c.port.books q)) = λ m q. ap (λ (h : List Step). own m (reverse h)) (j q) in
    record {
      lawful = λ q. subst (λ (p : SoleState). Keeps ((sole_rules p.rules).limits q) (journal_at p.books q)) (sym t.port) (r.lawful q);
      ours = λ q. subst (λ (h : List Step). All (λ (s : Step). IsOurs d s.0.who) h) (sym (j q))
          (All-weaker (λ (s : Step). IsOurs c s.0.who) (λ (s : Step). IsOurs d s.0.who) (λ s. ours_in c d s.0.who many files) (journal_at c.port.books q)
          (r.ours q));
      few = omega (arith, many, r.few);
      unopened = λ m le. r.unopened m (omega (arith, many, le));
      sessions = λ m s e. follows_other desk (journal_at c.port.books) (journal_at d.port.books) (given m) m s (others m)
          (r.sessions m s (sym (ap (λ (l : List Guest). slice_get l m) t.sessions) ∙ e));
      recorders = λ m s e. elim (cases_eq m n) [
        | inl i ↦
            let at : slice_get d.recorders n ≡ Some new = ap (λ (l : List RecState). slice_get l n) t.recorders ∙ get_put c.recorders n new t.old t.there in
            let is : new ≡ s = some_is new s (sym at ∙ subst (λ (p : ℕ). slice_get d.recorders p ≡ Some s) i e) in
            let k : Records (journal_at d.port.books) n new =
            record {
              who = was.who;
              calls = λ q. others (recorder_name n) q
                  ∙ was.calls q;
              recorded = record { took = was.recorded.took; text = was.recorded.text };
            } in
            subst (λ (p : ℕ). Records (journal_at d.port.books) p s) (sym i) (subst (Records (journal_at d.port.books) n) is k)
        | inr x ↦ records_other (journal_at c.port.books) (journal_at d.port.books) m s (others (recorder_name m))
            (r.recorders m s (sym (get_away c.recorders n m new x) ∙ (sym (ap (λ (l : List RecState). slice_get l m) t.recorders) ∙ e)))
      ];
    }

run_fails : (desk : Ask → Grant) (given : ℕ → List ℕ) (limits : AllLimits) (n : ℕ) (c d : CastState) → Plays limits desk (FailPut n) c d
    → RunOf desk given c → RunOf desk given d
run_fails desk given limits n c d t r = λ all. failing_run desk given limits n c d t (r (subst AreSessions t.sessions all))

-- ---- lines that act

plays_run : (line : ReplayLine) (limits : AllLimits) (desk : Ask → Grant) (given : ℕ → List ℕ) (c d : CastState)
    → (line ≡ Session → length c.sessions < 64) → Plays limits desk line c d → RunOf desk given c → RunOf desk (given_more line given) d
plays_run Session limits desk given c d small p r = run_opens limits desk given c d (small refl) p r
plays_run OpenHttp limits desk given c d small p r = run_away desk given c d (guest.Player p.new) (λ k. k) p.sessions
plays_run (OpenEdge n app name) limits desk given c d small p r = run_away desk given c d (guest.Edge p.new) (λ k. k) p.sessions
plays_run (FailPut n) limits desk given c d small p r = run_fails desk given limits n c d p r
plays_run (Turn n k) limits desk given c d small p r = times_keep (RunOf desk given) (TurnOf desk n) (run_of desk given n) k c d p r
plays_run (Rec n k) limits desk given c d small p r = times_keep (RunOf desk given) (RecTurnOf n) (run_rec desk given n) k c d p r
plays_run (Rounds k) limits desk given c d small p r = times_keep (RunOf desk given) (Round desk) (run_round desk given) k c d p r
plays_run (Piece n bytes) limits desk given c d small p r = run_told (Piece n bytes) desk n given (given_more (Piece n bytes) given) c d
    (gives_piece n bytes given) p r
plays_run (Eof n) limits desk given c d small p r = run_told (Eof n) desk n given given c d (record { here = refl; away = λ q e. refl }) p r
plays_run (Room n left) limits desk given c d small p r = run_told (Room n left) desk n given given c d (record { here = refl; away = λ q e. refl }) p r
plays_run (FailRecv n) limits desk given c d small p r = run_told (FailRecv n) desk n given given c d (record { here = refl; away = λ q e. refl }) p r
plays_run (FailSend n) limits desk given c d small p r = run_told (FailSend n) desk n given given c d (record { here = refl; away = λ q e. refl }) p r
plays_run (Quit n) limits desk given c d small p r = run_told (Quit n) desk n given given c d (record { here = refl; away = λ q e. refl }) p r
plays_run Nothing limits desk given c d small p r = subst (RunOf desk given) (sym p) r
plays_run (Limits a b i q w) limits desk given c d small p r = subst (RunOf desk given) (sym p) r
plays_run (Stream app name) limits desk given c d small p r = subst (RunOf desk given) (sym p) r
plays_run (Guard n side mode key) limits desk given c d small p r = subst (RunOf desk given) (sym p) r
plays_run (OpenApp app n) limits desk given c d small p r = subst (RunOf desk given) (sym p) r
plays_run (GuardOpen n side mode key) limits desk given c d small p r = subst (RunOf desk given) (sym p) r
plays_run (Recorder n form) limits desk given c d small p r = subst (RunOf desk given) (sym p) r

-- ---- what runs at first

lawful_none : (limits : StreamLimits) (slots : Option ℕ) → IsLawfulBy limits slots []
lawful_none limits None = tt
lawful_none limits (Some n) = tt

keeps_none : (s : Shape) → Keeps s []
keeps_none s = record { rules = lawful_none s.limits s.slots; viewers = λ slot player. legal_by s.limits s.slots [] (lawful_none s.limits s.slots) slot player }

new_at : (n : ℕ) (ps : List Plan) (rs : List RecState) (m : ℕ) (r : RecState) → AreNew n ps rs → slice_get rs m ≡ Some r
    → (p : Plan) × IsNewRecorder (2 ^ 60 + (n + m)) p r
new_at n [] [] m r a e = absurd (cc)
new_at n [] (x ∷ xs) m r a e = absurd a
new_at n (p ∷ ps) [] m r a e = absurd a
new_at n (p ∷ ps) (x ∷ xs) zero r a e =
    let is : x ≡ r = some_is x r e in
    let z : n ≡ n + 0 = omega arith in
    (p, subst (λ (k : ℕ). IsNewRecorder (2 ^ 60 + k) p r) z (subst (IsNewRecorder (2 ^ 60 + n) p) is a.0))
new_at n (p ∷ ps) (x ∷ xs) (suc m) r a e =
    let k = new_at (n + 1) ps xs m r a.1 e in
    let z : (n + 1) + m ≡ n + suc m = omega arith in
    (k.0, subst (λ (i : ℕ). IsNewRecorder (2 ^ 60 + i) k.0 r) z k.1)

opened_run : (o : Option CastState) (s : SceneState) (given : ℕ → List ℕ) (c : CastState) → IsOpen o s c → RunsIf (desk_of s) given o
    → RunOf (desk_of s) given c
opened_run (Some d) s given c e k = subst (RunOf (desk_of s) given) (sym e) k
opened_run None s given c new k = λ all. record {
  lawful = λ q. subst (λ (h : List Step). Keeps ((sole_rules c.port.rules).limits q) h) (sym (new.empty q)) (keeps_none ((sole_rules c.port.rules).limits q));
  ours = λ q. subst (λ (h : List Step). All (λ (x : Step). IsOurs c x.0.who) h) (sym (new.empty q)) (All-nil (λ (x : Step). IsOurs c x.0.who));
  few = let none : length c.sessions ≡ 0 = ap length new.sessions in omega (arith, none);
  unopened = λ n le. k n;
  sessions = λ n x e. absurd (let z : slice_get [] n ≡ Some (guest.Session x) = sym (ap (λ (l : List Guest). slice_get l n) new.sessions)
      ∙ e in none_there n x z);
  recorders = λ m r e.
      let a = new_at 0 s.recorders c.recorders m r new.recorders e in
      let z : 0 + m ≡ m = omega arith in
      record {
        who = ap (λ (x : RecSeat SeenState). x.who) a.1.seat ∙ ap (λ (i : ℕ). 2 ^ 60 + i) z;
        calls = λ q. ap (λ (h : List Step). own (recorder_name m) (reverse h)) (new.empty q)
            ∙ sym (ap (λ (x : RecSeat SeenState). if nat_eq q x.place then reverse x.calls else []) a.1.seat ∙ no_calls (nat_eq q a.0.stream) [] refl);
        recorded = all_at IsRecorded c.recorders m r e (are_recorded 0 s.recorders c.recorders new.recorders);
      };
}
  where
    none_there : (n : ℕ) (x : ConnState) → slice_get [] n ≡ Some (guest.Session x) → ⊥
    none_there n x z = absurd (cc)

    no_calls : (b : Bool) (calls : List Step) → reverse calls ≡ [] → (if b then reverse calls else []) ≡ []
    no_calls true calls e = e
    no_calls false calls e = refl

-- ---- a replay between two lines

now_runs : (s t : SceneState) (given : ℕ → List ℕ) (c : CastState) → SameDesk (stand_of s) (stand_of t) → t.cast ≡ Some c → RunOf (desk_of s) given c
    → Runs given t
now_runs s t given c d e k = subst (λ (g : Ask → Grant). RunsIf g given t.cast) (sym (same_desk s t d)) (subst (RunsIf (desk_of s) given) (sym e) k)

same_runs : (s t : SceneState) (given : ℕ → List ℕ) → SameDesk (stand_of s) (stand_of t) → t.cast ≡ s.cast → Runs given s → Runs given t
same_runs s t given d c k = subst (λ (g : Ask → Grant). RunsIf g given t.cast) (sym (same_desk s t d)) (subst (RunsIf (desk_of s) given) (sym c) k)

none_runs : (s t : SceneState) (given : ℕ → List ℕ) (more : Bool) → (is_setting (option_map (λ (c : CastState). length c.sessions) s.cast) && more) ≡ true
    → t.cast ≡ s.cast → Runs given s → Runs given t
none_runs s t given more e c k = by_cast s.cast e c k
  where
    by_cast : (o : Option CastState) → (is_setting (option_map (λ (c : CastState). length c.sessions) o) && more) ≡ true → t.cast ≡ o
        → RunsIf (desk_of s) given o → Runs given t
    by_cast None e c k = subst (RunsIf (desk_of t) given) (sym c) k
    by_cast (Some x) e c k = absurd (cc)

acts_runs : (line : ReplayLine) (s t : SceneState) (given : ℕ → List ℕ) → SameDesk (stand_of s) (stand_of t)
    → ((c : CastState) → IsOpen s.cast s c → line ≡ Session → length c.sessions < 64)
    → Acts line s t → Runs given s → Runs (given_more line given) t
acts_runs line s t given d small a k =
    now_runs s t (given_more line given) a.now d a.cast (plays_run line s.limits (desk_of s) given a.before a.now (small a.before a.opened) a.plays
    (opened_run s.cast s given a.before a.opened k))

-- a session more has room
room_for : (o : Option CastState) (s : SceneState) (c : CastState) → IsOpen o s c
    → nat_lt (count (option_map (λ (x : CastState). length x.sessions) o)) 64 ≡ true → length c.sessions < 64
room_for None s c new e = let none : length c.sessions ≡ 0 = ap length new.sessions in omega (arith, none)
room_for (Some d) s c is e = let t : nat_lt (length d.sessions) 64
    ≡ true = e in let l : length d.sessions < 64 = grind (arith, nat_tests) in subst (λ (x : CastState). length x.sessions < 64) (sym is) l

line_runs : (line : ReplayLine) (s t : SceneState) (given : ℕ → List ℕ) → allows line (stand_of s) ≡ true → stand_of t ≡ after line (stand_of s)
    → CastBy (is_acting line) line s t → Runs given s → Runs (given_more line given) t
line_runs Nothing s t given e p c k = same_runs s t given (stand_desk s t _ p (refl, refl)) c k
line_runs (Limits a b i q w) s t given e p c k = same_runs s t given (stand_desk s t _ p (refl, refl)) c k
line_runs (Recorder n form) s t given e p c k = same_runs s t given (stand_desk s t _ p (refl, refl)) c k
line_runs (Stream app name) s t given e p c k = none_runs s t given _ e c k
line_runs (Guard n side mode key) s t given e p c k = none_runs s t given _ e c k
line_runs (OpenApp app n) s t given e p c k = none_runs s t given _ e c k
line_runs (GuardOpen n side mode key) s t given e p c k = none_runs s t given _ e c k
line_runs Session s t given e p c k = acts_runs Session s t given (stand_desk s t _ p (refl, refl)) (λ x o is. room_for s.cast s x o e) c k
line_runs OpenHttp s t given e p c k = acts_runs OpenHttp s t given (stand_desk s t _ p (refl, refl)) (λ x o is. absurd (cc)) c k
line_runs (OpenEdge n app name) s t given e p c k = acts_runs (OpenEdge n app name) s t given (stand_desk s t _ p (refl, refl)) (λ x o is. absurd (cc)) c k
line_runs (FailPut n) s t given e p c k = acts_runs (FailPut n) s t given (stand_desk s t _ p (refl, refl)) (λ x o is. absurd (cc)) c k
line_runs (Turn n m) s t given e p c k = acts_runs (Turn n m) s t given (stand_desk s t _ p (refl, refl)) (λ x o is. absurd (cc)) c k
line_runs (Rec n m) s t given e p c k = acts_runs (Rec n m) s t given (stand_desk s t _ p (refl, refl)) (λ x o is. absurd (cc)) c k
line_runs (Rounds m) s t given e p c k = acts_runs (Rounds m) s t given (stand_desk s t _ p (refl, refl)) (λ x o is. absurd (cc)) c k
line_runs (Piece n bytes) s t given e p c k = acts_runs (Piece n bytes) s t given (stand_desk s t _ p (refl, refl)) (λ x o is. absurd (cc)) c k
line_runs (Eof n) s t given e p c k = acts_runs (Eof n) s t given (stand_desk s t _ p (refl, refl)) (λ x o is. absurd (cc)) c k
line_runs (Room n left) s t given e p c k = acts_runs (Room n left) s t given (stand_desk s t _ p (refl, refl)) (λ x o is. absurd (cc)) c k
line_runs (FailRecv n) s t given e p c k = acts_runs (FailRecv n) s t given (stand_desk s t _ p (refl, refl)) (λ x o is. absurd (cc)) c k
line_runs (FailSend n) s t given e p c k = acts_runs (FailSend n) s t given (stand_desk s t _ p (refl, refl)) (λ x o is. absurd (cc)) c k
line_runs (Quit n) s t given e p c k = acts_runs (Quit n) s t given (stand_desk s t _ p (refl, refl)) (λ x o is. absurd (cc)) c k

pub does_runs : (line : ReplayLine) (s t : SceneState) (given : ℕ → List ℕ) → allows line (stand_of s) ≡ true → Does line s t → Runs given s
    → Runs (given_more line given) t
does_runs line s t given e d k = line_runs line s t given e d.stand d.cast k

pub settled_runs : (done : Bool) (most n : ℕ) (s t : SceneState) (given : ℕ → List ℕ) → SettledIn done most n s t → Runs given s → Runs given t
settled_runs done most n s t given x k =
    now_runs s t given x.now (stand_desk s t _ x.stand (refl, refl)) x.cast
    (settled_keep (RunOf (desk_of s) given) (desk_of s) n (run_of (desk_of s) given n) done most x.before x.now x.turns
    (opened_run s.cast s given x.before x.opened k))

pub cast_runs : (s : SceneState) (c : CastState) (given : ℕ → List ℕ) → IsOpen s.cast s c → Runs given s → RunOf (desk_of s) given c
cast_runs s c given o k = opened_run s.cast s given c o k

-- ---- what its sessions' calls were answered

-- what calls of one that asks for nothing but what it was granted are answered, where they are all that bear its name
abbrev pub AloneLaw : Type 0
AloneLaw = (s : Shape) (past : History) (who : ℕ) (calls : List Step) → IsShapeLawful s past → own who past ≡ calls → Calls calls → AreAnswered calls

pub sessions_answered : AloneLaw → (desk : Ask → Grant) (given : ℕ → List ℕ) (c : CastState) → IsRun desk given c → SessionsAnswered c
sessions_answered law desk given c r n s e q =
    let f = r.sessions n s e in
    law ((sole_rules c.port.rules).limits q) (reverse (journal_at c.port.books q)) n (calls_at q s.session.seat.visits) (r.lawful q).rules (f.calls q)
    ((acting_of s.session.ended s.session.parts s.session.seat f.acts).acts q)
