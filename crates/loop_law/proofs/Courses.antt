-- Two courses of one film
use Rattle.std.proofs.Common.{inl, inr, ◌≡◌, ◌≤◌, ◌<◌, ◌+◌, ◌*◌, ◌^◌, ◌&&◌, nat_eq, nat_le, not, ℕ, suc, Bool, true, false, List, [], ◌∷◌, length, Option, Some}
use Rattle.std.proofs.Common.{None, refl, sym, ap, ◌∙◌, subst, arith}
use Rattle.std.specs.Option.{is_some}
use Rattle.std.proofs.lemmas.Bool.{cases_lt}
use Rattle.flv_tags.specs.declared.tag.Tag.{Tag}
use Rattle.client_owed.specs.declared.types.Wish.{Wish}
use Rattle.client_owed.specs.declared.types.Wish.TheVariants as wish
use Rattle.rtmp_client.specs.declared.end.ClientEnd.{ClientEnd}
use Rattle.session_owed.specs.Standing.{Past}
use Rattle.stream_registry.specs.Books.{SeenState, SoleState, journal_at}
use Rattle.stream_registry.specs.Told.{Step}
use Rattle.stream_model.specs.declared.calls.Entry.{Entry}
use Rattle.relay_session.specs.SeatState.{active_at, place_of}
use Rattle.relay_session.specs.SessionState.{Lasting, SessionState, StandsBy, pending_by}
use Rattle.relay_session.specs.Keeping.{StandsBefore}
use Rattle.relay_session.specs.declared.end.End.{End}
use Rattle.relay_session.specs.declared.seat_answers.Active.{Active}
use Rattle.turn_law.specs.Twins.{SamePort}
use Rattle.turn_law.proofs.Steps.{pending_same}
use Rattle.client_command.specs.Gifts.{pull_text}
use Rattle.client_command.specs.Runs.{most_message}
use Rattle.client_turn_law.specs.Twins.{IsBegun, SameBy, Seen}
use Rattle.client_turn_law.proofs.Alike.{begun_alike, told_alike}
use Rattle.loop_command.specs.Course.{CameBack, CameNot, IsCourse, IsFirst, IsFirstLine, has_skipped, has_told, is_done, is_quiet, is_settled, is_still, rounds_of}
use Rattle.loop_command.specs.Course.{sent_in, skips_in, text_of}
use Rattle.loop_command.specs.Desk.{asked_by, granted, player, publisher}
use Rattle.loop_command.specs.Films.{most_bytes}
use Rattle.loop_command.specs.declared.line.Line.{Line}
use Rattle.loop_command.specs.declared.rounds.Run.{Run}
use Rattle.loop_law.specs.Ends.{Back, BackSo, ComesTo, Coming, Not, SameEnd, Skipped}
use Rattle.loop_law.proofs.Lines.{SameLine}
use Rattle.loop_law.proofs.Rounds.{AreFew, SameRun, round_few, round_same}

-- ---- two runs of which nothing was done

first_client : (w : Wish) (who : ℕ) (l : Line) → IsFirstLine w who l → IsBegun (asked_by w) most_message l.client
first_client w who l f = record {
  asked = f.asked;
  max_is = f.live.max;
  past = f.client.past;
  keeps = f.client.keeps;
  others = f.client.others;
  input = f.client.input;
  lives = f.live.lives;
}

nowhere : (s t : Option (ℕ × SeenState)) (a b : Active) (q : ℕ) → s ≡ None → t ≡ None → active_at t b q ≡ active_at s a q
nowhere None None a b q e f = refl
nowhere None (Some x) a b q e f = absurd (cc)
nowhere (Some x) t a b q e f = absurd (cc)

stands_so : (o : Option End) (s : SessionState SeenState) → o ≡ None → StandsBy o granted s.parts → StandsBefore granted s.parts
stands_so None s e h = h
stands_so (Some x) s e h = absurd (cc)

abbrev lasting_with : ℕ → ℕ → ℕ → Lasting
lasting_with who window max = record { who = who; window = window; max = max }

lasting_is : (a b c d e f : ℕ) → b ≡ a → d ≡ c → f ≡ e → lasting_with b d f ≡ lasting_with a c e
lasting_is a b c d e f x y z = ap (λ (k : ℕ). lasting_with k d f) x ∙ (ap (λ (k : ℕ). lasting_with a k f) y ∙ ap (λ (k : ℕ). lasting_with a c k) z)

first_line : (w : Wish) (who : ℕ) (p q : SoleState) (l m : Line) → SamePort p q → IsFirstLine w who l → IsFirstLine w who m → SameLine p q l m
first_line w who p q l m port f g = record {
  client = begun_alike (asked_by w) most_message l.client m.client (first_client w who l f) (first_client w who m g);
  near = g.near ∙ sym f.near;
  session = record {
    core = record {
      lasting = lasting_is l.session.parts.who m.session.parts.who l.session.parts.window m.session.parts.window l.session.parts.reader.max
          m.session.parts.reader.max (g.who_is ∙ sym f.who_is) (g.window_is ∙ sym f.window_is) (g.max ∙ sym f.max);
      place = g.place ∙ sym f.place;
      past = g.past ∙ sym f.past;
      fed = g.fed ∙ sym f.fed;
      outbound = g.outbound ∙ sym f.outbound;
      others = g.others ∙ sym f.others;
    };
    input = g.input ∙ sym f.input;
    seat = record {
      spot = ap place_of g.spot ∙ sym (ap place_of f.spot);
      granted = λ n. nowhere l.session.seat.spot m.session.seat.spot l.session.seat.active m.session.seat.active n f.spot g.spot;
    };
    port = port;
    first = stands_so l.session.ended l.session f.lives f.stands;
    second = stands_so m.session.ended m.session g.lives g.stands;
  };
  lives = f.lives;
  lives_too = g.lives;
  quit = g.goes_on ∙ sym f.goes_on;
  far = g.far ∙ sym f.far;
  forth = g.forth ∙ sym f.forth;
}

first_same : (tags : List Tag) (r s : Run) → IsFirst tags r → IsFirst tags s → SameRun r s
first_same tags r s f g =
    let port : SamePort r.port s.port = record { rules = g.rules_are ∙ sym f.rules_are; journals = λ n. g.none n ∙ sym (f.none n) } in
    record {
      pull = first_line wish.Pull player r.port s.port r.pull s.pull port f.pull g.pull;
      push = first_line wish.Push publisher r.port s.port r.push s.push port f.push g.push;
      tags = g.tags_are ∙ sym f.tags_are;
      stage = g.stage ∙ sym f.stage;
      over = g.over ∙ sym f.over;
      told = g.told ∙ sym f.told;
      playing = f.pull.live.lives;
      pushing = λ n. f.push.live.lives;
    }

first_few : (tags : List Tag) (r : Run) → IsFirst tags r → AreFew 0 r.port
first_few tags r f = λ q. omega (arith, ap length (f.none q))

-- ---- what is seen of them

session_pending : (p q : SoleState) (l m : Line) → SameLine p q l m → pending_by m.session.ended m.session.parts ≡ pending_by l.session.ended l.session.parts
session_pending p q l m h =
    ap (λ (o : Option End). pending_by o m.session.parts) h.lives_too
    ∙ (ap length (pending_same granted l.session.parts m.session.parts h.session.core.lasting h.session.core.past h.session.first h.session.second)
    ∙ sym (ap (λ (o : Option End). pending_by o l.session.parts) h.lives))

abbrev still_by : Option Entry → ℕ → Bool
still_by o n = not (is_some o) && nat_eq n 0

still_same : (p q : SoleState) (l m : Line) → SameLine p q l m → is_still m.session ≡ is_still l.session
still_same p q l m h =
    ap (λ (z : Past). still_by z.kept (pending_by m.session.ended m.session.parts)) h.session.core.past
    ∙ ap (λ (n : ℕ). still_by l.session.parts.kept n) (session_pending p q l m h)

fed_all : (p q : SoleState) (l m : Line) → SameLine p q l m → nat_eq (length m.session.parts.x) m.forth ≡ nat_eq (length l.session.parts.x) l.forth
fed_all p q l m h =
    ap (λ (z : Past). nat_eq (length z.x) m.forth) h.session.core.past ∙ ap (λ (n : ℕ). nat_eq (length l.session.parts.x) n) h.forth

sent_all : (r s : Run) → SameRun r s → nat_eq (length s.pull.client.parts.outgoing.pending) 0 ≡ nat_eq (length r.pull.client.parts.outgoing.pending) 0
sent_all r s h = ap (λ (n : ℕ). nat_eq n 0) ((told_alike r.pull.client s.pull.client h.pull.client).pending h.playing)

abbrev quiet_by : Bool → Bool → Bool → Bool → Bool → Bool → Bool
quiet_by over done fed still still_too sent = over && (done && (fed && (still && (still_too && sent))))

quiet_is : (a b c d e f a' b' c' d' e' f' : Bool) → a' ≡ a → b' ≡ b → c' ≡ c → d' ≡ d → e' ≡ e → f' ≡ f → quiet_by a' b' c' d' e' f' ≡ quiet_by a b c d e f
quiet_is a b c d e f a' b' c' d' e' f' u v w x y z =
    ap (λ (k : Bool). quiet_by k b' c' d' e' f') u
    ∙ (ap (λ (k : Bool). quiet_by a k c' d' e' f') v
    ∙ (ap (λ (k : Bool). quiet_by a b k d' e' f') w
    ∙ (ap (λ (k : Bool). quiet_by a b c k e' f') x
    ∙ (ap (λ (k : Bool). quiet_by a b c d k f') y
    ∙ ap (λ (k : Bool). quiet_by a b c d e k) z))))

quiet_same : (r s : Run) → SameRun r s → is_quiet s ≡ is_quiet r
quiet_same r s h =
    quiet_is r.over (is_done r.stage) (nat_eq (length r.push.session.parts.x) r.push.forth) (is_still r.push.session) (is_still r.pull.session)
    (nat_eq (length r.pull.client.parts.outgoing.pending) 0) s.over (is_done s.stage) (nat_eq (length s.push.session.parts.x) s.push.forth)
    (is_still s.push.session) (is_still s.pull.session) (nat_eq (length s.pull.client.parts.outgoing.pending) 0)
    h.over (ap is_done h.stage) (fed_all r.port s.port r.push s.push h.push) (still_same r.port s.port r.push s.push h.push)
    (still_same r.port s.port r.pull s.pull h.pull) (sent_all r s h)

told_same : (r s : Run) → SameRun r s → has_told s ≡ has_told r
told_same r s h =
    ap (λ (l : List Step). nat_le (sent_in l) s.told) (h.pull.session.port.journals 0)
    ∙ ap (λ (n : ℕ). nat_le (sent_in (journal_at r.port.books 0)) n) h.told

skipped_same : (r s : Run) → SameRun r s → has_skipped s ≡ has_skipped r
skipped_same r s h = ap skips_in (h.pull.session.port.journals 0)

settled_same : (r s : Run) → SameRun r s → is_settled s ≡ is_settled r
settled_same r s h = ap (λ (b : Bool). b && has_told s) (quiet_same r s h) ∙ ap (λ (b : Bool). is_quiet r && b) (told_same r s h)

taken_same : (r s : Run) (o : Option ClientEnd) → o ≡ None → SameBy o r.pull.client s.pull.client → s.pull.client.parts.taken ≡ r.pull.client.parts.taken
taken_same r s None e h = ap (λ (x : Seen). x.past.taken) h
taken_same r s (Some x) e h = absurd (cc)

text_same : (r s : Run) → SameRun r s → text_of s ≡ text_of r
text_same r s h = ap pull_text (taken_same r s r.pull.client.ended h.playing h.pull.client.same)

-- ---- courses

course_few : (first last : Run) (states : List Run) → IsCourse first states last → AreFew 0 first.port → AreFew (6 * length states) last.port
course_few first last [] c f = λ q. omega (arith, ap (λ (r : Run). length (journal_at r.port.books q)) c, f q)
course_few first last (m ∷ states) c f =
    let few : AreFew (6 * length states) m.port = course_few first m states c.0 f in
    λ q. omega (arith, round_few (6 * length states) m last c.1 few q)

courses_same : (first first' last last' : Run) (states states' : List Run) → SameRun first first' → AreFew 0 first.port → AreFew 0 first'.port
    → IsCourse first states last → IsCourse first' states' last' → length states ≡ length states' → 6 * length states < 2 ^ 62 → SameRun last last'
courses_same first first' last last' [] [] h f f' c c' e less =
    subst (λ (r : Run). SameRun r last') (sym c) (subst (λ (r : Run). SameRun first r) (sym c') h)
courses_same first first' last last' [] (m ∷ states') h f f' c c' e less = absurd (omega (arith, e))
courses_same first first' last last' (m ∷ states) [] h f f' c c' e less = absurd (omega (arith, e))
courses_same first first' last last' (m ∷ states) (m' ∷ states') h f f' c c' e less =
    let long : length states ≡ length states' = omega (arith, e) in
    let before : SameRun m m' = courses_same first first' m m' states states' h f f' c.0 c'.0 long (omega (arith, less)) in
    let few : AreFew (6 * length states) m.port = course_few first m states c.0 f in
    let few' : AreFew (6 * length states) m'.port = λ q. omega (arith, course_few first' m' states' c'.0 f' q, long) in
    round_same (6 * length states) m last m' last' (omega (arith, less)) few few' c.1 c'.1 before

-- the first rounds of a course
record IsPart (first : Run) (n : ℕ) : Type 0 where
  pub states : List Run
  pub last : Run
  pub course : IsCourse first states last
  pub count : length states ≡ n

part_of : (first last : Run) (states : List Run) (n : ℕ) → IsCourse first states last → n ≤ length states → IsPart first n
part_of first last [] n c le = record { states = []; last = last; course = c; count = omega (arith, le) }
part_of first last (m ∷ states) n c le = elim (cases_lt (length states) n) [
  | inl less ↦ record { states = m ∷ states; last = last; course = c; count = omega (arith, le, less) }
  | inr more ↦ part_of first m states n c.0 more
]

few_rounds : (bytes n : ℕ) → bytes ≤ most_bytes → n ≤ rounds_of bytes → 6 * n + 6 < 2 ^ 62
few_rounds bytes n b le = omega (arith, b, le)

module _ (tags : List Tag) (bytes : ℕ) (most : bytes ≤ most_bytes) where
  -- two that have come back so early are alike
  backs_same : (text text' : List ℕ) (b : CameBack tags bytes text) (c : CameBack tags bytes text') → length b.states ≡ length c.states → SameRun b.last c.last
  backs_same text text' b c e =
      let n : ℕ = length b.states in
      let less : 6 * n + 6 < 2 ^ 62 = few_rounds bytes n most (omega (arith, b.within)) in
      let f : AreFew 0 b.first.port = first_few tags b.first b.fresh in
      let f' : AreFew 0 c.first.port = first_few tags c.first c.fresh in
      let before : SameRun b.before c.before =
      courses_same b.first c.first b.before c.before b.states c.states (first_same tags b.first c.first b.fresh c.fresh) f f' b.course c.course e
      (omega (arith, less)) in
      round_same (6 * n) b.before b.last c.before c.last less (course_few b.first b.before b.states b.course f)
      (λ q. omega (arith, course_few c.first c.before c.states c.course f' q, e)) b.round c.round before

  -- and none goes on for longer
  back_not_on : (text : List ℕ) (b : CameBack tags bytes text) (first last : Run) (states : List Run) → IsFirst tags first → IsCourse first states last
      → length b.states < length states → ⊥
  back_not_on text b first last states fresh course longer = let p = part_of first last states (suc (length b.states)) course (omega (arith, longer)) in
      by_part p.states p.last p.course p.count
    where
      by_part : (ss : List Run) (x : Run) → IsCourse first ss x → length ss ≡ suc (length b.states) → ⊥
      by_part [] x c e = omega (arith, e)
      by_part (m ∷ ss) x c e =
          let n : ℕ = length b.states in
          let less : 6 * n + 6 < 2 ^ 62 = few_rounds bytes n most (omega (arith, b.within)) in
          let f : AreFew 0 b.first.port = first_few tags b.first b.fresh in
          let f' : AreFew 0 first.port = first_few tags first fresh in
          let long : n ≡ length ss = omega (arith, e) in
          let before : SameRun b.before m =
          courses_same b.first first b.before m b.states ss (first_same tags b.first first b.fresh fresh) f f' b.course c.0 long (omega (arith, less)) in
          let same : SameRun b.last x =
          round_same (6 * n) b.before b.last m x less (course_few b.first b.before b.states b.course f)
          (λ q. omega (arith, course_few first m ss c.0 f' q, long)) b.round c.1 before in
          let t : true ≡ false = sym b.settled ∙ (sym (settled_same b.last x same) ∙ c.2) in
          absurd (cc)

  both_last : (text text' : List ℕ) (b : CameBack tags bytes text) (c : CameBack tags bytes text') → SameRun b.last c.last
  both_last text text' b c = elim (cases_lt (length b.states) (length c.states)) [
    | inl less ↦ absurd (back_not_on text b c.first c.before c.states c.fresh c.course less)
    | inr le ↦ elim (cases_lt (length c.states) (length b.states)) [
      | inl more ↦ absurd (back_not_on text' c b.first b.before b.states b.fresh b.course more)
      | inr same ↦ backs_same text text' b c (omega (arith, le, same))
    ]
  ]

  both_back : (text text' : List ℕ) → CameBack tags bytes text → CameBack tags bytes text' → text' ≡ text
  both_back text text' b c = c.text_is ∙ (text_same b.last c.last (both_last text text' b c) ∙ sym b.text_is)

  -- the player misses items in both, or in neither
  never_both : (text text' : List ℕ) → BackSo false tags bytes text → BackSo true tags bytes text' → ⊥
  never_both text text' b c = let t : true ≡ false = sym c.1 ∙ (skipped_same b.0.last c.0.last (both_last text text' b.0 c.0) ∙ b.1) in absurd (cc)

  back_and_not : (text text' : List ℕ) → CameBack tags bytes text → CameNot tags bytes text' → ⊥
  back_and_not text text' b c = back_not_on text b c.first c.last c.states c.fresh c.course (omega (arith, b.within, c.count))

  both_not : (text text' : List ℕ) → CameNot tags bytes text → CameNot tags bytes text' → text' ≡ text
  both_not text text' b c =
      let less : 6 * length b.states + 6 < 2 ^ 62 = few_rounds bytes (length b.states) most (omega (arith, b.count)) in
      let same : SameRun b.last c.last =
      courses_same b.first c.first b.last c.last b.states c.states (first_same tags b.first c.first b.fresh c.fresh) (first_few tags b.first b.fresh)
      (first_few tags c.first c.fresh) b.course c.course (b.count ∙ sym c.count) (omega (arith, less)) in
      c.text_is ∙ (text_same b.last c.last same ∙ sym b.text_is)

  pub ends_same : (back back' : Coming) (text text' : List ℕ) → ComesTo tags bytes back text → ComesTo tags bytes back' text' → SameEnd back text back' text'
  ends_same Back Back text text' b c = record { back_same = refl; text_same = both_back text text' b.0 c.0 }
  ends_same Back Skipped text text' b c = absurd (never_both text text' b c)
  ends_same Back Not text text' b c = absurd (back_and_not text text' b.0 c)
  ends_same Skipped Back text text' b c = absurd (never_both text' text c b)
  ends_same Skipped Skipped text text' b c = record { back_same = refl; text_same = both_back text text' b.0 c.0 }
  ends_same Skipped Not text text' b c = absurd (back_and_not text text' b.0 c)
  ends_same Not Back text text' b c = absurd (back_and_not text' text c.0 b)
  ends_same Not Skipped text text' b c = absurd (back_and_not text' text c.0 b)
  ends_same Not Not text text' b c = record { back_same = refl; text_same = both_not text text' b c }
