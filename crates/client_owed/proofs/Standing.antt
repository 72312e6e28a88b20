-- A client stands for its past after each of its steps
use Rattle.std.proofs.Common.{◌≡◌, ℕ, suc, ◌+◌, ◌-◌, ◌<◌, ◌≤◌, ◌⊎◌, inl, inr, Bool, true, false, ◌==◌, ◌||◌, nat_le, if◌then◌else◌, List, [], ◌∷◌, ◌++◌, length, replicate, take, drop, refl, sym, ap, ◌∙◌, subst, arith, append_assoc, append-nil, length-append, length-drop, Option, Some, None, Result, Ok, Err}
use Rattle.std.proofs.lemmas.Bool.{le-leb, lt-leb, cases_lt}
use Rattle.std.proofs.lemmas.List.{take-append-le, drop-append-le}
use Rattle.chunk_wire.specs.declared.message.Message.{Message}
use Rattle.chunk_writer.specs.WriterKnown.{WriterKnown}
use Rattle.chunk_writer.specs.WriterKnown as writer
use Rattle.chunk_writer.specs.Written.{written, after_all}
use Rattle.chunk_writer.proofs.Going.{after_joined, written_joined}
use Rattle.rtmp_command.specs.declared.command.CommandFail.{CommandFail}
use Rattle.ack_window.specs.declared.control.Control.{Control}
use Rattle.ack_window.specs.declared.control.BadControl.{BadControl}
use Rattle.ack_window.specs.Controls.{control_in}
use Rattle.ack_window.specs.Inbound.{InWindow, ack_of, in_took, room_of}
use Rattle.session_owed.specs.Acks.{ack_messages, acks_at, inbound, window_by}
use Rattle.session_owed.specs.Owed.{upto}
use Rattle.session_owed.specs.Talk.{hand_bytes, says_at}
use Rattle.session_owed.proofs.Windows.{after_more}
use Rattle.client_owed.specs.declared.types.Asked.{Asked}
use Rattle.client_owed.specs.declared.types.Gave.{Gave}
use Rattle.client_owed.specs.declared.types.Gift.{Gift}
use Rattle.client_owed.specs.declared.types.Given.{Given}
use Rattle.client_owed.specs.declared.types.Given.TheVariants.{Send, Finish}
use Rattle.client_owed.specs.declared.types.News.{News}
use Rattle.client_owed.specs.declared.types.Phase.{Phase}
use Rattle.client_owed.specs.declared.types.Phase.TheVariants.{Connecting, Creating, Asking, Started}
use Rattle.client_owed.specs.declared.types.Wish.{Wish}
use Rattle.client_owed.specs.Client.{Did, connect, does, does_by, learns_by, stays}
use Rattle.client_owed.specs.News.{news_in}
use Rattle.client_owed.specs.Growth.{EndBy, GivenBy, Reaches}
use Rattle.client_owed.specs.Owed.{AreGiven, EndsAt, Follow, MayGive, at_count, c2, first_window, hello, id_of, out, owed, phase_after, phase_of, s1, said_after, sent_on, start_from, start_if}
use Rattle.client_owed.specs.Pulled.{gift_for, pulled, pulled_from}
use Rattle.client_owed.specs.Standing.{HasStarted, Keeps, Past, Stands, count_of, fed_more, gave_more, gift_now, greeted, is_finish, is_finished, listed, new_keeps, new_past, pending_now, sent_more, stepped, took, with_given, with_message, with_taken, writer_after}
use Rattle.client_owed.proofs.Growing.{owed_fed, owed_gave, owed_some, phase_more, pulled_more}

-- ---- it has started, and stays so

stays_kind : (k : Asked) (id : ℕ) (b : Bool) (r : Result News CommandFail) → (if b then learns_by k (Started id) r else stays (Started id)).phase ≡ Started id
stays_kind k id true (Ok n) = refl
stays_kind k id true (Err e) = refl
stays_kind k id false r = refl

stays_by : (k : Asked) (id : ℕ) (m : Message) (r : Result (Option Control) BadControl) → (does_by k (Started id) m r).phase ≡ Started id
stays_by k id m (Ok None) = stays_kind k id (m.kind == 20) (news_in m.body)
stays_by k id m (Ok (Some c)) = refl
stays_by k id m (Err e) = refl

pub stays_once : (k : Asked) (id : ℕ) (m : Message) → (does k (Started id) m).phase ≡ Started id
unfolding does
stays_once k id m = stays_by k id m (control_in m)

pub stays_all : (k : Asked) (id : ℕ) (ms : List (ℕ × Message)) → phase_after k (Started id) ms ≡ Started id
unfolding phase_after
stays_all k id [] = refl
stays_all k id (m ∷ ms) = ap (λ q. phase_after k q ms) (stays_once k id m.1) ∙ stays_all k id ms

abbrev IsStart : Asked → Phase → List (ℕ × Message) → Type 0
IsStart k p ms = (id : ℕ) × (phase_after k p ms ≡ Started id)

some_same : {X : Type 0} (x y : X) → Some x ≡ Some y → x ≡ y
some_same x y e = cc

start_case : (k : Asked) (q : Phase) (n s : ℕ) (ms : List (ℕ × Message)) (r : Option ℕ) → start_if q n r ≡ Some s → (r ≡ Some s → IsStart k q ms) → IsStart k q ms
start_case k (Started id) n s ms r e f = (id, stays_all k id ms)
start_case k Connecting n s ms r e f = f e
start_case k Creating n s ms r e f = f e
start_case k (Asking id) n s ms r e f = f e

-- where there is a place of the start, it has started
pub started_by : (k : Asked) (p : Phase) (ms : List (ℕ × Message)) (s : ℕ) → start_from k p ms ≡ Some s → IsStart k p ms
unfolding start_from phase_after
started_by k p [] s e = absurd (let h : None ≡ Some s = e in cc)
started_by k p (m ∷ ms) s e = start_case k (does k p m.1).phase m.0 s ms (start_from k (does k p m.1).phase ms) e (λ h. started_by k (does k p m.1).phase ms s h)

-- and the place stays
more_case : (q : Phase) (n s : ℕ) (r t : Option ℕ) → start_if q n r ≡ Some s → (r ≡ Some s → t ≡ Some s) → start_if q n t ≡ Some s
more_case (Started id) n s r t e f = e
more_case Connecting n s r t e f = f e
more_case Creating n s r t e f = f e
more_case (Asking id) n s r t e f = f e

start_more : (k : Asked) (p : Phase) (ms : List (ℕ × Message)) (m : ℕ × Message) (s : ℕ) → start_from k p ms ≡ Some s → start_from k p (ms ++ m ∷ []) ≡ Some s
unfolding start_from
start_more k p [] m s e = absurd (let h : None ≡ Some s = e in cc)
start_more k p (x ∷ ms) m s e =
    let q = (does k p x.1).phase in
    more_case q x.0 s (start_from k q ms) (start_from k q (ms ++ m ∷ [])) e (λ h. start_more k q ms m s h)

abbrev Began : Asked → ℕ → Phase → List (ℕ × Message) → Type 0
Began k n p ms = (s : ℕ) × ((start_from k p ms ≡ Some s) × (s ≤ n))

abbrev Begins : ℕ → Option ℕ → Type 0
Begins n r = (s : ℕ) × ((r ≡ Some s) × (s ≤ n))

began_case : (q : Phase) (n at : ℕ) (r : Option ℕ) → at ≤ n → ((HasStarted q → ⊥) → Begins n r) → Begins n (start_if q at r)
began_case (Started id) n at r le f = (at, (refl, le))
began_case Connecting n at r le f = f (λ h. h)
began_case Creating n at r le f = f (λ h. h)
began_case (Asking id) n at r le f = f (λ h. h)

-- one that has started has a place of its start
began : (k : Asked) (n : ℕ) (p : Phase) (ms : List (ℕ × Message)) → EndBy n ms → (HasStarted p → ⊥) → HasStarted (phase_after k p ms) → Began k n p ms
unfolding start_from phase_after
began k n p [] e not_yet h = absurd (not_yet h)
began k n p (m ∷ ms) e not_yet h =
    let q = (does k p m.1).phase in
    began_case q n m.0 (start_from k q ms) e.0 (λ f. began k n q ms e.1 f h)

-- ---- counts

end_more : (n j : ℕ) (ms : List (ℕ × Message)) → n ≤ j → EndBy n ms → EndBy j ms
end_more n j [] le e = tt
end_more n j (m ∷ ms) le e = (omega (arith, le, e.0), end_more n j ms le e.1)

end_last : (n j : ℕ) (ms : List (ℕ × Message)) (m : Message) → n ≤ j → EndBy n ms → EndBy j (ms ++ (j, m) ∷ [])
end_last n j [] m le e = (omega arith, tt)
end_last n j (x ∷ ms) m le e = (omega (arith, le, e.0), end_last n j ms m le e.1)

given_more : (n j : ℕ) (T : List Gave) → n ≤ j → GivenBy n T → GivenBy j T
given_more n j [] le e = tt
given_more n j (g ∷ T) le e = (e.0, omega (arith, le, e.1), given_more n j T le e.2)

given_last : (n : ℕ) (T : List Gave) (g : Gave) → g.at ≡ hand_bytes + n → GivenBy n T → GivenBy n (T ++ g ∷ [])
given_last n [] g at e = (omega (arith, at), omega (arith, at), tt)
given_last n (h ∷ T) g at e = (e.0, e.1, given_last n T g at e.2)

follow_later : (w : Wish) (max from to up : ℕ) (T : List Gave) → to ≤ up → Follow w max from to T → Follow w max from up T
follow_later w max from to up [] le f = omega (arith, le, f)
follow_later w max from to up (g ∷ T) le f = (f.0, f.1, f.2, follow_later w max g.at to up T le f.3)

given_fed : (k : Asked) (max n j : ℕ) (ms : List (ℕ × Message)) (T : List Gave) → n ≤ j → AreGiven k max n ms T → AreGiven k max j ms T
given_fed k max n j ms [] le a = tt
given_fed k max n j ms (g ∷ T) le a = (a.0, a.1, follow_later k.wish max (hand_bytes + a.0) (hand_bytes + n) (hand_bytes + j) (g ∷ T) (omega (arith, le)) a.2)

given_message : (k : Asked) (max n j : ℕ) (ms : List (ℕ × Message)) (m : ℕ × Message) (T : List Gave) → n ≤ j → AreGiven k max n ms T → AreGiven k max j (ms ++ m ∷ []) T
given_message k max n j ms m [] le a = tt
given_message k max n j ms m (g ∷ T) le a =
    (a.0, start_more k Connecting ms m a.0 a.1, follow_later k.wish max (hand_bytes + a.0) (hand_bytes + n) (hand_bytes + j) (g ∷ T) (omega (arith, le)) a.2)

ends_none : (g : Given) → EndsAt g []
ends_none (Send t) = tt
ends_none Finish = refl

ends_more : (g : Given) (T U : List Gave) → is_finish g ≡ false → EndsAt g U
ends_more (Send t) T U e = tt
ends_more Finish T U e = absurd (cc)

or_none : (a b : Bool) → (a || b) ≡ false → (a ≡ false) × (b ≡ false)
or_none true b e = absurd (cc)
or_none false b e = (refl, e)

-- what is given last
follow_more : (w : Wish) (max from to : ℕ) (T : List Gave) (g : Gave) → is_finished T ≡ false → MayGive w max g.given → g.at ≡ to → Follow w max from to T → Follow w max from to (T ++ g ∷ [])
unfolding is_finished
follow_more w max from to [] g e m at f = (omega (arith, at, f), m, ends_none g.given, omega (arith, at))
follow_more w max from to (h ∷ T) g e m at f =
    let o = or_none (is_finish h.given) (is_finished T) e in
    (f.0, f.1, ends_more h.given T (T ++ g ∷ []) o.0, follow_more w max h.at to T g o.1 m at f.3)

given_gave : (k : Asked) (max n : ℕ) (ms : List (ℕ × Message)) (T : List Gave) (g : Gave) → Began k n Connecting ms → is_finished T ≡ false → MayGive k.wish max g.given → g.at ≡ hand_bytes + n
    → AreGiven k max n ms T → AreGiven k max n ms (T ++ g ∷ [])
given_gave k max n ms [] g b e m at a = (b.0, b.1.0, (omega (arith, at, b.1.1), m, ends_none g.given, omega (arith, at)))
given_gave k max n ms (h ∷ T) g b e m at a = (a.0, a.1, follow_more k.wish max (hand_bytes + a.0) (hand_bytes + n) (h ∷ T) g e m at a.2)

finished_more : (T : List Gave) (g : Gave) → is_finished T ≡ false → is_finished (T ++ g ∷ []) ≡ is_finish g.given
unfolding is_finished
finished_more [] g e = last (is_finish g.given)
  where
    last : (b : Bool) → (b || false) ≡ b
    last true = refl
    last false = refl
finished_more (h ∷ T) g e =
    let o = or_none (is_finish h.given) (is_finished T) e in
    ap (λ b. b || is_finished (T ++ g ∷ [])) o.0 ∙ finished_more T g o.1

-- the message stream stays where something was given
id_case : (k : Asked) (max n : ℕ) (ms : List (ℕ × Message)) (T : List Gave) (m : ℕ × Message) → AreGiven k max n ms T → (T ≡ []) ⊎ (id_of (phase_of k (ms ++ m ∷ [])) ≡ id_of (phase_of k ms))
id_case k max n ms [] m a = inl refl
id_case k max n ms (g ∷ T) m a =
    let s = started_by k Connecting ms a.0 a.1 in
    inr (ap id_of (phase_more k Connecting ms m ∙ ap (λ p. (does k p m.1).phase) s.1 ∙ stays_once k s.0 m.1 ∙ sym s.1))

-- ---- bytes owed

s1_alone : (y q : List ℕ) → hand_bytes ≤ length y → s1 (y ++ q) ≡ s1 y
s1_alone y q h = ap (take 1536) (drop-append-le 1 y q (omega (arith, h))) ∙ take-append-le 1536 (drop 1 y) q (omega (arith, h, length-drop 1 y))

pub c2_alone : (y q : List ℕ) → hand_bytes ≤ length y → c2 (y ++ q) ≡ c2 y
c2_alone y q h = ap (λ (s : List ℕ). take 4 s ++ (replicate 4 0 ++ drop 8 s)) (s1_alone y q h)

pub written_none : (w : WriterKnown) → written w [] ≡ []
unfolding written
written_none w = refl

module _ (k : Asked) where
  abbrev late_bytes : List ℕ → List (ℕ × Message) → List Gave → List ℕ
  late_bytes y ms T = c2 y ++ written writer.fresh (owed k (count_of y) ms T)

  pub out_late : (y : List ℕ) (ms : List (ℕ × Message)) (T : List Gave) → hand_bytes ≤ length y → out k y ms T ≡ hello ++ late_bytes y ms T
  unfolding out
  out_late y ms T h = ap (λ (b : Bool). hello ++ (if b then late_bytes y ms T else [])) (le-leb hand_bytes (length y) h)

  pub out_early : (y : List ℕ) (ms : List (ℕ × Message)) (T : List Gave) → length y < hand_bytes → out k y ms T ≡ hello
  unfolding out
  out_early y ms T h = ap (λ (b : Bool). hello ++ (if b then late_bytes y ms T else [])) (lt-leb hand_bytes (length y) h) ∙ append-nil hello

  writer_late : (y : List ℕ) (ms : List (ℕ × Message)) (T : List Gave) → hand_bytes ≤ length y → writer_after k y ms T ≡ after_all writer.fresh (owed k (count_of y) ms T)
  unfolding writer_after
  writer_late y ms T h = ap (λ (b : Bool). if b then after_all writer.fresh (owed k (count_of y) ms T) else writer.fresh) (le-leb hand_bytes (length y) h)

  writer_early : (y : List ℕ) (ms : List (ℕ × Message)) (T : List Gave) → length y < hand_bytes → writer_after k y ms T ≡ writer.fresh
  unfolding writer_after
  writer_early y ms T h = ap (λ (b : Bool). if b then after_all writer.fresh (owed k (count_of y) ms T) else writer.fresh) (lt-leb hand_bytes (length y) h)

  owed_start : owed k 0 [] [] ≡ connect k ∷ []
  unfolding owed upto at_count acks_at said_after says_at
  owed_start = refl

  -- where more messages are owed, more bytes are
  out_more : (y z : List ℕ) (ms ns : List (ℕ × Message)) (T U : List Gave) (more : List Message) → hand_bytes ≤ length y → hand_bytes ≤ length z → c2 z ≡ c2 y
      → owed k (count_of z) ns U ≡ owed k (count_of y) ms T ++ more → out k z ns U ≡ out k y ms T ++ written (writer_after k y ms T) more
  out_more y z ms ns T U more h i c o =
      let l = owed k (count_of y) ms T in
      let w = after_all writer.fresh l in
      out_late z ns U i
      ∙ ap (λ (v : List ℕ). hello ++ (v ++ written writer.fresh (owed k (count_of z) ns U))) c
      ∙ ap (λ (v : List Message). hello ++ (c2 y ++ written writer.fresh v)) o
      ∙ ap (λ (v : List ℕ). hello ++ (c2 y ++ v)) (written_joined writer.fresh l more)
      ∙ ap (λ (v : List ℕ). hello ++ v) (sym (append_assoc (c2 y) (written writer.fresh l) (written w more)))
      ∙ sym (append_assoc hello (c2 y ++ written writer.fresh l) (written w more))
      ∙ ap (λ (v : List ℕ). v ++ written w more) (sym (out_late y ms T h))
      ∙ ap (λ (v : WriterKnown). out k y ms T ++ written v more) (sym (writer_late y ms T h))

  writer_more : (y z : List ℕ) (ms ns : List (ℕ × Message)) (T U : List Gave) (more : List Message) → hand_bytes ≤ length y → hand_bytes ≤ length z
      → owed k (count_of z) ns U ≡ owed k (count_of y) ms T ++ more → writer_after k z ns U ≡ after_all (writer_after k y ms T) more
  writer_more y z ms ns T U more h i o =
      writer_late z ns U i ∙ ap (after_all writer.fresh) o ∙ after_joined writer.fresh (owed k (count_of y) ms T) more
      ∙ ap (λ (v : WriterKnown). after_all v more) (sym (writer_late y ms T h))

  -- what is said more is pending, and the writer has written it
  says_owes : (y z sent pending : List ℕ) (ms ns : List (ℕ × Message)) (T U : List Gave) (w : WriterKnown) (more : List Message) → hand_bytes ≤ length y → hand_bytes ≤ length z → c2 z ≡ c2 y
      → owed k (count_of z) ns U ≡ owed k (count_of y) ms T ++ more → w ≡ writer_after k y ms T → sent ++ pending ≡ out k y ms T → sent ++ (pending ++ written w more) ≡ out k z ns U
  says_owes y z sent pending ms ns T U w more h i c o we e =
      sym (append_assoc sent pending (written w more)) ∙ ap (λ (l : List ℕ). l ++ written w more) e ∙ ap (λ (v : WriterKnown). out k y ms T ++ written v more) we
      ∙ sym (out_more y z ms ns T U more h i c o)

  -- ---- THE STEPS

  module _ (max : ℕ) where
    pub stands_new : Stands k max new_past new_keeps
    unfolding phase_after is_finished pulled_from
    stands_new = record {
      early = λ l. record { messages = refl; gave = refl };
      reaches = record { read = tt; given = tt };
      owes = sym (out_early [] [] [] (omega arith));
      writer = sym (writer_early [] [] [] (omega arith));
      window = refl;
      phase = refl;
      given = tt;
      finished = refl;
      told = refl;
    }

    pub stands_sent : (p : Past) (q : Keeps) (b rest : List ℕ) → Stands k max p q → q.pending ≡ b ++ rest → Stands k max (sent_more p b) (pending_now q rest)
    stands_sent p q b rest s e = record {
      early = λ l. let y = s.early l in record { messages = y.messages; gave = y.gave };
      reaches = s.reaches;
      owes = append_assoc p.sent b rest ∙ ap (λ (l : List ℕ). p.sent ++ l) (sym e) ∙ s.owes;
      writer = s.writer;
      window = s.window;
      phase = s.phase;
      given = s.given;
      finished = s.finished;
      told = s.told;
    }

    pub stands_hand : (p : Past) (q : Keeps) (b : List ℕ) → length (p.y ++ b) < hand_bytes → Stands k max p q → Stands k max (fed_more p b) q
    stands_hand p q b h s =
        let l = length-append p.y b in
        let less : length p.y < hand_bytes = omega (arith, h, l) in
        let c : count_of (p.y ++ b) ≡ count_of p.y = omega (arith, h, less) in
        record {
          early = λ l. let y = s.early less in record { messages = y.messages; gave = y.gave };
          reaches = subst (λ (n : ℕ). Reaches n p.ms p.gave) (sym c) s.reaches;
          owes = s.owes ∙ out_early p.y p.ms p.gave less ∙ sym (out_early (p.y ++ b) p.ms p.gave h);
          writer = s.writer ∙ writer_early p.y p.ms p.gave less ∙ sym (writer_early (p.y ++ b) p.ms p.gave h);
          window = s.window ∙ ap (λ (n : ℕ). inbound first_window n p.ms) (sym c);
          phase = s.phase;
          given = subst (λ (n : ℕ). AreGiven k max n p.ms p.gave) (sym c) s.given;
          finished = s.finished;
          told = s.told;
        }

    pub stands_greet : (p : Past) (q : Keeps) (b : List ℕ) → length p.y < hand_bytes → length (p.y ++ b) ≡ hand_bytes → Stands k max p q → Stands k max (fed_more p b) (greeted k (p.y ++ b) q)
    stands_greet p q b less h s =
        let z = p.y ++ b in
        let e = s.early less in
        let c : count_of z ≡ count_of p.y = omega (arith, h, less) in
        let zero : count_of z ≡ 0 = omega (arith, h) in
        let late : hand_bytes ≤ length z = omega (arith, h) in
        let o : owed k (count_of z) p.ms p.gave ≡ connect k ∷ [] =
        ap (λ (n : ℕ). owed k n p.ms p.gave) zero ∙ ap (λ (l : List (ℕ × Message)). owed k 0 l p.gave) e.messages ∙ ap (λ (l : List Gave). owed k 0 [] l) e.gave ∙ owed_start in
        let more = c2 z ++ written writer.fresh (connect k ∷ []) in
        record {
          early = λ l. absurd (omega (arith, l, h));
          reaches = subst (λ (n : ℕ). Reaches n p.ms p.gave) (sym c) s.reaches;
          owes = sym (append_assoc p.sent q.pending more) ∙ ap (λ (l : List ℕ). l ++ more) (s.owes ∙ out_early p.y p.ms p.gave less)
              ∙ ap (λ (l : List Message). hello ++ (c2 z ++ written writer.fresh l)) (sym o) ∙ sym (out_late z p.ms p.gave late);
          writer = ap (after_all writer.fresh) (sym o) ∙ sym (writer_late z p.ms p.gave late);
          window = s.window ∙ ap (λ (n : ℕ). inbound first_window n p.ms) (sym c);
          phase = s.phase;
          given = subst (λ (n : ℕ). AreGiven k max n p.ms p.gave) (sym c) s.given;
          finished = s.finished;
          told = s.told;
        }

    count_more : (y b : List ℕ) → hand_bytes ≤ length y → count_of (y ++ b) ≡ count_of y + length b
    count_more y b h = omega (arith, length-append y b, h)

    pub stands_fed : (p : Past) (q : Keeps) (b : List ℕ) → hand_bytes ≤ length p.y → length b ≤ room_of q.window → Stands k max p q → Stands k max (fed_more p b) (took q (length b))
    stands_fed p q b h r s =
        let n = count_of p.y in
        let z = p.y ++ b in
        let c : count_of z ≡ n + length b = count_more p.y b h in
        let late : hand_bytes ≤ length z = omega (arith, h, length-append p.y b) in
        let room : length b ≤ room_of (inbound first_window n p.ms) = subst (λ (w : InWindow). length b ≤ room_of w) s.window r in
        let a = ack_messages (ack_of q.window (length b)) in
        let o : owed k (count_of z) p.ms p.gave ≡ owed k n p.ms p.gave ++ a =
        ap (λ (i : ℕ). owed k i p.ms p.gave) c ∙ owed_fed k n (length b) p.ms p.gave s.reaches room ∙ ap (λ (w : InWindow). owed k n p.ms p.gave ++ ack_messages (ack_of w (length b))) (sym s.window) in
        let le : n ≤ count_of z = omega (arith, c) in
        record {
          early = λ l. absurd (omega (arith, l, late));
          reaches = record { read = end_more n (count_of z) p.ms le s.reaches.read; given = given_more n (count_of z) p.gave le s.reaches.given };
          owes = says_owes p.y z p.sent q.pending p.ms p.ms p.gave p.gave q.writer a h late (c2_alone p.y b h) o s.writer s.owes;
          writer = ap (λ (w : WriterKnown). after_all w a) s.writer ∙ sym (writer_more p.y z p.ms p.ms p.gave p.gave a h late o);
          window = ap (λ (w : InWindow). in_took w (length b)) s.window ∙ ap (λ (i : ℕ). inbound first_window i p.ms) (sym c);
          phase = s.phase;
          given = given_fed k max n (count_of z) p.ms p.gave le s.given;
          finished = s.finished;
          told = s.told;
        }

    window_next : (n o : ℕ) (ms : List (ℕ × Message)) (m : Message) → record { window = window_by (inbound first_window n ms).window m; taken = o } ≡ inbound first_window o (ms ++ (o, m) ∷ [])
    window_next n o ms m = ap (λ (w : ℕ). record { window = w; taken = o }) (sym (after_more first_window ms (o, m)))

    pub stands_message : (p : Past) (q : Keeps) (b : List ℕ) (m : Message) (g : Option Gift) → hand_bytes ≤ length p.y → 0 < length b → length b ≤ room_of q.window → q.gift ≡ None
        → listed g ≡ gift_for k.wish q.phase m → Stands k max p q → Stands k max (with_message p b m) (stepped (took q (length b)) m (does k q.phase m) g)
    stands_message p q b m g h some r none ge s =
        let n = count_of p.y in
        let z = p.y ++ b in
        let c : count_of z ≡ n + length b = count_more p.y b h in
        let late : hand_bytes ≤ length z = omega (arith, h, length-append p.y b) in
        let room : length b ≤ room_of (inbound first_window n p.ms) = subst (λ (w : InWindow). length b ≤ room_of w) s.window r in
        let a = ack_messages (ack_of q.window (length b)) in
        let d = does k q.phase m in
        let o = count_of z in
        let ns = p.ms ++ (o, m) ∷ [] in
        let grows : owed k (n + length b) (p.ms ++ (n + length b, m) ∷ []) p.gave ≡ owed k n p.ms p.gave ++ (ack_messages (ack_of (inbound first_window n p.ms) (length b)) ++ (does k (phase_of k p.ms) m).says) =
        owed_some k n (length b) p.ms p.gave m s.reaches some room (id_case k max n p.ms p.gave (n + length b, m) s.given) in
        let more = a ++ d.says in
        let e : owed k o ns p.gave ≡ owed k n p.ms p.gave ++ more =
        ap (λ (i : ℕ). owed k i (p.ms ++ (i, m) ∷ []) p.gave) c ∙ grows ∙ ap (λ (w : InWindow). owed k n p.ms p.gave ++ (ack_messages (ack_of w (length b)) ++ (does k (phase_of k p.ms) m).says)) (sym s.window)
        ∙ ap (λ (v : Phase). owed k n p.ms p.gave ++ (a ++ (does k v m).says)) (sym s.phase) in
        let le : n ≤ o = omega (arith, c) in
        let both : q.pending ++ written q.writer more ≡ (q.pending ++ written q.writer a) ++ written (after_all q.writer a) d.says =
        ap (λ (l : List ℕ). q.pending ++ l) (written_joined q.writer a d.says) ∙ sym (append_assoc q.pending (written q.writer a) (written (after_all q.writer a) d.says)) in
        record {
          early = λ l. absurd (omega (arith, l, late));
          reaches = record { read = end_last n o p.ms m le s.reaches.read; given = given_more n o p.gave le s.reaches.given };
          owes = ap (λ (l : List ℕ). p.sent ++ l) (sym both) ∙ says_owes p.y z p.sent q.pending p.ms ns p.gave p.gave q.writer more h late (c2_alone p.y b h) e s.writer s.owes;
          writer = sym (after_joined q.writer a d.says) ∙ ap (λ (w : WriterKnown). after_all w more) s.writer ∙ sym (writer_more p.y z p.ms ns p.gave p.gave more h late e);
          window = ap (λ (w : InWindow). record { window = window_by w.window m; taken = w.taken + length b }) s.window
              ∙ ap (λ (i : ℕ). record { window = window_by (inbound first_window n p.ms).window m; taken = i }) (sym c) ∙ window_next n o p.ms m;
          phase = ap (λ (v : Phase). (does k v m).phase) s.phase ∙ sym (phase_more k Connecting p.ms (o, m));
          given = given_message k max n o p.ms (o, m) p.gave le s.given;
          finished = s.finished;
          told = ap (λ (l : List Gift). p.taken ++ l) ge ∙ ap (λ (l : List Gift). l ++ gift_for k.wish q.phase m) (sym (append-nil p.taken) ∙ ap (λ (v : Option Gift). p.taken ++ listed v) (sym none) ∙ s.told)
              ∙ ap (λ (v : Phase). pulled k p.ms ++ gift_for k.wish v m) s.phase ∙ sym (pulled_more k Connecting p.ms (o, m));
        }

    -- one that has started has its handshake behind it
    late_start : (p : Past) (q : Keeps) → HasStarted q.phase → Stands k max p q → hand_bytes ≤ length p.y
    unfolding phase_after
    late_start p q st s = by_order (cases_lt (length p.y) hand_bytes)
      where
        by_order : (length p.y < hand_bytes) ⊎ (hand_bytes ≤ length p.y) → hand_bytes ≤ length p.y
        by_order (inl l) = absurd (subst HasStarted (s.phase ∙ ap (phase_of k) (s.early l).messages) st)
        by_order (inr le) = le

    pub stands_gave : (p : Past) (q : Keeps) (g : Gave) → HasStarted q.phase → q.finished ≡ false → g.at ≡ length p.y → MayGive k.wish max g.given → Stands k max p q
        → Stands k max (with_given p g) (gave_more q g.given)
    stands_gave p q g st fi at may s =
        let n = count_of p.y in
        let h = late_start p q st s in
        let here : g.at ≡ hand_bytes + n = omega (arith, at, h) in
        let more = sent_on (id_of q.phase) g.given ∷ [] in
        let o : owed k n p.ms (p.gave ++ g ∷ []) ≡ owed k n p.ms p.gave ++ more =
        owed_gave k n p.ms p.gave g s.reaches here ∙ ap (λ (v : Phase). owed k n p.ms p.gave ++ sent_on (id_of v) g.given ∷ []) (sym s.phase) in
        let open_yet : is_finished p.gave ≡ false = sym s.finished ∙ fi in
        record {
          early = λ l. absurd (omega (arith, l, h));
          reaches = record { read = s.reaches.read; given = given_last n p.gave g here s.reaches.given };
          owes = says_owes p.y p.y p.sent q.pending p.ms p.ms p.gave (p.gave ++ g ∷ []) q.writer more h h refl o s.writer s.owes;
          writer = ap (λ (w : WriterKnown). after_all w more) s.writer ∙ sym (writer_more p.y p.y p.ms p.ms p.gave (p.gave ++ g ∷ []) more h h o);
          window = s.window;
          phase = s.phase;
          given = given_gave k max n p.ms p.gave g (began k n Connecting p.ms s.reaches.read (λ x. x) (subst HasStarted s.phase st)) open_yet may here s.given;
          finished = sym (finished_more p.gave g open_yet);
          told = s.told;
        }

    pub stands_taken : (p : Past) (q : Keeps) (g : Gift) → q.gift ≡ Some g → Stands k max p q → Stands k max (with_taken p g) (gift_now q None)
    stands_taken p q g e s = record {
      early = λ l. let y = s.early l in record { messages = y.messages; gave = y.gave };
      reaches = s.reaches;
      owes = s.owes;
      writer = s.writer;
      window = s.window;
      phase = s.phase;
      given = s.given;
      finished = s.finished;
      told = append-nil (p.taken ++ g ∷ []) ∙ ap (λ (v : Option Gift). p.taken ++ listed v) (sym e) ∙ s.told;
    }
