-- What is pending
use Rattle.std.proofs.Common.{◌≡◌, ℕ, ◌+◌, ◌-◌, ◌*◌, max, ◌<◌, ◌≤◌, false, nat_eq, List, [], ◌∷◌, ◌++◌, length, drop, take, get_or, Option, Some, None, Result, Ok, Err, OnOk, OnErr, refl, sym, ap, ◌∙◌, subst, arith, append-nil, append_assoc, length-append}
use Rattle.std.proofs.lemmas.List.{append_cancel_left, drop-append-le, take_all}
use Rattle.av_unit.specs.declared.bytes.OutOfMemory.{OutOfMemory}
use Rattle.chunk_wire.specs.declared.message.Message.{Message}
use Rattle.chunk_writer.specs.WriterKnown.{WriterKnown}
use Rattle.chunk_writer.specs.Written.{after, after_all, bytes_of, next, resized_by, written}
use Rattle.chunk_writer.proofs.Chunked.{all_left}
use Rattle.av_unit.specs.Media.{Media}
use Rattle.av_unit.specs.Classes.{message_type}
use Rattle.av_unit.specs.declared.unit.Kind.{Kind}
use Rattle.av_unit.specs.declared.unit.Kind.TheVariants.{Meta, VConfig, AConfig, Key, Inter, Spare, Audio, Data}
use Rattle.command_dialog.specs.Dialog.{unit_message}
use Rattle.session_owed.specs.Chunks.{Hand, hand_of}
use Rattle.relay_session.specs.Owing.{AreWritable, Goes, IsOwing, IsSayable, IsSized, Owing, Says, Shows, cost_of, costs_of, left, others_by, owing, pending, shown_by}
use Rattle.relay_session.proofs.Lengths.{bytes_most, next_sized}

written_one : (w : WriterKnown) (m : Message) → written w (m ∷ []) ≡ bytes_of w m
unfolding written
written_one w m = append-nil (bytes_of w m)

after_one : (w : WriterKnown) (m : Message) → after_all w (m ∷ []) ≡ next w m
unfolding after_all
after_one w m = refl

-- messages after the first bytes, where no unit is in hand
say_first : (first : List ℕ) (offset item : ℕ) (later : List ℕ) (w : WriterKnown) (l : List Message) → offset ≤ length first → item ≤ length first → later ≡ []
    → Says (owing first offset item None later w) l (owing (first ++ written w l) offset item None later (after_all w l))
say_first first offset item later w l le it none = rw none (record {
  bytes = append-nil (drop offset (first ++ written w l)) ∙ drop-append-le offset first (written w l) le ∙ ap (λ (b : List ℕ). b ++ written w l) (sym (append-nil (drop offset first)));
  writer = refl;
  others = omega (arith, length-append first (written w l), le, it);
})

pub say_none : (s : Owing) (first : List ℕ) (offset item : ℕ) (hand : Option Hand) (later : List ℕ) (w v : WriterKnown) (out : List ℕ) (l : List Message) (r : Result (Unit {0}) OutOfMemory)
    → owing first offset item hand later w ≡ s → IsOwing first offset item hand later w → hand ≡ None
    → OnOk r (v ≡ after_all w l) → OnOk r (out ≡ first ++ written w l) → OnOk r (Says s l (owing out offset item hand later v))
say_none s first offset item hand later w v out l (Ok u) is i none e f = rw (← is) (rw (none, e, f) (say_first first offset item later w l i.within i.marked (i.idle none)))
say_none s first offset item hand later w v out l (Err x) is i none e f = e

-- what the fields keep then
pub none_kept : (first out : List ℕ) (offset item : ℕ) (hand : Option Hand) (later : List ℕ) (w v : WriterKnown) (m : Message) (r : Result (Unit {0}) OutOfMemory) → IsOwing first offset item hand later w → hand ≡ None → IsSayable m
    → OnOk r (v ≡ next w m) → OnOk r (out ≡ first ++ bytes_of w m) → OnErr r ((v ≡ w) × (out ≡ first)) → IsOwing out offset item hand later v
none_kept first out offset item hand later w v m (Ok u) i none s ve oe x =
    let n = omega_length first (bytes_of w m) in
    rw (ve, oe) (record {
      within = omega (arith, i.within, n);
      few = i.few;
      drained = λ e. i.drained (omega (arith, i.within, n, e));
      marked = omega (arith, i.marked, n);
      idle = i.idle;
      sized = next_sized w m i.sized s;
      hand_sized = i.hand_sized;
      shown = shown_none first (first ++ bytes_of w m) offset item hand none i.shown;
    })
  where
    omega_length : (a b : List ℕ) → length (a ++ b) ≡ length a + length b
    omega_length a b = length-append a b

    shown_none : (a b : List ℕ) (offset item : ℕ) (h : Option Hand) → h ≡ None → shown_by a offset item h ≤ 20498 → shown_by b offset item h ≤ 20498
    shown_none a b offset item None e le = le
    shown_none a b offset item (Some h) e le = absurd (cc)
none_kept first out offset item hand later w v m (Err e) i none s ve oe x = rw (x.0, x.1) i

-- and how many answers wait then
light_first : (first out more : List ℕ) (n k cost : ℕ) → out ≡ first ++ more → n ≡ length first - k → 16 * length more ≤ cost → 16 * (length out - k) ≤ 16 * n + cost
light_first first out more n k cost e ne le = omega (arith, ap length e, length-append first more, ne, le)

pub none_light : (s : Owing) (first out : List ℕ) (offset item : ℕ) (hand : Option Hand) (later : List ℕ) (w v : WriterKnown) (m : Message) (r : Result (Unit {0}) OutOfMemory) → owing first offset item hand later w ≡ s
    → IsSized w.size → hand ≡ None → OnOk r (out ≡ first ++ bytes_of w m) → OnErr r ((v ≡ w) × (out ≡ first)) → 16 * others_by out offset item hand later ≤ 16 * s.others + cost_of m
none_light s first out offset item hand later w v m (Ok u) is k none oe x =
    rw (← is) (rw none (light_first first out (bytes_of w m) (length first - max offset item) (max offset item) (cost_of m) oe refl (bytes_most w m k)))
none_light s first out offset item hand later w v m (Err e) is k none oe x = rw (← is) (rw (x.1) (omega arith))

pub some_light : (s : Owing) (first : List ℕ) (offset item : ℕ) (hand : Option Hand) (h : Hand) (later out : List ℕ) (w v : WriterKnown) (m : Message) (r : Result (Unit {0}) OutOfMemory) → owing first offset item hand later w ≡ s
    → IsSized w.size → hand ≡ Some h → OnOk r (out ≡ later ++ bytes_of w m) → OnErr r ((v ≡ w) × (out ≡ later)) → 16 * others_by first offset item hand out ≤ 16 * s.others + cost_of m
some_light s first offset item hand h later out w v m (Ok u) is k some oe x =
    rw (← is) (rw some (omega (arith, ap length oe, length-append later (bytes_of w m), bytes_most w m k)))
some_light s first offset item hand h later out w v m (Err e) is k some oe x = rw (← is) (rw (x.1) (omega arith))

pub some_kept : (first : List ℕ) (offset item : ℕ) (hand : Option Hand) (h : Hand) (later out : List ℕ) (w v : WriterKnown) (m : Message) (r : Result (Unit {0}) OutOfMemory) → IsOwing first offset item hand later w → hand ≡ Some h → IsSayable m
    → OnOk r (v ≡ next w m) → OnErr r ((v ≡ w) × (out ≡ later)) → IsOwing first offset item hand out v
some_kept first offset item hand h later out w v m (Ok u) i some s ve x = rw ve (record {
  within = i.within;
  few = i.few;
  drained = i.drained;
  marked = i.marked;
  idle = λ e. absurd (let f : Some h ≡ None = sym some ∙ e in cc);
  sized = next_sized w m i.sized s;
  hand_sized = i.hand_sized;
  shown = i.shown;
})
some_kept first offset item hand h later out w v m (Err e) i some s ve x = rw (x.0, x.1) i

-- and after what is said meanwhile, where one is
say_later : (first : List ℕ) (offset item : ℕ) (h : Hand) (later : List ℕ) (w : WriterKnown) (l : List Message)
    → Says (owing first offset item (Some h) later w) l (owing first offset item (Some h) (later ++ written w l) (after_all w l))
say_later first offset item h later w l = record {
  bytes = ap (λ (b : List ℕ). drop offset first ++ b) (sym (append_assoc (left h) later (written w l))) ∙ sym (append_assoc (drop offset first) (left h ++ later) (written w l));
  writer = refl;
  others = length-append later (written w l);
}

pub say_some : (s : Owing) (first : List ℕ) (offset item : ℕ) (hand : Option Hand) (h : Hand) (later : List ℕ) (w v : WriterKnown) (out : List ℕ) (l : List Message) (r : Result (Unit {0}) OutOfMemory)
    → owing first offset item hand later w ≡ s → hand ≡ Some h
    → OnOk r (v ≡ after_all w l) → OnOk r (out ≡ later ++ written w l) → OnOk r (Says s l (owing first offset item hand out v))
say_some s first offset item hand h later w v out l (Ok u) is some e f = rw (← is) (rw (some, e, f) (say_later first offset item h later w l))
say_some s first offset item hand h later w v out l (Err x) is some e f = e

-- the same of one message
pub one_after : (w v : WriterKnown) (m : Message) (r : Result (Unit {0}) OutOfMemory) → OnOk r (v ≡ next w m) → OnOk r (v ≡ after_all w (m ∷ []))
one_after w v m (Ok u) e = e ∙ sym (after_one w m)
one_after w v m (Err x) e = e

pub one_bytes : (w : WriterKnown) (before out : List ℕ) (m : Message) (r : Result (Unit {0}) OutOfMemory) → OnOk r (out ≡ before ++ bytes_of w m) → OnOk r (out ≡ before ++ written w (m ∷ []))
one_bytes w before out m (Ok u) e = e ∙ ap (λ (b : List ℕ). before ++ b) (sym (written_one w m))
one_bytes w before out m (Err x) e = e

-- chunks of the unit in hand are encoded
pub fill_bytes : (first out : List ℕ) (offset item : ℕ) (h k : Hand) (later : List ℕ) (w : WriterKnown) → offset ≤ length first → Goes h first k out
    → pending (owing out offset item (Some k) later w) ≡ pending (owing first offset item (Some h) later w)
fill_bytes first out offset item h k later w le g =
    let same : g.more ++ left k ≡ left h = append_cancel_left first (g.more ++ left k) (left h) (sym (append_assoc first g.more (left k)) ∙ ap (λ (l : List ℕ). l ++ left k) (sym g.after) ∙ g.same) in
    let front : drop offset out ≡ drop offset first ++ g.more = ap (drop offset) g.after ∙ drop-append-le offset first g.more le in
    ap (λ (l : List ℕ). l ++ (left k ++ later)) front ∙ append_assoc (drop offset first) g.more (left k ++ later)
    ∙ ap (λ (l : List ℕ). drop offset first ++ l) (sym (append_assoc g.more (left k) later) ∙ ap (λ (l : List ℕ). l ++ later) same)

pub fill_same : (s : Owing) (first out : List ℕ) (offset item : ℕ) (hand : Option Hand) (h k : Hand) (later : List ℕ) (w : WriterKnown) → owing first offset item hand later w ≡ s → hand ≡ Some h → offset ≤ length first → Goes h first k out
    → pending (owing out offset item (Some k) later w) ≡ pending s
fill_same s first out offset item hand h k later w is some le g = rw (← is) (rw some (fill_bytes first out offset item h k later w le g))

-- a unit is begun where nothing is pending
not_size : (k : Kind) → nat_eq (message_type k) 1 ≡ false
not_size Meta = refl
not_size VConfig = refl
not_size AConfig = refl
not_size Key = refl
not_size Inter = refl
not_size Spare = refl
not_size Audio = refl
not_size Data = refl

after_unit : (w : WriterKnown) (stream : ℕ) (u : Media) → after_all w (unit_message stream u ∷ []) ≡ after w (unit_message stream u)
unfolding after_all resized_by
after_unit w stream u = rw (not_size u.kind) refl

pub unit_says : (s : Owing) (stream : ℕ) (u : Media) (w v : WriterKnown) (h : Hand) (first later : List ℕ) → s.writer ≡ w → pending s ≡ [] → h ≡ hand_of w (unit_message stream u) → v ≡ after w (unit_message stream u)
    → first ≡ [] → later ≡ [] → Shows s (unit_message stream u ∷ []) (owing first 0 0 (Some h) later v)
unit_says s stream u w v h first later is none he ve fe le =
    let m = unit_message stream u in
    rw (he, ve, fe, le) (record {
      bytes = append-nil (left (hand_of w m)) ∙ all_left w m ∙ sym (written_one w m) ∙ ap (λ (x : WriterKnown). written x (m ∷ [])) (sym is) ∙ ap (λ (l : List ℕ). l ++ written s.writer (m ∷ [])) (sym none);
      writer = sym (after_unit w stream u) ∙ ap (λ (x : WriterKnown). after_all x (m ∷ [])) (sym is);
      others = refl;
    })

-- what the loop over messages keeps: what is to be written is what is left to be written
pub record IsWriting (old : WriterKnown) (before : List ℕ) (all : List Message) (now : WriterKnown) (out : List ℕ) (rest : List Message) : Type 0 where
  pub bytes : out ++ written now rest ≡ before ++ written old all
  pub writer : after_all now rest ≡ after_all old all
  pub can : AreWritable rest
  pub grows : length before ≤ length out
  pub sized : IsSized old.size → IsSized now.size
  pub light : IsSized old.size → 16 * length out + costs_of rest ≤ 16 * length before + costs_of all

rest_of : (m : Message) (ms : List Message) → take (length (m ∷ ms) - 1) (drop 1 (m ∷ ms)) ≡ ms
rest_of m ms = take_all (length (m ∷ ms) - 1) ms (omega arith)

written_more : (w : WriterKnown) (m : Message) (ms : List Message) → written w (m ∷ ms) ≡ bytes_of w m ++ written (next w m) ms
unfolding written
written_more w m ms = refl

after_more : (w : WriterKnown) (m : Message) (ms : List Message) → after_all w (m ∷ ms) ≡ after_all (next w m) ms
unfolding after_all
after_more w m ms = refl

pub writing_more : (old now new : WriterKnown) (before out more : List ℕ) (all l : List Message) (m : Message) → 1 ≤ length l → m ≡ get_or l 0 m → IsWriting old before all now out l
    → new ≡ next now m → more ≡ out ++ bytes_of now m → IsWriting old before all new more (take (length l - 1) (drop 1 l))
writing_more old now new before out more all [] m some is i ne me = absurd (omega (arith, some))
writing_more old now new before out more all (x ∷ ms) m some is i ne me =
    let one : m ≡ x = is in
    let n : new ≡ next now x = ne ∙ ap (next now) one in
    let b : more ≡ out ++ bytes_of now x = me ∙ ap (λ (y : Message). out ++ bytes_of now y) one in
    rw (rest_of x ms) (record {
      bytes = ap (λ (y : List ℕ). y ++ written new ms) b ∙ append_assoc out (bytes_of now x) (written new ms) ∙ ap (λ (v : WriterKnown). out ++ (bytes_of now x ++ written v ms)) n
          ∙ ap (λ (y : List ℕ). out ++ y) (sym (written_more now x ms)) ∙ i.bytes;
      writer = ap (λ (v : WriterKnown). after_all v ms) n ∙ sym (after_more now x ms) ∙ i.writer;
      can = i.can.1;
      grows = omega (arith, i.grows, ap length b, length-append out (bytes_of now x));
      sized = λ k. subst (λ (v : WriterKnown). IsSized v.size) (sym n) (next_sized now x (i.sized k) i.can.0);
      light = λ k. omega (arith, i.light k, ap length b, length-append out (bytes_of now x), bytes_most now x (i.sized k));
    })

none_written : (w : WriterKnown) → written w [] ≡ []
unfolding written
none_written w = refl

none_after : (w : WriterKnown) → after_all w [] ≡ w
unfolding after_all
none_after w = refl

pub written_all : (old now : WriterKnown) (before out : List ℕ) (all l : List Message) → length l < 1 → IsWriting old before all now out l → (now ≡ after_all old all) × (out ≡ before ++ written old all)
written_all old now before out all [] none i =
    (sym (none_after now) ∙ i.writer, sym (append-nil out) ∙ ap (λ (b : List ℕ). out ++ b) (sym (none_written now)) ∙ i.bytes)
written_all old now before out all (x ∷ l) none i = absurd (omega (arith, none))
