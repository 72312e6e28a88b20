-- What is pending
use Rattle.std.proofs.Common.{◌≡◌, ◌⊎◌, inl, inr, ℕ, ◌+◌, ◌-◌, ◌*◌, max, ◌<◌, ◌≤◌, List, [], ◌∷◌, ◌++◌, length, drop, Result, Ok, Err, OnOk, OnErr, refl, sym, ap, ◌∙◌, arith, append-nil, append_assoc, length-append}
use Rattle.std.proofs.lemmas.List.{drop-append-le, length-drop}
use Rattle.av_unit.specs.declared.bytes.OutOfMemory.{OutOfMemory}
use Rattle.chunk_wire.specs.declared.message.Message.{Message}
use Rattle.chunk_writer.specs.WriterKnown.{WriterKnown}
use Rattle.chunk_writer.specs.Written.{after_all, bytes_of, next, written}
use Rattle.chunk_writer.proofs.Going.{after_joined, written_joined}
use Rattle.rtmp_client.specs.Owing.{Apart, IsOwing, IsSayable, Owing, Says, Shows, cost_of, owing}
use Rattle.rtmp_client.proofs.Lengths.{bytes_most, bytes_wide, next_sized}

pub written_one : (w : WriterKnown) (m : Message) → written w (m ∷ []) ≡ bytes_of w m
unfolding written
written_one w m = append-nil (bytes_of w m)

pub after_one : (w : WriterKnown) (m : Message) → after_all w (m ∷ []) ≡ next w m
unfolding after_all
after_one w m = refl

few_more : (bytes more : List ℕ) (offset : ℕ) → (offset < 16384) ⊎ (offset < length bytes - offset) → (offset < 16384) ⊎ (offset < length (bytes ++ more) - offset)
few_more bytes more offset (inl l) = inl l
few_more bytes more offset (inr l) = inr (omega (arith, l, length-append bytes more))

-- what the fields keep after a message
kept_more : (bytes : List ℕ) (offset tag : ℕ) (w : WriterKnown) (m : Message) → IsOwing bytes offset tag w → IsSayable m → IsOwing (bytes ++ bytes_of w m) offset tag (next w m)
kept_more bytes offset tag w m i s =
    let l = length-append bytes (bytes_of w m) in
    record {
      within = omega (arith, i.within, l);
      marked = omega (arith, i.marked, l);
      few = few_more bytes (bytes_of w m) offset i.few;
      drained = λ e. i.drained (omega (arith, i.within, l, e));
      sized = next_sized w m i.sized s;
    }

pub kept_said : (bytes out : List ℕ) (offset tag : ℕ) (w v : WriterKnown) (m : Message) (r : Result (Unit {0}) OutOfMemory) → IsOwing bytes offset tag w → IsSayable m → OnOk r (v ≡ next w m) → OnOk r (out ≡ bytes ++ bytes_of w m)
    → OnErr r ((v ≡ w) × (out ≡ bytes)) → IsOwing out offset tag v
kept_said bytes out offset tag w v m (Ok u) i s ve oe x = rw (ve, oe) (kept_more bytes offset tag w m i s)
kept_said bytes out offset tag w v m (Err e) i s ve oe x = rw (x.0, x.1) i

says_one : (bytes : List ℕ) (offset tag : ℕ) (w : WriterKnown) (m : Message) → IsOwing bytes offset tag w → Says (owing bytes offset tag w) (m ∷ []) (owing (bytes ++ bytes_of w m) offset tag (next w m))
says_one bytes offset tag w m i =
    let e = written_one w m in
    record {
      bytes = drop-append-le offset bytes (bytes_of w m) i.within ∙ ap (λ (b : List ℕ). drop offset bytes ++ b) (sym e);
      writer = sym (after_one w m);
      others = omega (arith, length-append bytes (bytes_of w m), i.within, i.marked, ap length e);
    }

pub said_one : (s : Owing) (bytes out : List ℕ) (offset tag : ℕ) (w v : WriterKnown) (m : Message) (r : Result (Unit {0}) OutOfMemory) → owing bytes offset tag w ≡ s → IsOwing bytes offset tag w
    → OnOk r (v ≡ next w m) → OnOk r (out ≡ bytes ++ bytes_of w m) → OnOk r (Says s (m ∷ []) (owing out offset tag v))
said_one s bytes out offset tag w v m (Ok u) is i ve oe = rw (← is) (rw (ve, oe) (says_one bytes offset tag w m i))
said_one s bytes out offset tag w v m (Err x) is i ve oe = oe

pub light_one : (s : Owing) (bytes out : List ℕ) (offset tag : ℕ) (w v : WriterKnown) (m : Message) (r : Result (Unit {0}) OutOfMemory) → owing bytes offset tag w ≡ s → IsOwing bytes offset tag w
    → OnOk r (out ≡ bytes ++ bytes_of w m) → OnErr r ((v ≡ w) × (out ≡ bytes)) → 16 * (length out - max offset tag) ≤ 16 * s.others + cost_of m
light_one s bytes out offset tag w v m (Ok u) is i oe x =
    rw (← is) (omega (arith, ap length oe, length-append bytes (bytes_of w m), i.within, i.marked, bytes_most w m i.sized))
light_one s bytes out offset tag w v m (Err e) is i oe x = rw (← is) (rw (x.1) (omega arith))

-- a tag, where nothing is pending
pub kept_tag : (bytes out : List ℕ) (offset tag n : ℕ) (w v : WriterKnown) (m : Message) → IsOwing bytes offset tag w → IsSayable m → v ≡ next w m → out ≡ bytes ++ bytes_of w m → n ≡ length out → IsOwing out offset n v
kept_tag bytes out offset tag n w v m i s ve oe ne =
    let k : IsOwing out offset tag v = rw (ve, oe) (kept_more bytes offset tag w m i s) in
    record { within = k.within; marked = omega (arith, ne); few = k.few; drained = k.drained; sized = k.sized }

pub shown_tag : (s : Owing) (bytes out : List ℕ) (offset tag n : ℕ) (w v : WriterKnown) (m : Message) → owing bytes offset tag w ≡ s → IsOwing bytes offset tag w → v ≡ next w m → out ≡ bytes ++ bytes_of w m → n ≡ length out
    → Shows s m (owing out offset n v)
shown_tag s bytes out offset tag n w v m is i ve oe ne =
    let e = written_one w m in
    rw (← is) (record {
      bytes = ap (drop offset) oe ∙ drop-append-le offset bytes (bytes_of w m) i.within ∙ ap (λ (b : List ℕ). drop offset bytes ++ b) (sym e);
      writer = ve ∙ sym (after_one w m);
      others = omega (arith, ne, ap length oe, length-append bytes (bytes_of w m), i.within);
    })

pub most_tag : (s : Owing) (bytes out : List ℕ) (offset tag : ℕ) (w : WriterKnown) (m : Message) → owing bytes offset tag w ≡ s → s.pending ≡ [] → out ≡ bytes ++ bytes_of w m → s.writer.size ≡ 4096
    → 512 * length (drop offset out) ≤ 9216 + 513 * length m.body
most_tag s bytes out offset tag w m is none oe z =
    let size : w.size ≡ 4096 = ap (λ (o : Owing). o.writer.size) is ∙ z in
    let zero : length (drop offset bytes) ≡ 0 = ap length (ap (λ (o : Owing). o.pending) is ∙ none) in
    omega (arith, zero, length-drop offset bytes, length-drop offset out, ap length oe, length-append bytes (bytes_of w m), bytes_wide w m size)

-- ---- one after the other

pub says_nothing : (o : Owing) → Says o [] o
unfolding written after_all
says_nothing o = record { bytes = sym (append-nil o.pending); writer = refl; others = omega arith }

pub says_joined : (o p q : Owing) (l m : List Message) → Says o l p → Says p m q → Says o (l ++ m) q
says_joined o p q l m a b =
    let e = written_joined o.writer l m in
    let w = after_all o.writer l in
    record {
      bytes = b.bytes ∙ ap (λ (x : List ℕ). x ++ written p.writer m) a.bytes ∙ ap (λ (x : WriterKnown). (o.pending ++ written o.writer l) ++ written x m) a.writer
          ∙ append_assoc o.pending (written o.writer l) (written w m) ∙ ap (λ (x : List ℕ). o.pending ++ x) (sym e);
      writer = b.writer ∙ ap (λ (x : WriterKnown). after_all x m) a.writer ∙ sym (after_joined o.writer l m);
      others = omega (arith, a.others, b.others, ap (λ (x : WriterKnown). length (written x m)) a.writer, ap length e, length-append (written o.writer l) (written w m));
    }

pub apart_both : (o p q : Owing) → Apart o p → Apart p q → Apart o q
apart_both o p q a b = omega (arith, a, b)
