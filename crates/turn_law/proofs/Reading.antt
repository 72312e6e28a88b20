-- At which byte a message ends, or the input is refused, is a function of the input
use Rattle.std.proofs.Common.{◌≡◌, ℕ, zero, suc, ◌+◌, ◌-◌, ◌<◌, ◌≤◌, inl, inr, List, ◌++◌, ◌∷◌, [], length, take, drop, Option, None, true, false, refl, sym}
use Rattle.std.proofs.Common.{ap, ◌∙◌, subst, arith, append_assoc, length-append}
use Rattle.std.specs.Option.{is_some}
use Rattle.std.proofs.lemmas.Bool.{cases_lt}
use Rattle.std.proofs.lemmas.List.{append_cancel_left, drop-take, drop_all, length-take, take-append-drop, take-take, take_at}
use Rattle.chunk_wire.specs.declared.message.Message.{Message}
use Rattle.chunk_wire.specs.State.{fresh_state}
use Rattle.chunk_reader.specs.Reads.{Reads}
use Rattle.chunk_reader.specs.Sound.{IsRead}
use Rattle.chunk_reader.specs.Stops.{Stops}
use Rattle.chunk_reader.specs.declared.fail.ReadCause.{ReadCause}
use Rattle.chunk_reader.proofs.Apart.{refused_not_read}
use Rattle.chunk_reader.proofs.Once.{one_reading}
use Rattle.chunk_reader.proofs.Parts.{reads_part}
use Rattle.chunk_reader.proofs.Reading.{reads_nothing}
use Rattle.chunk_reader.proofs.Single.{one_stop}
use Rattle.rtmp_handshake.specs.Answer.{bad_version}

-- ---- in the bytes of chunks

-- of the bytes b the first k read as one message more than these, which ends with the last of them
abbrev pub EndsAt : ℕ → List (ℕ × Message) → List ℕ → ℕ → Message → Type 0
EndsAt max ms b k m = IsRead max (take k b) (ms ++ (k, m) ∷ [])

pushed_not : {X : Type 0} (xs ys zs : List X) (x : X) → ys ≡ xs ++ x ∷ [] → xs ≡ ys ++ zs → ⊥
pushed_not xs ys zs x e f = omega (arith, ap length e, ap length f, length-append xs (x ∷ []), length-append ys zs)

same_messages : (max : ℕ) (b : List ℕ) (ms ns : List (ℕ × Message)) → IsRead max b ms → IsRead max b ns → ms ≡ ns
same_messages max b ms ns r q = (one_reading max b ms ns r.s q.s r.r q.r r.reads q.reads).messages_same

pub ends_some : (max : ℕ) (ms : List (ℕ × Message)) (b : List ℕ) (k : ℕ) (m : Message) → EndsAt max ms b k m → 0 < k
ends_some max ms b zero m e =
    let same : ms ++ (0, m) ∷ [] ≡ [] = same_messages max [] (ms ++ (0, m) ∷ []) [] e (record { s = fresh_state; r = []; reads = reads_nothing max }) in
    absurd (omega (arith, ap length same, length-append ms ((0, m) ∷ [])))
ends_some max ms b (suc k) m e = omega arith

-- bytes that read as no more messages have none that ends in them
read_not_end : (max : ℕ) (ms : List (ℕ × Message)) (b : List ℕ) (k : ℕ) (m : Message) → IsRead max b ms → EndsAt max ms b k m → ⊥
read_not_end max ms b k m r e =
    let p = reads_part max b k ms r.s r.r r.reads in
    pushed_not ms p.first p.later (k, m) (same_messages max (take k b) p.first (ms ++ (k, m) ∷ []) (record { s = p.s; r = p.r; reads = p.reads }) e) p.begins

ends_later : (max : ℕ) (ms : List (ℕ × Message)) (b : List ℕ) (j k : ℕ) (m : Message) → IsRead max (take j b) ms → EndsAt max ms b k m → j < k
ends_later max ms b j k m r e = elim (cases_lt j k) [
  | inl less ↦ less
  | inr le ↦ absurd (read_not_end max ms (take j b) k m r (subst (λ (u : List ℕ). IsRead max u (ms ++ (k, m) ∷ [])) (sym (take-take k j b le)) e))
]

ends_first : (max : ℕ) (ms : List (ℕ × Message)) (b : List ℕ) (k j : ℕ) (m n : Message) → k ≤ j → EndsAt max ms b k m → EndsAt max ms b j n → (k ≡ j) × (m ≡ n)
ends_first max ms b k j m n le e f =
    let p = reads_part max (take j b) k (ms ++ (j, n) ∷ []) f.s f.r f.reads in
    let first : p.first ≡ ms ++ (k, m) ∷ [] = same_messages max (take k b) p.first (ms ++ (k, m) ∷ [])
    (subst (λ (u : List ℕ). IsRead max u p.first) (take-take k j b le) (record { s = p.s; r = p.r; reads = p.reads })) e in
    let whole : ms ++ (j, n) ∷ [] ≡ (ms ++ (k, m) ∷ []) ++ p.later = p.begins ∙ ap (λ (l : List (ℕ × Message)). l ++ p.later) first in
    let tail : (j, n) ∷ [] ≡ (k, m) ∷ p.later = append_cancel_left ms ((j, n) ∷ []) ((k, m) ∷ p.later) (whole ∙ append_assoc ms ((k, m) ∷ []) p.later) in
    (ap (head_place k) (sym tail), ap (head_message m) (sym tail))
  where
    head_place : ℕ → List (ℕ × Message) → ℕ
    head_place d [] = d
    head_place d (x ∷ xs) = x.0

    head_message : Message → List (ℕ × Message) → Message
    head_message d [] = d
    head_message d (x ∷ xs) = x.1

ends_once : (max : ℕ) (ms : List (ℕ × Message)) (b : List ℕ) (k j : ℕ) (m n : Message) → EndsAt max ms b k m → EndsAt max ms b j n → (k ≡ j) × (m ≡ n)
ends_once max ms b k j m n e f = elim (cases_lt k j) [
  | inl less ↦ ends_first max ms b k j m n (omega (arith, less)) e f
  | inr le ↦ (let back = ends_first max ms b j k n m le f e in (sym back.0, sym back.1))
]

stops_not_read : (max : ℕ) (ms : List (ℕ × Message)) (b : List ℕ) (cause : ReadCause) (p : ℕ) → Stops max b cause p → IsRead max b ms → ⊥
stops_not_read max ms b cause p st r =
    refused_not_read max b (drop (p + 1) b) cause p ms r.s r.r st (subst (λ (u : List ℕ). Reads max u ms r.s r.r) (sym (take-append-drop (p + 1) b)) r.reads)

stops_not_end : (max : ℕ) (ms : List (ℕ × Message)) (b : List ℕ) (cause : ReadCause) (p k : ℕ) (m : Message) → Stops max b cause p
    → IsRead max (take p b) ms → EndsAt max ms b k m → ⊥
stops_not_end max ms b cause p k m st r e =
    let less : p < k = ends_later max ms b p k m r e in
    let front : take (p + 1) (take k b) ≡ take (p + 1) b = take-take (p + 1) k b (omega (arith, less)) in
    let parts : take k b ≡ take (p + 1) b ++ drop (p + 1) (take k b) =
    sym (take-append-drop (p + 1) (take k b)) ∙ ap (λ (u : List ℕ). u ++ drop (p + 1) (take k b)) front in
    refused_not_read max b (drop (p + 1) (take k b)) cause p (ms ++ (k, m) ∷ []) e.s e.r st
    (subst (λ (u : List ℕ). Reads max u (ms ++ (k, m) ∷ []) e.s e.r) parts e.reads)

-- ---- in all bytes, of which the first so many are of the handshake

-- what the bytes come to: no message more, one that ends with these, a version that isn't taken, or a byte of chunks that is refused
pub data Fate : Type 0 where
  Quiet : Fate
  Heard : List ℕ → Message → Fate
  BadStart : Fate
  BadBytes : ReadCause → ℕ → Fate

module _ (hand max : ℕ) (ms : List (ℕ × Message)) (y : List ℕ) where
  abbrev pub Fares : Fate → Type 0
  Fares Quiet = (bad_version y ≡ None) × IsRead max (drop hand y) ms
  Fares (Heard z m) = (bad_version y ≡ None) × (z ≡ take (length z) y) × EndsAt max ms (drop hand y) (length z - hand) m
  Fares BadStart = is_some (bad_version y) ≡ true
  Fares (BadBytes cause n) = (bad_version y ≡ None) × (hand ≤ n) × Stops max (drop hand y) cause (n - hand) × IsRead max (take (n - hand) (drop hand y)) ms

  none_some : bad_version y ≡ None → is_some (bad_version y) ≡ true → ⊥
  none_some e s = (let t : false ≡ true = sym (ap (λ (o : Option ℕ). is_some o) e) ∙ s in absurd (cc))

  -- THEY COME TO ONE THING
  pub one_fate : (f g : Fate) → Fares f → Fares g → f ≡ g
  one_fate Quiet Quiet a b = refl
  one_fate Quiet (Heard z m) a b = absurd (read_not_end max ms (drop hand y) (length z - hand) m a.1 b.2)
  one_fate Quiet BadStart a b = absurd (none_some a.0 b)
  one_fate Quiet (BadBytes c n) a b = absurd (stops_not_read max ms (drop hand y) c (n - hand) b.2 a.1)
  one_fate (Heard z m) Quiet a b = absurd (read_not_end max ms (drop hand y) (length z - hand) m b.1 a.2)
  one_fate (Heard z m) (Heard w n) a b =
      let once = ends_once max ms (drop hand y) (length z - hand) (length w - hand) m n a.2 b.2 in
      let some = ends_some max ms (drop hand y) (length z - hand) m a.2 in
      let long : length z ≡ length w = omega (arith, once.0, some) in
      let same : z ≡ w = a.1 ∙ (ap (λ (k : ℕ). take k y) long ∙ sym b.1) in
      ap (λ (l : List ℕ). Heard l m) same ∙ ap (λ (x : Message). Heard w x) once.1
  one_fate (Heard z m) BadStart a b = absurd (none_some a.0 b)
  one_fate (Heard z m) (BadBytes c n) a b = absurd (stops_not_end max ms (drop hand y) c (n - hand) (length z - hand) m b.2 b.3 a.2)
  one_fate BadStart Quiet a b = absurd (none_some b.0 a)
  one_fate BadStart (Heard z m) a b = absurd (none_some b.0 a)
  one_fate BadStart BadStart a b = refl
  one_fate BadStart (BadBytes c n) a b = absurd (none_some b.0 a)
  one_fate (BadBytes c n) Quiet a b = absurd (stops_not_read max ms (drop hand y) c (n - hand) a.2 b.1)
  one_fate (BadBytes c n) (Heard z m) a b = absurd (stops_not_end max ms (drop hand y) c (n - hand) (length z - hand) m a.2 a.3 b.2)
  one_fate (BadBytes c n) BadStart a b = absurd (none_some a.0 b)
  one_fate (BadBytes c n) (BadBytes d k) a b =
      let same = one_stop max (drop hand y) c d (n - hand) (k - hand) a.2 b.2 in
      let place : n ≡ k = omega (arith, same.place_same, a.1, b.1) in
      ap (λ (x : ReadCause). BadBytes x n) same.cause_same ∙ ap (λ (x : ℕ). BadBytes d x) place

-- ---- the first bytes

pub drop_front : (h n : ℕ) (y : List ℕ) → drop h (take n y) ≡ take (n - h) (drop h y)
drop_front h n y = elim (cases_lt n h) [
  | inl less ↦ (let none : n - h ≡ 0 = omega (arith, less) in
      drop_all h (take n y) (omega (arith, less, length-take n y)) ∙ sym (ap (λ (k : ℕ). take k (drop h y)) none))
  | inr le ↦ (let whole : h + (n - h) ≡ n = omega (arith, le) in
      ap (λ (k : ℕ). drop h (take k y)) (sym whole) ∙ drop-take h (n - h) y)
]

pub front_is : (x fed left input z : List ℕ) → z ≡ x ++ fed → fed ++ left ≡ input → z ≡ take (length z) (x ++ input)
front_is x fed left input z e s =
    let whole : x ++ input ≡ z ++ left = ap (λ (u : List ℕ). x ++ u) (sym s) ∙ (sym (append_assoc x fed left) ∙ ap (λ (u : List ℕ). u ++ left) (sym e)) in
    sym (take_at z left (length z) refl) ∙ ap (λ (u : List ℕ). take (length z) u) (sym whole)

-- the version of first bytes is that of all
pub version_front : (z y : List ℕ) → z ≡ take (length z) y → 0 < length z → bad_version z ≡ None → bad_version y ≡ None
version_front [] y e s v = absurd (omega (arith, s))
version_front (b ∷ z) [] e s v = refl
version_front (b ∷ z) (c ∷ y) e s v = (let same : b ≡ c = ap (first_or b) e in subst (λ (k : ℕ). bad_version (k ∷ y) ≡ None) same v)
  where
    first_or : ℕ → List ℕ → ℕ
    first_or d [] = d
    first_or d (x ∷ xs) = x

-- the message that was heard, and with which bytes
abbrev pub heard_with : List ℕ → Fate → List ℕ
heard_with d (Heard z m) = z
heard_with d Quiet = d
heard_with d BadStart = d
heard_with d (BadBytes c n) = d

abbrev pub heard_or : Message → Fate → Message
heard_or d (Heard z m) = m
heard_or d Quiet = d
heard_or d BadStart = d
heard_or d (BadBytes c n) = d
