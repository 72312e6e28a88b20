-- What the steps of the reader refuse is refused by the definition
use Rattle.std.proofs.Common.{suc, ◌≡◌, ℕ, ◌+◌, ◌<◌, ◌≤◌, ◌^◌, ◌⊎◌, inl, inr, Bool, true, false, nat_lt, ◌&&◌, ◌||◌, List, ◌++◌, ◌∷◌, [], length, take, slice_index, Option, Some, refl, sym, ap, ◌∙◌, subst, arith, append_assoc, append-nil, length-append}
use Rattle.std.proofs.lemmas.List.{take_more, length-take, get_or-append-add}
use Rattle.std.proofs.lemmas.Bool.{cases_lt}
use Rattle.std.proofs.lemmas.Bool.Decides.{nat_tests}
use Rattle.chunk_wire.specs.declared.message.Message.{Message}
use Rattle.chunk_wire.specs.declared.kept.ChunkStream.{ChunkStream}
use Rattle.chunk_wire.specs.Layout.{basic_size, format_in, id_in}
use Rattle.chunk_wire.specs.State.{State, part_bytes, put}
use Rattle.chunk_wire.specs.Chunk.{chunk_size, header_size, is_known, message_of, opened}
use Rattle.chunk_wire.proofs.Sizes.{basic_size_some}
use Rattle.chunk_wire.proofs.Same.{basic_in_header, basic_size_same, format_same, id_same, same_append, same_less}
use Rattle.chunk_reader.specs.declared.fields.Core.{Core}
use Rattle.chunk_reader.specs.declared.fail.ReadCause.{ReadCause}
use Rattle.chunk_reader.specs.declared.fail.ReadCause.TheVariants.{NoHead, TooManyIds, TooLong, TooMuch, BadChunkSize, OutOfMemory, TooFar}
use Rattle.chunk_reader.specs.Control.{bad_size}
use Rattle.chunk_reader.specs.Reads.{Admits, IsChunkWithin, IsOpen, Reads, has_room, held_bytes, part_limit}
use Rattle.chunk_reader.specs.Stops.{Refuses, Stops}
use Rattle.chunk_reader.specs.Core.{AtHead, InPayload, IsStanding, the_state}
use Rattle.chunk_reader.specs.Steps.{HeadFails, HeadGrows, HeadOpens, IsPassed, IsTaken, PayloadFails, StepFails, TakeFails, slot_at, slot_message}
use Rattle.chunk_reader.proofs.Reading.{held_whole, open_more}
use Rattle.chunk_reader.proofs.Running.{Running, Stood, head_stands, payload_stands, admits_running, fed_runs, grown, grows_open, last_byte, message_is, opens_run, running_chunk, running_open, slot_is}

-- the bytes up to a refusal are read, and the byte after them is refused
pub record Halts (max : ℕ) (fed : List ℕ) (given : List (ℕ × Message)) (piece : List ℕ) (cause : ReadCause) (after : ℕ) : Type 0 where
  pub s : State
  pub r : List ℕ
  pub reads : Reads max (fed ++ take after piece) given s r
  pub cause_is : (cause ≡ OutOfMemory) ⊎ Refuses max s (r ++ slice_index piece after ∷ []) (length fed + after) cause

pub take_past : (xs ys : List ℕ) (n : ℕ) → take (length xs + n) (xs ++ ys) ≡ xs ++ take n ys
take_past [] ys n = ap (λ (k : ℕ). take k ys) (omega arith)
take_past (x ∷ xs) ys n = let e : length (x ∷ xs) + n ≡ suc (length xs + n) = omega arith in rw e (ap (λ (t : List ℕ). x ∷ t) (take_past xs ys n))

pub halts_stops : (max : ℕ) (fed : List ℕ) (given : List (ℕ × Message)) (piece : List ℕ) (cause : ReadCause) (after : ℕ) → after < length piece → Halts max fed given piece cause after → (cause ≡ OutOfMemory) ⊎ Stops max (fed ++ piece) cause (length fed + after)
halts_stops max fed given piece cause after lt h = elim h.cause_is [
  | inl e ↦ inl e
  | inr f ↦ inr (record {
    ms = given;
    s = h.s;
    r = h.r;
    reads = rw (take_past fed piece after) h.reads;
    there = omega (arith, length-append fed piece);
    refused = rw (get_or-append-add fed piece after 0) f;
  })
]

-- the basic header is whole before its last byte
basic_back : (r x : List ℕ) → basic_size (r ++ x) ≤ length r → (basic_size (r ++ x) ≡ basic_size r) × (format_in (r ++ x) ≡ format_in r) × (id_in (r ++ x) ≡ id_in r)
basic_back r x le =
    let some = basic_size_some (r ++ x) in
    let same = same_append r x in
    let one = same_less 1 (length r) (r ++ x) r (omega arith) same in
    (basic_size_same (r ++ x) r one, format_same (r ++ x) r one, id_same (r ++ x) r (same_less (basic_size (r ++ x)) (length r) (r ++ x) r le same))

pub no_room : (k : Bool) (f n : ℕ) → k ≡ false → (2 ≤ f) ⊎ (64 ≤ n) → (k || (nat_lt f 2 && nat_lt n 64)) ≡ true → ⊥
no_room k f n e h t = grind (arith, nat_tests)

-- a basic header that isn't taken was not whole before
pub basic_last : (max : ℕ) (s : State) (r x : List ℕ) → Admits max s r → length x ≡ 1 → basic_size (r ++ x) ≤ length (r ++ x) → is_known s (r ++ x) ≡ false → (2 ≤ format_in (r ++ x)) ⊎ (64 ≤ length s.kept) → length (r ++ x) ≡ basic_size (r ++ x)
basic_last max s r x a one le k f = elim (cases_lt (length r) (basic_size (r ++ x))) [
  | inl lt ↦ omega (arith, length-append r x)
  | inr whole ↦ (
      let b = basic_back r x whole in
      let room : has_room s (r ++ x) ≡ true = rw (b.1, b.2) (a.room (omega (arith, b.0))) in
      absurd (no_room (is_known s (r ++ x)) (format_in (r ++ x)) (length s.kept) k f room))
]

-- a chunk that ends with a refused chunk size
bad_refused : (max : ℕ) (s : State) (r : List ℕ) (mid : Core) (v : ℕ) → Running max s r mid → mid.need ≡ 0 → bad_size (slot_message (slot_at mid)) ≡ Some v → (length r ≡ chunk_size s r) × Admits max s r × (bad_size (message_of s r) ≡ Some v)
bad_refused max s r mid v run z b =
    let message : slot_message (slot_at mid) ≡ message_of s r = ap slot_message (slot_is max s r mid run) ∙ message_is s r in
    (omega (arith, run.need, z), admits_running max s r mid run, rw (← message) b)

head_refused : (max n : ℕ) (s : State) (r x : List ℕ) (old : Core) (cause : ReadCause) → Admits max s r → AtHead s r old → old.held ≡ held_bytes s r → length x ≡ 1 → HeadFails max old.held s (r ++ x) cause → (cause ≡ OutOfMemory) ⊎ Refuses max s (r ++ x) n cause
head_refused max n s r x old (NoHead id) a h held one f = inr (basic_last max s r x a one f.0 f.2 (inl f.3), f.1, f.2, f.3)
head_refused max n s r x old TooManyIds a h held one f = inr (basic_last max s r x a one f.0 f.1 (inr f.3), f.1, f.2, f.3)
head_refused max n s r x old (TooLong k) a h held one f = inr (last_byte s r x h.short f.0 one, f.1, f.2, f.3)
head_refused max n s r x old TooMuch a h held one f = absurd f
head_refused max n s r x old (BadChunkSize v) a h held one f =
    let mid = f.3.0 in
    let run = opens_run max s (r ++ x) old mid (last_byte s r x h.short f.0 one) f.1 f.2 f.3.1.0 (omega (arith, f.3.1.1, held, a.held)) a.before in
    inr (bad_refused max s (r ++ x) mid v run f.3.1.2 f.3.1.3)
head_refused max n s r x old OutOfMemory a h held one f = inl refl
head_refused max n s r x old TooFar a h held one f = absurd f

pub held_more : (s : State) (r y : List ℕ) → header_size s r ≤ length r → held_bytes s (r ++ y) ≡ held_bytes s r + length y
held_more s r y whole =
    let g = grown s r y whole in
    let n = length-append r y in
    let now : header_size s (r ++ y) ≤ length (r ++ y) = omega (arith, g.size) in
    let hr = held_whole s r whole in
    let hx = held_whole s (r ++ y) now in
    let po : part_bytes (put (opened s r) s.kept) ≡ part_bytes (put (opened s (r ++ y)) s.kept) = ap (λ (t : ChunkStream). part_bytes (put t s.kept)) g.opened_same in
    omega (arith, hr, hx, po, g.size, n, whole)

pub size_more : (s : State) (r y : List ℕ) → header_size s r ≤ length r → chunk_size s (r ++ y) ≡ chunk_size s r
size_more s r y whole = let g = grown s r y whole in sym (rw (g.size, g.opened_same) refl)

-- payload that isn't the last of its chunk
payload_open : (max : ℕ) (s : State) (r y : List ℕ) (old : Core) → Admits max s r → InPayload s r old → held_bytes s r + length y ≤ part_limit max → length y < old.need → IsOpen max s (r ++ y)
payload_open max s r y old a p limit short =
    let g = grown s r y p.whole in
    let held = held_more s r y p.whole in
    let size = size_more s r y p.whole in
    let n = length-append r y in
    record {
      admitted = record {
        room = λ _. rw (← g.id, ← g.format) (a.room (omega (arith, basic_in_header s r, p.whole)));
        length = λ _. rw (← g.opened_same) (a.length p.whole);
        held = rw held limit;
        before = a.before;
      };
      short = omega (arith, size, n, p.need);
    }

-- one byte more of a piece
one_more : (r piece : List ℕ) (i : ℕ) → i < length piece → (r ++ take i piece) ++ slice_index piece i ∷ [] ≡ r ++ take (i + 1) piece
one_more r piece i h = append_assoc r (take i piece) (slice_index piece i ∷ []) ∙ ap (λ (t : List ℕ). r ++ t) (sym (take_more piece i 0 h))

-- what is refused of payload
payload_halts : (max : ℕ) (fed : List ℕ) (given : List (ℕ × Message)) (piece : List ℕ) (s : State) (r : List ℕ) (old : Core) (n : ℕ) (cause : ReadCause) (after : ℕ) → Reads max fed given s r → InPayload s r old → old.max ≡ max → old.held ≡ held_bytes s r
    → n ≤ length piece → n ≤ old.need → 0 < n → length fed + after ≤ 2 ^ 62 → PayloadFails old (take n piece) cause after → Halts max fed given piece cause after
payload_halts max fed given piece s r old n (NoHead id) after q p m held within need some near f = absurd f
payload_halts max fed given piece s r old n TooManyIds after q p m held within need some near f = absurd f
payload_halts max fed given piece s r old n (TooLong l) after q p m held within need some near f = absurd f
payload_halts max fed given piece s r old n TooMuch after q p m held within need some near f =
    let size : length (take n piece) ≡ n = omega (arith, length-take n piece) in
    let limit : held_bytes s r + after ≡ part_limit max = omega (arith, f.1, held, m) in
    let less : after < n = omega (arith, f.0, f.1, size) in
    let len : length (take after piece) ≡ after = omega (arith, length-take after piece) in
    let len1 : length (take (after + 1) piece) ≡ after + 1 = omega (arith, length-take (after + 1) piece) in
    let o = payload_open max s r (take after piece) old q.rest.admitted p (omega (arith, limit, len)) (omega (arith, len)) in
    let held1 = held_more s r (take (after + 1) piece) p.whole in
    let size1 = size_more s r (take (after + 1) piece) p.whole in
    let g = grown s r (take (after + 1) piece) p.whole in
    let n1 = length-append r (take (after + 1) piece) in
    record {
      s = s;
      r = r ++ take after piece;
      reads = open_more max fed given s r (take after piece) q o (omega (arith, length-append fed (take after piece), len, near));
      cause_is = inr (rw (one_more r piece after (omega arith)) (omega (arith, g.size, n1, len1, p.whole), omega (arith, size1, n1, len1, p.need), omega (arith, held1, len1, limit)));
    }
payload_halts max fed given piece s r old n (BadChunkSize v) after q p m held within need some near f =
    let mid = f.0 in
    let size : length (take n piece) ≡ n = omega (arith, length-take n piece) in
    let last : after + 1 ≡ n = omega (arith, f.1.4, size) in
    let len : length (take after piece) ≡ after = omega (arith, length-take after piece) in
    let run = fed_runs max s r (take n piece) old mid m q.rest.admitted p held f.1.0 f.1.1 in
    let o = payload_open max s r (take after piece) old q.rest.admitted p (omega (arith, f.1.1, held, m, len, size)) (omega (arith, len)) in
    record {
      s = s;
      r = r ++ take after piece;
      reads = open_more max fed given s r (take after piece) q o (omega (arith, length-append fed (take after piece), len, near));
      cause_is = inr (rw (one_more r piece after (omega arith), last) (bad_refused max s (r ++ take n piece) mid v run f.1.2 f.1.3));
    }
payload_halts max fed given piece s r old n OutOfMemory after q p m held within need some near f = record {
  s = s;
  r = r;
  reads = rw (f, append-nil) q;
  cause_is = inl refl;
}
payload_halts max fed given piece s r old n TooFar after q p m held within need some near f = absurd f

-- what a step took is less than a chunk, or a chunk
taken_passed : (max : ℕ) (s : State) (r : List ℕ) (m : Option Message) (mid new : Core) → Running max s r mid → IsPassed mid m new → IsOpen max s r ⊎ IsChunkWithin max s r
taken_passed max s r m mid new run (inl p) = inl (running_open max s r mid run p.0)
taken_passed max s r m mid new run (inr p) = inr (running_chunk max s r mid run p.0 p.1.sized)

taken_head : (max : ℕ) (s : State) (r x : List ℕ) (m : Option Message) (old new : Core) → Admits max s r → AtHead s r old → old.held ≡ held_bytes s r → length x ≡ 1 → HeadGrows s (r ++ x) m old new ⊎ HeadOpens max old.held s (r ++ x) m new → IsOpen max s (r ++ x) ⊎ IsChunkWithin max s (r ++ x)
taken_head max s r x m old new a h held one (inl g) = inl (grows_open max s r x m old new a h g)
taken_head max s r x m old new a h held one (inr t) =
    taken_passed max s (r ++ x) m t.mid new (opens_run max s (r ++ x) old t.mid (last_byte s r x h.short t.whole one) t.room t.fits t.opens (omega (arith, t.less, held, a.held)) a.before) t.passed

-- a byte that isn't refused, though it is too far
pub far_refused : (max n : ℕ) (s : State) (r : List ℕ) → n ≡ 2 ^ 62 → IsOpen max s r ⊎ IsChunkWithin max s r → Refuses max s r n TooFar
far_refused max n s r e (inl o) = (e, o.admitted, λ w. absurd (omega (arith, o.short)))
far_refused max n s r e (inr i) = (e, i.admitted, λ _. i.sized)

take_one : (piece : List ℕ) → 0 < length piece → take 1 piece ≡ slice_index piece 0 ∷ []
take_one [] h = absurd (omega arith)
take_one (x ∷ xs) h = refl

-- the same facts of a step at a header, by the state and the bytes that the fields stand for
at_state : (old : Core) (s : State) (r : List ℕ) (max : ℕ) (P : State → List ℕ → ℕ → Type 0) → AtHead s r old → old.max ≡ max → P (the_state old) old.head.items old.max → P s r max
at_state old s r max P h m t =
    let t1 : P s old.head.items old.max = subst (λ (s' : State). P s' old.head.items old.max) (sym h.state) t in
    let t2 : P s r old.max = subst (λ (r' : List ℕ). P s r' old.max) (sym h.head) t1 in
    subst (λ (n : ℕ). P s r n) m t2

step_halts : (max : ℕ) (fed : List ℕ) (given : List (ℕ × Message)) (piece : List ℕ) (old : Core) (most : ℕ) (cause : ReadCause) (after : ℕ) → IsStanding max fed given old → 0 < length piece → most ≤ length piece → length fed + after ≤ 2 ^ 62
    → StepFails old piece most cause after → Halts max fed given piece cause after
step_halts max fed given piece old most cause after st some le near (inl f) = elim st.fields [
  | inl h ↦ (
      let P : State → List ℕ → ℕ → Type 0 = λ s r n. HeadFails n old.held s (r ++ take 1 piece) cause in
      let f1 : P st.s st.r max = at_state old st.s st.r max P h st.max_is f.2 in
      let x = take_one piece some in
      let one : length (take 1 piece) ≡ 1 = omega (arith, length-take 1 piece) in
      let c : (cause ≡ OutOfMemory) ⊎ Refuses max st.s (st.r ++ take 1 piece) (length fed + after) cause = head_refused max (length fed + after) st.s st.r (take 1 piece) old cause st.reads.rest.admitted h st.held one f1 in
      record {
        s = st.s;
        r = st.r;
        reads = rw (f.1, append-nil) st.reads;
        cause_is = rw (f.1) (let d = rw f.1 at c in let Q : List ℕ → Type 0 = λ t. (cause ≡ OutOfMemory) ⊎ Refuses max st.s (st.r ++ t) (length fed + 0) cause in subst Q x d);
      })
  | inr p ↦ absurd (omega (arith, p.some, f.0))
]
step_halts max fed given piece old most cause after st some le near (inr f) = elim st.fields [
  | inl h ↦ absurd (omega (arith, h.need, f.0))
  | inr p ↦ payload_halts max fed given piece st.s st.r old f.1.0 cause after st.reads p st.max_is st.held (omega (arith, f.1.1.1)) f.1.1.2 f.1.1.0 near f.1.1.3
]

taken_admits : (max : ℕ) (fed : List ℕ) (given : List (ℕ × Message)) (piece : List ℕ) (old : Core) (used : ℕ) (m : Option Message) (new : Core) (st : IsStanding max fed given old) → 0 < length piece → IsTaken old piece 1 used m new → used ≡ 1 → IsOpen max st.s (st.r ++ take used piece) ⊎ IsChunkWithin max st.s (st.r ++ take used piece)
taken_admits max fed given piece old used m new st some t one = elim t.taken [
  | inl f ↦ elim st.fields [
    | inl h ↦ (
        let P : State → List ℕ → ℕ → Type 0 = λ s r n. HeadGrows s (r ++ take used piece) m old new ⊎ HeadOpens n old.held s (r ++ take used piece) m new in
        taken_head max st.s st.r (take used piece) m old new st.reads.rest.admitted h st.held (omega (arith, length-take used piece, one, some)) (at_state old st.s st.r max P h st.max_is f.2))
    | inr p ↦ absurd (omega (arith, p.some, f.0))
  ]
  | inr f ↦ elim st.fields [
    | inl h ↦ absurd (omega (arith, h.need, f.0))
    | inr p ↦ taken_passed max st.s (st.r ++ take used piece) m f.1.mid new (fed_runs max st.s st.r (take used piece) old f.1.mid st.max_is st.reads.rest.admitted p st.held f.1.fed f.1.within) f.1.passed
  ]
]

far_halts : (max : ℕ) (fed : List ℕ) (given : List (ℕ × Message)) (piece : List ℕ) (old : Core) (used : ℕ) (m : Option Message) (new : Core) → IsStanding max fed given old → 0 < length piece → length fed ≡ 2 ^ 62 → IsTaken old piece 1 used m new → Halts max fed given piece TooFar 0
far_halts max fed given piece old used m new st some near t =
    let one : used ≡ 1 = omega (arith, t.some, t.within) in
    let x = take_one piece some in
    let n : length fed + 0 ≡ 2 ^ 62 = omega arith in
    let whole : IsOpen max st.s (st.r ++ take 1 piece) ⊎ IsChunkWithin max st.s (st.r ++ take 1 piece) = subst (λ (k : ℕ). IsOpen max st.s (st.r ++ take k piece) ⊎ IsChunkWithin max st.s (st.r ++ take k piece)) one (taken_admits max fed given piece old used m new st some t one) in
    let far = far_refused max (length fed + 0) st.s (st.r ++ take 1 piece) n whole in
    record {
      s = st.s;
      r = st.r;
      reads = rw append-nil st.reads;
      cause_is = inr (let Q : List ℕ → Type 0 = λ t. Refuses max st.s (st.r ++ t) (length fed + 0) TooFar in subst Q x far);
    }

pub take_halts : (max : ℕ) (fed : List ℕ) (given : List (ℕ × Message)) (piece : List ℕ) (old : Core) (cause : ReadCause) (after : ℕ) → IsStanding max fed given old → 0 < length piece → length fed + after ≤ 2 ^ 62
    → TakeFails old piece (length fed) cause after → Halts max fed given piece cause after
take_halts max fed given piece old cause after st some near (inl f) = step_halts max fed given piece old f.0 cause after st some f.1.0 near f.1.1
take_halts max fed given piece old cause after st some near (inr f) = rw (f.0, f.1) (far_halts max fed given piece old f.3.0 f.3.1.0 f.3.1.1.0 st some f.2 f.3.1.1.1)

-- what a step that is not refused leaves
pub taken_stands : (max : ℕ) (fed : List ℕ) (given : List (ℕ × Message)) (piece : List ℕ) (old : Core) (most used : ℕ) (m : Option Message) (new : Core) → IsStanding max fed given old → most ≤ length piece → length fed + used ≤ 2 ^ 62 → IsTaken old piece most used m new → Stood max (fed ++ take used piece) given m new
taken_stands max fed given piece old most used m new st le near t =
    let len : length (take used piece) ≡ used = omega (arith, length-take used piece, t.within) in
    let n : length (fed ++ take used piece) ≤ 2 ^ 62 = omega (arith, length-append fed (take used piece), len) in
    elim t.taken [
      | inl f ↦ head_stands max fed (take used piece) given m old new st n (omega (arith, len, f.1)) f.0 f.2
      | inr f ↦ payload_stands max fed (take used piece) given m old new st n f.0 f.1
    ]
