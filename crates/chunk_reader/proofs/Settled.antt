-- Each list of bytes is read or refused
use Rattle.std.proofs.Common.{◌≡◌, ℕ, zero, suc, ◌+◌, ◌<◌, ◌≤◌, ◌^◌, ◌⊎◌, inl, inr, Bool, true, false, nat_lt, ◌&&◌, ◌||◌, List, ◌∷◌, [], ◌++◌, length, take, slice_index, Option, Some, None, refl, sym, ap, ◌∙◌, subst, arith, length-append}
use Rattle.std.proofs.lemmas.List.{length-take, take_more, take_all, take-append-le, get_or_append_left}
use Rattle.std.proofs.lemmas.Bool.{cases_lt}
use Rattle.std.proofs.lemmas.Bool.Decides.{nat_tests}
use Rattle.chunk_wire.specs.declared.message.Message.{Message}
use Rattle.chunk_wire.specs.Layout.{basic_size, format_in, id_in}
use Rattle.chunk_wire.specs.State.{State, fresh_state, part_bytes}
use Rattle.chunk_wire.specs.Chunk.{chunk_size, header_size, is_known, message_of, opened}
use Rattle.chunk_wire.proofs.Same.{basic_in_header}
use Rattle.chunk_reader.specs.declared.fail.ReadCause.{ReadCause}
use Rattle.chunk_reader.specs.declared.fail.ReadCause.TheVariants.{NoHead, TooManyIds, TooLong, TooMuch, BadChunkSize, TooFar}
use Rattle.chunk_reader.specs.Control.{bad_size, next}
use Rattle.chunk_reader.specs.Laws.{IsReadOrRefused}
use Rattle.chunk_reader.specs.Reads.{Admits, IsChunkWithin, IsOpen, Reads, ended, has_room, held_bytes, part_limit}
use Rattle.chunk_reader.specs.Stops.{Refuses, Stops}
use Rattle.chunk_reader.proofs.Reading.{chunk_more, held_short, held_whole, open_empty, open_more, reads_nothing}
use Rattle.chunk_reader.proofs.Running.{grown, last_byte, may_begin_room, shrunk}
use Rattle.chunk_reader.proofs.Stopping.{basic_last, far_refused, size_more}
use Rattle.chunk_reader.proofs.Totals.{parts_next, parts_opened}

-- the bytes r of a chunk from s are refused for a cause
abbrev Refused : ℕ → State → List ℕ → ℕ → Type 0
Refused max s r n = (cause : ReadCause) × Refuses max s r n cause

-- they are less than a chunk, a chunk after which another may begin, or refused
abbrev Settled : ℕ → State → List ℕ → ℕ → Type 0
Settled max s r n = IsOpen max s r ⊎ (IsChunkWithin max s r ⊎ Refused max s r n)

no_room_is : (k : Bool) (f n : ℕ) → (k || (nat_lt f 2 && nat_lt n 64)) ≡ false → (k ≡ false) × ((2 ≤ f) ⊎ ((f < 2) × (64 ≤ n)))
no_room_is true f n e = absurd (cc)
no_room_is false f n e = elim (cases_lt f 2) [
  | inl lt ↦ (refl, inr (lt, grind (arith, nat_tests, e, lt)))
  | inr le ↦ (refl, inl le)
]

abbrev Room : State → List ℕ → Type 0
Room s q = basic_size q ≤ length q → has_room s q ≡ true

room_case : (t : Bool) (max n : ℕ) (s : State) (r x : List ℕ) → Admits max s r → length x ≡ 1 → basic_size (r ++ x) ≤ length (r ++ x) → has_room s (r ++ x) ≡ t → Room s (r ++ x) ⊎ Refused max s (r ++ x) n
room_case true max n s r x a one whole t = inl (λ _. t)
room_case false max n s r x a one whole t =
    let q = r ++ x in
    let why = no_room_is (is_known s q) (format_in q) (length s.kept) t in
    elim why.1 [
      | inl f ↦ inr (NoHead (id_in q), (basic_last max s r x a one whole why.0 (inl f), refl, why.0, f))
      | inr f ↦ inr (TooManyIds, (basic_last max s r x a one whole why.0 (inr f.1), why.0, f.0, f.1))
    ]

room : (max n : ℕ) (s : State) (r x : List ℕ) → Admits max s r → length x ≡ 1 → Room s (r ++ x) ⊎ Refused max s (r ++ x) n
room max n s r x a one = elim (cases_lt (length (r ++ x)) (basic_size (r ++ x))) [
  | inl short ↦ inl (λ le. absurd (omega (arith, le, short)))
  | inr whole ↦ room_case (has_room s (r ++ x)) max n s r x a one whole refl
]

abbrev Fits : ℕ → State → List ℕ → Type 0
Fits max s q = header_size s q ≤ length q → (opened s q).terms.length ≤ max

-- a header that is whole, and whose length is too long, has just become whole
just_whole : (max : ℕ) (s : State) (r x : List ℕ) → Admits max s r → length x ≡ 1 → header_size s (r ++ x) ≤ length (r ++ x) → max < (opened s (r ++ x)).terms.length → length (r ++ x) ≡ header_size s (r ++ x)
just_whole max s r x a one whole more = elim (cases_lt (length r) (header_size s r)) [
  | inl short ↦ last_byte s r x short whole one
  | inr le ↦ (
      let g = grown s r x le in
      let fits : (opened s (r ++ x)).terms.length ≤ max = rw (← g.opened_same) (a.length le) in
      absurd (omega (arith, fits, more)))
]

fits : (max n : ℕ) (s : State) (r x : List ℕ) → Admits max s r → length x ≡ 1 → Room s (r ++ x) → Fits max s (r ++ x) ⊎ Refused max s (r ++ x) n
fits max n s r x a one has =
    let q = r ++ x in
    elim (cases_lt (length q) (header_size s q)) [
      | inl short ↦ inl (λ le. absurd (omega (arith, le, short)))
      | inr whole ↦ elim (cases_lt max (opened s q).terms.length) [
        | inl more ↦ inr (TooLong (opened s q).terms.length, (just_whole max s r x a one whole more, has (omega (arith, basic_in_header s q, whole)), refl, more))
        | inr le ↦ inl (λ _. le)
      ]
    ]

-- a chunk has no more bytes than it has
within : (max : ℕ) (s : State) (r x : List ℕ) → IsOpen max s r → length x ≡ 1 → length (r ++ x) ≤ chunk_size s (r ++ x)
within max s r x o one = elim (cases_lt (length r) (header_size s r)) [
  | inl short ↦ elim (cases_lt (length (r ++ x)) (header_size s (r ++ x))) [
    | inl less ↦ omega (arith, less)
    | inr whole ↦ (let e = last_byte s r x short whole one in omega (arith, e))
  ]
  | inr le ↦ (let e = size_more s r x le in omega (arith, e, o.short, length-append r x, one))
]

held : (max n : ℕ) (s : State) (r x : List ℕ) → IsOpen max s r → length x ≡ 1 → (held_bytes s (r ++ x) ≤ part_limit max) ⊎ Refused max s (r ++ x) n
held max n s r x o one =
    let q = r ++ x in
    elim (cases_lt (part_limit max) (held_bytes s q)) [
      | inr le ↦ inl le
      | inl more ↦ elim (cases_lt (header_size s q) (length q)) [
        | inl some ↦ inr (TooMuch, (some, within max s r x o one, more))
        | inr le ↦ elim (cases_lt (length q) (header_size s q)) [
          | inl short ↦ absurd (omega (arith, held_short s q short, o.admitted.before, more))
          | inr whole ↦ absurd (omega (arith, held_whole s q whole, parts_opened s q, o.admitted.before, more, le))
        ]
      ]
    ]

sized : (max n : ℕ) (s : State) (q : List ℕ) (bad : Option ℕ) → Admits max s q → length q ≡ chunk_size s q → has_room s q ≡ true → bad_size (message_of s q) ≡ bad → Settled max s q n
sized max n s q (Some v) a whole has e = inr (inr (BadChunkSize v, (whole, a, e)))
sized max n s q None a whole has e = inr (inl (record {
  chunk = record { begins = may_begin_room (is_known s q) (format_in q) (length s.kept) has; whole = whole; state = refl; message = refl };
  admitted = a;
  sized = e;
}))

admitted : (max n : ℕ) (s : State) (r x : List ℕ) → IsOpen max s r → length x ≡ 1 → Admits max s (r ++ x) → Settled max s (r ++ x) n
admitted max n s r x o one a =
    let q = r ++ x in
    elim (cases_lt (length q) (chunk_size s q)) [
      | inl short ↦ inl (record { admitted = a; short = short })
      | inr le ↦ (
          let whole : length q ≡ chunk_size s q = omega (arith, le, within max s r x o one) in
          sized max n s q (bad_size (message_of s q)) a whole (a.room (omega (arith, basic_in_header s q, whole))) refl)
    ]

-- a byte more
settled : (max n : ℕ) (s : State) (r x : List ℕ) → IsOpen max s r → length x ≡ 1 → Settled max s (r ++ x) n
settled max n s r x o one = elim (room max n s r x o.admitted one) [
  | inr refusal ↦ inr (inr refusal)
  | inl has ↦ elim (fits max n s r x o.admitted one has) [
    | inr refusal ↦ inr (inr refusal)
    | inl fit ↦ elim (held max n s r x o one) [
      | inr refusal ↦ inr (inr refusal)
      | inl le ↦ admitted max n s r x o one (record { room = has; length = fit; held = le; before = o.admitted.before })
    ]
  ]
]

-- the first n bytes are read
record ReadsTo (max : ℕ) (b : List ℕ) (n : ℕ) : Type 0 where
  pub ms : List (ℕ × Message)
  pub s : State
  pub r : List ℕ
  pub reads : Reads max (take n b) ms s r

abbrev Refusal : ℕ → List ℕ → Type 0
Refusal max b = (cause : ReadCause) × ((place : ℕ) × Stops max b cause place)

stops : (max : ℕ) (b : List ℕ) (n : ℕ) → n < length b → (t : ReadsTo max b n) → Refused max t.s (t.r ++ slice_index b n ∷ []) n → Refusal max b
stops max b n there t refusal = (refusal.0, (n, record { ms = t.ms; s = t.s; r = t.r; reads = t.reads; there = there; refused = refusal.1 }))

-- the byte n is read too
near_step : (max : ℕ) (b : List ℕ) (n : ℕ) → n < length b → n + 1 ≤ 2 ^ 62 → (t : ReadsTo max b n) → Settled max t.s (t.r ++ slice_index b n ∷ []) n → ReadsTo max b (n + 1) ⊎ Refusal max b
near_step max b n there near t w =
    let x = slice_index b n ∷ [] in
    let e : take (n + 1) b ≡ take n b ++ x = take_more b n 0 there in
    let len : length (take n b ++ x) ≤ 2 ^ 62 = omega (arith, length-append (take n b) x, length-take n b, near) in
    elim w [
      | inl o ↦ inl (record { ms = t.ms; s = t.s; r = t.r ++ x; reads = rw e (open_more max (take n b) t.ms t.s t.r x t.reads o len) })
      | inr (inl i) ↦ (
          let header : header_size t.s (t.r ++ x) ≤ length (t.r ++ x) = omega (arith, i.chunk.whole) in
          let begins = open_empty max (next t.s (t.r ++ x)) (omega (arith, parts_next t.s (t.r ++ x) header, i.admitted.held)) in
          inl (record { ms = t.ms ++ ended (length (take n b ++ x)) (message_of t.s (t.r ++ x)); s = next t.s (t.r ++ x); r = []; reads = rw e (chunk_more max (take n b) t.ms t.s t.r x t.reads i begins len) }))
      | inr (inr refusal) ↦ inr (stops max b n there t refusal)
    ]

-- the byte is too far, if it isn't refused for another cause
far_step : (max : ℕ) (b : List ℕ) (n : ℕ) → n < length b → n ≡ 2 ^ 62 → (t : ReadsTo max b n) → Settled max t.s (t.r ++ slice_index b n ∷ []) n → Refusal max b
far_step max b n there far t w = elim w [
  | inl o ↦ stops max b n there t (TooFar, far_refused max n t.s (t.r ++ slice_index b n ∷ []) far (inl o))
  | inr (inl i) ↦ stops max b n there t (TooFar, far_refused max n t.s (t.r ++ slice_index b n ∷ []) far (inr i))
  | inr (inr refusal) ↦ stops max b n there t refusal
]

step : (max : ℕ) (b : List ℕ) (n : ℕ) → n < length b → ReadsTo max b n → ReadsTo max b (n + 1) ⊎ Refusal max b
step max b n there t =
    let w = settled max n t.s t.r (slice_index b n ∷ []) t.reads.rest refl in
    let most : n ≤ 2 ^ 62 = omega (arith, length-take n b, t.reads.near, there) in
    elim (cases_lt n (2 ^ 62)) [
      | inl near ↦ near_step max b n there (omega (arith, near)) t w
      | inr far ↦ inr (far_step max b n there (omega (arith, far, most)) t w)
    ]

run : (max : ℕ) (b : List ℕ) (n : ℕ) → n ≤ length b → ReadsTo max b n ⊎ Refusal max b
run max b zero le = inl (record { ms = []; s = fresh_state; r = []; reads = reads_nothing max })
run max b (suc n) le = elim (run max b n (omega (arith, le))) [
  | inr refusal ↦ inr refusal
  | inl t ↦ (let e : n + 1 ≡ suc n = omega arith in let P : ℕ → Type 0 = λ k. ReadsTo max b k ⊎ Refusal max b in subst P e (step max b n (omega (arith, le)) t))
]

pub read_or_refused : (max : ℕ) (b : List ℕ) → IsReadOrRefused max b
read_or_refused max b = elim (run max b (length b) (omega arith)) [
  | inr refusal ↦ inr refusal
  | inl t ↦ inl (
    t.ms,
    record {
      s = t.s;
      r = t.r;
      reads = (let P : List ℕ → Type 0 = λ l. Reads max l t.ms t.s t.r in subst P (take_all (length b) b (omega arith)) t.reads);
    },
  )
]

-- what follows a refused byte doesn't matter
pub stays_refused : (max : ℕ) (b more : List ℕ) (cause : ReadCause) (place : ℕ) → Stops max b cause place → Stops max (b ++ more) cause place
stays_refused max b more cause place st =
    let front : take place b ≡ take place (b ++ more) = sym (take-append-le place b more (omega (arith, st.there))) in
    let byte : slice_index b place ≡ slice_index (b ++ more) place = sym (get_or_append_left b more 0 place st.there) in
    let P : List ℕ → Type 0 = λ l. Reads max l st.ms st.s st.r in
    let R : ℕ → Type 0 = λ y. Refuses max st.s (st.r ++ y ∷ []) place cause in
    record {
      ms = st.ms;
      s = st.s;
      r = st.r;
      reads = subst P front st.reads;
      there = omega (arith, length-append b more, st.there);
      refused = subst R byte st.refused;
    }

pub refused_inside : (max : ℕ) (b : List ℕ) (cause : ReadCause) (place : ℕ) → Stops max b cause place → place < length b
refused_inside max b cause place st = st.there
