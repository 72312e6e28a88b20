-- What the steps of the reader read
use Rattle.std.proofs.Common.{◌≡◌, ℕ, ◌+◌, ◌<◌, ◌≤◌, ◌^◌, ◌⊎◌, inl, inr, Bool, true, false, nat_lt, cond, ◌&&◌, ◌||◌, List, ◌++◌, ◌∷◌, [], length, drop, set, Option, None, is_some, refl, sym, ap, ◌∙◌, subst, arith, append_assoc, append-nil, length-append, length-drop}
use Rattle.std.proofs.lemmas.List.{drop-append-le, get_or-set_same, set-set}
use Rattle.std.proofs.Math.ListN.{length-set}
use Rattle.std.proofs.lemmas.Bool.{cases_lt}
use Rattle.std.proofs.lemmas.Bool.Decides.{nat_tests}
use Rattle.chunk_wire.specs.declared.message.Message.{Message}
use Rattle.chunk_wire.specs.declared.kept.ChunkStream.{ChunkStream}
use Rattle.chunk_wire.specs.Layout.{format_in}
use Rattle.chunk_wire.specs.State.{State, part_bytes, put, fresh_kept}
use Rattle.chunk_wire.specs.Chunk.{after_chunk, chunk_size, filled, header_size, is_done, is_known, message_of, opened, with_part}
use Rattle.chunk_wire.proofs.Same.{basic_in_header, HeaderSame, header_same, same_append, same_back}
use Rattle.chunk_reader.specs.declared.fields.Core.{Core}
use Rattle.chunk_reader.specs.Control.{bad_size, controlled, next}
use Rattle.chunk_reader.specs.Reads.{Admits, IsChunkWithin, IsOpen, Reads, ended, has_room, held_bytes, part_limit}
use Rattle.chunk_reader.specs.Core.{AtHead, InPayload, IsPlaceOf, IsStanding, the_state}
use Rattle.chunk_reader.specs.Steps.{HeadGrows, HeadOpens, HeadTaken, IsFed, IsFinished, IsOpened, IsPassed, PayloadTaken, ended_state, slot_at, slot_message}
use Rattle.chunk_reader.proofs.Reading.{chunk_more, header_some, held_short, held_whole, open_empty, open_more}

-- a header that is whole says the same with more bytes after it
pub grown : (s : State) (r x : List ℕ) → header_size s r ≤ length r → HeaderSame s r (r ++ x)
grown s r x w = header_same s (length r) r (r ++ x) (same_back (length r) (r ++ x) r (same_append r x)) w

pub shrunk : (s : State) (r x : List ℕ) → header_size s (r ++ x) ≤ length r → HeaderSame s (r ++ x) r
shrunk s r x w = header_same s (length r) (r ++ x) r (same_append r x) w

pub empty_is : (xs : List ℕ) → length xs ≡ 0 → xs ≡ []
empty_is [] e = refl
empty_is (y ∷ ys) e = absurd (omega arith)

no_more : (xs : List ℕ) (n : ℕ) → length xs ≡ n → drop n xs ≡ []
no_more xs n e = empty_is (drop n xs) (omega (arith, length-drop n xs))

-- the payload of a chunk stands in its slot
pub record Running (max : ℕ) (s : State) (r : List ℕ) (mid : Core) : Type 0 where
  pub size : mid.size ≡ s.size
  pub head : length mid.head.items ≡ 0
  pub max_is : mid.max ≡ max
  pub whole : header_size s r ≤ length r
  pub room : has_room s r ≡ true
  pub fits : (opened s r).terms.length ≤ max
  pub place : IsPlaceOf s.kept (with_part (opened s r) (filled s r)) mid.slots.items mid.place
  pub need : mid.need + length r ≡ chunk_size s r
  pub held : mid.held ≡ held_bytes s r
  pub limit : mid.held ≤ part_limit max
  pub before : part_bytes s.kept ≤ part_limit max
  pub counted : mid.held ≡ part_bytes mid.slots.items

pub admits_running : (max : ℕ) (s : State) (r : List ℕ) (mid : Core) → Running max s r mid → Admits max s r
admits_running max s r mid u = record { room = λ _. u.room; length = λ _. u.fits; held = rw (← u.held) u.limit; before = u.before }

-- the slot is the record of the chunk
pub slot_is : (max : ℕ) (s : State) (r : List ℕ) (mid : Core) → Running max s r mid → slot_at mid ≡ with_part (opened s r) (filled s r)
slot_is max s r mid u = u.place.is (fresh_kept 0)

pub message_is : (s : State) (r : List ℕ) → slot_message (with_part (opened s r) (filled s r)) ≡ message_of s r
unfolding message_of
message_is s r = refl

state_is : (max : ℕ) (s : State) (r : List ℕ) (mid : Core) → Running max s r mid → ended_state mid ≡ after_chunk s r
unfolding after_chunk
state_is max s r mid u =
    let e = slot_is max s r mid u in
    let p = u.place.puts (cond (is_done s r) [] (filled s r)) in
    rw (e, u.size, p) refl

next_is : (s : State) (r : List ℕ) → next s r ≡ controlled (message_of s r) (after_chunk s r)
unfolding next
next_is s r = refl

pub may_begin_room : (k : Bool) (f n : ℕ) → (k || (nat_lt f 2 && nat_lt n 64)) ≡ true → (k || nat_lt f 2) ≡ true
may_begin_room true f n e = refl
may_begin_room false f n e = grind (arith, nat_tests)

-- what the reader stands for after a step
pub record Stood (max : ℕ) (fed : List ℕ) (given : List (ℕ × Message)) (m : Option Message) (new : Core) : Type 0 where
  pub standing : IsStanding max fed (given ++ ended (length fed) m) new
  pub whole : is_some m ≡ true → (s : State) × Reads max fed (given ++ ended (length fed) m) s []

pub running_open : (max : ℕ) (s : State) (r : List ℕ) (mid : Core) → Running max s r mid → 0 < mid.need → IsOpen max s r
running_open max s r mid u some = record { admitted = admits_running max s r mid u; short = omega (arith, u.need) }

pub running_chunk : (max : ℕ) (s : State) (r : List ℕ) (mid : Core) → Running max s r mid → mid.need ≡ 0 → bad_size (slot_message (slot_at mid)) ≡ None → IsChunkWithin max s r
running_chunk max s r mid u zero sized =
    let message : slot_message (slot_at mid) ≡ message_of s r = ap slot_message (slot_is max s r mid u) ∙ message_is s r in
    record {
      chunk = record { begins = may_begin_room (is_known s r) (format_in r) (length s.kept) u.room; whole = omega (arith, u.need, zero); state = refl; message = refl };
      admitted = admits_running max s r mid u;
      sized = rw (← message) sized;
    }

goes_on : (max : ℕ) (fed x : List ℕ) (given : List (ℕ × Message)) (s : State) (r : List ℕ) (new : Core) → Reads max fed given s r → length (fed ++ x) ≤ 2 ^ 62 → Running max s (r ++ x) new → 0 < new.need → Stood max (fed ++ x) given None new
goes_on max fed x given s r new q near u some =
    let o = running_open max s (r ++ x) new u some in
    let reads = open_more max fed given s r x q o near in
    record {
      standing = record {
        s = s;
        r = r ++ x;
        reads = rw append-nil reads;
        max_is = u.max_is;
        fields = inr (record { size = u.size; head = u.head; whole = u.whole; place = u.place; need = u.need; some = some });
        held = u.held;
        counted = u.counted;
      };
      whole = λ e. absurd (cc);
    }

finished : (max : ℕ) (fed x : List ℕ) (given : List (ℕ × Message)) (s : State) (r : List ℕ) (m : Option Message) (mid new : Core) → Reads max fed given s r → length (fed ++ x) ≤ 2 ^ 62 → Running max s (r ++ x) mid → mid.need ≡ 0 → IsFinished mid m new → Stood max (fed ++ x) given m new
finished max fed x given s r m mid new q near u zero f =
    let c = r ++ x in
    let k = slot_is max s c mid u in
    let message : slot_message (slot_at mid) ≡ message_of s c = ap slot_message k ∙ message_is s c in
    let given_is : m ≡ message_of s c = f.message ∙ message in
    let state : the_state new ≡ next s c = f.state ∙ (rw (message, state_is max s c mid u) refl) ∙ sym (next_is s c) in
    let kept : new.slots.items ≡ (next s c).kept = ap (λ (t : State). t.kept) state in
    let held : new.held ≡ part_bytes (next s c).kept = f.keeps.counted ∙ ap part_bytes kept in
    let begins : IsOpen max (next s c) [] = open_empty max (next s c) (rw (← held) (omega (arith, f.keeps.less, u.limit))) in
    let whole = running_chunk max s c mid u zero f.sized in
    let reads = chunk_more max fed given s r x q whole begins near in
    let some = header_some (next s c) [] in
    let no_head : length new.head.items ≡ 0 = ap length f.keeps.head ∙ u.head in
    record {
      standing = record {
        s = next s c;
        r = [];
        reads = rw given_is reads;
        max_is = f.keeps.max_is ∙ u.max_is;
        fields = inl (record { state = sym state; head = sym (empty_is new.head.items no_head); need = f.keeps.need ∙ zero; short = some });
        held = held ∙ sym (held_short (next s c) [] some);
        counted = f.keeps.counted;
      };
      whole = λ _. (next s c, rw given_is reads);
    }

passed : (max : ℕ) (fed x : List ℕ) (given : List (ℕ × Message)) (s : State) (r : List ℕ) (m : Option Message) (mid new : Core) → Reads max fed given s r → length (fed ++ x) ≤ 2 ^ 62 → Running max s (r ++ x) mid → IsPassed mid m new → Stood max (fed ++ x) given m new
passed max fed x given s r m mid new q near u (inl p) = rw (p.1, p.2) (goes_on max fed x given s r mid q near u p.0)
passed max fed x given s r m mid new q near u (inr p) = finished max fed x given s r m mid new q near u p.0 p.1

-- a whole header opens the chunk
pub opens_run : (max : ℕ) (s : State) (r : List ℕ) (old mid : Core) → length r ≡ header_size s r → has_room s r ≡ true → (opened s r).terms.length ≤ max → IsOpened max s r mid → mid.held ≤ part_limit max → part_bytes s.kept ≤ part_limit max → Running max s r mid
opens_run max s r old mid size room fits o limit before =
    let none : filled s r ≡ (opened s r).part = ap (λ (t : List ℕ). (opened s r).part ++ t) (no_more r (header_size s r) size) ∙ append-nil (opened s r).part in
    let k : with_part (opened s r) (filled s r) ≡ opened s r = ap (λ (t : List ℕ). with_part (opened s r) t) none in
    record {
      size = o.size;
      head = o.head;
      max_is = o.max_is;
      whole = omega arith;
      room = room;
      fits = fits;
      place = rw k o.place;
      need = omega (arith, o.need, size);
      held = o.counted ∙ ap part_bytes o.place.slots_are ∙ sym (held_whole s r (omega arith) ∙ (omega (arith, size)));
      limit = limit;
      before = before;
      counted = o.counted;
    }

-- more payload stands in the slot
pub fed_runs : (max : ℕ) (s : State) (r x : List ℕ) (old mid : Core) → old.max ≡ max → Admits max s r → InPayload s r old → old.held ≡ held_bytes s r → IsFed old x mid → old.held + length x ≤ part_limit old.max → Running max s (r ++ x) mid
fed_runs max s r x old mid max_is a p held f within =
    let g = grown s r x p.whole in
    let k = p.place.is (fresh_kept 0) in
    let more : filled s (r ++ x) ≡ filled s r ++ x =
    (rw (← g.opened_same, ← g.size) (ap (λ (t : List ℕ). (opened s r).part ++ t) (drop-append-le (header_size s r) r x p.whole))) ∙ sym (append_assoc (opened s r).part (drop (header_size s r) r) x) in
    let now : with_part (slot_at old) ((slot_at old).part ++ x) ≡ with_part (opened s (r ++ x)) (filled s (r ++ x)) = rw (k, more, ← g.opened_same) refl in
    let n = length-append r x in
    let record_now = with_part (opened s r) (filled s r ++ x) in
    let same : with_part (opened s r) (filled s r ++ x) ≡ with_part (opened s (r ++ x)) (filled s (r ++ x)) = rw (more, ← g.opened_same) refl in
    let slots : mid.slots.items ≡ set old.slots.items old.place record_now = f.slots ∙ ap (λ (t : ChunkStream). set old.slots.items old.place (with_part t (t.part ++ x))) k in
    let place : IsPlaceOf s.kept record_now mid.slots.items mid.place = rw (slots, f.place) (record {
      within = omega (arith, length-set old.slots.items old.place record_now, p.place.within);
      slots_are = p.place.puts (filled s r ++ x);
      is = λ d. get_or-set_same old.slots.items old.place record_now d p.place.within;
      puts = λ part. set-set old.slots.items old.place record_now (with_part (opened s r) part) ∙ p.place.puts part;
    }) in
    let sizes : chunk_size s r ≡ chunk_size s (r ++ x) = rw (g.size, g.opened_same) refl in
    let whole : header_size s (r ++ x) ≤ length (r ++ x) = omega (arith, g.size, n, p.whole) in
    let hr = held_whole s r p.whole in
    let hx = held_whole s (r ++ x) whole in
    let po : part_bytes (put (opened s r) s.kept) ≡ part_bytes (put (opened s (r ++ x)) s.kept) = ap (λ (t : ChunkStream). part_bytes (put t s.kept)) g.opened_same in
    record {
      size = f.size ∙ p.size;
      head = ap length f.head ∙ p.head;
      max_is = f.max_is ∙ max_is;
      whole = whole;
      room = rw (← g.id, ← g.format) (a.room (omega (arith, basic_in_header s r, p.whole)));
      fits = rw (← g.opened_same) (a.length p.whole);
      place = rw (← same) place;
      need = omega (arith, sizes, f.need, p.need, n);
      held = omega (arith, f.held, held, hr, hx, po, g.size, n, p.whole);
      limit = rw (← max_is) (omega (arith, f.held, within));
      before = a.before;
      counted = f.counted;
    }

pub grows_open : (max : ℕ) (s : State) (r x : List ℕ) (m : Option Message) (old new : Core) → Admits max s r → AtHead s r old → HeadGrows s (r ++ x) m old new → IsOpen max s (r ++ x)
grows_open max s r x m old new a h g =
    let short = g.short.short in
    record {
      admitted = record { room = g.short.room; length = λ le. absurd (omega (arith, short)); held = rw (held_short s (r ++ x) short, ← held_short s r h.short) a.held; before = a.before };
      short = omega (arith, short);
    }

-- a byte of a header that isn't whole
grows_stands : (max : ℕ) (fed x : List ℕ) (given : List (ℕ × Message)) (s : State) (r : List ℕ) (m : Option Message) (old new : Core) → Reads max fed given s r → length (fed ++ x) ≤ 2 ^ 62 → AtHead s r old → old.max ≡ max → old.held ≡ held_bytes s r → old.held ≡ part_bytes old.slots.items
    → HeadGrows s (r ++ x) m old new → Stood max (fed ++ x) given m new
grows_stands max fed x given s r m old new q near h max_is held counted g =
    let short = g.short.short in
    let o = grows_open max s r x m old new q.rest.admitted h g in
    let reads = open_more max fed given s r x q o near in
    let slots : old.slots.items ≡ new.slots.items = ap (λ (t : State). t.kept) (sym h.state ∙ sym g.state) in
    rw g.none (record {
      standing = record {
        s = s;
        r = r ++ x;
        reads = rw append-nil reads;
        max_is = g.keeps_max ∙ max_is;
        fields = inl (record { state = sym g.state; head = sym g.head; need = g.keeps_need ∙ h.need; short = short });
        held = g.keeps_held ∙ held ∙ held_short s r h.short ∙ sym (held_short s (r ++ x) short);
        counted = g.keeps_held ∙ counted ∙ ap part_bytes slots;
      };
      whole = λ e. absurd (cc);
    })

-- the byte that makes the header whole
pub last_byte : (s : State) (r x : List ℕ) → length r < header_size s r → header_size s (r ++ x) ≤ length (r ++ x) → length x ≡ 1 → length (r ++ x) ≡ header_size s (r ++ x)
last_byte s r x short whole one = elim (cases_lt (length r) (header_size s (r ++ x))) [
  | inl lt ↦ omega (arith, length-append r x)
  | inr le ↦ (let e = (shrunk s r x le).size in absurd (omega arith))
]

opens_stands : (max : ℕ) (fed x : List ℕ) (given : List (ℕ × Message)) (s : State) (r : List ℕ) (m : Option Message) (old new : Core) → Reads max fed given s r → length (fed ++ x) ≤ 2 ^ 62 → length x ≡ 1 → AtHead s r old → old.held ≡ held_bytes s r
    → HeadOpens max old.held s (r ++ x) m new → Stood max (fed ++ x) given m new
opens_stands max fed x given s r m old new q near one h held t =
    let size = last_byte s r x h.short t.whole one in
    let limit : t.mid.held ≤ part_limit max = omega (arith, t.less, held, q.rest.admitted.held) in
    passed max fed x given s r m t.mid new q near (opens_run max s (r ++ x) old t.mid size t.room t.fits t.opens limit q.rest.admitted.before) t.passed

-- what a byte of a header leaves
pub head_stands : (max : ℕ) (fed x : List ℕ) (given : List (ℕ × Message)) (m : Option Message) (old new : Core) → IsStanding max fed given old → length (fed ++ x) ≤ 2 ^ 62 → length x ≡ 1 → old.need ≡ 0 → HeadTaken old (old.head.items ++ x) m new → Stood max (fed ++ x) given m new
head_stands max fed x given m old new st near one zero t = elim st.fields [
  | inl h ↦ (
      let P : State → List ℕ → ℕ → Type 0 = λ s r n. HeadGrows s (r ++ x) m old new ⊎ HeadOpens n old.held s (r ++ x) m new in
      let t1 : P st.s old.head.items old.max = subst (λ (s : State). P s old.head.items old.max) (sym h.state) t in
      let t2 : P st.s st.r old.max = subst (λ (r : List ℕ). P st.s r old.max) (sym h.head) t1 in
      let t3 : P st.s st.r max = subst (λ (n : ℕ). P st.s st.r n) st.max_is t2 in
      elim t3 [
        | inl g ↦ grows_stands max fed x given st.s st.r m old new st.reads near h st.max_is st.held st.counted g
        | inr o ↦ opens_stands max fed x given st.s st.r m old new st.reads near one h st.held o
      ])
  | inr p ↦ absurd (omega (arith, p.some, zero))
]

-- what payload leaves
pub payload_stands : (max : ℕ) (fed x : List ℕ) (given : List (ℕ × Message)) (m : Option Message) (old new : Core) → IsStanding max fed given old → length (fed ++ x) ≤ 2 ^ 62 → 0 < old.need → PayloadTaken old x m new → Stood max (fed ++ x) given m new
payload_stands max fed x given m old new st near some t = elim st.fields [
  | inl h ↦ absurd (omega (arith, h.need, some))
  | inr p ↦ passed max fed x given st.s st.r m t.mid new st.reads near (fed_runs max st.s st.r x old t.mid st.max_is st.reads.rest.admitted p st.held t.fed t.within) t.passed
]
