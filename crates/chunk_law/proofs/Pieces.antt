-- One chunk of a message: its header and a piece of the body
use Rattle.std.proofs.Common.{◌≡◌, ℕ, ◌+◌, ◌-◌, ◌<◌, ◌≤◌, Bool, true, false, nat_eq, nat_lt, cond, ◌&&◌, ◌||◌, List, [], ◌++◌, length, min, Some, None, refl, ap, ◌∙◌, arith, length-append}
use Rattle.std.proofs.lemmas.List.{drop_at}
use Rattle.std.proofs.lemmas.Bool.{eq-eqb, ne_eqb}
use Rattle.chunk_wire.specs.declared.kept.ChunkStream.{ChunkStream}
use Rattle.chunk_wire.specs.declared.kept.Terms.{Terms}
use Rattle.chunk_wire.specs.declared.message.Message.{Message}
use Rattle.chunk_wire.specs.Layout.{format_in}
use Rattle.chunk_wire.specs.State.{State, part_bytes, put}
use Rattle.chunk_wire.specs.Chunk.{after_chunk, chunk_size, filled, header_size, is_known, message_of, opened, with_part}
use Rattle.chunk_reader.specs.Control.{bad_size, by_message, controlled, next}
use Rattle.chunk_reader.specs.Reads.{IsChunkWithin, held_bytes, part_limit}
use Rattle.chunk_reader.proofs.Reading.{held_whole}
use Rattle.chunk_law.proofs.Opened.{Opens}

-- a message with this body, of which a header said this
abbrev pub message_with : Terms → List ℕ → Message
message_with t body = record { kind = t.kind; stream = t.stream; time = t.time; body = body }

may_begin_room : (k : Bool) (a b : Bool) → (k || (a && b)) ≡ true → (k || a) ≡ true
may_begin_room true a b e = refl
may_begin_room false true b e = refl
may_begin_room false false b e = e

filled_is : (s : State) (g y : List ℕ) (k : ChunkStream) → Opens s g k → filled s (g ++ y) ≡ k.part ++ y
filled_is s g y k o = rw (o.opened_is y, o.size y) (ap (λ (t : List ℕ). k.part ++ t) (drop_at g y (length g) refl))

size_is : (s : State) (g y : List ℕ) (k : ChunkStream) → Opens s g k → chunk_size s (g ++ y) ≡ length g + min s.size (k.terms.length - length k.part)
size_is s g y k o = rw (o.opened_is y, o.size y) refl

held_is : (s : State) (g y : List ℕ) (k : ChunkStream) → Opens s g k → held_bytes s (g ++ y) ≡ part_bytes (put k s.kept) + length y
held_is s g y k o =
    let n = length-append g y in
    let size = o.size y in
    let whole : header_size s (g ++ y) ≤ length (g ++ y) = omega (arith, size, n) in
    let parts : part_bytes (put (opened s (g ++ y)) s.kept) ≡ part_bytes (put k s.kept) = ap (λ (j : ChunkStream). part_bytes (put j s.kept)) (o.opened_is y) in
    omega (arith, held_whole s (g ++ y) whole, parts, size, n)

-- it is a chunk
pub piece : (max : ℕ) (s : State) (g y : List ℕ) (k : ChunkStream) → Opens s g k → k.terms.length ≤ max → length y ≡ min s.size (k.terms.length - length k.part) → part_bytes (put k s.kept) + length y ≤ part_limit max → part_bytes s.kept ≤ part_limit max
    → bad_size (message_of s (g ++ y)) ≡ None → IsChunkWithin max s (g ++ y)
piece max s g y k o fits size held before sized =
    let room = o.room y in
    record {
      chunk = record {
        begins = may_begin_room (is_known s (g ++ y)) (nat_lt (format_in (g ++ y)) 2) (nat_lt (length s.kept) 64) room;
        whole = omega (arith, size_is s g y k o, size, length-append g y);
        state = refl;
        message = refl;
      };
      admitted = record {
        room = λ _. room;
        length = λ _. rw (o.opened_is y) fits;
        held = rw (held_is s g y k o) held;
        before = before;
      };
      sized = sized;
    }

message_is : (s : State) (g y : List ℕ) (k : ChunkStream) → Opens s g k → message_of s (g ++ y) ≡ cond (nat_eq (length (k.part ++ y)) k.terms.length) (Some (message_with k.terms (k.part ++ y))) None
unfolding message_of
message_is s g y k o = rw (filled_is s g y k o, o.opened_is y) refl

after_is : (s : State) (g y : List ℕ) (k : ChunkStream) → Opens s g k → after_chunk s (g ++ y) ≡ record { size = s.size; kept = put (with_part k (cond (nat_eq (length (k.part ++ y)) k.terms.length) [] (k.part ++ y))) s.kept }
unfolding after_chunk
after_is s g y k o = rw (filled_is s g y k o, o.opened_is y) refl

next_is : (s : State) (c : List ℕ) → next s c ≡ controlled (message_of s c) (after_chunk s c)
unfolding next
next_is s c = refl

-- the message goes on after it
pub record GoesOn (s : State) (c : List ℕ) (k : ChunkStream) (part : List ℕ) : Type 0 where
  pub none : message_of s c ≡ None
  pub then : next s c ≡ record { size = s.size; kept = put (with_part k part) s.kept }

pub goes_on : (s : State) (g y : List ℕ) (k : ChunkStream) → Opens s g k → length k.part + length y < k.terms.length → GoesOn s (g ++ y) k (k.part ++ y)
goes_on s g y k o short =
    let test : nat_eq (length (k.part ++ y)) k.terms.length ≡ false = ne_eqb (length (k.part ++ y)) k.terms.length (λ e. omega (arith, e, length-append k.part y)) in
    let none : message_of s (g ++ y) ≡ None = message_is s g y k o ∙ (rw test) in
    record {
      none = none;
      then = next_is s (g ++ y) ∙ (rw none (after_is s g y k o ∙ (rw test)));
    }

-- the message ends with it
pub record Ends (s : State) (c : List ℕ) (k : ChunkStream) (body : List ℕ) : Type 0 where
  pub some : message_of s c ≡ Some (message_with k.terms body)
  pub then : next s c ≡ by_message (message_with k.terms body) (record { size = s.size; kept = put (with_part k []) s.kept })

pub ends : (s : State) (g y : List ℕ) (k : ChunkStream) → Opens s g k → length k.part + length y ≡ k.terms.length → Ends s (g ++ y) k (k.part ++ y)
ends s g y k o whole =
    let test : nat_eq (length (k.part ++ y)) k.terms.length ≡ true = eq-eqb (length (k.part ++ y)) k.terms.length (omega (arith, length-append k.part y)) in
    let some : message_of s (g ++ y) ≡ Some (message_with k.terms (k.part ++ y)) = message_is s g y k o ∙ (rw test) in
    let then : after_chunk s (g ++ y) ≡ record { size = s.size; kept = put (with_part k []) s.kept } = after_is s g y k o ∙ (rw test) in
    record {
      some = some;
      then = next_is s (g ++ y) ∙ (rw (some, then) refl);
    }
