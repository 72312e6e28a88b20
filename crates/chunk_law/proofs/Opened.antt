-- The header of a chunk that was written opens the chunk that was meant
use Rattle.std.proofs.Common.{◌≡◌, ℕ, ◌+◌, ◌<◌, ◌≤◌, ◌^◌, Bool, true, false, cond, nat_le, nat_lt, nat_eq, ◌&&◌, ◌||◌, List, [], ◌++◌, length, drop, min, refl, ap, ◌∙◌, arith, append_assoc, length-append}
use Rattle.std.proofs.lemmas.List.{drop_at}
use Rattle.std.proofs.lemmas.Bool.Decides.{nat_tests}
use Rattle.std.specs.Int.{bytes_high_first}
use Rattle.relay_base.specs.Numbers.{be32_of}
use Rattle.relay_base.proofs.ReadBack.{be32_of-bytes}
use Rattle.chunk_wire.specs.declared.headers.Head.{Head}
use Rattle.chunk_wire.specs.declared.kept.ChunkStream.{ChunkStream}
use Rattle.chunk_wire.specs.declared.kept.Terms.{Terms}
use Rattle.chunk_wire.specs.Layout.{basic_size, format_in, head_size}
use Rattle.chunk_wire.specs.State.{State, kept_of}
use Rattle.chunk_wire.specs.Chunk.{head_fields, header_size, is_extended, opened, terms_by, value_in}
use Rattle.chunk_wire.specs.Written.{head_bytes}
use Rattle.chunk_wire.specs.ReadBack.{IsHead, shown}
use Rattle.chunk_reader.specs.Reads.{has_room}
use Rattle.chunk_writer.specs.declared.begun.Begun.{Begun}
use Rattle.chunk_writer.specs.Written.{extended_bytes, head_with, header_with}
use Rattle.chunk_law.proofs.Heads.{IsAhead, ahead}
use Rattle.chunk_law.proofs.Puts.{has}

-- a message that is begun so can be written
pub record IsSaid (x : Begun) : Type 0 where
  pub id_low : 2 ≤ x.id
  pub id_high : x.id ≤ 65599
  pub length : x.terms.length < 2 ^ 24
  pub kind : x.terms.kind < 256
  pub stream : x.terms.stream < 2 ^ 32
  pub delta : x.terms.delta < 2 ^ 32
  pub extended : x.terms.extended ≡ nat_le 16777215 x.terms.delta

head_fits : (f : ℕ) (x : Begun) → f < 4 → IsSaid x → IsHead (head_with f x)
head_fits f x lt said = record {
  format = lt;
  id_low = said.id_low;
  id_high = said.id_high;
  field = omega arith;
  length = said.length;
  kind = said.kind;
  stream = said.stream;
}

header_parts : (f : ℕ) (x : Begun) (rest : List ℕ) → header_with f x ++ rest ≡ head_bytes (head_with f x) ++ (extended_bytes x.terms ++ rest)
unfolding header_with
header_parts f x rest = append_assoc (head_bytes (head_with f x)) (extended_bytes x.terms) rest

header_ahead : (f : ℕ) (x : Begun) (rest : List ℕ) → f < 4 → IsSaid x → IsAhead (head_with f x) (header_with f x ++ rest)
header_ahead f x rest lt said = rw (header_parts f x rest) (ahead (head_with f x) (extended_bytes x.terms ++ rest) (head_fits f x lt said))

extended_test : (t : Bool) (delta : ℕ) (e k : Bool) → e ≡ nat_le 16777215 delta → (t ≡ false → k ≡ e) → cond t (nat_eq (cond t (min delta 16777215) 0) 16777215) k ≡ e
extended_test true delta e k is f = grind (arith, nat_tests)
extended_test false delta e k is f = f refl

shown_field : (f : ℕ) (x : Begun) → (shown (head_with f x)).field ≡ cond (nat_lt f 3) (min x.terms.delta 16777215) 0
unfolding shown
shown_field f x = refl

-- extended time follows where it was written
extended_back : (s : State) (f : ℕ) (x : Begun) (b : List ℕ) → IsAhead (head_with f x) b → IsSaid x → (nat_lt f 3 ≡ false → (kept_of x.id s.kept).terms.extended ≡ x.terms.extended) → is_extended s b ≡ x.terms.extended
unfolding is_extended
extended_back s f x b a said kept =
    let test = extended_test (nat_lt f 3) x.terms.delta x.terms.extended ((kept_of x.id s.kept).terms.extended) said.extended kept in
    rw (a.fields, a.format, a.id, shown_field f x) test

size_by : (t : Bool) (b : List ℕ) (n : ℕ) → length b ≡ n → length (cond t b []) ≡ cond t n 0
size_by true b n e = e
size_by false b n e = refl

extended_size : (t : Terms) → length (extended_bytes t) ≡ cond t.extended 4 0
unfolding extended_bytes
extended_size t = size_by t.extended (bytes_high_first 4 t.delta) 4 refl

header_length : (f : ℕ) (x : Begun) → length (header_with f x) ≡ length (head_bytes (head_with f x)) + cond x.terms.extended 4 0
unfolding header_with
header_length f x = length-append (head_bytes (head_with f x)) (extended_bytes x.terms) ∙ ap (λ (n : ℕ). length (head_bytes (head_with f x)) + n) (extended_size x.terms)

header_size_back : (s : State) (f : ℕ) (x : Begun) (b : List ℕ) → IsAhead (head_with f x) b → is_extended s b ≡ x.terms.extended → header_size s b ≡ length (header_with f x)
unfolding header_size
header_size_back s f x b a e = rw e (omega (arith, a.size, header_length f x))

-- the number of the extended time, or the field
value_by : (t : Bool) (n delta : ℕ) (rest : List ℕ) → delta < 2 ^ 32 → t ≡ nat_le 16777215 delta → n ≡ min delta 16777215 → cond t (be32_of (cond t (bytes_high_first 4 delta) [] ++ rest)) n ≡ delta
value_by true n delta rest lt e f = be32_of-bytes delta rest lt
value_by false n delta rest lt e f = grind (arith, nat_tests)

value_parts : (s : State) (b : List ℕ) (e : Bool) (n : ℕ) (h : Head) → is_extended s b ≡ e → basic_size b + head_size (format_in b) ≡ n → head_fields b ≡ h → value_in s b ≡ cond e (be32_of (drop n b)) h.field
unfolding value_in
value_parts s b e n h p q r = rw (r, q, p) refl

extended_parts : (t : Terms) → extended_bytes t ≡ cond t.extended (bytes_high_first 4 t.delta) []
unfolding extended_bytes
extended_parts t = refl

value_back : (s : State) (f : ℕ) (x : Begun) (rest : List ℕ) → f < 3 → IsSaid x → IsAhead (head_with f x) (header_with f x ++ rest) → is_extended s (header_with f x ++ rest) ≡ x.terms.extended → value_in s (header_with f x ++ rest) ≡ x.terms.delta
value_back s f x rest lt said a e =
    let b = header_with f x ++ rest in
    let h = head_bytes (head_with f x) in
    let parts = value_parts s b x.terms.extended (length h) (shown (head_with f x)) e a.size a.fields in
    let left : drop (length h) b ≡ cond x.terms.extended (bytes_high_first 4 x.terms.delta) [] ++ rest = rw (header_parts f x rest, extended_parts x.terms) (drop_at h (cond x.terms.extended (bytes_high_first 4 x.terms.delta) [] ++ rest) (length h) refl) in
    let test : nat_lt f 3 ≡ true = grind (arith, nat_tests) in
    let field : (shown (head_with f x)).field ≡ min x.terms.delta 16777215 = shown_field f x ∙ (rw test) in
    parts ∙ ap (λ (v : List ℕ). cond x.terms.extended (be32_of v) ((shown (head_with f x)).field)) left
    ∙ value_by x.terms.extended ((shown (head_with f x)).field) x.terms.delta rest said.delta said.extended field

-- the record of an id while a message that is begun so has so much of its body
abbrev pub holding : Begun → List ℕ → ChunkStream
holding x part = record { id = x.id; terms = x.terms; part = part }

-- the bytes g are a header from s, after which k is the record of its id
pub record Opens (s : State) (g : List ℕ) (k : ChunkStream) : Type 0 where
  pub size : (rest : List ℕ) → header_size s (g ++ rest) ≡ length g
  pub room : (rest : List ℕ) → has_room s (g ++ rest) ≡ true
  pub opened_is : (rest : List ℕ) → opened s (g ++ rest) ≡ k

-- what a header of format f says of the message that is begun so, where k is the record of its id
pub record Leads (f : ℕ) (k : ChunkStream) (x : Begun) (part : List ℕ) : Type 0 where
  pub format : f < 4
  pub extended : nat_lt f 3 ≡ false → k.terms.extended ≡ x.terms.extended
  pub terms_are : (v : ℕ) → (f < 3 → v ≡ x.terms.delta) → terms_by k.terms (length k.part) (shown (head_with f x)) v x.terms.extended ≡ x.terms
  pub part_is : cond (nat_lt f 3) [] k.part ≡ part

opened_parts : (s : State) (b : List ℕ) (f : ℕ) (x : Begun) (k : ChunkStream) (part : List ℕ) → IsAhead (head_with f x) b → kept_of x.id s.kept ≡ k → is_extended s b ≡ x.terms.extended → (f < 3 → value_in s b ≡ x.terms.delta) → Leads f k x part → opened s b ≡ holding x part
unfolding opened
opened_parts s b f x k part a kept e v leads =
    rw (a.fields, e, a.format, a.id, kept) (let t = leads.terms_are (value_in s b) v in rw (t, leads.part_is) refl)

room_back : (s : State) (b : List ℕ) (f : ℕ) (x : Begun) → IsAhead (head_with f x) b → (has x.id s.kept || (nat_lt f 2 && nat_lt (length s.kept) 64)) ≡ true → has_room s b ≡ true
room_back s b f x a room = rw (a.id, a.format) room

pub opens : (s : State) (f : ℕ) (x : Begun) (part : List ℕ) → IsSaid x → Leads f (kept_of x.id s.kept) x part → (has x.id s.kept || (nat_lt f 2 && nat_lt (length s.kept) 64)) ≡ true → Opens s (header_with f x) (holding x part)
opens s f x part said leads room =
    let a = λ (rest : List ℕ). header_ahead f x rest leads.format said in
    let e = λ (rest : List ℕ). extended_back s f x (header_with f x ++ rest) (a rest) said leads.extended in
    record {
      size = λ rest. header_size_back s f x (header_with f x ++ rest) (a rest) (e rest);
      room = λ rest. room_back s (header_with f x ++ rest) f x (a rest) room;
      opened_is = λ rest. opened_parts s (header_with f x ++ rest) f x (kept_of x.id s.kept) part (a rest) refl (e rest) (λ lt. value_back s f x rest lt said (a rest) (e rest)) leads;
    }
