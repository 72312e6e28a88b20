-- What the parts of a header say of the whole
use Rattle.std.proofs.Common.{◌≡◌, ℕ, ◌+◌, ◌<◌, ◌≤◌, Bool, true, cond, List, length, drop, refl, arith}
use Rattle.std.proofs.lemmas.List.{length-drop}
use Rattle.chunk_wire.specs.declared.headers.Basic.{Basic}
use Rattle.chunk_wire.specs.declared.headers.Head.{Head}
use Rattle.chunk_wire.specs.declared.kept.Terms.{Terms}
use Rattle.chunk_wire.specs.Layout.{basic_in, basic_size, format_in, head_size}
use Rattle.chunk_wire.specs.State.{State}
use Rattle.chunk_wire.specs.Chunk.{head_fields, header_size, is_extended, kept_before, opened, terms_by, value_in}
use Rattle.chunk_wire.proofs.Same.{size_parts, basic_in_header}
use Rattle.chunk_reader.specs.Reads.{has_room}
use Rattle.chunk_reader.specs.Steps.{IsShort}

-- less than the basic header
pub short_basic : (s : State) (r : List ℕ) → length r < basic_size r → IsShort s r
short_basic s r h = record { short = (let e = basic_in_header s r in omega arith); room = λ le. absurd (omega arith) }

-- less than the message header
pub short_head : (s : State) (r : List ℕ) (basic : Basic) (n : ℕ) → basic ≡ basic_in r → n ≡ basic_size r → n ≤ length r → length (drop n r) < head_size basic.format → has_room s r ≡ true → IsShort s r
short_head s r basic n e z le h room = record {
  short = (let p = size_parts s r in let d = length-drop n r in let f = rw e at h in omega arith);
  room = λ _. room;
}

-- less than the header with its extended time
pub short_whole : (s : State) (r : List ℕ) (at : ℕ) (e : Bool) (whole : ℕ) → at ≡ basic_size r + head_size (format_in r) → e ≡ is_extended s r → whole ≡ at + cond e 4 0 → length r < whole → has_room s r ≡ true → IsShort s r
short_whole s r at e whole a x w h room = record {
  short = (let p = size_parts s r in let v = rw x at w in omega arith);
  room = λ _. room;
}

pub whole_is : (s : State) (r : List ℕ) (at : ℕ) (e : Bool) (whole : ℕ) → at ≡ basic_size r + head_size (format_in r) → e ≡ is_extended s r → whole ≡ at + cond e 4 0 → whole ≤ length r → header_size s r ≤ length r
whole_is s r at e whole a x w h = let p = size_parts s r in let v = rw x at w in omega arith

pub opened_terms : (s : State) (r : List ℕ) (t : Terms) (part : ℕ) (h : Head) (v : ℕ) (e : Bool) → t ≡ (kept_before s r).terms → part ≡ length (kept_before s r).part → h ≡ head_fields r → v ≡ value_in s r → e ≡ is_extended s r → terms_by t part h v e ≡ (opened s r).terms
unfolding opened
opened_terms s r t part h v e a b c d f = rw (a, b, c, d, f) refl
