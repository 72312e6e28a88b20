-- A unit in hand is written chunk by chunk
use Rattle.std.proofs.Common.{◌≡◌, ℕ, ◌+◌, ◌-◌, ◌*◌, ◌/◌, ◌%◌, ◌<◌, ◌≤◌, Bool, true, false, nat_lt, cond, List, [], ◌∷◌, ◌++◌, length, ap, ◌∙◌, arith, append_assoc, length-append}
use Rattle.chunk_wire.specs.Written.{basic_bytes, field_bytes, head_bytes}
use Rattle.chunk_writer.specs.declared.begun.Begun.{Begun}
use Rattle.chunk_writer.specs.InHand.{InHand, after_chunk, chunk_of, format_of, left_of, payload_of}
use Rattle.relay_session.specs.Owing.{Goes, IsHeld, in_hand}
use Rattle.relay_session.proofs.Lengths.{chunk_most}
use Rattle.chunk_writer.specs.Written.{extended_bytes, head_with, header_with}

basic_some : (format id : ℕ) → 0 < length (basic_bytes format id)
unfolding basic_bytes
basic_some format id = basic_case (nat_lt id 64) (nat_lt id 320)
  where
    basic_case : (a b : Bool) → 0 < length (cond a ((format * 64 + id) ∷ []) (cond b ((format * 64) ∷ (id - 64) ∷ []) ((format * 64 + 1) ∷ ((id - 64) % 256) ∷ ((id - 64) / 256) ∷ [])))
    basic_case true b = omega arith
    basic_case false true = omega arith
    basic_case false false = omega arith

header_some : (format : ℕ) (b : Begun) → 0 < length (header_with format b)
unfolding header_with
header_some format b =
    let h = head_with format b in
    let one = basic_some h.format h.id in
    let two = length-append (basic_bytes h.format h.id) (field_bytes h) in
    omega (arith, one, two, length-append (head_bytes h) (extended_bytes b.terms))

-- a chunk has a byte
pub chunk_some : (h : InHand) (body : List ℕ) → 0 < length (chunk_of h body)
chunk_some h body = omega (arith, header_some (format_of h) h.begun, length-append (header_with (format_of h) h.begun) (payload_of h body))

-- what the loop keeps, while fewer than so many bytes stand from a place on
pub record IsFilling (place most : ℕ) (old sending : InHand) (body before now : List ℕ) : Type 0 where
  pub held : IsHeld sending body
  pub goes : Goes (in_hand old body) before (in_hand sending body) now
  pub grows : length before ≤ length now
  pub size : sending.size ≡ old.size
  pub bound : (b : ℕ) → most + (18 + old.size) ≤ b → length before - place ≤ b → length now - place ≤ b

pub fill_more : (place most : ℕ) (old sending new : InHand) (body before now next : List ℕ) → IsFilling place most old sending body before now → length now - place < most → new ≡ after_chunk sending body
    → next ≡ now ++ chunk_of sending body → next ++ left_of new body ≡ now ++ left_of sending body → IsFilling place most old new body before next
fill_more place most old sending new body before now next f less a n s = record {
  held = rw a f.held;
  goes = record {
    same = s ∙ f.goes.same;
    more = f.goes.more ++ chunk_of sending body;
    after = n ∙ ap (λ (l : List ℕ). l ++ chunk_of sending body) f.goes.after ∙ append_assoc before f.goes.more (chunk_of sending body);
  };
  grows = omega (arith, f.grows, ap length n, length-append now (chunk_of sending body));
  size = ap (λ (h : InHand). h.size) a ∙ f.size;
  bound = λ b room le. omega (arith, room, less, ap length n, length-append now (chunk_of sending body), chunk_most sending body, f.size);
}
