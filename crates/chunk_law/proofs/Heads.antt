-- What is read of a chunk's header that was written
use Rattle.std.proofs.Common.{◌≡◌, ℕ, ◌+◌, Bool, true, false, cond, nat_le, List, ◌++◌, length, drop, Some, None, ap, arith, length-append}
use Rattle.chunk_wire.specs.declared.headers.Basic.{Basic}
use Rattle.chunk_wire.specs.declared.headers.Head.{Head}
use Rattle.chunk_wire.specs.Layout.{basic_in, basic_size, format_in, head_in, head_size, id_in}
use Rattle.chunk_wire.specs.Chunk.{head_fields}
use Rattle.chunk_wire.specs.Written.{basic_bytes, field_bytes, head_bytes}
use Rattle.chunk_wire.specs.ReadBack.{IsHead, basic_part, shown}
use Rattle.chunk_wire.proofs.ReadBackLemmas.{reads_back}

some_when : {A : Type 0} (t : Bool) (x y : A) → cond t (Some x) None ≡ Some y → x ≡ y
some_when true x y e = cc
some_when false x y e = absurd (cc)

-- the header h stands at the front of b
pub record IsAhead (h : Head) (b : List ℕ) : Type 0 where
  pub format : format_in b ≡ h.format
  pub id : id_in b ≡ h.id
  pub fields : head_fields b ≡ shown h
  pub size : basic_size b + head_size (format_in b) ≡ length (head_bytes h)

pub ahead : (h : Head) (rest : List ℕ) → IsHead h → IsAhead h (head_bytes h ++ rest)
ahead h rest fits =
    let back = reads_back h rest fits in
    let b = head_bytes h ++ rest in
    let n = length (basic_bytes h.format h.id) in
    let both = some_when (nat_le (basic_size b) (length b)) (basic_in b, basic_size b) (basic_part h, n) back.basic in
    let basic : basic_in b ≡ basic_part h = ap (λ (p : Basic × ℕ). p.0) both in
    let size : basic_size b ≡ n = ap (λ (p : Basic × ℕ). p.1) both in
    let format : format_in b ≡ h.format = ap (λ (p : Basic). p.format) basic in
    let head = some_when (nat_le (head_size h.format) (length (drop n b))) (head_in (basic_part h) (drop n b), head_size h.format) (shown h, length (field_bytes h)) back.fields in
    let fields : head_in (basic_part h) (drop n b) ≡ shown h = ap (λ (p : Head × ℕ). p.0) head in
    let more : head_size h.format ≡ length (field_bytes h) = ap (λ (p : Head × ℕ). p.1) head in
    record {
      format = format;
      id = ap (λ (p : Basic). p.id) basic;
      fields = rw (basic, size) fields;
      size = rw (size, format) (omega (arith, more, length-append (basic_bytes h.format h.id) (field_bytes h)));
    }
