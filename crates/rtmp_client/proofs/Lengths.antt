-- How many bytes messages have as chunks: at most 18 of the first header, and for each byte of the body and each 16 of them
-- one more, where chunks have 128 bytes or more
use Rattle.std.proofs.Common.{◌≡◌, ℕ, ◌+◌, ◌-◌, ◌*◌, ◌≤◌, zero, suc, Bool, true, false, cond, List, [], ◌∷◌, length, refl, arith, length-append}
use Rattle.std.proofs.lemmas.Bool.Decides.{nat_tests}
use Rattle.chunk_wire.specs.declared.headers.Head.{Head}
use Rattle.chunk_wire.specs.declared.kept.Terms.{Terms}
use Rattle.chunk_wire.specs.Written.{basic_bytes, field_bytes, head_bytes}
use Rattle.chunk_writer.specs.declared.begun.Begun.{Begun}
use Rattle.relay_base.specs.Numbers.{be32_of}
use Rattle.chunk_wire.specs.declared.message.Message.{Message}
use Rattle.chunk_writer.specs.Rule.{begun_in}
use Rattle.chunk_writer.specs.WriterKnown.{WriterKnown, sized}
use Rattle.chunk_writer.specs.Written.{after, bytes_of, extended_bytes, head_with, header_with, message_bytes, next, resized_by, sets_size, spread}
use Rattle.rtmp_client.specs.Owing.{IsSayable, IsSized, cost_of}

basic_most : (format id : ℕ) → length (basic_bytes format id) ≤ 3
unfolding basic_bytes
basic_most format id = grind (arith, nat_tests)

field_most : (h : Head) → length (field_bytes h) ≤ 11
unfolding field_bytes
field_most h = grind (arith, nat_tests)

field_none : (h : Head) → h.format ≡ 3 → length (field_bytes h) ≤ 0
unfolding field_bytes
field_none h e = grind (arith, nat_tests)

extended_most : (t : Terms) → length (extended_bytes t) ≤ 4
unfolding extended_bytes
extended_most t = grind (arith, nat_tests)

pub header_most : (format : ℕ) (b : Begun) → length (header_with format b) ≤ 18
unfolding header_with
header_most format b =
    let h = head_with format b in
    omega (arith, basic_most h.format h.id, field_most h, extended_most b.terms, length-append (basic_bytes h.format h.id) (field_bytes h), length-append (head_bytes h) (extended_bytes b.terms))

further_most : (b : Begun) → length (header_with 3 b) ≤ 8
unfolding header_with
further_most b =
    let h = head_with 3 b in
    omega (arith, basic_most h.format h.id, field_none h refl, extended_most b.terms, length-append (basic_bytes h.format h.id) (field_bytes h), length-append (head_bytes h) (extended_bytes b.terms))

spread_most : (header : List ℕ) (size room : ℕ) (body : List ℕ) → length header ≤ 8 → 128 ≤ size → 16 * length (spread header size room body) ≤ 17 * length body + (128 - room)
unfolding spread
spread_most header size room [] le some = omega arith
spread_most header size zero (byte ∷ body) le some =
    omega (arith, le, some, spread_most header size (size - 1) body le some, length-append header (byte ∷ spread header size (size - 1) body))
spread_most header size (suc room) (byte ∷ body) le some = omega (arith, spread_most header size room body le some)

pub message_most : (size : ℕ) (b : Begun) (body : List ℕ) → 128 ≤ size → 16 * length (message_bytes size b body) ≤ 288 + 17 * length body
message_most size b body some =
    omega (arith, header_most b.format b, spread_most (header_with 3 b) size size body (further_most b) some, some, length-append (header_with b.format b) (spread (header_with 3 b) size size body))

-- where chunks have 4,096 bytes, one more for each 512
wide_most : (header : List ℕ) (size room : ℕ) (body : List ℕ) → length header ≤ 8 → 4096 ≤ size → 512 * length (spread header size room body) ≤ 513 * length body + (4096 - room)
unfolding spread
wide_most header size room [] le some = omega arith
wide_most header size zero (byte ∷ body) le some =
    omega (arith, le, some, wide_most header size (size - 1) body le some, length-append header (byte ∷ spread header size (size - 1) body))
wide_most header size (suc room) (byte ∷ body) le some = omega (arith, wide_most header size room body le some)

pub bytes_wide : (w : WriterKnown) (m : Message) → w.size ≡ 4096 → 512 * length (bytes_of w m) ≤ 9216 + 513 * length m.body
unfolding bytes_of
bytes_wide w m e =
    let b = begun_in w.said m in
    let header = header_with 3 b in
    omega (arith, e, header_most b.format b, wide_most header w.size w.size m.body (further_most b) (omega (arith, e)), length-append (header_with b.format b) (spread header w.size w.size m.body))

sized_case : (t : Bool) (n : ℕ) (w : WriterKnown) → IsSized w.size → (t ≡ true → IsSized n) → IsSized (cond t (sized n w) w).size
sized_case true n w k f = f refl
sized_case false n w k f = k

-- the chunk size after a message
pub next_sized : (w : WriterKnown) (m : Message) → IsSized w.size → IsSayable m → IsSized (next w m).size
unfolding resized_by
next_sized w m k s = sized_case (sets_size m) (be32_of m.body) (after w m) k s.sized

pub bytes_most : (w : WriterKnown) (m : Message) → IsSized w.size → 16 * length (bytes_of w m) ≤ cost_of m
unfolding bytes_of
bytes_most w m k = message_most w.size (begun_in w.said m) m.body k.least
