-- How many bytes messages have as chunks: at most 18 of the first header, and for each byte of the body and each 16 of them
-- one more, where chunks have 128 bytes or more
use Rattle.std.proofs.Common.{◌≡◌, ℕ, ◌+◌, ◌-◌, ◌*◌, ◌≤◌, zero, suc, Bool, true, false, cond, List, [], ◌∷◌, length, drop, refl, arith, length-append}
use Rattle.std.proofs.lemmas.Bool.Decides.{nat_tests}
use Rattle.std.proofs.lemmas.List.{length-take}
use Rattle.chunk_wire.specs.declared.headers.Head.{Head}
use Rattle.chunk_wire.specs.declared.kept.Terms.{Terms}
use Rattle.chunk_wire.specs.Written.{basic_bytes, field_bytes, head_bytes}
use Rattle.chunk_writer.specs.declared.begun.Begun.{Begun}
use Rattle.relay_base.specs.Numbers.{be32_of}
use Rattle.chunk_wire.specs.declared.message.Message.{Message}
use Rattle.chunk_writer.specs.InHand.{InHand, chunk_of, format_of, payload_of}
use Rattle.chunk_writer.specs.Rule.{begun_in}
use Rattle.chunk_writer.specs.WriterKnown.{WriterKnown, sized}
use Rattle.chunk_writer.specs.Written.{after, after_all, bytes_of, extended_bytes, head_with, header_with, message_bytes, next, resized_by, sets_size, spread, written}
use Rattle.relay_session.specs.Owing.{AreWritable, IsSayable, IsSized, cost_of, costs_of}

basic_most : (format id : ℕ) → length (basic_bytes format id) ≤ 3
unfolding basic_bytes
basic_most format id = grind (arith, nat_tests)

field_most : (h : Head) → length (field_bytes h) ≤ 11
unfolding field_bytes
field_most h = grind (arith, nat_tests)

field_none : (h : Head) → h.format ≡ 3 → length (field_bytes h) ≤ 0
unfolding field_bytes
field_none h e = grind (arith, nat_tests)

extended_most : (t : Terms) → length (extended_bytes t) ≤ 4
unfolding extended_bytes
extended_most t = grind (arith, nat_tests)

pub header_most : (format : ℕ) (b : Begun) → length (header_with format b) ≤ 18
unfolding header_with
header_most format b =
    let h = head_with format b in
    omega (arith, basic_most h.format h.id, field_most h, extended_most b.terms, length-append (basic_bytes h.format h.id) (field_bytes h), length-append (head_bytes h) (extended_bytes b.terms))

further_most : (b : Begun) → length (header_with 3 b) ≤ 8
unfolding header_with
further_most b =
    let h = head_with 3 b in
    omega (arith, basic_most h.format h.id, field_none h refl, extended_most b.terms, length-append (basic_bytes h.format h.id) (field_bytes h), length-append (head_bytes h) (extended_bytes b.terms))

spread_most : (header : List ℕ) (size room : ℕ) (body : List ℕ) → length header ≤ 8 → 128 ≤ size → 16 * length (spread header size room body) ≤ 17 * length body + (128 - room)
unfolding spread
spread_most header size room [] le some = omega arith
spread_most header size zero (byte ∷ body) le some =
    omega (arith, le, some, spread_most header size (size - 1) body le some, length-append header (byte ∷ spread header size (size - 1) body))
spread_most header size (suc room) (byte ∷ body) le some = omega (arith, spread_most header size room body le some)

pub message_most : (size : ℕ) (b : Begun) (body : List ℕ) → 128 ≤ size → 16 * length (message_bytes size b body) ≤ 288 + 17 * length body
message_most size b body some =
    omega (arith, header_most b.format b, spread_most (header_with 3 b) size size body (further_most b) some, some, length-append (header_with b.format b) (spread (header_with 3 b) size size body))

-- a chunk has no more than its header and the chunk size
pub chunk_most : (h : InHand) (body : List ℕ) → length (chunk_of h body) ≤ 18 + h.size
chunk_most h body =
    omega (arith, header_most (format_of h) h.begun, length-append (header_with (format_of h) h.begun) (payload_of h body), length-take h.size (drop h.sent body))

sized_case : (t : Bool) (n : ℕ) (w : WriterKnown) → IsSized w.size → (t ≡ true → IsSized n) → IsSized (cond t (sized n w) w).size
sized_case true n w k f = f refl
sized_case false n w k f = k

-- the chunk size after a message
pub next_sized : (w : WriterKnown) (m : Message) → IsSized w.size → IsSayable m → IsSized (next w m).size
unfolding resized_by
next_sized w m k s = sized_case (sets_size m) (be32_of m.body) (after w m) k s.sized

pub bytes_most : (w : WriterKnown) (m : Message) → IsSized w.size → 16 * length (bytes_of w m) ≤ cost_of m
unfolding bytes_of
bytes_most w m k = message_most w.size (begun_in w.said m) m.body k.least

pub written_most : (w : WriterKnown) (ms : List Message) → IsSized w.size → AreWritable ms → 16 * length (written w ms) ≤ costs_of ms
unfolding written
written_most w [] k a = omega arith
written_most w (m ∷ ms) k a =
    omega (arith, bytes_most w m k, written_most (next w m) ms (next_sized w m k a.0) a.1, length-append (bytes_of w m) (written (next w m) ms))

pub all_sized : (w : WriterKnown) (ms : List Message) → IsSized w.size → AreWritable ms → IsSized (after_all w ms).size
unfolding after_all
all_sized w [] k a = k
all_sized w (m ∷ ms) k a = all_sized (next w m) ms (next_sized w m k a.0) a.1
