-- A message encoded chunk by chunk
use Rattle.std.proofs.Common.{◌≡◌, ℕ, ◌≤◌, true, false, List, ◌++◌, sym, ap, ◌∙◌, append-nil, append_assoc, Option, Some}
use Rattle.chunk_wire.specs.declared.message.Message.{Message}
use Rattle.chunk_writer.specs.InHand.{chunk_of, has_more, left_of}
use Rattle.chunk_writer.specs.WriterKnown.{WriterKnown}
use Rattle.chunk_writer.specs.Written.{bytes_of}
use Rattle.chunk_writer.proofs.Chunked.{all_left, more_left, none_left}
use Rattle.session_owed.specs.Chunks.{Hand, Pending, all_first, begin, hand_after, next_chunk, pending_bytes, rest_by, say_bytes}

-- a message is begun: its bytes are pending after those that were
pub begins : (w : WriterKnown) (m : Message) (first : List ℕ) → pending_bytes (begin w m first) ≡ pending_bytes (all_first first) ++ bytes_of w m
begins w m first =
    ap (λ (l : List ℕ). first ++ l) (append-nil (rest_by (begin w m first).hand) ∙ all_left w m)
    ∙ ap (λ (l : List ℕ). l ++ bytes_of w m) (sym (append-nil first))

-- the next chunk is encoded: the same bytes are pending
pub goes_on : (first later : List ℕ) (h : Hand) → 1 ≤ h.sending.size → (h.sending.fresh ≡ true → h.sending.sent ≡ 0) → has_more h.sending h.body ≡ true
    → pending_bytes (next_chunk first h later) ≡ pending_bytes (record { first = first; hand = Some h; later = later })
goes_on first later h some none more =
    let c = chunk_of h.sending h.body in
    let r = left_of (hand_after h).sending h.body in
    append_assoc first c (r ++ later)
    ∙ ap (λ (l : List ℕ). first ++ l) (sym (append_assoc c r later) ∙ ap (λ (l : List ℕ). l ++ later) (more_left h.sending h.body some none more))

-- the message in hand stands in chunks whole: what was said after it follows
pub ends : (first later : List ℕ) (h : Hand) → has_more h.sending h.body ≡ false → pending_bytes (all_first (first ++ later)) ≡ pending_bytes (record { first = first; hand = Some h; later = later })
ends first later h e = append-nil (first ++ later) ∙ ap (λ (l : List ℕ). first ++ (l ++ later)) (sym (none_left h.sending h.body e))

-- bytes said stand after all that is pending, and so after the message in hand
pub says : (p : Pending) (b : List ℕ) → pending_bytes (say_bytes p b) ≡ pending_bytes p ++ b
says p b = ap (λ (l : List ℕ). p.first ++ l) (sym (append_assoc (rest_by p.hand) p.later b)) ∙ sym (append_assoc p.first (rest_by p.hand ++ p.later) b)

-- the first bytes are sent
pub sends : (b rest later : List ℕ) (hand : Option Hand) → pending_bytes (record { first = b ++ rest; hand = hand; later = later }) ≡ b ++ pending_bytes (record { first = rest; hand = hand; later = later })
sends b rest later hand = append_assoc b rest (rest_by hand ++ later)
