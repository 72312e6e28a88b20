-- The bytes of one message are chunks, of which the last completes it
use Rattle.std.proofs.Common.{◌≡◌, ℕ, ◌+◌, ◌<◌, ◌≤◌, inl, inr, List, [], ◌∷◌, ◌++◌, length, take, drop, zero, suc, Option, Some, None, refl, sym, ap, ◌∙◌, subst, arith, append_assoc, append-nil, length-append, length-drop}
use Rattle.std.specs.List.{concat}
use Rattle.std.proofs.lemmas.Bool.{cases_lt}
use Rattle.std.proofs.lemmas.List.{length-take, take-append-drop}
use Rattle.chunk_wire.specs.declared.kept.ChunkStream.{ChunkStream}
use Rattle.chunk_wire.specs.declared.message.Message.{Message}
use Rattle.chunk_wire.specs.State.{State, part_bytes, put}
use Rattle.chunk_wire.specs.Chunk.{message_of}
use Rattle.chunk_reader.specs.Control.{by_message, next, refused_size}
use Rattle.chunk_reader.specs.Reads.{AreChunks, IsChunkWithin, ended, messages, state_after}
use Rattle.chunk_writer.specs.declared.begun.Begun.{Begun}
use Rattle.chunk_writer.specs.Written.{spread}
use Rattle.chunk_law.proofs.Opened.{Opens, holding}
use Rattle.chunk_law.proofs.Pieces.{ends, goes_on, message_with, piece}
use Rattle.chunk_law.proofs.Puts.{parts_put, put_put}
use Rattle.chunk_law.proofs.Spreads.{spread_long, spread_short}

-- the bytes b are chunks from s which complete the message m with their last byte, and lead to the state t
pub record Cut (max : ℕ) (s : State) (b : List ℕ) (m : Message) (t : State) : Type 0 where
  pub chunks : List (List ℕ)
  pub are : AreChunks max s chunks
  pub whole : concat chunks ≡ b
  pub given : (n : ℕ) → messages n s chunks ≡ (n + length b, m) ∷ []
  pub after : state_after s chunks ≡ t

cut_last : (max : ℕ) (s : State) (c : List ℕ) (m : Message) (t : State) → IsChunkWithin max s c → message_of s c ≡ Some m → next s c ≡ t → Cut max s c m t
cut_last max s c m t i some then = record {
  chunks = c ∷ [];
  are = (i, tt);
  whole = append-nil c;
  given = λ n. ap (λ (o : Option Message). ended (n + length c) o ++ []) some;
  after = then;
}

cut_more : (max : ℕ) (s : State) (c b : List ℕ) (m : Message) (u t : State) → IsChunkWithin max s c → message_of s c ≡ None → next s c ≡ u → Cut max u b m t → Cut max s (c ++ b) m t
cut_more max s c b m u t i none then cut =
    let A : State → Type 0 = λ v. AreChunks max v cut.chunks in
    let length_is : (n : ℕ) → n + length c + length b ≡ n + length (c ++ b) = λ n. omega (arith, length-append c b) in
    let first : (n : ℕ) → messages n s (c ∷ cut.chunks) ≡ messages (n + length c) u cut.chunks =
    λ n. rw (none, then) refl in
    record {
      chunks = c ∷ cut.chunks;
      are = (i, subst A (sym then) cut.are);
      whole = ap (λ (x : List ℕ). c ++ x) cut.whole;
      given = λ n. first n ∙ cut.given (n + length c) ∙ ap (λ (k : ℕ). (k, m) ∷ []) (length_is n);
      after = ap (λ (v : State). state_after v cut.chunks) then ∙ cut.after;
    }

-- the state while a message that is begun so has so much of its body
abbrev pub during : ℕ → Begun → List ChunkStream → List ℕ → State
during size x kept part = record { size = size; kept = put (holding x part) kept }

-- what is known while a message of this body is written: h is the header of each chunk but the first
pub record Writes (max size : ℕ) (x : Begun) (kept : List ChunkStream) (h body : List ℕ) : Type 0 where
  pub some : 1 ≤ size
  pub fits : x.terms.length ≤ max
  pub length_is : length body ≡ x.terms.length
  pub sized : refused_size (message_with x.terms body) ≡ None
  pub empty : part_bytes kept ≡ 0
  pub further : (part : List ℕ) → 0 < length part → Opens (during size x kept part) h (holding x part)

-- what is known before one of its chunks, of header g, where so much of the body is there and the rest comes
pub record Before (size : ℕ) (x : Begun) (kept : List ChunkStream) (body : List ℕ) (s : State) (g part rest : List ℕ) : Type 0 where
  pub size_is : s.size ≡ size
  pub puts : (q : List ℕ) → put (holding x q) s.kept ≡ put (holding x q) kept
  pub held : part_bytes s.kept ≤ length part
  pub opens : Opens s g (holding x part)
  pub body_is : body ≡ part ++ rest

held_by : (max size : ℕ) (x : Begun) (kept : List ChunkStream) (h body : List ℕ) (s : State) (g part rest : List ℕ) → Writes max size x kept h body → Before size x kept body s g part rest → part_bytes (put (holding x part) s.kept) ≡ length part
held_by max size x kept h body s g part rest w b = rw (b.puts part) (parts_put (holding x part) kept w.empty)

-- the last chunk
last : (max size : ℕ) (x : Begun) (kept : List ChunkStream) (h body : List ℕ) (s : State) (g part rest : List ℕ) → Writes max size x kept h body → Before size x kept body s g part rest → length rest ≤ size
    → Cut max s (g ++ spread h size size rest) (message_with x.terms body) (by_message (message_with x.terms body) (during size x kept []))
last max size x kept h body s g part rest w b short =
    let n : length body ≡ length part + length rest = ap length b.body_is ∙ length-append part rest in
    let total = w.length_is in
    let end = ends s g rest (holding x part) b.opens (omega (arith, n, total)) in
    let some : message_of s (g ++ rest) ≡ Some (message_with x.terms body) = rw b.body_is end.some in
    let then : next s (g ++ rest) ≡ by_message (message_with x.terms body) (during size x kept []) = rw (b.body_is, ← b.size_is, ← b.puts []) end.then in
    let held = held_by max size x kept h body s g part rest w b in
    let size_is = b.size_is in
    let i : IsChunkWithin max s (g ++ rest) = piece max s g rest (holding x part) b.opens w.fits (omega (arith, n, total, size_is, short)) (omega (arith, held, n, total, w.fits)) (omega (arith, b.held, n, total, w.fits)) (rw some w.sized) in
    rw (spread_short h size size rest short) (cut_last max s (g ++ rest) (message_with x.terms body) (by_message (message_with x.terms body) (during size x kept [])) i some then)

-- what is known before the chunk after a full one
then_before : (max size : ℕ) (x : Begun) (kept : List ChunkStream) (h body part rest : List ℕ) → Writes max size x kept h body → size < length rest → body ≡ part ++ rest → Before size x kept body (during size x kept (part ++ take size rest)) h (part ++ take size rest) (drop size rest)
then_before max size x kept h body part rest w more e =
    let now = part ++ take size rest in
    let some = w.some in
    record {
      size_is = refl;
      puts = λ q. put_put (holding x now) (holding x q) kept refl;
      held = rw (parts_put (holding x now) kept w.empty) (omega arith);
      opens = w.further now (omega (arith, length-append part (take size rest), length-take size rest));
      body_is = e ∙ ap (λ (y : List ℕ). part ++ y) (sym (take-append-drop size rest)) ∙ sym (append_assoc part (take size rest) (drop size rest));
    }

abbrev state_of : ℕ → List ChunkStream → State
state_of size kept = record { size = size; kept = kept }

same_state : (a b : ℕ) (j k : List ChunkStream) → a ≡ b → j ≡ k → state_of a j ≡ state_of b k
same_state a b j k e f = rw (e, f) refl

-- a full chunk, where the ones after it are known
full : (max size : ℕ) (x : Begun) (kept : List ChunkStream) (h body : List ℕ) (s : State) (g part rest : List ℕ) → Writes max size x kept h body → Before size x kept body s g part rest → size < length rest
    → Cut max (during size x kept (part ++ take size rest)) (h ++ spread h size size (drop size rest)) (message_with x.terms body) (by_message (message_with x.terms body) (during size x kept []))
    → Cut max s (g ++ spread h size size rest) (message_with x.terms body) (by_message (message_with x.terms body) (during size x kept []))
full max size x kept h body s g part rest w b more cut =
    let y = take size rest in
    let n : length body ≡ length part + length rest = ap length b.body_is ∙ length-append part rest in
    let total = w.length_is in
    let l : length y ≡ size = omega (arith, length-take size rest, more) in
    let on = goes_on s g y (holding x part) b.opens (omega (arith, n, total, l, more)) in
    let then : next s (g ++ y) ≡ during size x kept (part ++ y) = on.then ∙ same_state s.size size (put (holding x (part ++ y)) s.kept) (put (holding x (part ++ y)) kept) b.size_is (b.puts (part ++ y)) in
    let held = held_by max size x kept h body s g part rest w b in
    let size_is = b.size_is in
    let none = on.none in
    let i : IsChunkWithin max s (g ++ y) = piece max s g y (holding x part) b.opens w.fits (omega (arith, n, total, size_is, l, more)) (omega (arith, held, n, total, w.fits, l, more)) (omega (arith, b.held, n, total, w.fits)) (rw none refl) in
    let bytes : (g ++ y) ++ (h ++ spread h size size (drop size rest)) ≡ g ++ spread h size size rest = append_assoc g y (h ++ spread h size size (drop size rest)) ∙ ap (λ (v : List ℕ). g ++ v) (sym (spread_long h size rest w.some more)) in
    let C : List ℕ → Type 0 = λ v. Cut max s v (message_with x.terms body) (by_message (message_with x.terms body) (during size x kept [])) in
    subst C bytes (cut_more max s (g ++ y) (h ++ spread h size size (drop size rest)) (message_with x.terms body) (during size x kept (part ++ y)) (by_message (message_with x.terms body) (during size x kept [])) i none then cut)

-- all chunks from one on, fewer than n bytes more
all : (n max size : ℕ) (x : Begun) (kept : List ChunkStream) (h body : List ℕ) (s : State) (g part rest : List ℕ) → Writes max size x kept h body → Before size x kept body s g part rest → length rest ≤ n
    → Cut max s (g ++ spread h size size rest) (message_with x.terms body) (by_message (message_with x.terms body) (during size x kept []))
all zero max size x kept h body s g part rest w b le = last max size x kept h body s g part rest w b (omega arith)
all (suc n) max size x kept h body s g part rest w b le = elim (cases_lt size (length rest)) [
  | inl more ↦ (
      let now = part ++ take size rest in
      let some = w.some in
      let less : length (drop size rest) ≤ n = omega (arith, length-drop size rest, some, le) in
      full max size x kept h body s g part rest w b more (all n max size x kept h body (during size x kept now) h now (drop size rest) w (then_before max size x kept h body part rest w more b.body_is) less))
  | inr short ↦ last max size x kept h body s g part rest w b short
]

-- the bytes of a message, whose first header is g
pub message_cut : (max size : ℕ) (x : Begun) (kept : List ChunkStream) (h body g : List ℕ) → Writes max size x kept h body → Opens (record { size = size; kept = kept }) g (holding x [])
    → Cut max (record { size = size; kept = kept }) (g ++ spread h size size body) (message_with x.terms body) (by_message (message_with x.terms body) (during size x kept []))
message_cut max size x kept h body g w o = all (length body) max size x kept h body (record { size = size; kept = kept }) g [] body w (record { size_is = refl; puts = λ _. refl; held = omega (arith, w.empty); opens = o; body_is = refl }) (omega arith)
