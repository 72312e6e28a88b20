-- More bytes are read
use Rattle.std.proofs.Common.{◌≡◌, ℕ, ◌+◌, ◌-◌, ◌<◌, ◌≤◌, ◌^◌, true, false, nat_le, List, ◌++◌, ◌∷◌, [], length, refl, sym, ap, ◌∙◌, subst, arith, append_assoc, append-nil, length-append}
use Rattle.std.specs.List.{concat}
use Rattle.std.proofs.lemmas.List.Folds.{concat-append}
use Rattle.std.proofs.lemmas.Bool.{le-leb}
use Rattle.std.proofs.lemmas.Bool.Decides.{nat_tests}
use Rattle.chunk_wire.specs.declared.message.Message.{Message}
use Rattle.chunk_wire.specs.State.{State, fresh_state, part_bytes, put}
use Rattle.chunk_wire.specs.Chunk.{header_size, message_of, opened}
use Rattle.chunk_wire.proofs.Sizes.{basic_size_some}
use Rattle.chunk_wire.proofs.Same.{basic_in_header}
use Rattle.chunk_reader.specs.Control.{next}
use Rattle.chunk_reader.specs.Reads.{AreChunks, IsChunkWithin, IsOpen, Reads, ended, held_bytes, messages, part_limit, state_after}

pub held_short : (s : State) (r : List ℕ) → length r < header_size s r → held_bytes s r ≡ part_bytes s.kept
unfolding held_bytes
held_short s r h = let t : nat_le (header_size s r) (length r) ≡ false = grind (arith, nat_tests) in rw t refl

pub held_whole : (s : State) (r : List ℕ) → header_size s r ≤ length r → held_bytes s r ≡ part_bytes (put (opened s r) s.kept) + (length r - header_size s r)
unfolding held_bytes
held_whole s r h = let t : nat_le (header_size s r) (length r) ≡ true = le-leb (header_size s r) (length r) h in rw t refl

-- a header has a byte
pub header_some : (s : State) (r : List ℕ) → 0 < header_size s r
header_some s r = let a = basic_size_some r in let b = basic_in_header s r in omega arith

-- the next chunk may begin
pub open_empty : (max : ℕ) (s : State) → part_bytes s.kept ≤ part_limit max → IsOpen max s []
open_empty max s h =
    let a = basic_size_some [] in
    let b = header_some s [] in
    record {
      admitted = record { room = λ le. absurd (omega arith); length = λ le. absurd (omega arith); held = rw (held_short s [] b) h; before = h };
      short = omega arith;
    }

are_chunks_more : (max : ℕ) (s : State) (cs : List (List ℕ)) (c : List ℕ) → AreChunks max s cs → IsChunkWithin max (state_after s cs) c → AreChunks max s (cs ++ c ∷ [])
are_chunks_more max s [] c a i = (i, tt)
are_chunks_more max s (d ∷ ds) c a i = (a.0, are_chunks_more max (next s d) ds c a.1 i)

state_after_more : (s : State) (cs : List (List ℕ)) (c : List ℕ) → state_after s (cs ++ c ∷ []) ≡ next (state_after s cs) c
state_after_more s [] c = refl
state_after_more s (d ∷ ds) c = state_after_more (next s d) ds c

messages_more : (n : ℕ) (s : State) (cs : List (List ℕ)) (c : List ℕ) → messages n s (cs ++ c ∷ []) ≡ messages n s cs ++ ended (n + length (concat cs) + length c) (message_of (state_after s cs) c)
messages_more n s [] c = append-nil (ended (n + length c) (message_of s c)) ∙ ap (λ (k : ℕ). ended k (message_of s c)) (omega arith)
messages_more n s (d ∷ ds) c =
    let ih = messages_more (n + length d) (next s d) ds c in
    let e : n + length d + length (concat ds) + length c ≡ n + length (d ++ concat ds) + length c = omega (arith, length-append d (concat ds)) in
    ap (λ t. ended (n + length d) (message_of s d) ++ t) (ih ∙ ap (λ (k : ℕ). messages (n + length d) (next s d) ds ++ ended k (message_of (state_after (next s d) ds) c)) e)
    ∙ sym (append_assoc (ended (n + length d) (message_of s d)) (messages (n + length d) (next s d) ds) (ended (n + length (d ++ concat ds) + length c) (message_of (state_after (next s d) ds) c)))

concat_more : (cs : List (List ℕ)) (c : List ℕ) → concat (cs ++ c ∷ []) ≡ concat cs ++ c
concat_more cs c = concat-append cs (c ∷ []) ∙ ap (λ t. concat cs ++ t) (append-nil c)

-- nothing reads as nothing
pub reads_nothing : (max : ℕ) → Reads max [] [] fresh_state []
reads_nothing max = record { chunks = []; are_chunks = tt; whole = refl; given = refl; state = refl; rest = open_empty max fresh_state (omega arith); near = omega arith }

-- the chunk goes on
pub open_more : (max : ℕ) (b : List ℕ) (ms : List (ℕ × Message)) (s : State) (r x : List ℕ) → Reads max b ms s r → IsOpen max s (r ++ x) → length (b ++ x) ≤ 2 ^ 62 → Reads max (b ++ x) ms s (r ++ x)
open_more max b ms s r x q o h = record {
  chunks = q.chunks;
  are_chunks = q.are_chunks;
  whole = ap (λ (t : List ℕ). t ++ x) q.whole ∙ append_assoc (concat q.chunks) r x;
  given = q.given;
  state = q.state;
  rest = o;
  near = h;
}

-- the chunk ends
pub chunk_more : (max : ℕ) (b : List ℕ) (ms : List (ℕ × Message)) (s : State) (r x : List ℕ) → Reads max b ms s r → IsChunkWithin max s (r ++ x) → IsOpen max (next s (r ++ x)) [] → length (b ++ x) ≤ 2 ^ 62
    → Reads max (b ++ x) (ms ++ ended (length (b ++ x)) (message_of s (r ++ x))) (next s (r ++ x)) []
chunk_more max b ms s r x q i o h =
    let cs = q.chunks in
    let c = r ++ x in
    let whole : b ++ x ≡ concat cs ++ c = ap (λ (t : List ℕ). t ++ x) q.whole ∙ append_assoc (concat cs) r x in
    let n : 0 + length (concat cs) + length c ≡ length (b ++ x) = omega (arith, ap length whole, length-append (concat cs) c) in
    let at : messages 0 fresh_state (cs ++ c ∷ []) ≡ messages 0 fresh_state cs ++ ended (length (b ++ x)) (message_of s c) =
    messages_more 0 fresh_state cs c ∙ ap (λ (k : ℕ). messages 0 fresh_state cs ++ ended k (message_of (state_after fresh_state cs) c)) n
    ∙ ap (λ (t : State). messages 0 fresh_state cs ++ ended (length (b ++ x)) (message_of t c)) (sym q.state) in
    record {
      chunks = cs ++ c ∷ [];
      are_chunks = are_chunks_more max fresh_state cs c q.are_chunks (let P : State → Type 0 = λ t. IsChunkWithin max t c in subst P q.state i);
      whole = whole ∙ sym (append-nil (concat cs ++ c)) ∙ ap (λ (t : List ℕ). t ++ []) (sym (concat_more cs c));
      given = ap (λ t. t ++ ended (length (b ++ x)) (message_of s c)) q.given ∙ sym at;
      state = ap (λ (t : State). next t c) q.state ∙ sym (state_after_more fresh_state cs c);
      rest = o;
      near = h;
    }
