-- Bytes read in one way
use Rattle.std.proofs.Common.{◌≡◌, ℕ, List, ◌++◌, ◌∷◌, [], length, take, refl, sym, ap, ◌∙◌, subst, arith, append_assoc, length-append}
use Rattle.std.proofs.lemmas.List.{append_cancel_left, take_at}
use Rattle.std.specs.List.{concat}
use Rattle.chunk_wire.specs.declared.message.Message.{Message}
use Rattle.chunk_wire.specs.State.{State, fresh_state}
use Rattle.chunk_wire.specs.Chunk.{chunk_size}
use Rattle.chunk_reader.specs.Control.{next}
use Rattle.chunk_reader.specs.Reads.{AreChunks, IsChunkWithin, IsOpen, Reads, messages, state_after}
use Rattle.chunk_reader.specs.Laws.{SameReading}
use Rattle.chunk_reader.proofs.Stopping.{size_more}

-- the bytes of a chunk tell where it ends, whatever follows
ends : (max : ℕ) (s : State) (c x : List ℕ) → IsChunkWithin max s c → chunk_size s (c ++ x) ≡ length c
ends max s c x i = let w = i.chunk.whole in size_more s c x (omega (arith, w)) ∙ sym w

-- less than a chunk doesn't begin with a chunk
pub no_chunk : (max : ℕ) (s : State) (c x q : List ℕ) → IsChunkWithin max s c → q ≡ c ++ x → IsOpen max s q → ⊥
no_chunk max s c x q i e o = let z = ends max s c x i in let h = rw e at o.short in omega (arith, z, h, length-append c x)

pub same_front : (max : ℕ) (s : State) (c d x y : List ℕ) → IsChunkWithin max s c → IsChunkWithin max s d → c ++ x ≡ d ++ y → (c ≡ d) × (x ≡ y)
same_front max s c d x y i j e =
    let l : length c ≡ length d = sym (ends max s c x i) ∙ ap (chunk_size s) e ∙ ends max s d y j in
    let q : c ≡ d = sym (take_at c x (length c) refl) ∙ ap (take (length c)) e ∙ take_at d y (length c) (sym l) in
    (q, append_cancel_left c x y (e ∙ ap (λ (v : List ℕ). v ++ y) (sym q)))

same_chunks : (max : ℕ) (s : State) (cs ds : List (List ℕ)) (q r : List ℕ) → AreChunks max s cs → AreChunks max s ds → IsOpen max (state_after s cs) q → IsOpen max (state_after s ds) r → concat cs ++ q ≡ concat ds ++ r → (cs ≡ ds) × (q ≡ r)
same_chunks max s [] [] q r a b o p e = (refl, e)
same_chunks max s [] (d ∷ ds) q r a b o p e = absurd (no_chunk max s d (concat ds ++ r) q b.0 (e ∙ append_assoc d (concat ds) r) o)
same_chunks max s (c ∷ cs) [] q r a b o p e = absurd (no_chunk max s c (concat cs ++ q) r a.0 (sym e ∙ append_assoc c (concat cs) q) p)
same_chunks max s (c ∷ cs) (d ∷ ds) q r a b o p e =
    let f = same_front max s c d (concat cs ++ q) (concat ds ++ r) a.0 b.0 (sym (append_assoc c (concat cs) q) ∙ e ∙ append_assoc d (concat ds) r) in
    let A : List ℕ → Type 0 = λ t. AreChunks max (next s t) ds in
    let O : List ℕ → Type 0 = λ t. IsOpen max (state_after (next s t) ds) r in
    let g = same_chunks max (next s c) cs ds q r a.1 (subst A (sym f.0) b.1) o (subst O (sym f.0) p) f.1 in
    (ap (λ v. v ∷ cs) f.0 ∙ ap (λ v. d ∷ v) g.0, g.1)

pub one_reading : (max : ℕ) (b : List ℕ) (ms ns : List (ℕ × Message)) (s t : State) (q r : List ℕ) → Reads max b ms s q → Reads max b ns t r → SameReading ms ns s t q r
one_reading max b ms ns s t q r x y =
    let O : State → List ℕ → Type 0 = λ u v. IsOpen max u v in
    let g = same_chunks max fresh_state x.chunks y.chunks q r x.are_chunks y.are_chunks (subst (λ (u : State). IsOpen max u q) x.state x.rest) (subst (λ (u : State). IsOpen max u r) y.state y.rest) (sym x.whole ∙ y.whole) in
    record {
      messages_same = x.given ∙ ap (messages 0 fresh_state) g.0 ∙ sym y.given;
      state_same = x.state ∙ ap (state_after fresh_state) g.0 ∙ sym y.state;
      rest_same = g.1;
    }
