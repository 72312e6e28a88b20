-- Bytes that are refused are not read
use Rattle.std.proofs.Common.{◌≡◌, ℕ, ◌+◌, ◌-◌, ◌≤◌, ◌^◌, ◌⊎◌, inl, inr, List, ◌++◌, ◌∷◌, [], length, take, slice_index, Some, None, refl, sym, ap, ◌∙◌, subst, arith, append_assoc, append-nil, length-append}
use Rattle.std.proofs.lemmas.List.{length-take, take-append-le, take_all, take_at, take_more}
use Rattle.std.proofs.lemmas.Bool.{cases_lt}
use Rattle.std.specs.List.{concat}
use Rattle.chunk_wire.specs.declared.message.Message.{Message}
use Rattle.chunk_wire.specs.Layout.{format_in}
use Rattle.chunk_wire.specs.State.{State, fresh_state}
use Rattle.chunk_wire.specs.Chunk.{is_known}
use Rattle.chunk_reader.specs.declared.fail.ReadCause.{ReadCause}
use Rattle.chunk_reader.specs.declared.fail.ReadCause.TheVariants.{NoHead, TooManyIds, TooLong, TooMuch, BadChunkSize, OutOfMemory, TooFar}
use Rattle.chunk_reader.specs.Control.{next}
use Rattle.chunk_reader.specs.Reads.{AreChunks, IsChunkWithin, IsOpen, Reads, state_after}
use Rattle.chunk_reader.specs.Stops.{Refuses, Stops}
use Rattle.chunk_reader.proofs.Once.{no_chunk, same_front}
use Rattle.chunk_reader.proofs.Parts.{reads_part}
use Rattle.chunk_reader.proofs.Running.{empty_is}
use Rattle.chunk_reader.proofs.Stopping.{no_room, take_past}

-- one byte after less than a chunk: still less, or a chunk
one_byte : (max : ℕ) (s : State) (r d z : List ℕ) (y : ℕ) → IsOpen max s r → IsChunkWithin max s d → r ++ y ∷ [] ≡ d ++ z → IsChunkWithin max s (r ++ y ∷ [])
one_byte max s r d z y o i e =
    let n : length r + 1 ≡ length d + length z = omega (arith, ap length e, length-append r (y ∷ []), length-append d z) in
    elim (cases_lt (length r) (length d)) [
      | inl less ↦ (
          let none : z ≡ [] = empty_is z (omega arith) in
          let same : d ≡ r ++ y ∷ [] = sym (append-nil d) ∙ ap (λ (t : List ℕ). d ++ t) (sym none) ∙ sym e in
          subst (λ (t : List ℕ). IsChunkWithin max s t) same i)
      | inr le ↦ (
          let k : length r ≡ length d + (length r - length d) = omega arith in
          let cut : r ≡ d ++ take (length r - length d) z = sym (take_at r (y ∷ []) (length r) refl) ∙ ap (take (length r)) e ∙ ap (λ (m : ℕ). take m (d ++ z)) k ∙ take_past d z (length r - length d) in
          absurd (no_chunk max s d (take (length r - length d) z) r i cut o))
    ]

back : (max : ℕ) (s : State) (cs ds : List (List ℕ)) (r q : List ℕ) (y : ℕ) → AreChunks max s cs → IsOpen max (state_after s cs) r → AreChunks max s ds → IsOpen max (state_after s ds) q → concat cs ++ (r ++ y ∷ []) ≡ concat ds ++ q
    → IsOpen max (state_after s cs) (r ++ y ∷ []) ⊎ IsChunkWithin max (state_after s cs) (r ++ y ∷ [])
back max s [] [] r q y a o b p e = inl (subst (λ (t : List ℕ). IsOpen max s t) (sym e) p)
back max s [] (d ∷ ds) r q y a o b p e = inr (one_byte max s r d (concat ds ++ q) y o b.0 (e ∙ append_assoc d (concat ds) q))
back max s (c ∷ cs) [] r q y a o b p e = absurd (no_chunk max s c (concat cs ++ (r ++ y ∷ [])) q a.0 (sym e ∙ append_assoc c (concat cs) (r ++ y ∷ [])) p)
back max s (c ∷ cs) (d ∷ ds) r q y a o b p e =
    let f = same_front max s c d (concat cs ++ (r ++ y ∷ [])) (concat ds ++ q) a.0 b.0 (sym (append_assoc c (concat cs) (r ++ y ∷ [])) ∙ e ∙ append_assoc d (concat ds) q) in
    let A : List ℕ → Type 0 = λ t. AreChunks max (next s t) ds in
    let O : List ℕ → Type 0 = λ t. IsOpen max (state_after (next s t) ds) q in
    back max (next s c) cs ds r q y a.1 o (subst A (sym f.0) b.1) (subst O (sym f.0) p) f.1

-- a byte that is refused neither leaves less than a chunk nor ends one
not_open : (max n : ℕ) (s : State) (r : List ℕ) (cause : ReadCause) → IsOpen max s r → n + 1 ≤ 2 ^ 62 → Refuses max s r n cause → ⊥
not_open max n s r (NoHead id) o near f = no_room (is_known s r) (format_in r) (length s.kept) f.2 (inl f.3) (o.admitted.room (omega (arith, f.0)))
not_open max n s r TooManyIds o near f = no_room (is_known s r) (format_in r) (length s.kept) f.1 (inr f.3) (o.admitted.room (omega (arith, f.0)))
not_open max n s r (TooLong found) o near f = let h = o.admitted.length (omega (arith, f.0)) in omega (arith, h, f.2, f.3)
not_open max n s r TooMuch o near f = omega (arith, o.admitted.held, f.2)
not_open max n s r (BadChunkSize v) o near f = omega (arith, o.short, f.0)
not_open max n s r OutOfMemory o near f = f
not_open max n s r TooFar o near f = omega (arith, f.0)

not_chunk : (max n : ℕ) (s : State) (r : List ℕ) (cause : ReadCause) → IsChunkWithin max s r → n + 1 ≤ 2 ^ 62 → Refuses max s r n cause → ⊥
not_chunk max n s r (NoHead id) o near f = no_room (is_known s r) (format_in r) (length s.kept) f.2 (inl f.3) (o.admitted.room (omega (arith, f.0)))
not_chunk max n s r TooManyIds o near f = no_room (is_known s r) (format_in r) (length s.kept) f.1 (inr f.3) (o.admitted.room (omega (arith, f.0)))
not_chunk max n s r (TooLong found) o near f = let h = o.admitted.length (omega (arith, f.0)) in omega (arith, h, f.2, f.3)
not_chunk max n s r TooMuch o near f = omega (arith, o.admitted.held, f.2)
not_chunk max n s r (BadChunkSize v) o near f = let e : None ≡ Some v = sym o.sized ∙ f.2 in absurd (cc)
not_chunk max n s r OutOfMemory o near f = f
not_chunk max n s r TooFar o near f = omega (arith, f.0)

-- with one byte more the bytes up to a refusal read no more
not_more : (max place : ℕ) (b : List ℕ) (ms ns : List (ℕ × Message)) (s t : State) (r q : List ℕ) (y : ℕ) (cause : ReadCause) → length b ≡ place → Reads max b ms s r → Reads max (b ++ y ∷ []) ns t q → Refuses max s (r ++ y ∷ []) place cause → ⊥
not_more max place b ms ns s t r q y cause len x z f =
    let e : concat x.chunks ++ (r ++ y ∷ []) ≡ concat z.chunks ++ q = sym (append_assoc (concat x.chunks) r (y ∷ [])) ∙ ap (λ (u : List ℕ). u ++ y ∷ []) (sym x.whole) ∙ z.whole in
    let O : State → Type 0 = λ u. IsOpen max u r in
    let P : State → Type 0 = λ u. IsOpen max u q in
    let near : place + 1 ≤ 2 ^ 62 = omega (arith, z.near, length-append b (y ∷ []), len) in
    let R : State → Type 0 = λ u. IsOpen max u (r ++ y ∷ []) ⊎ IsChunkWithin max u (r ++ y ∷ []) in
    let w : R s = subst R (sym x.state) (back max fresh_state x.chunks z.chunks r q y x.are_chunks (subst O x.state x.rest) z.are_chunks (subst P z.state z.rest) e) in
    elim w [
      | inl o ↦ not_open max place s (r ++ y ∷ []) cause o near f
      | inr i ↦ not_chunk max place s (r ++ y ∷ []) cause i near f
    ]

pub refused_not_read : (max : ℕ) (b more : List ℕ) (cause : ReadCause) (place : ℕ) (ns : List (ℕ × Message)) (t : State) (q : List ℕ) → Stops max b cause place → Reads max (take (place + 1) b ++ more) ns t q → ⊥
refused_not_read max b more cause place ns t q st x =
    let p = reads_part max (take (place + 1) b ++ more) (place + 1) ns t q x in
    let len : length (take (place + 1) b) ≡ place + 1 = omega (arith, length-take (place + 1) b, st.there) in
    let front : take (place + 1) (take (place + 1) b ++ more) ≡ take place b ++ slice_index b place ∷ [] = take-append-le (place + 1) (take (place + 1) b) more (omega (arith, len)) ∙ take_all (place + 1) (take (place + 1) b) (omega (arith, len)) ∙ take_more b place 0 st.there in
    let z : Reads max (take place b ++ slice_index b place ∷ []) p.first p.s p.r = let P : List ℕ → Type 0 = λ u. Reads max u p.first p.s p.r in subst P front p.reads in
    not_more max place (take place b) st.ms p.first st.s p.s st.r p.r (slice_index b place) cause (omega (arith, length-take place b, st.there)) st.reads z st.refused
