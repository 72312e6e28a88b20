-- One list of bytes is refused once
use Rattle.std.proofs.Common.{◌≡◌, ℕ, ◌+◌, ◌<◌, inl, inr, List, ◌++◌, ◌∷◌, [], length, take, drop, slice_index, Some, None, refl, sym, ap, ◌∙◌, subst, arith}
use Rattle.std.proofs.lemmas.List.{length-take, take-append-drop, take-append-le}
use Rattle.std.proofs.lemmas.Bool.{cases_lt}
use Rattle.chunk_wire.specs.Layout.{format_in}
use Rattle.chunk_wire.specs.State.{State}
use Rattle.chunk_wire.specs.Chunk.{is_known}
use Rattle.chunk_wire.proofs.Same.{basic_in_header}
use Rattle.chunk_reader.specs.declared.fail.ReadCause.{ReadCause}
use Rattle.chunk_reader.specs.declared.fail.ReadCause.TheVariants.{NoHead, TooManyIds, TooLong, TooMuch, BadChunkSize, OutOfMemory, TooFar}
use Rattle.chunk_reader.specs.Laws.{SameStop}
use Rattle.chunk_reader.specs.Reads.{Reads}
use Rattle.chunk_reader.specs.Stops.{Refuses, Stops}
use Rattle.chunk_reader.proofs.Apart.{refused_not_read}
use Rattle.chunk_reader.proofs.Once.{one_reading}
use Rattle.chunk_reader.proofs.Stopping.{no_room}

-- a byte is refused for one cause
same_cause : (max n : ℕ) (s : State) (r : List ℕ) (c d : ReadCause) → Refuses max s r n c → Refuses max s r n d → c ≡ d
same_cause max n s r (NoHead id) (NoHead id2) f g = ap NoHead (f.1 ∙ sym g.1)
same_cause max n s r (NoHead id) TooManyIds f g = absurd (omega (arith, f.3, g.2))
same_cause max n s r (NoHead id) (TooLong l2) f g = absurd (no_room (is_known s r) (format_in r) (length s.kept) f.2 (inl f.3) g.1)
same_cause max n s r (NoHead id) TooMuch f g = absurd (omega (arith, f.0, g.0, basic_in_header s r))
same_cause max n s r (NoHead id) (BadChunkSize v2) f g = absurd (no_room (is_known s r) (format_in r) (length s.kept) f.2 (inl f.3) (g.1.room (omega (arith, f.0))))
same_cause max n s r (NoHead id) OutOfMemory f g = absurd g
same_cause max n s r (NoHead id) TooFar f g = absurd (no_room (is_known s r) (format_in r) (length s.kept) f.2 (inl f.3) (g.1.room (omega (arith, f.0))))
same_cause max n s r TooManyIds (NoHead id2) f g = absurd (omega (arith, g.3, f.2))
same_cause max n s r TooManyIds TooManyIds f g = refl
same_cause max n s r TooManyIds (TooLong l2) f g = absurd (no_room (is_known s r) (format_in r) (length s.kept) f.1 (inr f.3) g.1)
same_cause max n s r TooManyIds TooMuch f g = absurd (omega (arith, f.0, g.0, basic_in_header s r))
same_cause max n s r TooManyIds (BadChunkSize v2) f g = absurd (no_room (is_known s r) (format_in r) (length s.kept) f.1 (inr f.3) (g.1.room (omega (arith, f.0))))
same_cause max n s r TooManyIds OutOfMemory f g = absurd g
same_cause max n s r TooManyIds TooFar f g = absurd (no_room (is_known s r) (format_in r) (length s.kept) f.1 (inr f.3) (g.1.room (omega (arith, f.0))))
same_cause max n s r (TooLong l) (NoHead id2) f g = absurd (no_room (is_known s r) (format_in r) (length s.kept) g.2 (inl g.3) f.1)
same_cause max n s r (TooLong l) TooManyIds f g = absurd (no_room (is_known s r) (format_in r) (length s.kept) g.1 (inr g.3) f.1)
same_cause max n s r (TooLong l) (TooLong l2) f g = ap TooLong (f.2 ∙ sym g.2)
same_cause max n s r (TooLong l) TooMuch f g = absurd (omega (arith, f.0, g.0))
same_cause max n s r (TooLong l) (BadChunkSize v2) f g = let h = g.1.length (omega (arith, f.0)) in absurd (omega (arith, h, f.2, f.3))
same_cause max n s r (TooLong l) OutOfMemory f g = absurd g
same_cause max n s r (TooLong l) TooFar f g = let h = g.1.length (omega (arith, f.0)) in absurd (omega (arith, h, f.2, f.3))
same_cause max n s r TooMuch (NoHead id2) f g = absurd (omega (arith, g.0, f.0, basic_in_header s r))
same_cause max n s r TooMuch TooManyIds f g = absurd (omega (arith, g.0, f.0, basic_in_header s r))
same_cause max n s r TooMuch (TooLong l2) f g = absurd (omega (arith, g.0, f.0))
same_cause max n s r TooMuch TooMuch f g = refl
same_cause max n s r TooMuch (BadChunkSize v2) f g = absurd (omega (arith, g.1.held, f.2))
same_cause max n s r TooMuch OutOfMemory f g = absurd g
same_cause max n s r TooMuch TooFar f g = absurd (omega (arith, g.1.held, f.2))
same_cause max n s r (BadChunkSize v) (NoHead id2) f g = absurd (no_room (is_known s r) (format_in r) (length s.kept) g.2 (inl g.3) (f.1.room (omega (arith, g.0))))
same_cause max n s r (BadChunkSize v) TooManyIds f g = absurd (no_room (is_known s r) (format_in r) (length s.kept) g.1 (inr g.3) (f.1.room (omega (arith, g.0))))
same_cause max n s r (BadChunkSize v) (TooLong l2) f g = let h = f.1.length (omega (arith, g.0)) in absurd (omega (arith, h, g.2, g.3))
same_cause max n s r (BadChunkSize v) TooMuch f g = absurd (omega (arith, f.1.held, g.2))
same_cause max n s r (BadChunkSize v) (BadChunkSize v2) f g = let e : Some v ≡ Some v2 = sym f.2 ∙ g.2 in cc
same_cause max n s r (BadChunkSize v) OutOfMemory f g = absurd g
same_cause max n s r (BadChunkSize v) TooFar f g = let e : None ≡ Some v = sym (g.2 f.0) ∙ f.2 in absurd (cc)
same_cause max n s r OutOfMemory (NoHead id2) f g = absurd f
same_cause max n s r OutOfMemory TooManyIds f g = absurd f
same_cause max n s r OutOfMemory (TooLong l2) f g = absurd f
same_cause max n s r OutOfMemory TooMuch f g = absurd f
same_cause max n s r OutOfMemory (BadChunkSize v2) f g = absurd f
same_cause max n s r OutOfMemory OutOfMemory f g = absurd f
same_cause max n s r OutOfMemory TooFar f g = absurd f
same_cause max n s r TooFar (NoHead id2) f g = absurd (no_room (is_known s r) (format_in r) (length s.kept) g.2 (inl g.3) (f.1.room (omega (arith, g.0))))
same_cause max n s r TooFar TooManyIds f g = absurd (no_room (is_known s r) (format_in r) (length s.kept) g.1 (inr g.3) (f.1.room (omega (arith, g.0))))
same_cause max n s r TooFar (TooLong l2) f g = let h = f.1.length (omega (arith, g.0)) in absurd (omega (arith, h, g.2, g.3))
same_cause max n s r TooFar TooMuch f g = absurd (omega (arith, f.1.held, g.2))
same_cause max n s r TooFar (BadChunkSize v2) f g = let e : None ≡ Some v2 = sym (f.2 g.0) ∙ g.2 in absurd (cc)
same_cause max n s r TooFar OutOfMemory f g = absurd g
same_cause max n s r TooFar TooFar f g = refl

-- bytes refused at one place are not read up to a later one
not_earlier : (max : ℕ) (b : List ℕ) (c d : ReadCause) (p q : ℕ) → Stops max b c p → Stops max b d q → p < q → ⊥
not_earlier max b c d p q x y lt =
    let front : take (p + 1) (take q b) ≡ take (p + 1) b = sym (take-append-le (p + 1) (take q b) (drop q b) (omega (arith, length-take q b, y.there, lt))) ∙ ap (take (p + 1)) (take-append-drop q b) in
    let e : take q b ≡ take (p + 1) b ++ drop (p + 1) (take q b) = sym (take-append-drop (p + 1) (take q b)) ∙ ap (λ (u : List ℕ). u ++ drop (p + 1) (take q b)) front in
    let P : List ℕ → Type 0 = λ u. Reads max u y.ms y.s y.r in
    refused_not_read max b (drop (p + 1) (take q b)) c p y.ms y.s y.r x (subst P e y.reads)

-- two refusals at one place
at_one_place : (max : ℕ) (b : List ℕ) (c d : ReadCause) (p : ℕ) → Stops max b c p → Stops max b d p → c ≡ d
at_one_place max b c d p x y =
    let g = one_reading max (take p b) x.ms y.ms x.s y.s x.r y.r x.reads y.reads in
    let S : State → Type 0 = λ u. Refuses max u (y.r ++ slice_index b p ∷ []) p d in
    let R : List ℕ → Type 0 = λ v. Refuses max x.s (v ++ slice_index b p ∷ []) p d in
    same_cause max p x.s (x.r ++ slice_index b p ∷ []) c d x.refused (subst R (sym g.rest_same) (subst S (sym g.state_same) y.refused))

pub one_stop : (max : ℕ) (b : List ℕ) (c d : ReadCause) (p q : ℕ) → Stops max b c p → Stops max b d q → SameStop c d p q
one_stop max b c d p q x y = elim (cases_lt p q) [
  | inl lt ↦ absurd (not_earlier max b c d p q x y lt)
  | inr le ↦ elim (cases_lt q p) [
    | inl lt ↦ absurd (not_earlier max b d c q p y x lt)
    | inr ge ↦ (
        let e : q ≡ p = omega (arith, le, ge) in
        let S : ℕ → Type 0 = λ n. Stops max b d n in
        record { cause_same = at_one_place max b c d p x (subst S e y); place_same = sym e })
  ]
]
