-- What is read and put out however the bytes are cut.
use Rattle.std.proofs.Common.{ℕ, List, [], ◌∷◌, ◌++◌, length, take, drop, ◌-◌, ◌≤◌, ◌≡◌, ◌∙◌, refl, sym, ap, arith, append_assoc, inl, inr, min}
use Rattle.std.proofs.lemmas.List.{append-nil, take_all, take-take, take-append-drop, length-take, length-append}
use Rattle.std.proofs.lemmas.Bool.{cases_lt}
use Rattle.std.specs.List.{concat}
use Rattle.rtmp_handshake.specs.Answer.{answer_of, answered}
use Rattle.rtmp_handshake.specs.Feeds.{read_of, out_of, all_read, all_out}
use Rattle.rtmp_handshake.proofs.Lists.{take_over}
use Rattle.rtmp_handshake.proofs.Whole.{answer_alone, answered_not, answered_all}
use Rattle.rtmp_handshake.proofs.Outs.{out_sum}

-- the first k of a list are those of its first k and what follows
take_twice : (k : ℕ) (xs ys : List ℕ) → take k (take k xs ++ ys) ≡ take k (xs ++ ys)
take_twice k xs ys =
    let e : k - length (take k xs) ≡ k - length xs = rw length-take (omega arith) in
    rw (take_over k (take k xs) ys, take_over k xs ys, take-take k k xs (omega arith), e) refl

read_from : (fed : List ℕ) (pieces : List (List ℕ)) → length fed ≤ 3073 → all_read fed pieces ≡ take 3073 (fed ++ concat pieces)
read_from fed [] h = sym (rw append-nil (take_all 3073 fed h))
read_from fed (piece ∷ pieces) h =
    let e : length (read_of fed piece) ≡ min (3073 - length fed) (length piece) = length-take (3073 - length fed) piece in
    let fits : length (fed ++ read_of fed piece) ≤ 3073 = rw length-append (omega arith) in
    read_from (fed ++ read_of fed piece) pieces fits
    ∙ ap (λ (t : List ℕ). take 3073 t) (append_assoc fed (read_of fed piece) (concat pieces))
    ∙ take_over 3073 fed (read_of fed piece ++ concat pieces)
    ∙ ap (λ (t : List ℕ). take 3073 fed ++ t) (take_twice (3073 - length fed) piece (concat pieces))
    ∙ sym (take_over 3073 fed (piece ++ concat pieces))

pub read_all : (pieces : List (List ℕ)) → all_read [] pieces ≡ take 3073 (concat pieces)
read_all pieces = read_from [] pieces (omega arith)

out_from : (fed : List ℕ) (pieces : List (List ℕ)) → answered fed ++ all_out fed pieces ≡ answered (all_read fed pieces)
out_from fed [] = append-nil (answered fed)
out_from fed (piece ∷ pieces) =
    sym (append_assoc (answered fed) (out_of fed piece) (all_out (fed ++ read_of fed piece) pieces))
    ∙ ap (λ (t : List ℕ). t ++ all_out (fed ++ read_of fed piece) pieces) (out_sum fed piece)
    ∙ out_from (fed ++ read_of fed piece) pieces

-- the bytes after C2 call for nothing
answered_front : (xs : List ℕ) → answered (take 3073 xs) ≡ answered xs
answered_front xs = elim (cases_lt (length xs) 1537) [
  | inl lt ↦ ap answered (take_all 3073 xs (omega arith))
  | inr le ↦
      let there : 1537 ≤ length (take 3073 xs) = rw length-take (omega arith) in
      answered_all (take 3073 xs) there
      ∙ sym (answer_alone (take 3073 xs) (drop 3073 xs) there)
      ∙ ap answer_of (take-append-drop 3073 xs)
      ∙ sym (answered_all xs le)
]

pub out_all : (pieces : List (List ℕ)) → all_out [] pieces ≡ answered (concat pieces)
out_all pieces =
    let none : answered [] ≡ [] = answered_not [] (omega arith) in
    ap (λ (t : List ℕ). t ++ all_out [] pieces) (sym none)
    ∙ out_from [] pieces
    ∙ ap answered (read_all pieces)
    ∙ answered_front (concat pieces)
