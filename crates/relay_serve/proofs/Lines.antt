-- The report grows by a line
use Rattle.std.proofs.Common.{◌≡◌, ℕ, ◌+◌, ◌<◌, zero, suc, List, [], ◌∷◌, ◌++◌, length, map, take, get_or, Option, ap, sym, ◌∙◌, append_assoc, arith}
use Rattle.std.proofs.lemmas.List.{append-nil}
use Rattle.relay_serve.specs.Texts.{Counted, lines_from, place_line}

pub lines_taken : {X : Type 0} (word : List ℕ) (f : X → Option Counted) (place : ℕ) (xs : List X) (n : ℕ) (d : X) → n < length xs
    → lines_from word place (map f (take (n + 1) xs)) ≡ lines_from word place (map f (take n xs)) ++ place_line word (place + n) (f (get_or xs n d))
lines_taken {X} word f place [] n d l = absurd (omega arith)
lines_taken {X} word f place (x ∷ xs) zero d l = append-nil (place_line word place (f x)) ∙ ap (λ (n : ℕ). place_line word n (f x)) (omega arith)
lines_taken {X} word f place (x ∷ xs) (suc n) d l =
    let e : suc n + 1 ≡ suc (n + 1) = omega arith in
    ap (λ (m : ℕ). lines_from word place (map f (take m (x ∷ xs)))) e
    ∙ ap (λ (t : List ℕ). place_line word place (f x) ++ t) (lines_taken word f (place + 1) xs n d (omega arith))
    ∙ sym (append_assoc (place_line word place (f x)) (lines_from word (place + 1) (map f (take n xs))) (place_line word (place + 1 + n) (f (get_or xs n d))))
    ∙ ap (λ (m : ℕ). lines_from word place (map f (take (suc n) (x ∷ xs))) ++ place_line word m (f (get_or xs n d))) (omega arith)

pub lines_more : {X : Type 0} (word : List ℕ) (f : X → Option Counted) (xs : List X) (n : ℕ) (d : X) → n < length xs
    → lines_from word 0 (map f (take (n + 1) xs)) ≡ lines_from word 0 (map f (take n xs)) ++ place_line word n (f (get_or xs n d))
lines_more word f xs n d l = lines_taken word f 0 xs n d l ∙ ap (λ (m : ℕ). lines_from word 0 (map f (take n xs)) ++ place_line word m (f (get_or xs n d))) (omega arith)
