-- Pieces of which the first is used in part.
use Rattle.std.proofs.Common.{◌≡◌, ◌∙◌, ℕ, ◌<◌, ◌≤◌, List, [], ◌∷◌, length, slice_index_or, map, drop, refl, ap, sym, arith}
use Rattle.std.proofs.lemmas.List.{length-drop}
use Rattle.std.specs.List.{concat}
use Rattle.relay_outside.specs.MemoryLaws.{concat-nonempty_from}
use Rattle.relay_outside.specs.Pieces.{nonempty_from, cut_first}

nonempty_front : (piece : List ℕ) (pieces : List (List ℕ)) → 0 < length piece → piece ∷ pieces ≡ nonempty_from (piece ∷ pieces)
nonempty_front [] pieces some = absurd (omega arith)
nonempty_front (byte ∷ bytes) pieces some = refl

pub none_left : (pieces : List (List ℕ)) → nonempty_from pieces ≡ [] → concat pieces ≡ []
none_left pieces none = sym (concat-nonempty_from pieces) ∙ ap (λ (l : List (List ℕ)). concat l) none

module _ {X : Type 0} (f : X → List ℕ) where
  -- where a byte of the first is left, no empty piece comes before
  pub cut_first-nonempty : (xs : List X) (used : ℕ) (x : X) → 0 < length xs → x ≡ slice_index_or xs 0 x → used < length (f x)
      → cut_first used (map f xs) ≡ nonempty_from (cut_first used (map f xs))
  cut_first-nonempty [] used x some is less = absurd (omega arith)
  cut_first-nonempty (y ∷ ys) used x some is less =
      nonempty_front (drop used (f y)) (map f ys) (rw (length-drop used (f y), ← is) (omega arith))

  pub cut_first-none : (xs : List X) (used : ℕ) → length xs ≤ 0 → cut_first used (map f xs) ≡ []
  cut_first-none [] used none = refl
  cut_first-none (x ∷ xs) used none = absurd (omega arith)
