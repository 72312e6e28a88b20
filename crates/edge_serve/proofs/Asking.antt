-- The words of the command line, one by one
use Rattle.std.proofs.Common.{◌≡◌, ◌∙◌, ℕ, List, [], ◌∷◌, length, get_or, map, ap, sym, arith, ◌≤◌, ◌<◌}
use Rattle.edge_serve.specs.Words.{asked_by, asked_of}

-- five of them
pub five : {X : Type 0} (items : X → List ℕ) (xs : List X) (word address app name : X) (w a p n : List ℕ)
    → 5 ≤ length xs → length xs < 6
    → word ≡ get_or xs 0 word → address ≡ get_or xs 2 address → app ≡ get_or xs 3 app → name ≡ get_or xs 4 name
    → w ≡ items word → a ≡ items address → p ≡ items app → n ≡ items name
    → asked_by w a p n ≡ asked_of (map items xs)
five items [] word address app name w a p n l m i2 i3 i4 i5 e2 e3 e4 e5 = absurd (omega arith)
five items (x ∷ []) word address app name w a p n l m i2 i3 i4 i5 e2 e3 e4 e5 = absurd (omega arith)
five items (x ∷ f ∷ []) word address app name w a p n l m i2 i3 i4 i5 e2 e3 e4 e5 = absurd (omega arith)
five items (x ∷ f ∷ y ∷ []) word address app name w a p n l m i2 i3 i4 i5 e2 e3 e4 e5 = absurd (omega arith)
five items (x ∷ f ∷ y ∷ z ∷ []) word address app name w a p n l m i2 i3 i4 i5 e2 e3 e4 e5 = absurd (omega arith)
five items (x ∷ f ∷ y ∷ z ∷ u ∷ []) word address app name w a p n l m i2 i3 i4 i5 e2 e3 e4 e5 =
    ap (λ t. asked_by t a p n) (e2 ∙ ap items i2) ∙ (ap (λ t. asked_by (items x) t p n) (e3 ∙ ap items i3)
    ∙ (ap (λ t. asked_by (items x) (items y) t n) (e4 ∙ ap items i4) ∙ ap (λ t. asked_by (items x) (items y) (items z) t) (e5 ∙ ap items i5)))
five items (x ∷ f ∷ y ∷ z ∷ u ∷ v ∷ xs) word address app name w a p n l m i2 i3 i4 i5 e2 e3 e4 e5 = absurd (omega arith)
