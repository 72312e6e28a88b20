use Rattle.std.proofs.Common.{◌≡◌, List, [], ◌∷◌, length, get_or, ap, sym, arith, ◌∙◌, ◌≤◌, ◌<◌}

pub pair : {X : Type 0} (xs : List X) (x y : X) → 2 ≤ length xs → length xs < 3 → x ≡ get_or xs 0 x → y ≡ get_or xs 1 y → xs ≡ x ∷ y ∷ []
pair [] x y a b is iy = absurd (omega arith)
pair (z ∷ []) x y a b is iy = absurd (omega arith)
pair (z ∷ w ∷ []) x y a b is iy = ap (λ u. u ∷ w ∷ []) (sym is) ∙ ap (λ v. x ∷ v ∷ []) (sym iy)
pair (z ∷ w ∷ v ∷ zs) x y a b is iy = absurd (omega arith)
