use Rattle.std.proofs.Common.{◌≡◌, ℕ, ◌&&◌, nat_le, ◌+◌, ◌-◌, ◌*◌, ◌≤◌, true, false, if◌then◌else◌, List, [], ◌∷◌, None, refl, arith}
use Rattle.std.proofs.lemmas.Bool.Decides.{nat_tests}
use Rattle.relay_script.specs.Lines.{digits_from, below}

pub too_large : (bound : ℕ) (cs : List ℕ) (value : ℕ) → bound ≤ value → below bound (digits_from value cs) ≡ None
too_large bound [] value h = grind (arith, nat_tests)
too_large bound (c ∷ cs) value h =
    elim (nat_le 48 c && nat_le c 57) as (λ b. below bound (if b then digits_from (10 * value + (c - 48)) cs else None) ≡ None)
    [ true ↦ too_large bound cs (10 * value + (c - 48)) (omega arith) | false ↦ refl ]
