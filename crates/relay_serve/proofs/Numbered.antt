-- Lists the other way round
use Rattle.std.proofs.Common.{◌<◌, List, length, sym, subst, arith}
use Rattle.std.specs.Prelude.{◌-◌, All, reverse}
use Rattle.std.proofs.lemmas.List.{get_or-reverse, length-reverse}

-- the other way round
pub all_reverse : {X : Type 0} (P : X → Type 0) (xs : List X) → All P xs → All P (reverse xs)
all_reverse P xs a = λ k d l.
    let m : k < length xs = omega (arith, l, length-reverse xs) in
    subst P (sym (get_or-reverse xs k d m)) (a (length xs - 1 - k) d (omega (arith, m)))
