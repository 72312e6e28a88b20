-- What is left of a source, after some of it.
use Rattle.std.proofs.Common.{◌≡◌, ℕ, List, [], ◌++◌, Option, None, Some, refl, ap, sym, append_assoc}
use Rattle.std.specs.Io.KnownBytes.{prepend_known}

pub prepend_known_twice : (known : Option (List ℕ)) (xs ys : List ℕ) → prepend_known xs (prepend_known ys known) ≡ prepend_known (xs ++ ys) known
prepend_known_twice None xs ys = refl
prepend_known_twice (Some zs) xs ys = ap Some (sym (append_assoc xs ys zs))

pub prepend_known_nil : (known : Option (List ℕ)) → prepend_known [] known ≡ known
prepend_known_nil None = refl
prepend_known_nil (Some xs) = refl
