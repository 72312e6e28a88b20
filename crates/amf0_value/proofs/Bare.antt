-- Values that are passed over quickly: whole ones with no values inside, and runs of values of one byte.
use Rattle.std.proofs.Common.{◌≡◌, ℕ, suc, ◌+◌, ◌-◌, ◌<◌, ◌≤◌, max, Bool, true, false, List, [], ◌∷◌, ◌++◌, length, drop, get_or, nat_eq, refl, sym, ap, subst, ◌∙◌, arith}
use Rattle.std.specs.Prelude.{◌||◌}
use Rattle.std.proofs.lemmas.Bool.{eqb-true}
use Rattle.amf0_value.specs.declared.marker.Scalar.{Scalar}
use Rattle.amf0_value.specs.Tree.{Tree, null, undefined, unsupported}
use Rattle.amf0_value.specs.View.{items_of}
use Rattle.amf0_value.specs.Spelling.{Spelled, ItemsSpelled, depth, items_depth, count}
use Rattle.amf0_value.specs.Reading.{ReadsItems, ItemsStop, Left, scalar_byte}
use Rattle.amf0_value.specs.Refusal.{Stops}
use Rattle.amf0_value.specs.declared.fail.Cause.{Cause}
use Rattle.amf0_value.specs.Brief.{HasScalar, HasValue, HasItems, HasBare, is_bare_byte}
use Rattle.amf0_value.proofs.Shorter.{items_no_longer}
use Rattle.amf0_value.proofs.Grows.{items_push, items_depth-push, count-push}

-- the bytes of a whole value, by its marker
pub whole_there : (bytes : List ℕ) (m : ℕ) (k : Scalar) (body rest : List ℕ) → bytes ≡ m ∷ body → m ≡ scalar_byte k → HasScalar (scalar_byte k ∷ body) rest → HasScalar bytes rest
whole_there bytes m k body rest e is h =
    let all : bytes ≡ scalar_byte k ∷ body = e ∙ ap (λ (x : ℕ). x ∷ body) is in
    subst (λ (b : List ℕ). HasScalar b rest) (sym all) h

pub whole_value : (outer : ℕ) (bytes rest : List ℕ) → outer ≤ 32 → HasScalar bytes rest → HasValue outer bytes rest
whole_value outer bytes rest le h = (h.0, (h.1.0, omega (arith, h.1.1, le)))

-- ---- a value of one byte

bare_by : (b : ℕ) (rest : List ℕ) (x y z : Bool) → nat_eq b 5 ≡ x → nat_eq b 6 ≡ y → nat_eq b 13 ≡ z → (x || (y || z)) ≡ true → (v : Tree) × Spelled v (b ∷ rest) rest × (depth v ≡ 0)
bare_by b rest true y z e f g t = (null, ap (λ (n : ℕ). n ∷ rest) (eqb-true b 5 e), refl)
bare_by b rest false true z e f g t = (undefined, ap (λ (n : ℕ). n ∷ rest) (eqb-true b 6 f), refl)
bare_by b rest false false true e f g t = (unsupported, ap (λ (n : ℕ). n ∷ rest) (eqb-true b 13 g), refl)
bare_by b rest false false false e f g t = absurd cc

pub bare_none : (bytes : List ℕ) → HasBare 0 bytes bytes
bare_none bytes = ([], refl, refl, refl)

pub bare_push : (n : ℕ) (bytes at : List ℕ) (b : ℕ) (rest : List ℕ) → HasBare n bytes at → at ≡ b ∷ rest → is_bare_byte b ≡ true → HasBare (n + 1) bytes rest
bare_push n bytes at b rest h e is =
    let v = bare_by b rest (nat_eq b 5) (nat_eq b 6) (nat_eq b 13) refl refl refl is in
    let here : Spelled v.0 at rest = subst (λ (l : List ℕ). Spelled v.0 l rest) (sym e) v.1 in
    (h.0 ++ v.0 ∷ [], items_push h.0 bytes at rest v.0 h.1 here, omega (arith, items_depth-push h.0 v.0, h.2, v.2), omega (arith, count-push h.0 v.0, h.3))

-- ---- behind other values

items_join : (xs ys : List Tree) (bytes at rest : List ℕ) → ItemsSpelled (items_of xs) bytes at → ItemsSpelled (items_of ys) at rest → ItemsSpelled (items_of (xs ++ ys)) bytes rest
items_join [] ys bytes at rest h s = subst (λ (b : List ℕ). ItemsSpelled (items_of ys) b rest) (sym h) s
items_join (x ∷ xs) ys bytes at rest h s = (h.0, h.1, items_join xs ys h.0 at rest h.2 s)

depth_join : (xs ys : List Tree) → items_depth (items_of (xs ++ ys)) ≡ max (items_depth (items_of xs)) (items_depth (items_of ys))
depth_join [] ys = omega arith
depth_join (x ∷ xs) ys = omega (arith, depth_join xs ys)

count_join : (xs ys : List Tree) → count (items_of (xs ++ ys)) ≡ count (items_of xs) + count (items_of ys)
count_join [] ys = omega arith
count_join (x ∷ xs) ys = omega (arith, count_join xs ys)

pub all_joined : (n : ℕ) (bytes at rest : List ℕ) → ((vs : List Tree) × ReadsItems 0 bytes (items_of vs) at) → HasItems 0 n at rest → (vs : List Tree) × ReadsItems 0 bytes (items_of vs) rest
all_joined n bytes at rest h s = (h.0 ++ s.0, (items_join h.0 s.0 bytes at rest h.1.0 s.1.0, omega (arith, depth_join h.0 s.0, h.1.1, s.1.1)))

pub items_joined : (outer m n : ℕ) (bytes at rest : List ℕ) → HasItems outer m bytes at → HasItems outer n at rest → HasItems outer (m + n) bytes rest
items_joined outer m n bytes at rest h s =
    (h.0 ++ s.0, (items_join h.0 s.0 bytes at rest h.1.0 s.1.0, omega (arith, depth_join h.0 s.0, h.1.1, s.1.1)), omega (arith, count_join h.0 s.0, h.2, s.2))

pub bare_items : (outer n : ℕ) (bytes rest : List ℕ) → outer ≤ 32 → HasBare n bytes rest → HasItems outer n bytes rest
bare_items outer n bytes rest le h = (h.0, (h.1, omega (arith, h.2, le)), h.3)

pub value_items : (outer : ℕ) (bytes rest : List ℕ) → HasValue outer bytes rest → HasItems outer 1 bytes rest
value_items outer bytes rest h = (h.0 ∷ [], ((rest, h.1.0, refl), omega (arith, h.1.1)), refl)

pub items_shorter : (outer n : ℕ) (bytes rest : List ℕ) → 0 < n → HasItems outer n bytes rest → length rest < length bytes
items_shorter outer n bytes rest some h = omega (arith, items_no_longer (items_of h.0) bytes rest h.1.0, h.2, some)
