-- Keys found in a list, and the two forms of what is allowed
use Rattle.std.proofs.Common.{◌≡◌, ◌↔◌, IsTrue, ℕ, ◌+◌, ◌<◌, Bool, ◌||◌, List, ◌∷◌, length, get_or, drop, nat_eq, refl, sym, ap, ◌∙◌}
use Rattle.std.specs.List.{list_any}
use Rattle.std.specs.Bool.{one_answer}
use Rattle.std.specs.Cmp.Lexicographic.{pointwise, bytes_decides, nat_list_eq_equiv}
use Rattle.std.proofs.Math.Bool.{or_assoc}
use Rattle.std.proofs.lemmas.List.{drop_more}
use Rattle.std.proofs.lemmas.Map.Views.{list_any-from_Contains, Contains-from_any}
use Rattle.sha2.specs.Sha256.{sha256}
use Rattle.key_guard.specs.declared.check.Grants.{Grants}
use Rattle.key_guard.specs.declared.check.Grants.TheVariants.{Open, Keys}
use Rattle.key_guard.specs.declared.check.Mode.{Mode}
use Rattle.key_guard.specs.declared.check.Mode.TheVariants.{Plain, Digest, Named}
use Rattle.key_guard.specs.Allowed.{Allowed, Has, for_name, has, is_allowed}

-- one key more has been compared
pub found_more : (found same all : Bool) (keys : List (List ℕ)) (i : ℕ) (key asked : List ℕ) → i < length keys → key ≡ get_or keys i key
    → IsTrue same ↔ (asked ≡ key)
    → (found || list_any (pointwise nat_eq asked) (drop i keys)) ≡ all
    → ((found || same) || list_any (pointwise nat_eq asked) (drop (i + 1) keys)) ≡ all
found_more found same all keys i key asked within is here before =
    let e : same ≡ pointwise nat_eq asked key = one_answer same (pointwise nat_eq asked key) here (bytes_decides asked key) in
    let d : drop i keys ≡ key ∷ drop (i + 1) keys = drop_more keys i key within ∙ ap (λ k. k ∷ drop (i + 1) keys) (sym is) in
    or_assoc found same _ ∙ ap (λ s. found || (s || list_any (pointwise nat_eq asked) (drop (i + 1) keys))) e
    ∙ ap (λ ks. found || list_any (pointwise nat_eq asked) ks) (sym d) ∙ before

has_is : (grants : Grants) (bytes : List ℕ) → IsTrue (has grants bytes) ↔ Has grants bytes
has_is Open bytes = (λ _. tt, λ _. refl)
has_is (Keys keys) bytes = (Contains-from_any (λ x y. (bytes_decides x y).0) bytes keys, list_any-from_Contains nat_list_eq_equiv bytes keys)

-- an answer by the test is an answer by the meaning
by_has : (r : Bool) (grants : Grants) (bytes : List ℕ) → r ≡ has grants bytes → IsTrue r ↔ Has grants bytes
by_has r grants bytes e = let (a, b) = has_is grants bytes in (λ h. a (sym e ∙ h), λ h. e ∙ b h)

pub allowed_is : (r : Bool) (mode : Mode) (grants : Grants) (name key : List ℕ) → r ≡ is_allowed mode grants name key → IsTrue r ↔ Allowed mode grants name key
allowed_is r Plain grants name key e = by_has r grants key e
allowed_is r Digest grants name key e = by_has r grants (sha256 key) e
allowed_is r Named grants name key e = by_has r grants (sha256 (for_name name key)) e
