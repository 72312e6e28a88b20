-- Names of files that a house gave, one after the other
use Rattle.std.proofs.Common.{◌≡◌, ℕ, ◌+◌, ◌-◌, ◌≤◌, ◌%◌, List, [], ◌∷◌, ◌++◌, length, get_or, take, drop, append_assoc, append-nil, Option, None, Some, refl, sym, ap, ◌∙◌, arith}
use Rattle.std.specs.Prelude.{if◌then◌else◌, ◌==◌}
use Rattle.std.specs.List.{flat_map, range_with_len}
use Rattle.std.proofs.lemmas.List.Concat.{flat_map-append}
use Rattle.relay_config.specs.declared.config.Config.{Config}
use Rattle.relay_config.specs.declared.config.PlaceRule.{PlaceRule}
use Rattle.relay_outside.specs.Doors.{with_one}
use Rattle.relay_serve.specs.Recordings.{names_at, names_from, names_of, names_upto, with_names}
use Rattle.relay_serve.proofs.Enlisting.{rest_is}
use Rattle.relay_serve.proofs.Settling.{range_more}

pub with_none : (o : Option (List (List ℕ))) → with_names o [] ≡ o
with_none None = refl
with_none (Some xs) = ap (λ (l : List (List ℕ)). Some l) (append-nil xs)

pub with_one_is : (o : Option (List (List ℕ))) (name : List ℕ) → with_one o (Some name) ≡ with_names o (name ∷ [])
with_one_is None name = refl
with_one_is (Some xs) name = refl

pub with_then : (o : Option (List (List ℕ))) (a b : List (List ℕ)) → with_names (with_names o a) b ≡ with_names o (a ++ b)
with_then None a b = refl
with_then (Some xs) a b = ap (λ (l : List (List ℕ)). Some l) (append_assoc xs a b)

-- two parts
pub named_then : (old mid new : Option (List (List ℕ))) (a b : List (List ℕ)) → mid ≡ with_names old a → new ≡ with_names mid b → new ≡ with_names old (a ++ b)
named_then old mid new a b e f = f ∙ (ap (λ (o : Option (List (List ℕ))). with_names o b) e ∙ with_then old a b)

abbrev pub names_one : ℕ → ℕ → ℕ → PlaceRule → List (List ℕ)
names_one workers worker place rule = if place % workers == worker then names_at rule else []

-- those of the first place, and of the others
pub names_more : (workers worker place : ℕ) (left : List PlaceRule) (rule : PlaceRule) → 1 ≤ length left → rule ≡ get_or left 0 rule
    → names_from workers worker place left ≡ names_one workers worker place rule ++ names_from workers worker (place + 1) (take (length left - 1) (drop 1 left))
names_more workers worker place [] rule l e = absurd (omega (arith, l))
names_more workers worker place (x ∷ xs) rule l e =
    ap (λ (p : PlaceRule). names_one workers worker place p ++ names_from workers worker (place + 1) xs) (sym e)
    ∙ ap (λ (ys : List PlaceRule). names_one workers worker place rule ++ names_from workers worker (place + 1) ys) (sym (rest_is x xs))

-- names that were given, and those that are left
pub named_more : (old new : Option (List (List ℕ))) (own rest left : List (List ℕ)) (all : Option (List (List ℕ))) → new ≡ with_names old own → left ≡ own ++ rest → with_names old left ≡ all → with_names new rest ≡ all
named_more old new own rest left all e f g =
    ap (λ (o : Option (List (List ℕ))). with_names o rest) e ∙ (with_then old own rest ∙ (ap (with_names old) (sym f) ∙ g))

-- those of one worker more
pub upto_more : (config : Config) (n : ℕ) → names_upto config n ++ names_of config n ≡ names_upto config (n + 1)
upto_more config n =
    sym (ap (flat_map (names_of config)) (sym (range_more n)) ∙ (flat_map-append (names_of config) (range_with_len 0 n) (n ∷ [])
    ∙ ap (λ (l : List (List ℕ)). names_upto config n ++ l) (append-nil (names_of config n))))
