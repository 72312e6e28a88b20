-- The keys of a table
use Rattle.std.proofs.Common.{◌≡◌, ℕ, Bool, true, false, cond, List, [], ◌∷◌, map, refl, ap, ◌∙◌, Option, Some, String, Global, option_map}
use Rattle.std.proofs.Common.{string_bytes}
use Rattle.std.specs.Option.{option_map_or}
use Rattle.std.specs.List.{find}
use Rattle.toml.specs.Data.{Data, as_table}
use Rattle.toml.specs.View.{members_view}
use Rattle.toml.specs.declared.value.Value.{Value}
use Rattle.relay_config.specs.Refusals.{keys_of_members}

one_more : (b : Bool) (k : String Global) (r : Option (String Global)) (u : Option (List ℕ)) → option_map string_bytes r ≡ u
    → option_map string_bytes (cond b (Some k) r) ≡ cond b (Some (string_bytes k)) u
one_more true k r u e = refl
one_more false k r u e = e

first_viewed : (p : List ℕ → Bool) (es : List (String Global × Value))
    → option_map string_bytes (find (λ (k : String Global). p (string_bytes k)) (map (λ (e : String Global × Value). e.0) es))
    ≡ find p (keys_of_members (members_view es))
first_viewed p [] = refl
first_viewed p (e ∷ es) = one_more (p (string_bytes e.0)) e.0 _ _ (first_viewed p es)

-- the first key of a map is the first of the table
pub first_is : (p : List ℕ → Bool) (es : List (String Global × Value)) (d : Data) (found : Option (String Global)) (r : Option (List ℕ))
    → Some (members_view es) ≡ as_table d
    → found ≡ find (λ (k : String Global). p (string_bytes k)) (map (λ (e : String Global × Value). e.0) es) → r ≡ option_map string_bytes found
    → r ≡ find p (option_map_or keys_of_members (as_table d) [])
first_is p es d found r is e seen = seen ∙ ap (option_map string_bytes) e ∙ first_viewed p es ∙ ap (λ o. find p (option_map_or keys_of_members o [])) is
