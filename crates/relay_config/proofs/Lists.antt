-- Lists of values and of their data
use Rattle.std.proofs.Common.{append-nil, ℕ, ◌+◌, ◌<◌, ◌++◌, length, take, get_or, ◌≡◌, Bool, true, is_some, ◌&&◌, List, [], ◌∷◌, map, refl, ap, ◌∙◌}
use Rattle.std.proofs.Common.{sym, Some, None}
use Rattle.std.specs.Option.{option_map_or}
use Rattle.std.specs.List.{list_all, cons_option}
use Rattle.std.proofs.lemmas.List.{take_more, map-append}
use Rattle.std.proofs.lemmas.List.Elements.{filter_map-append}
use Rattle.key_guard.specs.declared.check.Mode.{Mode}
use Rattle.relay_config.specs.Values.{kept, keys_of_texts, place_of, open_of}
use Rattle.toml.specs.Data.{Data, as_array, as_str}
use Rattle.toml.specs.View.{view, items_view}
use Rattle.toml.specs.declared.value.Value.{Value}
use Rattle.relay_config.specs.Forms.{list_of, elements, is_list_of}

-- the data of a list of values, as items and back
pub list_of_items : (vs : List Value) → list_of (items_view vs) ≡ map view vs
list_of_items [] = refl
list_of_items (v ∷ vs) = ap (λ ds. view v ∷ ds) (list_of_items vs)

pub elements_are : (vs : List Value) (d : Data) → Some (items_view vs) ≡ as_array d → map view vs ≡ elements d
elements_are vs d is = sym (list_of_items vs) ∙ ap (λ o. option_map_or list_of o []) is

pub all_viewed : (test : Data → Bool) (vs : List Value) → list_all (λ v. test (view v)) vs ≡ list_all test (map view vs)
all_viewed test [] = refl
all_viewed test (v ∷ vs) = ap (λ b. test (view v) && b) (all_viewed test vs)

pub all_of : (test : Data → Bool) (vs : List Value) (ds : List Data) → map view vs ≡ ds → list_all (λ v. test (view v)) vs ≡ list_all test ds
all_of test vs ds is = all_viewed test vs ∙ ap (list_all test) is

pub list_of_all : (test : Data → Bool) (vs : List Value) (d : Data) (r : Bool) → true ≡ is_some (as_array d) → map view vs ≡ elements d
    → r ≡ list_all (λ v. test (view v)) vs → r ≡ is_list_of test d
list_of_all test vs d r there is e = e ∙ all_of test vs (elements d) is ∙ ap (λ b. b && list_all test (elements d)) there

-- the streams and the open tables
all_mapped : {X : Type 0} (f : Data → X) (vs : List Value) → map (λ v. f (view v)) vs ≡ map f (map view vs)
all_mapped f [] = refl
all_mapped f (v ∷ vs) = ap (λ xs. f (view v) ∷ xs) (all_mapped f vs)

pub places_viewed : (vs : List Value) → map (λ v. place_of (view v)) vs ≡ map place_of (map view vs)
places_viewed vs = all_mapped place_of vs

pub opens_viewed : (vs : List Value) → map (λ v. open_of (view v)) vs ≡ map open_of (map view vs)
opens_viewed vs = all_mapped open_of vs

-- the keys of one value more
keys_with : (m : Mode) (vs : List Value) (v : Value)
    → keys_of_texts m (map view (vs ++ v ∷ [])) ≡ keys_of_texts m (map view vs) ++ keys_of_texts m (view v ∷ [])
keys_with m vs v = rw (map-append, filter_map-append, map-append) refl

take_with : (list : List Value) (i : ℕ) (v : Value) → i < length list → v ≡ get_or list i v → take (i + 1) list ≡ take i list ++ v ∷ []
take_with list i v within is = take_more list i v within ∙ ap (λ x. take i list ++ x ∷ []) (sym is)

pub key_taken : (m : Mode) (list : List Value) (i : ℕ) (v : Value) (text : List ℕ) (before now : List (List ℕ)) → i < length list
    → v ≡ get_or list i v → Some text ≡ as_str (view v)
    → before ≡ keys_of_texts m (map view (take i list)) → now ≡ before ++ kept m text ∷ [] → now ≡ keys_of_texts m (map view (take (i + 1) list))
key_taken m list i v text before now within is found e new =
    new ∙ ap (λ ks. ks ++ kept m text ∷ []) e ∙ ap (λ o. keys_of_texts m (map view (take i list)) ++ map (kept m) (cons_option o [])) found
    ∙ sym (keys_with m (take i list) v) ∙ ap (λ xs. keys_of_texts m (map view xs)) (sym (take_with list i v within is))

pub key_passed : (m : Mode) (list : List Value) (i : ℕ) (v : Value) (before : List (List ℕ)) → i < length list → v ≡ get_or list i v → None ≡ as_str (view v)
    → before ≡ keys_of_texts m (map view (take i list)) → before ≡ keys_of_texts m (map view (take (i + 1) list))
key_passed m list i v before within is found e =
    e ∙ sym (append-nil (keys_of_texts m (map view (take i list))))
    ∙ ap (λ o. keys_of_texts m (map view (take i list)) ++ map (kept m) (cons_option o [])) found
    ∙ sym (keys_with m (take i list) v) ∙ ap (λ xs. keys_of_texts m (map view xs)) (sym (take_with list i v within is))
