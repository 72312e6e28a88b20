-- What is known of a configuration that is accepted
use Rattle.std.proofs.Common.{subst, ◌≡◌, ◌≢◌, ℕ, zero, suc, ◌+◌, ◌<◌, ◌≤◌, Bool, true, false, not, cond, ◌&&◌, ◌||◌, ◌==◌, nat_eq, nat_le, nat_lt, List, [], ◌∷◌}
use Rattle.std.proofs.Common.{length, take, map, refl, ap, ◌∙◌, sym, Option, Some, None, option_map, is_none, arith, inl, inr}
use Rattle.std.specs.Option.{unwrap_or, option_and_then, option_map_or, option_or}
use Rattle.std.specs.List.{AllPass, find, list_any, list_all, range_with_len, slice_get}
use Rattle.std.specs.Cmp.Lexicographic.{bytes_decides, pointwise}
use Rattle.std.proofs.lemmas.Bool.{cases_order, cases_Bool}
use Rattle.std.proofs.lemmas.Bool.Decides.{nat_tests}
use Rattle.std.proofs.lemmas.List.Sums.{AllPass-from_list_all}
use Rattle.toml.specs.Data.{Data, as_str}
use Rattle.relay_config.specs.declared.config.Config.{Config}
use Rattle.relay_config.specs.declared.config.PlaceRule.{PlaceRule}
use Rattle.relay_config.specs.declared.config.OpenRule.{OpenRule}
use Rattle.relay_config.specs.declared.config.ConfigFail.{ConfigFail}
use Rattle.relay_config.specs.declared.config.ConfigFail.TheVariants as fail
use Rattle.relay_config.specs.declared.key.Key.TheVariants as key
use Rattle.relay_config.specs.declared.rows.Row.{Row}
use Rattle.relay_config.specs.Forms.{value_at, number_in, passes, is_within, is_number, is_word, is_name}
use Rattle.relay_config.specs.Values.{place_of, open_of}
use Rattle.relay_config.specs.Sum.{InRange, names_of, configured_sum}
use Rattle.relay_config.specs.Refusals.{table_refusal, stream_rows, open_rows, is_outside, lacks, tables_refusal, same_names, same_app}
use Rattle.relay_config.specs.Refusals.{repeats, twice_in, when, whole_refusal}
use Rattle.relay_config.specs.Accepts.{Lawful, has_names, has_room}
use Rattle.relay_config.proofs.Ranges.{Each, none_found, each_inside}

-- where there is no refusal, none of them is one
pub none_of : {X : Type 0} (a b : Option X) → option_or a b ≡ None → (a ≡ None) × (b ≡ None)
none_of None b h = (refl, h)
none_of (Some e) b h = absurd (cc)

unmapped : {A B : Type 0} (f : A → B) (o : Option A) → option_map f o ≡ None → o ≡ None
unmapped f None h = refl
unmapped f (Some x) h = absurd (cc)

each_there : (rows : List Row) (d : Data) → table_refusal rows d ≡ None → Each (lacks d) rows
each_there rows d h = none_found (lacks d) rows (unmapped fail.Missing _ (none_of _ _ (none_of _ _ h).1).0)

-- ---- names

word_there : (o : Option Data) → is_none o ≡ false → option_map_or (λ value. not (is_word value)) o false ≡ false
    → is_name (unwrap_or (option_and_then as_str o) []) ≡ true
word_there None there inside = absurd (cc)
word_there (Some value) there inside = go (as_str value) inside
  where
    go : (s : Option (List ℕ)) → not (passes is_name s) ≡ false → is_name (unwrap_or s []) ≡ true
    go None k = absurd (cc)
    go (Some s) k = elim (cases_Bool (is_name s)) [
      | inl so ↦ so
      | inr other ↦ let e : not (is_name s) ≡ true = ap not other in absurd (cc)
    ]

named : (d : Data) → Each (lacks d) stream_rows → Each (is_outside d) stream_rows → has_names (place_of d) ≡ true
named d there inside =
    let app = word_there (value_at key.App d) there.0 inside.0 in
    let name = word_there (value_at key.Name d) there.1.0 inside.1.0 in
    rw (app, name) refl

both : (a b : Bool) → a ≡ true → b ≡ true → (a && b) ≡ true
both a b e f = rw (e, f) refl

-- what each table of a list is read as passes a test, where it does by the rows of its kind
each_read : {X : Type 0} (rows : List Row) (read : Data → X) (test : X → Bool)
    → ((d : Data) → Each (lacks d) rows → Each (is_outside d) rows → test (read d) ≡ true)
    → (ds : List Data) → tables_refusal rows ds ≡ None → list_all test (map read ds) ≡ true
each_read rows read test each [] h = refl
each_read rows read test each (d ∷ ds) h =
    let (first, rest) = none_of _ _ h in
    both _ _ (each d (each_there rows d first) (each_inside rows d first)) (each_read rows read test each ds rest)

all_named : (ds : List Data) → tables_refusal stream_rows ds ≡ None → list_all has_names (map place_of ds) ≡ true
all_named ds h = each_read stream_rows place_of has_names named ds h

-- ---- open tables

number_there : (o : Option Data) → is_none o ≡ false → option_map_or (λ value. not (is_number 1 64 value)) o false ≡ false
    → is_within 1 64 (unwrap_or (option_and_then number_in o) 0) ≡ true
number_there None there inside = absurd (cc)
number_there (Some value) there inside = go (number_in value) inside
  where
    go : (n : Option ℕ) → not (passes (is_within 1 64) n) ≡ false → is_within 1 64 (unwrap_or n 0) ≡ true
    go None k = absurd (cc)
    go (Some n) k = elim (cases_Bool (is_within 1 64 n)) [
      | inl so ↦ so
      | inr other ↦ let e : not (is_within 1 64 n) ≡ true = ap not other in absurd (cc)
    ]

opened : (d : Data) → Each (lacks d) open_rows → Each (is_outside d) open_rows → has_room (open_of d) ≡ true
opened d there inside =
    both _ _ (word_there (value_at key.App d) there.0 inside.0) (number_there (value_at key.Names d) there.1.0 inside.1.0)

pub rooms : (config : Config) (ds : List Data) → config.opens ≡ map open_of ds → tables_refusal open_rows ds ≡ None → AllPass has_room config.opens
rooms config ds is h = AllPass-from_list_all has_room config.opens (rw is (each_read open_rows open_of has_room opened ds h))

both_parts : (a b : Bool) → (a && b) ≡ true → (a ≡ true) × (b ≡ true)
both_parts true b h = (refl, h)
both_parts false b h = absurd (cc)

some_names : (o : OpenRule) → has_room o ≡ true → 1 ≤ o.names
some_names o h = let e : is_within 1 64 o.names ≡ true = (both_parts (is_name o.app) (is_within 1 64 o.names) h).1 in grind (arith, nat_tests, e)

-- there are no more open tables than names
pub each_named : (opens : List OpenRule) → AllPass has_room opens → length opens ≤ names_of opens
each_named [] all = omega arith
each_named (o ∷ opens) all = omega (arith, some_names o (all 0 o (omega arith)), each_named opens (λ k d lt. all (suc k) d (omega (arith, lt))))

pub few_opens : (opens : List OpenRule) (room : ℕ) → AllPass has_room opens → nat_le (names_of opens) room ≡ true → room ≤ 64 → length opens ≤ 64
few_opens opens room all fits most =
    let h : names_of opens ≤ room = grind (arith, nat_tests, fits) in
    omega (arith, each_named opens all, h, most)

-- ---- no two with the same names

first_false : (test : ℕ → Bool) (a n i : ℕ) → find test (range_with_len a n) ≡ None → a ≤ i → i < a + n → test i ≡ false
first_false test a zero i h low high = absurd (omega arith)
first_false test a (suc n) i h low high = go (test a) refl h (λ k more. first_false test (a + 1) n i k more (omega arith))
  where
    go : (b : Bool) → test a ≡ b → cond b (Some a) (find test (range_with_len (a + 1) n)) ≡ None
        → (find test (range_with_len (a + 1) n) ≡ None → a + 1 ≤ i → test i ≡ false) → test i ≡ false
    go true e k rest = absurd (cc)
    go false e k rest = elim (cases_order a i) [
      | inl same ↦ ap test (sym same) ∙ e
      | inr other ↦ elim other [
        | inl less ↦ rest k (omega arith)
        | inr more ↦ absurd (omega arith)
      ]
    ]

or_parts : (a b : Bool) → (a || b) ≡ false → (a ≡ false) × (b ≡ false)
or_parts true b h = absurd (cc)
or_parts false b h = (refl, h)

earlier : {X : Type 0} (test : X → Bool) (xs : List X) (i k : ℕ) (x : X) → list_any test (take i xs) ≡ false → k < i → slice_get xs k ≡ Some x → test x ≡ false
earlier test [] i k x h less is = absurd (cc)
earlier test (y ∷ xs) zero k x h less is = absurd (omega arith)
earlier test (y ∷ xs) (suc i) zero x h less is = let P : Option _ → Type 0 = λ o. option_map_or test o false ≡ false in subst P is (or_parts _ _ h).0
earlier test (y ∷ xs) (suc i) (suc k) x h less is = earlier test xs i k x (or_parts _ _ h).1 (omega arith) is

within : {X : Type 0} (xs : List X) (k : ℕ) (x : X) → slice_get xs k ≡ Some x → k < length xs
within [] k x h = absurd (cc)
within (y ∷ xs) zero x h = omega arith
within (y ∷ xs) (suc k) x h = omega (arith, within xs k x h)

differ : {X : Type 0} (same : X → X → Bool) (xs : List X) → twice_in same xs ≡ None → (i k : ℕ) (x y : X) → k < i → slice_get xs i ≡ Some x
    → slice_get xs k ≡ Some y → same x y ≡ false
differ same xs none i k x y less at_i at_k =
    let no : repeats same xs i ≡ false = first_false (repeats same xs) 0 (length xs) i none (omega arith) (omega (arith, within xs i x at_i)) in
    earlier (same x) xs i k y (ap (λ o. option_map_or (λ r. list_any (same r) (take i xs)) o false) (sym at_i) ∙ no) less at_k

-- two that are the same are one
single : {X : Type 0} (same : X → X → Bool) (xs : List X) → twice_in same xs ≡ None → (i k : ℕ) (x y : X) → slice_get xs i ≡ Some x
    → slice_get xs k ≡ Some y → same x y ≡ true → same y x ≡ true → i ≡ k
single same xs none i k x y at_i at_k there back = elim (cases_order i k) [
  | inl so ↦ so
  | inr other ↦ elim other [
    | inl less ↦ let no = differ same xs none k i y x less at_k at_i in absurd (cc)
    | inr more ↦ let no = differ same xs none i k x y more at_i at_k in absurd (cc)
  ]
]

same_pair : (p q : PlaceRule) → p.app ≡ q.app → p.name ≡ q.name → same_names p q ≡ true
same_pair p q a n = both _ _ ((bytes_decides p.app q.app).1 a) ((bytes_decides p.name q.name).1 n)

same_open : (o p : OpenRule) → o.app ≡ p.app → same_app o p ≡ true
same_open o p a = (bytes_decides o.app p.app).1 a

-- ---- all of it

unless : (b : Bool) (e : ConfigFail) → when b e ≡ None → b ≡ false
unless true e h = absurd (cc)
unless false e h = refl

apart_from : (listen : List ℕ) (http : Option (List ℕ)) → option_map_or (pointwise nat_eq listen) http false ≡ false → (at : List ℕ)
    → http ≡ Some at → listen ≢ at
apart_from listen http free at is = λ same.
    let P : Option (List ℕ) → Type 0 = λ o. option_map_or (pointwise nat_eq listen) o false ≡ false in
    let other : pointwise nat_eq listen at ≡ false = subst P is free in
    let one : pointwise nat_eq listen at ≡ true = (bytes_decides listen at).1 same in
    absurd (cc)

pub lawful : (config : Config) (streams tables : List Data) → config.places ≡ map place_of streams → config.opens ≡ map open_of tables
    → tables_refusal stream_rows streams ≡ None → tables_refusal open_rows tables ≡ None → InRange config → whole_refusal config ≡ None → Lawful config
lawful config streams tables is opens_are read opens_read numbers whole =
    let (own, rest_own) = none_of _ _ whole in
    let (_, rest0) = none_of _ _ rest_own in
    let (some, rest) = none_of _ _ rest0 in
    let (few, rest2) = none_of _ _ rest in
    let (room, rest3) = none_of _ _ rest2 in
    let (once, rest4) = none_of _ _ rest3 in
    let (small, _) = none_of _ _ rest4 in
    let (streams_once, opens_once) = none_of _ _ (unmapped fail.Twice _ once) in
    let a : (length config.places + length config.opens == 0) ≡ false = unless _ (fail.Missing key.Stream) some in
    let b : nat_lt 64 (length config.places + names_of config.opens) ≡ false = unless _ (fail.Range key.Names) room in
    let c : nat_lt 6442450944 (configured_sum config) ≡ false = unless _ (fail.TooMuch (configured_sum config)) small in
    record {
      numbers = numbers;
      apart = apart_from config.listen config.http (unless _ (fail.Range key.Http) own);
      some = grind (arith, nat_tests, a);
      few = grind (arith, nat_tests, b);
      names = AllPass-from_list_all has_names config.places (rw is (all_named streams read));
      opens = rooms config tables opens_are opens_read;
      distinct = λ i k p q at_i at_k app name.
          single same_names config.places streams_once i k p q at_i at_k (same_pair p q app name) (same_pair q p (sym app) (sym name));
      distinct_apps = λ i k o p at_i at_k app.
          single same_app config.opens (unmapped _ _ opens_once) i k o p at_i at_k (same_open o p app) (same_open p o (sym app));
      sum = grind (arith, nat_tests, c);
    }
