-- The tests that a configuration must pass, in order, and what is answered at the first that fails
use Rattle.std.specs.Prelude.{◌≡◌, ℕ, ◌+◌, ◌⊎◌, Bool, true, false, not, ◌&&◌, ◌==◌, nat_lt, nat_eq, if◌then◌else◌, List, [], ◌∷◌, length}
use Rattle.std.specs.Prelude.{take, map, Option, Some, None, option_map, is_none, is_some, slice_get, Result, MatchResult}
use Rattle.std.specs.Option.{option_or, option_and_then, option_map_or}
use Rattle.std.specs.List.{find, list_any, range_with_len}
use Rattle.std.specs.Cmp.Lexicographic.{pointwise}
use Rattle.toml.specs.Data.{Data, Members, no_members, member, as_table}
use Rattle.relay_config.specs.declared.config.Config.{Config}
use Rattle.relay_config.specs.declared.config.PlaceRule.{PlaceRule}
use Rattle.relay_config.specs.declared.config.OpenRule.{OpenRule}
use Rattle.relay_config.specs.declared.config.ConfigFail.{ConfigFail}
use Rattle.relay_config.specs.declared.config.ConfigFail.TheVariants as fail
use Rattle.relay_config.specs.declared.key.Key.{Key}
use Rattle.relay_config.specs.declared.key.Key.TheVariants as key
use Rattle.relay_config.specs.declared.rows.Form.{Form}
use Rattle.relay_config.specs.declared.rows.Form.TheVariants.{Table, Tables, Text, Word, Number, RingBytes, Keys, Truth}
use Rattle.relay_config.specs.declared.rows.Row.{Row}
use Rattle.relay_config.specs.Names.{name_of}
use Rattle.relay_config.specs.Forms.{value_at, fits}
use Rattle.relay_config.specs.Sum.{names_of, configured_sum}
use Rattle.relay_config.specs.Values.{config_of, streams_of, opens_of}

-- the first of the refusals
abbrev pub first_of : List (Option ConfigFail) → Option ConfigFail
first_of [] = None
first_of (o ∷ os) = option_or o (first_of os)

-- ---- the keys of each table, whether the table must have them, and their forms

abbrev pub required : Key → Form → Row
required k f = record { key = k; required = true; form = f }

abbrev pub optional : Key → Form → Row
optional k f = record { key = k; required = false; form = f }

abbrev pub whole_rows : List Row
whole_rows = required key.Relay Table ∷ optional key.Stream Tables ∷ optional key.Open Tables ∷ []

abbrev pub relay_rows : List Row
relay_rows =
    required key.Listen (Text 64)
    ∷ optional key.Http (Text 64)
    ∷ optional key.Workers (Number 1 16)
    ∷ optional key.Links (Number 1 64)
    ∷ optional key.Accept (Number 0 1000000)
    ∷ optional key.MaxMessage (Number 4096 4194304)
    ∷ optional key.RingBytes RingBytes
    ∷ optional key.RingItems (Number 16 65536)
    ∷ optional key.Players (Number 4 256)
    ∷ optional key.Window (Number 1000 2147483647)
    ∷ optional key.HttpLinks (Number 1 1024)
    ∷ []

abbrev pub stream_rows : List Row
stream_rows =
    required key.App Word
    ∷ required key.Name Word
    ∷ optional key.Publish Keys
    ∷ optional key.Play Keys
    ∷ optional key.Digest Truth
    ∷ optional key.Flv (Text 255)
    ∷ optional key.Ts (Text 255)
    ∷ []

abbrev pub open_rows : List Row
open_rows =
    required key.App Word
    ∷ required key.Names (Number 1 64)
    ∷ optional key.Publish Keys
    ∷ optional key.Play Keys
    ∷ optional key.Digest Truth
    ∷ []

-- ---- the tests of one table

-- the keys of a table, in its order, which is by their bytes
abbrev pub keys_of_members : Members → List (List ℕ)
keys_of_members no_members = []
keys_of_members (member k d ms) = k ∷ keys_of_members ms

abbrev pub keys_of : Data → List (List ℕ)
keys_of d = option_map_or keys_of_members (as_table d) []

-- the first key that no row names
abbrev pub is_known : List Row → List ℕ → Bool
is_known rows k = list_any (λ row. pointwise nat_eq k (name_of row.key)) rows

abbrev pub unknown_in : List Row → Data → Option (List ℕ)
unknown_in rows d = find (λ k. not (is_known rows k)) (keys_of d)

-- the first row that is required and whose key isn't there
abbrev pub lacks : Data → Row → Bool
lacks d row = row.required && is_none (value_at row.key d)

-- the first row whose key has a value of another form
abbrev pub is_outside : Data → Row → Bool
is_outside d row = option_map_or (λ value. not (fits row.form d value)) (value_at row.key d) false

abbrev pub first_key : (Row → Bool) → List Row → Option Key
first_key test rows = option_map (λ row. row.key) (find test rows)

abbrev pub table_refusal : List Row → Data → Option ConfigFail
table_refusal rows d = first_of (
    option_map fail.Unknown (unknown_in rows d)
    ∷ option_map fail.Missing (first_key (lacks d) rows)
    ∷ option_map fail.Range (first_key (is_outside d) rows)
    ∷ [])

-- ---- the tests of the whole: of both addresses, and of the streams and open tables together

abbrev pub same_names : PlaceRule → PlaceRule → Bool
same_names p q = pointwise nat_eq p.app q.app && pointwise nat_eq p.name q.name

abbrev pub same_app : OpenRule → OpenRule → Bool
same_app o p = pointwise nat_eq o.app p.app

-- whether an earlier one is the same as the one at index i
abbrev pub repeats : {X : Type 0} → (X → X → Bool) → List X → ℕ → Bool
repeats same xs i = option_map_or (λ x. list_any (same x) (take i xs)) (slice_get xs i) false

-- the least index of one that is the same as an earlier one
abbrev pub twice_in : {X : Type 0} → (X → X → Bool) → List X → Option ℕ
twice_in same xs = find (repeats same xs) (range_with_len 0 (length xs))

-- the least place of a stream that has the names of an earlier one, else that of an open table that has the
-- app of an earlier one; the places of open tables are counted on behind those of the streams
abbrev pub twice_of : Config → Option ℕ
twice_of config = option_or (twice_in same_names config.places) (option_map (λ i. length config.places + i) (twice_in same_app config.opens))

-- whether the players that speak HTTP are to come to the address of all others
abbrev pub is_taken : Config → Bool
is_taken config = option_map_or (pointwise nat_eq config.listen) config.http false

-- whether HTTP players have link places of their own, but no address to come to
abbrev pub is_nowhere : Config → Bool
is_nowhere config = is_some config.http_links && is_none config.http

abbrev pub when : Bool → ConfigFail → Option ConfigFail
when b e = if b then Some e else None

abbrev pub whole_refusal : Config → Option ConfigFail
whole_refusal config = first_of (
    when (is_taken config) (fail.Range key.Http)
    ∷ when (is_nowhere config) (fail.Missing key.Http)
    ∷ when (length config.places + length config.opens == 0) (fail.Missing key.Stream)
    ∷ when (nat_lt 64 (length config.places)) (fail.Range key.Stream)
    ∷ when (nat_lt 64 (length config.places + names_of config.opens)) (fail.Range key.Names)
    ∷ option_map fail.Twice (twice_of config)
    ∷ when (nat_lt 6442450944 (configured_sum config)) (fail.TooMuch (configured_sum config))
    ∷ [])

-- ---- all tests, in order

abbrev pub relay_refusal : Data → Option ConfigFail
relay_refusal d = option_and_then (table_refusal relay_rows) (value_at key.Relay d)

abbrev pub tables_refusal : List Row → List Data → Option ConfigFail
tables_refusal rows tables = first_of (map (table_refusal rows) tables)

abbrev pub values_of : Data → Option Config
values_of d = option_map (λ relay. config_of relay (streams_of d) (opens_of d)) (value_at key.Relay d)

abbrev pub first_refusal : Data → Option ConfigFail
first_refusal d = first_of (
    table_refusal whole_rows d
    ∷ relay_refusal d
    ∷ tables_refusal stream_rows (streams_of d)
    ∷ tables_refusal open_rows (opens_of d)
    ∷ option_and_then whole_refusal (values_of d)
    ∷ [])

-- a result tells a refusal: it is Ok where there is none, and else that refusal, or memory was refused
abbrev pub Tells : {T : Type 0} → Result T ConfigFail → Option ConfigFail → Type 0
Tells r refusal = MatchResult r (λ _. refusal ≡ None) (λ e. (e ≡ fail.OutOfMemory) ⊎ (refusal ≡ Some e))
