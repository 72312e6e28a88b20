-- What a table has at a key, and which values are of a form
use Rattle.std.specs.Prelude.{ℕ, ℤ, pos, negsuc, ◌+◌, ◌^◌, Bool, false, ◌==◌, ◌&&◌, ◌||◌, nat_le, nat_lt, if◌then◌else◌, List, [], ◌∷◌, length}
use Rattle.std.specs.Prelude.{Option, Some, None, is_some}
use Rattle.std.specs.Option.{unwrap_or, option_and_then, option_map_or}
use Rattle.std.specs.List.{list_all}
use Rattle.toml.specs.Data.{Data, Items, no_items, item, get, as_str, as_integer, as_bool, as_array, as_table}
use Rattle.relay_config.specs.declared.key.Key.{Key}
use Rattle.relay_config.specs.declared.key.Key.TheVariants.{MaxMessage, Digest}
use Rattle.relay_config.specs.declared.rows.Form.{Form}
use Rattle.relay_config.specs.declared.rows.Form.TheVariants.{Table, Tables, Text, Word, Number, RingBytes, Keys, Truth}
use Rattle.relay_config.specs.Names.{name_of}

-- the value at a key of a table, where the table has the key
abbrev pub value_at : Key → Data → Option Data
value_at key d = get (name_of key) d

-- the elements of an array
abbrev pub list_of : Items → List Data
list_of no_items = []
list_of (item d ds) = d ∷ list_of ds

abbrev pub elements : Data → List Data
elements d = option_map_or list_of (as_array d) []

-- a whole number of at most 32 bits
abbrev pub natural : ℤ → Option ℕ
natural (pos n) = if nat_lt n (2 ^ 32) then Some n else None
natural (negsuc n) = None

abbrev pub number_in : Data → Option ℕ
number_in d = option_and_then natural (as_integer d)

-- the number at a key, where the table has the key
abbrev pub number_at : Key → Data → Option ℕ
number_at key d = option_and_then number_in (value_at key d)

-- the same, or the default where the table lacks the key
abbrev pub number_or : Key → ℕ → Data → ℕ
number_or key default d = unwrap_or (number_at key d) default

-- the text at a key, and whether the value there is true
abbrev pub text_at : Key → Data → Option (List ℕ)
text_at key d = option_and_then as_str (value_at key d)

abbrev pub is_true_at : Key → Data → Bool
is_true_at key d = unwrap_or (option_and_then as_bool (value_at key d)) false

-- whether there is one, and it passes the test
abbrev pub passes : {A : Type 0} → (A → Bool) → Option A → Bool
passes test o = option_map_or test o false

abbrev pub is_within : ℕ → ℕ → ℕ → Bool
is_within least most n = nat_le least n && nat_le n most

-- a text of at least one byte and at most so many
abbrev pub is_text : ℕ → Data → Bool
is_text most d = passes (λ s. is_within 1 most (length s)) (as_str d)

-- an app or a name: a text of 1 to 64 letters, digits, `.`, `_` and `-`
abbrev pub is_word_byte : ℕ → Bool
is_word_byte b = (is_within 65 90 b || is_within 97 122 b) || (is_within 48 57 b || (b == 46 || (b == 95 || b == 45)))

abbrev pub is_name : List ℕ → Bool
is_name s = is_within 1 64 (length s) && list_all is_word_byte s

abbrev pub is_word : Data → Bool
is_word d = passes is_name (as_str d)

-- a digest: a text of 64 hexadecimal digits in lower case
abbrev pub is_hex_digit : ℕ → Bool
is_hex_digit b = is_within 48 57 b || is_within 97 102 b

abbrev pub is_digest : Data → Bool
is_digest d = passes (λ s. (length s == 64) && list_all is_hex_digit s) (as_str d)

-- a number from the least to the most
abbrev pub is_number : ℕ → ℕ → Data → Bool
is_number least most d = passes (is_within least most) (number_in d)

-- a list of which every element passes the test
abbrev pub is_list_of : (Data → Bool) → Data → Bool
is_list_of test d = is_some (as_array d) && list_all test (elements d)

-- a key: a digest, or a text of 1 to 64 bytes
abbrev pub is_key : Bool → Data → Bool
is_key digest d = if digest then is_digest d else is_text 64 d

-- whether a value of a table has the form: the least `ring_bytes` is the `max_message` of the table and 64, and
-- keys are digests where the table says so
abbrev pub fits : Form → Data → Data → Bool
fits Table d value = is_some (as_table value)
fits Tables d value = is_list_of (λ e. is_some (as_table e)) value
fits (Text most) d value = is_text most value
fits Word d value = is_word value
fits (Number least most) d value = is_number least most value
fits RingBytes d value = is_number (number_or MaxMessage 4194304 d + 64) 268435456 value
fits Keys d value = is_list_of (is_key (is_true_at Digest d)) value
fits Truth d value = is_some (as_bool value)
