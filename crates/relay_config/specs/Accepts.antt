-- Which texts are accepted as which configuration, and what is answered to the others
use Rattle.std.specs.Prelude.{◌≡◌, ◌≢◌, ℕ, ◌+◌, ◌≤◌, Bool, ◌&&◌, nat_le, if◌then◌else◌, List, length, Option, Some, None, option_map}
use Rattle.std.specs.Option.{option_map_or}
use Rattle.std.specs.List.{AllPass, slice_get}
use Rattle.std.specs.Str.{is_utf8}
use Rattle.toml.specs.Data.{Data, table}
use Rattle.toml.specs.Parse.{parse_document}
use Rattle.relay_config.specs.declared.config.Config.{Config}
use Rattle.relay_config.specs.declared.config.ConfigFail.{ConfigFail}
use Rattle.relay_config.specs.declared.config.ConfigFail.TheVariants as fail
use Rattle.relay_config.specs.declared.config.PlaceRule.{PlaceRule}
use Rattle.relay_config.specs.declared.config.OpenRule.{OpenRule}
use Rattle.relay_config.specs.Forms.{is_name, is_within}
use Rattle.relay_config.specs.Sum.{InRange, names_of, configured_sum}
use Rattle.relay_config.specs.Refusals.{first_refusal, values_of}

-- the table that a text of at most 1,048,576 bytes of UTF-8 is, by the grammar of TOML 1.1
abbrev pub document : List ℕ → Option Data
document bytes = if nat_le (length bytes) 1048576 && is_utf8 bytes then option_map table (parse_document bytes) else None

-- what is answered to a text that isn't accepted: the first test that it fails
abbrev pub refusal : List ℕ → Option ConfigFail
refusal bytes = option_map_or first_refusal (document bytes) (Some fail.NotToml)

-- the text is a table that passes each test, and these are its values with the defaults
pub record Accepts (bytes : List ℕ) (config : Config) : Type 0 where
  pub whole : Data
  pub read : document bytes ≡ Some whole
  pub passes : first_refusal whole ≡ None
  pub values : values_of whole ≡ Some config

-- a stream with two names of the form, and an open table with an app of the form and 1 to 64 names
abbrev pub has_names : PlaceRule → Bool
has_names p = is_name p.app && is_name p.name

abbrev pub has_room : OpenRule → Bool
has_room o = is_name o.app && is_within 1 64 o.names

-- what is known of a configuration that is accepted: its numbers are in their ranges; its HTTP players have
-- an address of their own; it has a stream or an open table, each as above, and at most 64 streams and names
-- together; no two streams have the same names, no two open tables the same app; and the sum is within the
-- bound

pub record Lawful (config : Config) : Type 0 where
  pub numbers : InRange config
  pub apart : (at : List ℕ) → config.http ≡ Some at → config.listen ≢ at
  pub some : 1 ≤ length config.places + length config.opens
  pub few : length config.places + names_of config.opens ≤ 64
  pub names : AllPass has_names config.places
  pub opens : AllPass has_room config.opens
  pub distinct : (i k : ℕ) (p q : PlaceRule) → slice_get config.places i ≡ Some p → slice_get config.places k ≡ Some q → p.app ≡ q.app → p.name ≡ q.name → i ≡ k
  pub distinct_apps : (i k : ℕ) (o p : OpenRule) → slice_get config.opens i ≡ Some o → slice_get config.opens k ≡ Some p → o.app ≡ p.app → i ≡ k
  pub sum : configured_sum config ≤ 6442450944
