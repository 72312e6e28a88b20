-- What is granted to a publish or play: by the first place that has its names, and that place's keys
use Rattle.std.specs.Prelude.{◌≡◌, ◌⊎◌, ℕ, ◌+◌, ◌++◌, Bool, true, false, ◌&&◌, if◌then◌else◌, List, [], ◌∷◌, length, nat_eq}
use Rattle.std.specs.Cmp.Lexicographic.{pointwise}
use Rattle.key_guard.specs.declared.check.Grants.{Grants}
use Rattle.key_guard.specs.declared.check.Mode.{Mode}
use Rattle.key_guard.specs.Allowed.{is_allowed}
use Rattle.relay_config.specs.declared.config.PlaceRule.{PlaceRule}
use Rattle.relay_config.specs.declared.config.OpenRule.{OpenRule}
use Rattle.stream_model.specs.Names.{is_name}
use Rattle.command_dialog.specs.declared.types.Ask.{Ask}
use Rattle.command_dialog.specs.declared.types.Role.{Role}
use Rattle.command_dialog.specs.declared.types.Role.TheVariants.{Publish, Play}
use Rattle.command_dialog.specs.declared.types.Grant.{Grant}
use Rattle.command_dialog.specs.declared.types.Grant.TheVariants.{NoName, Refused, Place}

-- ---- which keys are taken

-- the keys of a place, and how they are kept
pub record Keys : Type 0 where
  pub mode : Mode
  pub publish : Grants
  pub play : Grants

abbrev pub stream_keys : PlaceRule → Keys
stream_keys p = record { mode = p.mode; publish = p.publish; play = p.play }

abbrev pub table_keys : OpenRule → Keys
table_keys o = record { mode = o.mode; publish = o.publish; play = o.play }

-- the keys that are taken for that role
abbrev pub grants_for : Role → Keys → Grants
grants_for Publish k = k.publish
grants_for Play k = k.play

-- whether the key that comes with it is taken for the name that is asked for
abbrev pub takes_key : Keys → Ask → Bool
takes_key k ask = is_allowed k.mode (grants_for ask.role k) ask.name ask.key

-- what is granted at the place of that number
abbrev pub judged : Keys → Ask → ℕ → Grant
judged k ask n = if takes_key k ask then Place n else Refused

-- ---- which place it is

-- whether the stream has the names that are asked for
abbrev pub is_named : PlaceRule → Ask → Bool
is_named p ask = pointwise nat_eq p.app ask.app && pointwise nat_eq p.name ask.name

-- whether the open table has the app that is asked for
abbrev pub has_app : OpenRule → Ask → Bool
has_app o ask = pointwise nat_eq o.app ask.app

-- what the open tables grant, which are numbered from n on
abbrev pub tables_from : ℕ → List OpenRule → Ask → Grant
tables_from n [] ask = NoName
tables_from n (o ∷ rest) ask = if has_app o ask then judged (table_keys o) ask n else tables_from (n + 1) rest ask

-- an open table is asked for a name alone that a caller may give
abbrev pub opened_from : ℕ → List OpenRule → Ask → Grant
opened_from n opens ask = if is_name ask.name then tables_from n opens ask else NoName

-- WHAT IS GRANTED, where the streams are numbered from n on, and the open tables behind them
abbrev pub granted_from : ℕ → List PlaceRule → List OpenRule → Ask → Grant
granted_from n [] opens ask = opened_from n opens ask
granted_from n (p ∷ rest) opens ask = if is_named p ask then judged (stream_keys p) ask n else granted_from (n + 1) rest opens ask

-- none of these streams has the names
abbrev pub NoneNamed : List PlaceRule → Ask → Type 0
NoneNamed [] ask = Unit {0}
NoneNamed (p ∷ rest) ask = (is_named p ask ≡ false) × NoneNamed rest ask

-- none of these open tables has the app
abbrev pub NoneOpen : List OpenRule → Ask → Type 0
NoneOpen [] ask = Unit {0}
NoneOpen (o ∷ rest) ask = (has_app o ask ≡ false) × NoneOpen rest ask

-- That the stream of number n, which has these keys, is the first that has the names which are asked for,
-- where the streams are numbered from `from` on
pub record IsFirst (from : ℕ) (places : List PlaceRule) (ask : Ask) (n : ℕ) (k : Keys) : Type 0 where
  pub before : List PlaceRule
  pub place : PlaceRule
  pub after : List PlaceRule
  pub parts : places ≡ before ++ place ∷ after
  pub number : n ≡ from + length before
  pub named : is_named place ask ≡ true
  pub none_before : NoneNamed before ask
  pub keys : k ≡ stream_keys place

-- The same of the open table that is the first of the app which is asked for. No stream has the names, and
-- the name is one that a caller may give
pub record IsTable (from : ℕ) (places : List PlaceRule) (opens : List OpenRule) (ask : Ask) (n : ℕ) (k : Keys) : Type 0 where
  pub unlisted : NoneNamed places ask
  pub given : is_name ask.name ≡ true
  pub before : List OpenRule
  pub table : OpenRule
  pub after : List OpenRule
  pub parts : opens ≡ before ++ table ∷ after
  pub number : n ≡ from + length places + length before
  pub named : has_app table ask ≡ true
  pub none_before : NoneOpen before ask
  pub keys : k ≡ table_keys table

-- THE PLACE that a pair of names has: the first stream that has it, else the first open table of the app
abbrev pub IsPlace : ℕ → List PlaceRule → List OpenRule → Ask → ℕ → Keys → Type 0
IsPlace from places opens ask n k = IsFirst from places ask n k ⊎ IsTable from places opens ask n k

-- When each grant is given: there is no such place; the place refuses the key; it takes the key
abbrev pub IsGranted : ℕ → List PlaceRule → List OpenRule → Ask → Grant → Type 0
IsGranted from places opens ask NoName = NoneNamed places ask × (NoneOpen opens ask ⊎ (is_name ask.name ≡ false))
IsGranted from places opens ask Refused = (n : ℕ) × (k : Keys) × IsPlace from places opens ask n k × (takes_key k ask ≡ false)
IsGranted from places opens ask (Place n) = (k : Keys) × IsPlace from places opens ask n k × (takes_key k ask ≡ true)
