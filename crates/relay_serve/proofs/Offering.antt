-- A desk grants none but its own places
use Rattle.std.proofs.Common.{ℕ, ◌+◌, ◌<◌, ◌≤◌, Bool, true, false, if◌then◌else◌, List, [], ◌∷◌, length, arith}
use Rattle.relay_config.specs.declared.config.OpenRule.{OpenRule}
use Rattle.relay_config.specs.declared.config.PlaceRule.{PlaceRule}
use Rattle.command_dialog.specs.declared.types.Ask.{Ask}
use Rattle.command_dialog.specs.declared.types.Grant.{Grant}
use Rattle.command_dialog.specs.declared.types.Grant.TheVariants.{NoName, Place, Refused}
use Rattle.stream_model.specs.Names.{is_name}
use Rattle.config_desk.specs.Grants.{Keys, granted_from, has_app, is_named, judged, stream_keys, table_keys, tables_from, takes_key}
use Rattle.relay_session.specs.Places.{IsGrantThere}

chosen : (count : ℕ) (b : Bool) (x y : Grant) → IsGrantThere count x → IsGrantThere count y → IsGrantThere count (if b then x else y)
chosen count true x y p q = p
chosen count false x y p q = q

judged_there : (n count : ℕ) (k : Keys) (a : Ask) → n < count → IsGrantThere count (judged k a n)
judged_there n count k a l = chosen count (takes_key k a) (Place n) Refused l tt

tables_there : (n count : ℕ) (opens : List OpenRule) (a : Ask) → n + length opens ≤ count → IsGrantThere count (tables_from n opens a)
tables_there n count [] a le = tt
tables_there n count (o ∷ rest) a le =
    chosen count (has_app o a) (judged (table_keys o) a n) (tables_from (n + 1) rest a) (judged_there n count (table_keys o) a (omega (arith, le)))
    (tables_there (n + 1) count rest a (omega (arith, le)))

pub offered_from : (n count : ℕ) (list : List PlaceRule) (opens : List OpenRule) (a : Ask) → n + (length list + length opens) ≤ count
    → IsGrantThere count (granted_from n list opens a)
offered_from n count [] opens a le = chosen count (is_name a.name) (tables_from n opens a) NoName (tables_there n count opens a (omega (arith, le))) tt
offered_from n count (p ∷ rest) opens a le =
    chosen count (is_named p a) (judged (stream_keys p) a n) (granted_from (n + 1) rest opens a) (judged_there n count (stream_keys p) a (omega (arith, le)))
    (offered_from (n + 1) count rest opens a (omega (arith, le)))
