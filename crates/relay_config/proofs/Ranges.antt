-- The numbers of a configuration whose table `relay` passes its tests
use Rattle.std.proofs.Common.{◌≡◌, ℕ, ◌+◌, ◌≤◌, Bool, true, false, not, cond, List, [], ◌∷◌, refl, sym, Option, Some}
use Rattle.std.proofs.Common.{None, IfSome, option_map, arith, subst, lit≤}
use Rattle.std.specs.Option.{unwrap_or, option_and_then, option_map_or}
use Rattle.std.specs.List.{find}
use Rattle.std.proofs.lemmas.Bool.Decides.{nat_tests}
use Rattle.toml.specs.Data.{Data}
use Rattle.relay_config.specs.declared.config.Config.{Config}
use Rattle.relay_config.specs.declared.config.ConfigFail.{ConfigFail}
use Rattle.relay_config.specs.declared.config.ConfigFail.TheVariants as fail
use Rattle.relay_config.specs.declared.key.Key.{Key}
use Rattle.relay_config.specs.declared.key.Key.TheVariants as key
use Rattle.relay_config.specs.declared.rows.Row.{Row}
use Rattle.relay_config.specs.Forms.{value_at, number_in, number_or, is_number, is_within, passes}
use Rattle.relay_config.specs.Values.{config_of}
use Rattle.relay_config.specs.Sum.{InRange}
use Rattle.relay_config.specs.Refusals.{table_refusal, relay_rows, is_outside, first_key, first_of}

-- each row passes
abbrev pub Each : (Row → Bool) → List Row → Type 0
Each test [] = Unit {0}
Each test (row ∷ rows) = (test row ≡ false) × Each test rows

pub none_found : (test : Row → Bool) (rows : List Row) → first_key test rows ≡ None → Each test rows
none_found test [] h = tt
none_found test (row ∷ rows) h = go (test row) refl (none_found test rows) h
  where
    go : (b : Bool) → test row ≡ b → (first_key test rows ≡ None → Each test rows)
        → option_map (λ r. r.key) (cond b (Some row) (find test rows)) ≡ None → Each test (row ∷ rows)
    go true e rest k = absurd (cc)
    go false e rest k = (e, rest k)

-- no refusal is none of any kind
last_none : (a b c : Option ConfigFail) → first_of (a ∷ b ∷ c ∷ []) ≡ None → c ≡ None
last_none None None None h = refl
last_none None None (Some e) h = h
last_none None (Some e) c h = absurd (cc)
last_none (Some e) b c h = absurd (cc)

map_none : (o : Option Key) → option_map fail.Range o ≡ None → o ≡ None
map_none None h = refl
map_none (Some k) h = absurd (cc)

pub each_inside : (rows : List Row) (d : Data) → table_refusal rows d ≡ None → Each (is_outside d) rows
each_inside rows d h = none_found (is_outside d) rows (map_none _ (last_none _ _ _ h))

-- a number inside its range, absent or not
pub number_inside : (o : Option Data) (least most default : ℕ) → least ≤ default → default ≤ most
    → option_map_or (λ value. not (is_number least most value)) o false ≡ false
    → (least ≤ unwrap_or (option_and_then number_in o) default) × (unwrap_or (option_and_then number_in o) default ≤ most)
number_inside None least most default low high h = (low, high)
number_inside (Some value) least most default low high h = go (number_in value) h
  where
    go : (n : Option ℕ) → not (passes (is_within least most) n) ≡ false → (least ≤ unwrap_or n default) × (unwrap_or n default ≤ most)
    go None k = absurd (cc)
    go (Some n) k = grind (arith, nat_tests, k)

-- a number inside its range, where it is there
own_inside : (o : Option Data) (least most : ℕ) → option_map_or (λ value. not (is_number least most value)) o false ≡ false
    → IfSome (option_and_then number_in o) (λ n. (least ≤ n) × (n ≤ most))
own_inside None least most h = tt
own_inside (Some value) least most h = go (number_in value) h
  where
    go : (n : Option ℕ) → not (passes (is_within least most) n) ≡ false → IfSome n (λ n. (least ≤ n) × (n ≤ most))
    go None k = absurd (cc)
    go (Some n) k = grind (arith, nat_tests, k)

in_rows : (d : Data) (streams opens : List Data) → Each (is_outside d) relay_rows → InRange (config_of d streams opens)
in_rows d streams opens h =
    let message = number_inside (value_at key.MaxMessage d) 4096 4194304 4194304 (lit≤ tt) (lit≤ tt) h.1.1.1.1.1.0 in
    let window = number_inside (value_at key.Window d) 1000 2147483647 2500000 (lit≤ tt) (lit≤ tt) h.1.1.1.1.1.1.1.1.1.0 in
    record {
      workers = number_inside (value_at key.Workers d) 1 16 2 (lit≤ tt) (lit≤ tt) h.1.1.0;
      links = number_inside (value_at key.Links d) 1 64 32 (lit≤ tt) (lit≤ tt) h.1.1.1.0;
      http_links = own_inside (value_at key.HttpLinks d) 1 1024 h.1.1.1.1.1.1.1.1.1.1.0;
      accept = (number_inside (value_at key.Accept d) 0 1000000 0 (lit≤ tt) (lit≤ tt) h.1.1.1.1.0).1;
      max_message = message;
      ring_bytes = number_inside (value_at key.RingBytes d) (number_or key.MaxMessage 4194304 d + 64) 268435456 33554432
          (omega (arith, message.1)) (lit≤ tt) h.1.1.1.1.1.1.0;
      ring_items = number_inside (value_at key.RingItems d) 16 65536 16384 (lit≤ tt) (lit≤ tt) h.1.1.1.1.1.1.1.0;
      players = number_inside (value_at key.Players d) 4 256 256 (lit≤ tt) (lit≤ tt) h.1.1.1.1.1.1.1.1.0;
      window = (window.0, omega (arith, window.1));
    }

pub in_range : (d : Data) (streams opens : List Data) (config : Config) → table_refusal relay_rows d ≡ None → config ≡ config_of d streams opens → InRange config
in_range d streams opens config h is = let P : Config → Type 0 = InRange in subst P (sym is) (in_rows d streams opens (each_inside relay_rows d h))
