-- An accepted configuration has few places, and short names
use Rattle.std.proofs.Common.{◌≡◌, ◌+◌, ◌≤◌, ℕ, suc, List, [], ◌∷◌, length, map, true, nat_le, refl, ap, subst, sym, ◌∙◌, arith}
use Rattle.std.specs.Prelude.{All, get_or}
use Rattle.std.specs.List.{AllPass, list_all}
use Rattle.std.proofs.lemmas.Bool.Decides.{nat_tests}
use Rattle.std.proofs.lemmas.List.{length-map}
use Rattle.relay_config.specs.Accepts.{Lawful, has_names, has_room}
use Rattle.relay_config.specs.Forms.{is_name, is_within, is_word_byte}
use Rattle.relay_config.specs.Sum.{names_of}
use Rattle.relay_config.specs.declared.config.Config.{Config}
use Rattle.relay_config.specs.declared.config.OpenRule.{OpenRule}
use Rattle.relay_config.specs.declared.config.PlaceRule.{PlaceRule}
use Rattle.stream_registry.specs.declared.names.Name.{Name}
use Rattle.stream_registry.specs.declared.names.OpenName.{OpenName}
use Rattle.stream_registry.specs.Names.{AreFew, HaveSlots, slots_sum}
use Rattle.relay_serve.specs.Places.{name_of, open_of, places_in}
use Rattle.relay_serve.proofs.Settling.{and_true}

le_of : (m n : ℕ) → nat_le m n ≡ true → m ≤ n
le_of m n e = grind (arith, nat_tests, e)

a_name : (o : OpenRule) → has_room o ≡ true → 1 ≤ o.names
a_name o e = le_of 1 o.names (and_true (nat_le 1 o.names) (nat_le o.names 64) (and_true (is_name o.app) (is_within 1 64 o.names) e).1).0

short_name : (p : PlaceRule) → has_names p ≡ true → length p.name ≤ 64
short_name p e =
    let named = (and_true (is_name p.app) (is_name p.name) e).1 in
    let within = (and_true (is_within 1 64 (length p.name)) (list_all is_word_byte p.name) named).0 in
    le_of (length p.name) 64 (and_true (nat_le 1 (length p.name)) (nat_le (length p.name) 64) within).1

pub short_names : (ps : List PlaceRule) → AllPass has_names ps → All (λ p. length p.name ≤ 64) ps
short_names ps a = λ i d l. short_name (get_or ps i d) (a i d l)

slots_are : (os : List OpenRule) → slots_sum (map open_of os) ≡ names_of os
slots_are [] = refl
slots_are (o ∷ os) = ap (λ (n : ℕ). o.names + n) (slots_are os)

have_slots : (os : List OpenRule) → AllPass has_room os → HaveSlots (map open_of os)
have_slots [] a = tt
have_slots (o ∷ os) a = (a_name o (a 0 o (omega arith)), have_slots os (λ i d l. a (suc i) d (omega (arith, l))))

a_name_each : (os : List OpenRule) → AllPass has_room os → length os ≤ names_of os
a_name_each [] a = omega arith
a_name_each (o ∷ os) a =
    let one = a_name o (a 0 o (omega arith)) in
    let more = a_name_each os (λ i d l. a (suc i) d (omega (arith, l))) in
    omega (arith, one, more)

pub few_places : (config : Config) → Lawful config → places_in config ≤ 64
few_places config l =
    let each = a_name_each config.opens l.opens in
    let few = l.few in
    omega (arith, each, few)

pub few_names : (config : Config) (names : List Name) (opens : List OpenName) → Lawful config → names ≡ map name_of config.places
    → opens ≡ map open_of config.opens → AreFew names opens
few_names config names opens l n o = record {
  some = subst HaveSlots (sym o) (have_slots config.opens l.opens);
  most =
      let long : length names ≡ length config.places = ap length n ∙ length-map config.places name_of in
      let slots : slots_sum opens ≡ names_of config.opens = ap slots_sum o ∙ slots_are config.opens in
      let few = l.few in
      omega (arith, long, slots, few);
}
