-- The lines of units.
use Rattle.std.proofs.Common.{◌≡◌, ℕ, ◌≤◌, List, [], ◌∷◌, ◌++◌, Option, None, Some, length, refl, ap, ◌∙◌, subst, arith, length-append, append-nil}
use Rattle.std.specs.Option.{option_to_list}
use Rattle.std.proofs.lemmas.List.Concat.{flat_map-append}
use Rattle.ts_reader.specs.declared.unit.TsUnit.{TsUnit}
use Rattle.ts_reader.specs.Mux.{Mux}
use Rattle.ts_reader.specs.Reads.{Packets}
use Rattle.ts_reader.specs.Reads.Packets.{none, more}
use Rattle.ts_reader.specs.Known.{Known}
use Rattle.ts_reader.specs.Feeds.{IsFedTo, Stands}
use Rattle.file_commands.specs.Check.{lines_of, unit_line}
use Rattle.file_commands.specs.Parts.{Steps}

one_at_most : (u : Option TsUnit) → length (option_to_list u) ≤ 1
one_at_most None = omega arith
one_at_most (Some x) = omega arith

-- a unit has a packet at least
few_in : {b : List ℕ} {us : List TsUnit} {m : Mux} → Packets b us m → length us ≤ length b
few_in none = omega arith
few_in (more b us m p u new x size d) =
    omega (arith, few_in x, size, one_at_most u, length-append b p, length-append us (option_to_list u))

pub few_units : (k : Known) → Stands k → length k.given ≤ length k.fed
few_units k s = omega (arith, few_in s.read.packets, ap (λ (l : List ℕ). length l) s.read.bytes, length-append s.read.whole s.r)

one_more : (units : List TsUnit) (u : TsUnit) → lines_of (units ++ u ∷ []) ≡ lines_of units ++ unit_line u
one_more units u = flat_map-append unit_line units (u ∷ []) ∙ ap (λ (l : List ℕ). lines_of units ++ l) (append-nil (unit_line u))

fed_steps : (old new : Known) (piece : List ℕ) (used : ℕ) (u : TsUnit) (out out' : List ℕ) → IsFedTo old piece used (Some u) new → out' ≡ out ++ unit_line u
    → Steps old.fed (lines_of old.given) piece used out new.fed (lines_of new.given) out'
fed_steps old new piece used u out out' f e = record {
  some = f.some refl;
  within = f.within;
  fed_is = ap (λ (k : Known). k.fed) f.now;
  more = unit_line u;
  given_is = ap (λ (k : Known). lines_of k.given) f.now ∙ one_more old.given u;
  out_is = e;
}

pub unit_steps : (old new : Known) (piece : List ℕ) (used : ℕ) (found : Option TsUnit) (u : TsUnit) (out out' : List ℕ) → found ≡ Some u
    → IsFedTo old piece used found new → out' ≡ out ++ unit_line u → Steps old.fed (lines_of old.given) piece used out new.fed (lines_of new.given) out'
unit_steps old new piece used found u out out' is f e =
    fed_steps old new piece used u out out' (subst (λ (o : Option TsUnit). IsFedTo old piece used o new) is f) e
