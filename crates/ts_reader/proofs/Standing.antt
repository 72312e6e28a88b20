-- What a reader stands for after bytes of a packet
use Rattle.std.proofs.Common.{◌≡◌, ℕ, ◌+◌, ◌-◌, ◌<◌, ◌≤◌, inl, inr, List, [], ◌++◌, length, take, drop}
use Rattle.std.proofs.Common.{Option, Some, None, IfSome, Ok, Err, refl, sym, ap, ◌∙◌, subst, arith, append_assoc, append-nil, length-append}
use Rattle.std.specs.Option.{option_to_list}
use Rattle.std.proofs.lemmas.List.{length-take, length-take-le, take-append-drop}
use Rattle.ts_reader.specs.declared.unit.TsUnit.{TsUnit}
use Rattle.ts_reader.specs.declared.fail.TsFail.{TsFail}
use Rattle.ts_reader.specs.Mux.{Mux, start}
use Rattle.ts_reader.specs.Steps.{step}
use Rattle.ts_reader.specs.Reads.{Gives, Stops}
use Rattle.ts_reader.specs.Reads.Packets.{none, more}
use Rattle.ts_reader.specs.Feeds.{Stands}
use Rattle.ts_reader.specs.Sound.{Fails, IsStanding, Takes}

pub stands_of : (fed : List ℕ) (given : List TsUnit) (at : ℕ) (m : Mux) (r : List ℕ) (failed : Option TsFail) → IsStanding fed given at m r
    → Stands (record { fed = fed; given = given; failed = failed })
stands_of fed given at m r failed s = record { m = m; r = r; read = record { whole = s.whole; packets = s.packets; bytes = s.bytes; short = s.short } }

pub nothing_stands : IsStanding [] [] 0 start []
nothing_stands = record { whole = []; packets = none; bytes = refl; short = omega arith; place = refl }

-- what was fed, with bytes more
more_bytes : (fed whole r run : List ℕ) → fed ≡ whole ++ r → fed ++ run ≡ whole ++ (r ++ run)
more_bytes fed whole r run e = ap (λ (b : List ℕ). b ++ run) e ∙ append_assoc whole r run

grown : (fed : List ℕ) (given : List TsUnit) (at : ℕ) (m : Mux) (r run : List ℕ) → IsStanding fed given at m r → length (r ++ run) < 188
    → IsStanding (fed ++ run) given at m (r ++ run)
grown fed given at m r run s short =
    record { whole = s.whole; packets = s.packets; bytes = more_bytes fed s.whole r run s.bytes; short = short; place = s.place }

-- what a packet does, by its place
at_place : (at n : ℕ) (m : Mux) (p : List ℕ) (u : Option TsUnit) (new : Mux) → at ≡ n → step at m p ≡ Ok (u, new) → step n m p ≡ Ok (u, new)
at_place at n m p u new e d = let P : ℕ → Type 0 = λ k. step k m p ≡ Ok (u, new) in subst P e d

completed : (fed : List ℕ) (given : List TsUnit) (at : ℕ) (m : Mux) (r run : List ℕ) (u : Option TsUnit) (new : Mux) → IsStanding fed given at m r
    → length (r ++ run) ≡ 188 → step at m (r ++ run) ≡ Ok (u, new) → IsStanding (fed ++ run) (given ++ option_to_list u) (at + 188) new []
completed fed given at m r run u new s whole does =
    let n = length-append s.whole (r ++ run) in
    let p = s.place in
    record {
      whole = s.whole ++ (r ++ run);
      packets = more s.whole given m (r ++ run) u new s.packets whole (at_place at (length s.whole) m (r ++ run) u new s.place does);
      bytes = more_bytes fed s.whole r run s.bytes ∙ sym (append-nil (s.whole ++ (r ++ run)));
      short = omega arith;
      place = omega arith;
    }

some_bytes : (r run : List ℕ) → 0 < length run → r ++ run ≡ [] → ⊥
some_bytes r run some e = omega (arith, length-append r run, ap length e)

-- what stands after bytes that were taken
pub taken_stood : (fed : List ℕ) (given : List TsUnit) (at later : ℕ) (m new : Mux) (r run rest : List ℕ) (u : Option TsUnit) → IsStanding fed given at m r
    → 0 < length run → Takes at m r run u new rest → (rest ≡ [] → later ≡ at + 188) → ((rest ≡ [] → ⊥) → later ≡ at)
    → IsStanding (fed ++ run) (given ++ option_to_list u) later new rest
taken_stood fed given at later m new r run rest u s some (inl g) ends goes =
    let still : later ≡ at = goes (λ e. some_bytes r run some (sym g.rest_is ∙ e)) in
    let us : given ++ option_to_list u ≡ given = ap (λ (o : Option TsUnit). given ++ option_to_list o) g.none ∙ append-nil given in
    let P : List ℕ → Type 0 = λ x. IsStanding (fed ++ run) (given ++ option_to_list u) later new x in
    let Q : List TsUnit → Type 0 = λ x. IsStanding (fed ++ run) x later new (r ++ run) in
    let R : ℕ → Type 0 = λ x. IsStanding (fed ++ run) given x new (r ++ run) in
    let S : Mux → Type 0 = λ x. IsStanding (fed ++ run) given at x (r ++ run) in
    subst P (sym g.rest_is) (subst Q (sym us) (subst R (sym still) (subst S (sym g.same) (grown fed given at m r run s g.short))))
taken_stood fed given at later m new r run rest u s some (inr c) ends goes =
    let P : List ℕ → Type 0 = λ x. IsStanding (fed ++ run) (given ++ option_to_list u) later new x in
    let Q : ℕ → Type 0 = λ x. IsStanding (fed ++ run) (given ++ option_to_list u) x new [] in
    subst P (sym c.rest_is) (subst Q (sym (ends c.rest_is)) (completed fed given at m r run u new s c.whole c.does))

gives_some : (fed : List ℕ) (given : List TsUnit) (at : ℕ) (m new : Mux) (r run : List ℕ) (u : Option TsUnit) → IsStanding fed given at m r
    → length (r ++ run) ≡ 188 → step at m (r ++ run) ≡ Ok (u, new) → IfSome u (λ x. Gives (fed ++ run) given x)
gives_some fed given at m new r run None s whole does = tt
gives_some fed given at m new r run (Some x) s whole does = record {
  whole = s.whole;
  last = r ++ run;
  old = m;
  new = new;
  packets = s.packets;
  size = whole;
  bytes = more_bytes fed s.whole r run s.bytes;
  gives = at_place at (length s.whole) m (r ++ run) (Some x) new s.place does;
}

-- the unit that the bytes end
pub taken_gives : (fed : List ℕ) (given : List TsUnit) (at : ℕ) (m new : Mux) (r run rest : List ℕ) (u : Option TsUnit) → IsStanding fed given at m r
    → Takes at m r run u new rest → IfSome u (λ x. Gives (fed ++ run) given x)
taken_gives fed given at m new r run rest u s (inl g) =
    let P : Option TsUnit → Type 0 = λ o. IfSome o (λ x. Gives (fed ++ run) given x) in subst P (sym g.none) tt
taken_gives fed given at m new r run rest u s (inr c) = gives_some fed given at m new r run u s c.whole c.does

-- the bytes of a piece before the one that completes a refused packet
pub before_last : (fed : List ℕ) (given : List TsUnit) (at : ℕ) (m : Mux) (r piece : List ℕ) (used : ℕ) → IsStanding fed given at m r → 0 < used
    → length r + used ≤ 188 → IsStanding (fed ++ take (used - 1) piece) given at m (r ++ take (used - 1) piece)
before_last fed given at m r piece used s some within =
    grown fed given at m r (take (used - 1) piece) s (omega (arith, length-append r (take (used - 1) piece), length-take (used - 1) piece))

pub stopped : (fed : List ℕ) (given : List TsUnit) (at : ℕ) (m : Mux) (r piece : List ℕ) (used : ℕ) (e : TsFail) → IsStanding fed given at m r → 0 < used
    → used ≤ length piece → Fails at m r (take used piece) e → Stops (fed ++ piece) (length (fed ++ take (used - 1) piece)) given e
stopped fed given at m r piece used e s some within f =
    let P : ℕ → Type 0 = λ k. step k m (r ++ take used piece) ≡ Err e in
    let first = length-append fed (take (used - 1) piece) in
    let run = length-take-le (used - 1) piece (omega arith) in
    let all = length-take-le used piece within in
    let b = ap length s.bytes ∙ length-append s.whole r in
    let l = length-append s.whole (r ++ take used piece) ∙ ap (λ (k : ℕ). length s.whole + k) (length-append r (take used piece)) in
    record {
      whole = s.whole;
      last = r ++ take used piece;
      rest = drop used piece;
      m = m;
      packets = s.packets;
      size = f.whole;
      bytes = ap (λ (x : List ℕ). fed ++ x) (sym (take-append-drop used piece)) ∙ ap (λ (x : List ℕ). x ++ (take used piece ++ drop used piece)) s.bytes
          ∙ append_assoc s.whole r (take used piece ++ drop used piece)
          ∙ ap (λ (x : List ℕ). s.whole ++ x) (sym (append_assoc r (take used piece) (drop used piece)));
      place = omega arith;
      refused = subst P s.place f.refused;
    }
