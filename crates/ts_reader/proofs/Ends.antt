-- What bytes give at their end, and what stays refused
use Rattle.std.proofs.Common.{◌≡◌, ℕ, inl, inr, List, [], ◌++◌, length, Option, Result, Ok, Err, refl, sym, ap, ◌∙◌, arith, append_assoc, append-nil}
use Rattle.ts_reader.specs.declared.unit.TsUnit.{TsUnit}
use Rattle.ts_reader.specs.declared.fail.TsFail.{TsFail}
use Rattle.ts_reader.specs.Mux.{Mux}
use Rattle.ts_reader.specs.Steps.{closed}
use Rattle.ts_reader.specs.Reads.{EndFails, Ends, Reads, Stops}
use Rattle.ts_reader.specs.Laws.{SameEnd}
use Rattle.ts_reader.proofs.Once.{one_reading, same_packets}

pub stays : (b later : List ℕ) (e : TsFail) (n : ℕ) (us : List TsUnit) → Stops b n us e → Stops (b ++ later) n us e
stays b later e n us st = record {
  whole = st.whole;
  last = st.last;
  rest = st.rest ++ later;
  m = st.m;
  packets = st.packets;
  size = st.size;
  bytes = ap (λ (z : List ℕ). z ++ later) st.bytes ∙ append_assoc st.whole (st.last ++ st.rest) later
      ∙ ap (λ (z : List ℕ). st.whole ++ z) (append_assoc st.last st.rest later);
  place = st.place;
  refused = st.refused;
}

same_unit : (u v : Option TsUnit) (s t : Result (Option TsUnit) TsFail) → s ≡ t → s ≡ Ok u → t ≡ Ok v → u ≡ v
same_unit u v s t e f g = cc

not_both : (u : Option TsUnit) (d : TsFail) (s t : Result (Option TsUnit) TsFail) → s ≡ t → s ≡ Ok u → t ≡ Err d → ⊥
not_both u d s t e f g = absurd (cc)

closed_same : (m n : Mux) → m ≡ n → closed m.pes ≡ closed n.pes
closed_same m n e = ap (λ (k : Mux). closed k.pes) e

pub one_end : (b : List ℕ) (us vs : List TsUnit) (u v : Option TsUnit) → Ends b us u → Ends b vs v → SameEnd us vs u v
one_end b us vs u v x y =
    let s = same_packets x.packets y.packets refl in
    record { units_same = s.0; last_same = same_unit u v (closed x.m.pes) (closed y.m.pes) (closed_same x.m y.m s.1) x.last y.last }

pub not_at_end : (b : List ℕ) (us vs : List TsUnit) (u : Option TsUnit) (e : TsFail) → Ends b us u → EndFails b vs e → ⊥
not_at_end b us vs u e x (inl y) =
    let whole : Reads b us x.m [] = record { whole = b; packets = x.packets; bytes = sym (append-nil b); short = omega arith } in
    let s = one_reading b us vs x.m y.m [] y.r whole y.read in
    let some = y.some in
    omega (arith, ap length s.rest_same)
not_at_end b us vs u e x (inr y) =
    let s = same_packets x.packets y.packets refl in
    not_both u e (closed x.m.pes) (closed y.m.pes) (closed_same x.m y.m s.1) x.last y.last
