-- Bytes read in one way
use Rattle.std.proofs.Common.{◌≡◌, ℕ, suc, ◌+◌, ◌-◌, ◌*◌, ◌<◌, ◌≤◌, inl, inr, List, [], ◌∷◌, ◌++◌, length, take, drop, Option, None, Ok, Err}
use Rattle.std.proofs.Common.{refl, sym, ap, ◌∙◌, subst, arith, append_assoc, append-nil, length-append}
use Rattle.std.specs.Option.{option_to_list}
use Rattle.std.proofs.lemmas.List.{append_cancel_left, length-take, take-append-drop, take-append-le, take_all, take_at}
use Rattle.std.proofs.lemmas.Bool.{cases_lt}
use Rattle.ts_reader.specs.declared.unit.TsUnit.{TsUnit}
use Rattle.ts_reader.specs.declared.fail.TsFail.{TsFail}
use Rattle.ts_reader.specs.Mux.{Mux, start}
use Rattle.ts_reader.specs.Steps.{Step, step}
use Rattle.ts_reader.specs.Reads.{Packets, Reads, Stops}
use Rattle.ts_reader.specs.Reads.Packets.{none, more}
use Rattle.ts_reader.specs.Laws.{ReadsPart, SameReading, SameStop}

-- whole packets are a number of bytes that 188 divides
pub multiple : {b : List ℕ} {us : List TsUnit} {m : Mux} → Packets b us m → (k : ℕ) × (length b ≡ 188 * k)
multiple none = (0, refl)
multiple (more b us m p u new x size d) = let k = multiple x in (k.0 + 1, omega (arith, k.1, length-append b p))

pub same_cut : (c d x y : List ℕ) → length c ≡ length d → c ++ x ≡ d ++ y → (c ≡ d) × (x ≡ y)
same_cut c d x y l e =
    let q : c ≡ d = sym (take_at c x (length c) refl) ∙ ap (take (length c)) e ∙ take_at d y (length c) (sym l) in
    (q, append_cancel_left c x y (e ∙ ap (λ (v : List ℕ). v ++ y) (sym q)))

-- what one packet does at one place
step_same : (b c p q : List ℕ) (m n : Mux) → b ≡ c → m ≡ n → p ≡ q → step (length b) m p ≡ step (length c) n q
step_same b c p q m n e f g = ap (λ (k : ℕ). step k m p) (ap length e) ∙ ap (λ (k : Mux). step (length c) k p) f ∙ ap (step (length c) n) g

ok_same : (a b : Option TsUnit × Mux) (s t : Step) → s ≡ t → s ≡ Ok a → t ≡ Ok b → a ≡ b
ok_same a b s t e f g = cc

err_same : (c d : TsFail) (s t : Step) → s ≡ t → s ≡ Err c → t ≡ Err d → c ≡ d
err_same c d s t e f g = cc

not_both : (a : Option TsUnit × Mux) (e : TsFail) (s t : Step) → s ≡ t → s ≡ Ok a → t ≡ Err e → ⊥
not_both a e s t p f g = absurd (cc)

pub same_packets : {b c : List ℕ} {us vs : List TsUnit} {m n : Mux} → Packets b us m → Packets c vs n → b ≡ c → (us ≡ vs) × (m ≡ n)
same_packets none none e = (refl, refl)
same_packets none (more c vs n q v new y size d) e = absurd (omega (arith, ap length e, length-append c q))
same_packets (more b us m p u new x size d) none e = absurd (omega (arith, ap length e, length-append b p))
same_packets (more b us m p u new x size d) (more c vs n q v old y size2 d2) e =
    let l : length b ≡ length c = omega (arith, ap length e, length-append b p, length-append c q) in
    let cut = same_cut b c p q l e in
    let r = same_packets x y cut.0 in
    let same : (u, new) ≡ (v, old) =
    ok_same (u, new) (v, old) (step (length b) m p) (step (length c) n q) (step_same b c p q m n cut.0 r.1 cut.1) d d2 in (
      ap (λ (z : List TsUnit). z ++ option_to_list u) r.0 ∙ ap (λ (z : Option TsUnit × Mux). vs ++ option_to_list z.0) same,
      ap (λ (z : Option TsUnit × Mux). z.1) same,
    )

pub one_reading : (b : List ℕ) (us vs : List TsUnit) (m n : Mux) (q r : List ℕ) → Reads b us m q → Reads b vs n r → SameReading us vs m n q r
one_reading b us vs m n q r x y =
    let e : x.whole ++ q ≡ y.whole ++ r = sym x.bytes ∙ y.bytes in
    let i = multiple x.packets in
    let j = multiple y.packets in
    let s = x.short in
    let t = y.short in
    let l : length x.whole ≡ length y.whole = omega (arith, i.1, j.1, ap length e, length-append x.whole q, length-append y.whole r) in
    let cut = same_cut x.whole y.whole q r l e in
    let same = same_packets x.packets y.packets cut.0 in
    record { units_same = same.0; mux_same = same.1; rest_same = cut.1 }

-- the first n bytes of whole packets
take_more : (c x : List ℕ) (k : ℕ) → take (length c + k) (c ++ x) ≡ c ++ take k x
take_more [] x k = let e : length {A = ℕ} [] + k ≡ k = omega arith in ap (λ (n : ℕ). take n x) e
take_more (y ∷ c) x k =
    let e : length (y ∷ c) + k ≡ suc (length c + k) = omega arith in
    ap (λ (n : ℕ). take n (y ∷ (c ++ x))) e ∙ ap (λ (t : List ℕ). y ∷ t) (take_more c x k)

take_past : (c x : List ℕ) (n : ℕ) → length c ≤ n → take n (c ++ x) ≡ c ++ take (n - length c) x
take_past c x n h =
    let e : n ≡ length c + (n - length c) = omega arith in
    ap (λ (k : ℕ). take k (c ++ x)) e ∙ take_more c x (n - length c)

begins_none : (n : ℕ) → ReadsPart [] n []
begins_none n = record {
  first = [];
  later = [];
  m = start;
  r = [];
  reads = record { whole = []; packets = none; bytes = take_all n [] (omega arith); short = omega arith };
  begins = refl;
}

begins_within : (b p : List ℕ) (us : List TsUnit) (m : Mux) (u : Option TsUnit) (n : ℕ) → Packets b us m → length b ≤ n → n < length b + 188
    → ReadsPart (b ++ p) n (us ++ option_to_list u)
begins_within b p us m u n x low high = record {
  first = us;
  later = option_to_list u;
  m = m;
  r = take (n - length b) p;
  reads = record { whole = b; packets = x; bytes = take_past b p n low; short = omega (arith, length-take (n - length b) p) };
  begins = refl;
}

begins_all : (b : List ℕ) (us : List TsUnit) (m : Mux) (n : ℕ) → Packets b us m → length b ≤ n → ReadsPart b n us
begins_all b us m n x low = record {
  first = us;
  later = [];
  m = m;
  r = [];
  reads = record { whole = b; packets = x; bytes = take_all n b low ∙ sym (append-nil b); short = omega arith };
  begins = sym (append-nil us);
}

begins_before : (b p : List ℕ) (us : List TsUnit) (u : Option TsUnit) (n : ℕ) → n ≤ length b → ReadsPart b n us → ReadsPart (b ++ p) n (us ++ option_to_list u)
begins_before b p us u n low x =
    let e : take n (b ++ p) ≡ take n b = take-append-le n b p low in
    let P : List ℕ → Type 0 = λ z. Reads z x.first x.m x.r in
    record {
      first = x.first;
      later = x.later ++ option_to_list u;
      m = x.m;
      r = x.r;
      reads = subst P (sym e) x.reads;
      begins = ap (λ (z : List TsUnit). z ++ option_to_list u) x.begins ∙ append_assoc x.first x.later (option_to_list u);
    }

pub packets_part : {b : List ℕ} {us : List TsUnit} {m : Mux} → Packets b us m → (n : ℕ) → ReadsPart b n us
packets_part none n = begins_none n
packets_part (more b us m p u new x size d) n = elim (cases_lt n (length b)) [
  | inl less ↦ begins_before b p us u n (omega arith) (packets_part x n)
  | inr le ↦ elim (cases_lt n (length b + 188)) [
    | inl less ↦ begins_within b p us m u n x le less
    | inr all ↦ begins_all (b ++ p) (us ++ option_to_list u) new n (more b us m p u new x size d) (omega (arith, length-append b p))
  ]
]

pub reads_part : (b : List ℕ) (n : ℕ) (us : List TsUnit) (m : Mux) (r : List ℕ) → Reads b us m r → ReadsPart b n us
reads_part b n us m r x =
    let P : List ℕ → Type 0 = λ z. ReadsPart z n us in
    elim (cases_lt n (length x.whole)) [
      | inl less ↦ subst P (sym x.bytes) (rw (append-nil us) at (begins_before x.whole r us None n (omega arith) (packets_part x.packets n)))
      | inr le ↦ subst P (sym x.bytes)
          (record {
            first = us;
            later = [];
            m = m;
            r = take (n - length x.whole) r;
            reads = record { whole = x.whole; packets = x.packets; bytes = take_past x.whole r n le; short = (let s = x.short in omega (arith, length-take (n - length x.whole) r)) };
            begins = sym (append-nil us);
          })
    ]

-- a packet that is refused isn't read
not_more : {b c : List ℕ} {us vs : List TsUnit} {m n : Mux} (p : List ℕ) (e : TsFail) → Packets b us m → Packets c vs n → c ≡ b ++ p → length p ≡ 188
    → step (length b) m p ≡ Err e → ⊥
not_more {b} p e x none same size d = omega (arith, ap length same, length-append b p)
not_more {b} {c} {us} {vs} {m} p e x (more c1 vs1 n1 q v new y size2 d2) same size d =
    let l : length c1 ≡ length b = omega (arith, ap length same, length-append c1 q, length-append b p) in
    let cut = same_cut c1 b q p l same in
    let r = same_packets y x cut.0 in
    not_both (v, new) e (step (length c1) n1 q) (step (length b) m p) (step_same c1 b q p n1 m cut.0 r.1 cut.1) d2 d

pub refused_not_read : (b later : List ℕ) (e : TsFail) (n : ℕ) (us vs : List TsUnit) (m : Mux) (r : List ℕ) → Stops b n us e
    → Reads (take (n + 1) b ++ later) vs m r → ⊥
refused_not_read b later e n us vs m r st x =
    let front : take (n + 1) b ≡ st.whole ++ st.last =
    ap (take (n + 1)) (st.bytes ∙ sym (append_assoc st.whole st.last st.rest)) ∙ take_at (st.whole ++ st.last) st.rest (n + 1) (sym st.place) in
    let part = reads_part (take (n + 1) b ++ later) (n + 1) vs m r x in
    let cut : take (n + 1) (take (n + 1) b ++ later) ≡ st.whole ++ st.last =
    ap (λ (z : List ℕ). take (n + 1) (z ++ later)) front ∙ take_at (st.whole ++ st.last) later (n + 1) (sym st.place) in
    let read = part.reads in
    let i = multiple st.packets in
    let j = multiple read.packets in
    let size = st.size in
    let short = read.short in
    let same : st.whole ++ st.last ≡ read.whole ++ part.r = sym cut ∙ read.bytes in
    let l : length read.whole ≡ length (st.whole ++ st.last) =
    omega (arith, i.1, j.1, ap length same, length-append st.whole st.last, length-append read.whole part.r) in
    let whole = same_cut read.whole (st.whole ++ st.last) part.r [] l (sym same ∙ sym (append-nil (st.whole ++ st.last))) in
    not_more st.last e st.packets read.packets whole.0 st.size st.refused

-- what stands before a refusal reads
before : (b : List ℕ) (n : ℕ) (us : List TsUnit) (e : TsFail) (st : Stops b n us e) → Reads (take n b) us st.m (take (n - length st.whole) st.last)
before b n us e st =
    let size = st.size in
    let place = st.place in
    let l = length-append st.whole st.last in
    let front : take n b ≡ st.whole ++ take (n - length st.whole) st.last =
    ap (take n) (st.bytes ∙ sym (append_assoc st.whole st.last st.rest)) ∙ take-append-le n (st.whole ++ st.last) st.rest (omega arith)
    ∙ take_past st.whole st.last n (omega arith) in
    record { whole = st.whole; packets = st.packets; bytes = front; short = omega (arith, length-take (n - length st.whole) st.last) }

not_earlier : (b : List ℕ) (c d : TsFail) (m n : ℕ) (us vs : List TsUnit) → Stops b m us c → Stops b n vs d → m < n → ⊥
not_earlier b c d m n us vs x y lt =
    let place = y.place in
    let there : n ≤ length b = omega (arith, ap length (y.bytes ∙ sym (append_assoc y.whole y.last y.rest)), length-append (y.whole ++ y.last) y.rest) in
    let front : take (m + 1) (take n b) ≡ take (m + 1) b =
    sym (take-append-le (m + 1) (take n b) (drop n b) (omega (arith, length-take n b))) ∙ ap (take (m + 1)) (take-append-drop n b) in
    let e : take n b ≡ take (m + 1) b ++ drop (m + 1) (take n b) =
    sym (take-append-drop (m + 1) (take n b)) ∙ ap (λ (z : List ℕ). z ++ drop (m + 1) (take n b)) front in
    let P : List ℕ → Type 0 = λ z. Reads z vs y.m (take (n - length y.whole) y.last) in
    refused_not_read b (drop (m + 1) (take n b)) c m us vs y.m (take (n - length y.whole) y.last) x (subst P e (before b n vs d y))

at_one_place : (b : List ℕ) (c d : TsFail) (n : ℕ) (us vs : List TsUnit) → Stops b n us c → Stops b n vs d → SameStop c d n n us vs
at_one_place b c d n us vs x y =
    let whole : (x.whole ++ x.last) ++ x.rest ≡ (y.whole ++ y.last) ++ y.rest =
    append_assoc x.whole x.last x.rest ∙ sym x.bytes ∙ y.bytes ∙ sym (append_assoc y.whole y.last y.rest) in
    let fronts = same_cut (x.whole ++ x.last) (y.whole ++ y.last) x.rest y.rest (sym x.place ∙ y.place) whole in
    let sx = x.size in
    let sy = y.size in
    let l : length x.whole ≡ length y.whole =
    omega (arith, ap length fronts.0, length-append x.whole x.last, length-append y.whole y.last) in
    let cut = same_cut x.whole y.whole x.last y.last l fronts.0 in
    let same = same_packets x.packets y.packets cut.0 in
    let s = step_same x.whole y.whole x.last y.last x.m y.m cut.0 same.1 cut.1 in
    record {
      fail_same = err_same c d (step (length x.whole) x.m x.last) (step (length y.whole) y.m y.last) s x.refused y.refused;
      place_same = refl;
      units_same = same.0;
    }

pub one_stop : (b : List ℕ) (c d : TsFail) (m n : ℕ) (us vs : List TsUnit) → Stops b m us c → Stops b n vs d → SameStop c d m n us vs
one_stop b c d m n us vs x y = elim (cases_lt m n) [
  | inl lt ↦ absurd (not_earlier b c d m n us vs x y lt)
  | inr le ↦ elim (cases_lt n m) [
    | inl lt ↦ absurd (not_earlier b d c n m vs us y x lt)
    | inr ge ↦ (
        let e : n ≡ m = omega (arith, le, ge) in
        let S : ℕ → Type 0 = λ k. Stops b k vs d in
        let T : ℕ → Type 0 = λ k. SameStop c d m k us vs in
        subst T (sym e) (at_one_place b c d m us vs x (subst S e y)))
  ]
]
