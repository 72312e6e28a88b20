-- A configuration record, as its bytes stand
use Rattle.std.proofs.Common.{◌≡◌, ◌≢◌, ℕ, zero, suc, ◌+◌, ◌%◌, ◌<◌, ◌≤◌, Bool, true, false, List, [], ◌∷◌, ◌++◌, length, drop, slice_index, Result, Ok, Err, IfOk, refl, sym, ap, ◌∙◌, subst, inl, inr, arith, append_assoc}
use Rattle.std.specs.Prelude.{if◌then◌else◌, ◌==◌, not, nat_lt}
use Rattle.std.specs.Int.{bytes_high_first}
use Rattle.std.proofs.lemmas.List.{drop_at}
use Rattle.std.proofs.lemmas.Bool.Decides.{nat_tests}
use Rattle.avc_annexb.specs.declared.fail.AvcFail.{AvcFail}
use Rattle.avc_annexb.specs.declared.fail.AvcFail.TheVariants.{Short}
use Rattle.avc_annexb.specs.Nal.{AreNals, Gives}
use Rattle.avc_annexb.specs.Prefixed.{IsSize, Front, AllShort, prefixed, front_of}
use Rattle.avc_annexb.specs.Record.{Config, IsConfig, IsRecord, Sets, with_sets, then_sets, sets_in, pps_in, with_pps, with_sps, then_sets_of, size_of, size_read, record_of}
use Rattle.avc_annexb.proofs.Units.{first, stands}
use Rattle.avc_annexb.proofs.Prefixes.{front_back, rest_small, split}
use Rattle.avc_annexb.proofs.Sets.{one_more, no_more, whole}

abbrev AreBytes : List ℕ → Type 0
AreBytes b = (i : ℕ) → slice_index b i < 256

two : IsSize 2
two = inr (inl refl)

-- ---- parameter sets

-- so many sets, and what is behind them
record AreSets (count : ℕ) (units : List (List ℕ)) (b rest : List ℕ) : Type 0 where
  many : length units ≡ count
  nals : AreNals units
  short : AllShort 2 units
  bytes : b ≡ prefixed 2 units ++ rest

-- the first of them
record IsMore (f : Front) (next : List ℕ → Sets) (units : List (List ℕ)) (rest : List ℕ) : Type 0 where
  unit : List ℕ
  behind : List ℕ
  later : List (List ℕ)
  found : f ≡ Ok (unit, behind)
  others : next behind ≡ Ok (later, rest)
  units_are : units ≡ unit ∷ later

ok_same : (p q : List (List ℕ) × List ℕ) → ◌≡◌ {A = Sets} (Ok p) (Ok q) → p ≡ q
ok_same p q e = cc

with_found : (u : List ℕ) (r : Sets) (units : List (List ℕ)) (rest : List ℕ) → with_sets (u ∷ []) r ≡ Ok (units, rest) → (later : List (List ℕ)) × (r ≡ Ok (later, rest)) × (units ≡ u ∷ later)
with_found u (Ok p) units rest e =
    let h = ok_same (u ∷ p.0, p.1) (units, rest) e in
    let l : p.1 ≡ rest = ap (λ (x : List (List ℕ) × List ℕ). x.1) h in
    (p.0, ap (λ (t : List ℕ). Ok (p.0, t)) l, sym (ap (λ (x : List (List ℕ) × List ℕ). x.0) h))
with_found u (Err f) units rest e = absurd (cc)

more_found : (f : Front) (next : List ℕ → Sets) (units : List (List ℕ)) (rest : List ℕ) → then_sets f next ≡ Ok (units, rest) → IsMore f next units rest
more_found (Ok p) next units rest e =
    let h = with_found p.0 (next p.1) units rest e in
    record { unit = p.0; behind = p.1; later = h.0; found = refl; others = h.1; units_are = h.2 }
more_found (Err f) next units rest e = absurd (cc)

none_found : (b rest : List ℕ) (units : List (List ℕ)) → ◌≡◌ {A = Sets} (Ok ([], b)) (Ok (units, rest)) → AreSets 0 units b rest
none_found b rest [] e = record { many = refl; nals = tt; short = tt; bytes = ap (λ (x : List (List ℕ) × List ℕ). x.1) (ok_same ([], b) ([], rest) e) }
none_found b rest (u ∷ units) e = absurd (let h : [] ≡ u ∷ units = ap (λ (x : List (List ℕ) × List ℕ). x.0) (ok_same ([], b) (u ∷ units, rest) e) in cc)

behind_sets : (u : List ℕ) (units : List (List ℕ)) (rest : List ℕ) → bytes_high_first 2 (length u) ++ (u ++ (prefixed 2 units ++ rest)) ≡ prefixed 2 (u ∷ units) ++ rest
behind_sets u units rest =
    ap (λ (t : List ℕ). bytes_high_first 2 (length u) ++ t) (sym (append_assoc u (prefixed 2 units) rest))
    ∙ sym (append_assoc (bytes_high_first 2 (length u)) (u ++ prefixed 2 units) rest)

sets_found : (count total nal : ℕ) (b rest : List ℕ) (units : List (List ℕ)) → AreBytes b → sets_in count total nal b ≡ Ok (units, rest) → AreSets count units b rest
unfolding sets_in
sets_found zero total nal b rest units small e = none_found b rest units e
sets_found (suc count) total nal b rest units small e =
    let m = more_found (front_of (Short total) nal 2 b) (λ behind. sets_in count total (nal + 1) behind) units rest e in
    let one = first (Short total) nal 2 b m.unit m.behind m.found in
    let s = split 2 b m.unit m.behind two small one.found in
    let r = stands 2 b m.unit m.behind one.found in
    let more = sets_found count total (nal + 1) m.behind rest m.later (rest_small _ b m.behind r.rest_is small) m.others in
    rw m.units_are (record {
      many = ap suc more.many;
      nals = (one.nal, more.nals);
      short = (s.short, more.short);
      bytes = s.bytes ∙ (ap (λ (t : List ℕ). bytes_high_first 2 (length m.unit) ++ (m.unit ++ t)) more.bytes ∙ behind_sets m.unit m.later rest);
    })

sets_back : (total nal : ℕ) (units : List (List ℕ)) (rest : List ℕ) → AreNals units → AllShort 2 units → sets_in (length units) total nal (prefixed 2 units ++ rest) ≡ Ok (units, rest)
sets_back total nal [] rest nals short = no_more total nal rest
sets_back total nal (u ∷ units) rest nals short =
    let left : List ℕ = bytes_high_first 2 (length u) ++ (u ++ (prefixed 2 units ++ rest)) in
    let one = one_more (length units) total nal left u (prefixed 2 units ++ rest) (front_back (Short total) nal 2 u (prefixed 2 units ++ rest) two nals.0 short.0) in
    ap (λ (t : List ℕ). sets_in (suc (length units)) total nal t) (sym (behind_sets u units rest))
    ∙ (one ∙ ap (with_sets (u ∷ [])) (sets_back total (nal + 1) units rest nals.1 short.1))

-- ---- the length size

unless_err : (t : Bool) (e : AvcFail) (r : Result ℕ AvcFail) (size : ℕ) → (if t then Err e else r) ≡ Ok size → (t ≡ false) × (r ≡ Ok size)
unless_err true e r size is = absurd (cc)
unless_err false e r size is = (refl, is)

size_among : (n : ℕ) → n < 4 → n + 1 ≢ 3 → IsSize (n + 1)
size_among zero l ne = inl refl
size_among (suc zero) l ne = inr (inl refl)
size_among (suc (suc zero)) l ne = absurd (ne refl)
size_among (suc (suc (suc zero))) l ne = inr (inr refl)
size_among (suc (suc (suc (suc n)))) l ne = absurd (omega arith)

not_three : (size : ℕ) → IsSize size → size ≢ 3
not_three size fits e = elim fits [ inl f ↦ omega arith | inr g ↦ elim g [ inl f ↦ omega arith | inr f ↦ omega arith ] ]

record HasSize (b : List ℕ) (size : ℕ) : Type 0 where
  version : slice_index b 0 ≡ 1
  size_is : size ≡ size_of b
  fits : IsSize size
  whole : 6 ≤ length b

size_found : (b : List ℕ) (size : ℕ) → size_read b ≡ Ok size → HasSize b size
unfolding size_read
size_found b size e =
    let h0 = unless_err (not (slice_index b 0 == 1)) (Short 0) _ size e in
    let h1 = unless_err (nat_lt (length b) 5) (Short (length b)) _ size h0.1 in
    let h2 = unless_err (size_of b == 3) _ _ size h1.1 in
    let h3 = unless_err (nat_lt (length b) 6) (Short (length b)) (Ok (size_of b)) size h2.1 in
    let t0 = h0.0 in
    let t2 = h2.0 in
    let t3 = h3.0 in
    let is : size ≡ size_of b = let k = h3.1 in cc in
    let ne : size_of b ≢ 3 = λ three. let k : (size_of b == 3) ≡ true = grind (arith, nat_tests) in cc in
    record {
      version = grind (arith, nat_tests, t0);
      size_is = is;
      fits = subst (λ (n : ℕ). IsSize n) (sym is) (size_among (slice_index b 4 % 4) (omega arith) ne);
      whole = grind (arith, nat_tests, t3);
    }

size_back : (b : List ℕ) (size : ℕ) → HasSize b size → size_read b ≡ Ok size
unfolding size_read
size_back b size h =
    let version = h.version in
    let long = h.whole in
    let ne : size_of b ≢ 3 = subst (λ (n : ℕ). n ≢ 3) h.size_is (not_three size h.fits) in
    let t0 : not (slice_index b 0 == 1) ≡ false = grind (arith, nat_tests) in
    let t1 : nat_lt (length b) 5 ≡ false = grind (arith, nat_tests) in
    let t2 : (size_of b == 3) ≡ false = grind (arith, nat_tests) in
    let t3 : nat_lt (length b) 6 ≡ false = grind (arith, nat_tests) in
    rw (t0, t1, t2, t3) (ap Ok (sym h.size_is))

-- ---- the record

-- what is read, step by step
record IsRead (b : List ℕ) (c : Config) : Type 0 where
  size : size_read b ≡ Ok c.size
  behind : List ℕ
  sps : sets_in (slice_index b 5 % 32) (length b) 0 (drop 6 b) ≡ Ok (c.sps, behind)
  last : List ℕ
  rest : List ℕ
  many : ℕ
  behind_is : behind ≡ many ∷ last
  pps : sets_in many (length b) (length c.sps) last ≡ Ok (c.pps, rest)

pps_found : (b behind : List ℕ) (c : Config) (p : List (List ℕ) × List ℕ) → size_read b ≡ Ok c.size → sets_in (slice_index b 5 % 32) (length b) 0 (drop 6 b) ≡ Ok (c.sps, behind)
    → pps_in (length b) (length c.sps) behind ≡ Ok p → c.pps ≡ p.0 → IsRead b c
pps_found b [] c p size sps e is = absurd (cc)
pps_found b (many ∷ last) c p size sps e is =
    record { size = size; behind = many ∷ last; sps = sps; last = last; rest = p.1; many = many; behind_is = refl; pps = e ∙ ap (λ (t : List (List ℕ)). Ok (t, p.1)) (sym is) }

pps_read : (b behind : List ℕ) (c : Config) (size : ℕ) (sps : List (List ℕ)) (r : Sets) → r ≡ pps_in (length b) (length sps) behind → size_read b ≡ Ok size
    → sets_in (slice_index b 5 % 32) (length b) 0 (drop 6 b) ≡ Ok (sps, behind) → with_pps size sps r ≡ Ok c → IsRead b c
pps_read b behind c size sps (Err f) r s is e = absurd (cc)
pps_read b behind c size sps (Ok p) r s is e =
    let h : record { size = size; sps = sps; pps = p.0 } ≡ c = cc in
    subst (λ (x : Config). IsRead b x) h (pps_found b behind (record { size = size; sps = sps; pps = p.0 }) p s is (sym r) refl)

sps_read : (b : List ℕ) (c : Config) (size : ℕ) (r : Sets) → r ≡ sets_in (slice_index b 5 % 32) (length b) 0 (drop 6 b) → size_read b ≡ Ok size → with_sps size (length b) r ≡ Ok c → IsRead b c
sps_read b c size (Err f) r s e = absurd (cc)
sps_read b c size (Ok p) r s e = pps_read b p.1 c size p.0 (pps_in (length b) (length p.0) p.1) refl s (sym r) e

size_then : (b : List ℕ) (c : Config) (r : Result ℕ AvcFail) → size_read b ≡ r → then_sets_of b r ≡ Ok c → IsRead b c
size_then b c (Err f) s e = absurd (cc)
size_then b c (Ok size) s e = sps_read b c size (sets_in (slice_index b 5 % 32) (length b) 0 (drop 6 b)) refl s e

read_of : (b : List ℕ) (c : Config) → record_of b ≡ Ok c → IsRead b c
unfolding record_of
read_of b c e = size_then b c (size_read b) refl e

six : (b : List ℕ) (c : Config) (behind rest : List ℕ) → HasSize b c.size → AreSets (slice_index b 5 % 32) c.sps (drop 6 b) (length c.pps ∷ behind) → AreNals c.pps → AllShort 2 c.pps
    → behind ≡ prefixed 2 c.pps ++ rest → IsRecord c b
six [] c behind rest h s nals short is = let w = h.whole in absurd (omega arith)
six (_ ∷ []) c behind rest h s nals short is = let w = h.whole in absurd (omega arith)
six (_ ∷ _ ∷ []) c behind rest h s nals short is = let w = h.whole in absurd (omega arith)
six (_ ∷ _ ∷ _ ∷ []) c behind rest h s nals short is = let w = h.whole in absurd (omega arith)
six (_ ∷ _ ∷ _ ∷ _ ∷ []) c behind rest h s nals short is = let w = h.whole in absurd (omega arith)
six (_ ∷ _ ∷ _ ∷ _ ∷ _ ∷ []) c behind rest h s nals short is = let w = h.whole in absurd (omega arith)
six (version ∷ profile ∷ compatibility ∷ level ∷ lengths ∷ count ∷ sets) c behind rest h s nals short is =
    let front : version ∷ profile ∷ compatibility ∷ level ∷ lengths ∷ count ∷ sets ≡ 1 ∷ profile ∷ compatibility ∷ level ∷ lengths ∷ count ∷ sets =
    ap (λ (n : ℕ). n ∷ profile ∷ compatibility ∷ level ∷ lengths ∷ count ∷ sets) h.version in
    let all : sets ≡ prefixed 2 c.sps ++ (length c.pps ∷ (prefixed 2 c.pps ++ rest)) = s.bytes ∙ ap (λ (t : List ℕ). prefixed 2 c.sps ++ (length c.pps ∷ t)) is in
    record {
      profile = profile;
      compatibility = compatibility;
      level = level;
      lengths = lengths;
      count = count;
      rest = rest;
      bytes = front ∙ ap (λ (t : List ℕ). 1 ∷ profile ∷ compatibility ∷ level ∷ lengths ∷ count ∷ t) all;
      size_is = h.size_is;
      many = s.many;
      config = record { size = h.fits; sps = s.nals; pps = nals };
      short = (s.short, short);
    }

-- what is read stands in the bytes
pub record_found : (b : List ℕ) (c : Config) → AreBytes b → record_of b ≡ Ok c → IsRecord c b
record_found b c small e =
    let r = read_of b c e in
    let h = size_found b c.size r.size in
    let from_six : AreBytes (drop 6 b) = rest_small 6 b (drop 6 b) refl small in
    let s = sets_found (slice_index b 5 % 32) (length b) 0 (drop 6 b) r.behind c.sps from_six r.sps in
    let behind_at : r.behind ≡ drop (length (prefixed 2 c.sps)) (drop 6 b) =
    sym (drop_at (prefixed 2 c.sps) r.behind (length (prefixed 2 c.sps)) refl) ∙ ap (λ (t : List ℕ). drop (length (prefixed 2 c.sps)) t) (sym s.bytes) in
    let from_behind : AreBytes r.behind = rest_small (length (prefixed 2 c.sps)) (drop 6 b) r.behind behind_at from_six in
    let last_at : r.last ≡ drop 1 r.behind = ap (λ (t : List ℕ). drop 1 t) (sym r.behind_is) in
    let p = sets_found r.many (length b) (length c.sps) r.last r.rest c.pps (rest_small 1 r.behind r.last last_at from_behind) r.pps in
    let behind : r.behind ≡ length c.pps ∷ r.last = r.behind_is ∙ ap (λ (n : ℕ). n ∷ r.last) (sym p.many) in
    six b c r.last r.rest h (subst (λ (t : List ℕ). AreSets (slice_index b 5 % 32) c.sps (drop 6 b) t) behind s) p.nals p.short p.bytes

-- and what stands there is read
back_of : (c : Config) (b : List ℕ) (r : IsRecord c b) (full : List ℕ) → full ≡ 1 ∷ r.profile ∷ r.compatibility ∷ r.level ∷ r.lengths ∷ r.count ∷ (prefixed 2 c.sps ++ (length c.pps ∷ (prefixed 2 c.pps ++ r.rest)))
    → record_of full ≡ Ok c
back_of c b r full is =
    let last : List ℕ = prefixed 2 c.pps ++ r.rest in
    let behind : List ℕ = prefixed 2 c.sps ++ (length c.pps ∷ last) in
    let text : List ℕ = 1 ∷ r.profile ∷ r.compatibility ∷ r.level ∷ r.lengths ∷ r.count ∷ behind in
    let size : size_read text ≡ Ok c.size = size_back text c.size (record { version = refl; size_is = r.size_is; fits = r.config.size; whole = omega arith }) in
    let sps : sets_in (r.count % 32) (length text) 0 behind ≡ Ok (c.sps, length c.pps ∷ last) =
    ap (λ (n : ℕ). sets_in n (length text) 0 behind) (sym r.many) ∙ sets_back (length text) 0 c.sps (length c.pps ∷ last) r.config.sps r.short.0 in
    let pps = sets_back (length text) (length c.sps) c.pps r.rest r.config.pps r.short.1 in
    ap record_of is ∙ whole text behind (length c.pps ∷ last) last r.rest c.size (r.count % 32) c.sps c.pps size refl refl sps (omega arith) refl pps

pub record_back : (b : List ℕ) (c : Config) → IsRecord c b → record_of b ≡ Ok c
record_back b c r = back_of c b r b r.bytes

-- ---- what is answered

pub gives_found : (r : Result Config AvcFail) (b : List ℕ) → AreBytes b → Gives r (record_of b) → IfOk r (λ c. IsRecord c b)
gives_found (Ok c) b small g = record_found b c small g
gives_found (Err e) b small g = tt

pub gives_only : (r : Result Config AvcFail) (b : List ℕ) (c : Config) → Gives r (record_of b) → IsRecord c b → Gives r (Ok c)
gives_only r b c g is = subst (λ (x : Result Config AvcFail). Gives r x) (record_back b c is) g
