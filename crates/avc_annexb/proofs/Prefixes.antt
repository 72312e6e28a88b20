-- Units with their lengths before them are read as they stand
use Rattle.std.proofs.Common.{◌≡◌, ℕ, zero, suc, ◌+◌, ◌*◌, ◌-◌, ◌<◌, ◌≤◌, ◌^◌, ◌/◌, ◌%◌, true, List, [], ◌∷◌, ◌++◌, length, take, drop, slice_index, Some, Ok, Err, refl, sym, ap, ◌∙◌, subst, inl, inr, arith, append_assoc, length-append, length-drop, length-take}
use Rattle.std.specs.Prelude.{nat_le}
use Rattle.std.specs.Int.{bytes_high_first}
use Rattle.std.proofs.lemmas.List.{get_or-drop, take_at, drop_at, take-append-drop, drop-drop}
use Rattle.std.proofs.lemmas.Bool.{le-leb}
use Rattle.relay_base.specs.Numbers.{be16_of, be32_of}
use Rattle.relay_base.proofs.ReadBack.{be16_of-bytes, be32_of-bytes}
use Rattle.avc_annexb.specs.declared.fail.AvcFail.{AvcFail}
use Rattle.avc_annexb.specs.declared.fail.AvcFail.TheVariants.{PastEnd}
use Rattle.avc_annexb.specs.Nal.{IsNal, AreNals}
use Rattle.avc_annexb.specs.Prefixed.{IsSize, Front, Units, Nals, AllShort, prefixed, length_at, unit_at, front_of, before, then_units, units_in, nals_of}
use Rattle.avc_annexb.proofs.Units.{first, stands, shorter, none_verdict}

-- a length is read of its bytes
length_1 : (n : ℕ) (more : List ℕ) → n < 256 ^ 1 → length_at 1 (bytes_high_first 1 n ++ more) ≡ n
unfolding length_at
length_1 n more h = let e : n % 256 ≡ n = omega arith in e

length_2 : (n : ℕ) (more : List ℕ) → n < 256 ^ 2 → length_at 2 (bytes_high_first 2 n ++ more) ≡ n
unfolding length_at
length_2 n more h = be16_of-bytes n more h

length_4 : (n : ℕ) (more : List ℕ) → n < 256 ^ 4 → length_at 4 (bytes_high_first 4 n ++ more) ≡ n
unfolding length_at
length_4 n more h = be32_of-bytes n more h

pub record HasLength (size n : ℕ) (more : List ℕ) : Type 0 where
  pub read : length_at size (bytes_high_first size n ++ more) ≡ n
  pub bytes : length (bytes_high_first size n) ≡ size

has_length : (size n : ℕ) (more : List ℕ) → IsSize size → n < 256 ^ size → HasLength size n more
has_length size n more fits h =
    elim fits [
      | inl e ↦ subst (λ (s : ℕ). HasLength s n more) (sym e) (record { read = length_1 n more (subst (λ (s : ℕ). n < 256 ^ s) e h); bytes = refl })
      | inr f ↦ elim f [
        | inl e ↦ subst (λ (s : ℕ). HasLength s n more) (sym e) (record { read = length_2 n more (subst (λ (s : ℕ). n < 256 ^ s) e h); bytes = refl })
        | inr e ↦ subst (λ (s : ℕ). HasLength s n more) (sym e) (record { read = length_4 n more (subst (λ (s : ℕ). n < 256 ^ s) e h); bytes = refl })
      ]
    ]

-- a unit behind its length is read
unit_back : (size : ℕ) (u more : List ℕ) → IsSize size → length u < 256 ^ size → unit_at size (bytes_high_first size (length u) ++ (u ++ more)) ≡ Some (u, more)
unfolding unit_at
unit_back size u more fits h =
    let l = has_length size (length u) (u ++ more) fits h in
    let front = bytes_high_first size (length u) in
    let all : length (front ++ (u ++ more)) ≡ size + (length u + length more) = length-append front (u ++ more) ∙ omega (arith, l.bytes, length-append u more) in
    let t : nat_le (size + length u) (length (front ++ (u ++ more))) ≡ true = le-leb (size + length u) (length (front ++ (u ++ more))) (omega arith) in
    let d : drop size (front ++ (u ++ more)) ≡ u ++ more = drop_at front (u ++ more) size l.bytes in
    let r : drop (size + length u) (front ++ (u ++ more)) ≡ more =
    ap (drop (size + length u)) (sym (append_assoc front u more)) ∙ drop_at (front ++ u) more (size + length u) (length-append front u ∙ omega (arith, l.bytes)) in
    rw (l.read, t, d, r, take_at u more (length u) refl) refl

pub front_back : (missing : AvcFail) (nal size : ℕ) (u more : List ℕ) → IsSize size → IsNal u → length u < 256 ^ size
    → front_of missing nal size (bytes_high_first size (length u) ++ (u ++ more)) ≡ Ok (u, more)
unfolding front_of
front_back missing nal size u more fits one h = rw (unit_back size u more fits h, none_verdict nal u one) refl

-- bytes of a size aren't none
some_bytes : (f size total nal : ℕ) (b u rest : List ℕ) (r : Units) → length b ≤ f → 0 < length b → front_of (PastEnd (total - length b)) nal size b ≡ Ok (u, rest)
    → ((m : ℕ) → f ≡ suc m → units_in m size total (nal + 1) rest ≡ r) → units_in f size total nal b ≡ before (u ∷ []) r
unfolding units_in
some_bytes zero size total nal b u rest r few some e next = absurd (omega arith)
some_bytes (suc f) size total nal [] u rest r few some e next = absurd (omega arith)
some_bytes (suc f) size total nal (x ∷ xs) u rest r few some e next = rw (e, next f refl) refl

again_in : (f size total nal : ℕ) (units : List (List ℕ)) → IsSize size → AreNals units → AllShort size units → length (prefixed size units) ≤ f
    → units_in f size total nal (prefixed size units) ≡ Ok units
unfolding units_in
again_in zero size total nal [] fits all short few = refl
again_in (suc f) size total nal [] fits all short few = refl
again_in f size total nal (u ∷ units) fits all short few =
    let l = has_length size (length u) (u ++ prefixed size units) fits short.0 in
    let n : length (prefixed size (u ∷ units)) ≡ size + (length u + length (prefixed size units)) =
    length-append (bytes_high_first size (length u)) (u ++ prefixed size units) ∙ omega (arith, l.bytes, length-append u (prefixed size units)) in
    let some = all.0.some in
    some_bytes f size total nal (prefixed size (u ∷ units)) u (prefixed size units) (Ok units) few (omega arith)
    (front_back (PastEnd (total - length (prefixed size (u ∷ units)))) nal size u (prefixed size units) fits all.0 short.0)
    (λ m e. again_in m size total (nal + 1) units fits all.1 short.1 (omega arith))

pub again : (size : ℕ) (units : List (List ℕ)) (b : List ℕ) → IsSize size → Nals size units b → nals_of size b ≡ Ok units
unfolding nals_of
again size units b fits h =
    rw h.bytes (again_in (length (prefixed size units)) size (length (prefixed size units)) 0 units fits h.nals h.short (omega arith))

back_1 : (b : List ℕ) → ((i : ℕ) → slice_index b i < 256) → 1 ≤ length b → bytes_high_first 1 (length_at 1 b) ≡ take 1 b
unfolding length_at
back_1 [] small some = absurd (omega arith)
back_1 (x ∷ xs) small some =
    let h0 = small 0 in
    let e : x % 256 ≡ x = omega arith in
    rw e refl

back_2 : (b : List ℕ) → ((i : ℕ) → slice_index b i < 256) → 2 ≤ length b → bytes_high_first 2 (length_at 2 b) ≡ take 2 b
unfolding length_at be16_of
back_2 [] small some = absurd (omega arith)
back_2 (x ∷ []) small some = absurd (omega arith)
back_2 (x ∷ y ∷ rest) small some =
    let h0 = small 0 in
    let h1 = small 1 in
    let e1 : (x * 256 + y) / 256 % 256 ≡ x = omega arith in
    let e0 : (x * 256 + y) % 256 ≡ y = omega arith in
    rw (e1, e0) refl

back_4 : (b : List ℕ) → ((i : ℕ) → slice_index b i < 256) → 4 ≤ length b → bytes_high_first 4 (length_at 4 b) ≡ take 4 b
unfolding length_at be32_of
back_4 [] small some = absurd (omega arith)
back_4 (x ∷ []) small some = absurd (omega arith)
back_4 (x ∷ y ∷ []) small some = absurd (omega arith)
back_4 (x ∷ y ∷ z ∷ []) small some = absurd (omega arith)
back_4 (x ∷ y ∷ z ∷ w ∷ rest) small some =
    let h0 = small 0 in
    let h1 = small 1 in
    let h2 = small 2 in
    let h3 = small 3 in
    let e3 : (x * 16777216 + y * 65536 + z * 256 + w) / 16777216 % 256 ≡ x = omega arith in
    let e2 : (x * 16777216 + y * 65536 + z * 256 + w) / 65536 % 256 ≡ y = omega arith in
    let e1 : (x * 16777216 + y * 65536 + z * 256 + w) / 256 % 256 ≡ z = omega arith in
    let e0 : (x * 16777216 + y * 65536 + z * 256 + w) % 256 ≡ w = omega arith in
    rw (e3, e2, e1, e0) refl

-- a length has no more bits than its bytes
below_1 : (b : List ℕ) → ((i : ℕ) → slice_index b i < 256) → length_at 1 b < 256 ^ 1
unfolding length_at
below_1 b small = let h0 = small 0 in omega arith

below_2 : (b : List ℕ) → ((i : ℕ) → slice_index b i < 256) → length_at 2 b < 256 ^ 2
unfolding length_at be16_of
below_2 b small =
    let h0 = small 0 in
    let h1 = small 1 in
    omega arith

below_4 : (b : List ℕ) → ((i : ℕ) → slice_index b i < 256) → length_at 4 b < 256 ^ 4
unfolding length_at be32_of
below_4 b small =
    let h0 = small 0 in
    let h1 = small 1 in
    let h2 = small 2 in
    let h3 = small 3 in
    omega arith

below : (size : ℕ) (b : List ℕ) → IsSize size → ((i : ℕ) → slice_index b i < 256) → length_at size b < 256 ^ size
below size b fits small =
    elim fits [
      | inl e ↦ subst (λ (s : ℕ). length_at s b < 256 ^ s) (sym e) (below_1 b small)
      | inr f ↦ elim f [
        | inl e ↦ subst (λ (s : ℕ). length_at s b < 256 ^ s) (sym e) (below_2 b small)
        | inr e ↦ subst (λ (s : ℕ). length_at s b < 256 ^ s) (sym e) (below_4 b small)
      ]
    ]

pub rest_small : (n : ℕ) (b rest : List ℕ) → rest ≡ drop n b → ((i : ℕ) → slice_index b i < 256) → (i : ℕ) → slice_index rest i < 256
rest_small n b rest e small i = rw (e, get_or-drop n b i 0) (small (n + i))

none_read : (size : ℕ) (units : List (List ℕ)) → [] ≡ units → Nals size units []
none_read size [] e = record { bytes = refl; nals = tt; short = tt }
none_read size (u ∷ units) e = absurd (cc)

before_found : (u : List ℕ) (r : Units) (units : List (List ℕ)) → before (u ∷ []) r ≡ Ok units → (more : List (List ℕ)) × (r ≡ Ok more) × (units ≡ u ∷ more)
before_found u (Ok more) units e = (more, refl, cc)
before_found u (Err f) units e = absurd (cc)

-- the bytes of a length are those at the front
bytes_back : (size : ℕ) (b : List ℕ) → IsSize size → ((i : ℕ) → slice_index b i < 256) → size ≤ length b → bytes_high_first size (length_at size b) ≡ take size b
bytes_back size b fits small some =
    elim fits [
      | inl e ↦ subst (λ (s : ℕ). bytes_high_first s (length_at s b) ≡ take s b) (sym e) (back_1 b small (omega arith))
      | inr f ↦ elim f [
        | inl e ↦ subst (λ (s : ℕ). bytes_high_first s (length_at s b) ≡ take s b) (sym e) (back_2 b small (omega arith))
        | inr e ↦ subst (λ (s : ℕ). bytes_high_first s (length_at s b) ≡ take s b) (sym e) (back_4 b small (omega arith))
      ]
    ]

-- so the bytes are the length, the unit and what is behind it
pub record IsSplit (size : ℕ) (b u rest : List ℕ) : Type 0 where
  pub bytes : b ≡ bytes_high_first size (length u) ++ (u ++ rest)
  pub short : length u < 256 ^ size

pub split : (size : ℕ) (b u rest : List ℕ) → IsSize size → ((i : ℕ) → slice_index b i < 256) → unit_at size b ≡ Some (u, rest) → IsSplit size b u rest
split size b u rest fits small e =
    let s = stands size b u rest e in
    let n : ℕ = length_at size b in
    let l : length u ≡ n = ap length s.unit ∙ length-take n (drop size b) ∙ omega (arith, length-drop size b, s.whole) in
    let behind : u ++ rest ≡ drop size b = rw (s.unit, s.rest_is, ← drop-drop n size b) (take-append-drop n (drop size b)) in
    record {
      bytes = sym (rw (l, bytes_back size b fits small (omega (arith, s.whole)), behind) (take-append-drop size b));
      short = rw l (below size b fits small);
    }

pub then_found : (size : ℕ) (f : Front) (next : List ℕ → Units) (units : List (List ℕ)) → then_units f next ≡ Ok units
    → (p : List ℕ × List ℕ) × (more : List (List ℕ)) × (f ≡ Ok p) × (next p.1 ≡ Ok more) × (units ≡ p.0 ∷ more)
then_found size (Err e) next units is = absurd (cc)
then_found size (Ok p) next units is = let h = before_found p.0 (next p.1) units is in (p, h.0, refl, h.1, h.2)

found_in : (f size total nal : ℕ) (b : List ℕ) (units : List (List ℕ)) → IsSize size → ((i : ℕ) → slice_index b i < 256) → length b ≤ f → units_in f size total nal b ≡ Ok units → Nals size units b
unfolding units_in
found_in zero size total nal [] units fits small few e = none_read size units (cc)
found_in zero size total nal (x ∷ xs) units fits small few e = absurd (omega arith)
found_in (suc f) size total nal [] units fits small few e = none_read size units (cc)
found_in (suc f) size total nal (x ∷ xs) units fits small few e =
    let h = then_found size (front_of (PastEnd (total - length (x ∷ xs))) nal size (x ∷ xs)) (λ rest. units_in f size total (nal + 1) rest) units e in
    let one = first (PastEnd (total - length (x ∷ xs))) nal size (x ∷ xs) h.0.0 h.0.1 h.2 in
    let less = shorter size (x ∷ xs) h.0.0 h.0.1 fits one.found in
    let s = split size (x ∷ xs) h.0.0 h.0.1 fits small one.found in
    let r = stands size (x ∷ xs) h.0.0 h.0.1 one.found in
    let rest = found_in f size total (nal + 1) h.0.1 h.1 fits (λ i. rest_small (size + length_at size (x ∷ xs)) (x ∷ xs) h.0.1 r.rest_is small i) (omega arith) h.3 in
    rw h.4 (record {
      bytes = s.bytes ∙ ap (λ (t : List ℕ). bytes_high_first size (length h.0.0) ++ (h.0.0 ++ t)) rest.bytes;
      nals = (one.nal, rest.nals);
      short = (s.short, rest.short);
    })

pub found : (size : ℕ) (b : List ℕ) (units : List (List ℕ)) → IsSize size → ((i : ℕ) → slice_index b i < 256) → nals_of size b ≡ Ok units → Nals size units b
unfolding nals_of
found size b units fits small e = found_in (length b) size (length b) 0 b units fits small (omega arith) e
