-- How long parameter sets are beside the record that they stand in
use Rattle.std.proofs.Common.{◌≡◌, ℕ, zero, suc, ◌+◌, ◌-◌, ◌%◌, ◌<◌, ◌≤◌, List, [], ◌∷◌, ◌++◌, length, take, drop, slice_index, Result, Ok, Err, refl, sym, ap, ◌∙◌, subst, inl, inr, ◌*◌, arith, length-take, length-drop, length-append}
use Rattle.avc_annexb.specs.declared.fail.AvcFail.{AvcFail}
use Rattle.avc_annexb.specs.declared.fail.AvcFail.TheVariants.{Short}
use Rattle.avc_annexb.specs.AnnexB.{started, annexb}
use Rattle.avc_annexb.specs.Prefixed.{IsSize, Front, length_at, front_of}
use Rattle.avc_annexb.specs.Record.{Config, IsConfig, Sets, with_sets, then_sets, sets_in, pps_in, with_pps, with_sps, then_sets_of, size_read, record_of}
use Rattle.avc_annexb.proofs.Units.{first, stands}
use Rattle.ts_writer.specs.Held.{lengths, sets_length, IsWithin}

pub front_whole : (missing : AvcFail) (nal size : ℕ) (b u rest : List ℕ) → front_of missing nal size b ≡ Ok (u, rest) → (size + length u + length rest ≤ length b) × (1 ≤ length u)
front_whole missing nal size b u rest e =
    let one = first missing nal size b u rest e in
    let s = stands size b u rest one.found in
    let n : ℕ = length_at size b in
    let k = ap length s.unit ∙ length-take n (drop size b) in
    let l : length rest ≡ length b - (size + n) = ap length s.rest_is ∙ length-drop (size + n) b in
    (omega (arith, k, l, length-drop size b, s.whole), one.nal.some)

pub started_length : (u : List ℕ) (ns : List (List ℕ)) → length (annexb (u ∷ ns)) ≡ 4 + length u + length (annexb ns)
started_length u ns = length-append (started u) (annexb ns) ∙ omega arith

with_found : (q : List ℕ × List ℕ) (s : Sets) (p : List (List ℕ) × List ℕ) → with_sets (q.0 ∷ []) s ≡ Ok p → (r : List (List ℕ) × List ℕ) × (s ≡ Ok r) × (p ≡ (q.0 ∷ r.0, r.1))
with_found q (Err f) p e = absurd (cc)
with_found q (Ok r) p e = (r, refl, cc)

then_found : (f : Front) (next : List ℕ → Sets) (p : List (List ℕ) × List ℕ) → then_sets f next ≡ Ok p
    → (q : List ℕ × List ℕ) × (r : List (List ℕ) × List ℕ) × (f ≡ Ok q) × (next q.1 ≡ Ok r) × (p ≡ (q.0 ∷ r.0, r.1))
then_found (Err f) next p e = absurd (cc)
then_found (Ok q) next p e = let h = with_found q (next q.1) p e in (q, h.0, refl, h.1, h.2)

-- sets, and what is behind them, beside the bytes that they were read of
record AreWithin (b : List ℕ) (p : List (List ℕ) × List ℕ) : Type 0 where
  kept : lengths p.0 + length p.1 ≤ length b
  text : 3 * length (annexb p.0) + 5 * length p.1 ≤ 5 * length b

none_within : (b : List ℕ) → AreWithin b ([], b)
none_within b = record { kept = omega arith; text = omega arith }

one_within : (b u rest : List ℕ) (units : List (List ℕ)) (more : List ℕ) → 2 + length u + length rest ≤ length b → 1 ≤ length u → AreWithin rest (units, more) → AreWithin b (u ∷ units, more)
one_within b u rest units more whole some w = record { kept = omega (arith, w.kept); text = omega (arith, w.text, started_length u units) }

sets_within : (count total nal : ℕ) (b : List ℕ) (p : List (List ℕ) × List ℕ) → sets_in count total nal b ≡ Ok p → AreWithin b p
unfolding sets_in
sets_within zero total nal b p e = let h : ([], b) ≡ p = cc in subst (AreWithin b) h (none_within b)
sets_within (suc count) total nal b p e =
    let h = then_found (front_of (Short total) nal 2 b) (λ rest. sets_in count total (nal + 1) rest) p e in
    let one = front_whole (Short total) nal 2 b h.0.0 h.0.1 h.2 in
    let more = sets_within count total (nal + 1) h.0.1 h.1 h.3 in
    subst (AreWithin b) (sym h.4) (one_within b h.0.0 h.0.1 h.1.0 h.1.1 one.0 one.1 more)

pps_by : (count : ℕ) (rest : List ℕ) (p : List (List ℕ) × List ℕ) → AreWithin rest p → AreWithin (count ∷ rest) p
pps_by count rest p w = record { kept = omega (arith, w.kept); text = omega (arith, w.text) }

pps_within : (total nal : ℕ) (b : List ℕ) (p : List (List ℕ) × List ℕ) → pps_in total nal b ≡ Ok p → AreWithin b p
pps_within total nal [] p e = absurd (cc)
pps_within total nal (count ∷ rest) p e = pps_by count rest p (sets_within count total nal rest p e)

pps_found : (size : ℕ) (sps : List (List ℕ)) (s : Sets) (c : Config) → with_pps size sps s ≡ Ok c → (q : List (List ℕ) × List ℕ) × (s ≡ Ok q) × (sps ≡ c.sps) × (q.0 ≡ c.pps)
pps_found size sps (Err f) c e = absurd (cc)
pps_found size sps (Ok q) c e =
    let h : record { size = size; sps = sps; pps = q.0 } ≡ c = cc in
    (q, refl, ap (λ (x : Config). x.sps) h, ap (λ (x : Config). x.pps) h)

both_within : (b rest : List ℕ) (p q : List (List ℕ) × List ℕ) (c : Config) → 1 ≤ c.size → p.0 ≡ c.sps → q.0 ≡ c.pps → AreWithin b p → p.1 ≡ rest → AreWithin rest q → IsWithin (length b) c
both_within b rest p q c some e f v g w =
    let k = ap lengths e in
    let l = ap lengths f in
    let m = ap (λ (t : List (List ℕ)). length (annexb t)) e in
    let n = ap (λ (t : List (List ℕ)). length (annexb t)) f in
    let r = ap length g in
    record { size = some; kept = omega (arith, v.kept, w.kept, k, l, r); text = omega (arith, v.text, w.text, m, n, r) }

sps_within : (size total : ℕ) (b : List ℕ) (s : Sets) (c : Config) → with_sps size total s ≡ Ok c → 1 ≤ c.size → ((p : List (List ℕ) × List ℕ) → s ≡ Ok p → AreWithin b p) → IsWithin (length b) c
sps_within size total b (Err f) c e some most = absurd (cc)
sps_within size total b (Ok p) c e some most =
    let h = pps_found size p.0 (pps_in total (length p.0) p.1) c e in
    both_within b p.1 p h.0 c some h.2 h.3 (most p refl) refl (pps_within total (length p.0) p.1 h.0 h.1)

pub within_more : (m n : ℕ) (c : Config) → m ≤ n → IsWithin m c → IsWithin n c
within_more m n c h w = record { size = w.size; kept = omega (arith, w.kept); text = omega (arith, w.text) }

record_by : (b : List ℕ) (r : Result ℕ AvcFail) (c : Config) → then_sets_of b r ≡ Ok c → 1 ≤ c.size → IsWithin (length b) c
record_by b (Err f) c e some = absurd (cc)
record_by b (Ok size) c e some =
    within_more (length (drop 6 b)) (length b) c (omega (arith, length-drop 6 b))
    (sps_within size (length b) (drop 6 b) (sets_in (slice_index b 5 % 32) (length b) 0 (drop 6 b)) c e some
    (λ p h. sets_within (slice_index b 5 % 32) (length b) 0 (drop 6 b) p h))

some_size : (size : ℕ) → IsSize size → 1 ≤ size
some_size size fits = elim fits [ inl e ↦ omega arith | inr f ↦ elim f [ inl e ↦ omega arith | inr e ↦ omega arith ] ]

pub record_within : (b : List ℕ) (c : Config) → record_of b ≡ Ok c → IsConfig c → IsWithin (length b) c
unfolding record_of
record_within b c e fits = record_by b (size_read b) c e (some_size c.size fits.size)
