-- Parameter sets, one after another
use Rattle.std.proofs.Common.{◌≡◌, ℕ, suc, ◌+◌, ◌-◌, ◌%◌, ◌<◌, ◌≤◌, List, [], ◌∷◌, ◌++◌, length, drop, slice_index, Ok, Err, refl, sym, ap, ◌∙◌, arith, append_assoc, length-append}
use Rattle.std.proofs.lemmas.List.{append-nil}
use Rattle.avc_annexb.specs.declared.fail.AvcFail.{AvcFail}
use Rattle.avc_annexb.specs.declared.fail.AvcFail.TheVariants.{Short}
use Rattle.avc_annexb.specs.Nal.{AreNals}
use Rattle.avc_annexb.specs.Prefixed.{front_of}
use Rattle.avc_annexb.specs.Record.{Sets, with_sets, sets_in, size_read, record_of}
use Rattle.avc_annexb.proofs.Units.{first, nals_more}

with_more : (units : List (List ℕ)) (u : List ℕ) (r : Sets) → with_sets units (with_sets (u ∷ []) r) ≡ with_sets (units ++ u ∷ []) r
with_more units u (Ok p) = ap (λ (t : List (List ℕ)). Ok (t, p.1)) (sym (append_assoc units (u ∷ []) p.0))
with_more units u (Err e) = refl

with_none : (r : Sets) → with_sets [] r ≡ r
with_none (Ok p) = refl
with_none (Err e) = refl

pub one_more : (count total nal : ℕ) (left u rest : List ℕ) → front_of (Short total) nal 2 left ≡ Ok (u, rest) → sets_in (suc count) total nal left ≡ with_sets (u ∷ []) (sets_in count total (nal + 1) rest)
unfolding sets_in
one_more count total nal left u rest e = rw e refl

none_more : (count total nal : ℕ) (left : List ℕ) (f : AvcFail) → front_of (Short total) nal 2 left ≡ Err f → sets_in (suc count) total nal left ≡ Err f
unfolding sets_in
none_more count total nal left f e = rw e refl

pub no_more : (total nal : ℕ) (left : List ℕ) → sets_in 0 total nal left ≡ Ok ([], left)
unfolding sets_in
no_more total nal left = refl

-- the sets so far, and those that are left, are all
pub record Counts (count total nal counter : ℕ) (bytes left : List ℕ) (units : List (List ℕ)) : Type 0 where
  pub many : length units ≡ counter
  pub nals : AreNals units
  pub read : with_sets units (sets_in (count - counter) total (nal + length units) left) ≡ sets_in count total nal bytes

pub counts_more : (count total nal counter n : ℕ) (bytes left u rest : List ℕ) (units more : List (List ℕ)) → counter < count → n ≡ nal + length units
    → front_of (Short total) n 2 left ≡ Ok (u, rest) → more ≡ units ++ u ∷ [] → Counts count total nal counter bytes left units → Counts count total nal (counter + 1) bytes rest more
counts_more count total nal counter n bytes left u rest units more lt at e is w =
    let one = first (Short total) n 2 left u rest e in
    let m : length more ≡ length units + 1 = ap length is ∙ length-append units (u ∷ []) ∙ omega arith in
    let k : count - counter ≡ suc (count - (counter + 1)) = omega arith in
    let go : sets_in (count - counter) total (nal + length units) left ≡ with_sets (u ∷ []) (sets_in (count - (counter + 1)) total (nal + length units + 1) rest) =
    rw (k, ← at) (one_more (count - (counter + 1)) total n left u rest e) in
    let z : nal + length more ≡ nal + length units + 1 = omega arith in
    record {
      many = m ∙ ap (λ x. x + 1) w.many;
      nals = rw is (nals_more units u w.nals one.nal);
      read = rw (z, is) (sym (with_more units u (sets_in (count - (counter + 1)) total (nal + length units + 1) rest)) ∙ ap (with_sets units) (sym go) ∙ w.read);
    }

pub counts_refused : (count total nal counter n : ℕ) (bytes left : List ℕ) (units : List (List ℕ)) (f : AvcFail) → counter < count → n ≡ nal + length units
    → front_of (Short total) n 2 left ≡ Err f → Counts count total nal counter bytes left units → sets_in count total nal bytes ≡ Err f
counts_refused count total nal counter n bytes left units f lt at e w =
    let k : count - counter ≡ suc (count - (counter + 1)) = omega arith in
    let go : sets_in (count - counter) total (nal + length units) left ≡ Err f = rw (k, ← at) (none_more (count - (counter + 1)) total n left f e) in
    sym w.read ∙ ap (with_sets units) go

pub counts_ended : (count total nal counter : ℕ) (bytes left : List ℕ) (units : List (List ℕ)) → count ≤ counter → Counts count total nal counter bytes left units → sets_in count total nal bytes ≡ Ok (units, left)
counts_ended count total nal counter bytes left units le w =
    let z : count - counter ≡ 0 = omega arith in
    let go : sets_in (count - counter) total (nal + length units) left ≡ Ok ([], left) = rw z (no_more total (nal + length units) left) in
    sym w.read ∙ ap (with_sets units) go ∙ ap (λ (t : List (List ℕ)). Ok (t, left)) (append-nil units)

-- the whole record
pub size_stops : (b : List ℕ) (f : AvcFail) → size_read b ≡ Err f → record_of b ≡ Err f
unfolding record_of
size_stops b f e = rw e refl

pub sps_stop : (b rest : List ℕ) (size count : ℕ) (f : AvcFail) → size_read b ≡ Ok size → count ≡ slice_index b 5 % 32 → rest ≡ drop 6 b → sets_in count (length b) 0 rest ≡ Err f → record_of b ≡ Err f
unfolding record_of
sps_stop b rest size count f e n r s = rw (e, ← n, ← r, s) refl

pub pps_none : (b rest after : List ℕ) (size count : ℕ) (sps : List (List ℕ)) → size_read b ≡ Ok size → count ≡ slice_index b 5 % 32 → rest ≡ drop 6 b
    → sets_in count (length b) 0 rest ≡ Ok (sps, after) → length after ≡ 0 → record_of b ≡ Err (Short (length b))
unfolding record_of
pps_none b rest [] size count sps e n r s z = rw (e, ← n, ← r, s) refl
pps_none b rest (x ∷ xs) size count sps e n r s z = absurd (omega arith)

pub pps_stop : (b rest after last : List ℕ) (size count : ℕ) (sps : List (List ℕ)) (f : AvcFail) → size_read b ≡ Ok size → count ≡ slice_index b 5 % 32 → rest ≡ drop 6 b
    → sets_in count (length b) 0 rest ≡ Ok (sps, after) → 1 ≤ length after → last ≡ drop 1 after → sets_in (slice_index after 0) (length b) (length sps) last ≡ Err f → record_of b ≡ Err f
unfolding record_of
pps_stop b rest [] last size count sps f e n r s some l p = absurd (omega arith)
pps_stop b rest (many ∷ after) last size count sps f e n r s some l p = rw (e, ← n, ← r, s) (rw (← l, p) refl)

pub whole : (b rest after last more : List ℕ) (size count : ℕ) (sps pps : List (List ℕ)) → size_read b ≡ Ok size → count ≡ slice_index b 5 % 32 → rest ≡ drop 6 b
    → sets_in count (length b) 0 rest ≡ Ok (sps, after) → 1 ≤ length after → last ≡ drop 1 after → sets_in (slice_index after 0) (length b) (length sps) last ≡ Ok (pps, more)
    → record_of b ≡ Ok (record { size = size; sps = sps; pps = pps })
unfolding record_of
whole b rest [] last more size count sps pps e n r s some l p = absurd (omega arith)
whole b rest (many ∷ after) last more size count sps pps e n r s some l p = rw (e, ← n, ← r, s) (rw (← l, p) refl)
