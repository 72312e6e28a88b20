-- Payloads cut into runs
use Rattle.std.proofs.Common.{◌≡◌, ℕ, zero, suc, ◌+◌, ◌%◌, ◌<◌, ◌≤◌, true, false, List, [], ◌∷◌, ◌++◌, length, take, drop, refl, sym, ap, ◌∙◌, arith, append_assoc, length-drop}
use Rattle.std.proofs.lemmas.List.{append-nil}
use Rattle.pes_packets.specs.Packet.{packet, packets, cuts, silent, counted, pes_text, runs_of, room as room_of}
use Rattle.pes_packets.specs.declared.flags.PesFlags.{PesFlags}

same_cuts : (f g first : ℕ) (b : List ℕ) → 0 < first → length b ≤ f → length b ≤ g → cuts f first b ≡ cuts g first b
unfolding cuts
same_cuts zero zero first b some h k = refl
same_cuts zero (suc g) first [] some h k = refl
same_cuts zero (suc g) first (x ∷ xs) some h k = absurd (omega arith)
same_cuts (suc f) zero first [] some h k = refl
same_cuts (suc f) zero first (x ∷ xs) some h k = absurd (omega arith)
same_cuts (suc f) (suc g) first [] some h k = refl
same_cuts (suc f) (suc g) first (x ∷ xs) some h k =
    let d = length-drop first (x ∷ xs) in
    ap (λ (r : List (List ℕ)). take first (x ∷ xs) ∷ r) (same_cuts f g 184 (drop first (x ∷ xs)) (omega arith) (omega arith) (omega arith))

-- the first run, and the others
pub next_cut : (first : ℕ) (b : List ℕ) → 0 < first → 0 < length b → cuts (length b) first b ≡ take first b ∷ cuts (length (drop first b)) 184 (drop first b)
unfolding cuts
next_cut first [] some h = absurd (omega arith)
next_cut first (x ∷ xs) some h =
    let d = length-drop first (x ∷ xs) in
    ap (λ (r : List (List ℕ)). take first (x ∷ xs) ∷ r) (same_cuts (length xs) (length (drop first (x ∷ xs))) 184 (drop first (x ∷ xs)) (omega arith) (omega arith) (omega arith))

pub no_cut : (first : ℕ) (b : List ℕ) → length b ≡ 0 → cuts (length b) first b ≡ []
unfolding cuts
no_cut first [] e = refl
no_cut first (x ∷ xs) e = absurd (omega arith)

-- where the writing of runs stands
pub record Runs (pid start counter : ℕ) (rest left old out : List ℕ) : Type 0 where
  pub small : counter < 16
  pub text : out ++ packets pid counter false silent (cuts (length left) 184 left) ≡ old ++ packets pid start false silent (cuts (length rest) 184 rest)
  pub count : counted counter (length (cuts (length left) 184 left)) ≡ counted start (length (cuts (length rest) 184 rest))
  pub behind : (more : List ℕ) × (out ≡ old ++ more)

pub runs_more : (pid start counter next : ℕ) (rest left after old out new : List ℕ) → 0 < length left → next ≡ (counter + 1) % 16 → after ≡ drop 184 left
    → new ≡ out ++ packet pid counter false silent (take 184 left) → Runs pid start counter rest left old out → Runs pid start next rest after old new
unfolding packets
runs_more pid start counter next rest left after old out new some n a is r =
    let cut = next_cut 184 left (omega arith) some in
    let p : List ℕ = packet pid counter false silent (take 184 left) in
    let more : List ℕ = packets pid ((counter + 1) % 16) false silent (cuts (length (drop 184 left)) 184 (drop 184 left)) in
    let count_more : counted counter (length (cuts (length left) 184 left)) ≡ counted ((counter + 1) % 16) (length (cuts (length (drop 184 left)) 184 (drop 184 left))) =
    rw cut (omega arith) in
    record {
      small = omega arith;
      text = rw (n, a, is) (append_assoc out p more ∙ (rw cut at r.text));
      count = rw (n, a) (sym count_more ∙ r.count);
      behind = (r.behind.0 ++ p, is ∙ ap (λ (t : List ℕ). t ++ p) r.behind.1 ∙ append_assoc old r.behind.0 p);
    }

pub runs_end : (pid start counter : ℕ) (rest left old out : List ℕ) → length left ≡ 0 → Runs pid start counter rest left old out
    → (out ≡ old ++ packets pid start false silent (cuts (length rest) 184 rest)) × (counter ≡ counted start (length (cuts (length rest) 184 rest)))
unfolding packets
runs_end pid start counter rest left old out e r =
    let none = no_cut 184 left e in
    let small = r.small in
    let c : counter ≡ counted counter 0 = omega arith in
    (sym (append-nil out) ∙ (rw none at r.text), c ∙ (rw none at r.count))

-- the first packet of a PES packet, and the others
pub first_run : (pid counter room : ℕ) (f : PesFlags) (pes left old out : List ℕ) → 0 < room → room ≡ room_of f → 0 < length pes → left ≡ drop room pes
    → out ≡ old ++ packet pid counter true f (take room pes)
    → out ++ packets pid ((counter + 1) % 16) false silent (cuts (length left) 184 left) ≡ old ++ pes_text pid counter f pes
unfolding packets
first_run pid counter room f pes left old out some is n l o =
    rw (l, o, ← is, next_cut room pes some n) (append_assoc old (packet pid counter true f (take room pes)) _)

pub first_count : (counter room n : ℕ) (f : PesFlags) (pes left : List ℕ) → counter < 16 → 0 < room → room ≡ room_of f → 0 < length pes → left ≡ drop room pes
    → n ≡ counted ((counter + 1) % 16) (length (cuts (length left) 184 left)) → n ≡ counted counter (length (runs_of f pes))
first_count counter room n f pes left small some is k l e = e ∙ (rw (l, ← is, next_cut room pes some k) (omega arith))
