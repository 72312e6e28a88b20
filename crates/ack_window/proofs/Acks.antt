-- The acknowledgements that calls are answered are those that are due.
use Rattle.std.proofs.Common.{ℕ, zero, suc, ◌+◌, ◌-◌, ◌%◌, ◌<◌, ◌≤◌, ◌≡◌, ◌≢◌, ◌∙◌, Bool, true, false, cond, eqb, leb, List, [], ◌∷◌, ◌++◌, map, refl, sym, ap, arith, inl, inr, sum}
use Rattle.std.proofs.lemmas.Bool.{cases_lt}
use Rattle.std.proofs.lemmas.Bool.Decides.{nat_tests}
use Rattle.std.proofs.lemmas.List.{map-append}
use Rattle.std.proofs.lemmas.List.Elements.{filter-append, filter_agree}
use Rattle.std.specs.List.{filter, fold, range_with_len}
use Rattle.ack_window.specs.Window.{window_of}
use Rattle.ack_window.specs.Inbound.{new_in, ack_of}
use Rattle.ack_window.specs.InboundRuns.{InCall, Ack, Steps, with_ack, acks_of, taken_by, last_window, window_at, is_due, ack_at, due, multiples}
use Rattle.ack_window.specs.InboundRuns.InCall.{Set, Took}
use Rattle.ack_window.proofs.Ranges.{range_with_len-add, filter_same, filter_none, filter_last}
use Rattle.ack_window.proofs.Places.{next_place, before_place}

-- a byte after the first t is due, where the calls begin after these
abbrev due_after : ℕ → ℕ → List InCall → ℕ → Bool
due_after t window calls byte = eqb (byte % window_at window calls (byte - t)) 0

-- a test of the multiples of a window
abbrev at_place : ℕ → ℕ → Bool
at_place w x = eqb (x % w) 0

-- bytes that don't reach the next place
short_took : (w t n : ℕ) → 0 < w → n < w - t % w → filter (at_place w) (range_with_len (t + 1) n) ≡ []
short_took w t n h short = filter_none (at_place w) (t + 1) n (λ x low high.
    let e : t + (x - t) ≡ x = omega arith in
    let ne : x % w ≢ 0 = rw e at (before_place w t (x - t) h (omega arith) (omega arith)) in
    grind (arith, nat_tests))

-- bytes that end at the next place
full_took : (w t n : ℕ) → 0 < w → suc n ≡ w - t % w → filter (at_place w) (range_with_len (t + 1) (suc n)) ≡ (t + suc n) ∷ []
full_took w t n h full = filter_last (at_place w) (t + 1) n (t + suc n) (omega arith)
    (λ x low high.
    let e : t + (x - t) ≡ x = omega arith in
    let ne : x % w ≢ 0 = rw e at (before_place w t (x - t) h (omega arith) (omega arith)) in
    grind (arith, nat_tests))
    (let e : (t + suc n) % w ≡ 0 = rw full (next_place w t h) in grind (arith, nat_tests))

-- the bytes of one Took, none of which but the last can be due
one_took : (w t n : ℕ) (later : List Ack) → 0 < w → n ≤ w - t % w
    → map ack_at (filter (at_place w) (range_with_len (t + 1) n)) ++ later ≡ with_ack (t + n) (ack_of (record { window = w; taken = t }) n) later
one_took w t zero later h fits =
    let none : eqb zero (w - t % w) ≡ false = grind (arith, nat_tests) in
    rw none refl
one_took w t (suc n) later h fits = elim (cases_lt (suc n) (w - t % w)) [
  | inl short ↦
      let none : eqb (suc n) (w - t % w) ≡ false = grind (arith, nat_tests) in
      rw (short_took w t (suc n) h short, none) refl
  | inr long ↦
      let full : suc n ≡ w - t % w = omega arith in
      let some : eqb (suc n) (w - t % w) ≡ true = grind (arith, nat_tests) in
      rw (full_took w t n h full, some) refl
]

-- the bytes of a Took have the present window, and those after it the windows of the later calls
split_took : (w t n m : ℕ) (calls : List InCall) →
    filter (due_after t w (Took n ∷ calls)) (range_with_len (t + 1) (n + m))
    ≡ filter (at_place w) (range_with_len (t + 1) n) ++ filter (due_after (t + n) w calls) (range_with_len (t + n + 1) m)
split_took w t n m calls =
    let e : t + 1 + n ≡ t + n + 1 = omega arith in
    let front = filter_same (due_after t w (Took n ∷ calls)) (at_place w) (t + 1) n (λ x low high.
    let there : leb (x - t) n ≡ true = grind (arith, nat_tests) in
    rw there refl) in
    let back = filter_same (due_after t w (Took n ∷ calls)) (due_after (t + n) w calls) (t + n + 1) m (λ x low high.
    let past : leb (x - t) n ≡ false = grind (arith, nat_tests) in
    let f : x - t - n ≡ x - (t + n) = omega arith in
    rw (past, f) refl) in
    rw (range_with_len-add (t + 1) n m, e, filter-append, front, back) refl

acks_after : (w t : ℕ) (calls : List InCall) → 0 < w → Steps (record { window = w; taken = t }) calls
    → acks_of (record { window = w; taken = t }) calls ≡ map ack_at (filter (due_after t w calls) (range_with_len (t + 1) (taken_by calls)))
acks_after w t [] h steps = refl
acks_after w t (Set size ∷ calls) h steps = acks_after (window_of size) t calls (omega arith) steps
acks_after w t (Took n ∷ calls) h steps =
    rw (split_took w t n (taken_by calls) calls, map-append)
    (sym (ap (λ (later : List Ack). map ack_at (filter (at_place w) (range_with_len (t + 1) n)) ++ later) (sym (acks_after w (t + n) calls h steps.1))
    ∙ one_took w t n (acks_of (record { window = w; taken = t + n }) calls) h steps.0))

pub acks_are_due : (size : ℕ) (calls : List InCall) → Steps (new_in size) calls → acks_of (new_in size) calls ≡ due (window_of size) calls
acks_are_due size calls steps =
    acks_after (window_of size) 0 calls (omega arith) steps
    ∙ ap (map ack_at) (filter_same (due_after 0 (window_of size) calls) (is_due (window_of size) calls) 1 (taken_by calls) (λ x low high.
    let e : x - 0 ≡ x = omega arith in rw e refl))

pub window_in_effect : (first n byte : ℕ) (before after : List InCall) → taken_by before < byte → byte ≤ taken_by before + n
    → window_at first (before ++ (Took n ∷ after)) byte ≡ last_window first before
window_in_effect first n byte [] after low high =
    let there : leb byte n ≡ true = grind (arith, nat_tests) in
    rw there refl
window_in_effect first n byte (Set size ∷ before) after low high = window_in_effect (window_of size) n byte before after low high
window_in_effect first n byte (Took m ∷ before) after low high =
    let past : leb byte m ≡ false = grind (arith, nat_tests) in
    rw past (window_in_effect first n (byte - m) before after (omega arith) (omega arith))

-- one window is in effect at all bytes where none is set
window_stays : (w : ℕ) (cuts : List ℕ) (byte : ℕ) → window_at w (map Took cuts) byte ≡ w
window_stays w [] byte = refl
window_stays w (n ∷ cuts) byte = elim (leb byte n) as (λ b. cond b w (window_at w (map Took cuts) (byte - n)) ≡ w) [
  | true ↦ refl
  | false ↦ window_stays w cuts (byte - n)
]

sum_after : (m : ℕ) (cuts : List ℕ) → fold ◌+◌ m cuts ≡ m + taken_by (map Took cuts)
sum_after m [] = omega arith
sum_after m (n ∷ cuts) = let rest = sum_after (m + n) cuts in omega arith

taken_by_cuts : (cuts : List ℕ) → taken_by (map Took cuts) ≡ sum cuts
taken_by_cuts cuts = let all = sum_after 0 cuts in omega arith

pub acks_of_cuts : (size : ℕ) (cuts : List ℕ) → Steps (new_in size) (map Took cuts)
    → acks_of (new_in size) (map Took cuts) ≡ multiples (window_of size) (sum cuts)
acks_of_cuts size cuts steps =
    acks_are_due size (map Took cuts) steps
    ∙ ap (λ (n : ℕ). map ack_at (filter (is_due (window_of size) (map Took cuts)) (range_with_len 1 n))) (taken_by_cuts cuts)
    ∙ ap (map ack_at) (filter_agree (is_due (window_of size) (map Took cuts)) (at_place (window_of size)) (λ x. rw (window_stays (window_of size) cuts x) refl) (range_with_len 1 (sum cuts)))
