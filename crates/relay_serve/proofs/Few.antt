-- There are as many recordings as a configuration names
use Rattle.std.proofs.Common.{◌≡◌, ◌≢◌, ◌+◌, ◌<◌, ◌%◌, ℕ, zero, suc, List, [], ◌∷◌, ◌++◌, length, length-append, Bool, true, false, Option, None, Some, is_some, cond, refl, arith, inl, inr}
use Rattle.std.specs.Prelude.{if◌then◌else◌, ◌==◌, ◌≤◌, ◌⊎◌}
use Rattle.std.specs.List.{flat_map, range_with_len}
use Rattle.std.proofs.lemmas.Bool.{cases_lt}
use Rattle.std.proofs.lemmas.Bool.Decides.{nat_tests}
use Rattle.std.proofs.lemmas.List.Sums.{sum_by-cons}
use Rattle.std.proofs.lemmas.Nat.{mod_below}
use Rattle.relay_config.specs.Sum.{recorders_of}
use Rattle.relay_config.specs.declared.config.Config.{Config}
use Rattle.relay_config.specs.declared.config.PlaceRule.{PlaceRule}
use Rattle.relay_worker.specs.Running.{Label}
use Rattle.relay_worker.specs.declared.recorder.RecordingForm.TheVariants as form
use Rattle.relay_serve.proofs.Having.{same_number}
use Rattle.relay_serve.specs.Recordings.{own_from, recording, recording_if, recordings_at, recordings_upto}

chosen_all : (b : Bool) (rs : List Label) → b ≡ true → length (if b then rs else []) ≡ length rs
chosen_all true rs e = refl
chosen_all false rs e = absurd (let f : false ≡ true = e in cc)

chosen_none : (b : Bool) (rs : List Label) → b ≡ false → length (if b then rs else []) ≡ 0
chosen_none true rs e = absurd (let f : true ≡ false = e in cc)
chosen_none false rs e = refl

other_number : (m n : ℕ) → m ≢ n → (m == n) ≡ false
other_number m n e = grind (arith, nat_tests, e)

-- those of a place are one worker's
module _ (rs : List Label) (m : ℕ) where
  abbrev here : ℕ → List Label
  here w = if m == w then rs else []

  none_here : (n a : ℕ) → m < a → length (flat_map here (range_with_len a n)) ≡ 0
  none_here zero a l = refl
  none_here (suc n) a l =
      let first = chosen_none (m == a) rs (other_number m a (λ e. omega (arith, l, e))) in
      let later = none_here n (a + 1) (omega (arith, l)) in
      omega (arith, length-append (here a) (flat_map here (range_with_len (a + 1) n)), first, later)

  one_by : (n a : ℕ) → (a + 1 ≤ m → length (flat_map here (range_with_len (a + 1) n)) ≡ length rs) → a ≤ m → (a < m) ⊎ (m ≤ a) → length (flat_map here (range_with_len a (suc n))) ≡ length rs
  one_by n a next l (inl less) =
      let first = chosen_none (m == a) rs (other_number m a (λ e. omega (arith, less, e))) in
      let later = next (omega (arith, less)) in
      omega (arith, length-append (here a) (flat_map here (range_with_len (a + 1) n)), first, later)
  one_by n a next l (inr more) =
      let first = chosen_all (m == a) rs (same_number m a (omega (arith, l, more))) in
      let later = none_here n (a + 1) (omega (arith, more)) in
      omega (arith, length-append (here a) (flat_map here (range_with_len (a + 1) n)), first, later)

  one_here : (n a : ℕ) → a ≤ m → m < a + n → length (flat_map here (range_with_len a n)) ≡ length rs
  one_here zero a l k = absurd (omega (arith, l, k))
  one_here (suc n) a l k = one_by n a (λ less. one_here n (a + 1) less (omega (arith, k))) l (cases_lt a m)

module _ (longest workers : ℕ) where
  abbrev own : ℕ → List PlaceRule → ℕ → List Label
  own place rules w = own_from longest workers w place rules

  none_own : (place : ℕ) (ws : List ℕ) → length (flat_map (own place []) ws) ≡ 0
  none_own place [] = refl
  none_own place (w ∷ ws) = none_own place ws

  own_more : (place : ℕ) (rule : PlaceRule) (rules : List PlaceRule) (ws : List ℕ) → length (flat_map (own place (rule ∷ rules)) ws)
      ≡ length (flat_map (here (recordings_at longest place rule) (place % workers)) ws) + length (flat_map (own (place + 1) rules) ws)
  own_more place rule rules [] = refl
  own_more place rule rules (w ∷ ws) =
      let h = here (recordings_at longest place rule) (place % workers) in
      let o = own (place + 1) rules in
      omega (
        arith,
        length-append (h w ++ o w) (flat_map (own place (rule ∷ rules)) ws),
        length-append (h w) (o w),
        length-append (h w) (flat_map h ws),
        length-append (o w) (flat_map o ws),
        own_more place rule rules ws,
      )

  if_one : (o : Option (List ℕ)) (r : Label) → length (recording_if o r) ≡ cond (is_some o) 1 0
  if_one None r = refl
  if_one (Some name) r = refl

  of_rule : (place : ℕ) (rule : PlaceRule) (rules : List PlaceRule) → length (recordings_at longest place rule) + recorders_of rules ≡ recorders_of (rule ∷ rules)
  of_rule place rule rules =
      omega (
        arith,
        length-append (recording_if rule.flv (recording longest place form.Flv)) (recording_if rule.ts (recording longest place form.Ts)),
        if_one rule.flv (recording longest place form.Flv),
        if_one rule.ts (recording longest place form.Ts),
        sum_by-cons (λ (p : PlaceRule). cond (is_some p.flv) 1 0) rule rules,
        sum_by-cons (λ (p : PlaceRule). cond (is_some p.ts) 1 0) rule rules,
      )

  own_all : 0 < workers → (place : ℕ) (rules : List PlaceRule) → length (flat_map (own place rules) (range_with_len 0 workers)) ≡ recorders_of rules
  own_all some place [] = none_own place (range_with_len 0 workers)
  own_all some place (rule ∷ rules) =
      omega (
        arith,
        own_more place rule rules (range_with_len 0 workers),
        one_here (recordings_at longest place rule) (place % workers) workers 0 (omega arith) (omega (arith, mod_below place workers some)),
        own_all some (place + 1) rules,
        of_rule place rule rules,
      )

pub as_many : (config : Config) → 0 < config.workers → length (recordings_upto config config.workers) ≡ recorders_of config.places
as_many config some = own_all config.limits.max_message config.workers some 0 config.places
