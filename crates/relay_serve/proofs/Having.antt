-- Each recording is one of the workers'
use Rattle.std.proofs.Common.{◌≡◌, ◌+◌, ◌<◌, ◌%◌, ℕ, zero, suc, List, [], ◌∷◌, Bool, true, false, Option, None, Some, sym, ap, subst, ◌∙◌, arith, inl, inr}
use Rattle.std.specs.Prelude.{Contains, slice_get, if◌then◌else◌, ◌==◌, ◌≤◌, ◌⊎◌}
use Rattle.std.specs.List.{flat_map, range_with_len}
use Rattle.std.proofs.lemmas.Bool.{cases_lt}
use Rattle.std.proofs.lemmas.Bool.Decides.{nat_tests}
use Rattle.std.proofs.lemmas.List.Elements.{Contains-append_left, Contains-append_right, Contains-push}
use Rattle.std.proofs.lemmas.Nat.{mod_below}
use Rattle.relay_config.specs.declared.config.Config.{Config}
use Rattle.relay_config.specs.declared.config.PlaceRule.{PlaceRule}
use Rattle.relay_worker.specs.Running.{Label}
use Rattle.relay_worker.specs.declared.recorder.RecordingForm.{RecordingForm}
use Rattle.relay_worker.specs.declared.recorder.RecordingForm.TheVariants as form
use Rattle.relay_serve.specs.Recordings.{file_in, own_from, recording, recording_if, recordings_at, recordings_of, recordings_upto}

if_has : (o : Option (List ℕ)) (r : Label) (name : List ℕ) → o ≡ Some name → Contains (recording_if o r) r
if_has o r name e = subst (λ (x : Option (List ℕ)). Contains (recording_if x r) r) (sym e) (Contains-push [] r)

at_has : (longest place : ℕ) (rule : PlaceRule) (f : RecordingForm) (name : List ℕ) → file_in f rule ≡ Some name → Contains (recordings_at longest place rule) (recording longest place f)
at_has longest place rule form.Flv name e =
    Contains-append_left (recording_if rule.flv (recording longest place form.Flv)) (recording_if rule.ts (recording longest place form.Ts)) (recording longest place form.Flv)
    (if_has rule.flv (recording longest place form.Flv) name e)
at_has longest place rule form.Ts name e =
    Contains-append_right (recording_if rule.flv (recording longest place form.Flv)) (recording_if rule.ts (recording longest place form.Ts)) (recording longest place form.Ts)
    (if_has rule.ts (recording longest place form.Ts) name e)

chosen : (b : Bool) (rs : List Label) (r : Label) → b ≡ true → Contains rs r → Contains (if b then rs else []) r
chosen true rs r e c = c
chosen false rs r e c = absurd (let f : false ≡ true = e in cc)

pub same_number : (m n : ℕ) → m ≡ n → (m == n) ≡ true
same_number m n e = grind (arith, nat_tests, e)

own_has : (longest workers worker first i : ℕ) (rules : List PlaceRule) (rule : PlaceRule) (f : RecordingForm) (name : List ℕ) → slice_get rules i ≡ Some rule
    → file_in f rule ≡ Some name → (first + i) % workers ≡ worker → Contains (own_from longest workers worker first rules) (recording longest (first + i) f)
own_has longest workers worker first i [] rule f name at e m = absurd (let g : None ≡ Some rule = at in cc)
own_has longest workers worker first zero (r ∷ rules) rule f name at e m =
    let is : r ≡ rule = let g : Some r ≡ Some rule = at in cc in
    let here : first + 0 ≡ first = omega arith in
    subst (λ (n : ℕ). Contains (own_from longest workers worker first (r ∷ rules)) (recording longest n f)) (sym here)
    (Contains-append_left (if first % workers == worker then recordings_at longest first r else []) (own_from longest workers worker (first + 1) rules) (recording longest first f)
    (chosen (first % workers == worker) (recordings_at longest first r) (recording longest first f)
    (same_number (first % workers) worker (ap (λ (n : ℕ). n % workers) (sym here) ∙ m))
    (at_has longest first r f name (ap (file_in f) is ∙ e))))
own_has longest workers worker first (suc i) (r ∷ rules) rule f name at e m =
    let there : first + suc i ≡ first + 1 + i = omega arith in
    subst (λ (n : ℕ). Contains (own_from longest workers worker first (r ∷ rules)) (recording longest n f)) (sym there)
    (Contains-append_right (if first % workers == worker then recordings_at longest first r else []) (own_from longest workers worker (first + 1) rules) (recording longest (first + 1 + i) f)
    (own_has longest workers worker (first + 1) i rules rule f name at e (ap (λ (n : ℕ). n % workers) (sym there) ∙ m)))

module _ (f : ℕ → List Label) (r : Label) (w : ℕ) where
  flat_by : (a n : ℕ) → Contains (f w) r → Contains (flat_map f (range_with_len (a + 1) n)) r ⊎ (a ≡ w) → Contains (flat_map f (range_with_len a (suc n))) r
  flat_by a n c (inl later) = Contains-append_right (f a) (flat_map f (range_with_len (a + 1) n)) r later
  flat_by a n c (inr e) = Contains-append_left (f a) (flat_map f (range_with_len (a + 1) n)) r (subst (λ (k : ℕ). Contains (f k) r) (sym e) c)

  flat_next : (a n : ℕ) → (a + 1 ≤ w → Contains (flat_map f (range_with_len (a + 1) n)) r) → a ≤ w → (a < w) ⊎ (w ≤ a)
      → Contains (flat_map f (range_with_len (a + 1) n)) r ⊎ (a ≡ w)
  flat_next a n later l (inl less) = inl (later (omega (arith, less)))
  flat_next a n later l (inr more) = inr (omega (arith, l, more))

  flat_has : (a n : ℕ) → a ≤ w → w < a + n → Contains (f w) r → Contains (flat_map f (range_with_len a n)) r
  flat_has a zero l m c = absurd (omega (arith, l, m))
  flat_has a (suc n) l m c = flat_by a n c (flat_next a n (λ k. flat_has (a + 1) n k (omega (arith, m)) c) l (cases_lt a w))

pub has_each : (config : Config) (place : ℕ) (rule : PlaceRule) (f : RecordingForm) (name : List ℕ) → 0 < config.workers → slice_get config.places place ≡ Some rule
    → file_in f rule ≡ Some name → Contains (recordings_upto config config.workers) (recording config.limits.max_message place f)
has_each config place rule f name some at e =
    let w : ℕ = place % config.workers in
    let here : 0 + place ≡ place = omega arith in
    flat_has (recordings_of config) (recording config.limits.max_message place f) w 0 config.workers (omega arith) (omega (arith, mod_below place config.workers some))
    (subst (λ (n : ℕ). Contains (recordings_of config w) (recording config.limits.max_message n f)) here
    (own_has config.limits.max_message config.workers w 0 place config.places rule f name at e (ap (λ (n : ℕ). n % config.workers) here)))
