-- What a slab has after a change at one key
use Rattle.std.proofs.Common.{◌≡◌, ◌≢◌, ◌⊎◌, inl, inr, ℕ, ◌<◌, ◌≤◌, length, Option, Some, None, is_some, IsSome, cond, refl, sym, ap, ◌∙◌, subst, arith}
use Rattle.std.proofs.lemmas.Bool.{cases_eq}
use Rattle.std.proofs.lemmas.List.{get_or_past}
use Rattle.std.proofs.lemmas.List.Sums.{sum_by-set}
use Rattle.slab.specs.Slab.{Slab, get, slab_len, with_value, Updates}
use Rattle.slab.proofs.SlabLemmas.{ContainsKey-within, Updates-with_value}

module _ {T : Type 0} where
  pub is_there : (s : Slab T) (key : ℕ) (u : T) → get s key ≡ Some u → IsSome (get s key)
  is_there s key u at = subst (λ (o : Option T). IsSome o) (sym at) refl

  pub within : (s : Slab T) (key : ℕ) (u : T) → get s key ≡ Some u → key < length s.slots
  within s key u at = ContainsKey-within s key (is_there s key u at)

  -- a write through a key with a value
  pub put_updates : (s : Slab T) (key : ℕ) (u v : T) → get s key ≡ Some u → Updates s (with_value s key v) key (Some v)
  put_updates s key u v at = Updates-with_value s key v (is_there s key u at)

  pub put_len : (s : Slab T) (key : ℕ) (u v : T) → get s key ≡ Some u → slab_len (with_value s key v) ≡ slab_len s
  put_len s key u v at =
      let f : Option T → ℕ = λ o. cond (is_some o) 1 0 in
      let one : f (get s key) ≡ 1 = ap f at in
      omega (arith, sum_by-set f s.slots key (Some v) None (within s key u at), one)

  pub put_cases : (old new : Slab T) (key : ℕ) (s' : T) → Updates old new key (Some s') → (j : ℕ) (t : T) → get new j ≡ Some t → ((j ≡ key) × (t ≡ s')) ⊎ ((j ≢ key) × (get old j ≡ Some t))
  put_cases old new key s' u j t at =
      elim (cases_eq j key) [
        | inl e ↦ inl (e, (let n : Some t ≡ Some s' = sym at ∙ (ap (get new) e ∙ u.changed) in cc))
        | inr d ↦ inr (d, sym (u.others j d) ∙ at)
      ]

  pub gone_cases : (old new : Slab T) (key : ℕ) → Updates old new key None → (j : ℕ) (t : T) → get new j ≡ Some t → (j ≢ key) × (get old j ≡ Some t)
  gone_cases old new key u j t at =
      elim (cases_eq j key) [
        | inl e ↦ absurd (let n : None ≡ Some t = sym u.changed ∙ (ap (get new) (sym e) ∙ at) in cc)
        | inr d ↦ (d, sym (u.others j d) ∙ at)
      ]

  -- out and in again at the same key
  pub again : (old mid new : Slab T) (key key' : ℕ) (s' : T) → Updates old mid key None → key' ≡ key → Updates mid new key' (Some s') → Updates old new key (Some s')
  again old mid new key key' s' u k v = record {
    changed = ap (get new) (sym k) ∙ v.changed;
    others = λ j d. v.others j (λ e. d (e ∙ k)) ∙ u.others j d;
  }

  -- no value stands past the slots
  pub past_end : (s : Slab T) (end : ℕ) → length s.slots ≤ end → (key : ℕ) → end ≤ key → get s key ≡ None
  past_end s end le key far = search (arith, get_or_past)
