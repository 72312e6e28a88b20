-- What holds of each value of a slab after a change at one key
use Rattle.std.proofs.Common.{◌≡◌, ◌≢◌, inl, inr, ℕ, Some, None, sym, ap, ◌∙◌, subst}
use Rattle.slab.specs.Slab.{Slab, get, Updates}
use Rattle.relay_worker.proofs.Slabs.{gone_cases, put_cases}

abbrev pub Each : {T : Type 0} → (T → Type 0) → Slab T → Type 0
Each {T} A slab = (key : ℕ) (s : T) → get slab key ≡ Some s → A s

module _ {T : Type 0} (A B : T → Type 0) where
  pub each_put : (old new : Slab T) (key : ℕ) (s' : T) → Updates old new key (Some s') → ((s : T) → A s → B s) → B s' → Each A old → Each B new
  each_put old new key s' u on b was k s at =
      elim (put_cases old new key s' u k s at) [
        | inl e ↦ subst B (sym e.1) b
        | inr d ↦ on s (was k s d.1)
      ]

  pub each_gone : (old new : Slab T) (key : ℕ) → Updates old new key None → ((s : T) → A s → B s) → Each A old → Each B new
  each_gone old new key u on was k s at = on s (was k s (gone_cases old new key u k s at).1)

-- ---- each has a name of its own

module _ {T : Type 0} (who : T → ℕ) where
  abbrev pub Single : Slab T → Type 0
  Single slab = (j k : ℕ) (s u : T) → get slab j ≡ Some s → get slab k ≡ Some u → who s ≡ who u → j ≡ k

  pub single_put : (old new : Slab T) (key : ℕ) (s s' : T) → get old key ≡ Some s → Updates old new key (Some s') → who s' ≡ who s → Single old → Single new
  single_put old new key s s' here u named was i j t x ti xj same =
      elim (put_cases old new key s' u i t ti) [
        | inl e ↦ elim (put_cases old new key s' u j x xj) [
          | inl f ↦ e.0 ∙ sym f.0
          | inr f ↦ e.0 ∙ was key j s x here f.1 (sym named ∙ (ap who (sym e.1) ∙ same))
        ]
        | inr e ↦ elim (put_cases old new key s' u j x xj) [
          | inl f ↦ was i key t s e.1 here (same ∙ (ap who f.1 ∙ named)) ∙ sym f.0
          | inr f ↦ was i j t x e.1 f.1 same
        ]
      ]

  pub single_gone : (old new : Slab T) (key : ℕ) → Updates old new key None → Single old → Single new
  single_gone old new key u was i j t x ti xj same = was i j t x (gone_cases old new key u i t ti).1 (gone_cases old new key u j x xj).1 same

  -- one more, which has another name than each
  pub single_more : (old new : Slab T) (key : ℕ) (s' : T) → Updates old new key (Some s') → Each (λ s. who s ≢ who s') old → Single old → Single new
  single_more old new key s' u unlike was i j t x ti xj same =
      elim (put_cases old new key s' u i t ti) [
        | inl f ↦ elim (put_cases old new key s' u j x xj) [
          | inl h ↦ f.0 ∙ sym h.0
          | inr h ↦ absurd (unlike j x h.1 (sym same ∙ ap who f.1))
        ]
        | inr f ↦ elim (put_cases old new key s' u j x xj) [
          | inl h ↦ absurd (unlike i t f.1 (same ∙ ap who h.1))
          | inr h ↦ was i j t x f.1 h.1 same
        ]
      ]
