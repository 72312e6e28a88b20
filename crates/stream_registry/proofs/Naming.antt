-- A walk over names that looks for one
use Rattle.std.proofs.Common.{◌≡◌, ℕ, ◌+◌, List, slice_get, Some, sym, ◌∙◌, subst, ap, arith, inl, inr}
use Rattle.std.proofs.lemmas.Bool.{cases_eq}
use Rattle.stream_registry.specs.declared.names.Name.{Name}
use Rattle.stream_registry.specs.declared.names.OpenName.{OpenName}
use Rattle.stream_registry.specs.Names.{IsNamed, NoneNamed, NoneOpen}

pub none_more : (names : List Name) (place : ℕ) (m : Name) (app name : List ℕ) → NoneNamed names place app name → slice_get names place ≡ Some m → (IsNamed m app name → ⊥) → NoneNamed names (place + 1) app name
none_more names place m app name none at other q n l here is = elim (cases_eq q place) [
  | inl e ↦ other (subst (λ (x : Name). IsNamed x app name) (same (sym here ∙ (ap (λ k. slice_get names k) e ∙ at))) is)
  | inr d ↦ none q n (omega (arith, l, d)) here is
]
  where
    same : Some n ≡ Some m → n ≡ m
    same e = cc

pub none_open_more : (opens : List OpenName) (table : ℕ) (m : OpenName) (app : List ℕ) → NoneOpen opens table app → slice_get opens table ≡ Some m → (m.app ≡ app → ⊥) → NoneOpen opens (table + 1) app
none_open_more opens table m app none at other q o l here is = elim (cases_eq q table) [
  | inl e ↦ other (subst (λ (x : OpenName). x.app ≡ app) (same (sym here ∙ (ap (λ k. slice_get opens k) e ∙ at))) is)
  | inr d ↦ none q o (omega (arith, l, d)) here is
]
  where
    same : Some o ≡ Some m → o ≡ m
    same e = cc
