-- Links that were not used yet.
use Rattle.std.proofs.Common.{◌≡◌, ◌∙◌, List, ℕ, suc, [], ◌∷◌, ◌++◌, refl, sym, subst, All, Bool, true, arith}
use Rattle.relay_outside.specs.MemLinks.{MemLinkState, mem_told}
use Rattle.relay_outside.specs.MemDoors.{IsNewMemLink}

none_first : (xs ys : List ℕ) → xs ++ ys ≡ [] → xs ≡ []
none_first [] ys e = refl
none_first (x ∷ xs) ys e = absurd (cc)

pub nothing_handed : (l : MemLinkState) → IsNewMemLink l → l.handed ≡ []
nothing_handed l new = none_first l.handed l.sent (new.blank (mem_told l) refl).1

some_left : (l : MemLinkState) (ls : List MemLinkState) → l ∷ ls ≡ [] → ⊥
some_left l ls e = cc

-- what is kept of the links of a door when the first is given
pub others_new : (all others : List MemLinkState) (l : MemLinkState) (over : Bool) → all ≡ l ∷ others → All IsNewMemLink all × (over ≡ true → all ≡ [])
    → All IsNewMemLink others × (over ≡ true → others ≡ [])
others_new all others l over is kept = (
  λ k d less. (subst (All IsNewMemLink) is kept.0) (suc k) d (omega (arith, less)),
  λ t. absurd (some_left l others (sym is ∙ kept.1 t)),
)
