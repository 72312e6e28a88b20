-- What a link gave and took, one step after the other
use Rattle.std.proofs.Common.{◌≡◌, ℕ, List, [], ◌++◌, length, drop, Option, Some, None, refl, sym, ap, ◌∙◌, subst, append_assoc, append-nil}
use Rattle.std.proofs.lemmas.List.{take-append-drop}
use Rattle.std.specs.Option.{option_map}
use Rattle.relay_outside.specs.Told.{AreFirstLeft, LinkCounts, LinkTold, with_given, with_taken}
use Rattle.client_command.specs.Traffic.{HasPassed, IsCalm, Passed}

pub passed_given : (b : List ℕ) (t t' : Option LinkTold) → AreFirstLeft b t → t' ≡ option_map (with_given b) t → Passed b [] t t'
passed_given b None t' f e = subst (Passed b [] None) (sym e) tt
passed_given b (Some t) t' f e =
    let h : HasPassed b [] t (with_given b t) =
    record { left = sym (take-append-drop (length b) t.left) ∙ ap (λ (l : List ℕ). l ++ drop (length b) t.left) (sym f); gave = refl; took = sym (append-nil t.took) } in
    subst (Passed b [] (Some t)) (sym e) h

pub passed_taken : (s : List ℕ) (t t' : Option LinkTold) → t' ≡ option_map (with_taken s) t → Passed [] s t t'
passed_taken s None t' e = subst (Passed [] s None) (sym e) tt
passed_taken s (Some t) t' e =
    let h : HasPassed [] s t (with_taken s t) = record { left = refl; gave = sym (append-nil t.gave); took = refl } in
    subst (Passed [] s (Some t)) (sym e) h

passed_here : (t : Option LinkTold) → Passed [] [] t t
passed_here None = tt
passed_here (Some t) = record { left = refl; gave = sym (append-nil t.gave); took = sym (append-nil t.took) }

pub passed_same : (t t' : Option LinkTold) → t' ≡ t → Passed [] [] t t'
passed_same t t' e = subst (Passed [] [] t) (sym e) (passed_here t)

pub passed_then : (a b x y : List ℕ) (t u v : Option LinkTold) → Passed a x t u → Passed b y u v → Passed (a ++ b) (x ++ y) t v
passed_then a b x y None None None p q = tt
passed_then a b x y None None (Some v) p q = absurd q
passed_then a b x y None (Some u) v p q = absurd p
passed_then a b x y (Some t) None v p q = absurd p
passed_then a b x y (Some t) (Some u) None p q = absurd q
passed_then a b x y (Some t) (Some u) (Some v) p q = record {
  left = p.left ∙ ap (λ (l : List ℕ). a ++ l) q.left ∙ sym (append_assoc a b v.left);
  gave = q.gave ∙ ap (λ (l : List ℕ). l ++ b) p.gave ∙ append_assoc t.gave a b;
  took = q.took ∙ ap (λ (l : List ℕ). l ++ y) p.took ∙ append_assoc t.took x y;
}

pub passed_as : (a a' x x' : List ℕ) (t u : Option LinkTold) → a ≡ a' → x ≡ x' → Passed a x t u → Passed a' x' t u
passed_as a a' x x' t u e f p = subst (λ (l : List ℕ). Passed a' l t u) f (subst (λ (l : List ℕ). Passed l x t u) e p)

pub calm_here : (n : LinkCounts) → IsCalm n n
calm_here n = record { faults = refl; ends = refl }

pub calm_then : (n m o : LinkCounts) → IsCalm n m → IsCalm m o → IsCalm n o
calm_then n m o p q = record { faults = q.faults ∙ p.faults; ends = q.ends ∙ p.ends }
