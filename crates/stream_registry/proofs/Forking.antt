-- Ports that are split off from a first one
use Rattle.std.proofs.Common.{◌≡◌, ℕ, ◌+◌, List, [], ◌∷◌, ◌++◌, length, All, refl, ap, ◌∙◌, arith}
use Rattle.std.proofs.lemmas.List.Elements.{All-weaker}
use Rattle.turn_gate.specs.declared.view.Branch.{Branch}
use Rattle.turn_gate.specs.Branches.{branch, trunk, cut_off, offshoot}
use Rattle.stream_registry.specs.Roots.{kin_at}
use Rattle.stream_registry.specs.Splits.{cut_times}
use Rattle.stream_registry.specs.SharedState.{Streams, IsFork, IsAsBefore, HasKin, AreSplit}
use Rattle.stream_registry.proofs.Rooting.{unlearned_same, unlearned_then}

pub cut_none : (kin : List Branch) → kin ≡ cut_times 0 kin
cut_none [] = refl
cut_none (b ∷ bs) = ap (λ n. branch b.depth n ∷ bs) (omega arith)

cut_more : (n : ℕ) (kin : List Branch) → cut_off (cut_times n kin) ≡ cut_times (n + 1) kin
cut_more n [] = refl
cut_more n (b ∷ bs) = ap (λ m. branch b.depth m ∷ bs) (omega arith)

shoot_same : (n : ℕ) (kin : List Branch) → offshoot (cut_times n kin) ≡ offshoot kin
shoot_same n [] = refl
shoot_same n (b ∷ bs) = refl

pub as_before : (s p : Streams) → p ≡ s → IsAsBefore s p
as_before s p e = (ap (λ (x : Streams). x.names) e, ap (λ (x : Streams). x.opens) e, unlearned_same s.roots p.roots (ap (λ (x : Streams). x.roots) e), ap (λ (x : Streams). x.busies) e)

pub before_then : (s p t : Streams) → IsAsBefore s p → IsAsBefore p t → IsAsBefore s t
before_then s p t a b = (b.0 ∙ a.0, b.1 ∙ a.1, unlearned_then s.roots p.roots t.roots a.2 b.2, b.3 ∙ a.3)

-- a port that was split off from one that was so often split before
pub fork_of : (s p t : Streams) (n : ℕ) → IsAsBefore s p → ((q : ℕ) → kin_at p.roots q ≡ cut_times n (kin_at s.roots q)) → IsFork p t → IsFork s t
fork_of s p t n a k f = (f.0 ∙ a.0, f.1 ∙ a.1, unlearned_then s.roots p.roots t.roots a.2 f.2, f.3, λ q. f.4 q ∙ (ap offshoot (k q) ∙ shoot_same n (kin_at s.roots q)))

pub kin_more : (s p t : Streams) (n : ℕ) → ((q : ℕ) → kin_at p.roots q ≡ cut_times n (kin_at s.roots q)) → ((q : ℕ) → kin_at t.roots q ≡ cut_off (kin_at p.roots q))
    → (q : ℕ) → kin_at t.roots q ≡ cut_times (n + 1) (kin_at s.roots q)
kin_more s p t n a b q = b q ∙ (ap cut_off (a q) ∙ cut_more n (kin_at s.roots q))

-- the first one comes last
pub all_split : (first first' : Streams) (list ports : List Streams) (n k : ℕ) → HasKin n trunk first → All (IsFork first) list → length list ≡ k → ((q : ℕ) → kin_at first'.roots q ≡ cut_times k (kin_at first.roots q)) → ports ≡ list ++ first' ∷ [] → AreSplit n ports
all_split first first' list ports n k new forks count kin are = record {
  others = list;
  last = first';
  are = are;
  each = All-weaker (IsFork first) (HasKin n (branch 1 0 ∷ [])) (λ p f q l. f.4 q ∙ ap offshoot (new q l)) list forks;
  last_is = λ q l. kin q ∙ (ap (cut_times k) (new q l) ∙ ap (λ m. branch 0 m ∷ []) (omega (arith, count)));
}
