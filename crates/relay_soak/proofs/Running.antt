-- Acts one after another
use Rattle.std.proofs.Common.{◌≡◌, ◌+◌, ℕ, suc, List, [], ◌∷◌, ◌++◌, subst, arith}
use Rattle.relay_replay.specs.Scenes.{SceneState}
use Rattle.relay_soak.specs.Runs.{Act, Runs, unit_acts, units}

-- some acts, and then others
pub runs_both : (xs ys : List Act) (s m t : SceneState) → Runs xs s m → Runs ys m t → Runs (xs ++ ys) s t
runs_both [] ys s m t r q = subst (λ (x : SceneState). Runs ys x t) r q
runs_both (x ∷ xs) ys s m t r q = (r.0, (r.1.0, runs_both xs ys r.0 m t r.1.1 q))

-- a unit more
pub runs_more : (n : ℕ) (s m t : SceneState) → Runs (units n) s m → Runs (unit_acts n) m t → Runs (units (n + 1)) s t
runs_more n s m t r q =
    let one : suc n ≡ n + 1 = omega arith in
    subst (λ (k : ℕ). Runs (units k) s t) one (runs_both (units n) (unit_acts n) s m t r q)
