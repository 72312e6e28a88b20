use Rattle.std.proofs.Common.{◌≡◌, ◌↔◌, IsTrue, ℕ, ◌<◌, get_or}
use Rattle.key_guard.proofs.check.is_same.Given as goal

abbrev pub invariant-loop-i : goal.invariant-loop-i
invariant-loop-i l = IsTrue l.same ↔ ((k : ℕ) → k < l.i → get_or l.kept k 0 ≡ get_or l.asked k 0)
