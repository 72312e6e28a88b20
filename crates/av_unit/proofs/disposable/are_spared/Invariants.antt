use Rattle.std.proofs.Common.{◌≡◌, length, ℕ, false}
use Rattle.av_unit.specs.Disposable.{firsts_of, spares}
use Rattle.av_unit.proofs.Spared.{spares_after}
use Rattle.av_unit.proofs.disposable.are_spared.Given as goal

abbrev pub invariant-loop-first : goal.invariant-loop-first
invariant-loop-first l = spares (firsts_of l.size l.units) ≡ spares_after l.slices (firsts_of l.size l.left)

abbrev pub decreases-loop-first : goal.decreases-loop-first
decreases-loop-first l = length l.left
