use Rattle.std.proofs.Common.{◌≡◌, ◌+◌, length}
use Rattle.chunk_writer.specs.Rule.{last_on}
use Rattle.chunk_writer.specs.Sound.{place}
use Rattle.chunk_writer.proofs.lasts.find.Given as goal

abbrev pub invariant-loop-left : goal.invariant-loop-left
invariant-loop-left l =
    (last_on l.fn.id l.fn.lasts ≡ last_on l.fn.id l.left) × (l.i + place l.fn.id l.left ≡ place l.fn.id l.fn.lasts)
    × (l.i + length l.left ≡ length l.fn.lasts)

abbrev pub decreases-loop-left : goal.decreases-loop-left
decreases-loop-left l = length l.left
