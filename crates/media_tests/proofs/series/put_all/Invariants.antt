use Rattle.std.proofs.Common.{length}
use Rattle.media_tests.proofs.series.put_all.Given as goal

abbrev pub decreases-loop-left : goal.decreases-loop-left
decreases-loop-left l = length l.left
