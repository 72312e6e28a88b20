use Rattle.std.proofs.Common.{◌≡◌, length}
use Rattle.put_text.proofs.put.put_all.Given as goal
use Rattle.put_text.specs.Written.{Writes}

abbrev pub invariant-loop-left : goal.invariant-loop-left
invariant-loop-left g l = record {
  writes : Writes l.fn.text l.left (g.K.Sink.holds l.fn.out) (g.K.Sink.holds l.out);
  faults : g.K.Sink.faults l.out ≡ g.K.Sink.faults l.fn.out;
}

abbrev pub decreases-loop-left : goal.decreases-loop-left
decreases-loop-left g l = length l.left
