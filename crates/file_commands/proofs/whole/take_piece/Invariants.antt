use Rattle.std.proofs.Common.{◌≡◌, ◌<◌, ◌++◌, ℕ, List, Option, length}
use Rattle.file_commands.specs.Outcome.{most_pending}
use Rattle.put_text.specs.Written.{Writes}
use Rattle.file_commands.proofs.whole.take_piece.Given as goal

abbrev pub invariant-loop-left : goal.invariant-loop-left
invariant-loop-left g l = record {
  fits : g.C.Convert.fits l.file;
  fed : g.C.Convert.fed l.file ++ l.left ≡ g.C.Convert.fed l.fn.file ++ l.fn.piece;
  goes : (before : Option (List ℕ)) → Writes (g.C.Convert.given l.fn.file) l.fn.text before (g.K.Sink.holds l.fn.out)
      → Writes (g.C.Convert.given l.file) l.text before (g.K.Sink.holds l.out);
  short : length l.fn.text < most_pending → length l.text < most_pending;
  faults : g.K.Sink.faults l.out ≡ g.K.Sink.faults l.fn.out;
}

abbrev pub decreases-loop-left : goal.decreases-loop-left
decreases-loop-left g l = length l.left
