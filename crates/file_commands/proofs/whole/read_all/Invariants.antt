use Rattle.std.proofs.Common.{◌≡◌, ◌≤◌, ◌<◌, ◌-◌, ◌^◌, length}
use Rattle.std.specs.Io.KnownBytes.{prepend_known}
use Rattle.file_commands.specs.Outcome.{most_pending}
use Rattle.put_text.specs.Written.{Writes}
use Rattle.file_commands.proofs.whole.read_all.Given as goal

abbrev pub invariant-loop-count : goal.invariant-loop-count
invariant-loop-count g l = record {
  fits : g.C.Convert.fits l.file;
  place : l.place ≡ length (g.C.Convert.fed l.file);
  near : l.place ≤ 2 ^ 36;
  room : 0 < length l.piece;
  read : g.S.Source.left l.fn.input ≡ prepend_known (g.C.Convert.fed l.file) (g.S.Source.left l.input);
  writes : Writes (g.C.Convert.given l.file) l.text (g.K.Sink.holds l.fn.out) (g.K.Sink.holds l.out);
  short : length l.text < most_pending;
  source : g.S.Source.faults l.input ≡ g.S.Source.faults l.fn.input;
  sink : g.K.Sink.faults l.out ≡ g.K.Sink.faults l.fn.out;
}

abbrev pub decreases-loop-count : goal.decreases-loop-count
decreases-loop-count g l = 2 ^ 36 - l.place
