use Rattle.std.proofs.Common.{◌≡◌, ◌<◌, length}
use Rattle.media_recorder.specs.Ports.{FitsIf}
use Rattle.media_tests.proofs.recorders.run.Given as goal

abbrev pub invariant-loop-letter : goal.invariant-loop-letter
invariant-loop-letter g l = record {
  there : 0 < length (g.P.StreamPort.rules l.port).names;
  place : l.recorder.seat.place ≡ 0;
  pass : g.P.StreamPort.fits l.port 0 l.pass;
  fits : FitsIf (g.P.StreamPort.fits l.port 0) l.recorder.seat.pass;
}
