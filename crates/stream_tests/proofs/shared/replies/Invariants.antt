use Rattle.std.proofs.Common.{◌≡◌}
use Rattle.stream_tests.proofs.shared.replies.Given as goal

abbrev pub invariant-loop-letter : goal.invariant-loop-letter
invariant-loop-letter g l = record {
  fits : g.P.StreamPort.fits l.port l.place l.pass;
  rules : g.P.StreamPort.rules l.port ≡ g.P.StreamPort.rules l.initial.port;
}
