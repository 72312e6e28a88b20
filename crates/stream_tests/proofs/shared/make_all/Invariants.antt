use Rattle.std.proofs.Common.{◌≡◌}
use Rattle.stream_tests.proofs.shared.make_all.Given as goal

abbrev pub invariant-loop-k : goal.invariant-loop-k
invariant-loop-k g l = record {
  fits : g.P.StreamPort.fits l.port l.place l.pass;
  rules : g.P.StreamPort.rules l.port ≡ g.P.StreamPort.rules l.initial.port;
}
