use Rattle.std.proofs.Common.{◌≡◌}
use Rattle.stream_tests.proofs.shared.until_made.Given as goal

abbrev pub invariant-loop : goal.invariant-loop
invariant-loop g l = record {
  fits : g.P.StreamPort.fits l.port l.place l.pass;
  rules : g.P.StreamPort.rules l.port ≡ g.P.StreamPort.rules l.initial.port;
}
