use Rattle.relay_bench.proofs.ports.make_all.Given as goal

abbrev pub invariant-loop : goal.invariant-loop
invariant-loop g l = g.P.StreamPort.fits l.port l.place l.pass
