use Rattle.std.proofs.Common.{◌≡◌, map, true}
use Rattle.std.specs.Prelude.{All}
use Rattle.relay_worker.specs.Benches.{AreFiled, IsSound}
use Rattle.relay_worker.specs.Filed.{Tallies, is_ready}
use Rattle.relay_worker.specs.Running.{GoesAhead, IsReadied, label_of}
use Rattle.relay_worker.proofs.Numbered.{FirstAre}
use Rattle.relay_worker.proofs.bench.Bench.ready_all.Given as goal

abbrev pub invariant-loop-recorder : goal.invariant-loop-recorder
invariant-loop-recorder g l = record {
  sound : IsSound g.P.StreamPort.fits g.P.StreamPort.rules g.D.Door.told l.terms l.self;
  ahead : GoesAhead g.P.StreamPort.fits g.P.StreamPort.rules g.P.StreamPort.root l.fn.self.port l.self.port;
  filed : AreFiled g.P.StreamPort.fits g.P.StreamPort.rules l.self.port l.recorders;
  labels : map label_of l.recorders ≡ map label_of l.fn.recorders;
  tallies : All (Tallies g.P.StreamPort.count g.K.Sink.holds g.K.Sink.faults) l.fn.recorders → All (Tallies g.P.StreamPort.count g.K.Sink.holds g.K.Sink.faults) l.recorders;
  ready : FirstAre (λ r. is_ready r ≡ true) l.recorder-index l.recorders;
  readied : IsReadied l.fn.self l.self;
}
