use Rattle.std.proofs.Common.{◌≡◌, length}
use Rattle.relay_worker.specs.Benches.{IsFiled}
use Rattle.relay_worker.specs.Filed.{Tallies}
use Rattle.relay_worker.specs.Running.{GoesAhead, label_of}
use Rattle.relay_worker.proofs.recorder.Recorder.ready.Given as goal

abbrev pub invariant-loop : goal.invariant-loop
invariant-loop g l = record {
  filed : IsFiled (g.P.StreamPort.fits l.port) (length (g.P.StreamPort.rules l.port).names) l.self;
  label : label_of l.self ≡ label_of l.fn.self;
  ahead : GoesAhead g.P.StreamPort.fits g.P.StreamPort.rules g.P.StreamPort.root l.fn.port l.port;
  tallies : Tallies g.P.StreamPort.count g.K.Sink.holds g.K.Sink.faults l.fn.self → Tallies g.P.StreamPort.count g.K.Sink.holds g.K.Sink.faults l.self;
}
