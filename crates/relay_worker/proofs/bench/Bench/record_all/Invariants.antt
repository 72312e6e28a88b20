use Rattle.std.proofs.Common.{◌≡◌, map}
use Rattle.std.specs.Prelude.{All}
use Rattle.relay_worker.specs.Benches.{AreFiled, IsSound}
use Rattle.relay_worker.specs.Filed.{TakesTurn, Tallies}
use Rattle.relay_worker.specs.Rounds.{RecordsAt, Walks}
use Rattle.relay_worker.specs.Running.{GoesAhead, label_of}
use Rattle.relay_worker.proofs.bench.Bench.record_all.Given as goal

abbrev pub invariant-loop-recorder : goal.invariant-loop-recorder
invariant-loop-recorder g l = record {
  sound : IsSound g.P.StreamPort.fits g.P.StreamPort.rules g.D.Door.told l.terms l.self;
  ahead : GoesAhead g.P.StreamPort.fits g.P.StreamPort.rules g.P.StreamPort.root l.fn.self.port l.self.port;
  filed : AreFiled g.P.StreamPort.fits g.P.StreamPort.rules l.self.port l.recorders;
  labels : map label_of l.recorders ≡ map label_of l.fn.recorders;
  tallies : All (Tallies g.P.StreamPort.count g.K.Sink.holds g.K.Sink.faults) l.fn.recorders → All (Tallies g.P.StreamPort.count g.K.Sink.holds g.K.Sink.faults) l.recorders;
  walk : Walks (RecordsAt (TakesTurn g.P.StreamPort.fits g.P.StreamPort.rules g.P.StreamPort.root g.P.StreamPort.busies g.P.StreamPort.seen g.P.StreamPort.mine g.P.StreamPort.count g.P.StreamPort.adds g.P.StreamPort.kin g.P.StreamPort.branches g.K.Sink.takes g.K.Sink.holds)) l.recorder-index (l.fn.self, l.fn.recorders) (l.self, l.recorders);
}
