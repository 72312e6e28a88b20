use Rattle.http_worker.specs.Benches.{IsSound}
use Rattle.relay_worker.specs.Rounds.{Walks}
use Rattle.http_worker.specs.Rounds.{ClosesAt}
use Rattle.relay_worker.specs.Running.{GoesAhead}
use Rattle.http_worker.specs.Players.{Closes}
use Rattle.http_worker.proofs.bench.Bench.close_all.Given as goal

abbrev pub invariant-loop-key : goal.invariant-loop-key
invariant-loop-key g l = record {
  sound : IsSound g.P.StreamPort.fits g.P.StreamPort.rules g.D.Door.told l.terms l.self;
  ahead : GoesAhead g.P.StreamPort.fits g.P.StreamPort.rules g.P.StreamPort.root l.fn.self.port l.self.port;
  walk : Walks (ClosesAt g.D.Link.Link.told g.D.Link.Link.counts g.D.Door.told (Closes g.P.StreamPort.fits g.P.StreamPort.rules g.P.StreamPort.root
      g.P.StreamPort.seen g.P.StreamPort.count g.P.StreamPort.wants g.P.StreamPort.busies g.P.StreamPort.adds g.P.StreamPort.kin g.P.StreamPort.branches)) l.key l.fn.self l.self;
}
