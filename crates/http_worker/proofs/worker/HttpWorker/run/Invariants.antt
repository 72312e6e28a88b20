use Rattle.relay_session.specs.Places.{IsOffered}
use Rattle.stream_registry.specs.Names.{places}
use Rattle.http_worker.specs.Books.{HasBooks}
use Rattle.http_worker.specs.Coming.{ByRounds}
use Rattle.http_worker.specs.Running.{KeepsOn}
use Rattle.http_worker.proofs.worker.HttpWorker.run.Given as goal

abbrev pub invariant-loop : goal.invariant-loop
invariant-loop g l = record {
  offered : IsOffered (g.G.Desk.grants l.desk) (places (g.P.StreamPort.rules l.self.bench.port));
  rounds : ByRounds g.P.StreamPort.fits g.P.StreamPort.rules g.P.StreamPort.root g.P.StreamPort.seen g.P.StreamPort.count
      g.P.StreamPort.wants g.P.StreamPort.busies g.P.StreamPort.adds g.P.StreamPort.kin g.P.StreamPort.branches
      g.D.Link.Link.told g.D.Link.Link.counts g.D.Link.Link.hears g.D.Link.Link.says g.D.Link.Link.ready g.D.Door.told
      (g.G.Desk.grants l.desk) l.fn.self l.self;
  keeps : KeepsOn g.P.StreamPort.fits g.P.StreamPort.rules g.P.StreamPort.root l.fn.self l.self;
  books : HasBooks g.P.StreamPort.rules g.P.StreamPort.root g.P.StreamPort.seen g.D.Link.Link.told g.D.Link.Link.counts g.D.Door.told
      (g.G.Desk.grants l.desk) l.fn.self
      → HasBooks g.P.StreamPort.rules g.P.StreamPort.root g.P.StreamPort.seen g.D.Link.Link.told g.D.Link.Link.counts g.D.Door.told (g.G.Desk.grants l.desk)
      l.self;
}
