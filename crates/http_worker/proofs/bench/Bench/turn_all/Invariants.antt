use Rattle.relay_session.specs.Places.{IsOffered}
use Rattle.stream_registry.specs.Names.{places}
use Rattle.http_worker.specs.Benches.{IsSound}
use Rattle.relay_worker.specs.Rounds.{Walks}
use Rattle.http_worker.specs.Rounds.{TurnsAt}
use Rattle.relay_worker.specs.Running.{GoesAhead}
use Rattle.http_worker.specs.Players.{TakesTurn}
use Rattle.http_worker.proofs.bench.Bench.turn_all.Given as goal

abbrev pub invariant-loop-key : goal.invariant-loop-key
invariant-loop-key g l = record {
  sound : IsSound g.P.StreamPort.fits g.P.StreamPort.rules g.D.Door.told l.terms l.self;
  ahead : GoesAhead g.P.StreamPort.fits g.P.StreamPort.rules g.P.StreamPort.root l.fn.self.port l.self.port;
  offered : IsOffered (g.G.Desk.grants l.desk) (places (g.P.StreamPort.rules l.self.port));
  walk : Walks (TurnsAt (TakesTurn g.P.StreamPort.fits g.P.StreamPort.rules g.P.StreamPort.root g.P.StreamPort.seen g.P.StreamPort.count
      g.P.StreamPort.wants g.P.StreamPort.busies g.P.StreamPort.adds g.P.StreamPort.kin g.P.StreamPort.branches (g.G.Desk.grants l.desk) g.D.Link.Link.counts g.D.Link.Link.hears g.D.Link.Link.says)
      g.P.StreamPort.busies g.D.Link.Link.ready) l.key l.fn.self l.self;
}
