use Rattle.std.proofs.Common.{◌≡◌, ℕ, None}
use Rattle.client_owed.specs.declared.types.Asked.{Asked}
use Rattle.origin_pull.specs.EdgeState.{StandsFor}
use Rattle.origin_pull.specs.Keeping.{IsAt}
use Rattle.relay_session.specs.SeatState.{StandsAt}
use Rattle.stream_registry.specs.Names.{places}
use Rattle.edge_serve.specs.Coming.{ByTurns, on_link}
use Rattle.edge_serve.specs.Driving.{Drives}
use Rattle.edge_serve.specs.Pulls.{Origin, origin}
use Rattle.edge_serve.proofs.driving.drive.Given as goal

abbrev pub invariant-loop : goal.invariant-loop
invariant-loop g l = record {
  lives : l.edge.ended ≡ None;
  stands : StandsFor l.edge;
  at : IsAt (g.P.StreamPort.fits l.port) (places (g.P.StreamPort.rules l.port)) l.edge.parts l.edge.seat;
  fixed : g.P.StreamPort.rules l.port ≡ g.P.StreamPort.rules l.fn.port;
  known : StandsAt g.P.StreamPort.rules g.P.StreamPort.root g.P.StreamPort.seen l.fn.port l.fn.edge.seat
      → StandsAt g.P.StreamPort.rules g.P.StreamPort.root g.P.StreamPort.seen l.port l.edge.seat;
  turns : ByTurns g.P.StreamPort.fits g.P.StreamPort.rules g.P.StreamPort.root g.P.StreamPort.seen g.P.StreamPort.count
      g.P.StreamPort.wants g.P.StreamPort.busies g.P.StreamPort.adds g.P.StreamPort.kin g.P.StreamPort.branches g.L.Link.hears g.L.Link.says
      (on_link l.fn.edge l.fn.port l.fn.link) (on_link l.edge l.port l.link);
  goes : (k : Asked) (max who place : ℕ) (start : Origin) → Drives k max who place start (origin (g.L.Link.told l.fn.link) (g.L.Link.counts l.fn.link))
      l.fn.edge
      → Drives k max who place start (origin (g.L.Link.told l.link) (g.L.Link.counts l.link)) l.edge;
}
