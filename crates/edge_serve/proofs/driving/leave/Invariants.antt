use Rattle.std.proofs.Common.{◌≡◌}
use Rattle.relay_session.specs.SeatState.{HasFit, StandsAt}
use Rattle.edge_serve.specs.Coming.{ByCloses, at_port}
use Rattle.edge_serve.proofs.Leaving.{IsLeaving}
use Rattle.edge_serve.proofs.driving.leave.Given as goal

abbrev pub invariant-loop : goal.invariant-loop
invariant-loop g l = record {
  fit : HasFit (g.P.StreamPort.fits l.port) l.edge.seat.spot;
  fixed : g.P.StreamPort.rules l.port ≡ g.P.StreamPort.rules l.fn.port;
  known : StandsAt g.P.StreamPort.rules g.P.StreamPort.root g.P.StreamPort.seen l.fn.port l.fn.edge.seat
      → StandsAt g.P.StreamPort.rules g.P.StreamPort.root g.P.StreamPort.seen l.port l.edge.seat;
  client : l.edge.client ≡ l.fn.edge.client;
  closes : ByCloses g.P.StreamPort.fits g.P.StreamPort.rules g.P.StreamPort.root g.P.StreamPort.seen g.P.StreamPort.count
      g.P.StreamPort.wants g.P.StreamPort.busies g.P.StreamPort.adds g.P.StreamPort.kin g.P.StreamPort.branches (at_port l.fn.edge l.fn.port) (at_port l.edge l.port);
  leaving : IsLeaving l.fn.edge.parts l.fn.edge.seat.active l.fn.edge.seat.visits l.edge;
}
