use Rattle.std.proofs.Common.{◌<◌, ℕ}
use Rattle.stream_registry.specs.Names.{places}
use Rattle.relay_session.specs.SeatState.{HasFit}
use Rattle.server_tests.proofs.seats.walk.Given as goal

abbrev pub invariant-loop-letter : goal.invariant-loop-letter
invariant-loop-letter g l = record {
  fit : HasFit (g.P.StreamPort.fits l.port) l.seat.spot;
  place : 0 < places (g.P.StreamPort.rules l.port);
  passes : (q : ℕ) (p : g.row.P-Pass.Denot) → g.P.StreamPort.fits l.initial.port q p → g.P.StreamPort.fits l.port q p;
}
