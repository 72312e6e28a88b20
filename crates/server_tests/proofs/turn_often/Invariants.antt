use Rattle.std.proofs.Common.{◌≡◌, ◌≤◌}
use Rattle.stream_registry.specs.Names.{places}
use Rattle.relay_session.specs.Places.{AskedAlone, IsAt}
use Rattle.relay_session.specs.SessionState.{StandsFor}
use Rattle.server_tests.specs.Often.{Goes}
use Rattle.server_tests.proofs.turn_often.Given as goal

abbrev pub invariant-loop : goal.invariant-loop
invariant-loop g l = record {
  at : IsAt (g.P.StreamPort.fits l.port) (places (g.P.StreamPort.rules l.port)) l.session.parts l.session.seat;
  fixed : g.P.StreamPort.rules l.port ≡ g.P.StreamPort.rules l.initial.port;
  stands : StandsFor (g.D.Desk.grants l.fn.desk) l.initial.session → StandsFor (g.D.Desk.grants l.fn.desk) l.session;
  few : l.moved ≤ l.counter;
  turns : Goes (AskedAlone g.P.StreamPort.fits g.P.StreamPort.rules g.P.StreamPort.root g.P.StreamPort.seen g.P.StreamPort.count g.P.StreamPort.wants g.P.StreamPort.busies g.P.StreamPort.adds g.P.StreamPort.kin g.P.StreamPort.branches) (g.D.Desk.grants l.fn.desk) g.L.Link.hears g.L.Link.says l.counter
      (record { session = l.initial.session; port = l.initial.port; link = l.initial.link }) l.moved (record { session = l.session; port = l.port; link = l.link });
}
