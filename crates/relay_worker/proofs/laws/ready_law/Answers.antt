use Rattle.relay_session.specs.Onward.{GoesOn}
use Rattle.relay_session.specs.Places.{AskedAlone}
use Rattle.relay_worker.specs.Sessions.{TakesTurn}
use Rattle.relay_worker.proofs.Sounding.{turns_always}
use Rattle.relay_worker.proofs.laws.ready_law.Goals as goal

pub returns : goal.returns
returns g c = λ always desk.
    let asks = AskedAlone g.P.StreamPort.fits g.P.StreamPort.rules g.P.StreamPort.root g.P.StreamPort.seen g.P.StreamPort.count g.P.StreamPort.wants g.P.StreamPort.busies g.P.StreamPort.adds g.P.StreamPort.kin g.P.StreamPort.branches in
    let goes = GoesOn g.P.StreamPort.fits g.P.StreamPort.rules g.P.StreamPort.root g.P.StreamPort.seen g.P.StreamPort.busies in
    turns_always (TakesTurn asks goes desk g.D.Link.Link.hears g.D.Link.Link.says) g.P.StreamPort.busies g.D.Link.Link.ready always
