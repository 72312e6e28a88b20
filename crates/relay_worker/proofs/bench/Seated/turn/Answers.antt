use Rattle.relay_session.specs.Places.{AskedAlone}
use Rattle.relay_session.specs.SessionState.{life_at}
use Rattle.relay_worker.proofs.Turning.{leaves}
use Rattle.relay_worker.proofs.bench.Seated.turn.Goals as goal

pub returns-clause-turn : goal.returns-clause-turn
returns-clause-turn g c =
    let e = c.turn-answer.ensures in
    let asks = AskedAlone g.P.StreamPort.fits g.P.StreamPort.rules g.P.StreamPort.root g.P.StreamPort.seen g.P.StreamPort.count g.P.StreamPort.wants g.P.StreamPort.busies g.P.StreamPort.adds g.P.StreamPort.kin g.P.StreamPort.branches in
    let l = leaves g.L.Link.told g.L.Link.counts (λ s. s.visits) c.args.self.now.session.quit (g.G.Desk.grants c.args.desk.now) c.decided_law.ensures asks (λ x s place n r y t a. a.asked.makes)
    g.L.Link.hears g.met.L.Link.hears_mean g.L.Link.says g.met.L.Link.says_mean c.args.self.now.session.ended (life_at c.args.self.now.session c.args.port.now) c.args.self.now.link
    c.turn-answer.result (life_at c.turn-answer.new.self c.turn-answer.new.port) c.turn-answer.new.link c.requires.living e.turn in
    record { turn = e.turn; ended = e.ended; quit = e.quit; who = l.firm.who; goes_on = e.goes_on; stands = e.stands; acts = e.acts; calls = e.at.calls }
