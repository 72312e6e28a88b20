use Rattle.std.proofs.Common.{refl}
use Rattle.config_desk.specs.Grants.{granted_from}
use Rattle.relay_serve.proofs.Serves.{serves}
use Rattle.relay_serve.proofs.starting.open_worker.Goals as goal

pub returns-clause-serving : goal.returns-clause-serving
returns-clause-serving g c =
    let desk = granted_from 0 c.args.config.now.places c.args.config.now.opens in
    serves c.args.config.now g.H.Door.Link.Link.told g.H.Door.Link.Link.counts g.H.Door.Door.told g.H.File.Sink.holds g.H.File.Sink.faults c.args.number
    c.in-Ok.worker c.open_own.new.worker (record { number = c.args.number; links = c.args.config.now.links; limits = c.args.config.now.limits })
    refl refl refl c.in-Ok.ensures.terms c.in-Ok.ensures.none.1 (c.in-Ok.ensures.books desk) c.in_ok-open_own.ensures.enlists
