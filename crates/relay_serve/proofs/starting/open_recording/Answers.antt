use Rattle.relay_serve.specs.Recordings.{recording}
use Rattle.relay_serve.proofs.Enlisting.{enlists_one}
use Rattle.std.proofs.Common.{◌∙◌}
use Rattle.relay_serve.proofs.Naming.{with_one_is}
use Rattle.relay_serve.proofs.starting.open_recording.Goals as goal

pub returns-clause-enlists : goal.returns-clause-enlists
returns-clause-enlists g c =
    enlists_one g.H.File.Sink.holds g.H.File.Sink.faults c.args.worker.now c.enlist.new.self c.in-Ok.recorder (recording c.args.longest c.args.place c.args.form)
    c.in-Ok-enlist.ensures.enlisted c.in-Ok.ensures.label c.in-Ok.ensures.tally

pub returns-clause-named : goal.returns-clause-named
returns-clause-named g c = c.in-Some.ensures.named ∙ with_one_is (g.H.House.named c.args.house.now) c.args.name.now
