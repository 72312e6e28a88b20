use Rattle.relay_worker.specs.declared.recorder.RecordingForm.TheVariants as form
use Rattle.relay_serve.specs.Recordings.{names_if, recording, recording_if}
use Rattle.relay_serve.proofs.Enlisting.{enlists_then}
use Rattle.relay_serve.proofs.Naming.{named_then}
use Rattle.relay_serve.proofs.starting.open_place.Goals as goal

pub returns-clause-enlists : goal.returns-clause-enlists
returns-clause-enlists g c =
    enlists_then g.H.File.Sink.holds g.H.File.Sink.faults (recording_if c.args.rule.now.flv (recording c.args.longest c.args.place form.Flv))
    (recording_if c.args.rule.now.ts (recording c.args.longest c.args.place form.Ts)) c.args.worker.now c.open_if.new.worker c.open_if-2.new.worker
    c.in_ok-open_if.ensures.enlists c.in_ok-open_if-2.ensures.enlists

pub returns-clause-named : goal.returns-clause-named
returns-clause-named g c =
    named_then (g.H.House.named c.args.house.now) (g.H.House.named c.open_if.new.house) (g.H.House.named c.open_if-2.new.house) (names_if c.args.rule.now.flv) (names_if c.args.rule.now.ts)
    c.in_ok-open_if.ensures.named c.in_ok-open_if-2.ensures.named
