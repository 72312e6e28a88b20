use Rattle.std.proofs.Common.{inl, refl}
use Rattle.media_recorder.specs.Turns.{is_empty}
use Rattle.media_recorder.proofs.Joining.{works_join}
use Rattle.media_recorder.proofs.Longest.{works_leave}
use Rattle.media_recorder.proofs.Saying.{works_say}
use Rattle.media_recorder.proofs.Tying.{works_tally, works_tie}
use Rattle.media_recorder.proofs.recorder.Recorder.turn.Goals as goal

pub returns-in-None-clause-says : goal.returns-in-None-clause-says
returns-in-None-clause-says g c =
    let P = g.P.StreamPort in
    works_say P.rules P.root P.busies P.seen P.mine P.count g.K.Sink.takes c.args.port.now c.work.new.port c.args.sink.now c.work.new.sink c.args.self.now c.work.result c.work.new.self
    (is_empty c.args.self.now.tape.pending) refl c.work.ensures.works

pub returns-in-None-clause-took : goal.returns-in-None-clause-took
returns-in-None-clause-took g c =
    let P = g.P.StreamPort in
    works_tie P.rules P.root P.busies P.seen P.mine P.count g.K.Sink.takes g.K.Sink.holds g.K.Sink.faults g.met.K.Sink.takes_mean (is_empty c.args.self.now.tape.pending)
    c.args.port.now c.work.new.port c.args.sink.now c.work.new.sink c.args.self.now c.work.result c.work.new.self refl c.work.ensures.works

pub returns-in-None-clause-tallies : goal.returns-in-None-clause-tallies
returns-in-None-clause-tallies g c =
    let P = g.P.StreamPort in
    works_tally P.rules P.root P.busies P.seen P.mine P.count g.K.Sink.takes g.K.Sink.holds g.K.Sink.faults g.met.K.Sink.takes_mean (is_empty c.args.self.now.tape.pending)
    c.args.port.now c.work.new.port c.args.sink.now c.work.new.sink c.args.self.now c.work.result c.work.new.self refl c.work.ensures.works

pub returns-in-None-clause-longest : goal.returns-in-None-clause-longest
returns-in-None-clause-longest g c =
    let P = g.P.StreamPort in
    works_leave P.rules P.root P.busies P.seen P.mine P.count g.K.Sink.takes (is_empty c.args.self.now.tape.pending) c.args.port.now c.work.new.port c.args.sink.now c.work.new.sink c.args.self.now c.work.result c.work.new.self c.work.ensures.works

pub returns-in-None-clause-from : goal.returns-in-None-clause-from
returns-in-None-clause-from g c =
    let P = g.P.StreamPort in
    works_join P.rules P.root P.busies P.seen P.mine P.count g.K.Sink.takes (is_empty c.args.self.now.tape.pending) c.args.port.now c.work.new.port c.args.sink.now c.work.new.sink c.args.self.now c.work.result c.work.new.self c.work.ensures.works

pub returns-in-Some-clause-alone : goal.returns-in-Some-clause-alone
returns-in-Some-clause-alone g c = inl (refl, refl)
