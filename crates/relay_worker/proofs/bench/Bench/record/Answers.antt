use Rattle.std.proofs.Common.{refl}
use Rattle.relay_worker.specs.Filed.{state_of}
use Rattle.relay_worker.proofs.Sounding.{ahead_serves, goes_of, sound_same}
use Rattle.relay_worker.proofs.bench.Bench.record.Goals as goal

pub returns-clause-sound : goal.returns-clause-sound
returns-clause-sound g c =
    let b = c.args.self.now in
    let e = c.turn-answer.ensures in
    sound_same g.P.StreamPort.fits g.P.StreamPort.rules g.D.Door.told c.args.terms.now b _ c.requires.sound refl
    (goes_of g.P.StreamPort.fits g.P.StreamPort.rules g.P.StreamPort.root b.port c.turn-answer.new.port
    (ahead_serves g.P.StreamPort.fits g.P.StreamPort.rules g.P.StreamPort.root g.P.StreamPort.busies (state_of c.args.recorder.now).seat.place b.port c.turn-answer.new.port e.port))
    refl c.requires.sound.closed refl

pub returns-clause-ahead : goal.returns-clause-ahead
returns-clause-ahead g c =
    ahead_serves g.P.StreamPort.fits g.P.StreamPort.rules g.P.StreamPort.root g.P.StreamPort.busies (state_of c.args.recorder.now).seat.place c.args.self.now.port c.turn-answer.new.port c.turn-answer.ensures.port
