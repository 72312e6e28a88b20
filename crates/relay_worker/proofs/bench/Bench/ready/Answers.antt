use Rattle.std.proofs.Common.{refl}
use Rattle.relay_worker.proofs.Sounding.{goes_of, or_not, sound_same}
use Rattle.relay_worker.proofs.bench.Bench.ready.Goals as goal

pub returns-clause-sound : goal.returns-clause-sound
returns-clause-sound g c =
    let b = c.args.self.now in
    sound_same g.P.StreamPort.fits g.P.StreamPort.rules g.D.Door.told c.args.terms.now b _ c.requires.sound refl
    (goes_of g.P.StreamPort.fits g.P.StreamPort.rules g.P.StreamPort.root b.port c.ready-answer.new.port c.ready-answer.ensures.ahead)
    refl c.requires.sound.closed refl

pub returns-clause-readied : goal.returns-clause-readied
returns-clause-readied g c = record { same = refl; refused = λ r. or_not c.args.self.now.refused c.is_starved.result r }
