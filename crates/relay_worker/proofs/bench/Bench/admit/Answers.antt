use Rattle.std.proofs.Common.{None, ap, false, refl, rules, true}
use Rattle.relay_worker.proofs.Sounding.{sound_more}
use Rattle.relay_worker.proofs.bench.Bench.admit.Goals as goal

pub returns-in-Link-clause-sound : goal.returns-in-Link-clause-sound
returns-in-Link-clause-sound g c =
    let i = c.insert_reserved.ensures in
    let k = c.in-Link.ensures.knock in
    sound_more g.P.StreamPort.fits g.P.StreamPort.rules g.D.Door.told c.args.terms.now c.args.self.now _ c.insert_reserved.result (record { session = c.new-session.result; link = c.in-Link.link; over = false; asked = None; due = true; stream = None; pushes = 0 }) c.requires.sound
    (search rules) (search rules) (search rules) refl i.updates i.len i.capacity refl (ap (λ d. d.given) k.1) (ap (λ d. d.closed) k.1) refl refl
